-- The graph of a well-formed window obeys the laws of graphs. Assumes nothing.
use Rattle.std.specs.Prelude.{ℕ, ◌<◌, ◌≡◌, eqb, get_or}
use Rattle.std.proofs.Common.{sym, ◌∙◌, ap}
use Rattle.shape.specs.Ranges.{Ranged}
use Rattle.shape.proofs.Ranges.{halves, both}
use Rattle.shape.specs.Nodes.{index_of, number_of}
use Rattle.shape.proofs.LawsIndex.{index-place}
use Rattle.shape.proofs.LawsNumber.{number-injective}
use Rattle.steps.specs.Steps.{Table}
use Rattle.shape.specs.declared.Place.{Place}
use Rattle.window.specs.Window.{size, place, to}
use Rattle.window.specs.declared.Window.{Window}
use Rattle.steps.specs.Suited.{Suited}
use Rattle.closure.specs.Facts.{facts, numbered-at, node-within}
use Rattle.closure.specs.Closure.{Kept}
use Rattle.closure.specs.Ways.{direction, there_back, node-back, slot_same}
use Rattle.law_holds.specs.Graph.{Laws, graph}

module _ (T : Table) (w : Window) where
  abbrev h : ℕ
  h = w.shape.height

  abbrev d : ℕ
  d = w.shape.distance

  numbers_apart : Ranged h d → (v u : ℕ) → v < size w → u < size w → number_of h d (place w v) ≡ number_of h d (place w u) → v ≡ u
  numbers_apart r v u l m e =
      sym (index-place h d v)
      ∙ ap (λ (x : Place). index_of h d x) (number-injective h d r.d2 (place w v) (place w u) (numbered-at h d r v l) (numbered-at h d r u m) e)
      ∙ index-place h d u

  pub laws : Suited T → Kept T w → Laws (graph T w)
  laws S kept =
      let r = (facts T w kept.formed).ranged in
      record {
        within = λ v p l o. node-within T w r p v (halves _ _ o).0;
        dir = λ v p l o. direction T w v p (halves _ _ o).0;
        back-opn = λ v p l o.
            let e = halves (to w T p v).there _ o in
            both _ _ (there_back T w v p e.0 S) (ap (λ (i : ℕ). eqb (get_or w.growth i 0) 2) (slot_same T w v p e.0 S) ∙ e.1);
        back-nb = λ v p l o. node-back T w v p (halves (to w T p v).there _ o).0 S;
        num-inj = numbers_apart r;
      }
