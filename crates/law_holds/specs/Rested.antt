-- What holds of a window's clusters at rest, in the words of the law. Assumes nothing.
use Rattle.std.specs.Prelude.{ℕ, ◌<◌, ◌≡◌, refl, Bool, true, false, ◌&&◌, not}
use Rattle.std.proofs.Common.{sym, ◌∙◌, ap, subst, eqb-true, eq-eqb}
use Rattle.refusal.specs.Laws.{undone}
use Rattle.shape.proofs.Ranges.{halves, both}
use Rattle.shape.specs.Sizes.{boundary}
use Rattle.steps.specs.Steps.{Table}
use Rattle.window.specs.Window.{size, at, place, detector}
use Rattle.window.specs.declared.Window.{Window}
use Rattle.steps.specs.Suited.{Suited}
use Rattle.closure.specs.Facts.{facts}
use Rattle.closure.specs.Closure.{Kept}
use Rattle.law.specs.Law.{Joined, alone, IsRoot, Leads, arrived, along, Cluster, Rested}
use Rattle.law_holds.specs.Graph.{Graph, graph, view, Chain, here, via, Connected, same, Home, Calm}
use Rattle.law_holds.specs.GraphLaws.{laws}

-- no defect on a boundary: a node with a defect is hot
hot-is : (b x : Bool) → not (b && x) ≡ true → (not b && x) ≡ x
hot-is true true e = absurd (undone (sym e))
hot-is true false e = refl
hot-is false x e = refl

-- one walk after another
onward : (g : Graph) {v u r : ℕ} → Connected g v u → Connected g u r → Connected g v r
onward g same c = c
onward g (Connected.over o a) c = Connected.over o (onward g a c)

pub joined : (T : Table) (w : Window) {v u : ℕ} → Connected (graph T w) v u → Joined T w v u
joined T w same = alone
joined T w (Connected.over o c) =
    let e = halves _ _ o in
    Joined.over (record { there = e.0; halves = eqb-true _ _ e.1 }) (joined T w c)

module _ (T : Table) (S : Suited T) (w : Window) (kept : Kept T w) (calm : Calm (graph T w) (view w)) where
  connected : {v u : ℕ} → v < size w → Joined T w v u → Connected (graph T w) v u × (u < size w)
  connected l alone = (same, l)
  connected l (Joined.over {g = v} {p = p} e j) =
      let o = both _ _ e.there (eq-eqb _ 2 e.halves) in
      let r = connected ((laws T w S kept).within v p l o) j in
      (Connected.over o r.0, r.1)

  leads : {v r : ℕ} → v < size w → Chain (graph T w) (view w) v r → Leads T w v r
  leads l (here e) = arrived e
  leads l (via {v = v} n c) =
      let o = (calm v l).opn n in
      along (halves _ _ o).0 (leads ((laws T w S kept).within v _ l o) c)

  hot : (v : ℕ) → v < size w → (detector w v && (at w v).defect) ≡ (at w v).defect
  hot v l = hot-is (boundary w.shape.distance (place w v).column) (at w v).defect ((facts T w kept.formed).nodes v l).defect

  module _ (v : ℕ) (l : v < size w) where
    abbrev home : Home (graph T w) (view w) v
    home = calm v l

    -- all of a cluster have one root
    one-root : (u : ℕ) (m : u < size w) → Connected (graph T w) v u → (calm u m).root ≡ home.root
    one-root u m c = home.only (calm u m).root (onward (graph T w) c (calm u m).joined) (calm u m).centre

    pointers : (u : ℕ) → Joined T w v u → Leads T w u home.root
    pointers u j =
        let c = connected l j in
        subst (λ (r : ℕ). Leads T w u r) (one-root u c.1 c.0) (leads c.1 (calm u c.1).chain)

    active : (u : ℕ) → Joined T w v u → (at w u).active ≡ (at w home.root).defect
    active u j =
        let c = connected l j in
        (calm u c.1).active
        ∙ hot (calm u c.1).root (calm u c.1).inside
        ∙ ap (λ (r : ℕ). (at w r).defect) (one-root u c.1 c.0)

    cluster : Cluster T w v
    cluster =
        record {
          root = home.root;
          member = joined T w home.joined;
          is_root = home.centre;
          only = λ u j e. home.only u (connected l j).0 e;
          lowest = λ u j. home.least u (connected l j).0;
          pointers = pointers;
          active = active;
        }

    defects : (at w v).defect ≡ true → IsRoot T w v × (detector w v ≡ true)
    defects e = let x = hot v l ∙ e in (home.defect x, (halves _ _ x).0)

  pub calm-rested : Rested T w
  calm-rested = record { clusters = cluster; defects = defects }
