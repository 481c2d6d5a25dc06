-- ARRAYS THAT SHOW A WINDOW: each node, mark and edge written as a number at its entry. Assumes nothing.
use Rattle.std.specs.Prelude.{ℕ, ◌+◌, ◌<◌, ◌≡◌, true, false, List, get_or}
use Rattle.std.proofs.Common.{arith, ◌∙◌, ap, subst, ltb-true}
use Rattle.shape.specs.Choice.{whether}
use Rattle.shape.proofs.LawsIndex.{numbers-le}
use Rattle.shape.specs.Sizes.{sheets_of, nodes_in}
use Rattle.steps.specs.Steps.{Table, namer, slot_in}
use Rattle.window.specs.Formed.{mark_fits}
use Rattle.window.specs.Window.{size, at, to}
use Rattle.window.specs.declared.Mark.{Mark}
use Rattle.window.specs.declared.Mark.TheVariants.{Root}
use Rattle.window.specs.declared.Window.{Window}
use Rattle.closure.specs.Closure.{Kept}
use Rattle.closure.specs.Facts.{Facts, facts}
use Rattle.flat.specs.Codes.{reset_code, growth_of, correction_of}
use Rattle.flat.specs.Entries.{state_of}
use Rattle.flat.specs.LawsCodes.{node-back, edge-growth, edge-correction}
use Rattle.shows.specs.Shows.{held, Shows}
use Rattle.shows.specs.Written.{Written}

module _ (T : Table) (w : Window) (k : Kept T w) (nodes marks edges : List ℕ) (A : Written T w nodes marks edges) where
  abbrev F : Facts T w
  F = facts T w k.formed

  mark-low : (g : ℕ) → g < size w → (m : ℕ) → (at w g).mark ≡ Root m → m < reset_code
  mark-low g l m e =
      let n = nodes_in w.shape.height w.shape.distance (sheets_of w.shape.distance + 1) in
      let f : mark_fits w.stage n (Root m) ≡ true = subst (λ (v : Mark). mark_fits w.stage n v ≡ true) e (F.nodes g l).mark in
      let a = ltb-true m n f in
      let b = numbers-le w.shape.height w.shape.distance F.ranged in
      omega arith

  held_low : (kind g : ℕ) → kind < T.kinds → g < size w → held T w kind g < 4
  held_low kind g m l =
      let s = (F.slots g kind l m).most in
      whether (to w T (namer T kind) g).there (λ t. rw t (omega arith)) (λ t. rw t (omega arith))

  pub written-shows : Shows T w (state_of nodes marks edges)
  written-shows =
      record {
        nodes = λ g l.
            let a = A.node g l in
            let b = A.mark g l in
            rw (a, b) (node-back (at w g) (mark-low g l));
        growth = λ kind g m l. ap growth_of (A.edge kind g m l) ∙ edge-growth (held T w kind g) (get_or w.correction (slot_in (size w) kind g) false) (held_low kind g m l);
        margins = A.margins;
        correction = λ kind g m l. ap correction_of (A.edge kind g m l) ∙ edge-correction (held T w kind g) (get_or w.correction (slot_in (size w) kind g) false) (held_low kind g m l);
      }
