-- A FRESH WINDOW: no sheet is there, so no edge is; pointers ride, and every node is quiet. Assumes nothing.
use Rattle.std.specs.Prelude.{ℕ, ◌+◌, ◌<◌, ◌≡◌, refl, Bool, true, ◌&&◌, length, get_or}
use Rattle.std.proofs.Common.{arith, ◌∙◌}
use Rattle.std.proofs.Math.Path.{sym, ap}
use Rattle.std.proofs.Math.Bool.{false}
use Rattle.refusal.specs.Laws.{undone}
use Rattle.shape.specs.Choice.{if}
use Rattle.shape.proofs.LawsIndex.{numbers-le, nodes-max}
use Rattle.shape.specs.Nodes.{number_of}
use Rattle.shape.proofs.Ranges.{ranged}
use Rattle.shape.specs.Sizes.{in_range, nodes_of}
use Rattle.shape.specs.declared.Shape.{Shape}
use Rattle.steps.specs.Steps.{Table, namer, slot_in}
use Rattle.window.specs.Fresh.{slots_of, fresh_window}
use Rattle.window.specs.Lists.{by_place}
use Rattle.window.specs.LawsLists.{and_no, get_or-same}
use Rattle.window.specs.Merging.{nothing, synced_active, stepped, seen, step_at}
use Rattle.window.specs.Window.{alone, size, at, place, detector, to}
use Rattle.window.specs.declared.Mark.TheVariants.{Root}
use Rattle.window.specs.declared.Node.{Node}
use Rattle.window.specs.declared.Seen.{Seen}
use Rattle.window.specs.declared.Window.{Window}
use Rattle.closure.specs.After.{fresh_at}
use Rattle.closure.specs.Edges.{edge-absent}
use Rattle.closure.specs.Facts.{own-lt}
use Rattle.closure.specs.Sight.{seen_none}
use Rattle.flat.specs.Codes.{mark_of, no_edge}
use Rattle.flat.specs.Entries.{State, entry}
use Rattle.flat.specs.Plan.{Plan}
use Rattle.shows.specs.Planned.{Planned}
use Rattle.shows.specs.Shows.{Shows}
use Rattle.shows.specs.Riding.{Riding}
use Rattle.shows.specs.Quiet.{settled, AllQuiet}
use Rattle.shows.proofs.Calm.{step-calm}
use Rattle.shows.proofs.Read.{node-within-entry}
use Rattle.shows.proofs.Same.{mark-number}
use Rattle.shows.specs.Fresh.{Blank}

-- a cluster of its own that sees nothing stays as it is
alone-still : (f : ℕ → Seen) (K own : ℕ) (det : Bool) (n : Node) (m : ℕ) → n ≡ alone m false → ((j : ℕ) → f j ≡ nothing) → stepped own det n (by_place K f) ≡ settled n
unfolding synced_active
alone-still f K own det n m e none =
    rw e
    (step-calm f K own det (alone m false) m refl (λ j t. absurd (undone (sym t ∙ ap (λ (s : Seen). s.grown) (none j))))
    (and_no (det && false) false refl) (and_no det false refl) (λ j. ap (λ (s : Seen). s.pushes) (none j)))

module _ (T : Table) (sh : Shape) where
  abbrev w : Window
  w = fresh_window T sh

  none-there : (p g : ℕ) → (to w T p g).there ≡ false
  unfolding fresh_window
  none-there p g = edge-absent T sh.height sh.distance _ p (place w g) (omega arith)

  pub fresh-riding : Riding T (fresh_window T sh)
  unfolding fresh_window
  fresh-riding g l n = absurd (n (ap (λ (y : Node). y.pointer) (fresh_at T sh g l)))

  fresh-still : (g : ℕ) → g < size w → step_at T w g ≡ settled (at w g)
  unfolding step_at fresh_window
  fresh-still g l =
      alone-still (seen T w g) (length T.steps) (number_of sh.height sh.distance (place w g)) (detector w g) (at w g) (number_of sh.height sh.distance (place w g)) (fresh_at T sh g l)
      (λ j. seen_none T w g j (none-there (j + 1) g))

  pub fresh-quiet : AllQuiet T (fresh_window T sh)
  fresh-quiet g l = record { still = fresh-still g l; bits = λ p e. absurd (undone (sym e ∙ none-there p g)) }

  module _ (e : in_range sh.height sh.distance ≡ true) (P : Plan) (N : Planned T sh.height sh.distance P) (st : State) (A : Blank P (nodes_of sh.height sh.distance) st) where
    pub fresh-shows : Shows T (fresh_window T sh) st
    unfolding fresh_window
    fresh-shows =
        let n = nodes_of sh.height sh.distance in
        record {
          nodes = λ g l.
              let x = entry g in
              let i = node-within-entry n g l in
              let a = A.active x i in
              let d = A.defect x i in
              let u = A.unrooted x i in
              let p = A.pointer x i in
              let r = ranged sh.height sh.distance e in
              let m : mark_of (st.mark x) ≡ Root (P.own x) = ap mark_of (A.mark x i) ∙ mark-number (P.own x) (omega (arith, N.number g l, own-lt sh.height sh.distance r g l, numbers-le sh.height sh.distance r)) in
              let o = N.number g l in
              rw (a, d, u, p, m, o) (sym (fresh_at T sh g l));
          growth = λ kind g m l. A.growth kind (entry g) (rw N.kinds m) (omega (arith, nodes-max sh.height sh.distance)) ∙ ap (λ (b : Bool). if b (get_or w.growth (slot_in (size w) kind g) 0) no_edge) (sym (none-there (namer T kind) g));
          margins = λ kind x m l t. A.growth kind x (rw N.kinds m) l;
          correction = λ kind g m l. A.correction kind (entry g) (rw N.kinds m) (node-within-entry n g l) ∙ sym (get_or-same false (slots_of T) (slot_in (size w) kind g));
        }
