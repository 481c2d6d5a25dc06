-- NODES THAT A STEP LEAVES AS THEY ARE, and so which nodes a work list may leave out. Assumes nothing.
use Rattle.std.specs.Prelude.{ℕ, ◌≤◌, ◌<◌, ◌≡◌, refl, Bool, true, ◌&&◌, ◌||◌, List, eqb, length}
use Rattle.std.proofs.Common.{arith, sym, ◌∙◌, eqb-true, ne_eqb}
use Rattle.std.proofs.Math.Path.{ap}
use Rattle.std.proofs.Math.Bool.{false, not}
use Rattle.refusal.specs.Laws.{undone}
use Rattle.shape.specs.Choice.{whether}
use Rattle.shape.specs.Nodes.{number_of}
use Rattle.steps.specs.Steps.{Table}
use Rattle.window.specs.Lists.{by_place, xor}
use Rattle.window.specs.LawsLists.{and_no}
use Rattle.window.specs.Window.{size, at, place, detector}
use Rattle.window.specs.Merging.{hot, sends, flooded, floods, synced_active, synced_defect, stepped, seen, step_at}
use Rattle.window.specs.declared.Mark.{Mark}
use Rattle.window.specs.declared.Mark.TheVariants.{Reset, Root}
use Rattle.window.specs.declared.Node.{Node}
use Rattle.window.specs.declared.Seen.{Seen}
use Rattle.window.specs.declared.Flooded.{Flooded}
use Rattle.window.specs.declared.Stepped.{Stepped}
use Rattle.window.specs.declared.Window.{Window}
use Rattle.closure.specs.Facts.{Facts}
use Rattle.closure.specs.Scan.{ScanOutcome, passed, lowered, stopped, scanned}
use Rattle.shows.specs.Riding.{sends_along, hot-is}
use Rattle.shows.specs.Quiet.{moved, settled}

-- TESTS

pub either-not : (a b : Bool) → a || b ≡ false → (a ≡ false) × (b ≡ false)
either-not false b e = (refl, e)
either-not true b e = (e, cc)

xor-not : (a b : Bool) → xor a b ≡ false → a ≡ b
xor-not true true e = refl
xor-not false false e = refl
xor-not true false e = e
xor-not false true e = sym e

pub xor_self : (a : Bool) → xor a a ≡ false
xor_self true = refl
xor_self false = refl

-- a node that is not busy sends nothing
idle-sends : (own : ℕ) (det : Bool) (n : Node) (ss : List Seen) → (stepped own det n ss).busy ≡ false → sends det n ≡ false
unfolding stepped
idle-sends own det n ss b =
    let f = (floods own n.unrooted n.pointer n.mark ss).busy in
    (either-not f (sends det n) (either-not (f || sends det n) (xor (synced_active n.pointer (hot det n) ss) n.active) b).0).1

-- A NODE THAT IS NOT BUSY and keeps its defect stays as it is

module _ (f : ℕ → Seen) (K : ℕ) where
  ended : (u : Bool) (p m : ℕ) (r : Flooded) → ScanOutcome f u 0 K p false m r → r.busy ≡ false → r ≡ flooded u p (Root m) false
  ended u p m r (passed h) e = refl
  ended u p m r (lowered l j o s h) e = absurd (undone e)
  ended u p m r (stopped z hi o s) e = absurd (undone e)

  calm-flood : (own : ℕ) (u : Bool) (p : ℕ) (mark : Mark) → (floods own u p mark (by_place K f)).busy ≡ false → floods own u p mark (by_place K f) ≡ flooded u p mark false
  unfolding floods by_place
  calm-flood own u p Reset e = absurd (undone e)
  calm-flood own u p (Root m) e = ended u p m _ (scanned f u K 0 p false m) e

  pub unchanged : (own : ℕ) (det : Bool) (n : Node) → (stepped own det n (by_place K f)).busy ≡ false → (stepped own det n (by_place K f)).node.defect ≡ n.defect
      → stepped own det n (by_place K f) ≡ settled n
  unfolding stepped
  unchanged own det n b d =
      let ss = by_place K f in
      let x = either-not ((floods own n.unrooted n.pointer n.mark ss).busy || sends det n) _ b in
      let y = either-not (floods own n.unrooted n.pointer n.mark ss).busy _ x.0 in
      let flood = calm-flood own n.unrooted n.pointer n.mark y.0 in
      let active = xor-not (synced_active n.pointer (hot det n) ss) n.active x.1 in
      let kept : synced_defect det n ss ≡ n.defect = d in
      let sent : sends det n ≡ false = y.1 in
      let same = xor_self n.active in
      rw (flood, kept, active, sent, same)

module _ (T : Table) (w : Window) (g : ℕ) where
  pub settled-not : step_at T w g ≡ settled (at w g) → moved T w g ≡ false
  settled-not e = ap (λ (s : Stepped). s.busy || xor s.node.defect (at w g).defect) e ∙ xor_self (at w g).defect

  pub still-by : moved T w g ≡ false → step_at T w g ≡ settled (at w g)
  unfolding step_at
  still-by e =
      let x = either-not (step_at T w g).busy _ e in
      let y = xor-not (step_at T w g).node.defect (at w g).defect x.1 in
      unchanged (seen T w g) (length T.steps) (number_of w.shape.height w.shape.distance (place w g)) (detector w g) (at w g) x.0 y

  -- it sends nothing
  pub quiet-sends : Facts T w → g < size w → step_at T w g ≡ settled (at w g) → ((at w g).defect && not (eqb (at w g).pointer 0)) ≡ false
  unfolding step_at
  quiet-sends F l e =
      ap (λ (h : Bool). h && not (eqb (at w g).pointer 0)) (sym (hot-is T w F g l))
      ∙ idle-sends (number_of w.shape.height w.shape.distance (place w g)) (detector w g) (at w g) (by_place (length T.steps) (seen T w g)) (ap (λ (s : Stepped). s.busy) e)

-- along no pointer
pub sends_none : (n : Node) (p : ℕ) → 1 ≤ p → (n.defect && not (eqb n.pointer 0)) ≡ false → sends_along n p ≡ false
sends_none n p i e =
    whether (eqb n.pointer p)
    (λ t.
    let q : n.pointer ≡ p = eqb-true _ _ t in
    let c : eqb n.pointer 0 ≡ false = ne_eqb _ _ (λ (u : n.pointer ≡ 0). omega arith) in
    rw t (rw c at e))
    (λ t. and_no n.defect _ t)
