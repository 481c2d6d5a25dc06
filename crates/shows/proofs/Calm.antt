-- A CALM NODE: its mark is a number, and the same number stands over its open edges; its active is its defect, or that of the node that
-- its pointer leads to. Where pointers ride and no node sends, a calm node is quiet; where every node is quiet, every node is calm and none
-- sends. So it is enough to follow calmness through a round. Assumes nothing.
use Rattle.std.specs.Prelude.{ℕ, ◌+◌, ◌-◌, ◌≤◌, ◌<◌, ◌≡◌, Bool, true, ◌&&◌, ◌||◌, not, eqb, length, get_or}
use Rattle.std.proofs.Common.{arith, ◌∙◌}
use Rattle.std.proofs.Math.Path.{refl, sym, ap}
use Rattle.std.proofs.Math.Bool.{false}
use borrow.Author.Tests.{eqb-true, eqb-false, eq-eqb, ne_eqb}
use Rattle.refusal.specs.Laws.{undone}
use Rattle.shape.specs.Choice.{whether}
use Rattle.shape.specs.Nodes.{number_of}
use Rattle.shape.proofs.Ranges.{halves}
use Rattle.steps.specs.Steps.{Table, step}
use Rattle.steps.specs.Suited.{Suited}
use Rattle.window.specs.Lists.{by_place, xor}
use Rattle.window.specs.LawsLists.{get_or-by}
use Rattle.window.specs.Window.{size, at, place, detector, to}
use Rattle.window.specs.Merging.{hot, nothing, sends, floods, synced_active, stepped}
use Rattle.window.specs.declared.Mark.{Mark}
use Rattle.window.specs.declared.Mark.TheVariants.{Reset, Root}
use Rattle.window.specs.declared.Node.{Node}
use Rattle.window.specs.declared.Seen.{Seen}
use Rattle.window.specs.declared.Flooded.{Flooded}
use Rattle.window.specs.declared.Stepped.{Stepped}
use Rattle.window.specs.declared.Window.{Window}
use Rattle.closure.specs.Facts.{Facts, node-within}
use Rattle.closure.specs.Scan.{Above, idle, higher, Passes, ScanOutcome, passed, lowered, stopped, scanned, arrivals-none}
use Rattle.closure.specs.States.{reset-not}
use Rattle.closure.specs.Ways.{direction}
use Rattle.shows.specs.Riding.{opens, neighbour, Riding, sends_along, glimpse, hot-is, back-opens, back-node, ridden, step-glimpse}
use Rattle.shows.specs.Quiet.{settled, Quiet, AllQuiet}
use Rattle.shows.proofs.Quiet.{either-not, xor_self, unchanged, quiet-sends, sends_none}
use Rattle.shows.specs.Calm.{Calm, Silent}

-- NUMBERS

low : {u : Bool} {m v : ℕ} {mark : Mark} → Above u m mark → mark ≡ Root v → m ≤ v
low {v = v} (idle e f) q = absurd (reset-not v (sym e ∙ q))
low {m = m} {v = v} (higher {a = a} e h) q = let z : a ≡ v = cc in omega arith

-- A STEP over what is seen

stays : (d det : Bool) → xor (xor d false) (det && false) ≡ d
stays true true = refl
stays true false = refl
stays false true = refl
stays false false = refl

module _ (f : ℕ → Seen) (K : ℕ) where
  -- where the same number is seen everywhere, nothing is flooded
  level-scan : (u : Bool) (p m : ℕ) (r : Flooded) → ((j : ℕ) → (f j).grown ≡ true → (f j).mark ≡ Root m) → ScanOutcome f u 0 K p false m r → r.busy ≡ false
  level-scan u p m r e (passed h) = refl
  level-scan u p m r e (lowered {a = a} {j = j} l x o s h) = let t = e j o in let z : a ≡ m = cc in absurd (omega arith)
  level-scan u p m r e (stopped {j = j} z x o s) = absurd (reset-not m (sym s ∙ e j o))

  level-flood : (own : ℕ) (u : Bool) (p m : ℕ) → ((j : ℕ) → (f j).grown ≡ true → (f j).mark ≡ Root m) → (floods own u p (Root m) (by_place K f)).busy ≡ false
  unfolding floods by_place
  level-flood own u p m e = level-scan u p m _ e (scanned f u K 0 p false m)

  -- where nothing is flooded, the node has a number, and what is seen is no lower
  calm-scan : (u : Bool) (p m : ℕ) (r : Flooded) → ScanOutcome f u 0 K p false m r → r.busy ≡ false → Passes f u 0 K m
  calm-scan u p m r (passed h) e = h
  calm-scan u p m r (lowered l j o s h) e = absurd (undone e)
  calm-scan u p m r (stopped z hi o s) e = absurd (undone e)

  calm-flood : (own : ℕ) (u : Bool) (p : ℕ) (mark : Mark) → (floods own u p mark (by_place K f)).busy ≡ false → (m : ℕ) × (mark ≡ Root m) × Passes f u 0 K m
  unfolding floods by_place
  calm-flood own u p Reset e = absurd (undone e)
  calm-flood own u p (Root m) e = (m, refl, calm-scan u p m _ (scanned f u K 0 p false m) e)

  module _ (own : ℕ) (det : Bool) (n : Node) where
    module _ (m : ℕ) (k : n.mark ≡ Root m) (e : (j : ℕ) → (f j).grown ≡ true → (f j).mark ≡ Root m) (sent : sends det n ≡ false)
        (active : synced_active n.pointer (hot det n) (by_place K f) ≡ n.active) (none : (j : ℕ) → (f j).pushes ≡ false) where
      step-idle : (stepped own det n (by_place K f)).busy ≡ false
      unfolding stepped
      step-idle = let flood = level-flood own n.unrooted n.pointer m e in rw (k, flood, sent, active) (xor_self n.active)

      step-defect : (stepped own det n (by_place K f)).node.defect ≡ n.defect
      unfolding stepped by_place
      step-defect = let a = arrivals-none f K 0 none in rw (sent, a) (stays n.defect det)

      pub step-calm : stepped own det n (by_place K f) ≡ settled n
      step-calm = unchanged f K own det n step-idle step-defect

    module _ (s : stepped own det n (by_place K f) ≡ settled n) where
      calm-number : (m : ℕ) × (n.mark ≡ Root m) × Passes f n.unrooted 0 K m
      unfolding stepped
      calm-number =
          let b : (stepped own det n (by_place K f)).busy ≡ false = ap (λ (y : Stepped). y.busy) s in
          let flood = (floods own n.unrooted n.pointer n.mark (by_place K f)).busy in
          calm-flood own n.unrooted n.pointer n.mark (either-not flood _ (either-not (flood || sends det n) _ b).0).0

      calm-active : synced_active n.pointer (hot det n) (by_place K f) ≡ n.active
      unfolding stepped
      calm-active = ap (λ (y : Stepped). y.node.active) s

-- IN A WINDOW WHERE POINTERS RIDE

module _ (T : Table) (S : Suited T) (w : Window) (F : Facts T w) (R : Riding T w) (g : ℕ) (l : g < size w) where
  abbrev own : ℕ
  own = number_of w.shape.height w.shape.distance (place w g)

  abbrev K : ℕ
  K = length T.steps

  abbrev n : Node
  n = at w g

  -- what its pointer leads to
  led-view : (n.pointer ≡ 0 → ⊥) → (get_or (by_place K (glimpse T w g)) (n.pointer - 1) nothing).active ≡ (neighbour T w g n.pointer).active
  led-view c =
      let r = ridden T S w F R g l c in
      let x : n.pointer - 1 + 1 ≡ n.pointer = omega (arith, r) in
      ap (λ (s : Seen). s.active) (get_or-by (glimpse T w g) K (n.pointer - 1) nothing r.0) ∙ rw r.1 (ap (λ (p : ℕ). (neighbour T w g p).active) x)

  -- A CALM NODE IS QUIET
  module _ (quiet : Silent w) where
    silent-over : (p : ℕ) → (to w T p g).there ≡ true → sends_along (neighbour T w g p) (step T p).back ≡ false
    silent-over p e = sends_none (neighbour T w g p) (step T p).back (S.proper.opposed p (direction T w g p e)).back.0 (quiet (to w T p g).node (node-within T w F.ranged p g e))

    unpushed : (j : ℕ) → (glimpse T w g j).pushes ≡ false
    unpushed j = whether (opens T w g (j + 1)) (λ o. rw o (silent-over (j + 1) (halves (to w T (j + 1) g).there _ o).0)) (λ o. rw o)

    module _ (c : Calm T w g) where
      level-view : (j : ℕ) → (glimpse T w g j).grown ≡ true → (glimpse T w g j).mark ≡ Root c.number
      level-view j e = whether (opens T w g (j + 1)) (λ o. rw o (c.level (j + 1) o)) (λ o. absurd (undone (sym e ∙ rw o)))

      active-view : synced_active n.pointer (hot (detector w g) n) (by_place K (glimpse T w g)) ≡ n.active
      unfolding synced_active
      active-view =
          whether (eqb n.pointer 0)
          (λ t. rw t (hot-is T w F g l ∙ sym (c.alone (eqb-true _ _ t))))
          (λ t. rw t (led-view (eqb-false _ _ t) ∙ c.led (eqb-false _ _ t)))

      pub calm-quiet : Quiet T w g
      calm-quiet =
          record {
            still = step-glimpse T S w F R g l
                ∙ step-calm (glimpse T w g) K own (detector w g) n c.number c.mark level-view
                (ap (λ (h : Bool). h && not (eqb n.pointer 0)) (hot-is T w F g l) ∙ quiet g l) active-view unpushed;
            bits = silent-over;
          }

  -- A QUIET NODE
  module _ (q : Quiet T w g) where
    glimpsed : stepped own (detector w g) n (by_place K (glimpse T w g)) ≡ settled n
    glimpsed = sym (step-glimpse T S w F R g l) ∙ q.still

    abbrev numbered : (m : ℕ) × (n.mark ≡ Root m) × Passes (glimpse T w g) n.unrooted 0 K m
    numbered = calm-number (glimpse T w g) K own (detector w g) n glimpsed

    -- sees no lower number
    quiet-low : (p v : ℕ) → opens T w g p ≡ true → (neighbour T w g p).mark ≡ Root v → numbered.0 ≤ v
    quiet-low p v o e =
        let i = direction T w g p (halves (to w T p g).there _ o).0 in
        let x : p - 1 + 1 ≡ p = omega (arith, i.0) in
        let o' : opens T w g (p - 1 + 1) ≡ true = rw x o in
        low (numbered.2 (p - 1) (omega arith) (omega (arith, i.0, i.1)) (rw o')) (rw o' (rw x e))

    quiet-active : synced_active n.pointer (hot (detector w g) n) (by_place K (glimpse T w g)) ≡ n.active
    quiet-active = calm-active (glimpse T w g) K own (detector w g) n glimpsed

    quiet-alone : n.pointer ≡ 0 → n.active ≡ n.defect
    unfolding synced_active
    quiet-alone e = let t = eq-eqb n.pointer 0 e in sym (rw t at quiet-active) ∙ hot-is T w F g l

    quiet-led : (n.pointer ≡ 0 → ⊥) → (neighbour T w g n.pointer).active ≡ n.active
    unfolding synced_active
    quiet-led c = let t = ne_eqb n.pointer 0 c in sym (led-view c) ∙ (rw t at quiet-active)

-- WHERE EVERY NODE IS QUIET

module _ (T : Table) (S : Suited T) (w : Window) (F : Facts T w) (R : Riding T w) (Q : AllQuiet T w) where
  pub quiet-silent : Silent w
  quiet-silent g l = quiet-sends T w g F l (Q g l).still

  pub quiet_calm : (g : ℕ) → g < size w → Calm T w g
  quiet_calm g l =
      let a = numbered T S w F R g l (Q g l) in
      record {
        number = a.0;
        mark = a.1;
        level = λ p o.
            let u = (to w T p g).node in
            let lu = node-within T w F.ranged p g (halves (to w T p g).there _ o).0 in
            let b = numbered T S w F R u lu (Q u lu) in
            let x = quiet-low T S w F R g l (Q g l) p b.0 o b.1 in
            let y = quiet-low T S w F R u lu (Q u lu) (step T p).back a.0 (back-opens T S w g p o) (ap (λ (v : ℕ). (at w v).mark) (back-node T S w g p o) ∙ a.1) in
            let z : b.0 ≡ a.0 = omega (arith, x, y) in
            b.1 ∙ ap Root z;
        alone = quiet-alone T S w F R g l (Q g l);
        led = quiet-led T S w F R g l (Q g l);
      }
