-- THE WINDOW'S MERGING STEP is a step of every node. Assumes nothing.
use Rattle.std.specs.Prelude.{ℕ, zero, suc, ◌+◌, ◌<◌, ◌≡◌, refl, Bool, true, ◌&&◌, ◌||◌, length}
use Rattle.std.proofs.Common.{arith, sym, ◌∙◌, ap}
use Rattle.std.proofs.Math.Bool.{false}
use Rattle.refusal.specs.Laws.{undone}
use Rattle.shape.specs.Choice.{whether}
use Rattle.shape.proofs.Ranges.{halves}
use Rattle.steps.specs.Steps.{Table}
use Rattle.steps.specs.Suited.{Suited}
use Rattle.window.specs.Lists.{by_place, xor}
use Rattle.window.specs.Window.{size, at, detector}
use Rattle.window.specs.Merging.{synced_active, sends, arrivals, synced_defect, floods, stepped, seen, step_at, merged}
use Rattle.window.specs.declared.Mark.{Mark}
use Rattle.window.specs.declared.Mark.TheVariants.{Reset, Root}
use Rattle.window.specs.declared.Seen.{Seen}
use Rattle.window.specs.declared.Flooded.{Flooded}
use Rattle.window.specs.declared.Window.{Window}
use Rattle.closure.specs.States.{reset-not, same_number}
use Rattle.closure.specs.Scan.{Above, idle, higher, Passes, ScanOutcome, passed, lowered, stopped, scanned}
use Rattle.closure.specs.Sight.{seen-grown}
use Rattle.closure.specs.After.{merged-at}
use Rattle.closure.specs.Closure.{Kept}
use Rattle.law.specs.Bits.{xor-none, xor_self}
use Rattle.law_holds.specs.Sums.{parity, arrivals-sum}
use Rattle.law_holds.specs.Nodes.{actives, defects}
use Rattle.law_holds.specs.Graph.{Laws, graph, view, Inv, hot, pointed, Points}
use Rattle.law_holds.specs.GraphLaws.{laws}
use Rattle.law_holds.specs.Turn.{above-le, Clear}
use Rattle.law_holds.specs.Flood.{seen-mark, busy, turn}
use Rattle.law_holds.specs.Syncing.{sends-not, not-sent, active-centre, active-along, sights, seen-active, pushed, defect-stays}
use Rattle.bound.specs.MergingStep.{Source, own, sent, MergingStep}

-- FLOODING: a node that sees no lower mark is not busy by it

-- nothing is taken where all is passed by
module _ (f : ℕ → Seen) (u : Bool) (n p m : ℕ) (h : Passes f u 0 n m) where
  none-reset : (j : ℕ) → u ≡ false → (f j).mark ≡ Reset → Above u m (f j).mark → ⊥
  none-reset j z s (idle e t) = undone (sym t ∙ z)
  none-reset j z s (higher {a = b} e i) = reset-not b (sym s ∙ e)

  not-busy : (r : Flooded) → ScanOutcome f u 0 n p false m r → r.busy ≡ false
  not-busy r (passed x) = refl
  not-busy r (lowered {a = a} {j = j} l hi o s x) = let k = above-le u m a (f j).mark s (h j (omega arith) hi o) in absurd (omega arith)
  not-busy r (stopped {j = j} z hi o s) = absurd (none-reset j z s (h j (omega arith) hi o))

module _ (T : Table) (w : Window) (v : ℕ) where
  passes : (m : ℕ) → Clear (graph T w) (view w) v m → Passes (seen T w v) (at w v).unrooted 0 (length T.steps) m
  passes m c j lo hi e = let o = sym (seen-grown T w v j) ∙ e in rw (seen-mark T w v j o) (c (j + 1) o)

  not-flooded : (m : ℕ) → Clear (graph T w) (view w) v m → (mark : Mark) → mark ≡ Root m
      → (floods ((graph T w).num v) (at w v).unrooted (at w v).pointer mark (sights T w v)).busy ≡ false
  unfolding floods by_place
  not-flooded m c Reset e = absurd (reset-not m e)
  not-flooded m c (Root a) e =
      let q : a ≡ m = same_number a m e in
      rw q (not-busy (seen T w v) (at w v).unrooted (length T.steps) (at w v).pointer m (passes m c) _ (scanned (seen T w v) (at w v).unrooted (length T.steps) 0 (at w v).pointer false m))

-- SYNCING: where a node's activity and its defect come from

-- an odd number of bits: one of them is set
parity-some : (f : ℕ → Bool) (n : ℕ) → parity n f ≡ true → (j : ℕ) × (j < n) × (f j ≡ true)
unfolding parity
parity-some f zero e = absurd (undone (sym e))
parity-some f (suc n) e =
    whether (f n) (λ t. (n, omega arith, t))
    (λ t.
    let r = parity-some f n (sym (xor-none (parity n f)) ∙ sym (ap (xor (parity n f)) t) ∙ e) in
    (r.0, omega (arith, r.1), r.2))

-- at a detector (d) or not, with a defect (t) or not, where it is sent (x) or not and nothing arrives: what is hot afterwards was so, and sent nothing
stayed-hot : (d t x y : Bool) → y ≡ false → (x ≡ true → t ≡ true) → (d && xor (xor t x) (d && y)) ≡ true → (d && t ≡ true) × (x ≡ false)
stayed-hot false t x y f h e = absurd (undone (sym e))
stayed-hot true t x true f h e = absurd (undone f)
stayed-hot true true true false f h e = absurd (undone (sym e))
stayed-hot true true false false f h e = (refl, refl)
stayed-hot true false true false f h e = absurd (undone (sym (h refl)))
stayed-hot true false false false f h e = absurd (undone (sym e))

-- none of the three ways to be busy
idle-all : (a b c d : Bool) → a ≡ false → b ≡ false → c ≡ d → (a || b || xor c d) ≡ false
idle-all a b c d p q r = rw (p, q, r) (xor_self d)

module _ (T : Table) (S : Suited T) (w : Window) (k : Kept T w) (I : Inv (graph T w) (view w)) where
  abbrev L : Laws (graph T w)
  L = laws T w S k

  abbrev synced : ℕ → Bool
  synced v = synced_active (at w v).pointer (hot (graph T w) (view w) v) (sights T w v)

  module _ (v : ℕ) (l : v < size w) where
    active-is : (at (merged T w) v).active ≡ synced v
    unfolding step_at stepped
    active-is = actives (merged-at T w v l)

    defect-is : (at (merged T w) v).defect ≡ synced_defect (detector w v) (at w v) (sights T w v)
    unfolding step_at stepped
    defect-is = defects (merged-at T w v l)

    along : Points (graph T w) (view w) v → (at (merged T w) v).active ≡ (at w (pointed (graph T w) (view w) v)).active
    along p =
        let o = I.pointer-opn v l p in
        active-is
        ∙ active-along (at w v).pointer (hot (graph T w) (view w) v) (sights T w v) (L.dir v (at w v).pointer l o).0
        ∙ seen-active T w L v l (at w v).pointer o

    source : hot (graph T w) (view (merged T w)) v ≡ true → Source (graph T w) (view w) v
    source e =
        whether (arrivals (sights T w v) false)
        (λ t.
        let r = parity-some (λ j. (seen T w v j).pushes) (length T.steps) (sym (arrivals-sum (seen T w v) (length T.steps)) ∙ t) in
        sent (pushed T w S k v r.0 r.2))
        (λ t.
        let x = stayed-hot (detector w v) (at w v).defect (sends (detector w v) (at w v)) (arrivals (sights T w v) false) t
        (λ y. (halves (detector w v) _ (halves (detector w v && (at w v).defect) _ y).0).1) (rw defect-is at e) in
        own x.0 (sends-not (hot (graph T w) (view w) v) (at w v).pointer x.1 x.0))

    idles : (m : ℕ) → (at w v).mark ≡ Root m → Clear (graph T w) (view w) v m → (hot (graph T w) (view w) v ≡ true → (at w v).pointer ≡ 0)
        → (at (merged T w) v).active ≡ (at w v).active → busy T w v ≡ false
    unfolding step_at stepped
    idles m e c h a =
        idle-all (floods ((graph T w).num v) (at w v).unrooted (at w v).pointer (at w v).mark (sights T w v)).busy (sends (detector w v) (at w v)) (synced v) (at w v).active
        (not-flooded T w v m c (at w v).mark e) (not-sent (hot (graph T w) (view w) v) (at w v).pointer h) (sym active-is ∙ a)

  pub moves : MergingStep (graph T w) (view w) (view (merged T w)) (busy T w)
  moves v l =
      record {
        turn = turn T w L v l;
        centre = λ e. active-is v l ∙ active-centre (at w v).pointer (hot (graph T w) (view w) v) (sights T w v) e;
        along = along v l;
        source = source v l;
        stands = λ R. defect-is v l ∙ defect-stays T w S k R v l;
        idle = idles v l;
      }
