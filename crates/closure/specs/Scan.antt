-- THE SCAN of a node's neighbours in flooding: how it ends, and so what a node's mark and pointer become. Assumes nothing.
use Prim.Native.Nat.{ℕ, zero, suc, ◌+◌, ◌≤◌, ◌<◌}
use Rattle.std.proofs.Common.{add-one, arith, sym, ◌∙◌, ap, ⊎_elim, ltb-true, ltb-false}
use Rattle.std.proofs.Math.Decide.{ℕ_discrete}
use Rattle.std.specs.Prelude.{◌≡◌, Bool, ltb}
use Rattle.std.proofs.Math.Path.{refl, subst}
use Rattle.std.proofs.Math.Bool.{true, false}
use Rattle.refusal.specs.Laws.{undone}
use Rattle.shape.specs.Choice.{if, if-true, if-false, tell}
use Rattle.window.specs.Lists.{from, by_place, xor}
use Rattle.window.specs.Merging.{on_mark, flooded, scan, floods, arrivals}
use Rattle.window.specs.declared.Mark.{Mark}
use Rattle.window.specs.declared.Mark.TheVariants.{Reset, Root}
use Rattle.window.specs.declared.Seen.{Seen}
use Rattle.window.specs.declared.Flooded.{Flooded}
use Rattle.closure.specs.States.{reset-not, same_number}

-- a neighbour's mark that changes nothing for a node of mark m: reset beside an unrooted node, or no lower
pub data Above (u : Bool) (m : ℕ) (mark : Mark) : Type 0 where
  idle : mark ≡ Reset → u ≡ true → Above u m mark
  higher : {a : ℕ} → mark ≡ Root a → m ≤ a → Above u m mark

lower : {u : Bool} {m m' : ℕ} {mark : Mark} → m' ≤ m → Above u m mark → Above u m' mark
lower l (idle e f) = idle e f
lower l (higher e h) = higher e (omega arith)

-- the n neighbours from i on, looked at by a node that carries mark m and pointer p: all are passed by, or the lowest mark is taken, or it stops at a reset one
module _ (f : ℕ → Seen) (u : Bool) where
  abbrev pub Passes : ℕ → ℕ → ℕ → Type 0
  Passes i n m = (j : ℕ) → i ≤ j → j < i + n → (f j).grown ≡ true → Above u m (f j).mark

  pub data ScanOutcome (i n p : ℕ) (b : Bool) (m : ℕ) : Flooded → Type 0 where
    passed : Passes i n m → ScanOutcome i n p b m (flooded u p (Root m) b)
    lowered : {a j : ℕ} → a < m → j < i + n → (f j).grown ≡ true → (f j).mark ≡ Root a → Passes i n a → ScanOutcome i n p b m (flooded u (j + 1) (Root a) true)
    stopped : {j : ℕ} → u ≡ false → j < i + n → (f j).grown ≡ true → (f j).mark ≡ Reset → ScanOutcome i n p b m (flooded u 0 Reset true)

  module _ (i n : ℕ) where
    -- one neighbour more, before the others
    more : (m : ℕ) → ((f i).grown ≡ true → Above u m (f i).mark) → Passes (suc i) n m → Passes i (suc n) m
    more m t h j lo hi e = go (ℕ_discrete j i)
      where
        go : Dec (j ≡ i) → Above u m (f j).mark
        go (yes q) = rw q (t (rw q at e))
        go (no q) = h j (omega arith) (omega arith) e

    -- it is passed by
    pass : (p : ℕ) (b : Bool) (m : ℕ) (r : Flooded) → ((f i).grown ≡ true → Above u m (f i).mark) → ScanOutcome (suc i) n p b m r → ScanOutcome i (suc n) p b m r
    pass p b m r t (passed h) = passed (more m t h)
    pass p b m r t (lowered {a = a} {j = j} l hi e s h) = lowered {a = a} {j = j} l (omega arith) e s (more a (λ x. lower (omega arith) (t x)) h)
    pass p b m r t (stopped {j = j} z hi o s) = stopped {j = j} z (omega arith) o s

    -- its mark a is taken
    take : (p : ℕ) (b : Bool) (m a : ℕ) (r : Flooded) → a < m → (f i).grown ≡ true → (f i).mark ≡ Root a → ScanOutcome (suc i) n (i + 1) true a r → ScanOutcome i (suc n) p b m r
    take p b m a r l e s (passed h) = lowered {j = i} l (omega arith) e s (more a (λ x. higher s (omega arith)) h)
    take p b m a r l e s (lowered {a = c} {j = j} k hi e' s' h) = lowered {a = c} {j = j} (omega arith) (omega arith) e' s' (more c (λ x. higher s (omega arith)) h)
    take p b m a r l e s (stopped {j = j} z hi o s') = stopped {j = j} z (omega arith) o s'

    -- whichever it is
    one : (grown : Bool) (mark : Mark) (x : Bool) (p : ℕ) (b : Bool) (m : ℕ) (past : Flooded) (on : ℕ → Flooded) → (f i).grown ≡ grown → (f i).mark ≡ mark → u ≡ x
        → ScanOutcome (suc i) n p b m past
        → ((a : ℕ) → ScanOutcome (suc i) n (i + 1) true a (on a))
        → ScanOutcome i (suc n) p b m (if grown (on_mark mark (if x past (flooded x 0 Reset true)) (λ v. if (ltb v m) (on v) past)) past)
    one false mark x p b m past on eg em eu s t = pass p b m past (λ e. absurd (undone (sym e ∙ eg))) s
    one true Reset true p b m past on eg em eu s t = pass p b m past (λ e. idle em eu) s
    one true Reset false p b m past on eg em eu s t = rw (← eu) (stopped {j = i} eu (omega arith) eg em)
    one true (Root v) x p b m past on eg em eu s t =
        ⊎_elim
        (λ e. rw (if-true (ltb v m) (on v) past e) (take p b m v (on v) (ltb-true v m e) eg em (t v)))
        (λ e. rw (if-false (ltb v m) (on v) past e) (pass p b m past (λ y. higher em (ltb-false v m e)) s))
        (tell (ltb v m))

  pub scanned : (n i p : ℕ) (b : Bool) (m : ℕ) → ScanOutcome i n p b m (scan (from i n f) i u p b m)
  unfolding scan from
  scanned zero i p b m = passed (λ j lo hi e. absurd (omega arith))
  scanned (suc n) i p b m =
      let later : (p : ℕ) (b : Bool) (m : ℕ) → ScanOutcome (suc i) n p b m (scan (from (suc i) n f) (i + 1) u p b m)
      = λ p b m. subst (λ (k : ℕ). ScanOutcome (suc i) n p b m (scan (from (suc i) n f) k u p b m)) (sym (add-one i)) (scanned n (suc i) p b m) in
      one i n (f i).grown (f i).mark u p b m _ _ refl refl refl (later p b m) (λ a. later (i + 1) true a)

-- WHAT FLOODING MAKES OF A NODE: its pointer is as P says; its mark is a number below N, or reset and the node busy
pub record Good (P : ℕ → Type 0) (N : ℕ) (r : Flooded) : Type 0 where
  pub pointer : P r.pointer
  pub reset : r.mark ≡ Reset → r.busy ≡ true
  pub marked : (m : ℕ) → r.mark ≡ Root m → m < N

module _ (P : ℕ → Type 0) (N : ℕ) where
  numbered : (unrooted : Bool) (pointer m : ℕ) (busy : Bool) → P pointer → m < N → Good P N (flooded unrooted pointer (Root m) busy)
  numbered u p m b a l = record { pointer = a; reset = λ e. absurd (reset-not m (sym e)); marked = λ n e. subst (λ (x : ℕ). x < N) (same_number m n e) l }

  -- the pointer is the one it had, C, or along an edge of growth 2
  module _ (centre : P 0) (f : ℕ → Seen) (along : (k : ℕ) → (f k).grown ≡ true → P (k + 1)) (marks : (k v : ℕ) → (f k).grown ≡ true → (f k).mark ≡ Root v → v < N) where
    scanned-good : (u : Bool) (i n p : ℕ) (b : Bool) (m : ℕ) (r : Flooded) → P p → m < N → ScanOutcome f u i n p b m r → Good P N r
    scanned-good u i n p b m r a l (passed h) = numbered u p m b a l
    scanned-good u i n p b m r a l (lowered {a = v} {j = j} k hi e s h) = numbered u (j + 1) v true (along j e) (marks j v e s)
    scanned-good u i n p b m r a l (stopped z hi o s) = record { pointer = centre; reset = λ e. refl; marked = λ n e. absurd (reset-not n e) }

    pub floods-good : (own : ℕ) (unrooted : Bool) (pointer : ℕ) (mark : Mark) (n : ℕ) → own < N → P pointer → ((m : ℕ) → mark ≡ Root m → m < N)
        → Good P N (floods own unrooted pointer mark (by_place n f))
    unfolding floods by_place
    floods-good own u p Reset n l a t = numbered true p own true a l
    floods-good own u p (Root m) n l a t = scanned-good u 0 n p false m _ a (t m refl) (scanned f u n 0 p false m)

-- A NODE THAT SEES NO EDGE OF GROWTH 2 stays as it is
pub scan-none : (f : ℕ → Seen) (u : Bool) (n i k p : ℕ) (b : Bool) (m : ℕ) → ((j : ℕ) → (f j).grown ≡ false) → scan (from i n f) k u p b m ≡ flooded u p (Root m) b
unfolding scan from
scan-none f u zero i k p b m e = refl
scan-none f u (suc n) i k p b m e = if-false (f i).grown _ _ (e i) ∙ scan-none f u n (suc i) (k + 1) p b m e

pub arrivals-none : (f : ℕ → Seen) (n i : ℕ) → ((j : ℕ) → (f j).pushes ≡ false) → arrivals (from i n f) false ≡ false
unfolding arrivals from
arrivals-none f zero i e = refl
arrivals-none f (suc n) i e = ap (λ (x : Bool). arrivals (from (suc i) n f) (xor false x)) (e i) ∙ arrivals-none f n (suc i) e
