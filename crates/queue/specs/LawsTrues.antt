-- Counting flags: where one is not set there is room. Assumes nothing.
use Rattle.std.specs.Prelude.{ℕ, zero, suc, ◌+◌, ◌≤◌, ◌<◌, ◌≡◌, Bool, true, false, List, [], ◌∷◌, get_or, set, length}
use Rattle.std.proofs.Common.{add-one, arith, le_of_suc-le-suc, sym}
use Rattle.queue.specs.Queue.{trues, Queue}

pub trues_most : (l : List Bool) → trues l ≤ length l
unfolding trues
trues_most [] = omega arith
trues_most (true ∷ l) = let h = trues_most l in omega arith
trues_most (false ∷ l) = let h = trues_most l in omega arith

pub trues-room : (l : List Bool) (i : ℕ) → i < length l → get_or l i false ≡ false → trues l < length l
unfolding trues
trues-room [] i h e = absurd (omega arith)
trues-room (true ∷ l) zero h e = absurd (let z : ◌≡◌ {A = ℕ} 0 1 = cc in omega arith)
trues-room (true ∷ l) (suc i) h e = let r = trues-room l i (le_of_suc-le-suc h) e in omega arith
trues-room (false ∷ l) i h e = let r = trues_most l in omega arith

pub trues-set : (l : List Bool) (i : ℕ) → i < length l → get_or l i false ≡ false → trues (set l i true) ≡ trues l + 1
unfolding trues
trues-set [] i h e = absurd (omega arith)
trues-set (true ∷ l) zero h e = absurd (let z : ◌≡◌ {A = ℕ} 0 1 = cc in omega arith)
trues-set (false ∷ l) zero h e = sym (add-one (trues l))
trues-set (true ∷ l) (suc i) h e = let r = trues-set l i (le_of_suc-le-suc h) e in omega arith
trues-set (false ∷ l) (suc i) h e = trues-set l i (le_of_suc-le-suc h) e

-- a list is no longer than a plane, and shorter if a node is not listed
pub queue-most : {from count : ℕ} {lists : List ℕ} {queued : List Bool} → Queue from count lists queued → count ≤ 4608
queue-most {queued = queued} q = let h = trues_most queued in omega (arith, h, q.few, q.wide)

pub queue-room : {from count : ℕ} {lists : List ℕ} {queued : List Bool} → Queue from count lists queued → (x : ℕ) → x < 4608 → get_or queued x false ≡ false → count < 4608
queue-room {queued = queued} q x h e = let r = trues-room queued x (omega (arith, q.wide)) e in omega (arith, r, q.few, q.wide)
