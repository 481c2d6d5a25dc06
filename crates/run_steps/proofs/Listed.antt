-- A MERGING STEP OVER A PART OF THE LISTS is one over the list that stands there. Assumes nothing.
use Rattle.std.specs.Prelude.{ℕ, zero, suc, ◌+◌, ◌-◌, ◌≤◌, ◌<◌, ◌≡◌, refl, Bool, ◌||◌, List, get_or, length}
use Rattle.std.proofs.Common.{arith, ap, ap₂, ◌∙◌, inl, inr, ⊎_elim, take, drop, length-take, length-drop, get_or-take, get_or-drop}
use Rattle.window.specs.Lists.{any}
use Rattle.flat.specs.Entries.{State}
use Rattle.flat.specs.Plan.{Plan}
use Rattle.flat.specs.Rule.{sender, busy_at}
use Rattle.flat.specs.Step.{list_at, sending, busy_in, Turned, Unturned, Passed}
use Rattle.merge_step.specs.Pass.{PassLeaves}
use Rattle.shows.specs.Named.{named-same}

any-same : (c : ℕ) (f g : ℕ → Bool) → ((i : ℕ) → i < c → f i ≡ g i) → any c f ≡ any c g
unfolding any
any-same zero f g e = refl
any-same (suc c) f g e = ap₂ (λ (a b : Bool). a || b) (any-same c f g (λ i h. e i (omega arith))) (e c (omega arith))

module _ (P : Plan) (st : State) (c : ℕ) (f g : ℕ → ℕ) (e : (i : ℕ) → i < c → f i ≡ g i) where
  sends-same : sending P st c f ≡ sending P st c g
  sends-same = any-same c (λ i. sender P st (f i)) (λ i. sender P st (g i)) (λ i h. ap (sender P st) (e i h))

  busy-same : busy_in P st c f ≡ busy_in P st c g
  busy-same = any-same c (λ i. busy_at P st (f i)) (λ i. busy_at P st (g i)) (λ i h. ap (busy_at P st) (e i h))

  turned-same : (x : ℕ) (b : Bool) → Turned P st c f x b → Turned P st c g x b
  turned-same x b t = let q = e t.0 t.1 in (t.0, t.1, rw q at t.2, rw q at t.3, rw q at t.4)

  unturned-same : (x : ℕ) → Unturned P st c f x → Unturned P st c g x
  unturned-same x u i h s p = let q = e i h in u i h (rw q s) (rw q p)

  passed-same : (n : ℕ) (st' : State) → Passed P st c f n st' → Passed P st c g n st'
  passed-same n st' p =
      record {
        active = λ x w. rw (named-same g f c x e) at (p.active x w);
        defect = λ x w. rw (named-same g f c x e, sends-same) at (p.defect x w);
        unrooted = λ x w. rw (named-same g f c x e) at (p.unrooted x w);
        pointer = λ x w. rw (named-same g f c x e) at (p.pointer x w);
        mark = λ x w. rw (named-same g f c x e) at (p.mark x w);
        growth = p.growth;
        correction = λ x. ⊎_elim (λ t. inl (turned-same x (st'.correction x) t)) (λ u. inr (unturned-same x u.0, u.1)) (p.correction x);
      }

  leaves-same : (n : ℕ) (busy : Bool) (nodes marks edges words : List ℕ) → PassLeaves P st c f n busy nodes marks edges words → PassLeaves P st c g n busy nodes marks edges words
  leaves-same n busy nodes marks edges words l =
      record {
        passed = passed-same n _ l.passed;
        is-busy = l.is-busy ∙ busy-same;
        all-long = l.all-long;
        stirring = λ i h. rw (e i h, sends-same) at (l.stirring i h);
      }

module _ (lists : List ℕ) (from count : ℕ) (low : from + count ≤ length lists) where
  abbrev part : List ℕ
  part = take (from + count - from) (drop from lists)

  abbrev item : ℕ → ℕ
  item i = get_or part i 0

  part-long : length part ≡ count
  part-long = omega (arith, length-take (from + count - from) (drop from lists), length-drop from lists)

  part-item : (i : ℕ) → i < count → item i ≡ list_at lists from i
  part-item i h = get_or-take (from + count - from) (drop from lists) i 0 (omega arith) ∙ get_or-drop from lists i 0

  pub part_leaves : (P : Plan) (st : State) (n : ℕ) (busy : Bool) (nodes marks edges words : List ℕ) → PassLeaves P st (length part) item n busy nodes marks edges words
      → PassLeaves P st count (list_at lists from) n busy nodes marks edges words
  part_leaves P st n busy nodes marks edges words l = leaves-same P st count item (list_at lists from) part-item n busy nodes marks edges words (rw part-long at l)
