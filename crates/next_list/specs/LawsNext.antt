-- The turns of the loop that builds the next list, and what the list is for. Assumes nothing.
use Rattle.std.specs.Prelude.{ℕ, ◌+◌, ◌≤◌, ◌<◌, ◌≡◌, Bool, true, false, List, ◌⊎◌, eqb, get_or}
use Rattle.std.proofs.Common.{arith, ◌∙◌, ap, subst, ⊎_elim}
use Rattle.shape.specs.Choice.{order}
use Rattle.flat.specs.Entries.{State, within, over_by}
use Rattle.flat.specs.Plan.{Plan}
use Rattle.flat.specs.Rule.{stirs}
use Rattle.flat.specs.Step.{named, list_at, sending, Follows}
use Rattle.queue.specs.Queue.{Queue, Extends, Inside, Opened}
use Rattle.queue.specs.LawsNamed.{extends-none, extends-named, extends-on}
use Rattle.next_list.specs.Next.{Next}

-- lists that lie apart: what is written to the one does not change the other
pub apart-kept : (from to more : ℕ) (old lists : List ℕ) → (from + 4608 ≤ to) ⊎ (to + 4608 ≤ from) → Extends to 0 more old lists → (i : ℕ) → i < 4608
    → get_or lists (from + i) 0 ≡ get_or old (from + i) 0
apart-kept from to more old lists apart e i h = ⊎_elim (λ a. e.kept (from + i) (omega arith)) (λ a. e.behind (from + i) (omega arith)) apart

module _ (P : Plan) (growth : ℕ → ℕ) (n : ℕ) (list : ℕ → ℕ) (stirred : ℕ → Bool) (to : ℕ) (old : List ℕ) where
  pub next-none : (queued : List Bool) → Queue to 0 old queued → Next P growth n list stirred 0 to 0 old old queued
  next-none queued q =
      record {
        queue = q;
        extends = extends-none to 0 old;
        places = λ i h. absurd (omega arith);
        self = λ i h t. absurd (omega arith);
        near = λ i k h l t o. absurd (omega arith);
      }

  module _ (i more : ℕ) (lists : List ℕ) (queued : List Bool) (r : Next P growth n list stirred i to more old lists queued) where
    -- a node that does not stir
    pub next-quiet : stirred i ≡ false → Next P growth n list stirred (i + 1) to more old lists queued
    next-quiet t =
        let not-here : (j : ℕ) → i ≤ j → j < i + 1 → stirred j ≡ true → ⊥ =
        λ j a b s.
        let e : j ≡ i = omega arith in
        let u : stirred i ≡ true = rw e at s in
        let z : ◌≡◌ {A = ℕ} 0 1 = cc in
        omega arith
        in
        record {
          queue = r.queue;
          extends = r.extends;
          places = r.places;
          self = λ j h s. ⊎_elim (λ l. r.self j l s) (λ l. absurd (not-here j l h s)) (order j i);
          near = λ j k h l s o. ⊎_elim (λ y. r.near j k y l s o) (λ y. absurd (not-here j y h s)) (order j i);
        }

    -- one that stirs
    pub next_more : within n (list i) ≡ true → Inside P growth (list i) P.dirs n → (most : ℕ) (lists' : List ℕ) (queued' : List Bool)
        → Opened P growth (list i) P.dirs to more most lists lists' queued' → Next P growth n list stirred (i + 1) to most old lists' queued'
    next_more w s most lists' queued' o =
        let still = extends-named to more most lists lists' o.extends in
        let at : (j : ℕ) → i ≤ j → j < i + 1 → i ≡ j = λ j a b. omega arith in
        record {
          queue = o.queue;
          extends = extends-on to 0 more old lists r.extends most lists' o.extends;
          places = o.places n w s r.places;
          self = λ j h t.
              ⊎_elim
              (λ l. still (list j) (r.self j l t))
              (λ l. subst (λ (m : ℕ). named (list_at lists' to) most (list m) ≡ true) (at j l h) o.self)
              (order j i);
          near = λ j k h l t u.
              ⊎_elim
              (λ y. still (over_by (list j) (P.off k)) (r.near j k y l t u))
              (λ y.
              subst (λ (m : ℕ). eqb (growth (over_by (list m) (P.slot k))) 2 ≡ true → named (list_at lists' to) most (over_by (list m) (P.off k)) ≡ true) (at j y h) (λ v. o.near k l v) u)
              (order j i);
        }

  -- THE NEXT LIST FOLLOWS a step that leaves growth as it is, if the words told what stirs
  pub follows : (st : State) (count more : ℕ) (lists : List ℕ) (queued : List Bool) → Next P growth n list stirred count to more old lists queued
      → ((e : ℕ) → growth e ≡ st.growth e) → ((i : ℕ) → i < count → stirred i ≡ stirs P st (sending P st count list) (list i))
      → Follows P st count list n more (list_at lists to)
  follows st count more lists queued r g s =
      record {
        places = r.places;
        self = λ i h t. r.self i h (s i h ∙ t);
        near = λ i k h l t o. r.near i k h l (s i h ∙ t) (ap (λ (v : ℕ). eqb v 2) (g (over_by (list i) (P.slot k))) ∙ o);
      }
