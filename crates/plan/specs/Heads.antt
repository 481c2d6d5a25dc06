-- The entries of the table's first parts, one part after the other. Assumes nothing.
use Rattle.std.specs.Prelude.{ℕ, ◌+◌, ◌-◌, ◌≡◌}
use borrow.Author.Tests.{ne_eqb}
use Rattle.steps.specs.Steps.{Table, step, falls, namer}
use Rattle.steps.specs.Ranks.{bit}
use Rattle.steps.specs.declared.Step.{Step}
use Rattle.layers.specs.Boxes.{named}
use Rattle.plan.specs.Table.{off_by, slot_by, rises_by, head_at}

module _ (T : Table) (h d part k : ℕ) where
  module _ (st : Step) (e : st ≡ step T (k + 1)) where
    pub head-off : part ≡ 0 → off_by h d st ≡ head_at T h d part k
    unfolding head_at
    head-off p = rw (e, p)

    pub head-slot : part ≡ 1 → slot_by h d st ≡ head_at T h d part k
    unfolding head_at
    head-slot p = rw (e, p)

    pub head-back : part ≡ 2 → st.back ≡ head_at T h d part k
    unfolding head_at
    head-back p = rw (e, p)

  pub head-namer : part ≡ 3 → namer T k - 1 ≡ head_at T h d part k
  unfolding head_at
  head-namer p = rw p

  pub head-falls : part ≡ 4 → bit (falls T k) ≡ head_at T h d part k
  unfolding head_at
  head-falls p = rw p

  pub head-rises : (part ≡ 0 → ⊥) → (part ≡ 1 → ⊥) → (part ≡ 2 → ⊥) → (part ≡ 3 → ⊥) → (part ≡ 4 → ⊥) → bit (rises_by (named T k)) ≡ head_at T h d part k
  unfolding head_at
  head-rises a b c e f = rw (ne_eqb part 0 a, ne_eqb part 1 b, ne_eqb part 2 c, ne_eqb part 3 e, ne_eqb part 4 f)
