-- The slot of an edge: by the end that names it, and from its slot its kind and that end. Assumes nothing.
use Rattle.std.specs.Prelude.{ℕ, ◌*◌, ◌<◌, ◌≡◌, true}
use Rattle.std.proofs.Common.{mul_comm}
use Rattle.shape.specs.Choice.{if-true}
use Rattle.shape.specs.Sizes.{nodes_of}
use Rattle.shape.specs.Nodes.{index_of}
use Rattle.shape.specs.Counting.{quotient, rest, before}
use Rattle.shape.specs.declared.Place.{Place}
use Rattle.steps.specs.Steps.{Table, step, across, slot_in, slot_kind, slot_node, slot}

module _ (T : Table) (h d p : ℕ) (q : Place) where
  pub slot-own : (step T p).own ≡ true → slot T h d p q ≡ slot_in (nodes_of h d) (step T p).kind (index_of h d q)
  unfolding slot
  slot-own e = rw (if-true (step T p).own q (across (step T p) q) e)

module _ (n kind g : ℕ) (l : g < n) where
  pub slot-kind : slot_kind n (slot_in n kind g) ≡ kind
  slot-kind = rw (mul_comm n kind) (quotient n kind g l)

  pub slot-node : slot_node n (slot_in n kind g) ≡ g
  slot-node = rw (mul_comm n kind) (rest n kind g l)

  -- the slots of the kinds
  pub slot-within : (kinds : ℕ) → kind < kinds → slot_in n kind g < kinds * n
  slot-within kinds m = rw (mul_comm n kind) (before n kind g l kinds m)
