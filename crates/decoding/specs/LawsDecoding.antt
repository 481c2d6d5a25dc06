-- Laws of the decoding: one record by its tests and its round, round after round, and the whole stream. Assumes nothing.
use Rattle.std.specs.Prelude.{ℕ, ◌+◌, ◌-◌, ◌≤◌, ◌<◌, ◌≡◌, Bool, true, false, List, leb, length}
use Rattle.std.proofs.Common.{◌∙◌, ap, lt-ltb}
use Rattle.std.proofs.Math.Path.{refl}
use Rattle.refusal.specs.Answer.{Answer, done, ended, refused, refused_at, plain, placed, unless}
use Rattle.refusal.specs.Done.{passes, fails}
use Rattle.refusal.specs.Tests.{Passes}
use Rattle.shape.specs.Choice.{if}
use Rattle.steps.specs.Steps.{Table}
use Rattle.steps.specs.Models.{of_model}
use Rattle.shape.specs.declared.Shape.{Shape}
use Rattle.record.proofs.Laws.{before-end}
use Rattle.record.specs.Records.{header, unless_ended, result}
use Rattle.window.specs.Window.{max_next}
use Rattle.window.specs.Fresh.{fresh_window}
use Rattle.window.specs.Formed.{well_formed}
use Rattle.window.specs.declared.Window.{Window}
use Rattle.decoding.specs.Decoding.{turned_back, Turn, Recorded, stopped, recorded, turn_at, last_test, record_tests, record_at, rounds, Decoded, nothing_written, behind}

-- behind the end: 23, and then the round
abbrev pub unless_last : Table → List ℕ → Window → ℕ → Answer Turn
unless_last T s w at = unless (last_test w.next) (turn_at T s w at)

-- in the rule's order
module _ (T : Table) (s : List ℕ) (size : ℕ) (w : Window) (at to : ℕ) where
  abbrev entry : Recorded
  entry = record_at T s size w at to

  abbrev pub asked : List (Bool × ℕ)
  asked = record_tests T s size w at to

  pub record-tested : entry ≡ recorded (size - to) (unless asked (unless_ended s at (unless_last T s w at)))
  unfolding record_at
  record-tested = refl

  pub record-unformed : well_formed T w ≡ false → entry ≡ stopped (turned_back (plain 21))
  record-unformed e = record-tested ∙ ap (recorded (size - to)) (fails _ _ e)

  module _ (pass : Passes asked) where
    module _ (more : at < length s) where
      record-more : entry ≡ recorded (size - to) (unless_last T s w at)
      record-more = record-tested ∙ ap (recorded (size - to)) (pass Turn (unless_ended s at (unless_last T s w at)) ∙ before-end s at (unless_last T s w at) more)

      pub record-turn : w.next < max_next → entry ≡ recorded (size - to) (turn_at T s w at)
      record-turn l = record-more ∙ ap (recorded (size - to)) (passes _ _ (lt-ltb w.next max_next l))

-- a record that was written: its turn came to rest, it is what the turn gave, and it had room
pub record Written (room : ℕ) (a : Answer Turn) (bytes : List ℕ) (v : Window) (next : ℕ) : Type 0 where
  pub turn : Turn
  pub answer : a ≡ done turn next
  pub rest : turn.rest ≡ true
  pub made : bytes ≡ result turn.result
  pub window : turn.window ≡ v
  pub fits : length bytes ≤ room

-- what a record that is written tells: it ends behind its round, and it had room
pub record Forward (s : List ℕ) (size at to next : ℕ) (bytes : List ℕ) : Type 0 where
  pub forward : at < next
  pub inside : next ≤ length s
  pub room : to + length bytes ≤ size

-- THE WHOLE STREAM

abbrev pub on_header : List ℕ → ℕ → Answer Shape → Decoded
on_header s size a =
    elim a [
      | ended ↦ nothing_written (placed 7 0)
      | refused e ↦ nothing_written (plain e)
      | refused_at e o ↦ nothing_written (placed e o)
      | done sh next ↦ if (leb (length (header sh)) size) (behind (header sh) (rounds (of_model sh.model) s size (fresh_window (of_model sh.model) sh) next (length (header sh)))) (nothing_written (plain 11))
    ]
