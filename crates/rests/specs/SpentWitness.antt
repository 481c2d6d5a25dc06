-- WHY A DECODING HAS A WAY TO END SPENT: its pieces take any well-formed window at rest, and from one that no calls leave a round need not come to
-- rest. `rounds_leave` is the term in the promise of `session::decode_rounds`. Assumes nothing.
use Rattle.std.specs.Prelude.{ℕ, ◌-◌, ◌<◌, ◌≡◌, true, false, List, [], ◌∷◌, eqb, length}
use Rattle.std.proofs.Common.{arith, sym, ◌∙◌, le-leb}
use Rattle.std.proofs.Math.Path.{refl, ap}
use Rattle.refusal.specs.Answer.{done}
use Rattle.refusal.specs.Tests.{Passes}
use Rattle.refusal.specs.Holds.{hold-pass}
use Rattle.number.specs.Number.{number_at, group_at}
use Rattle.list.specs.Sheet.{are_bits, list_at, entries_at}
use Rattle.shape.specs.Choice.{if-false}
use Rattle.steps.specs.Steps.{Table, base}
use Rattle.steps.specs.Models.{of_model}
use Rattle.steps.proofs.Models.{suited-base, of-base}
use Rattle.record.specs.Records.{round_at}
use Rattle.window.specs.Window.{max_next}
use Rattle.law.specs.Witness.{opened}
use Rattle.window.specs.AbsentWitness.{after}
use Rattle.bound.specs.Circling.{circling, due}
use Rattle.bound.proofs.Circling.{circles, never-rests}
use Rattle.decoding.specs.Decoding.{spent, budget, turn_of, stopped, recorded, turn_at, record_tests, record_at, rounds_from, rounds}
use Rattle.decoding.specs.Answers.{rounds_leave}
use Rattle.decoding.specs.LawsDecoding.{record-turn}
use Rattle.decoding.specs.LawsTurn.{detectors}
use Rattle.decoding.proofs.LawsTurn.{turn-done}

-- one round, empty
abbrev pub empty : List ℕ
empty = 0 ∷ []

record ByValue : Type 0 where
  early : circling.next ≡ 8
  detectors-are : detectors circling ≡ 1
  reads : round_at empty 1 0 ≡ done (0 ∷ []) 1
  bits : are_bits (0 ∷ []) ≡ true
  model : eqb circling.shape.model 1 ≡ false

by_value : ByValue
unfolding opened after circling list_at entries_at number_at group_at
by_value = record { early = refl; detectors-are = refl; reads = refl; bits = refl; model = refl }

module _ (size : ℕ) where
  passes : Passes (record_tests base empty size circling 0 0)
  passes = hold-pass (record_tests base empty size circling 0 0) (circles.formed, (circles.rest, (refl, (le-leb 0 size (omega arith), tt))))

  early : circling.next < max_next
  early = omega (arith, by_value.early)

  turn : turn_at base empty circling 0 ≡ done (turn_of base circling (0 ∷ [])) 1
  turn = turn-done base circling suited-base circles.formed circles.rest early (0 ∷ []) (sym by_value.detectors-are) by_value.bits empty 0 1 (ap (λ (n : ℕ). round_at empty n 0) by_value.detectors-are ∙ by_value.reads)

  stops : record_at base empty size circling 0 0 ≡ stopped spent
  unfolding due
  stops =
      record-turn base empty size circling 0 0 passes (omega arith) early
      ∙ ap (recorded (size - 0)) turn
      ∙ if-false (turn_of base circling (0 ∷ [])).rest _ (stopped spent) (never-rests budget)

  rounds-spent : (rounds base empty size circling 0 0).line ≡ spent
  unfolding rounds_from
  rounds-spent = rw (rounds_from, stops) refl

-- whatever the buffer
pub circling-spent : (old : List ℕ) → (rounds_leave (of_model circling.shape.model) empty circling 0 old 0).line ≡ spent
circling-spent old = ap (λ (T : Table). (rounds T empty (length old) circling 0 0).line) (of-base circling.shape.model by_value.model) ∙ rounds-spent (length old)
