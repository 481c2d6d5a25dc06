-- A DECODING THAT FINISHES has read its input to the end. Assumes nothing.
use Rattle.std.specs.Prelude.{ℕ, ◌-◌, ◌≤◌, ◌<◌, ◌≡◌, Bool, true, false, not, List, [], ◌∷◌, leb, length, replicate}
use Rattle.std.proofs.Common.{arith, sym, ◌∙◌, ⊎_elim}
use Rattle.std.proofs.Math.Path.{subst}
use Rattle.refusal.specs.Answer.{Answer, done, ended, refused, refused_at, plain, unless}
use Rattle.refusal.specs.Ends.{NoEnd, no-end-then, no-end-test}
use Rattle.list.specs.Sheet.{list_at}
use Rattle.list.specs.Trip.{list-no-end}
use Rattle.shape.specs.Choice.{if, order}
use Rattle.steps.specs.Steps.{Table}
use Rattle.record.specs.Records.{unless_ended, round_at, result}
use Rattle.record.proofs.Laws.{before-end}
use Rattle.window.specs.Window.{is_rest}
use Rattle.window.specs.Run.{ran}
use Rattle.window.specs.Calls.{round_tests, state_tests, round_call, run_call}
use Rattle.window.specs.declared.Window.{Window}
use Rattle.decoding.specs.Decoding.{finished, turned_back, spent, budget, Turn, wrote, stopped, record_written, recorded, turn_at, last_test, record_tests, record_at}
use Rattle.decoding.specs.LawsTurn.{detectors, edges}
use Rattle.decoding.proofs.LawsTurn.{on_ran, on_round, on_bytes, turn-steps}
use Rattle.decoding.specs.LawsDecoding.{record-tested}

tests-no-end : {A : Type 0} (tests : List (Bool × ℕ)) (a : Answer A) → NoEnd a → NoEnd (unless tests a)
tests-no-end [] a h = h
tests-no-end (t ∷ ts) a h = no-end-test t.0 (unless ts a) (refused t.1) (tests-no-end ts a h) tt

recorded-no-end : (room : ℕ) (a : Answer Turn) → NoEnd a → recorded room a ≡ stopped finished → ⊥
recorded-no-end room ended h e = h
recorded-no-end room (refused n) h e = let z : ◌≡◌ {A = ℕ} 0 1 = cc in absurd (omega arith)
recorded-no-end room (refused_at n o) h e = let z : ◌≡◌ {A = ℕ} 0 1 = cc in absurd (omega arith)
recorded-no-end room (done t n) h e = by-rest t.rest e
  where
    bytes : List ℕ
    bytes = result t.result

    by-room : (b : Bool) → if b (wrote bytes t.window n) (stopped (turned_back (plain 11))) ≡ stopped finished → ⊥
    by-room true e = let z : ◌≡◌ {A = ℕ} 0 1 = cc in absurd (omega arith)
    by-room false e = let z : ◌≡◌ {A = ℕ} 0 1 = cc in absurd (omega arith)

    by-rest : (b : Bool) → if b (record_written room bytes t.window n) (stopped spent) ≡ stopped finished → ⊥
    by-rest true e = by-room (leb (length bytes) room) e
    by-rest false e = let z : ◌≡◌ {A = ℕ} 0 1 = cc in absurd (omega arith)

module _ (T : Table) (s : List ℕ) (w : Window) (at : ℕ) where
  round-no-end : (bytes xs ys : List ℕ) → NoEnd (round_call T w bytes xs ys)
  unfolding round_call
  round-no-end bytes xs ys = tests-no-end (round_tests T w bytes (length xs) (length ys)) _ tt

  turn-no-end : at < length s → NoEnd (turn_at T s w at)
  unfolding run_call
  turn-no-end l =
      let a : NoEnd (round_at s (detectors w) at) = subst NoEnd (sym (before-end s at (list_at s (detectors w) at) l)) (list-no-end s (detectors w) at) in
      subst NoEnd (sym (turn-steps T w s at))
      (no-end-then (round_at s (detectors w) at) (on_bytes T w) a (λ bytes next.
      no-end-then (round_call T w bytes (replicate {A = ℕ} (edges T w) 0) (replicate {A = ℕ} (detectors w) 0)) (on_round T w next) (round-no-end bytes _ _) (λ r z.
      no-end-then (run_call T r.window budget) (on_ran T w r next)
      (tests-no-end (state_tests T r.window (not (is_rest r.window.stage))) (done (ran T budget r.window) 0) tt)
      (λ v z. tt))))

  -- behind the end: 23, and then the round
  abbrev behind : Answer Turn
  behind = unless (last_test w.next) (turn_at T s w at)

  behind-no-end : at < length s → NoEnd (unless_ended s at behind)
  behind-no-end l = subst NoEnd (sym (before-end s at behind l)) (tests-no-end (last_test w.next) (turn_at T s w at) (turn-no-end l))

  pub finished-end : (size to : ℕ) → at ≤ length s → record_at T s size w at to ≡ stopped finished → at ≡ length s
  finished-end size to l e =
      ⊎_elim
      (λ k. let tests = record_tests T s size w at to in
      absurd (recorded-no-end (size - to) (unless tests (unless_ended s at behind)) (tests-no-end tests (unless_ended s at behind) (behind-no-end k)) (sym (record-tested T s size w at to) ∙ e)))
      (λ k. omega arith)
      (order at (length s))
