-- ROUND AFTER ROUND: the law's calls make the records that a decoding writes. Assumes nothing.
use Prim.Native.Nat.{ℕ, ◌+◌, ◌-◌, ◌≤◌}
use Rattle.std.specs.Prelude.{◌≡◌, true, drop}
use mathlib.Core.List.{List, [], ◌++◌, map}
use Rattle.std.proofs.Math.ListN.{length}
use Rattle.list.specs.Sheet.{listed}
use Rattle.steps.specs.Steps.{Table}
use Rattle.shape.specs.declared.Shape.{Shape}
use Rattle.record.specs.Records.{Result, result}
use Rattle.trip.specs.Streams.{all_bytes}
use Rattle.trip.specs.Fits.{Each, RoundFits, RecordFits}
use Rattle.window.specs.Window.{is_rest}
use Rattle.window.specs.declared.Window.{Window}
use Rattle.law.specs.Law.{Receipt, Played, play}
use Rattle.decoding.specs.Decoding.{finished, Rounds, rounds}
use Rattle.account.specs.Account.{calls_of, receipts_of, counts_of, steps_in}

-- a window and receipts, with no raw call among them
abbrev pub without_raw : Window → List Receipt → Played
without_raw w receipts = record { window = w; receipts = receipts; last_raw = [] }

-- what was decoded from a window and an offset on
pub record Followed (T : Table) (s : List ℕ) (sh : Shape) (w : Window) (at : ℕ) (r : Rounds) : Type 0 where
  -- the rounds that were read, and the results that were written, one for each
  pub rounds : List (List ℕ)
  pub results : List Result
  pub rounds-fit : Each (RoundFits sh) rounds
  pub results_fit : Each (RecordFits sh) results
  pub each : length results ≡ length rounds
  pub reads : drop at s ≡ all_bytes listed rounds ++ drop r.next s
  pub writes : r.output ≡ all_bytes result results
  -- the law's calls, after any others
  pub plays : (before : List Receipt)
      → play T (without_raw w before) (calls_of sh rounds) ≡ without_raw r.window (before ++ receipts_of rounds results)
  pub steps : counts_of T w (calls_of sh rounds) ≡ map steps_in results
  pub rests : is_rest w.stage ≡ true → is_rest r.window.stage ≡ true
  pub shape : r.window.shape ≡ sh
  -- the end
  pub inside : r.next ≤ length s
  pub whole : r.line ≡ finished → r.next ≡ length s
