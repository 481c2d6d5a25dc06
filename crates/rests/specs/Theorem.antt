-- RUNS AND DECODINGS COME TO REST: the proof. Assumes nothing.
use Rattle.std.specs.Prelude.{ℕ, ◌≡◌, refl, Bool, true, false, List, leb, length}
use Rattle.std.proofs.Common.{sym, subst}
use Rattle.refusal.specs.Answer.{Answer, done, ended, refused, refused_at, plain, placed}
use Rattle.shape.specs.Choice.{if}
use Rattle.shape.specs.declared.Shape.{Shape}
use Rattle.steps.specs.Steps.{Table}
use Rattle.steps.specs.Models.{of_model}
use Rattle.steps.proofs.Models.{suited-model}
use Rattle.record.specs.Records.{header, header_at}
use Rattle.window.specs.Fresh.{fresh_window}
use Rattle.trip.specs.Header.{header_made}
use Rattle.bound.specs.Reachable.{Reachable, reachable-fresh}
use Rattle.decoding.specs.Decoding.{rounds, Decoded, nothing_written, behind, decoded}
use Rattle.decoding.specs.LawsDecoding.{on_header}
use Rattle.decoding.proofs.LawsDecoding.{by-header}
use Rattle.account.specs.Codes.{status-spent}
use Rattle.rests.specs.Rests.{RunsRest}
use Rattle.rests.specs.Runs.{promised-rests}
use Rattle.rests.specs.Steps.{steps-few}
use Rattle.rests.specs.Records.{NotSpent, turns-back, rounds-unspent, pieces-unspent}

-- the fresh window of a header that was read
fresh-reachable : (s : List ℕ) (at next : ℕ) (sh : Shape) → header_at s at ≡ done sh next → Reachable (of_model sh.model) sh (fresh_window (of_model sh.model) sh)
fresh-reachable s at next sh e = reachable-fresh (of_model sh.model) (suited-model sh.model) sh (header_made s at sh next e).range

module _ (s : List ℕ) (size : ℕ) where
  whole-ends : NotSpent (decoded s size).line
  whole-ends = subst (λ (d : Decoded). NotSpent d.line) (sym (by-header s size)) (go (header_at s 0) refl)
    where
      go : (a : Answer Shape) → header_at s 0 ≡ a → NotSpent (on_header s size a).line
      go ended e = turns-back (placed 7 0)
      go (refused n) e = turns-back (plain n)
      go (refused_at n o) e = turns-back (placed n o)
      go (done sh next) e = by-room (leb (length (header sh)) size)
        where
          T : Table
          T = of_model sh.model

          by-room : (t : Bool) → NotSpent (if t (behind (header sh) (rounds T s size (fresh_window T sh) next (length (header sh)))) (nothing_written (plain 11))).line
          by-room true = (rounds-unspent T (suited-model sh.model) sh s size (fresh_window T sh) next (length (header sh)) (fresh-reachable s 0 next sh e)).line
          by-room false = turns-back (plain 11)

pub runs-rest : RunsRest
runs-rest =
    record {
      runs = promised-rests;
      whole = whole-ends;
      pieces = λ s size n sh next e.
          let T = of_model sh.model in
          (pieces-unspent T (suited-model sh.model) sh s size n (fresh_window T sh) next (length (header sh)) (fresh-reachable s 0 next sh e)).line;
      status = λ s out place e. whole-ends s (length out) (status-spent s (length out) place e);
      steps = steps-few;
    }
