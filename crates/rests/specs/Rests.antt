-- RUNS AND DECODINGS COME TO REST: what the step bound says of the code. Assumes nothing.
use Rattle.std.specs.Prelude.{ℕ, ◌≤◌, ◌≡◌, false, List, length}
use Rattle.refusal.specs.Answer.{done}
use Rattle.shape.specs.declared.Shape.{Shape}
use Rattle.steps.specs.Models.{of_model}
use Rattle.record.specs.Records.{header, header_at}
use Rattle.trip.specs.Fits.{Each}
use Rattle.window.specs.Window.{is_rest}
use Rattle.window.specs.Fresh.{fresh_window}
use Rattle.window.specs.Calls.{Answered, fresh_leaves}
use Rattle.decoding.specs.Decoding.{spent, Decoded, decoded}
use Rattle.calls.specs.Answers.{rest, run_leaves}
use Rattle.law.specs.Law.{Played}
use Rattle.exports.specs.Calls.{stream_decoded}
use Rattle.bound.specs.Bound.{bound_of, step_bound}
use Rattle.account.specs.Link.{Promised}
use Rattle.account.specs.Account.{resumed_from, Account}

pub record RunsRest : Type 0 where
  -- A RUN. Where `fresh` is done: of the window that calls, by their promises, have left, if it is not at rest, a run with the bound of the shape or
  -- more answers rest, and counts at most the bound. (That the bound holds over a mix of merging and run calls is said of the rules: Bound.antt.)
  pub runs : (height distance model largest_height largest_distance n : ℕ) (x : Answered (Unit {0})) → x ≡ fresh_leaves (of_model model) height distance model largest_height largest_distance
      → x.answer ≡ done tt n
      → (p : Played) → Promised x.window p → is_rest p.window.stage ≡ false
      → (budget : ℕ) → step_bound height distance model ≤ budget
      → (steps : ℕ) × (steps ≤ step_bound height distance model) × ((run_leaves (of_model p.window.shape.model) p.window budget).answer ≡ done (rest steps) 0)
  -- A DECODING.
  -- None ends spent: of any bytes, into a buffer of any size;
  pub whole : (s : List ℕ) (size : ℕ) → (decoded s size).line ≡ spent → ⊥
  -- of any bytes that begin with a header, decoded in pieces by the model in it, as the program does it, whichever piece is the last one.
  pub pieces : (s : List ℕ) (size n : ℕ) (sh : Shape) (next : ℕ) → header_at s 0 ≡ done sh next
      → (resumed_from (of_model sh.model) s size n (fresh_window (of_model sh.model) sh) next (length (header sh))).line ≡ spent → ⊥
  -- So the exported function never returns 254.
  pub status : (s out : List ℕ) (place : ℕ) → (stream_decoded s out place).reply.status ≡ 254 → ⊥
  -- And no record of a decoding that has an account, in one piece or in many, counts more steps than the bound.
  pub steps : (s : List ℕ) (d : Decoded) (a : Account s d) → Each (λ r. r.steps ≤ bound_of a.output.shape) a.output.records
