-- WHAT A CALLER IS LEFT WITH. `decode_leaves s old` is the term in the promise of `session::decode`, and `stream_decoded s old place` the one in
-- the promise of `baizeridge_decode`, for the bytes s that they are given and the buffer old that they are lent: so many bytes as they count, at
-- the front of the buffer that they leave, read back as the output that has an account. Assumes nothing.
use Rattle.std.specs.Prelude.{ℕ, ◌+◌, ◌≤◌, ◌<◌, ◌≡◌, refl, List, ◌++◌, length, take, drop}
use Rattle.std.proofs.Common.{sym, ◌∙◌, ap, subst, length-append, length-take-le}
use Rattle.std.proofs.Math.Seq.{take-append_seam}
use Rattle.refusal.specs.Answer.{done}
use Rattle.refusal.specs.Bytes.{Bytes}
use Rattle.refusal.specs.Writing.{laid}
use Rattle.steps.specs.Steps.{Table}
use Rattle.trip.specs.Streams.{results_of}
use Rattle.window.specs.declared.Window.{Window}
use Rattle.decoding.specs.Decoding.{rounds, decoded}
use Rattle.decoding.specs.Answers.{decode_leaves}
use Rattle.exports.specs.Calls.{stream_decoded}
use Rattle.account.proofs.Theorem.{accounts}
use Rattle.account.specs.Codes.{status-finished}
use Rattle.account.specs.Handed.{Handed, Piece, Shipped, written_bytes}

-- of every list of bytes and every buffer, whatever the model in its header, if the count is not 0
pub handed : (s old : List ℕ) → Bytes s → 0 < (decode_leaves s old).count → Handed s old
handed s old b some =
    let a = accounts.account s (length old) b some in
    let out = (decoded s (length old)).output in
    let front : written_bytes s old ≡ out = take-append_seam out (drop (length out) old) in
    record { account = a; handed = front ∙ a.writes; back = subst (λ (x : List ℕ). results_of x ≡ done a.output (length out)) (sym front) a.back }

pub shipped : (s old : List ℕ) (place : ℕ) → Bytes s → 0 < (stream_decoded s old place).count → Shipped s old place
shipped s old place b some =
    let h = handed s old b some in
    record { account = h.account; back = h.back; whole = λ e. h.account.whole (status-finished s (length old) place e) }

-- up to the end of what is laid into a buffer
laid-up-to : (old bytes : List ℕ) (to : ℕ) → to ≤ length old → take (to + length bytes) (laid old to bytes) ≡ take to old ++ bytes
laid-up-to old bytes to l =
    let long : length (take to old ++ bytes) ≡ to + length bytes = length-append (take to old) bytes ∙ ap (λ (n : ℕ). n + length bytes) (length-take-le to old l) in
    ap (λ (n : ℕ). take n (laid old to bytes)) (sym long) ∙ take-append_seam (take to old ++ bytes) (drop (to + length bytes) old)

pub piece : (T : Table) (s : List ℕ) (w : Window) (at : ℕ) (old : List ℕ) (to : ℕ) → to ≤ length old → Piece T s w at old to
piece T s w at old to l = record { bytes = laid-up-to old (rounds T s (length old) w at to).output to l; line = refl; window = refl; next = refl }
