-- From what the parts of a call ensure to what its caller sees. Assumes nothing.
use Rattle.std.specs.Prelude.{ℕ, ◌≡◌}
use Rattle.std.proofs.Common.{◌∙◌, ap, ap₂}
use Rattle.refusal.specs.Answer.{Answer, next_or}
use Rattle.refusal.specs.Writing.{Buffered}
use Rattle.shape.specs.declared.Shape.{Shape}
use Rattle.record.specs.Calls.{ResultBuffered}
use Rattle.decoding.specs.Answers.{DecodeReturned}
use Rattle.reply.specs.Reply.{Reply, replied, ValueOut, value_by, HeaderOut, header_by, count_by}
use Rattle.exports.specs.Calls.{buffer_out, buffer_by, taken, round_out, round_by, result_out, result_by, decode_out, decode_by}

-- WHAT A CALL LEAVES, from an answer with its buffers and from the reply to it

module _ {S R Out : Type 0} (make : R → S → Out) (to : S → R) where
  parts : {x l : S} {r : R} → x ≡ l → r ≡ to x → make r x ≡ make (to l) l
  parts {x} e q = ap (λ (r : R). make r x) q ∙ ap (λ (l : S). make (to l) l) e

  taken-parts : (next : S → ℕ) {x l : S} {r : R} {n : ℕ} → x ≡ l → r ≡ to x → n ≡ next x → taken (make r x) n ≡ taken (make (to l) l) (next l)
  taken-parts next {x} {l} {r} e q m = ap (λ (k : ℕ). taken (make r x) k) m ∙ ap₂ (λ (o : Out) (k : ℕ). taken o k) (parts e q) (ap next e)

pub buffer-out : (place : ℕ) {x l : Buffered} {r : Reply} → x ≡ l → r ≡ replied x.answer place → buffer_out r x.buffer ≡ buffer_by l place
buffer-out place e q = parts (λ (r : Reply) (l : Buffered). buffer_out r l.buffer) (λ (l : Buffered). replied l.answer place) e q

pub decode-out : (place : ℕ) {x l : DecodeReturned} {v : ValueOut} → x ≡ l → v ≡ count_by x.line x.count place
    → decode_out v.reply x.buffer v.value ≡ decode_by l place
decode-out place =
    parts (λ (v : ValueOut) (l : DecodeReturned). decode_out v.reply l.buffer v.value) (λ (l : DecodeReturned). count_by l.line l.count place)

module _ (at place : ℕ) {n : ℕ} where
  pub header-out : (height distance model : ℕ) {x l : Answer Shape} {h : HeaderOut} → x ≡ l → h ≡ header_by x height distance model place → n ≡ next_or x at
      → taken h n ≡ taken (header_by l height distance model place) (next_or l at)
  header-out height distance model =
      taken-parts (λ (h : HeaderOut) (l : Answer Shape). h) (λ (l : Answer Shape). header_by l height distance model place) (λ (l : Answer Shape). next_or l at)

  pub round-out : {x l : Buffered} {r : Reply} → x ≡ l → r ≡ replied x.answer place → n ≡ next_or x.answer at
      → taken (round_out r x.buffer) n ≡ taken (round_by l place) (next_or l.answer at)
  round-out = taken-parts (λ (r : Reply) (l : Buffered). round_out r l.buffer) (λ (l : Buffered). replied l.answer place) (λ (l : Buffered). next_or l.answer at)

  pub result-out : (steps : ℕ) {x l : ResultBuffered} {v : ValueOut} → x ≡ l → v ≡ value_by x.answer steps place → n ≡ next_or x.answer at
      → taken (result_out v.reply x.edges x.escapes v.value) n ≡ taken (result_by l steps place) (next_or l.answer at)
  result-out steps =
      taken-parts
      (λ (v : ValueOut) (l : ResultBuffered). result_out v.reply l.edges l.escapes v.value)
      (λ (l : ResultBuffered). value_by l.answer steps place)
      (λ (l : ResultBuffered). next_or l.answer at)
