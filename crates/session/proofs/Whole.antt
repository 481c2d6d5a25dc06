-- What a whole stream leaves: its header refused or without room, or its rounds behind it. Assumes nothing.
use Prim.Native.Nat.{ℕ, ◌+◌, ◌-◌, ◌≤◌}
use native.Mathlib.Nat.{sub-zero, zero-add}
use native.Mathlib.Omega.{arith}
use mathlib.Core.Path.{◌≡◌, refl, sym, ◌∙◌, ap, subst}
use mathlib.Core.Bool.{Bool}
use mathlib.Core.List.{List, ◌++◌}
use borrow.Author.Tests.{le-leb, leb-true}
use lib.Dec.{leb}
use lib.ListN.{length, drop, length-append}
use Rattle.refusal.specs.Answer.{done, code_of}
use Rattle.refusal.specs.Bytes.{Bytes}
use Rattle.refusal.specs.Tests.{Passes}
use Rattle.refusal.specs.Writing.{laid}
use Rattle.refusal.specs.declared.Refusal.{Refusal}
use Rattle.refusal.specs.Holds.{hold-pass}
use Rattle.number.specs.Number.{written_buffered}
use Rattle.std.specs.Prelude.{Result, Ok, Err}
use Rattle.shape.proofs.Ranges.{halves}
use Rattle.shape.specs.Sizes.{IsShape, height_ok, distance_ok}
use Rattle.steps.specs.Models.{of_model}
use Rattle.shape.specs.declared.Shape.{Shape}
use Rattle.record.specs.Calls.{header_answer, place_tests, write_header}
use Rattle.trip.specs.Header.{header-writes}
use Rattle.record.specs.Records.{header, header_at}
use Rattle.window.specs.Fresh.{fresh_window}
use Rattle.decoding.specs.Decoding.{Line, turned_back, Rounds, rounds, Decoded, decoded}
use Rattle.decoding.specs.Answers.{RoundsReturned, rounds_returned, decode_returned, output_leaves, decode_leaves}
use Rattle.decoding.proofs.LawsDecoding.{decoded-turned, decoded-full, decoded-on}
use Rattle.one_record.proofs.Writers.{writer-full, writer-wrote}
use Rattle.rounds_on.specs.Laid.{laid-long, laid_more}
use Rattle.session.specs.Ends.{Ends}

-- a header that was read, and the writing of it
pub record Put (s old : List ℕ) (sh : Shape) (next : ℕ) (q : Result ℕ Refusal) (new : List ℕ) : Type 0 where
  pub stream : Bytes s
  pub read : header_at s 0 ≡ done sh next
  pub put : written_buffered q new ≡ write_header sh old 0

module _ (s old : List ℕ) where
  as-decoded : (x : Decoded) → decoded s (length old) ≡ x → output_leaves x old ≡ decode_leaves s old
  as-decoded x e = sym (ap (λ (y : Decoded). output_leaves y old) e)

  pub header_refused : (r : Result (Shape × ℕ) Refusal) → header_answer r ≡ header_at s 0 → (f : Refusal) → r ≡ Err f → decode_returned (turned_back (code_of f)) 0 old ≡ decode_leaves s old
  header_refused r read f z = as-decoded _ (decoded-turned s (length old) f (sym read ∙ ap header_answer z))

  module _ (sh : Shape) (next : ℕ) (q : Result ℕ Refusal) (new : List ℕ) (p : Put s old sh next q new) where
    pub range : IsShape sh
    range = (header-writes s 0 sh next p.stream p.read).range

    abbrev tests : List (Bool × ℕ)
    tests = place_tests sh (length old) 0

    pass : Passes tests
    pass =
        let h = halves (height_ok sh.height) (distance_ok sh.distance) range.sizes in
        hold-pass tests (h.0, (h.1, (range.model, (le-leb 0 (length old) (omega arith), tt))))

    room : (t : Bool) → leb (length (header sh)) (length old - 0) ≡ t → leb (length (header sh)) (length old) ≡ t
    room t e = subst (λ (n : ℕ). leb (length (header sh)) n ≡ t) (sub-zero (length old)) e

    pub header-full : (f : Refusal) → q ≡ Err f → decode_returned (turned_back (code_of f)) 0 new ≡ decode_leaves s old
    header-full f y =
        let x = writer-full tests pass old 0 (header sh) new f (ap (λ (x : Result ℕ Refusal). written_buffered x new) (sym y) ∙ p.put) in
        rw (x.code, x.buffer) (as-decoded _ (decoded-full s (length old) sh next p.read (room _ x.room)))

    -- the rounds behind the header
    pub rounds-behind : (to : ℕ) → q ≡ Ok to → (l : Line) (i count : ℕ) (last : List ℕ) → Ends (of_model sh.model) (fresh_window (of_model sh.model) sh) s next new to l i count last → decode_returned l count last ≡ decode_leaves s old
    rounds-behind to y l i count last made =
        let x = writer-wrote tests pass old 0 (header sh) new to (ap (λ (x : Result ℕ Refusal). written_buffered x new) (sym y) ∙ p.put) in
        let fits = leb-true (length (header sh)) (length old) (room _ x.room) in
        let inside : 0 + length (header sh) ≤ length old = omega arith in
        let long : length (laid old 0 (header sh)) ≡ length old = laid-long old 0 (header sh) inside in
        let start : to ≡ length (header sh) = x.next ∙ zero-add (length (header sh)) in
        let r : Rounds = rounds (of_model sh.model) s (length old) (fresh_window (of_model sh.model) sh) next (length (header sh)) in
        let all : List ℕ = header sh ++ r.output in
        let on : rounds_returned l made.0 i count last ≡ rounds_returned r.line r.window r.next (length (header sh) + length r.output) (laid (laid old 0 (header sh)) (length (header sh)) r.output) =
        made.1 ∙ rw (x.buffer, start, long) refl in
        let line : l ≡ r.line = ap (λ (p : RoundsReturned). p.line) on in
        let size : count ≡ length all = ap (λ (p : RoundsReturned). p.behind) on ∙ sym (length-append (header sh) r.output) in
        let joined : laid (laid old 0 (header sh)) (length (header sh)) r.output ≡ laid old 0 all =
        subst (λ (n : ℕ). laid (laid old 0 (header sh)) n r.output ≡ laid old 0 all) (zero-add (length (header sh))) (laid_more old 0 (header sh) inside r.output) in
        let buffer : last ≡ all ++ drop (length all) old = ap (λ (p : RoundsReturned). p.buffer) on ∙ joined ∙ ap (λ (n : ℕ). all ++ drop n old) (zero-add (length all)) in
        rw (line, size, buffer) (as-decoded _ (decoded-on s (length old) sh next p.read (room _ x.room)))
