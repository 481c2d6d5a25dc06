-- A buffer that is filled from its front with the bytes of a record. Assumes nothing.
use Rattle.std.specs.Prelude.{ℕ, suc, ◌+◌, ◌-◌, ◌≤◌, ◌<◌, ◌≡◌, refl, List, [], ◌∷◌, ◌++◌, length, take, drop, get_or, set, Bool, Some, None}
use Rattle.std.proofs.Common.{add-one, arith, sym, ◌∙◌, ap, append_assoc, length-append, length-drop, le-leb, take-suc, drop-cons, take_at, drop_at, take-add, drop-drop, length-take-le}
use Rattle.std.proofs.lemmas.Bool.{lt-leb}
use Rattle.refusal.specs.Answer.{Answer, done, refused, turned, unless, value_or}
use Rattle.refusal.specs.Laws.{turned-not, value_not}
use Rattle.refusal.specs.declared.Refusal.{Refusal}
use Rattle.refusal.specs.Tests.{Passes, Turned, unless-append}
use Rattle.refusal.specs.Writing.{buffered, writing, room, laid, front, put_to}
use Rattle.std.proofs.lemmas.List.{set_at}
use Rattle.std.proofs.Math.Seq.{take-length, append_snoc, take-append_seam}

-- the first i bytes stand in the buffer
abbrev pub filled : List ℕ → List ℕ → ℕ → List ℕ
filled bytes old i = take i bytes ++ drop i old

pub filled-all : (bytes old : List ℕ) → filled bytes old (length bytes) ≡ bytes ++ drop (length bytes) old
filled-all bytes old = rw take-length refl

pub length-filled : (bytes old : List ℕ) (i : ℕ) → i ≤ length bytes → i ≤ length old → length (filled bytes old i) ≡ length old
length-filled bytes old i h k = simp (length-append, length-take-le, length-drop) (omega arith)

-- one byte more
pub filled_more : (bytes old : List ℕ) (i x : ℕ) (rest : List ℕ) → i < length bytes → i < length old → drop i bytes ≡ x ∷ rest
    → set (filled bytes old i) i x ≡ filled bytes old (i + 1)
filled_more bytes old i x rest h k e =
    let at_i : get_or bytes i 0 ≡ x = ap (λ (l : List ℕ). get_or l 0 0) (sym (drop-cons bytes i 0 h) ∙ e) in
    ap (λ (l : List ℕ). set (take i bytes ++ l) i x) (drop-cons old i 0 k)
    ∙ set_at (take i bytes) (get_or old i 0) (drop (suc i) old) x i (length-take-le i bytes (omega arith))
    ∙ sym (rw (add-one, take-suc bytes i 0 h, at_i, append_snoc (take i bytes) x (drop (suc i) old)) refl)

-- what is left of the bytes after one more
pub drop_more : (bytes : List ℕ) (i x : ℕ) (rest : List ℕ) → drop i bytes ≡ x ∷ rest → drop (i + 1) bytes ≡ rest
drop_more bytes i x rest e = sym (drop-drop 1 i bytes) ∙ ap (λ (l : List ℕ). drop 1 l) e

-- after several more, handed to the tail of the buffer
pub drop-part : (bytes : List ℕ) (i : ℕ) (part rest : List ℕ) → drop i bytes ≡ part ++ rest → drop (i + length part) bytes ≡ rest
drop-part bytes i part rest e = sym (drop-drop (length part) i bytes) ∙ ap (λ (l : List ℕ). drop (length part) l) e ∙ drop_at part rest (length part) refl

pub filled-part : (bytes old : List ℕ) (i : ℕ) (part rest : List ℕ) → i ≤ length bytes → drop i bytes ≡ part ++ rest
    → take i (filled bytes old i) ++ (part ++ drop (length part) (drop i (filled bytes old i))) ≡ filled bytes old (i + length part)
filled-part bytes old i part rest h e =
    let p : take i (filled bytes old i) ≡ take i bytes = take_at (take i bytes) (drop i old) i (length-take-le i bytes h) in
    let q : drop i (filled bytes old i) ≡ drop i old = drop_at (take i bytes) (drop i old) i (length-take-le i bytes h) in
    let r : take (i + length part) bytes ≡ take i bytes ++ part = take-add i (length part) bytes ∙ ap (λ (l : List ℕ). take i bytes ++ l) (ap (λ (l : List ℕ). take (length part) l) e ∙ take-append_seam part rest) in
    rw (p, q, r, drop-drop, append_assoc) refl

-- what is put at a buffer's front, by whether it has room
pub front_fits : (old bytes : List ℕ) → length bytes ≤ length old → front old bytes ≡ put_to (Some (length bytes)) (bytes ++ drop (length bytes) old)
unfolding front
front_fits old bytes h = rw (le-leb (length bytes) (length old) h, front) refl

pub front-full : (old bytes : List ℕ) → length old < length bytes → front old bytes ≡ put_to None old
unfolding front
front-full old bytes h = rw (lt-leb (length bytes) (length old) h, front) refl

-- A WRITER'S CALL, by what its tests say

module _ (tests : List (Bool × ℕ)) (old : List ℕ) (at : ℕ) (bytes : List ℕ) where
  -- a test before turns the call back
  pub writing-turned : (f : Refusal) → Turned tests f → buffered (turned f) old ≡ writing tests old at bytes
  writing-turned f h =
      let e : unless (tests ++ (room old at bytes ∷ [])) (done tt (at + length bytes)) ≡ turned f =
      unless-append tests (room old at bytes ∷ []) (done tt (at + length bytes)) ∙ h (Unit {0}) (unless (room old at bytes ∷ []) (done tt (at + length bytes))) in
      sym (ap (λ (a : Answer (Unit {0})). buffered a (value_or a (λ u. laid old at bytes) old)) e ∙ ap (λ (l : List ℕ). buffered (turned f) l) (value_not (turned f) (λ u. laid old at bytes) old (turned-not (Unit {0}) f)))

  module _ (h : Passes tests) where
    by-room : ◌≡◌ {A = Answer (Unit {0})} (unless (tests ++ (room old at bytes ∷ [])) (done tt (at + length bytes))) (unless (room old at bytes ∷ []) (done tt (at + length bytes)))
    by-room = unless-append tests (room old at bytes ∷ []) (done tt (at + length bytes)) ∙ h (Unit {0}) (unless (room old at bytes ∷ []) (done tt (at + length bytes)))

    pub writing-full : length old - at < length bytes → buffered (refused 11) old ≡ writing tests old at bytes
    writing-full k =
        let e : unless (tests ++ (room old at bytes ∷ [])) (done tt (at + length bytes)) ≡ refused 11 = by-room ∙ rw (lt-leb (length bytes) (length old - at) k) refl in
        sym (ap (λ (a : Answer (Unit {0})). buffered a (value_or a (λ u. laid old at bytes) old)) e)

    pub writing-done : length bytes ≤ length old - at → buffered (done tt (at + length bytes)) (laid old at bytes) ≡ writing tests old at bytes
    writing-done k =
        let e : unless (tests ++ (room old at bytes ∷ [])) (done tt (at + length bytes)) ≡ done tt (at + length bytes) = by-room ∙ rw (le-leb (length bytes) (length old - at) k) refl in
        sym (ap (λ (a : Answer (Unit {0})). buffered a (value_or a (λ u. laid old at bytes) old)) e)
