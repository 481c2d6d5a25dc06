-- A record that is put at a buffer's front in parts, one after another. Assumes nothing.
use Rattle.std.specs.Prelude.{ℕ, ◌+◌, ◌-◌, ◌≤◌, ◌≡◌, refl, List, [], ◌++◌, Option, Some, length, take, drop}
use Rattle.std.specs.Option.{IsSome}
use Rattle.std.proofs.Common.{rules, arith, sym, ◌∙◌, ap, subst, append-nil, length-append, length-drop, drop_at, length-take-le, drop-drop}
use Rattle.std.proofs.Math.Seq.{take-append_seam}
use Rattle.refusal.specs.Writing.{Put, put_to, front}
use Rattle.refusal.specs.Filling.{filled, filled-part, filled-all, drop-part, length-filled, front_fits}
use Rattle.refusal.specs.Tails.{tail, put_back, tail-fits}

-- the first i bytes of the record stand in the buffer, and those that are left come next
pub record Parts (bytes old out : List ℕ) (i : ℕ) (rest : List ℕ) : Type 0 where
  pub stands : out ≡ filled bytes old i
  pub next : drop i bytes ≡ rest
  pub room : length bytes ≤ length old
  pub within : i ≤ length bytes

module _ {bytes old out : List ℕ} {i : ℕ} {rest : List ℕ} (p : Parts bytes old out i rest) where
  pub parts-length : length out ≡ length old
  parts-length = ap length p.stands ∙ length-filled bytes old i p.within (omega (arith, p.within, p.room))

  pub parts-inside : i ≤ length out
  parts-inside = omega (arith, p.within, p.room, parts-length)

  pub parts-left : i + length rest ≡ length bytes
  parts-left = omega (arith, ap length p.next, length-drop i bytes, p.within)

  behind : (n : ℕ) → i ≤ n → drop n out ≡ drop n old
  behind n h =
      let k : i + (n - i) ≡ n = omega arith in
      let at_i : drop i out ≡ drop i old = ap (λ (l : List ℕ). drop i l) p.stands ∙ drop_at (take i bytes) (drop i old) i (length-take-le i bytes p.within) in
      ap (λ (m : ℕ). drop m out) (sym k) ∙ sym (drop-drop (n - i) i out) ∙ ap (λ (l : List ℕ). drop (n - i) l) at_i ∙ drop-drop (n - i) i old ∙ ap (λ (m : ℕ). drop m old) k

  -- the same, seen from the buffer as it is now
  pub parts_from : Parts bytes out out i rest
  parts_from =
      record {
        stands = p.stands ∙ ap (λ (l : List ℕ). take i bytes ++ l) (sym (behind i (omega arith)));
        next = p.next;
        room = omega (arith, p.room, parts-length);
        within = p.within;
      }

  pub front-from : front out bytes ≡ front old bytes
  front-from =
      front_fits out bytes (omega (arith, p.room, parts-length))
      ∙ ap (λ (l : List ℕ). put_to (Some (length bytes)) (bytes ++ l)) (behind (length bytes) p.within)
      ∙ sym (front_fits old bytes p.room)

-- nothing is left
pub parts-end : (bytes old out : List ℕ) (i : ℕ) → Parts bytes old out i [] → put_to (Some i) out ≡ front old bytes
parts-end bytes old out i p =
    let all : i ≡ length bytes = omega (arith, parts-left p) in
    ap (λ (l : List ℕ). put_to (Some i) l) p.stands
    ∙ ap (λ (n : ℕ). put_to (Some n) (filled bytes old n)) all
    ∙ ap (λ (l : List ℕ). put_to (Some (length bytes)) l) (filled-all bytes old)
    ∙ sym (front_fits old bytes p.room)

-- the first part
pub parts_first : (bytes old part rest : List ℕ) (count : ℕ) (last : List ℕ) → bytes ≡ part ++ rest → length bytes ≤ length old
    → put_to (Some count) last ≡ front old part → Parts bytes old last count rest
parts_first bytes old part rest count last e h put =
    let long : length part + length rest ≡ length bytes = sym (ap length e ∙ length-append part rest) in
    let f = put ∙ front_fits old part (omega arith) in
    let s : Some count ≡ Some (length part) = ap (λ (p : Put). p.count) f in
    let n : count ≡ length part = cc in
    record {
      stands = ap (λ (p : Put). p.buffer) f ∙ rw (n, e, take-append_seam part rest) refl;
      next = rw (n, e, drop_at part rest (length part) refl) refl;
      room = h;
      within = omega (arith, n);
    }

-- what has room was put
pub is-some : {count : Option ℕ} (n : ℕ) → count ≡ Some n → IsSome count
is-some n e = rw e (search rules)

pub front-some : (old bytes : List ℕ) (count : Option ℕ) (last : List ℕ) → length bytes ≤ length old → put_to count last ≡ front old bytes → count ≡ Some (length bytes)
front-some old bytes count last h put = ap (λ (p : Put). p.count) (put ∙ front_fits old bytes h)

-- and so was each part
pub part-some : (bytes old out : List ℕ) (i : ℕ) (part rest : List ℕ) (count : Option ℕ) (last : List ℕ) → Parts bytes old out i (part ++ rest)
    → put_to count last ≡ front (tail out i) part → count ≡ Some (length part)
part-some bytes old out i part rest count last p put =
    (tail-fits out i (parts-inside p) part count last put (omega (arith, parts-left p, length-append part rest, p.room, parts-length p))).0

-- one part more, handed to the tail
module _ (bytes old out : List ℕ) (i : ℕ) (part rest : List ℕ) (count : ℕ) (last : List ℕ) (p : Parts bytes old out i (part ++ rest))
    (put : put_to (Some count) last ≡ front (tail out i) part) where
  fits : length part ≤ length out - i
  fits = omega (arith, parts-left p, length-append part rest, p.room, parts-length p)

  pub parts-count : count ≡ length part
  parts-count = let s : Some count ≡ Some (length part) = (tail-fits out i (parts-inside p) part (Some count) last put fits).0 in cc

  pub parts_more : Parts bytes old (put_back out i last) (i + count) rest
  parts_more =
      record {
        stands =
            (tail-fits out i (parts-inside p) part (Some count) last put fits).1
            ∙ ap (λ (l : List ℕ). take i l ++ (part ++ drop (length part) (drop i l))) p.stands
            ∙ filled-part bytes old i part rest p.within p.next
            ∙ ap (λ (n : ℕ). filled bytes old (i + n)) (sym parts-count);
        next = ap (λ (n : ℕ). drop (i + n) bytes) parts-count ∙ drop-part bytes i part rest p.next;
        room = p.room;
        within = omega (arith, parts-left p, length-append part rest, parts-count);
      }

-- the last part
pub parts_last : (bytes old out : List ℕ) (i : ℕ) (part : List ℕ) (count : ℕ) (last : List ℕ) → Parts bytes old out i part
    → put_to (Some count) last ≡ front (tail out i) part → Parts bytes old (put_back out i last) (i + count) []
parts_last bytes old out i part count last p put =
    parts_more bytes old out i part [] count last (subst (λ (l : List ℕ). Parts bytes old out i l) (sym (append-nil part)) p) put

pub last-some : (bytes old out : List ℕ) (i : ℕ) (part : List ℕ) (count : Option ℕ) (last : List ℕ) → Parts bytes old out i part
    → put_to count last ≡ front (tail out i) part → count ≡ Some (length part)
last-some bytes old out i part count last p put =
    part-some bytes old out i part [] count last (subst (λ (l : List ℕ). Parts bytes old out i l) (sym (append-nil part)) p) put

-- THREE PARTS, each with its count

abbrev pub counted : {count : Option ℕ} {last : List ℕ} {p : Put} (n : ℕ) → count ≡ Some n → put_to count last ≡ p → put_to (Some n) last ≡ p
counted {last = last} n k e = ap (λ (o : Option ℕ). put_to o last) (sym k) ∙ e

module _ (bytes old one two three : List ℕ) (e : bytes ≡ one ++ (two ++ three)) (h : length bytes ≤ length old)
    (r : Option ℕ) (out : List ℕ) (put : put_to r out ≡ front old one) where
  pub three-one : r ≡ Some (length one)
  three-one = front-some old one r out (omega (arith, h, ap length e ∙ length-append one (two ++ three))) put

  module _ (i : ℕ) (k : r ≡ Some i) where
    begun : Parts bytes old out i (two ++ three)
    begun = parts_first bytes old one (two ++ three) i out e h (counted i k put)

    pub three-inside : i ≤ length out
    three-inside = parts-inside begun

    -- the tail has room for the second part
    pub three-room : length two ≤ length (tail out i)
    three-room =
        let long = length-take-le (length out - i) (drop i out) (omega (arith, length-drop i out)) in
        omega (arith, long, parts-left begun, begun.room, parts-length begun, length-append two three)

    module _ (r₂ : Option ℕ) (out₂ : List ℕ) (put₂ : put_to r₂ out₂ ≡ front (tail out i) two) where
      pub three-two : r₂ ≡ Some (length two)
      three-two = part-some bytes old out i two three r₂ out₂ begun put₂

      module _ (j : ℕ) (k₂ : r₂ ≡ Some j) where
        further : Parts bytes old (put_back out i out₂) (i + j) three
        further = parts_more bytes old out i two three j out₂ begun (counted j k₂ put₂)

        pub three-next : (i + j ≤ length (put_back out i out₂)) × (i + j ≤ length old)
        three-next = (parts-inside further, omega (arith, further.within, further.room))

        module _ (r₃ : Option ℕ) (out₃ : List ℕ) (put₃ : put_to r₃ out₃ ≡ front (tail (put_back out i out₂) (i + j)) three) where
          pub three-last : r₃ ≡ Some (length three)
          three-last = last-some bytes old (put_back out i out₂) (i + j) three r₃ out₃ further put₃

          module _ (n : ℕ) (k₃ : r₃ ≡ Some n) where
            all : Parts bytes old (put_back (put_back out i out₂) (i + j) out₃) (i + j + n) []
            all = parts_last bytes old (put_back out i out₂) (i + j) three n out₃ further (counted n k₃ put₃)

            pub three-within : i + j + n ≤ length old
            three-within = omega (arith, all.within, all.room)

            pub three-done : put_to (Some (i + j + n)) (put_back (put_back out i out₂) (i + j) out₃) ≡ front old bytes
            three-done = parts-end bytes old (put_back (put_back out i out₂) (i + j) out₃) (i + j + n) all
