-- `list_writer::put_measured` meets its contract: the count and the skips so far stand in the buffer, and the skips to come are left. Assumes nothing.
use Rattle.std.proofs.Common.{rules, ◌≡◌, ◌∙◌, ap, subst, ℕ, ◌≤◌, ◌<◌, ◌-◌, ◌+◌, List, ◌++◌, length, length-append, drop, Option, Some, None, drop_of_length-le, arith}
use Rattle.std.specs.Option.{IsSome}
use Rattle.refusal.specs.Writing.{put_to, front}
use Rattle.refusal.specs.Tails.{tail, put_back}
use Rattle.refusal.specs.Parts.{Parts, parts-inside, parts-end, parts_first, parts_more, is-some, front-some, part-some, counted as with-count}
use Rattle.number.specs.Number.{written}
use Rattle.list.specs.Sheet.{ones, skips, listed}
use Rattle.list.specs.Laws.{listed-is, ones-nil}
use Rattle.list_writer.specs.Gaps.{Found, Next}
use Rattle.list_writer.specs.Laws.{skips-none, found-ones, found-skips}
use Rattle.list_writer.proofs.put_measured.Invariants.{Writing}
use Rattle.list_writer.proofs.put_measured.Goals as goal

-- the count is the first part
module _ (entries old : List ℕ) (n : ℕ) (r : Option ℕ) (last : List ℕ) (e : n ≡ ones entries) (h : length (listed entries) ≤ length old)
    (put : put_to r last ≡ front old (written n)) where
  by-count : put_to r last ≡ front old (written (ones entries))
  by-count = put ∙ ap (λ (m : ℕ). front old (written m)) e

  counted : r ≡ Some (length (written (ones entries)))
  counted = front-some old (written (ones entries)) r last (omega (arith, h, ap length (listed-is entries) ∙ length-append (written (ones entries)) (skips 0 entries))) by-count

  first : (count : ℕ) → r ≡ Some count → Parts (listed entries) old last count (skips 0 entries)
  first count k =
      parts_first (listed entries) old (written (ones entries)) (skips 0 entries) count last (listed-is entries) h (with-count count k by-count)

module _ (entries old out : List ℕ) (i put from : ℕ) (w : Writing entries old out i put from) where
  -- an entry is left
  some-left : (o : Option ℕ) → put < ones entries → Next entries from o → IsSome o
  some-left (Some to) l f = search rules
  some-left None l g = absurd (omega (arith, l, w.1, g.counted, ap ones (drop_of_length-le entries {i = length entries} (omega arith)), ones-nil))

  module _ (place : ℕ) (f : Found entries from place) (h : place < length entries) (r : Option ℕ) (last : List ℕ)
      (wrote : put_to r last ≡ front (tail out i) (written (place - from))) where
    parted : Parts (listed entries) old out i (written (place - from) ++ skips 0 (drop (place + 1) entries))
    parted = subst (λ (m : List ℕ). Parts (listed entries) old out i m) (found-skips entries from place f h) w.0

    has-room : r ≡ Some (length (written (place - from)))
    has-room = part-some (listed entries) old out i (written (place - from)) (skips 0 (drop (place + 1) entries)) r last parted wrote

    turn : (count : ℕ) → r ≡ Some count → Writing entries old (put_back out i last) (i + count) (put + 1) (place + 1)
    turn count k = (
      parts_more (listed entries) old out i (written (place - from)) (skips 0 (drop (place + 1) entries)) count last parted
          (with-count count k wrote),
      omega (arith, w.1, found-ones entries from place f h),
      omega (arith, h),
    )

  ends : ones entries ≤ put → put_to (Some i) out ≡ front old (listed entries)
  ends h =
      parts-end (listed entries) old out i
      (subst (λ (m : List ℕ). Parts (listed entries) old out i m) (skips-none 0 (drop from entries) (omega (arith, h, w.1))) w.0)

next-found : (l : List ℕ) (from : ℕ) (o : Option ℕ) (place : ℕ) → Next l from o → o ≡ Some place → Found l from place × (place < length l)
next-found l from o place n e = let P : Option ℕ → Type 0 = λ o. Next l from o in subst P e n

pub unwrap-i-requires : goal.unwrap-i-requires
unwrap-i-requires c =
    let p = c.put_number in
    is-some _ (counted c.args.entries.now c.args.out.now c.args.ones p.result p.new.out c.requires.ones_value c.requires.entries_in_bounds p.ensures)

pub loop-init : goal.loop-init
loop-init c =
    let p = c.put_number in
    (first c.args.entries.now c.args.out.now c.args.ones p.result p.new.out c.requires.ones_value c.requires.entries_in_bounds p.ensures c.unwrap-i.result c.unwrap-i.ensures, omega arith, omega arith)

pub unwrap-place-requires : goal.unwrap-place-requires
unwrap-place-requires c =
    let l = c.loop in
    some-left c.args.entries.now c.args.out.now l.out l.i l.counter l.from l.invariant c.next_set.result (omega (arith, c.loop-test.true, c.requires.ones_value)) c.next_set.ensures

pub slice_bounds-put_number-count : goal.slice_bounds-put_number-count
slice_bounds-put_number-count c = parts-inside c.loop.invariant.0

pub slice_bounds-put_number-start : goal.slice_bounds-put_number-start
slice_bounds-put_number-start c = parts-inside c.loop.invariant.0

pub unwrap-i-requires-in-loop : goal.unwrap-i-requires-in-loop
unwrap-i-requires-in-loop c =
    let l = c.loop in
    let q = c.put_number-in-loop in
    let n = next-found c.args.entries.now l.from c.next_set.result c.unwrap-place.result c.next_set.ensures c.unwrap-place.ensures in
    is-some _ (has-room c.args.entries.now c.args.out.now l.out l.i l.counter l.from l.invariant c.unwrap-place.result n.0 n.1 q.result q.new.out q.ensures)

pub overflow_add-i : goal.overflow_add-i
overflow_add-i c =
    let l = c.loop in
    let q = c.put_number-in-loop in
    let n = next-found c.args.entries.now l.from c.next_set.result c.unwrap-place.result c.next_set.ensures c.unwrap-place.ensures in
    let t = turn c.args.entries.now c.args.out.now l.out l.i l.counter l.from l.invariant c.unwrap-place.result n.0 n.1 q.result q.new.out q.ensures c.unwrap-i-in-loop.result c.unwrap-i-in-loop.ensures in
    omega (arith, t.0.within, t.0.room, c.well_formed)

pub loop-preserved : goal.loop-preserved
loop-preserved c =
    let l = c.loop in
    let q = c.put_number-in-loop in
    let n = next-found c.args.entries.now l.from c.next_set.result c.unwrap-place.result c.next_set.ensures c.unwrap-place.ensures in
    turn c.args.entries.now c.args.out.now l.out l.i l.counter l.from l.invariant c.unwrap-place.result n.0 n.1 q.result q.new.out q.ensures c.unwrap-i-in-loop.result c.unwrap-i-in-loop.ensures

pub returns : goal.returns
returns c =
    let l = c.loop in
    ends c.args.entries.now c.args.out.now l.out l.i l.counter l.from l.invariant (omega (arith, c.loop-test.false, c.requires.ones_value))
