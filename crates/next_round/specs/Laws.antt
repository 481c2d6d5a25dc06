-- WHAT IS FOUND of the next round, one test after another; and ONE RECORD of a well-formed window at rest, by its next round. Assumes nothing.
use Rattle.std.specs.Prelude.{ℕ, ◌-◌, ◌<◌, ◌≤◌, ◌≡◌, refl, Bool, true, false, List, [], ◌∷◌, leb, ltb, length}
use Rattle.std.proofs.Common.{sym, ◌∙◌, leb-true, ltb-true, ltb-false, le-leb, lt-ltb, le-ltb}
use Rattle.std.proofs.Math.Path.{ap}
use Rattle.std.proofs.lemmas.Bool.{lt-leb}
use Rattle.refusal.specs.Answer.{Answer, done, ended, refused, refused_at, unless, and_then}
use Rattle.refusal.specs.Bytes.{Bytes}
use Rattle.refusal.specs.Done.{took}
use Rattle.refusal.specs.Holds.{done-holds}
use Rattle.list.specs.Sheet.{list_at}
use Rattle.list.specs.Trip.{list-writes}
use Rattle.shape.specs.Choice.{whether}
use Rattle.steps.specs.Steps.{Table}
use Rattle.steps.specs.Suited.{Suited}
use Rattle.record.proofs.Laws.{before-end, at-end as none_left}
use Rattle.record.specs.Records.{unless_ended, round_at}
use Rattle.window.specs.Window.{is_rest, max_next}
use Rattle.window.specs.Formed.{well_formed}
use Rattle.window.specs.declared.Window.{Window}
use Rattle.decoding.specs.Decoding.{Turn, turn_of, recorded, last_test, offset_tests, turn_at, record_tests, record_at}
use Rattle.decoding.specs.LawsTurn.{detectors}
use Rattle.decoding.proofs.LawsTurn.{on_bytes, turn-steps, turn-done}
use Rattle.next_round.specs.Next.{next_round}

module _ (s : List ℕ) (count next at size to : ℕ) where
  pub off-source : length s < at → refused 10 ≡ next_round s count next at size to
  off-source l = let a : leb at (length s) ≡ false = lt-leb at (length s) l in rw a

  module _ (l : at ≤ length s) where
    inside : leb at (length s) ≡ true
    inside = le-leb at (length s) l

    pub off-buffer : size < to → refused 10 ≡ next_round s count next at size to
    off-buffer m = let b : leb to size ≡ false = lt-leb to size m in rw (inside, b)

    module _ (m : to ≤ size) where
      room : leb to size ≡ true
      room = le-leb to size m

      pub at-end : length s ≤ at → ended ≡ next_round s count next at size to
      at-end k = rw (inside, room) (sym (none_left s at (unless (last_test next) (round_at s count at)) k))

      module _ (k : at < length s) where
        bytes_left : (x : Answer (List ℕ)) → unless (last_test next) (round_at s count at) ≡ x → x ≡ next_round s count next at size to
        bytes_left x e = rw (inside, room) (sym (before-end s at (unless (last_test next) (round_at s count at)) k ∙ e))

        pub too-late : max_next ≤ next → refused 23 ≡ next_round s count next at size to
        too-late n = let e : ltb next max_next ≡ false = le-ltb next max_next n in bytes_left (refused 23) (rw e)

        pub listed : next < max_next → list_at s count at ≡ next_round s count next at size to
        listed n = let e : ltb next max_next ≡ true = lt-ltb next max_next n in bytes_left (list_at s count at) (rw e (before-end s at (list_at s count at) k))

-- A ROUND THAT WAS READ: another can follow, its record's offset is in the buffer, and it has a byte a detector
pub record ReadRound (count next size to : ℕ) (bytes : List ℕ) : Type 0 where
  pub early : next < max_next
  pub room : to ≤ size
  pub long : length bytes ≡ count

pub next-found : (s : List ℕ) → Bytes s → (count next at size to : ℕ) (bytes : List ℕ) (behind : ℕ) → next_round s count next at size to ≡ done bytes behind → ReadRound count next size to bytes
next-found s b count next at size to bytes behind e =
    let h = done-holds (offset_tests s at size to) (unless_ended s at (unless (last_test next) (round_at s count at))) bytes behind e in
    let k = took (ltb at (length s)) (unless (last_test next) (round_at s count at)) ended bytes behind refl h.1 in
    let r = done-holds (last_test next) (round_at s count at) bytes behind k.1 in
    let l = list-writes s count at bytes behind b (sym (before-end s at (list_at s count at) (ltb-true at (length s) k.0)) ∙ r.1) in
    record { early = ltb-true next max_next r.0.0; room = leb-true to size h.0.1.0; long = l.size }

-- what is done with the bytes comes behind the tests
after-tests : {A B : Type 0} (tests : List (Bool × ℕ)) (a : Answer A) (f : A → ℕ → Answer B) → and_then (unless tests a) f ≡ unless tests (and_then a f)
after-tests [] a f = refl
after-tests ((true, n) ∷ ts) a f = after-tests ts a f
after-tests ((false, n) ∷ ts) a f = refl

module _ (T : Table) (S : Suited T) (s : List ℕ) (b : Bytes s) (w : Window) (formed : well_formed T w ≡ true) (rest : is_rest w.stage ≡ true) where
  abbrev turned_by : List ℕ → ℕ → Answer Turn
  turned_by bytes next = done (turn_of T w bytes) next

  -- a round that was read is received and run, and no call refuses it
  read-turned : (at : ℕ) → at < length s → w.next < max_next → (a : Answer (List ℕ)) → round_at s (detectors w) at ≡ a → and_then a turned_by ≡ turn_at T s w at
  read-turned at more early (done bytes next) e =
      let l = list-writes s _ at bytes next b (sym (before-end s at (list_at s (detectors w) at) more) ∙ e) in
      sym (turn-done T w S formed rest early bytes l.size l.bits s at next e)
  read-turned at more early ended e = sym (turn-steps T w s at ∙ ap (λ (a : Answer (List ℕ)). and_then a (on_bytes T w)) e)
  read-turned at more early (refused n) e = sym (turn-steps T w s at ∙ ap (λ (a : Answer (List ℕ)). and_then a (on_bytes T w)) e)
  read-turned at more early (refused_at n o) e = sym (turn-steps T w s at ∙ ap (λ (a : Answer (List ℕ)). and_then a (on_bytes T w)) e)

  last-turned : (at : ℕ) → at < length s
      → and_then (unless (last_test w.next) (round_at s (detectors w) at)) turned_by ≡ unless (last_test w.next) (turn_at T s w at)
  last-turned at more =
      whether (ltb w.next max_next)
      (λ t. rw t (read-turned at more (ltb-true w.next max_next t) (round_at s (detectors w) at) refl))
      (λ t. rw t)

  end-turned : (at : ℕ) → and_then (unless_ended s at (unless (last_test w.next) (round_at s (detectors w) at))) turned_by
      ≡ unless_ended s at (unless (last_test w.next) (turn_at T s w at))
  end-turned at =
      let x = unless (last_test w.next) (round_at s (detectors w) at) in
      let y = unless (last_test w.next) (turn_at T s w at) in
      whether (ltb at (length s))
      (λ t.
      let k = ltb-true at (length s) t in
      ap (λ (a : Answer (List ℕ)). and_then a turned_by) (before-end s at x k) ∙ last-turned at k ∙ sym (before-end s at y k))
      (λ t.
      let k = ltb-false at (length s) t in
      ap (λ (a : Answer (List ℕ)). and_then a turned_by) (none_left s at x k) ∙ sym (none_left s at y k))

  -- the window passes its tests
  tests_left : (at size to : ℕ) (a : Answer Turn) → unless (offset_tests s at size to) a ≡ unless (record_tests T s size w at to) a
  tests_left at size to a = rw (formed, rest)

  pub record-next : (at size to : ℕ)
      → recorded (size - to) (and_then (next_round s (detectors w) w.next at size to) (λ bytes next. done (turn_of T w bytes) next)) ≡ record_at T s size w at to
  unfolding record_at
  record-next at size to =
      ap (recorded (size - to))
      (after-tests (offset_tests s at size to) (unless_ended s at (unless (last_test w.next) (round_at s (detectors w) at))) turned_by
      ∙ ap (λ (a : Answer Turn). unless (offset_tests s at size to) a) (end-turned at)
      ∙ tests_left at size to (unless_ended s at (unless (last_test w.next) (turn_at T s w at))))
