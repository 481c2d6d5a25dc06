-- STATUS 0 of a decoding says that it finished, and 254 that a round is spent: no refusal in it has one of these numbers. Assumes nothing.
use Prim.Native.Nat.{ℕ, zero, suc, ◌+◌, ◌-◌, ◌*◌}
use Rattle.std.specs.Prelude.{◌≡◌, Bool, true, false, not, ◌&&◌, List, [], ◌∷◌, ltb, leb, eqb, get_or, set, replicate}
use Rattle.std.proofs.Math.Path.{refl}
use Rattle.std.proofs.Common.{sym, ◌∙◌, ap}
use Rattle.std.proofs.Math.ListN.{length}
use Rattle.refusal.specs.Answer.{Answer, done, ended, refused, refused_at, plain, by_code, status, unless, and_then}
use Rattle.refusal.specs.Laws.{undone}
use Rattle.number.specs.Number.{largest, most, group_at, in_slice, number_at}
use Rattle.list.specs.Sheet.{entries_at, list_at}
use Rattle.shape.specs.Choice.{if}
use Rattle.shape.specs.Sizes.{height_ok, distance_ok, model_ok}
use Rattle.steps.specs.Steps.{Table}
use Rattle.steps.specs.Models.{of_model}
use Rattle.shape.specs.declared.Shape.{Shape}
use Rattle.record.specs.Records.{header, on_model, on_distance, on_height, header_at, result}
use Rattle.window.specs.Window.{is_rest}
use Rattle.window.specs.Fresh.{fresh_window}
use Rattle.window.specs.Calls.{round_tests, state_tests, round_call, run_call}
use Rattle.window.specs.declared.Window.{Window}
use Rattle.decoding.specs.Decoding.{Line, finished, turned_back, spent, Turn, Recorded, wrote, stopped, recorded, turn_at, last_test, record_tests, record_at, Rounds, stop, after, rounds_from, nothing_written, Decoded, decoded}
use Rattle.decoding.specs.LawsTurn.{detectors}
use Rattle.decoding.proofs.LawsTurn.{on_ran, on_round, on_bytes}
use Rattle.decoding.specs.LawsDecoding.{on_header}
use Rattle.reply.specs.Reply.{concluded}

-- a refusal's number
abbrev is_code : ℕ → Bool
is_code n = ltb 0 n && ltb n 254

-- ANSWERS, by their steps and tests: every refusal has such a number

data Coded {A : Type 0} : Answer A → Type 0 where
  value : {v : A} {next : ℕ} → Coded (done v next)
  end : Coded ended
  number : {n : ℕ} → is_code n ≡ true → Coded (refused n)
  number-at : {n at : ℕ} → is_code n ≡ true → Coded (refused_at n at)

coded-then : {A B : Type 0} {a : Answer A} {f : A → ℕ → Answer B} → Coded a → ((v : A) (next : ℕ) → Coded (f v next)) → Coded (and_then a f)
coded-then value k = k _ _
coded-then end k = end
coded-then (number h) k = number h
coded-then (number-at h) k = number-at h

coded-test : {A : Type 0} (t : Bool) {a b : Answer A} → Coded a → Coded b → Coded {A = A} (elim t [ true ↦ a | false ↦ b ])
coded-test true h k = h
coded-test false h k = k

-- and so has each of these tests
abbrev Numbered : List (Bool × ℕ) → Type 0
Numbered [] = Unit {0}
Numbered (t ∷ ts) = (is_code t.1 ≡ true) × Numbered ts

coded-tests : {A : Type 0} (tests : List (Bool × ℕ)) {a : Answer A} → Numbered tests → Coded a → Coded (unless tests a)
coded-tests [] n h = h
coded-tests (t ∷ ts) n h = coded-test t.0 (coded-tests ts n.1 h) (number n.0)

-- WHAT IS READ

number-coded : (s : List ℕ) (at : ℕ) → Coded (number_at s at)
unfolding number_at group_at
number-coded s at = coded-tests (in_slice s at ∷ []) (refl, tt) (group most 1 0 at)
  where
    group : (left weight sum from : ℕ) → Coded (group_at s at left weight sum from)
    group zero weight sum from = number-at refl
    group (suc left) weight sum from =
        let x = get_or s from 0 in
        coded-test (ltb from (length s))
        (coded-test (ltb x 128)
        (coded-test (ltb 1 weight && eqb x 0) (number-at refl) (coded-test (leb (sum + weight * x) largest) value (number-at refl)))
        (group left (weight * 128) (sum + weight * (x - 128)) (from + 1)))
        (number-at refl)

list-coded : (s : List ℕ) (size at : ℕ) → Coded (list_at s size at)
unfolding list_at entries_at
list-coded s size at = coded-then (number-coded s at) (λ n next. coded-test (leb n size) (entry n 0 next (replicate size 0)) (number-at refl))
  where
    entry : (n from at : ℕ) (entries : List ℕ) → Coded (entries_at s n from at entries)
    entry zero from at entries = value
    entry (suc n) from at entries =
        coded-then (number-coded s at) (λ k next.
        coded-test (ltb (from + k) (length entries)) (entry n (from + k + 1) next (set entries (from + k) 1)) (number-at refl))

header-coded : (s : List ℕ) (at : ℕ) → Coded (header_at s at)
unfolding header_at
header-coded s at =
    coded-then {f = on_height s} (number-coded s at) (λ h next.
    coded-test (height_ok h)
    (coded-then {f = on_distance s h} (number-coded s next) (λ d last.
    coded-test (distance_ok d) (coded-then {f = on_model h d} (number-coded s last) (λ m behind. coded-test (model_ok m) value (number refl))) (number refl)))
    (number refl))

-- ONE RECORD

turn-coded : (T : Table) (s : List ℕ) (w : Window) (at : ℕ) → Coded (turn_at T s w at)
unfolding turn_at round_call run_call
turn-coded T s w at =
    coded-then {f = on_bytes T w} (coded-test (ltb at (length s)) (list-coded s (detectors w) at) end) (λ bytes next.
    coded-then {f = on_round T w next} (coded-tests (round_tests T w bytes _ _) (refl, (refl, (refl, (refl, (refl, (refl, (refl, tt))))))) value) (λ r z.
    coded-then {f = on_ran T w r next} (coded-tests (state_tests T r.window (not (is_rest r.window.stage))) (refl, (refl, tt)) value) (λ v z. value)))

-- how a decoding ends
abbrev LineCoded : Line → Type 0
LineCoded finished = Unit {0}
LineCoded spent = Unit {0}
LineCoded (turned_back c) = is_code (status (by_code {A = Unit {0}} c)) ≡ true

abbrev RecordCoded : Recorded → Type 0
RecordCoded (wrote bytes v next) = Unit {0}
RecordCoded (stopped l) = LineCoded l

-- a property of what a test chooses
by-test : {A : Type 0} (P : A → Type 0) (t : Bool) (a b : A) → P a → P b → P (if t a b)
by-test P true a b h k = h
by-test P false a b h k = k

recorded-coded : (room : ℕ) {a : Answer Turn} → Coded a → RecordCoded (recorded room a)
recorded-coded room end = tt
recorded-coded room (number h) = h
recorded-coded room (number-at h) = h
recorded-coded room (value {v = t}) = by-test RecordCoded t.rest _ (stopped spent) (by-test RecordCoded (leb (length (result t.result)) room) _ _ tt refl) tt

module _ (T : Table) (s : List ℕ) (size : ℕ) where
  record-coded : (w : Window) (at to : ℕ) → RecordCoded (record_at T s size w at to)
  unfolding record_at
  record-coded w at to =
      recorded-coded (size - to)
      (coded-tests (record_tests T s size w at to) (refl, (refl, (refl, (refl, tt))))
      (coded-test (ltb at (length s)) (coded-tests (last_test w.next) (refl, tt) (turn-coded T s w at)) end))

  -- ROUND AFTER ROUND

  abbrev RoundsCoded : Rounds → Type 0
  RoundsCoded r = LineCoded r.line

  from-coded : (n : ℕ) (w : Window) (at to : ℕ) → RoundsCoded (rounds_from T s size n w at to)
  unfolding rounds_from
  from-coded zero w at to = tt
  from-coded (suc n) w at to = go (record_at T s size w at to) (record-coded w at to) (λ v next behind. from-coded n v next behind)
    where
      go : (r : Recorded) → RecordCoded r → ((v : Window) (next behind : ℕ) → RoundsCoded (rounds_from T s size n v next behind))
          → RoundsCoded (elim r [ wrote bytes v next ↦ after bytes (rounds_from T s size n v next (to + length bytes)) | stopped l ↦ stop l w at ])
      go (wrote bytes v next) h on = on v next (to + length bytes)
      go (stopped l) h on = h

-- THE WHOLE STREAM, by the model in its header

module _ (s : List ℕ) (size : ℕ) where
  decoded-coded : LineCoded (decoded s size).line
  unfolding decoded
  decoded-coded = go (header-coded s 0)
    where
      go : {a : Answer Shape} → Coded a → LineCoded (on_header s size a).line
      go end = refl
      go (number h) = h
      go (number-at h) = h
      go (value {v = sh} {next = next}) =
          by-test (λ (d : Decoded). LineCoded d.line) (leb (length (header sh)) size) _ (nothing_written (plain 11))
          (from-coded (of_model sh.model) s size (length s + 1) (fresh_window (of_model sh.model) sh) next (length (header sh))) refl

  -- what a caller sees of it
  pub status-finished : (place : ℕ) → (concluded (decoded s size).line place).status ≡ 0 → (decoded s size).line ≡ finished
  status-finished place e = go (decoded s size).line decoded-coded (ap is_code e) (ap (λ (n : ℕ). eqb n 254) e)
    where
      go : (l : Line) → LineCoded l → is_code (concluded l place).status ≡ false → eqb (concluded l place).status 254 ≡ false → l ≡ finished
      go finished h e f = refl
      go spent h e f = absurd (undone f)
      go (turned_back c) h e f = absurd (undone (sym h ∙ e))

  pub status-spent : (place : ℕ) → (concluded (decoded s size).line place).status ≡ 254 → (decoded s size).line ≡ spent
  status-spent place e = go (decoded s size).line decoded-coded (ap is_code e) (ap (λ (n : ℕ). eqb n 0) e)
    where
      go : (l : Line) → LineCoded l → is_code (concluded l place).status ≡ false → eqb (concluded l place).status 0 ≡ false → l ≡ spent
      go finished h e f = absurd (undone f)
      go spent h e f = refl
      go (turned_back c) h e f = absurd (undone (sym h ∙ e))
