-- Round after round: what a record that ends, or one that is written, makes of the rounds from its offset on. Assumes nothing.
use Rattle.std.specs.Prelude.{ℕ, ◌+◌, ◌-◌, ◌≤◌, ◌<◌, ◌≡◌, refl, true, false, List, [], ◌++◌, length}
use Rattle.std.proofs.Common.{add-zero, arith, sym, ◌∙◌, ap, length-append}
use Rattle.refusal.specs.Answer.{plain}
use Rattle.refusal.specs.Bytes.{Bytes}
use Rattle.refusal.specs.Done.{passes, fails}
use Rattle.refusal.specs.Writing.{laid}
use Rattle.steps.specs.Steps.{Table}
use Rattle.window.specs.Formed.{well_formed}
use Rattle.window.specs.Window.{is_rest}
use Rattle.window.specs.declared.Window.{Window}
use Rattle.decoding.specs.Decoding.{Line, turned_back, Recorded, wrote, stopped, recorded, record_at, Rounds, rounds}
use Rattle.decoding.specs.Answers.{RecordAnswer, over, RecordReturned, record_returned, recorded_leaves, record_leaves, RoundsReturned, rounds_returned, rounds_leave}
use Rattle.decoding.specs.Answers as answers
use Rattle.decoding.specs.LawsDecoding.{record-tested, record-unformed}
use Rattle.decoding.proofs.LawsDecoding.{record-forward, rounds-more, rounds-stop}
use Rattle.rounds_on.specs.Laid.{laid_none, laid-long, laid_more}

-- a record that is written: the rounds go on behind it
pub record PassedOn (T : Table) (s : List ℕ) (w : Window) (at : ℕ) (old : List ℕ) (to : ℕ) (v : Window) (next : ℕ) (new : List ℕ) (behind : ℕ) : Type 0 where
  pub forward : at < next
  pub inside : next ≤ length s
  pub long : length new ≡ length old
  pub same : rounds_leave T s w at old to ≡ rounds_leave T s v next new behind

module _ (T : Table) (s : List ℕ) (w : Window) (at : ℕ) (old : List ℕ) (to : ℕ) where
  abbrev entry : Recorded
  entry = record_at T s (length old) w at to

  -- what rounds leave in the buffer
  abbrev by : Rounds → RoundsReturned
  by r = rounds_returned r.line r.window r.next (to + length r.output) (laid old to r.output)

  stopped_by : (l : Line) → entry ≡ stopped l → rounds_returned l w at to old ≡ rounds_leave T s w at old to
  stopped_by l e =
      sym (ap by (rounds-stop T s (length old) w at to l e) ∙ ap (λ (n : ℕ). rounds_returned l w at n (laid old to [])) (add-zero to) ∙ ap (λ (o : List ℕ). rounds_returned l w at to o) (laid_none old to))

  -- 21
  pub pass-bad : well_formed T w ≡ false → rounds_returned (turned_back (plain 21)) w at to old ≡ rounds_leave T s w at old to
  pass-bad f = stopped_by (turned_back (plain 21)) (record-unformed T s (length old) w at to f)

  -- 22
  pub pass-stage : well_formed T w ≡ true → is_rest w.stage ≡ false → rounds_returned (turned_back (plain 22)) w at to old ≡ rounds_leave T s w at old to
  pass-stage f g = stopped_by (turned_back (plain 22)) (record-tested T s (length old) w at to ∙ ap (recorded (length old - to)) (passes _ _ f ∙ fails _ _ g))

  module _ (a : RecordAnswer) (v : Window) (new : List ℕ) (made : record_returned a v new ≡ record_leaves T s w at old to) where
    made_as : (r : Recorded) → entry ≡ r → record_returned a v new ≡ recorded_leaves r w old to
    made_as r e = made ∙ ap (λ (x : Recorded). recorded_leaves x w old to) e

    pub pass-stop : (l : Line) → a ≡ over l → rounds_returned l w at to new ≡ rounds_leave T s w at old to
    pass-stop l k = go entry refl
      where
        go : (r : Recorded) → entry ≡ r → rounds_returned l w at to new ≡ rounds_leave T s w at old to
        go (stopped o) e =
            let p : over l ≡ over o = sym k ∙ ap (λ (x : RecordReturned). x.answer) (made_as (stopped o) e) in
            let q : l ≡ o = cc p in
            let m : new ≡ old = ap (λ (x : RecordReturned). x.buffer) (made_as (stopped o) e) in
            rw (q, m) (stopped_by o e)
        go (wrote bytes u n) e =
            let p : over l ≡ answers.to n (to + length bytes) = sym k ∙ ap (λ (x : RecordReturned). x.answer) (made_as (wrote bytes u n) e) in
            let z : ◌≡◌ {A = ℕ} 0 1 = cc p in
            absurd (omega arith)

    pub pass_on : Bytes s → (next behind : ℕ) → a ≡ answers.to next behind → PassedOn T s w at old to v next new behind
    pass_on b next behind k = go entry refl
      where
        go : (r : Recorded) → entry ≡ r → PassedOn T s w at old to v next new behind
        go (stopped o) e =
            let p : answers.to next behind ≡ over o = sym k ∙ ap (λ (x : RecordReturned). x.answer) (made_as (stopped o) e) in
            let z : ◌≡◌ {A = ℕ} 0 1 = cc p in
            absurd (omega arith)
        go (wrote bytes u n) e =
            let y = made_as (wrote bytes u n) e in
            let p : answers.to next behind ≡ answers.to n (to + length bytes) = sym k ∙ ap (λ (x : RecordReturned). x.answer) y in
            let q : next ≡ n = cc p in
            let h : behind ≡ to + length bytes = cc p in
            let m : new ≡ laid old to bytes = ap (λ (x : RecordReturned). x.buffer) y in
            let x : v ≡ u = ap (λ (x : RecordReturned). x.window) y in
            let f = record-forward T s (length old) w at to bytes u n e b in
            let long : length (laid old to bytes) ≡ length old = laid-long old to bytes f.room in
            let rest : Rounds = rounds T s (length old) u n (to + length bytes) in
            let count : to + length (bytes ++ rest.output) ≡ to + length bytes + length rest.output = simp length-append (omega arith) in
            let on : rounds_leave T s w at old to ≡ rounds_returned rest.line rest.window rest.next (to + length bytes + length rest.output) (laid (laid old to bytes) (to + length bytes) rest.output) =
            ap by (rounds-more T s (length old) b w at to bytes u n e)
            ∙ ap (λ (i : ℕ). rounds_returned rest.line rest.window rest.next i (laid old to (bytes ++ rest.output))) count
            ∙ ap (λ (o : List ℕ). rounds_returned rest.line rest.window rest.next (to + length bytes + length rest.output) o) (sym (laid_more old to bytes f.room rest.output)) in
            record {
              forward = omega (arith, f.forward, q);
              inside = omega (arith, f.inside, q);
              long = ap length m ∙ long;
              same = rw (q, h, m, x, long) on;
            }
