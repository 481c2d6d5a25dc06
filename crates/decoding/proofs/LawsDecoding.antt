-- Laws of the decoding: one record by its tests and its round, round after round, and the whole stream. Assumes nothing.
use Rattle.std.specs.Prelude.{ℕ, zero, suc, ◌+◌, ◌-◌, ◌≤◌, ◌<◌, ◌≡◌, Bool, true, false, List, ltb, leb, length}
use Rattle.std.proofs.Common.{add-one, arith, sym, ◌∙◌, ap, ltb-true, leb-true, le-leb}
use Rattle.std.proofs.Math.Path.{refl}
use Rattle.refusal.specs.Answer.{Answer, done, ended, refused, refused_at, Code, plain, code_of, by_code, turned, unless}
use Rattle.refusal.specs.Bytes.{Bytes}
use Rattle.refusal.specs.Done.{took}
use Rattle.refusal.specs.Laws.{each}
use Rattle.refusal.specs.declared.Refusal.{Refusal}
use Rattle.refusal.specs.Holds.{Hold, hold-pass, done-holds}
use Rattle.list.specs.Sheet.{list_at}
use Rattle.list.specs.Trip.{ListWrites, list-writes}
use Rattle.shape.specs.Choice.{if, if-true, if-false}
use Rattle.steps.specs.Steps.{Table}
use Rattle.steps.specs.Models.{of_model}
use Rattle.shape.specs.declared.Shape.{Shape}
use Rattle.record.specs.Records.{header, header_at, unless_ended, round_at, result}
use Rattle.window.specs.Window.{max_next}
use Rattle.window.specs.Fresh.{fresh_window}
use Rattle.window.specs.declared.Window.{Window}
use Rattle.decoding.specs.Decoding.{Line, turned_back, spent, Turn, Recorded, wrote, stopped, record_written, recorded, turn_at, last_test, record_at, stop, after, rounds_from, rounds, nothing_written, behind, decoded}
use Rattle.decoding.specs.LawsTurn.{detectors}
use Rattle.decoding.proofs.LawsTurn.{turn-made}
use Rattle.decoding.specs.LawsDecoding.{Forward, Written, asked, on_header, record-tested, record-turn, unless_last}

-- ONE RECORD

pub recorded-turned : (room : ℕ) (f : Refusal) → recorded room (turned f) ≡ stopped (turned_back (code_of f))
recorded-turned room f = each (λ (k : Code). recorded room (by_code k) ≡ stopped (turned_back k)) (λ n. refl) (λ n at. refl) f

recorded-written : (room : ℕ) (a : Answer Turn) (bytes : List ℕ) (v : Window) (next : ℕ) → recorded room a ≡ wrote bytes v next → Written room a bytes v next
recorded-written room ended bytes v next e = let z : ◌≡◌ {A = ℕ} 0 1 = cc in absurd (omega arith)
recorded-written room (refused n) bytes v next e = let z : ◌≡◌ {A = ℕ} 0 1 = cc in absurd (omega arith)
recorded-written room (refused_at n o) bytes v next e = let z : ◌≡◌ {A = ℕ} 0 1 = cc in absurd (omega arith)
recorded-written room (done t n) bytes v next e = by-rest t.rest refl e
  where
    bytes' : List ℕ
    bytes' = result t.result

    by-room : t.rest ≡ true → (b : Bool) → leb (length bytes') room ≡ b → if b (wrote bytes' t.window n) (stopped (turned_back (plain 11))) ≡ wrote bytes v next
        → Written room (done t n) bytes v next
    by-room r true l e =
        let p : bytes' ≡ bytes = cc in
        let q : n ≡ next = cc in
        record { turn = t; answer = ap (λ (m : ℕ). done t m) q; rest = r; made = sym p; window = cc; fits = rw (← p) (leb-true _ _ l) }
    by-room r false l e = let z : ◌≡◌ {A = ℕ} 0 1 = cc in absurd (omega arith)

    by-rest : (b : Bool) → t.rest ≡ b → if b (record_written room bytes' t.window n) (stopped spent) ≡ wrote bytes v next → Written room (done t n) bytes v next
    by-rest true r e = by-room r (leb (length bytes') room) refl e
    by-rest false r e = let z : ◌≡◌ {A = ℕ} 0 1 = cc in absurd (omega arith)

-- more room changes nothing
recorded-wider : (room more : ℕ) (t : Turn) (n : ℕ) (bytes : List ℕ) (v : Window) (next : ℕ) → room ≤ more → recorded room (done t n) ≡ wrote bytes v next
    → recorded more (done t n) ≡ wrote bytes v next
recorded-wider room more t n bytes v next l e = by-rest t.rest e
  where
    bytes' : List ℕ
    bytes' = result t.result

    by-room : (b : Bool) → leb (length bytes') room ≡ b → if b (wrote bytes' t.window n) (stopped (turned_back (plain 11))) ≡ wrote bytes v next
        → record_written more bytes' t.window n ≡ wrote bytes v next
    by-room true k e = let m = leb-true (length bytes') room k in if-true _ _ _ (le-leb (length bytes') more (omega arith)) ∙ e
    by-room false k e = let z : ◌≡◌ {A = ℕ} 0 1 = cc in absurd (omega arith)

    by-rest : (b : Bool) → if b (record_written room bytes' t.window n) (stopped spent) ≡ wrote bytes v next
        → if b (record_written more bytes' t.window n) (stopped spent) ≡ wrote bytes v next
    by-rest true e = by-room (leb (length bytes') room) refl e
    by-rest false e = let z : ◌≡◌ {A = ℕ} 0 1 = cc in absurd (omega arith)

module _ (T : Table) (s : List ℕ) (w : Window) (at : ℕ) where
  -- the round that a turn was made of ends where the turn does
  turn-next : (t : Turn) (next : ℕ) → turn_at T s w at ≡ done t next → (bytes : List ℕ) × (round_at s (detectors w) at ≡ done bytes next)
  turn-next t next e = let m = turn-made T s w at t next e in (m.sheet, m.reads)

module _ (T : Table) (s : List ℕ) (size : ℕ) (w : Window) (at to : ℕ) (bytes : List ℕ) (v : Window) (next : ℕ) (e : record_at T s size w at to ≡ wrote bytes v next) where
  behind-tests : Written (size - to) (unless (asked T s size w at to) (unless_ended s at (unless_last T s w at))) bytes v next
  behind-tests = recorded-written (size - to) _ bytes v next (sym (record-tested T s size w at to) ∙ e)

  -- the tests before the end held, bytes were left, and a round could follow
  record Asked : Type 0 where
    tests : Hold (asked T s size w at to)
    more : at < length s
    early : w.next < max_next
    turn : turn_at T s w at ≡ done behind-tests.turn next

  record-asked : Asked
  record-asked =
      let t = behind-tests.turn in
      let a = done-holds (asked T s size w at to) (unless_ended s at (unless_last T s w at)) t next behind-tests.answer in
      let b = took (ltb at (length s)) (unless_last T s w at) ended t next refl a.1 in
      let c = done-holds (last_test w.next) (turn_at T s w at) t next b.1 in
      record { tests = a.0; more = ltb-true at (length s) b.0; early = ltb-true w.next max_next c.0.0; turn = c.1 }

  pub record-written : Written (size - to) (turn_at T s w at) bytes v next
  record-written =
      let x = behind-tests in
      record { turn = x.turn; answer = record-asked.turn; rest = x.rest; made = x.made; window = x.window; fits = x.fits }

  -- it is the same where there is more room
  pub record-wider : (size' to' : ℕ) → size - to ≤ size' - to' → to' ≤ size' → record_at T s size' w at to' ≡ wrote bytes v next
  record-wider size' to' l m =
      let h = record-asked.tests in
      let t = record-written.turn in
      record-turn T s size' w at to' (hold-pass (asked T s size' w at to') (h.0, (h.1.0, (h.1.1.0, (le-leb to' size' m, tt))))) record-asked.more record-asked.early
      ∙ ap (recorded (size' - to')) record-written.answer
      ∙ recorded-wider (size - to) (size' - to') t next bytes v next l
      (sym (ap (recorded (size - to)) record-written.answer) ∙ sym (record-turn T s size w at to (hold-pass (asked T s size w at to) h) record-asked.more record-asked.early) ∙ e)

  -- its round was read, of a stream of bytes
  module _ (b : Bytes s) where
    record-round : (sheet : List ℕ) × (round_at s (detectors w) at ≡ done sheet next)
    record-round = turn-next T s w at record-written.turn next record-written.answer

    record-sheet : ListWrites s (detectors w) at record-round.0 next
    record-sheet = list-writes s (detectors w) at record-round.0 next b (took (ltb at (length s)) (list_at s (detectors w) at) ended record-round.0 next refl record-round.1).1

    pub record-forward : Forward s size at to next bytes
    record-forward =
        let m = leb-true to size record-asked.tests.1.1.1.0 in
        record { forward = record-sheet.forward; inside = record-sheet.inside; room = omega (arith, record-written.fits) }

-- ROUND AFTER ROUND

module _ (T : Table) (s : List ℕ) (size : ℕ) where
  module _ (n : ℕ) (w : Window) (at to : ℕ) where
    from-stop : (l : Line) → record_at T s size w at to ≡ stopped l → rounds_from T s size (suc n) w at to ≡ stop l w at
    unfolding rounds_from
    from-stop l e = rw (e, rounds_from)

    from_more : (bytes : List ℕ) (v : Window) (next : ℕ) → record_at T s size w at to ≡ wrote bytes v next
        → rounds_from T s size (suc n) w at to ≡ after bytes (rounds_from T s size n v next (to + length bytes))
    unfolding rounds_from
    from_more bytes v next e = rw (e, rounds_from)

  -- more than the bytes left are enough
  module _ (b : Bytes s) where
    from-same : (n m : ℕ) (w : Window) (at to : ℕ) → length s - at < n → length s - at < m → rounds_from T s size n w at to ≡ rounds_from T s size m w at to
    from-same zero m w at to l k = absurd (omega arith)
    from-same (suc n) zero w at to l k = absurd (omega arith)
    from-same (suc n) (suc m) w at to l k = go (record_at T s size w at to) refl (λ v next behind. from-same n m v next behind)
      where
        go : (r : Recorded) → record_at T s size w at to ≡ r
            → ((v : Window) (next behind : ℕ) → length s - next < n → length s - next < m → rounds_from T s size n v next behind ≡ rounds_from T s size m v next behind)
            → rounds_from T s size (suc n) w at to ≡ rounds_from T s size (suc m) w at to
        go (stopped o) e on = from-stop n w at to o e ∙ sym (from-stop m w at to o e)
        go (wrote bytes v next) e on =
            let f = record-forward T s size w at to bytes v next e b in
            from_more n w at to bytes v next e
            ∙ ap (after bytes) (on v next (to + length bytes) (omega (arith, f.forward, f.inside)) (omega (arith, f.forward, f.inside)))
            ∙ sym (from_more m w at to bytes v next e)

    pub rounds-more : (w : Window) (at to : ℕ) (bytes : List ℕ) (v : Window) (next : ℕ) → record_at T s size w at to ≡ wrote bytes v next
        → rounds T s size w at to ≡ after bytes (rounds T s size v next (to + length bytes))
    rounds-more w at to bytes v next e =
        let f = record-forward T s size w at to bytes v next e b in
        ap (λ (n : ℕ). rounds_from T s size n w at to) (add-one (length s))
        ∙ from_more (length s) w at to bytes v next e
        ∙ ap (after bytes) (from-same (length s) (length s + 1) v next (to + length bytes) (omega (arith, f.forward, f.inside)) (omega arith))

  pub rounds-stop : (w : Window) (at to : ℕ) (l : Line) → record_at T s size w at to ≡ stopped l → rounds T s size w at to ≡ stop l w at
  rounds-stop w at to l e = ap (λ (n : ℕ). rounds_from T s size n w at to) (add-one (length s)) ∙ from-stop (length s) w at to l e

module _ (s : List ℕ) (size : ℕ) where
  pub by-header : decoded s size ≡ on_header s size (header_at s 0)
  unfolding decoded
  by-header = refl

  pub decoded-turned : (f : Refusal) → header_at s 0 ≡ turned f → decoded s size ≡ nothing_written (code_of f)
  decoded-turned f e = by-header ∙ ap (on_header s size) e ∙ each (λ (k : Code). on_header s size (by_code k) ≡ nothing_written k) (λ n. refl) (λ n at. refl) f

  module _ (sh : Shape) (next : ℕ) (e : header_at s 0 ≡ done sh next) where
    pub decoded-full : leb (length (header sh)) size ≡ false → decoded s size ≡ nothing_written (plain 11)
    decoded-full l = by-header ∙ ap (on_header s size) e ∙ if-false _ _ _ l

    pub decoded-on : leb (length (header sh)) size ≡ true → decoded s size ≡ behind (header sh) (rounds (of_model sh.model) s size (fresh_window (of_model sh.model) sh) next (length (header sh)))
    decoded-on l = by-header ∙ ap (on_header s size) e ∙ if-true _ _ _ l
