-- ROUND AFTER ROUND from a window that calls reach: none is spent, and the window after it is one that calls reach. Assumes nothing.
use Prim.Native.Nat.{ℕ, zero, suc, ◌+◌, ◌-◌, ◌≤◌}
use Rattle.std.proofs.Common.{arith, sym, ◌∙◌, ap, subst}
use Rattle.std.specs.Prelude.{◌≡◌, refl, Bool, true, false, List, leb, ltb, replicate}
use Rattle.std.proofs.Math.ListN.{length}
use Rattle.refusal.specs.Answer.{Answer, done, ended, refused, refused_at, Code, plain, placed, unless, value_or}
use Rattle.refusal.specs.Done.{took}
use Rattle.refusal.specs.Holds.{done-holds}
use Rattle.shape.specs.Choice.{if}
use Rattle.shape.proofs.LawsIndex.{nodes-max}
use Rattle.shape.specs.declared.Shape.{Shape}
use Rattle.steps.specs.Steps.{Table}
use Rattle.steps.specs.Suited.{Suited}
use Rattle.record.specs.Records.{unless_ended, result}
use Rattle.window.specs.Calls.{Round, window_of, run_call}
use Rattle.window.specs.declared.Ran.{Ran}
use Rattle.window.specs.declared.Window.{Window}
use Rattle.law.specs.Law.{round, run}
use Rattle.bound.specs.Bound.{bound_of}
use Rattle.bound.specs.Reachable.{Reachable, reachable-call}
use Rattle.bound.proofs.Theorem.{run-done}
use Rattle.decoding.specs.Decoding.{Line, finished, turned_back, spent, budget, Turn, Recorded, wrote, stopped, record_written, recorded, turn_at, last_test, record_tests, record_at, Rounds, stop, after, rounds_from, rounds}
use Rattle.decoding.specs.LawsDecoding.{record-tested}
use Rattle.decoding.specs.LawsTurn.{detectors, edges}
use Rattle.decoding.proofs.LawsTurn.{turn-made}
use Rattle.account.specs.Account.{resumed_from}

-- a line of the decoding that is not spent
abbrev pub NotSpent : Line → Type 0
NotSpent l = l ≡ spent → ⊥

finishes : NotSpent finished
finishes e = let z : ◌≡◌ {A = ℕ} 0 1 = cc in omega arith

pub turns-back : (c : Code) → NotSpent (turned_back c)
turns-back c e = let z : ◌≡◌ {A = ℕ} 0 1 = cc in omega arith

module _ (T : Table) (S : Suited T) (sh : Shape) where
  -- the budget of a round is larger than the bound
  enough : bound_of sh ≤ budget
  enough = omega (arith, nodes-max sh.height sh.distance)

  -- ONE ROUND, received and run: it comes to rest
  record TurnRests (t : Turn) : Type 0 where
    rest : t.rest ≡ true
    reachable : Reachable T sh t.window

  module _ (w : Window) (r : Reachable T sh w) where
    run-reachable : (v : Ran) (z : ℕ) → run_call T w budget ≡ done v z → Reachable T sh v.window
    run-reachable v z e = subst (λ (a : Answer Ran). Reachable T sh (value_or a (λ r. r.window) w)) e (reachable-call T S sh w r (run budget))

    run-rests : (v : Ran) (z : ℕ) → run_call T w budget ≡ done v z → v.rest ≡ true
    run-rests v z e = let d = run-done T S sh w r budget v z e in ap (λ (x : Ran). x.rest) (sym d.0) ∙ d.1.rests budget enough

  turn-rests : (s : List ℕ) (w : Window) → Reachable T sh w → (at next : ℕ) (t : Turn) → turn_at T s w at ≡ done t next → TurnRests t
  turn-rests s w r at next t e =
      let m = turn-made T s w at t next e in
      let c = round m.sheet (replicate {A = ℕ} (edges T w) 0) (replicate {A = ℕ} (detectors w) 0) in
      let y : Reachable T sh m.round.window = subst (λ (a : Answer Round). Reachable T sh (value_or a window_of w)) m.receives.1 (reachable-call T S sh w r c) in
      subst TurnRests m.gives (record { rest = run-rests m.round.window y m.run m.runs.0 m.runs.1; reachable = run-reachable m.round.window y m.run m.runs.0 m.runs.1 })

  -- A RECORD
  abbrev RecordRests : Recorded → Type 0
  RecordRests (wrote bytes v next) = Reachable T sh v
  RecordRests (stopped l) = NotSpent l

  written-rests : (room : ℕ) (bytes : List ℕ) (w : Window) (next : ℕ) → Reachable T sh w → RecordRests (record_written room bytes w next)
  written-rests room bytes w next r = go (leb (length bytes) room)
    where
      go : (b : Bool) → RecordRests (if b (wrote bytes w next) (stopped (turned_back (plain 11))))
      go true = r
      go false = turns-back (plain 11)

  recorded-rests : (room : ℕ) (a : Answer Turn) → ((t : Turn) (next : ℕ) → a ≡ done t next → TurnRests t) → RecordRests (recorded room a)
  recorded-rests room ended h = finishes
  recorded-rests room (refused n) h = turns-back (plain n)
  recorded-rests room (refused_at n o) h = turns-back (placed n o)
  recorded-rests room (done t next) h =
      let x = h t next refl in
      subst (λ (b : Bool). RecordRests (if b (record_written room (result t.result) t.window next) (stopped spent))) (sym x.rest)
      (written-rests room (result t.result) t.window next x.reachable)

  module _ (s : List ℕ) (size : ℕ) where
    record-rests : (w : Window) (at to : ℕ) → Reachable T sh w → RecordRests (record_at T s size w at to)
    record-rests w at to r =
        subst RecordRests (sym (record-tested T s size w at to))
        (recorded-rests (size - to) (unless (record_tests T s size w at to) (unless_ended s at (unless (last_test w.next) (turn_at T s w at)))) (λ t next e.
        let a = done-holds (record_tests T s size w at to) (unless_ended s at (unless (last_test w.next) (turn_at T s w at))) t next e in
        let b = took (ltb at (length s)) (unless (last_test w.next) (turn_at T s w at)) ended t next refl a.1 in
        turn-rests s w r at next t (done-holds (last_test w.next) (turn_at T s w at) t next b.1).1))

    -- ROUND AFTER ROUND: how they end, and with which window
    pub record Unspent (r : Rounds) : Type 0 where
      pub line : NotSpent r.line
      pub reachable : Reachable T sh r.window

    from-unspent : (n : ℕ) (w : Window) (at to : ℕ) → Reachable T sh w → Unspent (rounds_from T s size n w at to)
    unfolding rounds_from
    from-unspent zero w at to r = record { line = finishes; reachable = r }
    from-unspent (suc n) w at to r = go (record_at T s size w at to) (record-rests w at to r) (λ v next i y. from-unspent n v next i y)
      where
        go : (x : Recorded) → RecordRests x → ((v : Window) (next i : ℕ) → Reachable T sh v → Unspent (rounds_from T s size n v next i))
            → Unspent (elim x [ wrote bytes v next ↦ after bytes (rounds_from T s size n v next (to + length bytes)) | stopped l ↦ stop l w at ])
        go (stopped l) f on = record { line = f; reachable = r }
        go (wrote bytes v next) f on = let u = on v next (to + length bytes) f in record { line = u.line; reachable = u.reachable }

    pub rounds-unspent : (w : Window) (at to : ℕ) → Reachable T sh w → Unspent (rounds T s size w at to)
    rounds-unspent w at to r = from-unspent (length s + 1) w at to r

    -- piece after piece
    pub pieces-unspent : (n : ℕ) (w : Window) (at to : ℕ) → Reachable T sh w → Unspent (resumed_from T s size n w at to)
    unfolding resumed_from
    pieces-unspent zero w at to r = rounds-unspent w at to r
    pieces-unspent (suc n) w at to r =
        let p = rounds T s size w at to in
        let u = pieces-unspent n p.window p.next 0 (rounds-unspent w at to r).reachable in
        record { line = u.line; reachable = u.reachable }
