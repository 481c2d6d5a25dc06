-- `rounds_on::rounds_on` meets its contract: before each turn of the loop the first set holds the window. Assumes nothing.
use mathlib.Core.Path.{ap}
use native.Mathlib.Omega.{arith}
use Rattle.refusal.specs.Bytes.{Bytes}
use Rattle.decoding.specs.Answers.{line_of, record_answer}
use Rattle.rounds_on.specs.Rounds.{begins, stops, goes-forward, goes-inside, goes}
use Rattle.rounds_on.proofs.rounds_on.Goals as goal

pub records-init : goal.records-init
records-init c = begins _ _ _ _ _ _ _ _ _ _ _ _ _ c.requires

pub returns-in-Err : goal.returns-in-Err
returns-in-Err c = stops _ _ _ _ _ _ _ _ _ _ _ _ _ _ _ _ _ _ _ _ c.records.invariant _ _ _ _ _ _ _ c.record_on-forth.ensures.recorded (line_of c.in-Err.ending) (ap record_answer c.in-Err.is)

pub returns-in-Err-back : goal.returns-in-Err-back
returns-in-Err-back c =
    let stream : Bytes c.args.src.now = λ i h. omega (arith, c.type_inv.src i) in
    let there = goes _ _ _ _ _ _ _ _ _ _ _ _ _ _ _ _ _ _ _ _ c.records.invariant _ _ _ _ _ _ _ c.record_on-forth.ensures.recorded stream _ _ (ap record_answer c.in-Ok.is) in
    stops _ _ _ _ _ _ _ _ _ _ _ _ _ _ _ _ _ _ _ _ there _ _ _ _ _ _ _ c.record_on-back.ensures.recorded (line_of c.in-Err-back.ending) (ap record_answer c.in-Err-back.is)

pub records-smaller : goal.records-smaller
records-smaller c =
    let stream : Bytes c.args.src.now = λ i h. omega (arith, c.type_inv.src i) in
    let there = goes _ _ _ _ _ _ _ _ _ _ _ _ _ _ _ _ _ _ _ _ c.records.invariant _ _ _ _ _ _ _ c.record_on-forth.ensures.recorded stream _ _ (ap record_answer c.in-Ok.is) in
    let first = goes-forward _ _ _ _ _ _ _ _ _ _ _ _ _ _ _ _ _ _ _ _ c.records.invariant _ _ _ _ _ _ _ c.record_on-forth.ensures.recorded stream _ _ (ap record_answer c.in-Ok.is) in
    let second = goes-forward _ _ _ _ _ _ _ _ _ _ _ _ _ _ _ _ _ _ _ _ there _ _ _ _ _ _ _ c.record_on-back.ensures.recorded stream _ _ (ap record_answer c.in-Ok-back.is) in
    let inside = goes-inside _ _ _ _ _ _ _ _ _ _ _ _ _ _ _ _ _ _ _ _ there _ _ _ _ _ _ _ c.record_on-back.ensures.recorded stream _ _ (ap record_answer c.in-Ok-back.is) in
    omega (arith, first, second, inside)

pub records-preserved : goal.records-preserved
records-preserved c =
    let stream : Bytes c.args.src.now = λ i h. omega (arith, c.type_inv.src i) in
    let there = goes _ _ _ _ _ _ _ _ _ _ _ _ _ _ _ _ _ _ _ _ c.records.invariant _ _ _ _ _ _ _ c.record_on-forth.ensures.recorded stream _ _ (ap record_answer c.in-Ok.is) in
    goes _ _ _ _ _ _ _ _ _ _ _ _ _ _ _ _ _ _ _ _ there _ _ _ _ _ _ _ c.record_on-back.ensures.recorded stream _ _ (ap record_answer c.in-Ok-back.is)
