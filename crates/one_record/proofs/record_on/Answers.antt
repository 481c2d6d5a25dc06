-- `one_record::record_on` meets its contract: nothing to receive, or a round that is run and whose record is written. Assumes nothing.
use mathlib.Core.Path.{◌≡◌, refl, sym, ◌∙◌, ap, subst}
use mathlib.Core.Bool.{true}
use Prim.Native.Nat.{ℕ, ◌+◌, ◌≤◌}
use native.Mathlib.Omega.{arith}
use mathlib.Core.List.{List}
use lib.Seq.{length-take-le}
use lib.ListN.{length, take, replicate}
use Rattle.std.specs.Prelude.{Result, Ok}
use Rattle.refusal.specs.Answer.{done}
use Rattle.refusal.specs.Bytes.{Bytes}
use Rattle.shape.proofs.LawsSizes.{detectors-le}
use Rattle.shape.proofs.Ranges.{ranged}
use Rattle.shape.specs.Sizes.{max_detectors}
use Rattle.window.specs.LawsLists.{Fills, part-back}
use Rattle.list.specs.Sheet.{read_into}
use Rattle.record.specs.Calls.{round_answer}
use Rattle.decoding.specs.declared.Ending.TheVariants.{Finished, Refused}
use Rattle.decoding.specs.Answers.{line_of, record_answer}
use Rattle.flat.specs.Structs.{plan_in, state_in}
use Rattle.decoding.specs.declared.Ending.{Ending}
use Rattle.one_record.specs.RecordOf.{RecordOf}
use Rattle.one_record.specs.RecordOn.{RecordOn}
use Rattle.next_round.specs.Next.{next_round}
use Rattle.next_round.specs.Laws.{next-found}
use Rattle.one_record.proofs.Kept.{take-zeros, ended-as, in-case, none-found, one-found, read_answer, read_done, on-end, on-refused, on_read, on-ended}
use Rattle.one_record.proofs.record_on.Goals as goal

-- the round's bytes are a part of the array
lent : (n : ℕ) → n ≤ max_detectors → length (take n (replicate {A = ℕ} max_detectors 0)) ≡ n
lent n l = length-take-le _ _ l

pub next_round-requires : goal.next_round-requires
next_round-requires c =
    let sh = c.args.laid.now.shape in
    let n = c.detectors-n.result in
    let l : n ≤ max_detectors = omega (arith, c.detectors-n.ensures, detectors-le sh.height sh.distance (ranged _ _ c.requires.range.sizes)) in
    take-zeros n max_detectors l ∙ ap (λ (m : ℕ). replicate {A = ℕ} m 0) (sym (lent n l))

pub returns-in_err-round : goal.returns-in_err-round
returns-in_err-round c =
    let a = c.args in
    let sh = a.laid.now.shape in
    let n = c.detectors-n.result in
    let l : n ≤ max_detectors = omega (arith, c.detectors-n.ensures, detectors-le sh.height sh.distance (ranged _ _ c.requires.range.sizes)) in
    let stream : Bytes a.src.now = λ i h. omega (arith, c.type_inv.src i) in
    let f = c.in_err-round.field-0.0 in
    let told = c.next_round.ensures ∙ ap (λ (m : ℕ). read_into (next_round a.src.now m a.held.now.next a.at (length a.out.now) a.to) c.next_round.new.bytes) (lent n l ∙ c.detectors-n.ensures) in
    let e = ended-as c.from_residual.result (Refused f) c.from_residual.ensures.0 c.from_residual.ensures.1 in
    record { recorded = rw e (on-refused (plan_in a.laid.now.layout) sh a.held.now.next a.old.now a.held.now.rides a.held.now.quiet a.src.now stream a.at a.out.now a.to a.new.now c.requires.free a.work.now c.requires.scratch f (read_answer _ c.next_round.result _ told ∙ ap round_answer (c.in_err-round.was))); kept = in-case _ refl }

pub returns-in_err-behind : goal.returns-in_err-behind
returns-in_err-behind c =
    let a = c.args in
    let sh = a.laid.now.shape in
    let n = c.detectors-n.result in
    let l : n ≤ max_detectors = omega (arith, c.detectors-n.ensures, detectors-le sh.height sh.distance (ranged _ _ c.requires.range.sizes)) in
    let stream : Bytes a.src.now = λ i h. omega (arith, c.type_inv.src i) in
    let told = c.next_round.ensures ∙ ap (λ (m : ℕ). read_into (next_round a.src.now m a.held.now.next a.at (length a.out.now) a.to) c.next_round.new.bytes) (lent n l ∙ c.detectors-n.ensures) in
    let none = none-found c.in_ok-round.round Finished c.in_err-behind.field-0.0 (sym c.ok_or.ensures.value ∙ c.in_err-behind.was) in
    let e = ended-as c.from_residual-in_err-behind.result c.in_err-behind.field-0.0 c.from_residual-in_err-behind.ensures.0 c.from_residual-in_err-behind.ensures.1 in
    record { recorded = rw (e, none.1) (on-end (plan_in a.laid.now.layout) sh a.held.now.next a.old.now a.held.now.rides a.held.now.quiet a.src.now stream a.at a.out.now a.to a.new.now c.requires.free a.work.now c.requires.scratch (read_answer _ c.next_round.result _ told ∙ ap round_answer (c.in_ok-round.was ∙ ap Ok none.0))); kept = in-case _ refl }

pub returns-in_err-offsets : goal.returns-in_err-offsets
returns-in_err-offsets c =
    let a = c.args in
    let sh = a.laid.now.shape in
    let n = c.detectors-n.result in
    let l : n ≤ max_detectors = omega (arith, c.detectors-n.ensures, detectors-le sh.height sh.distance (ranged _ _ c.requires.range.sizes)) in
    let stream : Bytes a.src.now = λ i h. omega (arith, c.type_inv.src i) in
    let told = c.next_round.ensures ∙ ap (λ (m : ℕ). read_into (next_round a.src.now m a.held.now.next a.at (length a.out.now) a.to) c.next_round.new.bytes) (lent n l ∙ c.detectors-n.ensures) in
    let behind = c.in_ok-behind.behind in
    let some = one-found c.in_ok-round.round Finished behind (sym c.ok_or.ensures.value ∙ c.in_ok-behind.was) in
    let done_as = read_done _ c.next_round.result _ told behind (c.in_ok-round.was ∙ ap Ok some) in
    let found = next-found a.src.now stream _ _ a.at _ _ _ behind done_as in
    let full : Fills n c.next_round.new.bytes = record { long = found.long ∙ sym c.detectors-n.ensures } in
    let read = done_as ∙ ap (λ (b : List ℕ). done b behind) (sym (part-back full _)) in
    let x = c.in_err-offsets.field-0.0 in
    let e = ended-as c.from_residual-in_err-offsets.result x c.from_residual-in_err-offsets.ensures.0 c.from_residual-in_err-offsets.ensures.1 in
    record {
      recorded =
          on-ended (plan_in a.laid.now.layout) sh a.held.now.next a.old.now a.held.now.rides a.held.now.quiet a.src.now stream a.at a.out.now a.to _ behind read _ _ _ _ c.turn-ended.ensures _ _
          (subst (λ (r : Result (ℕ × ℕ) Ending). RecordOf sh a.old.now.nodes a.old.now.edges c.turn-ended.result.rest c.turn-ended.result.count behind a.out.now a.to (record_answer r) c.record_of.new.out) (c.in_err-offsets.was ∙ sym e) c.record_of.ensures)
          _ _ (line_of x) (ap record_answer e);
      kept = in-case _ refl;
    }

pub returns : goal.returns
returns c =
    let a = c.args in
    let sh = a.laid.now.shape in
    let n = c.detectors-n.result in
    let l : n ≤ max_detectors = omega (arith, c.detectors-n.ensures, detectors-le sh.height sh.distance (ranged _ _ c.requires.range.sizes)) in
    let stream : Bytes a.src.now = λ i h. omega (arith, c.type_inv.src i) in
    let told = c.next_round.ensures ∙ ap (λ (m : ℕ). read_into (next_round a.src.now m a.held.now.next a.at (length a.out.now) a.to) c.next_round.new.bytes) (lent n l ∙ c.detectors-n.ensures) in
    let behind = c.in_ok-behind.behind in
    let some = one-found c.in_ok-round.round Finished behind (sym c.ok_or.ensures.value ∙ c.in_ok-behind.was) in
    let done_as = read_done _ c.next_round.result _ told behind (c.in_ok-round.was ∙ ap Ok some) in
    let found = next-found a.src.now stream _ _ a.at _ _ _ behind done_as in
    let full : Fills n c.next_round.new.bytes = record { long = found.long ∙ sym c.detectors-n.ensures } in
    let read = done_as ∙ ap (λ (b : List ℕ). done b behind) (sym (part-back full _)) in
    record {
      recorded =
          subst
          (λ (r : Result (ℕ × ℕ) Ending). RecordOn (plan_in a.laid.now.layout) sh a.held.now.next (state_in a.old.now) a.held.now.rides a.held.now.quiet a.src.now a.at a.out.now a.to (record_answer r) c.record_of.new.out (a.held.now.next + 1) a.held.now.rides true c.turn-ended.new.new c.turn-ended.new.work)
          c.in_ok-offsets.was
          (on_read (plan_in a.laid.now.layout) sh a.held.now.next a.old.now a.held.now.rides a.held.now.quiet a.src.now stream a.at a.out.now a.to _ behind read _ _ _ _ c.turn-ended.ensures _ _ c.record_of.ensures);
      kept = tt;
    }
