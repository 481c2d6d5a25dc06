-- `session::decode` meets its contract: the header refused, without room, or with the rounds behind it. Assumes nothing.
use mathlib.Core.Path.{sym, ◌∙◌, ap}
use native.Mathlib.Omega.{arith}
use Rattle.record.specs.Calls.{header_answer}
use Rattle.decoding.specs.Answers.{line_of}
use Rattle.session.proofs.Whole.{Put, range, header_refused, header-full, rounds-behind}
use Rattle.session.proofs.decode.Goals as goal

pub returns-in-Err : goal.returns-in-Err
returns-in-Err c = header_refused c.args.src.now c.args.out.now c.read_header.result c.read_header.ensures c.in-Err.f c.in-Err.is

pub returns-in-Err-write_header : goal.returns-in-Err-write_header
returns-in-Err-write_header c =
    let put : Put c.args.src.now c.args.out.now c.in-Ok.shape c.in-Ok.next c.write_header.result c.write_header.new.out =
    record { stream = λ i h. omega (arith, c.type_inv.src i); read = sym c.read_header.ensures ∙ ap header_answer c.in-Ok.is; put = c.write_header.ensures } in
    header-full _ _ _ _ _ _ put c.in-Err-write_header.f c.in-Err-write_header.is

pub decode_fresh-r-requires : goal.decode_fresh-r-requires
decode_fresh-r-requires c =
    let put : Put c.args.src.now c.args.out.now c.in-Ok.shape c.in-Ok.next c.write_header.result c.write_header.new.out =
    record { stream = λ i h. omega (arith, c.type_inv.src i); read = sym c.read_header.ensures ∙ ap header_answer c.in-Ok.is; put = c.write_header.ensures } in
    range _ _ _ _ _ _ put

pub returns-in-Ok-write_header : goal.returns-in-Ok-write_header
returns-in-Ok-write_header c =
    let put : Put c.args.src.now c.args.out.now c.in-Ok.shape c.in-Ok.next c.write_header.result c.write_header.new.out =
    record { stream = λ i h. omega (arith, c.type_inv.src i); read = sym c.read_header.ensures ∙ ap header_answer c.in-Ok.is; put = c.write_header.ensures } in
    let r = c.decode_fresh-r in
    rounds-behind _ _ _ _ _ _ put c.in-Ok-write_header.to c.in-Ok-write_header.is (line_of r.result.ending) r.result.at r.result.to _ r.ensures
