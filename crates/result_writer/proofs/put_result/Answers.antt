-- `result_writer::put_result` meets its contract: the edges, the escapes, then the steps, each in the tail. Assumes nothing.
use Rattle.std.proofs.Common.{refl, sym, length, ◌≤◌, arith, Some}
use Rattle.refusal.specs.Filling.{front-full}
use Rattle.refusal.specs.Parts.{is-some, three-inside, three-room, three-next, three-last, three-within, three-done}
use Rattle.number.specs.Number.{written}
use Rattle.list.specs.Sheet.{listed}
use Rattle.record.specs.Records.{result}
use Rattle.record.specs.Calls.{as_result}
use Rattle.record.proofs.Laws.{result-is, result-long}
use Rattle.result_writer.proofs.put_result.Goals as goal

pub returns-then-room-edges : goal.returns-then-room-edges
returns-then-room-edges c =
    let r = as_result c.args.edges.entries.now c.args.escapes.entries.now c.args.steps in
    sym (front-full c.args.out.now (result r) (omega (arith, result-long r, c.args.edges.measured.bytes-are, c.if-room-edges.true)))

pub returns-then-room-edges-2 : goal.returns-then-room-edges-2
returns-then-room-edges-2 c =
    let r = as_result c.args.edges.entries.now c.args.escapes.entries.now c.args.steps in
    sym (front-full c.args.out.now (result r) (omega (arith, result-long r, c.args.edges.measured.bytes-are, c.args.escapes.measured.bytes-are, c.if-room-edges-2.true)))

pub returns-then-room-edges-3 : goal.returns-then-room-edges-3
returns-then-room-edges-3 c =
    let r = as_result c.args.edges.entries.now c.args.escapes.entries.now c.args.steps in
    sym (front-full c.args.out.now (result r) (omega (arith, result-long r, c.args.edges.measured.bytes-are, c.args.escapes.measured.bytes-are, c.number_len.ensures, c.if-room-edges-3.true)))

pub slice_bounds-put_measured-count : goal.slice_bounds-put_measured-count
slice_bounds-put_measured-count c =
    let a = c.args in
    let s = as_result a.edges.entries.now a.escapes.entries.now a.steps in
    let h : length (result s) ≤ length a.out.now = omega (arith, result-long s, c.args.edges.measured.bytes-are, c.args.escapes.measured.bytes-are, c.number_len.ensures, c.if-room-edges.false, c.if-room-edges-2.false, c.if-room-edges-3.false) in
    three-inside (result s) a.out.now (listed s.edges) (listed s.escapes) (written s.steps) (result-is s) h (Some c.put_measured-i.result) c.put_measured-i.new.out c.put_measured-i.ensures
    c.put_measured-i.result refl

pub slice_bounds-put_measured-start : goal.slice_bounds-put_measured-start
slice_bounds-put_measured-start c =
    let a = c.args in
    let s = as_result a.edges.entries.now a.escapes.entries.now a.steps in
    let h : length (result s) ≤ length a.out.now = omega (arith, result-long s, c.args.edges.measured.bytes-are, c.args.escapes.measured.bytes-are, c.number_len.ensures, c.if-room-edges.false, c.if-room-edges-2.false, c.if-room-edges-3.false) in
    three-inside (result s) a.out.now (listed s.edges) (listed s.escapes) (written s.steps) (result-is s) h (Some c.put_measured-i.result) c.put_measured-i.new.out c.put_measured-i.ensures
    c.put_measured-i.result refl

pub put_measured-requires-clause-entries_in_bounds : goal.put_measured-requires-clause-entries_in_bounds
put_measured-requires-clause-entries_in_bounds c =
    let a = c.args in
    let s = as_result a.edges.entries.now a.escapes.entries.now a.steps in
    let h : length (result s) ≤ length a.out.now = omega (arith, result-long s, c.args.edges.measured.bytes-are, c.args.escapes.measured.bytes-are, c.number_len.ensures, c.if-room-edges.false, c.if-room-edges-2.false, c.if-room-edges-3.false) in
    three-room (result s) a.out.now (listed s.edges) (listed s.escapes) (written s.steps) (result-is s) h (Some c.put_measured-i.result) c.put_measured-i.new.out c.put_measured-i.ensures
    c.put_measured-i.result refl

pub overflow_add-j : goal.overflow_add-j
overflow_add-j c =
    let a = c.args in
    let s = as_result a.edges.entries.now a.escapes.entries.now a.steps in
    let h : length (result s) ≤ length a.out.now = omega (arith, result-long s, c.args.edges.measured.bytes-are, c.args.escapes.measured.bytes-are, c.number_len.ensures, c.if-room-edges.false, c.if-room-edges-2.false, c.if-room-edges-3.false) in
    let n = three-next (result s) a.out.now (listed s.edges) (listed s.escapes) (written s.steps) (result-is s) h (Some c.put_measured-i.result) c.put_measured-i.new.out c.put_measured-i.ensures
    c.put_measured-i.result refl (Some c.put_measured.result) c.put_measured.new.out c.put_measured.ensures c.put_measured.result refl in
    omega (arith, n.1, c.well_formed)

pub slice_bounds-put_number-count : goal.slice_bounds-put_number-count
slice_bounds-put_number-count c =
    let a = c.args in
    let s = as_result a.edges.entries.now a.escapes.entries.now a.steps in
    let h : length (result s) ≤ length a.out.now = omega (arith, result-long s, c.args.edges.measured.bytes-are, c.args.escapes.measured.bytes-are, c.number_len.ensures, c.if-room-edges.false, c.if-room-edges-2.false, c.if-room-edges-3.false) in
    (three-next (result s) a.out.now (listed s.edges) (listed s.escapes) (written s.steps) (result-is s) h (Some c.put_measured-i.result) c.put_measured-i.new.out c.put_measured-i.ensures
    c.put_measured-i.result refl (Some c.put_measured.result) c.put_measured.new.out c.put_measured.ensures c.put_measured.result refl).0

pub slice_bounds-put_number-start : goal.slice_bounds-put_number-start
slice_bounds-put_number-start c =
    let a = c.args in
    let s = as_result a.edges.entries.now a.escapes.entries.now a.steps in
    let h : length (result s) ≤ length a.out.now = omega (arith, result-long s, c.args.edges.measured.bytes-are, c.args.escapes.measured.bytes-are, c.number_len.ensures, c.if-room-edges.false, c.if-room-edges-2.false, c.if-room-edges-3.false) in
    (three-next (result s) a.out.now (listed s.edges) (listed s.escapes) (written s.steps) (result-is s) h (Some c.put_measured-i.result) c.put_measured-i.new.out c.put_measured-i.ensures
    c.put_measured-i.result refl (Some c.put_measured.result) c.put_measured.new.out c.put_measured.ensures c.put_measured.result refl).0

pub unwrap-requires : goal.unwrap-requires
unwrap-requires c =
    let a = c.args in
    let s = as_result a.edges.entries.now a.escapes.entries.now a.steps in
    let h : length (result s) ≤ length a.out.now = omega (arith, result-long s, c.args.edges.measured.bytes-are, c.args.escapes.measured.bytes-are, c.number_len.ensures, c.if-room-edges.false, c.if-room-edges-2.false, c.if-room-edges-3.false) in
    is-some _ (three-last (result s) a.out.now (listed s.edges) (listed s.escapes) (written s.steps) (result-is s) h (Some c.put_measured-i.result) c.put_measured-i.new.out c.put_measured-i.ensures
    c.put_measured-i.result refl (Some c.put_measured.result) c.put_measured.new.out c.put_measured.ensures c.put_measured.result refl
    c.put_number.result c.put_number.new.out c.put_number.ensures)

pub overflow_add-result : goal.overflow_add-result
overflow_add-result c =
    let a = c.args in
    let s = as_result a.edges.entries.now a.escapes.entries.now a.steps in
    let h : length (result s) ≤ length a.out.now = omega (arith, result-long s, c.args.edges.measured.bytes-are, c.args.escapes.measured.bytes-are, c.number_len.ensures, c.if-room-edges.false, c.if-room-edges-2.false, c.if-room-edges-3.false) in
    let n = three-within (result s) a.out.now (listed s.edges) (listed s.escapes) (written s.steps) (result-is s) h (Some c.put_measured-i.result) c.put_measured-i.new.out c.put_measured-i.ensures
    c.put_measured-i.result refl (Some c.put_measured.result) c.put_measured.new.out c.put_measured.ensures c.put_measured.result refl
    c.put_number.result c.put_number.new.out c.put_number.ensures c.unwrap.result c.unwrap.ensures in
    omega (arith, n, c.well_formed)

pub returns : goal.returns
returns c =
    let a = c.args in
    let s = as_result a.edges.entries.now a.escapes.entries.now a.steps in
    let h : length (result s) ≤ length a.out.now = omega (arith, result-long s, c.args.edges.measured.bytes-are, c.args.escapes.measured.bytes-are, c.number_len.ensures, c.if-room-edges.false, c.if-room-edges-2.false, c.if-room-edges-3.false) in
    three-done (result s) a.out.now (listed s.edges) (listed s.escapes) (written s.steps) (result-is s) h (Some c.put_measured-i.result) c.put_measured-i.new.out c.put_measured-i.ensures
    c.put_measured-i.result refl (Some c.put_measured.result) c.put_measured.new.out c.put_measured.ensures c.put_measured.result refl
    c.put_number.result c.put_number.new.out c.put_number.ensures c.unwrap.result c.unwrap.ensures
