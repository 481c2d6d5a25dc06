-- `record::put_header` meets its contract: the height, the distance, then the model, each in the tail. Assumes nothing.
use Rattle.std.proofs.Common.{sym, length, ◌≤◌, arith}
use Rattle.refusal.specs.Filling.{front-full}
use Rattle.refusal.specs.Parts.{is-some, three-one, three-inside, three-two, three-next, three-last, three-within, three-done}
use Rattle.number.specs.Number.{written}
use Rattle.number.specs.Laws.{length-written}
use Rattle.record.specs.Records.{header}
use Rattle.record.proofs.Laws.{header_is, header-long}
use Rattle.record.proofs.put_header.Goals as goal

pub overflow_add-number_len : goal.overflow_add-number_len
overflow_add-number_len c =
    let s = c.args.shape in
    omega (arith, c.number_len.ensures, c.number_len-2.ensures, (length-written s.height).1, (length-written s.distance).1)

pub overflow_add-number_len-2 : goal.overflow_add-number_len-2
overflow_add-number_len-2 c =
    let s = c.args.shape in
    omega (arith, c.number_len.ensures, c.number_len-2.ensures, c.number_len-3.ensures, (length-written s.height).1, (length-written s.distance).1, (length-written s.model).1)

pub returns-then-out-number_len : goal.returns-then-out-number_len
returns-then-out-number_len c =
    let s = c.args.shape in
    sym (front-full c.args.out.now (header s) (omega (arith, header-long s, c.number_len.ensures, c.number_len-2.ensures, c.number_len-3.ensures, c.if-out-number_len.true)))

pub unwrap-i-requires : goal.unwrap-i-requires
unwrap-i-requires c =
    let s = c.args.shape in
    let h : length (header s) ≤ length c.args.out.now = omega (arith, header-long s, c.number_len.ensures, c.number_len-2.ensures, c.number_len-3.ensures, c.if-out-number_len.false) in
    is-some _ (three-one (header s) c.args.out.now (written s.height) (written s.distance) (written s.model) (header_is s) h c.put_number.result c.put_number.new.out c.put_number.ensures)

pub slice_bounds-put_number-count : goal.slice_bounds-put_number-count
slice_bounds-put_number-count c =
    let s = c.args.shape in
    let h : length (header s) ≤ length c.args.out.now = omega (arith, header-long s, c.number_len.ensures, c.number_len-2.ensures, c.number_len-3.ensures, c.if-out-number_len.false) in
    three-inside (header s) c.args.out.now (written s.height) (written s.distance) (written s.model) (header_is s) h c.put_number.result c.put_number.new.out c.put_number.ensures c.unwrap-i.result c.unwrap-i.ensures

pub slice_bounds-put_number-start : goal.slice_bounds-put_number-start
slice_bounds-put_number-start c =
    let s = c.args.shape in
    let h : length (header s) ≤ length c.args.out.now = omega (arith, header-long s, c.number_len.ensures, c.number_len-2.ensures, c.number_len-3.ensures, c.if-out-number_len.false) in
    three-inside (header s) c.args.out.now (written s.height) (written s.distance) (written s.model) (header_is s) h c.put_number.result c.put_number.new.out c.put_number.ensures c.unwrap-i.result c.unwrap-i.ensures

pub unwrap-requires : goal.unwrap-requires
unwrap-requires c =
    let s = c.args.shape in
    let h : length (header s) ≤ length c.args.out.now = omega (arith, header-long s, c.number_len.ensures, c.number_len-2.ensures, c.number_len-3.ensures, c.if-out-number_len.false) in
    is-some _ (three-two (header s) c.args.out.now (written s.height) (written s.distance) (written s.model) (header_is s) h c.put_number.result c.put_number.new.out c.put_number.ensures c.unwrap-i.result c.unwrap-i.ensures
    c.put_number-2.result c.put_number-2.new.out c.put_number-2.ensures)

pub overflow_add-j : goal.overflow_add-j
overflow_add-j c =
    let s = c.args.shape in
    let h : length (header s) ≤ length c.args.out.now = omega (arith, header-long s, c.number_len.ensures, c.number_len-2.ensures, c.number_len-3.ensures, c.if-out-number_len.false) in
    let n = three-next (header s) c.args.out.now (written s.height) (written s.distance) (written s.model) (header_is s) h c.put_number.result c.put_number.new.out c.put_number.ensures c.unwrap-i.result c.unwrap-i.ensures
    c.put_number-2.result c.put_number-2.new.out c.put_number-2.ensures c.unwrap.result c.unwrap.ensures in
    omega (arith, n.1, c.well_formed)

pub slice_bounds-put_number-count-2 : goal.slice_bounds-put_number-count-2
slice_bounds-put_number-count-2 c =
    let s = c.args.shape in
    let h : length (header s) ≤ length c.args.out.now = omega (arith, header-long s, c.number_len.ensures, c.number_len-2.ensures, c.number_len-3.ensures, c.if-out-number_len.false) in
    (three-next (header s) c.args.out.now (written s.height) (written s.distance) (written s.model) (header_is s) h c.put_number.result c.put_number.new.out c.put_number.ensures c.unwrap-i.result c.unwrap-i.ensures
    c.put_number-2.result c.put_number-2.new.out c.put_number-2.ensures c.unwrap.result c.unwrap.ensures).0

pub slice_bounds-put_number-start-2 : goal.slice_bounds-put_number-start-2
slice_bounds-put_number-start-2 c =
    let s = c.args.shape in
    let h : length (header s) ≤ length c.args.out.now = omega (arith, header-long s, c.number_len.ensures, c.number_len-2.ensures, c.number_len-3.ensures, c.if-out-number_len.false) in
    (three-next (header s) c.args.out.now (written s.height) (written s.distance) (written s.model) (header_is s) h c.put_number.result c.put_number.new.out c.put_number.ensures c.unwrap-i.result c.unwrap-i.ensures
    c.put_number-2.result c.put_number-2.new.out c.put_number-2.ensures c.unwrap.result c.unwrap.ensures).0

pub unwrap-requires-2 : goal.unwrap-requires-2
unwrap-requires-2 c =
    let s = c.args.shape in
    let h : length (header s) ≤ length c.args.out.now = omega (arith, header-long s, c.number_len.ensures, c.number_len-2.ensures, c.number_len-3.ensures, c.if-out-number_len.false) in
    is-some _ (three-last (header s) c.args.out.now (written s.height) (written s.distance) (written s.model) (header_is s) h c.put_number.result c.put_number.new.out c.put_number.ensures c.unwrap-i.result c.unwrap-i.ensures
    c.put_number-2.result c.put_number-2.new.out c.put_number-2.ensures c.unwrap.result c.unwrap.ensures
    c.put_number-3.result c.put_number-3.new.out c.put_number-3.ensures)

pub overflow_add-result : goal.overflow_add-result
overflow_add-result c =
    let s = c.args.shape in
    let h : length (header s) ≤ length c.args.out.now = omega (arith, header-long s, c.number_len.ensures, c.number_len-2.ensures, c.number_len-3.ensures, c.if-out-number_len.false) in
    let n = three-within (header s) c.args.out.now (written s.height) (written s.distance) (written s.model) (header_is s) h c.put_number.result c.put_number.new.out c.put_number.ensures c.unwrap-i.result c.unwrap-i.ensures
    c.put_number-2.result c.put_number-2.new.out c.put_number-2.ensures c.unwrap.result c.unwrap.ensures
    c.put_number-3.result c.put_number-3.new.out c.put_number-3.ensures c.unwrap-2.result c.unwrap-2.ensures in
    omega (arith, n, c.well_formed)

pub returns : goal.returns
returns c =
    let s = c.args.shape in
    let h : length (header s) ≤ length c.args.out.now = omega (arith, header-long s, c.number_len.ensures, c.number_len-2.ensures, c.number_len-3.ensures, c.if-out-number_len.false) in
    three-done (header s) c.args.out.now (written s.height) (written s.distance) (written s.model) (header_is s) h c.put_number.result c.put_number.new.out c.put_number.ensures c.unwrap-i.result c.unwrap-i.ensures
    c.put_number-2.result c.put_number-2.new.out c.put_number-2.ensures c.unwrap.result c.unwrap.ensures
    c.put_number-3.result c.put_number-3.new.out c.put_number-3.ensures c.unwrap-2.result c.unwrap-2.ensures
