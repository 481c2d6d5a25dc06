-- `round_step::fall_nodes` meets its contract. Assumes nothing.
use Rattle.std.proofs.Common.{arith, ◌≡◌, ap, ◌∙◌, ℕ, ◌+◌, ◌-◌, List, length, replicate, ◌*◌, true}
use Rattle.std.specs.List.{between}
use borrow.Rule.Slice.PartMut.{put_mid}
use Rattle.shape.specs.Sizes.{in_range}
use Rattle.flat.specs.Stored.{stored, length-stored}
use Rattle.flat.specs.LawsStored.{stored-fill}
use Rattle.flat.specs.declared.Sizes.{Sizes}
use Rattle.round_step.specs.LawsFalls.{fitting}
use Rattle.round_step.proofs.Parts.{clear, falls-nodes}
use Rattle.round_step.proofs.fall_nodes.Goals as goal

-- what the fill leaves
clears : (h d : ℕ) → in_range h d ≡ true → (sheet : ℕ) → sheet ≡ h * (d + 1) → (nodes part : List ℕ) → length nodes ≡ 4608 → part ≡ replicate (length (between 512 (512 + sheet) nodes)) 0
    → put_mid 512 (512 + sheet - 512) nodes part ≡ stored 512 (λ i. 0) sheet nodes
clears h d ok sheet es nodes part long e = stored-fill 512 sheet 0 nodes part (omega (arith, (fitting h d ok).sheet, es, long)) e

pub receive-requires-clause-nodes_len : goal.receive-requires-clause-nodes_len
receive-requires-clause-nodes_len c =
    let l = c.args.laid.now in
    let e = clears l.shape.height l.shape.distance l.range l.layout.sizes.sheet (ap (λ (z : Sizes). z.sheet) l.sizes) c.sink_nodes.new.nodes c.fill.new.self c.sink_nodes.array_long (c.fill.ensures.after (λ y h. h)) in
    ap length e ∙ length-stored 512 (λ i. 0) l.layout.sizes.sheet c.sink_nodes.new.nodes ∙ c.sink_nodes.array_long

pub receive-requires-clause-by_index : goal.receive-requires-clause-by_index
receive-requires-clause-by_index c =
    let l = c.args.laid.now in
    let es = ap (λ (z : Sizes). z.sheet) l.sizes in
    clear l.shape.height l.shape.distance l.range l.layout.sizes.sheet es c.sink_nodes.new.nodes _ c.sink_nodes.array_long
    (clears l.shape.height l.shape.distance l.range l.layout.sizes.sheet es c.sink_nodes.new.nodes c.fill.new.self c.sink_nodes.array_long (c.fill.ensures.after (λ y h. h)))

pub returns : goal.returns
returns c =
    let l = c.args.laid.now in
    let es = ap (λ (z : Sizes). z.sheet) l.sizes in
    falls-nodes l.shape.height l.shape.distance l.range l.layout.sizes.nodes l.layout.sizes.sheet (ap (λ (z : Sizes). z.nodes) l.sizes) es c.args.bytes.now c.args.old.now c.args.nodes.now c.sink_nodes.new.nodes _ c.receive.new.nodes
    c.told-nodes c.sink_nodes.ensures
    (clears l.shape.height l.shape.distance l.range l.layout.sizes.sheet es c.sink_nodes.new.nodes c.fill.new.self c.sink_nodes.array_long (c.fill.ensures.after (λ y h. h)))
    c.receive.ensures
