-- `unpack::unpack` meets its contract. Assumes nothing.
use Rattle.std.proofs.Common.{rules}
use Rattle.std.proofs.iter.Serving.{serving}
use Rattle.std.proofs.lemmas.List.{length-replicate}
use mathlib.Core.Path.{◌≡◌, refl, ◌∙◌, ap, subst, sym}
use Prim.Native.Nat.{ℕ, ◌<◌}
use lib.ListN.{length}
use Rattle.shape.specs.declared.Shape.{Shape}
use Rattle.steps.specs.Models.{of_model}
use Rattle.steps.proofs.Models.{suited-model}
use Rattle.window.specs.declared.Window.{Window}
use Rattle.window.specs.Window.{at}
use Rattle.closure.specs.Facts.{facts}
use Rattle.flat.specs.declared.Sizes.{Sizes}
use Rattle.plan.specs.Filled.{Filled}
use Rattle.plan.specs.Limits.{roomy-model}
use Rattle.plan.specs.Table.{sizes_of}
use Rattle.plan.specs.declared.shape_layout.ShapeLayout.{ShapeLayout}
use Rattle.unpack.specs.Unpacked.{node_rule, mark_rule, unpacked-by, asked, pointer-low}
use Rattle.unpack.proofs.unpack.Goals as goal

-- the window's shape is the layout's
filled : (w : Window) (l : ShapeLayout) → w.shape ≡ l.shape → Filled (of_model w.shape.model) w.shape.height w.shape.distance l.layout.table
filled w l e = subst (λ (s : Shape). Filled (of_model s.model) s.height s.distance l.layout.table) (sym e) l.filled

sizes : (w : Window) (l : ShapeLayout) → w.shape ≡ l.shape → l.layout.sizes ≡ sizes_of (of_model w.shape.model) w.shape.height w.shape.distance
sizes w l e = subst (λ (s : Shape). l.layout.sizes ≡ sizes_of (of_model s.model) s.height s.distance) (sym e) l.sizes

pub store-requires : goal.store-requires
store-requires c = let w = c.args.w.now in let l = c.args.laid.now in let T = of_model w.shape.model in let room = roomy-model w.shape.model in
    let few = l.layout.safe.nodes in
    let low : (i : ℕ) → i < l.layout.sizes.nodes → (at w i).pointer < 32 = λ i p.
    pointer-low T (suited-model w.shape.model) w (facts T w c.requires.w_value) l.layout.table (filled w l c.requires.shape_value) room.kinds room.dirs i
    (subst (λ (k : ℕ). i < k) (ap (λ (z : Sizes). z.nodes) (sizes w l c.requires.shape_value)) p) in
    grind serving

pub edges_kinds-requires : goal.edges_kinds-requires
edges_kinds-requires c = let w = c.args.w.now in let l = c.args.laid.now in let T = of_model w.shape.model in let e = c.requires.shape_value in
    let r = asked T (suited-model w.shape.model) w (facts T w c.requires.w_value) l.layout.table (filled w l e) (roomy-model w.shape.model).kinds l.layout.sizes c.present.result (sizes w l e) c.present.ensures in
    (r.3, r.4, r.5)

pub returns : goal.returns
returns c = let w = c.args.w.now in let l = c.args.laid.now in let T = of_model w.shape.model in let e = c.requires.shape_value in
    unpacked-by T (suited-model w.shape.model) w (facts T w c.requires.w_value) l.layout.table (filled w l e) (roomy-model w.shape.model).kinds l.layout.sizes c.present.result l.layout.sizes.nodes
    c.empty-arrays.result.nodes c.empty-arrays.result.marks c.empty-arrays.result.edges _ _ _
    (ap length c.empty-arrays.ensures.nodes ∙ length-replicate {A = ℕ} 4608 0) (ap length c.empty-arrays.ensures.marks ∙ length-replicate {A = ℕ} 4608 0) c.empty-arrays.ensures.edges (sizes w l e) c.present.ensures refl
    (c.store.ensures (node_rule w) (λ i v m p. search rules)) (c.store-2.ensures (mark_rule w) (λ i v m p. search rules)) c.edges_kinds.ensures
