-- `formed::used_fit` meets its contract. Assumes nothing.
use Rattle.std.proofs.Common.{◌≡◌, sym, ◌∙◌, arith, mul-le-mul, ℕ, Bool, ◌*◌, ◌≤◌, ◌<◌}
use Rattle.shape.specs.Sizes.{max_nodes}
use Rattle.shape.proofs.LawsIndex.{nodes-max}
use Rattle.steps.specs.Models.{of_model}
use Rattle.steps.proofs.Models.{few-kinds}
use Rattle.shape.specs.declared.Place.{Place}
use Rattle.walk.specs.LawsWalk.{first-place, walks-on, stands_at, depth_low, peopled}
use Rattle.window.specs.declared.Window.{Window}
use Rattle.window.specs.Lists.{every}
use Rattle.window.specs.LawsLists.{and_no, and-not, every-none, every_more, every-fails}
use Rattle.window.specs.Window.{size, present, pointed, place, at}
use Rattle.window.specs.Formed.{node_fits, node_fits_at, slot_by, slot_fits_at}
use Rattle.formed.proofs.used_fit.Invariants.{slots_fit_at}
use Rattle.formed.proofs.used_fit.Goals as goal

-- node g and its slots, by what the code knows of the window
module _ (w : Window) (g n there led : ℕ) (q : Place) (i : n ≡ size w) (l : g < n) (k : there ≡ present w) (p : led ≡ pointed w) (s : 1 ≤ w.shape.height → q ≡ place w g) where
  here : q ≡ place w g
  here = s (peopled w.shape.height w.shape.distance g (omega arith)).h1

  node-at : (a : Bool) → a ≡ node_fits (of_model w.shape.model) w.stage w.shape.height w.shape.distance there led q (at w g) → node_fits_at (of_model w.shape.model) w g ≡ a
  node-at a e = sym (e ∙ rw (k, p, here))

  slots_at : (a : Bool) → a ≡ every (of_model w.shape.model).kinds (slot_by (of_model w.shape.model) w.shape.height w.shape.distance there n q g w.growth w.correction) → slots_fit_at w g ≡ a
  unfolding slot_fits_at
  slots_at a e = sym (e ∙ rw (k, i, here))

-- the arrays hold the slots of every model
few : (m n : ℕ) → n ≤ max_nodes → (of_model m).kinds * n ≤ 6 * max_nodes
few m n l = mul-le-mul (few-kinds m) l

pub loop-g-init : goal.loop-g-init
loop-g-init c = record { stood = first-place _ _; nodes = every-none _; slots = every-none _ }

pub node_fits-requires-clause-stands : goal.node_fits-requires-clause-stands
node_fits-requires-clause-stands c = stands_at _ _ _ _ _ c.nodes-n.ensures c.loop-g-test.true c.loop-g.invariant.stood

pub returns-then-not-node_fits : goal.returns-then-not-node_fits
returns-then-not-node_fits c =
    let e = node-at c.args.w.now c.loop-g.g _ _ _ c.loop-g.place c.nodes-n.ensures c.loop-g-test.true c.present-there.ensures c.pointed-led.ensures c.loop-g.invariant.stood _ c.node_fits.ensures in
    sym (and-not _ _ (every-fails _ _ _ (omega arith) (e ∙ c.if-not-node_fits.true)))

pub slots_fit-requires-clause-g_lt_n : goal.slots_fit-requires-clause-g_lt_n
slots_fit-requires-clause-g_lt_n c = let w = c.args.w.now in (omega arith, omega (arith, nodes-max w.shape.height w.shape.distance))

pub slots_fit-requires-clause-n_in_bounds : goal.slots_fit-requires-clause-n_in_bounds
slots_fit-requires-clause-n_in_bounds c =
    let w = c.args.w.now in
    let k = few w.shape.model c.nodes-n.result (omega (arith, nodes-max w.shape.height w.shape.distance)) in
    (omega (arith, k, c.type_inv.w), omega (arith, k, c.type_inv.w))

pub returns-then-not-slots_fit : goal.returns-then-not-slots_fit
returns-then-not-slots_fit c =
    let e = slots_at c.args.w.now c.loop-g.g _ _ _ c.loop-g.place c.nodes-n.ensures c.loop-g-test.true c.present-there.ensures c.pointed-led.ensures c.loop-g.invariant.stood _ c.slots_fit.ensures in
    sym (and_no _ _ (every-fails _ _ _ (omega arith) (e ∙ c.if-not-slots_fit.true)))

pub next_place-place-requires : goal.next_place-place-requires
next_place-place-requires c = omega (arith, depth_low _ _ _ _ (stands_at _ _ _ _ _ c.nodes-n.ensures c.loop-g-test.true c.loop-g.invariant.stood))

pub loop-g-preserved : goal.loop-g-preserved
loop-g-preserved c =
    let l = c.loop-g in
    let e = node-at c.args.w.now l.g _ _ _ l.place c.nodes-n.ensures c.loop-g-test.true c.present-there.ensures c.pointed-led.ensures l.invariant.stood _ c.node_fits.ensures in
    let f = slots_at c.args.w.now l.g _ _ _ l.place c.nodes-n.ensures c.loop-g-test.true c.present-there.ensures c.pointed-led.ensures l.invariant.stood _ c.slots_fit.ensures in
    record {
      stood = walks-on _ _ _ _ _ l.invariant.stood c.next_place-place.ensures;
      nodes = every_more _ _ l.invariant.nodes (e ∙ c.if-not-node_fits.false);
      slots = every_more _ _ l.invariant.slots (f ∙ c.if-not-slots_fit.false);
    }
