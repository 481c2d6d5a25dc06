-- WHAT STANDS WHERE AFTER A RULE: at a node, and in the slot of a node's own edge of a kind. Assumes nothing.
use Rattle.std.specs.Prelude.{ℕ, ◌+◌, ◌-◌, ◌*◌, ◌≤◌, ◌<◌, ◌≡◌, Bool, true, ◌&&◌, List, ltb, get_or, replicate}
use native.Mathlib.Omega.{arith}
use Rattle.std.proofs.Common.{◌∙◌, lt-ltb, le-ltb}
use Rattle.std.proofs.Math.Path.{ap}
use Rattle.std.proofs.Math.Bool.{false}
use Rattle.shape.specs.Choice.{if, if-true, if-false}
use Rattle.shape.specs.Sizes.{nodes_of, max_nodes}
use Rattle.shape.specs.Nodes.{number_of, place_at}
use Rattle.steps.specs.Steps.{Table, falls, namer, slot_in}
use Rattle.steps.specs.Slots.{slot-within}
use Rattle.shape.specs.declared.Shape.{Shape}
use Rattle.window.specs.Lists.{over}
use Rattle.window.specs.LawsLists.{over-at}
use Rattle.window.specs.Window.{alone, unused, beyond, size, sheet, at, place, detector, bottom, to}
use Rattle.window.specs.Fresh.{fresh_window}
use Rattle.window.specs.Round.{sunk, top_node, fallen_node, at_top, fallen_slot, rounded}
use Rattle.window.specs.Grow.{gains, cut, grown_slot, grown_node, grown}
use Rattle.window.specs.Merging.{flipped, seen, step_at, flipped_slot, merged}
use Rattle.window.specs.declared.Window.{Window}
use Rattle.closure.specs.Lists.{slot_of}

module _ (T : Table) (sh : Shape) where
  abbrev h : ℕ
  h = sh.height

  abbrev d : ℕ
  d = sh.distance

  pub fresh_at : (g : ℕ) → g < nodes_of h d → at (fresh_window T sh) g ≡ alone (number_of h d (place_at h d g)) false
  unfolding fresh_window
  fresh_at g l = over-at (λ i. alone (number_of h d (place_at h d i)) false) (replicate max_nodes unused) (nodes_of h d) g beyond l

-- a bottom node whose pointer leads out of the window: the nodes that grow resets
abbrev pub orphan : Table → Window → ℕ → Bool
orphan T w g = bottom w g && falls T (at w g).pointer

-- NODES

module _ (T : Table) (w : Window) (g : ℕ) (l : g < size w) where
  module _ (defects : List ℕ) where
    rounded-at : at (rounded T w defects) g ≡ fallen_node w defects g
    unfolding rounded
    rounded-at = over-at (fallen_node w defects) w.nodes (size w) g beyond l

    -- in the new top sheet
    pub top-at : g < sheet w → at (rounded T w defects) g ≡ top_node w.shape.height w.shape.distance defects (place w g)
    unfolding fallen_node
    top-at m = rounded-at ∙ if-true (ltb g (sheet w)) _ _ (lt-ltb _ _ m)

    -- below node a
    pub sunk-at : (a : ℕ) → g ≡ a + sheet w → at (rounded T w defects) g ≡ sunk w.shape.height w.shape.distance (at w a)
    unfolding fallen_node
    sunk-at a e =
        let x : g - sheet w ≡ a = omega arith in
        let m : sheet w ≤ g = omega arith in
        rounded-at ∙ if-false (ltb g (sheet w)) _ _ (le-ltb _ _ m) ∙ ap (λ (n : ℕ). sunk w.shape.height w.shape.distance (at w n)) x

  grown-at : at (grown T w) g ≡ grown_node T w g
  unfolding grown
  grown-at = over-at (grown_node T w) w.nodes (size w) g beyond l

  pub cut_at : orphan T w g ≡ true → at (grown T w) g ≡ cut (at w g)
  unfolding grown_node
  cut_at e = grown-at ∙ if-true (orphan T w g) _ _ e

  pub uncut-at : orphan T w g ≡ false → at (grown T w) g ≡ at w g
  unfolding grown_node
  uncut-at e = grown-at ∙ if-false (orphan T w g) _ _ e

  pub merged-at : at (merged T w) g ≡ (step_at T w g).node
  unfolding merged
  merged-at = over-at (λ i. (step_at T w i).node) w.nodes (size w) g beyond l

-- SLOTS

module _ (T : Table) (w : Window) (g kind : ℕ) (l : g < size w) (m : kind < T.kinds) where
  abbrev e : ℕ
  e = slot_in (size w) kind g

  in-slots : e < T.kinds * size w
  in-slots = slot-within (size w) kind g l T.kinds m

  fallen : {A : Type 0} (z : A) (old : List A)
      → get_or (over (T.kinds * size w) (fallen_slot T w z old) old) e z ≡ if (at_top T w g (namer T kind)) z (get_or old (e - sheet w) z)
  unfolding fallen_slot
  fallen z old =
      over-at (fallen_slot T w z old) old (T.kinds * size w) e z in-slots
      ∙ slot_of (size w) kind g l (λ k i. if (at_top T w i (namer T k)) z (get_or old (e - sheet w) z))

  -- in the new top sheet, or up to it
  pub top-slot : {A : Type 0} (z : A) (old : List A) → at_top T w g (namer T kind) ≡ true → get_or (over (T.kinds * size w) (fallen_slot T w z old) old) e z ≡ z
  top-slot z old t = fallen z old ∙ if-true _ _ _ t

  -- below node a
  pub sunk-slot : {A : Type 0} (z : A) (old : List A) (a : ℕ) → g ≡ a + sheet w → at_top T w g (namer T kind) ≡ false
      → get_or (over (T.kinds * size w) (fallen_slot T w z old) old) e z ≡ get_or old (slot_in (size w) kind a) z
  sunk-slot z old a x t =
      let y : e - sheet w ≡ slot_in (size w) kind a = omega arith in
      fallen z old ∙ if-false _ _ _ t ∙ ap (λ (i : ℕ). get_or old i z) y

  pub grown-slot : let r = to w T (namer T kind) g in get_or (grown T w).growth e 0 ≡ gains r (get_or w.growth e 0) (at w g) (at w r.node)
  unfolding grown grown_slot
  grown-slot =
      over-at (grown_slot T w) w.growth (T.kinds * size w) e 0 in-slots
      ∙ slot_of (size w) kind g l (λ k i. let r = to w T (namer T k) i in gains r (get_or w.growth e 0) (at w i) (at w r.node))

  pub flipped-slot : get_or (merged T w).correction e false
      ≡ flipped (get_or w.correction e false) (detector w g) (at w g) (namer T kind) (seen T w g (namer T kind - 1))
  unfolding merged flipped_slot
  flipped-slot =
      over-at (flipped_slot T w) w.correction (T.kinds * size w) e false in-slots
      ∙ slot_of (size w) kind g l (λ k i. flipped (get_or w.correction e false) (detector w i) (at w i) (namer T k) (seen T w i (namer T k - 1)))
