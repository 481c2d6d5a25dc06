-- GROW. Assumes nothing.
use Rattle.std.specs.Prelude.{ℕ, ◌+◌, ◌*◌, min, ◌&&◌, get_or}
use Rattle.shape.specs.Choice.{if}
use Rattle.steps.specs.Steps.{Table, falls, namer, slot_kind, slot_node}
use Rattle.window.specs.Lists.{over, bit}
use Rattle.window.specs.Window.{size, at, bottom, to}
use Rattle.window.specs.declared.Mark.TheVariants.{Reset}
use Rattle.window.specs.declared.Stage.TheVariants.{Merging}
use Rattle.window.specs.declared.Node.{Node}
use Rattle.window.specs.declared.Way.{Way}
use Rattle.window.specs.declared.Window.{Window}

-- an edge gains one half for each active end, capped at 2
abbrev pub gains : Way → ℕ → Node → Node → ℕ
gains r old here other = if r.there (min 2 (old + bit here.active + bit other.active)) old

-- mark reset and pointer C
abbrev pub cut : Node → Node
cut n = record { active = n.active; defect = n.defect; unrooted = n.unrooted; pointer = 0; mark = Reset }

module _ (T : Table) (w : Window) where
  unfoldable pub grown_slot : ℕ → ℕ
  grown_slot e =
      let g = slot_node (size w) e in
      let r = to w T (namer T (slot_kind (size w) e)) g in
      gains r (get_or w.growth e 0) (at w g) (at w r.node)

  -- a bottom node whose pointer has a D gets mark reset and pointer C
  unfoldable pub grown_node : ℕ → Node
  grown_node g = if (bottom w g && falls T (at w g).pointer) (cut (at w g)) (at w g)

  unfoldable pub grown : Window
  grown =
      record {
        shape = w.shape;
        stage = Merging;
        next = w.next;
        nodes = over (size w) grown_node w.nodes;
        growth = over (T.kinds * size w) grown_slot w.growth;
        correction = w.correction;
        measured = w.measured;
      }
