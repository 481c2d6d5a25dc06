-- A STATE SHOWS A WINDOW: node g stands at its entry, and the edge of a kind that it names at its cell; where there is no edge, be it before
-- the nodes, among them or behind them, growth says so. Assumes nothing.
use Rattle.std.specs.Prelude.{ℕ, ◌*◌, ◌<◌, ◌≡◌, Bool, false, List, eqb, get_or, replicate}
use Rattle.shape.specs.Choice.{if}
use Rattle.shape.specs.Sizes.{nodes_of, max_nodes}
use Rattle.shape.specs.declared.Shape.{Shape}
use Rattle.steps.specs.Steps.{Table, namer, slot_in, slot_kind, slot_node}
use Rattle.window.specs.Lists.{over}
use Rattle.window.specs.Window.{unused, size, at, to}
use Rattle.window.specs.Fresh.{slots_of}
use Rattle.window.specs.declared.Stage.{Stage}
use Rattle.window.specs.declared.Node.{Node}
use Rattle.window.specs.declared.Window.{Window}
use Rattle.flat.specs.Codes.{mark_of, no_edge}
use Rattle.flat.specs.Entries.{State, plane, entry, cell, within}

-- what stands at an entry
abbrev pub node_at : State → ℕ → Node
node_at st x = record { active = st.active x; defect = st.defect x; unrooted = st.unrooted x; pointer = st.pointer x; mark = mark_of (st.mark x) }

-- the growth of the edge of a kind that node g names
abbrev pub held : Table → Window → ℕ → ℕ → ℕ
held T w kind g = if (to w T (namer T kind) g).there (get_or w.growth (slot_in (size w) kind g) 0) no_edge

pub record Shows (T : Table) (w : Window) (st : State) : Type 0 where
  pub nodes : (g : ℕ) → g < size w → node_at st (entry g) ≡ at w g
  pub growth : (kind g : ℕ) → kind < T.kinds → g < size w → st.growth (cell kind (entry g)) ≡ held T w kind g
  pub margins : (kind x : ℕ) → kind < T.kinds → x < plane → within (size w) x ≡ false → st.growth (cell kind x) ≡ no_edge
  pub correction : (kind g : ℕ) → kind < T.kinds → g < size w → st.correction (cell kind (entry g)) ≡ get_or w.correction (slot_in (size w) kind g) false

-- THE WINDOW that a state stands for, with what it does not hold

abbrev pub shown : ℕ → ℕ
shown v = if (eqb v no_edge) 0 v

unfoldable pub window_of : Table → Shape → Stage → ℕ → List Bool → State → Window
window_of T sh stage next measured st =
    let n = nodes_of sh.height sh.distance in
    record {
      shape = sh;
      stage = stage;
      next = next;
      nodes = over n (λ g. node_at st (entry g)) (replicate max_nodes unused);
      growth = over (T.kinds * n) (λ e. shown (st.growth (cell (slot_kind n e) (entry (slot_node n e))))) (replicate {A = ℕ} (slots_of T) 0);
      correction = over (T.kinds * n) (λ e. st.correction (cell (slot_kind n e) (entry (slot_node n e)))) (replicate (slots_of T) false);
      measured = measured;
    }
