-- ROUND BY LOOPS: everything moves down one sheet, and on top the new sheet is laid. Of a kind that stays in its sheet the fresh edges stand
-- there; of one that goes up none there, and the fresh edges one sheet lower if that sheet is there. Assumes nothing.
use Rattle.std.specs.Prelude.{ℕ, ◌+◌, ◌-◌, ◌*◌, ◌≤◌, ◌<◌, ◌≡◌, Bool, true, ◌&&◌, not, List, ltb, get_or}
use Rattle.std.proofs.Math.Bool.{false}
use Rattle.std.proofs.Math.Dec.{eqb}
use Rattle.shape.specs.Choice.{if}
use Rattle.shape.specs.Sizes.{sheets_of, boundary, nodes_of}
use Rattle.steps.specs.Steps.{Table, step, namer}
use Rattle.window.specs.Round.{lowered_number}
use Rattle.window.specs.Window.{sheet, supplied}
use Rattle.layers.specs.Layers.{spans}
use Rattle.flat.specs.Codes.{no_edge}
use Rattle.flat.specs.Entries.{State, margin, plane, entry, cell, within}
use Rattle.flat.specs.Plan.{Plan}

-- the edges of the kind go up
abbrev pub rises : Table → ℕ → Bool
rises T kind = ltb (step T (namer T kind)).sheet.more (step T (namer T kind)).sheet.less

-- a fresh edge of the kind, from a row and a column
abbrev pub template : Table → ℕ → ℕ → ℕ → ℕ → ℕ → ℕ
template T h d kind r c = if (spans h d (step T (namer T kind)) r c) 0 no_edge

-- the second sheet is there after the round
abbrev pub second_there : ℕ → ℕ → Bool
second_there d next = ltb 1 (supplied d (next + 1) (sheets_of d))

-- WHAT THE LOOPS LEAVE, by entries
pub record Sinks (T : Table) (h d : ℕ) (P : Plan) (second : Bool) (bytes : List ℕ) (st st' : State) : Type 0 where
  -- the top sheet's nodes
  pub top-active : (i : ℕ) → i < h * (d + 1) → st'.active (entry i) ≡ false
  pub top-defect : (r c : ℕ) → r < h → c ≤ d → st'.defect (entry (r * (d + 1) + c)) ≡ (not (boundary d c) && eqb (get_or bytes (r * (d - 1) + (c - 1)) 0) 1)
  pub top-unrooted : (i : ℕ) → i < h * (d + 1) → st'.unrooted (entry i) ≡ false
  pub top-pointer : (i : ℕ) → i < h * (d + 1) → st'.pointer (entry i) ≡ 0
  pub top-mark : (i : ℕ) → i < h * (d + 1) → st'.mark (entry i) ≡ P.own (entry i)
  -- all others
  pub active : (x : ℕ) → margin ≤ x → x + h * (d + 1) < margin + nodes_of h d → st'.active (x + h * (d + 1)) ≡ st.active x
  pub defect : (x : ℕ) → margin ≤ x → x + h * (d + 1) < margin + nodes_of h d → st'.defect (x + h * (d + 1)) ≡ st.defect x
  pub unrooted : (x : ℕ) → margin ≤ x → x + h * (d + 1) < margin + nodes_of h d → st'.unrooted (x + h * (d + 1)) ≡ false
  pub pointer : (x : ℕ) → margin ≤ x → x + h * (d + 1) < margin + nodes_of h d → st'.pointer (x + h * (d + 1)) ≡ st.pointer x
  pub mark : (x : ℕ) → margin ≤ x → x + h * (d + 1) < margin + nodes_of h d → st'.mark (x + h * (d + 1)) ≡ lowered_number h d (st.mark x)
  -- edges that stay in the top sheet, those from it, and those up to it
  pub top-level : (kind r c : ℕ) → kind < T.kinds → rises T kind ≡ false → r < h → c ≤ d → st'.growth (cell kind (entry (r * (d + 1) + c))) ≡ template T h d kind r c
  pub top-rising : (kind i : ℕ) → kind < T.kinds → rises T kind ≡ true → i < h * (d + 1) → st'.growth (cell kind (entry i)) ≡ no_edge
  pub second-rising : (kind r c : ℕ) → kind < T.kinds → rises T kind ≡ true → r < h → c ≤ d → entry (r * (d + 1) + c) + h * (d + 1) < margin + nodes_of h d
      → st'.growth (cell kind (entry (r * (d + 1) + c) + h * (d + 1))) ≡ if second (template T h d kind r c) (st.growth (cell kind (entry (r * (d + 1) + c))))
  -- all others
  pub growth : (kind x : ℕ) → kind < T.kinds → margin ≤ x → (rises T kind ≡ true → margin + h * (d + 1) ≤ x) → x + h * (d + 1) < margin + nodes_of h d
      → st'.growth (cell kind (x + h * (d + 1))) ≡ st.growth (cell kind x)
  pub margins : (kind x : ℕ) → kind < T.kinds → x < plane → within (nodes_of h d) x ≡ false → st'.growth (cell kind x) ≡ no_edge
  pub top-correction : (kind i : ℕ) → kind < T.kinds → i < h * (d + 1) → st'.correction (cell kind (entry i)) ≡ false
  pub correction : (kind x : ℕ) → kind < T.kinds → margin ≤ x → x + h * (d + 1) < margin + nodes_of h d → st'.correction (cell kind (x + h * (d + 1))) ≡ st.correction (cell kind x)
