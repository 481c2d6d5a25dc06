-- GROW: an edge gains a half for each active end, no edge stays none, and bottom nodes whose pointer has a D are cut. What
-- was open stays open, and pointers ride after it. Assumes nothing.
use Rattle.std.specs.Prelude.{ℕ, ◌+◌, ◌-◌, ◌<◌, ◌≡◌, Bool, true, false, ◌&&◌, leb}
use Rattle.shape.specs.Choice.{if}
use Rattle.steps.specs.Steps.{Table, namer}
use Rattle.window.specs.Window.{size, sheet, at}
use Rattle.window.specs.declared.Window.{Window}
use Rattle.closure.specs.After.{orphan}
use Rattle.flat.specs.Codes.{reset_code}
use Rattle.flat.specs.Entries.{State, margin, plane, cell, within, over_by}
use Rattle.flat.specs.Plan.{Plan}
use Rattle.flat.specs.Rule.{growth_after}
use Rattle.shows.specs.Riding.{opens}

-- BY ENTRIES

-- one of the last sheet's nodes whose pointer has a D
abbrev pub cuts_at : Plan → ℕ → ℕ → State → ℕ → Bool
cuts_at P n sheet st x = leb (margin + n - sheet) x && P.falls (st.pointer x)

-- of n nodes, so many to a sheet
pub record Grows (P : Plan) (n sheet : ℕ) (st st' : State) : Type 0 where
  pub active : (x : ℕ) → within n x ≡ true → st'.active x ≡ st.active x
  pub defect : (x : ℕ) → within n x ≡ true → st'.defect x ≡ st.defect x
  pub unrooted : (x : ℕ) → within n x ≡ true → st'.unrooted x ≡ st.unrooted x
  pub pointer : (x : ℕ) → within n x ≡ true → st'.pointer x ≡ if (cuts_at P n sheet st x) 0 (st.pointer x)
  pub mark : (x : ℕ) → within n x ≡ true → st'.mark x ≡ if (cuts_at P n sheet st x) reset_code (st.mark x)
  pub growth : (kind x : ℕ) → kind < P.kinds → within n x ≡ true → st'.growth (cell kind x) ≡ growth_after (st.growth (cell kind x)) (st.active x) (st.active (over_by x (P.off (P.namer kind))))
  pub margins : (kind x : ℕ) → kind < P.kinds → x < plane → within n x ≡ false → st'.growth (cell kind x) ≡ st.growth (cell kind x)
  pub correction : (kind x : ℕ) → kind < P.kinds → within n x ≡ true → st'.correction (cell kind x) ≡ st.correction (cell kind x)

-- POINTERS

-- between round and grow a pointer may also lead out of the window
abbrev pub Aloft : Table → Window → Type 0
Aloft T w = (g : ℕ) → g < size w → ((at w g).pointer ≡ 0 → ⊥) → orphan T w g ≡ false → opens T w g (at w g).pointer ≡ true
