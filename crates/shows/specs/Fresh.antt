-- A FRESH WINDOW: no sheet is there, so no edge is; pointers ride, and every node is quiet. Assumes nothing.
use Rattle.std.specs.Prelude.{ℕ, ◌<◌, ◌≡◌, true}
use Rattle.std.proofs.Math.Bool.{false}
use Rattle.flat.specs.Codes.{no_edge}
use Rattle.flat.specs.Entries.{State, plane, cell, within}
use Rattle.flat.specs.Plan.{Plan}

-- n nodes, each its own cluster, and no edge
pub record Blank (P : Plan) (n : ℕ) (st : State) : Type 0 where
  pub active : (x : ℕ) → within n x ≡ true → st.active x ≡ false
  pub defect : (x : ℕ) → within n x ≡ true → st.defect x ≡ false
  pub unrooted : (x : ℕ) → within n x ≡ true → st.unrooted x ≡ false
  pub pointer : (x : ℕ) → within n x ≡ true → st.pointer x ≡ 0
  pub mark : (x : ℕ) → within n x ≡ true → st.mark x ≡ P.own x
  pub growth : (kind x : ℕ) → kind < P.kinds → x < plane → st.growth (cell kind x) ≡ no_edge
  pub correction : (kind x : ℕ) → kind < P.kinds → within n x ≡ true → st.correction (cell kind x) ≡ false
