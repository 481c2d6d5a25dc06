-- WHAT HOLDS BETWEEN ROUND AND GROW: pointers still lead to roots, but for those that lead out of the window. Assumes nothing.
use Rattle.std.specs.Prelude.{ℕ, ◌≤◌, ◌<◌, ◌≡◌, true, false, List}
use Rattle.steps.specs.Steps.{Table}
use Rattle.window.specs.Window.{size, at}
use Rattle.window.specs.Measured.{measuring}
use Rattle.window.specs.declared.Mark.TheVariants.{Root}
use Rattle.window.specs.declared.Window.{Window}
use Rattle.closure.specs.After.{orphan}
use Rattle.law_holds.specs.Graph.{graph}

module _ (T : Table) (w : Window) where
  -- following pointers from v one comes to a pointer C, or to an orphan
  pub data Ends : ℕ → Type 0 where
    centre : {v : ℕ} → (at w v).pointer ≡ 0 → Ends v
    out : {v : ℕ} → orphan T w v ≡ true → Ends v
    via : {v : ℕ} → ((at w v).pointer ≡ 0 → ⊥) → Ends ((graph T w).nb v (at w v).pointer) → Ends v

  -- what holds of node v
  pub record Sunk (v : ℕ) : Type 0 where
    pub number : ℕ
    pub mark : (at w v).mark ≡ Root number
    pub most : number ≤ (graph T w).num v
    pub own : (at w v).pointer ≡ 0 → number ≡ (graph T w).num v
    pub rooted : (at w v).unrooted ≡ false
    -- a pointer goes over an open edge to the same mark
    pub opn : ((at w v).pointer ≡ 0 → ⊥) → orphan T w v ≡ false → (graph T w).opn v (at w v).pointer ≡ true
    pub across : ((at w v).pointer ≡ 0 → ⊥) → orphan T w v ≡ false → (at w ((graph T w).nb v (at w v).pointer)).mark ≡ (at w v).mark
    pub ends : Ends v

  abbrev pub Fallen : Type 0
  Fallen = (v : ℕ) → v < size w → Sunk v

-- the last measured sheet is read by nothing here
module _ (T : Table) (w : Window) (bytes : List ℕ) where
  ends-measured : {v : ℕ} → Ends T w v → Ends T (measuring w bytes) v
  unfolding measuring
  ends-measured (centre e) = centre e
  ends-measured (out e) = out e
  ends-measured (via n e) = via n (ends-measured e)

  pub fallen-measured : Fallen T w → Fallen T (measuring w bytes)
  unfolding measuring
  fallen-measured f v l =
      let s = f v l in
      record { number = s.number; mark = s.mark; most = s.most; own = s.own; rooted = s.rooted; opn = s.opn; across = s.across; ends = ends-measured s.ends }
