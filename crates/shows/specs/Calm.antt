-- A CALM NODE: its mark is a number, and the same number stands over its open edges; its active is its defect, or that of the node that
-- its pointer leads to. Where pointers ride and no node sends, a calm node is quiet; where every node is quiet, every node is calm and none
-- sends. So it is enough to follow calmness through a round. Assumes nothing.
use Rattle.std.specs.Prelude.{ℕ, ◌<◌, ◌≡◌, true, ◌&&◌, not, eqb}
use Rattle.std.proofs.Math.Bool.{false}
use Rattle.steps.specs.Steps.{Table}
use Rattle.window.specs.Window.{size, at}
use Rattle.window.specs.declared.Mark.TheVariants.{Root}
use Rattle.window.specs.declared.Window.{Window}
use Rattle.shows.specs.Riding.{opens, neighbour}

pub record Calm (T : Table) (w : Window) (g : ℕ) : Type 0 where
  pub number : ℕ
  pub mark : (at w g).mark ≡ Root number
  pub level : (p : ℕ) → opens T w g p ≡ true → (neighbour T w g p).mark ≡ Root number
  pub alone : (at w g).pointer ≡ 0 → (at w g).active ≡ (at w g).defect
  pub led : ((at w g).pointer ≡ 0 → ⊥) → (neighbour T w g (at w g).pointer).active ≡ (at w g).active

-- no node sends its defect along
abbrev pub Silent : Window → Type 0
Silent w = (g : ℕ) → g < size w → ((at w g).defect && not (eqb (at w g).pointer 0)) ≡ false
