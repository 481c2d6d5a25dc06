-- FROM A NODE TO ITS ROOT, at rest after every list of calls on a fresh window: the pointers are fewer than N, and they end at the root of
-- its cluster, whose number the mark is. Assumes nothing.
use Rattle.std.specs.Prelude.{ℕ, suc, ◌<◌, ◌≡◌, true, List}
use Rattle.refusal.specs.Answer.{done}
use Rattle.steps.specs.Steps.{Table}
use Rattle.window.specs.Window.{is_rest, size, at, to}
use Rattle.window.specs.Calls.{fresh_call}
use Rattle.window.specs.declared.Mark.TheVariants.{Root}
use Rattle.window.specs.declared.Window.{Window}
use Rattle.law.specs.Law.{Call, IsRoot, Cluster, number, play, start}

-- THE STATEMENT

module _ (T : Table) (w : Window) where
  -- so many pointers, none of them C and each along an edge, lead from a node to a root
  pub data PointersTo : ℕ → ℕ → ℕ → Type 0 where
    none : {g : ℕ} → IsRoot T w g → PointersTo g 0 g
    one_more : {g n r : ℕ} → (IsRoot T w g → ⊥) → (to w T (at w g).pointer g).there ≡ true → PointersTo (to w T (at w g).pointer g).node n r → PointersTo g (suc n) r

  pub record ToRoot (g : ℕ) : Type 0 where
    pub root : ℕ
    pub pointers : ℕ
    pub follows : PointersTo g pointers root
    pub fewer : pointers < size w
    -- the node's mark is the root's number, and the root is the one that the law says its cluster has
    pub mark : (at w g).mark ≡ Root (number T w root)
    pub same : (c : Cluster T w g) → root ≡ c.root

-- whenever a list of calls leaves a window at rest
abbrev pub RootsReached : Table → Type 0
RootsReached T =
    (height distance model largest_height largest_distance : ℕ) (w : Window) (n : ℕ) → fresh_call T height distance model largest_height largest_distance ≡ done w n → (calls : List Call)
    → is_rest (play T (start w) calls).window.stage ≡ true → (g : ℕ) → g < size (play T (start w) calls).window → ToRoot T (play T (start w) calls).window g
