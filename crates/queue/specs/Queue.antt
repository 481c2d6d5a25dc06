-- A LIST OF NODES, EACH ONCE: a flag for each node says whether the list names it. Assumes nothing.
use Rattle.std.specs.Prelude.{ℕ, suc, ◌+◌, ◌≤◌, ◌<◌, ◌≡◌, Bool, true, false, List, [], ◌∷◌, eqb, get_or, length}
use Rattle.flat.specs.Entries.{within, over_by}
use Rattle.flat.specs.Plan.{Plan}
use Rattle.flat.specs.Step.{named, list_at, Places}

-- how many are true
unfoldable pub trues : List Bool → ℕ
trues [] = 0
trues (true ∷ l) = suc (trues l)
trues (false ∷ l) = trues l

-- every flag that is set is of a listed node, and there are no more entries than flags set
pub record Queue (from count : ℕ) (lists : List ℕ) (queued : List Bool) : Type 0 where
  pub long : length lists ≡ 13824
  pub wide : length queued ≡ 4608
  pub few : count ≤ trues queued
  pub known : (x : ℕ) → get_or queued x false ≡ true → named (list_at lists from) count x ≡ true

-- no flag is set
pub record Empty (queued : List Bool) : Type 0 where
  pub wide : length queued ≡ 4608
  pub none : (x : ℕ) → get_or queued x false ≡ false

-- entries were added to the list at from: it names what it named, and the other lists are as they were
pub record Extends (from count more : ℕ) (old lists : List ℕ) : Type 0 where
  pub longer : count ≤ more
  pub kept : (i : ℕ) → i < from + count → get_or lists i 0 ≡ get_or old i 0
  pub behind : (i : ℕ) → from + 4608 ≤ i → get_or lists i 0 ≡ get_or old i 0

-- a node was pushed
pub record Pushed (x from count more : ℕ) (old lists : List ℕ) (queued : List Bool) : Type 0 where
  pub queue : Queue from more lists queued
  pub extends : Extends from count more old lists
  pub self : named (list_at lists from) more x ≡ true
  pub places : (n : ℕ) → within n x ≡ true → Places n count (list_at old from) → Places n more (list_at lists from)

-- what lies over the first open edges of a node is one of n nodes
abbrev pub Inside : Plan → (ℕ → ℕ) → ℕ → ℕ → ℕ → Type 0
Inside P growth x dirs n = (k : ℕ) → k < dirs → eqb (growth (over_by x (P.slot k))) 2 ≡ true → within n (over_by x (P.off k)) ≡ true

-- a node was pushed, with what lies over its open edges of the first directions
pub record Opened (P : Plan) (growth : ℕ → ℕ) (x dirs from count more : ℕ) (old lists : List ℕ) (queued : List Bool) : Type 0 where
  pub queue : Queue from more lists queued
  pub extends : Extends from count more old lists
  pub self : named (list_at lists from) more x ≡ true
  pub near : (k : ℕ) → k < dirs → eqb (growth (over_by x (P.slot k))) 2 ≡ true → named (list_at lists from) more (over_by x (P.off k)) ≡ true
  pub places : (n : ℕ) → within n x ≡ true → Inside P growth x dirs n → Places n count (list_at old from) → Places n more (list_at lists from)
