-- A MERGING STEP OVER A WORK LIST, by entries: what it leaves, and what the next list must name. Assumes nothing.
use Rattle.std.specs.Prelude.{ℕ, zero, suc, ◌+◌, ◌-◌, ◌<◌, ◌≡◌, Bool, true, false, ◌||◌, List, ◌⊎◌, eqb, get_or}
use Rattle.shape.specs.Choice.{if}
use Rattle.window.specs.Lists.{any, xor}
use Rattle.flat.specs.Codes.{no_edge}
use Rattle.flat.specs.Entries.{State, within, over_by}
use Rattle.flat.specs.Plan.{Plan}
use Rattle.flat.specs.Rule.{flood_of, active_after, sender, defect_after, unrooted_after, busy_at, stirs, pushes_along}

-- the entry is one of the first c of a list
unfoldable pub named : (ℕ → ℕ) → ℕ → ℕ → Bool
named list zero x = false
named list (suc c) x = named list c x || eqb (list c) x

-- a list that stands in an array from an offset on
abbrev pub list_at : List ℕ → ℕ → ℕ → ℕ
list_at lists from i = get_or lists (from + i) 0

-- the list of active nodes, behind the two work lists
abbrev pub active_at : List ℕ → ℕ → ℕ
active_at lists = list_at lists 9216

-- every entry of the list is a node's
abbrev pub Places : ℕ → ℕ → (ℕ → ℕ) → Type 0
Places n count list = (i : ℕ) → i < count → within n (list i) ≡ true

-- A NODE THAT SENDS: the place of the edge along which it does, and that edge's correction bit once both its ends have pushed
module _ (P : Plan) (st : State) (x : ℕ) where
  abbrev pub edge_along : ℕ
  edge_along = over_by x (P.slot (st.pointer x - 1))

  abbrev pub bit_along : Bool
  bit_along =
      let k = st.pointer x - 1 in
      let e = edge_along in
      if (eqb (st.growth e) no_edge) (st.correction e) (xor (xor (st.correction e) true) (pushes_along st.defect st.pointer (over_by x (P.off k)) (P.back k)))

module _ (P : Plan) (st : State) (count : ℕ) (list : ℕ → ℕ) where
  -- a listed node sends its defect along
  abbrev pub sending : Bool
  sending = any count (λ i. sender P st (list i))

  -- a listed node is busy
  abbrev pub busy_in : Bool
  busy_in = any count (λ i. busy_at P st (list i))

  -- along the edge at a place a listed node sends, and the correction bit is b as it says; or no listed node does
  abbrev pub Turned : ℕ → Bool → Type 0
  Turned e b = (i : ℕ) × (i < count) × (sender P st (list i) ≡ true) × (edge_along P st (list i) ≡ e) × (b ≡ bit_along P st (list i))

  abbrev pub Unturned : ℕ → Type 0
  Unturned e = (i : ℕ) → i < count → sender P st (list i) ≡ true → edge_along P st (list i) ≡ e → ⊥

  -- every listed node is as the rule makes it, all others are as they were; bits turn only along the pointers of listed nodes that send
  pub record Passed (n : ℕ) (st' : State) : Type 0 where
    pub active : (x : ℕ) → within n x ≡ true → st'.active x ≡ if (named list count x) (active_after P st x) (st.active x)
    pub defect : (x : ℕ) → within n x ≡ true → st'.defect x ≡ if (named list count x) (defect_after P st sending x) (st.defect x)
    pub unrooted : (x : ℕ) → within n x ≡ true → st'.unrooted x ≡ if (named list count x) (unrooted_after P st x) (st.unrooted x)
    pub pointer : (x : ℕ) → within n x ≡ true → st'.pointer x ≡ if (named list count x) (flood_of P st x).pointer (st.pointer x)
    pub mark : (x : ℕ) → within n x ≡ true → st'.mark x ≡ if (named list count x) (flood_of P st x).mark (st.mark x)
    pub growth : (e : ℕ) → st'.growth e ≡ st.growth e
    pub correction : (e : ℕ) → Turned e (st'.correction e) ⊎ (Unturned e × (st'.correction e ≡ st.correction e))

  -- a list that names what stirs, and what lies over its open edges
  pub record Follows (n count' : ℕ) (list' : ℕ → ℕ) : Type 0 where
    pub places : Places n count' list'
    pub self : (i : ℕ) → i < count → stirs P st sending (list i) ≡ true → named list' count' (list i) ≡ true
    pub near : (i k : ℕ) → i < count → k < P.dirs → stirs P st sending (list i) ≡ true → eqb (st.growth (over_by (list i) (P.slot k))) 2 ≡ true
        → named list' count' (over_by (list i) (P.off k)) ≡ true
