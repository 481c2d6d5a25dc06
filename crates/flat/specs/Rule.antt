-- ONE NODE'S STEP by the machine's entries, as code goes through the directions, and one edge's growth. Assumes nothing.
use Rattle.std.specs.Prelude.{ℕ, zero, suc, ◌+◌, ◌-◌, min, Bool, false, ◌&&◌, ◌||◌, not, ltb, eqb}
use Rattle.shape.specs.Choice.{if}
use Rattle.window.specs.Lists.{bit, xor}
use Rattle.flat.specs.Codes.{reset_code, no_edge}
use Rattle.flat.specs.Entries.{State, cell, over_by}
use Rattle.flat.specs.Plan.{Plan}
use Rattle.flat.specs.declared.Flood.{Flood}

abbrev pub flood : ℕ → ℕ → Flood
flood m p = record { mark = m; pointer = p }

-- the neighbours over open edges still to look at, n directions from k on: a lower mark is taken; a node that is not unrooted stops at one marked reset
unfoldable pub scanned : Plan → (ℕ → ℕ) → (ℕ → ℕ) → ℕ → Bool → ℕ → ℕ → ℕ → ℕ → Flood
scanned P mark growth x unrooted k zero m p = flood m p
scanned P mark growth x unrooted k (suc n) m p =
    let v = mark (over_by x (P.off k)) in
    if (eqb (growth (over_by x (P.slot k))) 2)
    (if (eqb v reset_code && not unrooted) (flood reset_code 0)
    (if (ltb v m) (scanned P mark growth x unrooted (k + 1) n v (k + 1)) (scanned P mark growth x unrooted (k + 1) n m p)))
    (scanned P mark growth x unrooted (k + 1) n m p)

-- the node at an entry sends its defect along a pointer
abbrev pub pushes_along : (ℕ → Bool) → (ℕ → ℕ) → ℕ → ℕ → Bool
pushes_along defect pointer x p = defect x && eqb (pointer x) p

-- whether an odd number of defects arrives over n directions from k on, with what arrived before: over every edge that is there
unfoldable pub arrived : Plan → (ℕ → Bool) → (ℕ → ℕ) → (ℕ → ℕ) → ℕ → ℕ → ℕ → Bool → Bool
arrived P defect pointer growth x k zero odd = odd
arrived P defect pointer growth x k (suc n) odd =
    arrived P defect pointer growth x (k + 1) n
    (if (eqb (growth (over_by x (P.slot k))) no_edge) odd (xor odd (pushes_along defect pointer (over_by x (P.off k)) (P.back k))))

module _ (P : Plan) (st : State) where
  -- a node marked reset takes its own number
  abbrev pub flood_of : ℕ → Flood
  flood_of x =
      if (eqb (st.mark x) reset_code) (flood (P.own x) (st.pointer x))
      (scanned P st.mark st.growth x (st.unrooted x) 0 P.dirs (st.mark x) (st.pointer x))

  abbrev pub active_after : ℕ → Bool
  active_after x = if (eqb (st.pointer x) 0) (st.defect x) (st.active (over_by x (P.off (st.pointer x - 1))))

  -- it has a defect and its pointer is not C
  abbrev pub sender : ℕ → Bool
  sender x = st.defect x && not (eqb (st.pointer x) 0)

  -- what arrives is looked for only where some node sends
  abbrev pub defect_after : Bool → ℕ → Bool
  defect_after sending x =
      xor (st.defect x && eqb (st.pointer x) 0) (sending && P.inner x && arrived P st.defect st.pointer st.growth x 0 P.dirs false)

  abbrev pub unrooted_after : ℕ → Bool
  unrooted_after x = st.unrooted x || eqb (st.mark x) reset_code

  abbrev pub busy_at : ℕ → Bool
  busy_at x = not (eqb (flood_of x).mark (st.mark x)) || sender x || xor (active_after x) (st.active x)

  -- busy, or a defect that comes or goes
  abbrev pub stirs : Bool → ℕ → Bool
  stirs sending x = busy_at x || xor (defect_after sending x) (st.defect x)

  -- the correction bit of the edge of a kind that the node names, flipped by each end that pushes along it
  abbrev pub correction_after : ℕ → ℕ → Bool
  correction_after kind x =
      let e = cell kind x in
      let k = P.namer kind in
      if (eqb (st.growth e) no_edge) (st.correction e)
      (xor (xor (st.correction e) (pushes_along st.defect st.pointer x (k + 1))) (pushes_along st.defect st.pointer (over_by x (P.off k)) (P.back k)))

-- GROW: an edge's growth, by its two ends; no edge stays none
abbrev pub growth_after : ℕ → Bool → Bool → ℕ
growth_after v a b = if (eqb v no_edge) v (min 2 (v + bit a + bit b))
