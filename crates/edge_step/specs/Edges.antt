-- CORRECTION BITS AFTER A STEP OVER A LIST: an edge along which a listed node sends is turned by both its ends. Assumes nothing.
use Rattle.std.specs.Prelude.{ℕ, ◌/◌, ◌%◌, ◌≤◌, ◌<◌, ◌≡◌, Bool, true, List, ◌⊎◌, ltb, eqb, get_or, length}
use Rattle.shape.specs.Choice.{if}
use Rattle.window.specs.Lists.{any, xor}
use Rattle.flat.specs.Codes.{no_edge, growth_of, correction_of}
use Rattle.flat.specs.Entries.{State, plane, planes}
use Rattle.flat.specs.Plan.{Plan}
use Rattle.flat.specs.Rule.{sender}
use Rattle.flat.specs.Step.{edge_along, bit_along, sending, Turned, Unturned}

-- the correction bit of an edge of growth g, turned by both ends
abbrev pub turned_bit : ℕ → Bool → Bool → Bool → Bool
turned_bit g c mine theirs = if (eqb g no_edge) c (xor (xor c mine) theirs)

-- an edge's number v after the pushes of its two ends
pub record TurnedEdge (v : ℕ) (mine theirs : Bool) (r : ℕ) : Type 0 where
  pub low : r < 256
  pub growth : growth_of r ≡ growth_of v
  pub correction : correction_of r ≡ turned_bit (growth_of v) (correction_of v) mine theirs

-- A TURN IN A WORD: 256 times the edge's place, and its new number
abbrev pub edge_in : ℕ → ℕ
edge_in w = w / 256

abbrev pub number_in : ℕ → ℕ
number_in w = w % 256

module _ (P : Plan) (st : State) where
  -- the word of a node that sends
  pub record Turn (x w : ℕ) : Type 0 where
    pub edge-back : edge_in w ≡ edge_along P st x
    pub low : edge_in w < planes
    pub growth : growth_of (number_in w) ≡ st.growth (edge_in w)
    pub correction : correction_of (number_in w) ≡ bit_along P st x

  -- the first `made` words are those of the listed nodes that send
  pub record Turns (list : ℕ → ℕ) (count made : ℕ) (words : List ℕ) : Type 0 where
    pub long : length words ≡ plane
    pub few : made ≤ count
    pub some : ltb 0 made ≡ any count (λ i. sender P st (list i))
    pub told : (j : ℕ) → j < made → (i : ℕ) × (i < count) × (sender P st (list i) ≡ true) × Turn (list i) (get_or words j 0)
    pub all : (i : ℕ) → i < count → sender P st (list i) ≡ true → (j : ℕ) × (j < made) × Turn (list i) (get_or words j 0)

  -- all are laid down, and it is known whether some node sends
  pub record Flipped (count : ℕ) (list : ℕ → ℕ) (sends : Bool) (edges : List ℕ) : Type 0 where
    pub long : length edges ≡ planes
    pub some : sends ≡ sending P st count list
    pub growth : (e : ℕ) → growth_of (get_or edges e 0) ≡ st.growth e
    pub correction : (e : ℕ)
        → Turned P st count list e (correction_of (get_or edges e 0)) ⊎ (Unturned P st count list e × (correction_of (get_or edges e 0) ≡ st.correction e))
