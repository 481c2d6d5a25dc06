-- A ROUND'S EDGES by entries: each kind one sheet lower, and the new sheet's edges as the table has them. Assumes nothing.
use Rattle.std.specs.Prelude.{ℕ, ◌+◌, ◌-◌, ◌*◌, ◌≤◌, ◌<◌, ◌≡◌, Bool, false, ◌&&◌, List, eqb, ltb, length, get_or}
use Rattle.shape.specs.Choice.{if}
use Rattle.flat.specs.Codes.{no_edge}
use Rattle.flat.specs.Entries.{plane, entry, cell, within}
use Rattle.flat.specs.Plan.{template_in}
use Rattle.flat.specs.Stored.{stored}

-- the kind's edges go up from the node that names them
abbrev pub rises_in : List ℕ → ℕ → Bool
rises_in table kind = eqb (get_or table (160 + kind) 0) 1

-- what one kind's loops store
abbrev pub fresh_on : List ℕ → Bool → ℕ → ℕ → List ℕ → List ℕ
fresh_on table second sheet kind l =
    if (rises_in table kind)
    (if second
    (stored (kind * plane + 512 + sheet) (template_in table kind) sheet (stored (kind * plane + 512) (λ i. no_edge) sheet l))
    (stored (kind * plane + 512) (λ i. no_edge) sheet l))
    (stored (kind * plane + 512) (template_in table kind) sheet l)

module _ (table : List ℕ) (second : Bool) (kinds n sheet : ℕ) (old : List ℕ) where
  -- the edge of a kind at a node: on top that of a kind that stays in its sheet, below it that of one that goes up, if the second sheet is
  -- there; else what stood one sheet above
  abbrev pub sunk_edge : ℕ → ℕ → ℕ
  sunk_edge kind g =
      if (ltb g sheet)
      (if (rises_in table kind) no_edge (template_in table kind g))
      (if (rises_in table kind && second && ltb (g - sheet) sheet) (template_in table kind (g - sheet)) (get_or old (cell kind (entry (g - sheet))) 0))

  -- n nodes' edges of every kind, and all else as it was
  pub record Sank (edges edges' : List ℕ) : Type 0 where
    pub long : length edges' ≡ length edges
    pub sinks : (kind g : ℕ) → kind < kinds → g < n → get_or edges' (cell kind (entry g)) 0 ≡ sunk_edge kind g
    pub margin : (kind x : ℕ) → x < plane → within n x ≡ false → get_or edges' (cell kind x) 0 ≡ get_or edges (cell kind x) 0
    pub behind : (e : ℕ) → plane * kinds ≤ e → get_or edges' e 0 ≡ get_or edges e 0
