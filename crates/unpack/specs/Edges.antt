-- A WINDOW'S EDGES, as loops over kinds and sheets write them. Assumes nothing.
use Rattle.std.specs.Prelude.{ℕ, ◌+◌, ◌-◌, ◌*◌, ◌%◌, ◌≤◌, ◌<◌, ◌≡◌, Bool, false, List, eqb, get_or}
use Rattle.std.proofs.Common.{add-mul, one-mul, mul-le-mul, mul-le-mul_right, arith}
use Rattle.shape.specs.Choice.{if}
use Rattle.steps.specs.Steps.{slot_in}
use Rattle.flat.specs.Codes.{no_edge, edge_code}
use Rattle.flat.specs.Entries.{margin, plane}
use Rattle.plan.specs.Passes.{blocks}

-- an edge that a fresh sheet has, or none
abbrev pub edge_by : ℕ → ℕ → Bool → ℕ
edge_by fresh growth correction = if (eqb fresh 0) (edge_code (growth % 4) correction) no_edge

module _ (growth : List ℕ) (correction : List Bool) (table : List ℕ) where
  -- a sheet's edges, from a slot on, where the fresh sheet's begin at an entry of the table
  abbrev pub sheet_rule : ℕ → ℕ → ℕ → ℕ
  sheet_rule fresh e i = edge_by (get_or table (fresh + i) 0) (get_or growth (e + i) 0) (get_or correction (e + i) false)

-- a kind's, of the sheets from its first on
abbrev pub kind_on : ℕ → ℕ → ℕ → List ℕ → List Bool → List ℕ → ℕ → List ℕ → List ℕ
kind_on n sheet there growth correction table kind l =
    let first = get_or table (160 + kind) 0 in
    blocks (kind * plane + margin + first * sheet) sheet (λ k. sheet_rule growth correction table (plane + 240 * kind) (slot_in n kind (first * sheet) + k * sheet)) sheet (there - first) l

-- NO NUMBER WRAPS

pub record KindLow (nodes n first k kind : ℕ) : Type 0 where
  pub sheets : k * n + first * n + n ≤ 3600
  pub slots : nodes * kind ≤ 18000

pub first-low : (n first : ℕ) → n ≤ 240 → first ≤ 1 → first * n ≤ 240
first-low n first a b = mul-le-mul {n₂ = 1} {m₂ = 240} b a

pub slots-low : (nodes kind : ℕ) → kind < 6 → nodes ≤ 3600 → nodes * kind ≤ 18000
slots-low nodes kind a b = let c : kind ≤ 5 = omega arith in mul-le-mul {n₂ = 3600} {m₂ = 5} b c

pub kind-low : (nodes n there first k kind : ℕ) → kind < 6 → nodes ≤ 3600 → there * n ≤ nodes → k + first < there → KindLow nodes n first k kind
kind-low nodes n there first k kind a b c l =
    let e : k + first + 1 ≤ there = omega arith in
    let f = mul-le-mul_right n e in
    let g : (k + first + 1) * n ≡ k * n + first * n + n = rw (add-mul, add-mul, one-mul) in
    record { sheets = omega arith; slots = slots-low nodes kind a b }
