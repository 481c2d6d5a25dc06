-- A shape's sizes fit the arrays, and a shown window has no corrected edge up from its top sheet, as a round asks. Assumes nothing.
use Rattle.std.specs.Prelude.{ℕ, ◌+◌, ◌-◌, ◌*◌, ◌≤◌, ◌<◌, ◌≡◌, true, false, ◌&&◌, not, List, get_or}
use Rattle.std.proofs.Common.{mul-le-mul, mul-one, arith, ◌∙◌}
use Rattle.std.proofs.lemmas.Bool.{not-true}
use Rattle.shape.specs.Choice.{whether}
use Rattle.shape.proofs.LawsIndex.{nodes-max}
use Rattle.shape.proofs.Ranges.{halves, ranged, in-range}
use Rattle.shape.specs.Sizes.{in_range, sheets_of, nodes_of}
use Rattle.steps.specs.Steps.{Table, namer, slot_in}
use Rattle.steps.specs.Suited.{Suited}
use Rattle.window.specs.Formed.{is_empty}
use Rattle.window.specs.Window.{size, present, place, to}
use Rattle.window.specs.declared.Window.{Window}
use Rattle.closure.specs.Closure.{Kept}
use Rattle.closure.specs.Edges.{edge}
use Rattle.closure.specs.Facts.{Facts, facts}
use Rattle.closure.specs.Lower.{top}
use Rattle.flat.specs.Entries.{state_of}
use Rattle.shows.specs.Shows.{Shows}
use Rattle.shows.proofs.Sinks.{goes-up}
use Rattle.plan.specs.Filled.{sheets-are, sheet-most}
use Rattle.round_step.specs.Falls.{NoneAbove}

-- there are three sheets or more
pub record Fitting (h d : ℕ) : Type 0 where
  pub most : nodes_of h d ≤ 3600
  pub sheet : h * (d + 1) ≤ 240
  pub two : 2 * (h * (d + 1)) ≤ nodes_of h d

pub fitting : (h d : ℕ) → in_range h d ≡ true → Fitting h d
fitting h d ok =
    let n = h * (d + 1) in
    let r = (ranged h d ok).d2 in
    let s : 1 ≤ sheets_of d - 1 = omega arith in
    let same : n ≤ n = omega arith in
    let m : n * 1 ≤ n * (sheets_of d - 1) = mul-le-mul same s in
    let o = mul-one n in
    let e = sheets-are h d ok in
    record { most = nodes-max h d; sheet = sheet-most h d ok; two = omega arith }

module _ (T : Table) (S : Suited T) (w : Window) (k : Kept T w) (nodes marks edges : List ℕ) (H : Shows T w (state_of nodes marks edges)) where
  abbrev h : ℕ
  h = w.shape.height

  abbrev d : ℕ
  d = w.shape.distance

  abbrev F : Facts T w
  F = facts T w k.formed

  pub none_above : NoneAbove T h d edges
  none_above kind i m f l =
      let z = top h d i F.ranged.h1 l in
      let up = goes-up T S kind m f in
      let none : (to w T (namer T kind) i).there ≡ false
      = whether (to w T (namer T kind) i).there (λ t. let c = (edge T h d (present w) (namer T kind) (place w i) t).sheet in absurd (omega arith)) (λ t. t) in
      let slot = slot_in (size w) kind i in
      let n : i < size w = omega (arith, (fitting h d (in-range h d F.ranged)).two) in
      let u = (F.slots i kind n m).used in
      let v : (is_empty (get_or w.growth slot 0) && not (get_or w.correction slot false)) ≡ true = rw none at u in
      H.correction kind i m n ∙ not-true (get_or w.correction slot false) (halves (is_empty (get_or w.growth slot 0)) _ v).1
