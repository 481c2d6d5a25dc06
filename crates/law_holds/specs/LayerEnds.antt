-- The end that names an edge, and the edge as its layer has it. Assumes nothing.
use Rattle.std.specs.Prelude.{ℕ, ◌+◌, ◌-◌, ◌≤◌, ◌<◌, ◌≡◌, refl}
use Rattle.std.proofs.Common.{arith, ap, subst, ⊎_elim}
use Rattle.layers.specs.Layers.{edge_number, edge_of, layer_edges, edge_by}
use Rattle.law_holds.specs.Layered.{layered}
use Rattle.shape.specs.Choice.{if-true, if-false, tell}
use Rattle.steps.specs.Steps.{Table, step, goes, across, slot, namer, naming_end}
use Rattle.steps.specs.Joins.{Joins}
use Rattle.steps.specs.Proper.{Points, Opposed, Reversed, points}
use Rattle.steps.proofs.LawsStep.{across-back, joins-back}
use Rattle.layers.specs.declared.Edge.{Edge}
use Rattle.shape.specs.declared.Place.{Place}
use Rattle.steps.specs.declared.Shift.{Shift}
use Rattle.steps.specs.declared.Step.{Step}
use Rattle.steps.specs.Suited.{Suited, Names, namer-names, namer-is, namer-back}
use Rattle.window.specs.Round.{edge_slot}
use Rattle.law.specs.Law.{Spot}
use Rattle.law.specs.Spots.{spot-by}

-- the edge of pointer v at q as its layer has it, and its number there
abbrev pub edge_here : Table → Place → ℕ → Edge
edge_here T q v = record { kind = (step T v).kind; row = (naming_end T v q).row; column = (naming_end T v q).column }

abbrev pub number_here : Table → ℕ → ℕ → Place → ℕ → ℕ
number_here T h d q v = edge_number T h d (edge_here T q v)

module _ (T : Table) (S : Suited T) (h d s : ℕ) (q : Place) (v : ℕ) (j : Joins h d s (step T v) q) where
  abbrev kind : ℕ
  kind = (step T v).kind

  pointed : Points T v
  pointed = points T v j.moves

  pub opposed : Opposed T v
  opposed = S.proper.opposed v pointed

  names : Names T kind (namer T kind)
  names = namer-names T S kind opposed.kind

  -- there is an edge in the direction in which it is named
  pub named-joins : Joins h d s (step T (namer T kind)) (naming_end T v q)
  named-joins =
      ⊎_elim (λ o. rw (namer-is T S v pointed o, if-true (step T v).own q (across (step T v) q) o) j)
      (λ o. rw (namer-back T S v pointed o, if-false (step T v).own q (across (step T v) q) o) (joins-back h d s (step T v) (step T (step T v).back) opposed.reversed q j))
      (tell (step T v).own)

  by_name : edge_by T (namer T kind) (naming_end T v q) ≡ edge_here T q v
  by_name = ap {B = Edge} (λ (k : ℕ). record { kind = k; row = (naming_end T v q).row; column = (naming_end T v q).column }) names.same

  pub number-below : number_here T h d q v < layer_edges T h d
  number-below = subst (λ (e : Edge). edge_number T h d e < layer_edges T h d) by_name ((layered T S).number_lt h d s (namer T kind) (naming_end T v q) named-joins names.own)

  pub number_is : edge_of T h d (number_here T h d q v) ≡ edge_here T q v
  number_is = subst (λ (e : Edge). edge_of T h d (edge_number T h d e) ≡ e) by_name ((layered T S).number_of h d s (namer T kind) (naming_end T v q) named-joins names.own)

pub slot_is : (T : Table) (h d : ℕ) (q : Place) (v : ℕ) → slot T h d v q ≡ edge_slot h d (naming_end T v q).depth (edge_here T q v)
unfolding slot
slot_is T h d q v = refl

-- the spot at a place, where a round is the top sheet
abbrev pub spot_at : ℕ → Place → Spot
spot_at top q = record { round = top - q.depth; row = q.row; column = q.column }

-- where a layer's edge ends over its step, by place and back
abbrev pub far_by : Step → ℕ → Place → Spot
far_by st n q = record { round = n + st.sheet.less - st.sheet.more; row = goes st.row q.row; column = goes st.column q.column }

pub far-back : (h d s top : ℕ) (st bk : Step) → Reversed st bk → (q : Place) → Joins h d s st q → s ≤ top + 1 → far_by bk (top - (across st q).depth) (across st q) ≡ spot_at top q
unfolding across
far-back h d s top st bk R q j l =
    let back = across-back h d s st bk R q j in
    let x = ap (λ (c : Shift). c.less) R.sheet in
    let y = ap (λ (c : Shift). c.more) R.sheet in
    let z = j.sheet in
    let t = j.to.depth in
    let u = j.from.depth in
    spot-by _ (spot_at top q) (omega (arith, x, y, z, t, u)) (ap (λ (c : Place). c.row) back) (ap (λ (c : Place). c.column) back)
