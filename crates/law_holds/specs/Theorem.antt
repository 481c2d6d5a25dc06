-- DEMAND 3 HOLDS: the law after every list of calls. Assumes nothing.
use Rattle.std.specs.Prelude.{ℕ, ◌+◌, ◌≡◌, refl, List}
use Rattle.std.proofs.Common.{arith, sym, subst}
use Rattle.shape.specs.Sizes.{IsShape, shape_by}
use Rattle.steps.specs.Steps.{Table, base}
use Rattle.shape.specs.declared.Shape.{Shape}
use Rattle.window.specs.Fresh.{fresh_window}
use Rattle.window.specs.Round.{rounded}
use Rattle.window.specs.Measured.{as_sheet, measuring}
use Rattle.window.specs.LawsMeasured.{sheet-none}
use Rattle.window.specs.Grow.{grown}
use Rattle.window.specs.Merging.{merged}
use Rattle.window.proofs.LawsFresh.{started}
use Rattle.window.specs.declared.Window.{Window}
use Rattle.steps.specs.Moves.{Move, Steps, table_of}
use Rattle.steps.specs.Suited.{Suited}
use Rattle.steps.proofs.Suits.{suited}
use Rattle.steps.specs.Models.{phenomenological, circuit_level, circuit, of_model}
use Rattle.steps.proofs.Models.{steps-0, steps-1, base-is, circuit-is, of-both}
use Rattle.closure.specs.Facts.{facts}
use Rattle.closure.specs.Closure.{kept_fresh}
use Rattle.law.specs.Law.{Played, Call, AbsentEmpty, Law, Demand3, play, start, last}
use Rattle.law.specs.Everywhere.{Conserved, of-supplied}
use Rattle.law_holds.specs.Rules.{Invariant}
use Rattle.law_holds.specs.Play.{playing}
use Rattle.law_holds.specs.Clusters.{Clustered, clustered-fresh, clustered, clustered-rested}
use Rattle.law_holds.specs.Receipts.{later}
use Rattle.law_holds.specs.ConservedFresh.{conserved-fresh}
use Rattle.law_holds.specs.Conservation.{conserved}
use Rattle.law_holds.specs.Absent.{absent-after}

-- the shape stays, the next round is the one after the last, and nothing left with an absent one
record Counted (sh : Shape) (p : Played) : Type 0 where
  shape : p.window.shape ≡ sh
  next : p.window.next ≡ last p + 1
  absent : AbsentEmpty p

counted-fresh : (T : Table) (sh : Shape) → Counted sh (start (fresh_window T sh))
unfolding fresh_window
counted-fresh T sh = record { shape = refl; next = omega arith; absent = λ n l i. (refl, refl) }

counted : (T : Table) → Suited T → (sh : Shape) → Invariant T (Counted sh)
unfolding rounded grown merged measuring
counted T S sh =
    record {
      round = λ p defects k st bits i.
          record {
            shape = i.shape;
            next = let n = i.next in let m = later T p defects in omega arith;
            absent = absent-after T S p defects (facts T p.window k.formed) i.next i.absent;
          };
      replace = λ p bytes i. record { shape = i.shape; next = i.next; absent = i.absent };
      grow = λ p k st i. record { shape = i.shape; next = i.next; absent = i.absent };
      merging = λ p k st i. record { shape = i.shape; next = i.next; absent = i.absent };
    }

-- the sheet is the bytes of the last raw call
abbrev Sheet : Played → Type 0
Sheet p = p.window.measured ≡ as_sheet p.last_raw

sheet-fresh : (T : Table) (sh : Shape) → Sheet (start (fresh_window T sh))
unfolding fresh_window
sheet-fresh T sh = sym sheet-none

sheet-kept : (T : Table) → Invariant T Sheet
unfolding rounded grown merged measuring
sheet-kept T = record { round = λ p defects k st bits i. i; replace = λ p bytes i. refl; grow = λ p k st i. i; merging = λ p k st i. i }

module _ (T : Table) (S : Suited T) where
  pub law : (sh : Shape) → IsShape sh → (calls : List Call) → Law T (fresh_window T sh) (play T (start (fresh_window T sh)) calls)
  unfolding fresh_window
  law sh range calls =
      let p = start (fresh_window T sh) in
      let k = kept_fresh T sh range in
      let a = playing T S (Conserved T) (conserved T S) calls p k (conserved-fresh T sh range.sizes) in
      let b = playing T S (Clustered T) (clustered T S) calls p k (clustered-fresh T sh) in
      let c = playing T S (Counted sh) (counted T S sh) calls p k (counted-fresh T sh) in
      let s = playing T S Sheet (sheet-kept T) calls p k (sheet-fresh T sh) in
      record {
        conserved = of-supplied T (play T p calls) a.1;
        absent = c.1.absent;
        rested = clustered-rested T S (play T p calls) b.0 b.1;
        shape = c.1.shape;
        next = c.1.next;
        sheet = s.1;
      }

  pub holds : Demand3 T
  holds h d m largest_height largest_distance w n e calls =
      let x = started T h d m largest_height largest_distance w n e in
      subst (λ (u : Window). Law T u (play T (start u) calls)) x.value (law (shape_by h d m) x.range calls)

-- every table of distinct non-zero steps, at most one sheet up or down, in which each has its opposite
pub demand3 : (ms : List Move) → Steps ms → Demand3 (table_of ms)
demand3 ms M = holds (table_of ms) (suited ms M)

-- both models, by their written-out tables; and so every window's, by its model
pub demand3-0 : Demand3 base
demand3-0 = subst Demand3 base-is (demand3 phenomenological steps-0)

pub demand3-1 : Demand3 circuit
demand3-1 = subst Demand3 circuit-is (demand3 circuit_level steps-1)

pub demand3-model : (m : ℕ) → Demand3 (of_model m)
demand3-model m = of-both Demand3 m demand3-1 demand3-0
