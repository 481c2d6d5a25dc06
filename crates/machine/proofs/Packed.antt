-- WHAT IS PACKED: the arrays that a rule leaves stand for the rule's window. Assumes nothing.
use Prim.Native.Nat.{ℕ, zero, suc, ◌+◌, ◌≤◌, ◌<◌}
use native.Mathlib.Nat.{mul-le-mul_right}
use native.Mathlib.Omega.{arith}
use mathlib.Core.Path.{◌≡◌, refl, sym, ◌∙◌, ap, subst}
use mathlib.Core.Bool.{Bool, true, false}
use mathlib.Core.List.{List}
use lib.ListN.{get_or, replicate, length-replicate, get_or-replicate}
use Rattle.shape.proofs.Ranges.{in-range}
use Rattle.shape.specs.Sizes.{in_range}
use Rattle.steps.specs.Steps.{Table}
use Rattle.steps.specs.Models.{of_model}
use Rattle.steps.proofs.Models.{suited-model}
use Rattle.window.specs.Window.{is_rest, size, sheet}
use Rattle.window.specs.Formed.{well_formed}
use Rattle.window.specs.Round.{rounded, committed_edges, escaped_defects}
use Rattle.window.specs.Grow.{grown}
use Rattle.window.specs.Calls.{as_round, receiving}
use Rattle.window.specs.declared.Stage.TheVariants.{ToGrow, Merging}
use Rattle.window.specs.declared.Window.{Window}
use Rattle.closure.specs.Closure.{Kept, kept-round, kept-grow}
use Rattle.closure.specs.Facts.{facts}
use Rattle.flat.specs.Codes.{no_edge, growth_of}
use Rattle.flat.specs.Entries.{State, plane, planes, cell, state_of, Long}
use Rattle.flat.specs.Plan.{Plan, plan_of, Safe}
use Rattle.flat.specs.declared.Sizes.{Sizes}
use Rattle.shows.specs.Shows.{Shows, window_of}
use Rattle.shows.proofs.Written.{written-shows}
use Rattle.shows.specs.Unpack.{window-shown}
use Rattle.shows.specs.Sinks.{second_there, Sinks}
use Rattle.shows.proofs.Sinks.{sinks-shows}
use Rattle.shows.specs.Grown.{Grows}
use Rattle.shows.proofs.Grown.{grown-shows}
use Rattle.queue.specs.Queue.{Empty}
use Rattle.grow_step.specs.Standing.{Standing}
use Rattle.plan.specs.Table.{sizes_of}
use Rattle.plan.specs.Filled.{Filled}
use Rattle.unpack.specs.Unpacked.{Unpacked}
use Rattle.round_step.specs.Falls.{NoneOutside}

-- A WINDOW, as it is given: well-formed, and its arrays have their lengths

pub formed-ranged : (w : Window) → well_formed (of_model w.shape.model) w ≡ true → in_range w.shape.height w.shape.distance ≡ true
formed-ranged w e = in-range w.shape.height w.shape.distance (facts (of_model w.shape.model) w e).ranged

pub unpacked-long : (w : Window) (nodes marks edges : List ℕ) → Unpacked (of_model w.shape.model) w nodes marks edges → Long nodes marks edges
unpacked-long w nodes marks edges U = record { of-nodes = U.nodes-long; of-marks = U.marks-long; of-edges = U.edges-long }

-- ARRAYS AS THEY ARE MADE

-- no edge stands in the margins
pub none-outside : (T : Table) → T.kinds ≤ 6 → (h d n : ℕ) → planes ≤ n → NoneOutside T h d (replicate {A = ℕ} n no_edge)
none-outside T six h d n m kind x k l o =
    let a : kind ≤ 5 = omega arith in
    let i : cell kind x < n = omega (arith, mul-le-mul_right plane a) in
    ap growth_of (get_or-replicate n (cell kind x) no_edge 0 i)

-- no flag is set
pub none-queued : (n : ℕ) → n ≡ plane → Empty (replicate n false)
none-queued n e = record { wide = length-replicate n false ∙ e; none = go n }
  where
    go : (n x : ℕ) → get_or (replicate n false) x false ≡ false
    go zero x = refl
    go (suc n) zero = refl
    go (suc n) (suc x) = go n x

-- the sizes are the shape's
module _ (w : Window) (z : Sizes) (e : z ≡ sizes_of (of_model w.shape.model) w.shape.height w.shape.distance) (table : List ℕ) (F : Filled (of_model w.shape.model) w.shape.height w.shape.distance table) where
  pub safe : Safe z table
  safe = subst (λ (s : Sizes). Safe s table) (sym e) F.safe

  module _ (k : Kept (of_model w.shape.model) w) (nodes marks edges : List ℕ) (U : Unpacked (of_model w.shape.model) w nodes marks edges) where
    abbrev st : State
    st = state_of nodes marks edges

    abbrev P : Plan
    P = plan_of (sizes_of (of_model w.shape.model) w.shape.height w.shape.distance) table

    pub shown : Shows (of_model w.shape.model) w (state_of nodes marks edges)
    shown = written-shows (of_model w.shape.model) w k nodes marks edges U.written

    pub standing : Standing (plan_of z table) z.nodes z.sheet (state_of nodes marks edges)
    standing =
        subst (λ (s : Sizes). Standing (plan_of s table) s.nodes s.sheet (state_of nodes marks edges)) (sym e)
        (of_model w.shape.model, suited-model w.shape.model, w, refl, refl, k, F.planned, shown)

    pub grown-packed : (st' : State) → Grows (plan_of z table) z.nodes z.sheet st st' → window_of (of_model w.shape.model) w.shape Merging w.next w.measured st' ≡ grown (of_model w.shape.model) w
    unfolding grown
    grown-packed st' A =
        let B : Grows P (size w) (sheet w) st st' = subst (λ (s : Sizes). Grows (plan_of s table) s.nodes s.sheet st st') e A in
        window-shown (of_model w.shape.model) (grown (of_model w.shape.model) w) (kept-grow (of_model w.shape.model) (suited-model w.shape.model) w k) st' (grown-shows (of_model w.shape.model) (suited-model w.shape.model) w k P F.planned st shown st' B)

    module _ (rest : is_rest w.stage ≡ true) (bytes : List ℕ) where
      round-packed : (second : Bool) → second ≡ second_there w.shape.distance w.next → (st' : State)
          → Sinks (of_model w.shape.model) w.shape.height w.shape.distance (plan_of z table) second bytes st st' → window_of (of_model w.shape.model) w.shape ToGrow (w.next + 1) w.measured st' ≡ rounded (of_model w.shape.model) w bytes
      unfolding rounded
      round-packed second s st' A =
          let B : Sinks (of_model w.shape.model) w.shape.height w.shape.distance (plan_of z table) (second_there w.shape.distance w.next) bytes st st'
          = subst (λ (b : Bool). Sinks (of_model w.shape.model) w.shape.height w.shape.distance (plan_of z table) b bytes st st') s A in
          let C : Sinks (of_model w.shape.model) w.shape.height w.shape.distance P (second_there w.shape.distance w.next) bytes st st'
          = subst (λ (s : Sizes). Sinks (of_model w.shape.model) w.shape.height w.shape.distance (plan_of s table) (second_there w.shape.distance w.next) bytes st st') e B in
          window-shown (of_model w.shape.model) (rounded (of_model w.shape.model) w bytes) (kept-round (of_model w.shape.model) (suited-model w.shape.model) w k bytes rest) st' (sinks-shows (of_model w.shape.model) (suited-model w.shape.model) w k rest bytes P F.planned st shown st' C)

      pub received : (second : Bool) → second ≡ second_there w.shape.distance w.next → (st' : State)
          → Sinks (of_model w.shape.model) w.shape.height w.shape.distance (plan_of z table) second bytes (state_of nodes marks edges) st' → (r : Window) → r ≡ window_of (of_model w.shape.model) w.shape ToGrow (w.next + 1) w.measured st'
          → (out escapes : List ℕ) → out ≡ committed_edges (of_model w.shape.model) w → escapes ≡ escaped_defects w → as_round r out escapes ≡ receiving (of_model w.shape.model) w bytes
      received second s st' A r p out escapes a b = let q : r ≡ rounded (of_model w.shape.model) w bytes = p ∙ round-packed second s st' A in rw (q, a, b)
