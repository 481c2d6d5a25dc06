-- WHAT THE MACHINE'S ARRAYS HOLD BEFORE THE FIRST ROUND: the fresh window, which is quiet, or a window that was unpacked, of which that is not
-- known. Assumes nothing.
use Rattle.std.specs.Prelude.{ℕ, ◌≤◌, ◌<◌, ◌≡◌, refl, Bool, false, List, length, get_or, replicate}
use Rattle.std.proofs.Common.{zero-add, mul-le-mul_right, arith, sym, ◌∙◌, ap}
use Rattle.std.proofs.Math.Path.{subst}
use Rattle.std.proofs.Math.Bool.{true}
use Rattle.std.proofs.lemmas.List.{length-replicate, get_or-replicate}
use Rattle.refusal.specs.Laws.{undone}
use Rattle.shape.specs.Sizes.{IsShape, nodes_of, sheets_of}
use Rattle.shape.specs.declared.Shape.{Shape}
use Rattle.steps.specs.Steps.{Table}
use Rattle.steps.specs.Models.{of_model}
use Rattle.steps.proofs.Models.{suited-model}
use Rattle.window.specs.Fresh.{fresh_window}
use Rattle.window.specs.LawsLists.{get_or-same}
use Rattle.window.specs.Lists.{every}
use Rattle.window.specs.Window.{is_rest, size}
use Rattle.window.specs.declared.Window.{Window}
use Rattle.closure.specs.Closure.{Kept}
use Rattle.flat.specs.Codes.{active_of, defect_of, unrooted_of, pointer_of, growth_of, correction_of}
use Rattle.flat.specs.Entries.{plane, entry, cell, within, state_of, Long}
use Rattle.flat.specs.LawsEntries.{inside}
use Rattle.flat.specs.Plan.{plan_of, Safe}
use Rattle.flat.specs.Stored.{stored, stored_at, length-stored}
use Rattle.flat.specs.Structs.{state_in}
use Rattle.flat.specs.declared.Sizes.{Sizes}
use Rattle.flat.specs.declared.arrays.Arrays.{Arrays}
use Rattle.flat.specs.declared.arrays.Work.{Work}
use Rattle.plan.specs.Filled.{Filled}
use Rattle.plan.specs.Table.{sizes_of}
use Rattle.round_step.specs.Falls.{NoneOutside}
use Rattle.shows.specs.Fresh.{Blank}
use Rattle.shows.proofs.Tests.{riding-by}
use Rattle.shows.proofs.Written.{written-shows}
use Rattle.unpack.specs.Rides.{rides_in}
use Rattle.unpack.specs.Unpacked.{Unpacked}
use Rattle.shows.specs.Turn.{Held}
use Rattle.shows.proofs.Turn.{fresh-held}
use Rattle.turn.specs.Ready.{Scratch}

-- as they are made

pub nodes-long : length (replicate {A = ℕ} 4608 0) ≡ 4608
nodes-long = length-replicate {A = ℕ} 4608 0

pub long-made : Long (replicate {A = ℕ} 4608 0) (replicate {A = ℕ} 4608 0) (replicate {A = ℕ} 27648 3)
long-made = record { of-nodes = nodes-long; of-marks = nodes-long; of-edges = length-replicate {A = ℕ} 27648 3 }

pub long-empty : (arrays : Arrays) → arrays.nodes ≡ replicate {A = ℕ} 4608 0 → arrays.marks ≡ replicate {A = ℕ} 4608 0 → arrays.edges ≡ replicate {A = ℕ} 27648 3 → Long arrays.nodes arrays.marks arrays.edges
long-empty arrays n m e = rw (n, m, e) long-made

pub scratch-made : (work : Work) → work.lists ≡ replicate {A = ℕ} 13824 0 → work.queued ≡ replicate 4608 false → work.words ≡ replicate {A = ℕ} 4608 0 → Scratch work
scratch-made work l q w =
    record {
      lists-long = ap length l ∙ length-replicate {A = ℕ} 13824 0;
      empty = record { wide = ap length q ∙ length-replicate 4608 false; none = λ x. ap (λ (b : List Bool). get_or b x false) q ∙ get_or-same false 4608 x };
      words_long = ap length w ∙ nodes-long;
    }

module _ (T : Table) (h d : ℕ) (table : List ℕ) (F : Filled T h d table) where
  pub safe-made : (z : Sizes) → z ≡ sizes_of T h d → Safe z table
  safe-made z e = subst (λ (y : Sizes). Safe y table) (sym e) F.safe

  cell-low : (kind x : ℕ) → kind < T.kinds → x < plane → cell kind x < 27648
  cell-low kind x k l =
      let m = F.safe.kinds in
      let a : kind ≤ 5 = omega arith in
      let n = mul-le-mul_right plane a in
      omega arith

  no-edge : (kind x : ℕ) → kind < T.kinds → x < plane → get_or (replicate {A = ℕ} 27648 3) (cell kind x) 0 ≡ 3
  no-edge kind x k l = get_or-replicate {A = ℕ} 27648 (cell kind x) 3 0 (cell-low kind x k l)

  pub none_made : NoneOutside T h d (replicate {A = ℕ} 27648 3)
  none_made kind x k l o = ap growth_of (no-edge kind x k l)

  -- n nodes that are their own clusters
  made-node : (n x : ℕ) → n ≤ 3600 → within n x ≡ true → get_or (replicate {A = ℕ} 4608 0) x 0 ≡ 0
  made-node n x m i = get_or-replicate {A = ℕ} 4608 x 0 0 (let b = (inside n x i).1 in omega arith)

-- THE FRESH WINDOW: marks are the nodes' own numbers
module _ (sh : Shape) (range : IsShape sh) (z : Sizes) (same : z ≡ sizes_of (of_model sh.model) sh.height sh.distance) (table : List ℕ) (F : Filled (of_model sh.model) sh.height sh.distance table)
    (marks : List ℕ) (own : marks ≡ stored 0 (λ i. get_or table i 0) 4608 (replicate {A = ℕ} 4608 0)) where
  abbrev h : ℕ
  h = sh.height

  abbrev d : ℕ
  d = sh.distance

  abbrev nodes : List ℕ
  nodes = replicate {A = ℕ} 4608 0

  abbrev edges : List ℕ
  edges = replicate {A = ℕ} 27648 3

  marks-long : length marks ≡ 4608
  marks-long = ap length own ∙ length-stored 0 (λ i. get_or table i 0) 4608 nodes ∙ nodes-long

  pub long-fresh : Long (replicate {A = ℕ} 4608 0) marks (replicate {A = ℕ} 27648 3)
  long-fresh = record { of-nodes = nodes-long; of-marks = marks-long; of-edges = length-replicate {A = ℕ} 27648 3 }

  own-mark : (x : ℕ) → x < 4608 → get_or marks x 0 ≡ get_or table x 0
  own-mark x l =
      ap (λ (m : List ℕ). get_or m x 0) own
      ∙ subst (λ (y : ℕ). get_or (stored 0 (λ i. get_or table i 0) 4608 nodes) y 0 ≡ get_or table x 0) (zero-add x) (stored_at 0 (λ i. get_or table i 0) 4608 nodes 0 x l (omega (arith, nodes-long)))

  few-nodes : nodes_of sh.height sh.distance ≤ 3600
  few-nodes = F.safe.nodes

  blank : Blank (plan_of (sizes_of (of_model sh.model) sh.height sh.distance) table) (nodes_of sh.height sh.distance) (state_of (replicate {A = ℕ} 4608 0) marks (replicate {A = ℕ} 27648 3))
  blank =
      let n = nodes_of h d in
      record {
        active = λ x i. ap active_of (made-node (of_model sh.model) h d table F n x few-nodes i);
        defect = λ x i. ap defect_of (made-node (of_model sh.model) h d table F n x few-nodes i);
        unrooted = λ x i. ap unrooted_of (made-node (of_model sh.model) h d table F n x few-nodes i);
        pointer = λ x i. ap pointer_of (made-node (of_model sh.model) h d table F n x few-nodes i);
        mark = λ x i. own-mark x (let b = (inside n x i).1 in omega (arith, few-nodes));
        growth = λ kind x k l. ap growth_of (no-edge (of_model sh.model) h d table F kind x k l);
        correction = λ kind x k i. ap correction_of (no-edge (of_model sh.model) h d table F kind x k (let b = (inside n x i).1 in omega (arith, few-nodes)));
      }

  pub fresh-starts : Held (of_model sh.model) (plan_of z table) (fresh_window (of_model sh.model) sh) (state_of (replicate {A = ℕ} 4608 0) marks (replicate {A = ℕ} 27648 3)) true true
  unfolding fresh_window
  fresh-starts =
      subst (λ (y : Sizes). Held (of_model sh.model) (plan_of y table) (fresh_window (of_model sh.model) sh) (state_of nodes marks edges) true true) (sym same)
      (fresh-held (of_model sh.model) sh range (plan_of (sizes_of (of_model sh.model) h d) table) F.planned (state_of nodes marks edges) blank)

-- its first round
pub fresh-shape : (sh : Shape) → (fresh_window (of_model sh.model) sh).shape ≡ sh
unfolding fresh_window
fresh-shape sh = refl

pub fresh-next : (sh : Shape) → (fresh_window (of_model sh.model) sh).next ≡ sheets_of sh.distance
unfolding fresh_window
fresh-next sh = refl

-- IN ITS ARRAYS
module _ (sh : Shape) (range : IsShape sh) (z : Sizes) (same : z ≡ sizes_of (of_model sh.model) sh.height sh.distance) (table : List ℕ) (F : Filled (of_model sh.model) sh.height sh.distance table)
    (first : Arrays) (nodes : first.nodes ≡ replicate {A = ℕ} 4608 0) (marks : first.marks ≡ stored 0 (λ i. get_or table i 0) 4608 (replicate {A = ℕ} 4608 0)) (edges : first.edges ≡ replicate {A = ℕ} 27648 3) where
  pub fresh-arrays : Long first.nodes first.marks first.edges
  fresh-arrays = rw (nodes, edges) (long-fresh sh range z same table F first.marks marks)

  pub fresh-stands : Held (of_model sh.model) (plan_of z table) (fresh_window (of_model sh.model) sh) (state_in first) true true
  fresh-stands = rw (nodes, edges) (fresh-starts sh range z same table F first.marks marks)

-- A WINDOW AT REST, unpacked
module _ (w : Window) (k : Kept (of_model w.shape.model) w) (rest : is_rest w.stage ≡ true) (z : Sizes) (same : z ≡ sizes_of (of_model w.shape.model) w.shape.height w.shape.distance) (table : List ℕ)
    (F : Filled (of_model w.shape.model) w.shape.height w.shape.distance table) (nodes marks edges : List ℕ) (U : Unpacked (of_model w.shape.model) w nodes marks edges) (rides : Bool)
    (test : rides ≡ every z.nodes (λ g. rides_in z false nodes edges table (entry g))) where
  pub resting-starts : Held (of_model w.shape.model) (plan_of z table) w (state_of nodes marks edges) rides false
  resting-starts =
      let P = plan_of (sizes_of (of_model w.shape.model) w.shape.height w.shape.distance) table in
      let shows = written-shows (of_model w.shape.model) w k nodes marks edges U.written in
      let tested : rides ≡ every (size w) (λ g. rides_in (sizes_of (of_model w.shape.model) w.shape.height w.shape.distance) false nodes edges table (entry g)) =
      test ∙ ap (λ (y : Sizes). every y.nodes (λ g. rides_in y false nodes edges table (entry g))) same in
      subst (λ (y : Sizes). Held (of_model w.shape.model) (plan_of y table) w (state_of nodes marks edges) rides false) (sym same)
      (record {
        kept = k;
        rest = rest;
        planned = F.planned;
        shows = shows;
        riding = λ t. riding-by (of_model w.shape.model) (suited-model w.shape.model) w k P F.planned (state_of nodes marks edges) shows (sym tested ∙ t);
        all_quiet = λ t u. absurd (undone (sym u));
      })
