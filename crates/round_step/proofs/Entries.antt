-- A round's nodes, marks and edges, entry by entry. Assumes nothing.
use Prim.Native.Nat.{ℕ, ◌+◌, ◌-◌, ◌*◌, ◌/◌, ◌%◌, ◌≤◌, ◌<◌}
use native.Mathlib.Nat.{mod-lt, div-lt_iff_lt-mul, div-add-mod'}
use native.Mathlib.Omega.{arith}
use mathlib.Core.Path.{◌≡◌, refl, sym, ◌∙◌, ap, subst}
use mathlib.Core.Bool.{Bool, true, false, ◌&&◌, not}
use mathlib.Core.List.{List}
use lib.Dec.{eqb}
use lib.ListN.{get_or}
use Rattle.shape.specs.Choice.{if, whether}
use Rattle.shape.specs.Sizes.{in_range, boundary, nodes_of}
use Rattle.steps.specs.Steps.{Table, step, namer}
use Rattle.steps.specs.Ranks.{bit}
use Rattle.layers.specs.Layers.{spans}
use Rattle.flat.specs.Codes.{node_code, active_of, defect_of, unrooted_of, pointer_of, no_edge, growth_of, correction_of}
use Rattle.flat.specs.Entries.{margin, entry, cell, state_of}
use Rattle.flat.specs.Plan.{plan_of, template_in}
use Rattle.flat.specs.declared.Sizes.{Sizes}
use Rattle.shape.specs.Counting.{before}
use Rattle.shows.specs.Sinks.{rises, template, Sinks}
use Rattle.plan.specs.Table.{sizes_of, fresh_by}
use Rattle.plan.specs.Filled.{Filled}
use Rattle.sinking.specs.LawsSunk.{settled-active, settled-defect, settled-unrooted, settled-pointer}
use Rattle.sunk_edges.specs.Edges.{rises_in, Sank}
use Rattle.sunk_edges.specs.LawsEdges.{flat-top, flat-low, up_top, up_second, up-low, blank, bits, fresh-growth}
use Rattle.round_step.specs.Falls.{FallsNodes, FallsMarks, NoneOutside, NoneAbove}
use Rattle.round_step.specs.LawsFalls.{fitting}

-- a fresh node, with its defect
fresh-active : (b : Bool) → active_of (node_code false b false 0) ≡ false
fresh-active true = refl
fresh-active false = refl

fresh-defect : (b : Bool) → defect_of (node_code false b false 0) ≡ b
fresh-defect true = refl
fresh-defect false = refl

fresh-unrooted : (b : Bool) → unrooted_of (node_code false b false 0) ≡ false
fresh-unrooted true = refl
fresh-unrooted false = refl

fresh-pointer : (b : Bool) → pointer_of (node_code false b false 0) ≡ 0
fresh-pointer true = refl
fresh-pointer false = refl

told : (b : Bool) → eqb (bit b) 1 ≡ b
told true = refl
told false = refl

fresh-edge : (b : Bool) → fresh_by b % 4 ≡ if b 0 no_edge
fresh-edge true = refl
fresh-edge false = refl

module _ (T : Table) (h d : ℕ) (ok : in_range h d ≡ true) (z : Sizes) (ez : z ≡ sizes_of T h d) (table : List ℕ) (F : Filled T h d table) (second : Bool) (bytes old-nodes old-marks old-edges nodes marks edges edges' : List ℕ)
    (N : FallsNodes h d bytes old-nodes nodes) (M : FallsMarks h d table old-marks marks) (Z : Sank table second z.kinds z.nodes z.sheet old-edges edges edges')
    (none : NoneAbove T h d old-edges) (outside : NoneOutside T h d edges) where
  abbrev sheet : ℕ
  sheet = h * (d + 1)

  E : Sank table second T.kinds (nodes_of h d) sheet old-edges edges edges'
  E = subst (λ (y : Sizes). Sank table second y.kinds y.nodes y.sheet old-edges edges edges') ez Z

  -- NODES: an entry of the top sheet by its row and its column
  on-top : {A : Type 0} (f : ℕ → A) (v : A) → ((b : Bool) → f (node_code false b false 0) ≡ v) → (i : ℕ) → i < sheet → f (get_or nodes (entry i) 0) ≡ v
  on-top f v known i l =
      let w : 0 < d + 1 = omega arith in
      let r = i / (d + 1) in
      let c = i % (d + 1) in
      let m = mod-lt i w in
      let e : r * (d + 1) + c ≡ i = div-add-mod' i (d + 1) in
      ap (λ (x : ℕ). f (get_or nodes (entry x) 0)) (sym e)
      ∙ ap f (N.top r c ((div-lt_iff_lt-mul w).1 l) (omega arith))
      ∙ known (not (boundary d c) && eqb (get_or bytes (r * (d - 1) + (c - 1)) 0) 1)

  -- EDGES
  rises-is : (kind : ℕ) → kind < T.kinds → rises_in table kind ≡ rises T kind
  rises-is kind m = ap (λ (v : ℕ). eqb v 1) (F.rises kind m) ∙ told (rises T kind)

  fresh-is : (kind r c : ℕ) → kind < T.kinds → r < h → c ≤ d → template_in table kind (r * (d + 1) + c) ≡ template T h d kind r c
  fresh-is kind r c m a b = ap (λ (v : ℕ). v % 4) (F.fresh kind r c m a b) ∙ fresh-edge (spans h d (step T (namer T kind)) r c)

  top-growth : (kind r c : ℕ) → kind < T.kinds → rises T kind ≡ false → r < h → c ≤ d → growth_of (get_or edges' (cell kind (entry (r * (d + 1) + c))) 0) ≡ template T h d kind r c
  top-growth kind r c m u a b =
      let i = r * (d + 1) + c in
      let two = (fitting h d ok).two in
      let low : i < sheet = before (d + 1) r c (omega arith) h a in
      ap growth_of (flat-top table second T.kinds (nodes_of h d) sheet old-edges edges edges' E kind m (rises-is kind m ∙ u) i (omega arith) low)
      ∙ fresh-growth table kind i
      ∙ fresh-is kind r c m a b

  none-growth : (kind i : ℕ) → kind < T.kinds → rises T kind ≡ true → i < sheet → growth_of (get_or edges' (cell kind (entry i)) 0) ≡ no_edge
  none-growth kind i m u l =
      let two = (fitting h d ok).two in
      ap growth_of (up_top table second T.kinds (nodes_of h d) sheet old-edges edges edges' E kind m (rises-is kind m ∙ u) i (omega arith) l)

  second-growth : (kind r c : ℕ) → kind < T.kinds → rises T kind ≡ true → r < h → c ≤ d → entry (r * (d + 1) + c) + sheet < margin + nodes_of h d
      → growth_of (get_or edges' (cell kind (entry (r * (d + 1) + c) + sheet)) 0) ≡ if second (template T h d kind r c) (growth_of (get_or old-edges (cell kind (entry (r * (d + 1) + c))) 0))
  second-growth kind r c m u a b l =
      let i = r * (d + 1) + c in
      let low : i < sheet = before (d + 1) r c (omega arith) h a in
      let e : cell kind (entry i + sheet) ≡ cell kind (entry (i + sheet)) = omega arith in
      ap (λ (x : ℕ). growth_of (get_or edges' x 0)) e
      ∙ ap growth_of (up_second table second T.kinds (nodes_of h d) sheet old-edges edges edges' E kind m (rises-is kind m ∙ u) i (i + sheet) (omega arith) low refl)
      ∙ whether second (λ s. rw s (fresh-growth table kind i ∙ fresh-is kind r c m a b)) (λ s. rw s)

  low-growth : (kind x : ℕ) → kind < T.kinds → margin ≤ x → (rises T kind ≡ true → margin + sheet ≤ x) → x + sheet < margin + nodes_of h d
      → growth_of (get_or edges' (cell kind (x + sheet)) 0) ≡ growth_of (get_or old-edges (cell kind x) 0)
  low-growth kind x m a up l =
      let i = x - margin in
      let e : cell kind (x + sheet) ≡ cell kind (entry (i + sheet)) = omega arith in
      let f : cell kind (entry i) ≡ cell kind x = omega arith in
      ap (λ (y : ℕ). growth_of (get_or edges' y 0)) e
      ∙ ap growth_of (whether (rises T kind)
      (λ u. let b = up u in up-low table second T.kinds (nodes_of h d) sheet old-edges edges edges' E kind m (rises-is kind m ∙ u) i (i + sheet) (omega arith) (omega arith) refl)
      (λ u. flat-low table second T.kinds (nodes_of h d) sheet old-edges edges edges' E kind m (rises-is kind m ∙ u) i (i + sheet) (omega arith) refl))
      ∙ ap (λ (y : ℕ). growth_of (get_or old-edges y 0)) f

  low_bit : (kind x : ℕ) → kind < T.kinds → margin ≤ x → x + sheet < margin + nodes_of h d → correction_of (get_or edges' (cell kind (x + sheet)) 0) ≡ correction_of (get_or old-edges (cell kind x) 0)
  low_bit kind x m a l =
      let i = x - margin in
      let e : cell kind (x + sheet) ≡ cell kind (entry (i + sheet)) = omega arith in
      let f : cell kind (entry i) ≡ cell kind x = omega arith in
      ap (λ (y : ℕ). correction_of (get_or edges' y 0)) e
      ∙ bits table second T.kinds (nodes_of h d) sheet old-edges edges edges' E kind m i (i + sheet) (omega arith) refl (λ u b. none kind i m (sym (rises-is kind m) ∙ u) b)
      ∙ ap (λ (y : ℕ). correction_of (get_or old-edges y 0)) f

  pub sinks : Sinks T h d (plan_of z table) second bytes (state_of old-nodes old-marks old-edges) (state_of nodes marks edges')
  sinks =
      record {
        top-active = on-top active_of false fresh-active;
        top-defect = λ r c a b. ap defect_of (N.top r c a b) ∙ fresh-defect (not (boundary d c) && eqb (get_or bytes (r * (d - 1) + (c - 1)) 0) 1);
        top-unrooted = on-top unrooted_of false fresh-unrooted;
        top-pointer = on-top pointer_of 0 fresh-pointer;
        top-mark = M.top;
        active = λ x a b. ap active_of (N.low x a b) ∙ settled-active (get_or old-nodes x 0);
        defect = λ x a b. ap defect_of (N.low x a b) ∙ settled-defect (get_or old-nodes x 0);
        unrooted = λ x a b. ap unrooted_of (N.low x a b) ∙ settled-unrooted (get_or old-nodes x 0);
        pointer = λ x a b. ap pointer_of (N.low x a b) ∙ settled-pointer (get_or old-nodes x 0);
        mark = M.low;
        top-level = top-growth;
        top-rising = none-growth;
        second-rising = second-growth;
        growth = low-growth;
        margins = λ kind x m l t. ap growth_of (E.margin kind x l t) ∙ outside kind x m l t;
        top-correction = λ kind i m l. let two = (fitting h d ok).two in blank table second T.kinds (nodes_of h d) sheet old-edges edges edges' E kind m i (omega arith) l;
        correction = low_bit;
      }
