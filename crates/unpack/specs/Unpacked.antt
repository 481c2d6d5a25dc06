-- THE ARRAYS THAT THE LOOPS LEAVE SHOW THE WINDOW. Assumes nothing.
use Rattle.std.specs.Prelude.{ℕ, ◌+◌, ◌-◌, ◌*◌, ◌%◌, ◌≤◌, ◌<◌, ◌≡◌, Bool, true, false, ◌&&◌, not, List, ltb, leb, get_or, length, replicate}
use Rattle.std.proofs.Math.Nat.{add-mul, mul_assoc}
use Rattle.std.proofs.Common.{mul_comm, mul-le-mul_right, mod-eq_of_lt, sym, ◌∙◌, ap, subst, ⊎_elim, lt-ltb, le-ltb, le-leb}
use native.Mathlib.Omega.{arith}
use Rattle.std.proofs.lemmas.Bool.{not-true}
use Rattle.std.proofs.lemmas.List.{length-replicate, get_or-replicate}
use Rattle.shape.specs.Choice.{whether, order}
use Rattle.shape.specs.Counting.{Inside, before}
use Rattle.shape.proofs.LawsIndex.{index-place, nodes-max}
use Rattle.shape.specs.Nodes.{index_of}
use Rattle.shape.proofs.Ranges.{in-range, halves, both, nodes-of, sheets-le}
use Rattle.shape.specs.Sizes.{in_range, sheets_of}
use Rattle.shape.specs.declared.Place.{Place}
use Rattle.steps.specs.Steps.{Table, namer, slot_in}
use Rattle.steps.specs.Proper.{points}
use Rattle.steps.specs.Suited.{Suited}
use Rattle.steps.specs.Ranks.{bit}
use Rattle.layers.specs.Boxes.{named}
use Rattle.layers.specs.Layers.{spans}
use Rattle.window.specs.Formed.{is_empty, well_formed}
use Rattle.window.specs.LawsLists.{and_no, and-not}
use Rattle.window.specs.LawsPresent.{supplied-le}
use Rattle.window.specs.Window.{size, present, pointed, at, place, to}
use Rattle.window.specs.declared.Window.{Window}
use Rattle.closure.specs.Facts.{Facts, facts, inside-at, Pointing, centre, along}
use Rattle.flat.specs.Codes.{node_code, mark_code, no_edge, edge_code, growth_of}
use Rattle.flat.specs.Entries.{margin, plane, entry, cell, within}
use Rattle.flat.specs.declared.Sizes.{Sizes}
use Rattle.flat.specs.Stored.{stored, length-stored, stored_at}
use Rattle.shows.specs.Shows.{held}
use Rattle.shows.specs.Sinks.{rises}
use Rattle.shows.specs.There.{starts_at}
use Rattle.shows.proofs.There.{there-is}
use Rattle.shows.specs.Written.{Written}
use Rattle.plan.specs.Filled.{Filled, sheet-most}
use Rattle.plan.specs.Table.{sizes_of, fresh_by}
use Rattle.plan.specs.Passes.{passes, row-after, length-passes, length-blocks, passes_at, passes-other, blocks_at, blocks-before, blocks-behind}
use Rattle.unpack.specs.Edges.{edge_by, sheet_rule, kind_on}

pub record Unpacked (T : Table) (w : Window) (nodes marks edges : List ℕ) : Type 0 where
  pub written : Written T w nodes marks edges
  pub nodes-long : length nodes ≡ 4608
  pub marks-long : length marks ≡ 4608
  pub edges-long : length edges ≡ 27648

abbrev pub node_rule : Window → ℕ → ℕ
node_rule w g = node_code (at w g).active (at w g).defect (at w g).unrooted (at w g).pointer

abbrev pub mark_rule : Window → ℕ → ℕ
mark_rule w g = mark_code (at w g).mark

-- THE EDGES

module _ (T : Table) (S : Suited T) (w : Window) (F : Facts T w) (table : List ℕ) (A : Filled T w.shape.height w.shape.distance table) (room : T.kinds ≤ 6) where
  abbrev h : ℕ
  h = w.shape.height

  abbrev d : ℕ
  d = w.shape.distance

  abbrev n : ℕ
  n = size w

  abbrev sheet : ℕ
  sheet = h * (d + 1)

  abbrev there : ℕ
  there = present w

  abbrev on : ℕ → List ℕ → List ℕ
  on = kind_on n sheet there w.growth w.correction table

  abbrev none : List ℕ
  none = replicate 27648 3

  there-most : there ≤ sheets_of d
  there-most = supplied-le d w.next (sheets_of d)

  -- so much of the window's sheets: the first at most one
  pub sheets-within : (first : ℕ) → first ≤ 1 → (first + (there - first)) * sheet ≤ n
  sheets-within first l =
      let m = there-most in
      let a : first + (there - first) ≤ sheets_of d = omega arith in
      let b = mul-le-mul_right sheet a in
      let c = nodes-of h d F.ranged in
      let e = mul_comm sheet (sheets_of d) in
      omega arith

  abbrev first : ℕ → ℕ
  first kind = get_or table (160 + kind) 0

  abbrev start : ℕ → ℕ
  start kind = kind * plane + margin + first kind * sheet

  abbrev rule : ℕ → ℕ → ℕ → ℕ
  rule kind k = sheet_rule w.growth w.correction table (plane + 240 * kind) (slot_in n kind (first kind * sheet) + k * sheet)

  few : n ≤ 3600
  few = nodes-max h d

  pub first-le : (kind : ℕ) → kind < T.kinds → first kind ≤ 1
  first-le kind m = rw (A.rises kind m) (least (rises T kind))
    where
      least : (b : Bool) → bit b ≤ 1
      least true = omega arith
      least false = omega arith

  ends : (kind : ℕ) → kind < T.kinds → first kind * sheet + (there - first kind) * sheet ≤ n
  ends kind m = let e = add-mul (first kind) (there - first kind) sheet in omega (arith, sheets-within (first kind) (first-le kind m))

  long-on : (kind : ℕ) (l : List ℕ) → length (on kind l) ≡ length l
  long-on kind l = length-blocks {A = ℕ} (start kind) sheet (rule kind) sheet 0 (there - first kind) l

  long-edges : (k : ℕ) → length (passes on k none) ≡ 27648
  long-edges k = length-passes on long-on k none ∙ length-replicate {A = ℕ} 27648 3

  -- what a kind's loop leaves as it was: the cells before its block, and those behind
  on-before : (kind x : ℕ) (l : List ℕ) → x < start kind → get_or (on kind l) x 0 ≡ get_or l x 0
  on-before kind x l b = blocks-before {A = ℕ} (start kind) sheet (rule kind) sheet 0 (there - first kind) l x b

  on-behind : (kind x : ℕ) (l : List ℕ) → start kind + (there - first kind) * sheet ≤ x → get_or (on kind l) x 0 ≡ get_or l x 0
  on-behind kind x l b = let e : sheet ≤ sheet = omega arith in blocks-behind {A = ℕ} (start kind) sheet (rule kind) sheet 0 (there - first kind) l x e b

  module _ (kind x : ℕ) (m : kind < T.kinds) (p : x < plane) where
    whole-at : get_or (passes on T.kinds none) (cell kind x) 0 ≡ get_or (on kind (passes on kind none)) (cell kind x) 0
    whole-at = passes_at on 0 (cell kind x) T.kinds kind m (λ j lo hi l. on-before j (cell kind x) l (later j lo)) none
      where
        later : (j : ℕ) → kind < j → cell kind x < start j
        later j lo = let a : kind + 1 ≤ j = omega arith in let b = mul-le-mul_right plane a in omega arith

    was : get_or (passes on kind none) (cell kind x) 0 ≡ 3
    was =
        passes-other on 0 (cell kind x) kind (λ j lo l. on-behind j (cell kind x) l (earlier j lo)) none
        ∙ get_or-replicate {A = ℕ} 27648 (cell kind x) 3 0 inside
      where
        earlier : (j : ℕ) → j < kind → start j + (there - first j) * sheet ≤ cell kind x
        earlier j lo = let a : j + 1 ≤ kind = omega arith in let b = mul-le-mul_right plane a in let c = ends j (omega arith) in let f = few in omega arith

        inside : cell kind x < 27648
        inside = let a : kind + 1 ≤ 6 = omega arith in let b = mul-le-mul_right plane a in omega arith

    -- outside of its block there is no edge
    pub no-before : x < margin + first kind * sheet → get_or (passes on T.kinds none) (cell kind x) 0 ≡ 3
    no-before b = whole-at ∙ on-before kind (cell kind x) (passes on kind none) (omega arith) ∙ was

    pub no-behind : margin + first kind * sheet + (there - first kind) * sheet ≤ x → get_or (passes on T.kinds none) (cell kind x) 0 ≡ 3
    no-behind b = whole-at ∙ on-behind kind (cell kind x) (passes on kind none) (omega arith) ∙ was

  -- A NODE'S EDGE
  module _ (kind g : ℕ) (m : kind < T.kinds) (l : g < n) where
    abbrev q : Place
    q = place w g

    abbrev i : ℕ
    i = q.row * (d + 1) + q.column

    abbrev gr : ℕ
    gr = get_or w.growth (slot_in n kind g) 0

    abbrev co : Bool
    co = get_or w.correction (slot_in n kind g) false

    abbrev sp : Bool
    sp = spans h d (named T kind) q.row q.column

    abbrev is : Bool
    is = (to w T (namer T kind) g).there

    ins : Inside h d (sheets_of d) q
    ins = inside-at h d F.ranged g l

    i_lt : i < sheet
    i_lt = let c : q.column < d + 1 = omega (arith, ins.column) in before (d + 1) q.row q.column c h ins.row

    g-is : q.depth * sheet + i ≡ g
    unfolding index_of
    g-is = let a = index-place h d g in let b = add-mul (q.depth * h) q.row (d + 1) in let c = mul_assoc q.depth h (d + 1) in omega arith

    place-lt : entry g < plane
    place-lt = let f = few in omega arith

    is-there : is ≡ (sp && starts_at T there kind q.depth)
    is-there = there-is T S kind m h d there q

    no-edge : is ≡ false → 3 ≡ edge_code (held T w kind g) co
    no-edge t =
        let u : (is_empty gr && not co) ≡ true = rw t at (F.slots g kind l m).used in
        let z = not-true co (halves (is_empty gr) (not co) u).1 in
        rw (t, z)

    an-edge : is ≡ true → edge_code (gr % 4) co ≡ edge_code (held T w kind g) co
    an-edge t = let a = (F.slots g kind l m).most in let b : gr < 4 = omega arith in rw (t, mod-eq_of_lt b)

    absent : starts_at T there kind q.depth ≡ false → is ≡ false
    absent t = is-there ∙ and_no sp _ t

    -- before the kind's first sheet
    above : q.depth < first kind → get_or (passes on T.kinds none) (cell kind (entry g)) 0 ≡ edge_code (held T w kind g) co
    above b =
        let e = A.rises kind m in
        let y = row-after q.depth (first kind) sheet b in
        let o = g-is in
        let o' = i_lt in
        no-before kind (entry g) m place-lt (omega arith)
        ∙ no-edge (absent (whether (rises T kind) (λ f. up f) (λ f. absurd (level f))))
      where
        level : rises T kind ≡ false → ⊥
        level f = let e = A.rises kind m in let z : first kind ≡ 0 = rw f at e in omega arith

        up : rises T kind ≡ true → starts_at T there kind q.depth ≡ false
        up f =
            let e = A.rises kind m in
            let z : first kind ≡ 1 = rw f at e in
            let o : q.depth ≡ 0 = omega arith in
            and_no (ltb q.depth there) _ (rw (f, o))

    -- behind the sheets that are there
    beneath : first kind ≤ q.depth → there ≤ q.depth → get_or (passes on T.kinds none) (cell kind (entry g)) 0 ≡ edge_code (held T w kind g) co
    beneath a b =
        let c : first kind + (there - first kind) ≤ q.depth = omega arith in
        let y = mul-le-mul_right sheet c in
        let z = add-mul (first kind) (there - first kind) sheet in
        let o = g-is in
        no-behind kind (entry g) m place-lt (omega arith)
        ∙ no-edge (absent (and-not (ltb q.depth there) _ (le-ltb q.depth there b)))

    -- in one of them
    stored-edge : first kind ≤ q.depth → q.depth < there → get_or (passes on T.kinds none) (cell kind (entry g)) 0 ≡ edge_by (fresh_by sp) gr co
    stored-edge a b =
        let k = q.depth - first kind in
        let c : first kind + k ≡ q.depth = omega arith in
        let y = sym (add-mul (first kind) k sheet) ∙ ap (λ (z : ℕ). z * sheet) c in
        let o = g-is in
        let x : start kind + k * sheet + i ≡ cell kind (entry g) = omega arith in
        let e : slot_in n kind (first kind * sheet) + k * sheet + i ≡ slot_in n kind g = omega arith in
        let low : k < there - first kind = omega arith in
        let fits : sheet ≤ sheet = omega arith in
        let f = A.fresh kind q.row q.column m ins.row ins.column in
        let v = ends kind m in
        let six : kind + 1 ≤ 6 = omega arith in
        let s = mul-le-mul_right plane six in
        let ls = long-edges kind in
        let ft = few in
        whole-at kind (entry g) m place-lt
        ∙ ap (λ (z : ℕ). get_or (on kind (passes on kind none)) z 0) (sym x)
        ∙ blocks_at {A = ℕ} (start kind) sheet (rule kind) sheet 0 (there - first kind) (passes on kind none) k i fits low i_lt (omega arith)
        ∙ ap (λ (z : ℕ). edge_by z (get_or w.growth (slot_in n kind (first kind * sheet) + k * sheet + i) 0) (get_or w.correction (slot_in n kind (first kind * sheet) + k * sheet + i) false)) f
        ∙ ap (λ (z : ℕ). edge_by (fresh_by sp) (get_or w.growth z 0) (get_or w.correction z false)) e

    within-sheets : first kind ≤ q.depth → q.depth < there → get_or (passes on T.kinds none) (cell kind (entry g)) 0 ≡ edge_code (held T w kind g) co
    within-sheets a b =
        stored-edge a b
        ∙ whether sp
        (λ t. let z : is ≡ true = is-there ∙ both sp _ t starts in rw t (an-edge z))
        (λ t. let z : is ≡ false = is-there ∙ and-not sp _ t in rw t (no-edge z))
      where
        starts : starts_at T there kind q.depth ≡ true
        starts =
            both _ _ (lt-ltb q.depth there b)
            (whether (rises T kind)
            (λ f. let e = A.rises kind m in let z : first kind ≡ 1 = rw f at e in let o : ltb 0 q.depth ≡ true = lt-ltb 0 q.depth (omega arith) in rw (f, o))
            (λ f. rw f))

    edge_at : get_or (passes on T.kinds none) (cell kind (entry g)) 0 ≡ edge_code (held T w kind g) co
    edge_at = ⊎_elim above (λ a. ⊎_elim (within-sheets a) (beneath a) (order q.depth there)) (order q.depth (first kind))

  margin-at : (kind x : ℕ) → kind < T.kinds → x < plane → within n x ≡ false → growth_of (get_or (passes on T.kinds none) (cell kind x) 0) ≡ no_edge
  margin-at kind x m p t =
      ap growth_of
      (⊎_elim (λ b. no-before kind x m p (omega arith))
      (λ b. ⊎_elim (λ c. absurd (inner b c)) (λ c. let e = ends kind m in no-behind kind x m p (omega arith)) (order x (margin + n)))
      (order x margin))
    where
      inner : margin ≤ x → x < margin + n → ⊥
      inner b c =
          let u : within n x ≡ true = both (leb margin x) (ltb x (margin + n)) (le-leb margin x b) (lt-ltb x (margin + n) c) in
          let z : ◌≡◌ {A = ℕ} 0 1 = cc in omega arith

  pub unpacked : (nodes₀ marks₀ : List ℕ) → length nodes₀ ≡ 4608 → length marks₀ ≡ 4608 → Unpacked T w (stored 512 (node_rule w) n nodes₀) (stored 512 (mark_rule w) n marks₀) (passes on T.kinds none)
  unpacked nodes₀ marks₀ a b =
      let f = few in
      record {
        written = record {
          node = λ g l. stored_at 512 (node_rule w) n nodes₀ 0 g l (omega arith);
          mark = λ g l. stored_at 512 (mark_rule w) n marks₀ 0 g l (omega arith);
          edge = edge_at;
          margins = margin-at;
        };
        nodes-long = length-stored 512 (node_rule w) n nodes₀ ∙ a;
        marks-long = length-stored 512 (mark_rule w) n marks₀ ∙ b;
        edges-long = long-edges T.kinds;
      }

  -- as the code's parts leave it
  pub unpacked-by : (z : Sizes) (there' g : ℕ) (nodes₀ marks₀ edges₀ nodes marks edges : List ℕ) → length nodes₀ ≡ 4608 → length marks₀ ≡ 4608 → edges₀ ≡ none → z ≡ sizes_of T h d → there' ≡ there → g ≡ z.nodes
      → nodes ≡ stored 512 (node_rule w) g nodes₀ → marks ≡ stored 512 (mark_rule w) g marks₀
      → edges ≡ passes (kind_on z.nodes z.sheet there' w.growth w.correction table) z.kinds edges₀ → Unpacked T w nodes marks edges
  unpacked-by z there' g nodes₀ marks₀ edges₀ nodes marks edges a b c ez et eg en em ee =
      let e : g ≡ n = eg ∙ ap (λ (y : Sizes). y.nodes) ez in
      let x : nodes ≡ stored 512 (node_rule w) n nodes₀ = en ∙ ap (λ (k : ℕ). stored 512 (node_rule w) k nodes₀) e in
      let y : marks ≡ stored 512 (mark_rule w) n marks₀ = em ∙ ap (λ (k : ℕ). stored 512 (mark_rule w) k marks₀) e in
      let v : edges ≡ passes on T.kinds none =
      ee ∙ ap (λ (s : Sizes). passes (kind_on s.nodes s.sheet there' w.growth w.correction table) s.kinds edges₀) ez
      ∙ ap (λ (k : ℕ). passes (kind_on n sheet k w.growth w.correction table) T.kinds edges₀) et ∙ ap (passes on T.kinds) c in
      subst (λ (r : List ℕ). Unpacked T w r marks edges) (sym x)
      (subst (λ (r : List ℕ). Unpacked T w (stored 512 (node_rule w) n nodes₀) r edges) (sym y)
      (subst (λ (r : List ℕ). Unpacked T w (stored 512 (node_rule w) n nodes₀) (stored 512 (mark_rule w) n marks₀) r) (sym v) (unpacked nodes₀ marks₀ a b)))

  -- what the loop over the kinds asks
  pub asked : (z : Sizes) (there' : ℕ) → z ≡ sizes_of T h d → there' ≡ there
      → (z.kinds ≤ 6) × (z.nodes ≤ 3600) × (z.sheet ≤ 240) × (there' * z.sheet ≤ z.nodes) × ((kind : ℕ) → kind < z.kinds → get_or table (160 + kind) 0 ≤ 1) × (there' ≤ 15)
  asked z there' ez et =
      let r = F.ranged in
      let y = r.d-max in
      let m = there-most in
      let l = sheets-le d y in
      rw (ez, et) (room, few, sheet-most h d (in-range h d r), all_there, first-le, omega arith)
    where
      all_there : there * sheet ≤ n
      all_there = let a = sheets-within 0 (omega arith) in let e : 0 + (there - 0) ≡ there = omega arith in rw e at a

  -- a pointer is one of the directions
  pub pointer-low : length T.steps ≤ 12 → (g : ℕ) → g < n → (at w g).pointer < 32
  pointer-low few g l = go (at w g).pointer (F.nodes g l).pointer
    where
      go : (p : ℕ) → Pointing T h d (pointed w) (place w g) p → p < 32
      go p (centre e) = omega arith
      go p (along j) = let i = points T p j.moves in omega (arith, i.1)

pub formed-range : (T : Table) (w : Window) → well_formed T w ≡ true → in_range w.shape.height w.shape.distance ≡ true
formed-range T w e = in-range _ _ (facts T w e).ranged
