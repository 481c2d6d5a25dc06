-- ROUND BY LOOPS: everything moves down one sheet, and on top the new sheet is laid. Of a kind that stays in its sheet the fresh edges stand
-- there; of one that goes up none there, and the fresh edges one sheet lower if that sheet is there. Assumes nothing.
use Rattle.std.specs.Prelude.{ℕ, ◌+◌, ◌-◌, ◌*◌, ◌≤◌, ◌<◌, ◌≡◌, refl, Bool, true, ◌&&◌, not, List, get_or}
use Rattle.std.proofs.Common.{arith, ◌∙◌, subst, ⊎_elim, ltb-true, ltb-false}
use Rattle.std.proofs.Math.Path.{sym, ap}
use Rattle.std.proofs.Math.Bool.{false}
use Rattle.std.proofs.lemmas.Bool.{not-true}
use Rattle.std.proofs.Math.Dec.{eqb}
use Rattle.refusal.specs.Laws.{undone}
use Rattle.shape.specs.Choice.{if, if-true, whether, order}
use Rattle.shape.proofs.LawsIndex.{index-place, numbers-le}
use Rattle.shape.specs.Nodes.{index_of}
use Rattle.shape.proofs.Ranges.{halves}
use Rattle.shape.specs.Sizes.{sheets_of, boundary, nodes_in}
use Rattle.steps.specs.Steps.{Table, step, namer, slot_in}
use Rattle.steps.specs.Suited.{Suited, namer-names}
use Rattle.steps.specs.declared.Step.{Step}
use Rattle.window.specs.Formed.{is_empty, mark_fits}
use Rattle.window.specs.Round.{at_top, lowered, lowered_number, sunk, top_node, rounded}
use Rattle.window.specs.Window.{is_rest, size, sheet, present, at, place, to}
use Rattle.window.specs.declared.Mark.{Mark}
use Rattle.window.specs.declared.Mark.TheVariants.{Reset, Root}
use Rattle.window.specs.declared.Stage.{Stage}
use Rattle.window.specs.declared.Stage.TheVariants.{Rest, ToGrow, Merging}
use Rattle.window.specs.declared.Node.{Node}
use Rattle.window.specs.declared.Window.{Window}
use Rattle.layers.specs.Layers.{spans}
use Rattle.closure.specs.After.{top-at, sunk-at, top-slot, sunk-slot}
use Rattle.closure.specs.Closure.{Kept}
use Rattle.closure.specs.Edges.{edge}
use Rattle.closure.specs.Facts.{Facts, facts, inside-at, own-lt}
use Rattle.closure.specs.Lower.{top, lowered-lt}
use Rattle.flat.specs.Codes.{reset_code, mark_of, no_edge}
use Rattle.flat.specs.Entries.{State, margin, entry, cell}
use Rattle.flat.specs.Plan.{Plan}
use Rattle.shows.specs.Planned.{Planned}
use Rattle.shows.specs.Shows.{node_at, held, Shows}
use Rattle.shows.proofs.Read.{mark-within}
use Rattle.shows.proofs.Same.{mark-number}
use Rattle.shows.specs.Sheets.{top-still, new-still, top_up, none-up, new-up}
use Rattle.shows.proofs.Lowered.{held-lower, held-top, top-new, by-sheet, above}
use Rattle.shows.specs.Sinks.{Sinks, rises, second_there, template}

-- a kind that rises does so by one, and any other stays level
module _ (T : Table) (S : Suited T) (kind : ℕ) (m : kind < T.kinds) where
  abbrev way : Step
  way = step T (namer T kind)

  pub goes-up : rises T kind ≡ true → way.sheet.less ≡ way.sheet.more + 1
  goes-up e =
      let b = (S.proper.opposed (namer T kind) (namer-names T S kind m).pointer).rise in
      let c = ltb-true way.sheet.more way.sheet.less e in
      omega arith

  pub stays-level : rises T kind ≡ false → way.sheet.less ≡ way.sheet.more
  stays-level e =
      let a = S.upwards kind m in
      let c = ltb-false way.sheet.more way.sheet.less e in
      omega arith

-- at rest every mark is a number
rest-fits : (stage : Stage) (n : ℕ) (m : Mark) → is_rest stage ≡ true → mark_fits stage n m ≡ true → m ≡ Reset → ⊥
rest-fits Rest n Reset r f e = undone (sym f)
rest-fits ToGrow n m r f e = undone (sym r)
rest-fits Merging n m r f e = undone (sym r)
rest-fits Rest n (Root v) r f e = let z : ◌≡◌ {A = ℕ} 0 1 = cc in omega arith

module _ (T : Table) (S : Suited T) (w : Window) (k : Kept T w) (rest : is_rest w.stage ≡ true) (bytes : List ℕ)
    (P : Plan) (N : Planned T w.shape.height w.shape.distance P) (st : State) (H : Shows T w st)
    (st' : State) (A : Sinks T w.shape.height w.shape.distance P (second_there w.shape.distance w.next) bytes st st') where
  abbrev F : Facts T w
  F = facts T w k.formed

  abbrev h : ℕ
  h = w.shape.height

  abbrev d : ℕ
  d = w.shape.distance

  abbrev w' : Window
  w' = rounded T w bytes

  -- A NODE OF THE TOP SHEET, by its row and its column
  record Corner (g : ℕ) : Type 0 where
    pub row : (place w g).row < h
    pub column : (place w g).column ≤ d
    pub is : (place w g).row * (d + 1) + (place w g).column ≡ g

  corner : (g : ℕ) → g < size w → g < sheet w → Corner g
  unfolding index_of
  corner g l x =
      let i = inside-at h d F.ranged g l in
      let z = top h d g F.ranged.h1 x in
      let e = index-place h d g in
      record { row = i.row; column = i.column; is = index (place w g).depth (place w g).row (place w g).column z e }
    where
      index : (j r c : ℕ) → j ≡ 0 → (j * h + r) * (d + 1) + c ≡ g → r * (d + 1) + c ≡ g
      index j r c z e = let y : j * h + r ≡ r = rw z (omega arith) in ap (λ (i : ℕ). i * (d + 1) + c) (sym y) ∙ e

  -- NODES
  node-top : (g : ℕ) → g < size w → g < sheet w → node_at st' (entry g) ≡ at w' g
  unfolding top_node
  node-top g l x =
      let c = corner g l x in
      let a = A.top-active g x in
      let u = A.top-unrooted g x in
      let p = A.top-pointer g x in
      let v : mark_of (st'.mark (entry g)) ≡ Root (P.own (entry g)) = ap mark_of (A.top-mark g x) ∙ mark-number (P.own (entry g)) (omega (arith, N.number g l, own-lt h d F.ranged g l, numbers-le h d F.ranged)) in
      let o = N.number g l in
      let f : st'.defect (entry g) ≡ (not (boundary d (place w g).column) && eqb (get_or bytes ((place w g).row * (d - 1) + ((place w g).column - 1)) 0) 1)
      = ap (λ (i : ℕ). st'.defect (entry i)) (sym c.is) ∙ A.top-defect (place w g).row (place w g).column c.row c.column in
      rw (a, f, u, p, v, o) (sym (top-at T w g l bytes x))

  mark-falls : (a : ℕ) → a < size w → mark_of (lowered_number h d (st.mark (entry a))) ≡ lowered h d (mark_of (st.mark (entry a)))
  mark-falls a l =
      let m = st.mark (entry a) in
      let n = nodes_in h d (sheets_of d + 1) in
      let fits : mark_fits w.stage n (mark_of m) ≡ true = subst (λ (x : Node). mark_fits w.stage n x.mark ≡ true) (sym (H.nodes a l)) (F.nodes a l).mark in
      let t : eqb m reset_code ≡ false = whether (eqb m reset_code) (λ y. absurd (rest-fits w.stage n (mark_of m) rest fits (if-true (eqb m reset_code) Reset (Root m) y))) (λ y. y) in
      let low : m < n = mark-within T w F st H a l t in
      let two = F.ranged.d2 in
      let fall = lowered-lt h d m (omega arith) low in
      let most = numbers-le h d F.ranged in
      mark-number (lowered_number h d m) (omega arith) ∙ ap (lowered h d) (sym (mark-number m (omega arith)))

  node-low : (a g : ℕ) → g < size w → g ≡ a + sheet w → node_at st' (entry g) ≡ at w' g
  node-low a g l e =
      let x = entry a in
      let b : entry g ≡ x + sheet w = omega arith in
      let lo : margin ≤ x = omega arith in
      let hi : x + sheet w < margin + size w = omega arith in
      let la = above T S w k bytes a g l e in
      let p0 = ap st'.active b ∙ A.active x lo hi in
      let p1 = ap st'.defect b ∙ A.defect x lo hi in
      let p2 = ap st'.unrooted b ∙ A.unrooted x lo hi in
      let p3 = ap st'.pointer b ∙ A.pointer x lo hi in
      let p4 : mark_of (st'.mark (entry g)) ≡ lowered h d (mark_of (st.mark x)) = ap mark_of (ap st'.mark b ∙ A.mark x lo hi) ∙ mark-falls a la in
      rw (p0, p1, p2, p3, p4) (ap (λ (n : Node). sunk h d n) (H.nodes a la) ∙ sym (sunk-at T w g l bytes a e))

  node-shows : (g : ℕ) → g < size w → node_at st' (entry g) ≡ at w' g
  node-shows g l = by-sheet T S w k bytes g (λ x. node-top g l x) (λ a e. node-low a g l e)

  -- EDGES: from the top sheet nothing goes up
  no-up : (kind a : ℕ) → kind < T.kinds → rises T kind ≡ true → a < sheet w → (to w T (namer T kind) a).there ≡ false
  no-up kind a m f l =
      let z = top h d a F.ranged.h1 l in
      let e = goes-up T S kind m f in
      whether (to w T (namer T kind) a).there (λ t. let c = (edge T h d (present w) (namer T kind) (place w a) t).sheet in absurd (omega arith)) (λ t. t)

  pick : (a b : Bool) → if {A = ℕ} b (if a 0 no_edge) no_edge ≡ if (a && b) 0 no_edge
  pick true true = refl
  pick true false = refl
  pick false true = refl
  pick false false = refl

  edge-new : (kind g : ℕ) → kind < T.kinds → g < size w → at_top T w g (namer T kind) ≡ true → st'.growth (cell kind (entry g)) ≡ if (to w' T (namer T kind) g).there 0 no_edge
  edge-new kind g m l t =
      whether (rises T kind)
      (λ f.
      let e = goes-up T S kind m f in
      let x = ltb-true g (sheet w * 2) (sym (top_up T w k bytes kind e g l) ∙ t) in
      ⊎_elim
      (λ y. A.top-rising kind g m f y ∙ ap (λ (b : Bool). if {A = ℕ} b 0 no_edge) (sym (none-up T w k bytes kind e g y)))
      (λ y.
      let a = g - sheet w in
      let q : g ≡ a + sheet w = omega arith in
      let la : a < sheet w = omega arith in
      let sa = above T S w k bytes a g l q in
      let c = corner a sa la in
      let i = c.is in
      let b : entry ((place w a).row * (d + 1) + (place w a).column) + sheet w ≡ entry g = omega arith in
      let n : st.growth (cell kind (entry a)) ≡ no_edge
      = H.growth kind a m sa ∙ ap (λ (z : Bool). if z (get_or w.growth (slot_in (size w) kind a) 0) no_edge) (no-up kind a m f la) in
      ap (λ (z : ℕ). st'.growth (cell kind z)) (sym b)
      ∙ A.second-rising kind (place w a).row (place w a).column m f c.row c.column (omega arith)
      ∙ ap (λ (v : ℕ). if (second_there d w.next) (template T h d kind (place w a).row (place w a).column) v) (ap (λ (z : ℕ). st.growth (cell kind (entry z))) i ∙ n)
      ∙ pick (spans h d (step T (namer T kind)) (place w a).row (place w a).column) (second_there d w.next)
      ∙ ap (λ (z : Bool). if {A = ℕ} z 0 no_edge) (sym (new-up T w k bytes kind e g a la q l)))
      (order g (sheet w)))
      (λ f.
      let e = stays-level T S kind m f in
      let x = ltb-true g (sheet w) (sym (top-still T w k bytes kind e g l) ∙ t) in
      let c = corner g l x in
      ap (λ (z : ℕ). st'.growth (cell kind (entry z))) (sym c.is)
      ∙ A.top-level kind (place w g).row (place w g).column m f c.row c.column
      ∙ ap (λ (z : Bool). if {A = ℕ} z 0 no_edge) (sym (new-still T w k bytes kind e g x)))

  edge-old : (kind a g : ℕ) → kind < T.kinds → g < size w → g ≡ a + sheet w → at_top T w g (namer T kind) ≡ false → st'.growth (cell kind (entry g)) ≡ st.growth (cell kind (entry a))
  edge-old kind a g m l q t =
      let b : entry a + sheet w ≡ entry g = omega arith in
      ap (λ (z : ℕ). st'.growth (cell kind z)) (sym b)
      ∙ A.growth kind (entry a) m (omega arith)
      (λ f. let x = ltb-false g (sheet w * 2) (sym (top_up T w k bytes kind (goes-up T S kind m f) g l) ∙ t) in omega arith)
      (omega arith)

  edge-shows : (kind g : ℕ) → kind < T.kinds → g < size w → st'.growth (cell kind (entry g)) ≡ held T w' kind g
  edge-shows kind g m l =
      whether (at_top T w g (namer T kind))
      (λ t. edge-new kind g m l t ∙ sym (held-top T S w k bytes kind m g l t))
      (λ t. by-sheet T S w k bytes g (λ x. absurd (undone (sym (top-new T S w k bytes kind m g x) ∙ t)))
      (λ a e. edge-old kind a g m l e t ∙ H.growth kind a m (above T S w k bytes a g l e) ∙ sym (held-lower T S w k bytes kind m a g e l t)))

  -- BITS
  bit-low : (kind a g : ℕ) → kind < T.kinds → g < size w → g ≡ a + sheet w → st'.correction (cell kind (entry g)) ≡ get_or w.correction (slot_in (size w) kind a) false
  bit-low kind a g m l q =
      let b : entry a + sheet w ≡ entry g = omega arith in
      ap (λ (z : ℕ). st'.correction (cell kind z)) (sym b) ∙ A.correction kind (entry a) m (omega arith) (omega arith) ∙ H.correction kind a m (above T S w k bytes a g l q)

  -- an edge up to the new top sheet had none above it
  bit-new : (kind a g : ℕ) → kind < T.kinds → g < size w → g ≡ a + sheet w → at_top T w g (namer T kind) ≡ true → get_or w.correction (slot_in (size w) kind a) false ≡ false
  bit-new kind a g m l q t =
      let sa = above T S w k bytes a g l q in
      whether (rises T kind)
      (λ f.
      let x = ltb-true g (sheet w * 2) (sym (top_up T w k bytes kind (goes-up T S kind m f) g l) ∙ t) in
      let b : a < sheet w = omega arith in
      let u = (F.slots a kind sa m).used in
      let v : (is_empty (get_or w.growth (slot_in (size w) kind a) 0) && not (get_or w.correction (slot_in (size w) kind a) false)) ≡ true = rw (no-up kind a m f b) at u in
      not-true (get_or w.correction (slot_in (size w) kind a) false) (halves (is_empty (get_or w.growth (slot_in (size w) kind a) 0)) _ v).1)
      (λ f. let x = ltb-true g (sheet w) (sym (top-still T w k bytes kind (stays-level T S kind m f) g l) ∙ t) in absurd (omega arith))

  bit-shows : (kind g : ℕ) → kind < T.kinds → g < size w → st'.correction (cell kind (entry g)) ≡ get_or w'.correction (slot_in (size w) kind g) false
  unfolding rounded
  bit-shows kind g m l =
      by-sheet T S w k bytes g
      (λ x. A.top-correction kind g m x ∙ sym (top-slot T w g kind l m false w.correction (top-new T S w k bytes kind m g x)))
      (λ a e.
      bit-low kind a g m l e
      ∙ whether (at_top T w g (namer T kind))
      (λ t. bit-new kind a g m l e t ∙ sym (top-slot T w g kind l m false w.correction t))
      (λ t. sym (sunk-slot T w g kind l m false w.correction a e t)))

  pub sinks-shows : Shows T (rounded T w bytes) st'
  unfolding rounded
  sinks-shows = record { nodes = node-shows; growth = edge-shows; margins = A.margins; correction = bit-shows }
