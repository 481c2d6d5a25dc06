-- THE MACHINE'S RULE IS THE WINDOW'S: for every node of a state that shows a well-formed window in stage merging. Assumes nothing.
use Prim.Native.Nat.{ℕ, zero, suc, ◌+◌, ◌-◌, ◌≤◌, ◌<◌}
use Rattle.std.proofs.Common.{add-one, arith, sym, ◌∙◌, inr}
use Rattle.std.specs.Prelude.{◌≡◌, Bool, ◌&&◌, ◌||◌, List, ◌⊎◌, ltb, length, get_or}
use Rattle.std.proofs.Math.Path.{refl, ap, ap₂, subst}
use Rattle.std.proofs.Math.Bool.{true, false, not}
use Rattle.std.proofs.Math.Logic.{inl, ⊎_elim}
use borrow.Author.Tests.{eqb-true, eqb-false, eq-eqb, ne_eqb, ltb-true, le-ltb}
use Rattle.std.proofs.Math.Dec.{eqb}
use Rattle.shape.specs.Choice.{if, if-false, whether}
use Rattle.shape.proofs.LawsIndex.{numbers-le}
use Rattle.shape.specs.Nodes.{number_of}
use Rattle.steps.specs.Joins.{Joins}
use Rattle.steps.specs.Steps.{Table, step, namer, slot_in}
use Rattle.steps.specs.Suited.{Suited}
use Rattle.window.specs.Lists.{from, by_place, xor}
use Rattle.window.specs.LawsLists.{get_or-by}
use Rattle.window.specs.Window.{is_merging, size, supplied, present, pointed, at, place, detector, to}
use Rattle.window.specs.Merging.{pushes, nothing, on_mark, flooded, scan, floods, arrivals, synced_active, synced_defect, sends, stepped, step_at, flipped, seen}
use Rattle.window.specs.declared.Mark.TheVariants.{Reset, Root}
use Rattle.window.specs.declared.Node.{Node}
use Rattle.window.specs.declared.Seen.{Seen}
use Rattle.window.specs.declared.Flooded.{Flooded}
use Rattle.window.specs.declared.Window.{Window}
use Rattle.closure.specs.Closure.{Kept}
use Rattle.closure.specs.Edges.{edge-there}
use Rattle.closure.specs.Facts.{Facts, facts, own-lt, Pointing, centre, along}
use Rattle.closure.specs.Sight.{seen-edge, seen_none}
use Rattle.closure.specs.States.{merging-led}
use Rattle.flat.specs.Codes.{reset_code, mark_of, no_edge}
use Rattle.flat.specs.Entries.{State, entry, cell, over_by}
use Rattle.flat.specs.Plan.{Plan}
use Rattle.flat.specs.Rule.{flood, scanned, arrived, flood_of, active_after, defect_after, unrooted_after, correction_after}
use Rattle.flat.specs.declared.Flood.{Flood}
use Rattle.shows.specs.Planned.{Planned}
use Rattle.shows.specs.Shows.{node_at, Shows}
use Rattle.shows.specs.Open.{stepped_same}
use Rattle.shows.specs.Riding.{neighbour, sends_along, hot-is, pushes-is, pushes-over}
use Rattle.shows.proofs.Read.{mark-within, edge-most, way-is, flat-node, flat-held, named-way, named-cell}
use Rattle.shows.specs.Same.{next_at}

pub mark-number : (v : ℕ) → v < reset_code → mark_of v ≡ Root v
mark-number v l = if-false (eqb v reset_code) Reset (Root v) (ne_eqb _ _ (λ (e : v ≡ reset_code). omega arith))

or-true : (a b : Bool) → b ≡ true → a || b ≡ true
or-true true b e = refl
or-true false b e = e

or-false : (a b : Bool) → b ≡ false → a || b ≡ a
or-false true b e = refl
or-false false b e = e

xor-none : (b : Bool) → xor b false ≡ b
xor-none true = refl
xor-none false = refl

-- WHAT A NODE SEES, by entries

module _ (P : Plan) (st : State) (x : ℕ) where
  abbrev pub looks : ℕ → Seen
  looks k =
      let v = st.growth (over_by x (P.slot k)) in
      let n = node_at st (over_by x (P.off k)) in
      if (eqb v no_edge) nothing (record { there = true; grown = eqb v 2; active = n.active; pushes = sends_along n (P.back k); mark = n.mark })

  abbrev over : Bool → ℕ → ℕ → ℕ → ℕ → Flood
  over u k n m p = scanned P st.mark st.growth x u k n m p

  sooner : (u : Bool) (n k m v : ℕ) → ltb v m ≡ true → ((over u (k + 1) n v (k + 1)).mark ≤ v) ⊎ ((over u (k + 1) n v (k + 1)).mark ≡ reset_code)
      → ((over u (k + 1) n v (k + 1)).mark ≤ m) ⊎ ((over u (k + 1) n v (k + 1)).mark ≡ reset_code)
  sooner u n k m v t (inl i) = let a = ltb-true v m t in inl (omega arith)
  sooner u n k m v t (inr i) = inr i

  -- a mark that is found is no higher, or reset
  found-low : (u : Bool) (n k m p : ℕ) → ((over u k n m p).mark ≤ m) ⊎ ((over u k n m p).mark ≡ reset_code)
  unfolding scanned
  found-low u zero k m p = inl (omega arith)
  found-low u (suc n) k m p =
      let v = st.mark (over_by x (P.off k)) in
      whether (eqb (st.growth (over_by x (P.slot k))) 2)
      (λ o. whether (eqb v reset_code && not u)
      (λ s. rw (o, s) (inr refl))
      (λ s. whether (ltb v m)
      (λ t. rw (o, s, t) (sooner u n k m v t (found-low u n (k + 1) v (k + 1))))
      (λ t. rw (o, s, t) (found-low u n (k + 1) m p))))
      (λ o. rw o (found-low u n (k + 1) m p))

  abbrev outcome : Bool → ℕ → Bool → Flood → Flooded
  outcome u m b f = flooded u f.pointer (mark_of f.mark) (b || not (eqb f.mark m))

  -- one neighbour over an open edge, of mark v
  turn : (u : Bool) (v m : ℕ) (b : Bool) (past : Flooded) (on : ℕ → Flooded) (past_f on_f : Flood) → m < reset_code
      → past ≡ outcome u m b past_f
      → (v < m → on v ≡ outcome u v true on_f)
      → (v < m → on_f.mark ≡ m → ⊥)
      → on_mark (mark_of v) (if u past (flooded u 0 Reset true)) (λ a. if (ltb a m) (on a) past)
      ≡ outcome u m b (if (eqb v reset_code && not u) (flood reset_code 0) (if (ltb v m) on_f past_f))
  turn u v m b past on past_f on_f l e f n =
      whether (eqb v reset_code)
      (λ t.
      let q : v ≡ reset_code = eqb-true _ _ t in
      let high : ltb v m ≡ false = le-ltb v m (omega arith) in
      reset u t high)
      (λ t. whether (ltb v m)
      (λ z.
      let less = ltb-true v m z in
      let d : b || not (eqb on_f.mark m) ≡ true = or-true b _ (ap not (ne_eqb _ _ (n less))) in
      rw (t, z, d) (f less))
      (λ z. rw (t, z) e))
    where
      reset : (c : Bool) → eqb v reset_code ≡ true → ltb v m ≡ false
          → on_mark (mark_of v) (if c past (flooded u 0 Reset true)) (λ a. if (ltb a m) (on a) past) ≡ outcome u m b (if (eqb v reset_code && not c) (flood reset_code 0) (if (ltb v m) on_f past_f))
      reset true t high = rw (t, high) e
      reset false t high =
          let d : b || not (eqb reset_code m) ≡ true = or-true b _ (ap not (ne_eqb _ _ (λ (z : reset_code ≡ m). omega arith))) in
          rw (t, d)

  scan-flat : (u : Bool) (n k p : ℕ) (b : Bool) (m : ℕ) → m < reset_code → scan (from k n looks) k u p b m ≡ outcome u m b (over u k n m p)
  unfolding scan from scanned
  scan-flat u zero k p b m l =
      let a = mark-number m l in
      let c : b || not (eqb m m) ≡ b = or-false b _ (ap not (eq-eqb m m refl)) in
      rw (a, c)
  scan-flat u (suc n) k p b m l =
      let v = st.mark (over_by x (P.off k)) in
      let e = st.growth (over_by x (P.slot k)) in
      let rest : (p : ℕ) (b : Bool) (m : ℕ) → m < reset_code → scan (from (suc k) n looks) (k + 1) u p b m ≡ outcome u m b (over u (k + 1) n m p)
      = λ p b m l. subst (λ (i : ℕ). scan (from i n looks) (k + 1) u p b m ≡ outcome u m b (over u (k + 1) n m p)) (add-one k) (scan-flat u n (k + 1) p b m l) in
      whether (eqb e 2)
      (λ o.
      let q : e ≡ 2 = eqb-true e 2 o in
      let z : eqb e no_edge ≡ false = ne_eqb e no_edge (λ (y : e ≡ no_edge). omega arith) in
      rw (z, o)
      (turn u v m b _ (λ a. scan (from (suc k) n looks) (k + 1) u (k + 1) true a) (over u (k + 1) n m p) (over u (k + 1) n v (k + 1)) l
      (rest p b m l)
      (λ less. rest (k + 1) true v (omega arith))
      (λ less (z : (over u (k + 1) n v (k + 1)).mark ≡ m). ⊎_elim (λ i. omega arith) (λ i. omega arith) (found-low u n (k + 1) v (k + 1)))))
      (λ o. whether (eqb e no_edge) (λ z. rw (z, o) (rest p b m l)) (λ z. rw (z, o) (rest p b m l)))

  pub arrivals-flat : (n k : ℕ) (b : Bool) → arrivals (from k n looks) b ≡ arrived P st.defect st.pointer st.growth x k n b
  unfolding arrivals from arrived
  arrivals-flat zero k b = refl
  arrivals-flat (suc n) k b =
      let rest : (c : Bool) → arrivals (from (suc k) n looks) c ≡ arrived P st.defect st.pointer st.growth x (k + 1) n c
      = λ c. subst (λ (i : ℕ). arrivals (from i n looks) c ≡ arrived P st.defect st.pointer st.growth x (k + 1) n c) (add-one k) (arrivals-flat n (k + 1) c) in
      whether (eqb (st.growth (over_by x (P.slot k))) no_edge)
      (λ o. rw o (rw (xor-none b) (rest b)))
      (λ o. rw o (rest _))

  -- THE PARTS OF A STEP

  abbrev n : Node
  n = node_at st x

  abbrev ss : List Seen
  ss = by_place P.dirs looks

  module _ (low : P.own x < reset_code) (hot-inner : (P.inner x && st.defect x) ≡ st.defect x) (numbered : eqb (st.mark x) reset_code ≡ false → st.mark x < reset_code)
      (leads : (st.pointer x ≡ 0 → ⊥) → (st.pointer x - 1 < P.dirs) × (eqb (st.growth (over_by x (P.slot (st.pointer x - 1)))) no_edge ≡ false)) where
    floods-flat : floods (P.own x) n.unrooted n.pointer n.mark ss
        ≡ flooded (unrooted_after P st x) (flood_of P st x).pointer (mark_of (flood_of P st x).mark) (not (eqb (flood_of P st x).mark (st.mark x)))
    unfolding floods by_place
    floods-flat =
        let m = st.mark x in
        whether (eqb m reset_code)
        (λ t.
        let q : m ≡ reset_code = eqb-true _ _ t in
        let a = mark-number (P.own x) low in
        let c : eqb (P.own x) m ≡ false = ne_eqb (P.own x) m (λ (z : P.own x ≡ m). omega arith) in
        let u : (n.unrooted || true) ≡ true = or-true n.unrooted true refl in
        rw (t, u, a, c))
        (λ t.
        let u : (n.unrooted || false) ≡ n.unrooted = or-false n.unrooted false refl in
        rw (t, u) (scan-flat n.unrooted P.dirs 0 n.pointer false m (numbered t)))

    keeps : (a b : Bool) → xor a (a && not b) ≡ (a && b)
    keeps true true = refl
    keeps true false = refl
    keeps false b = refl

    sends-flat : sends (P.inner x) n ≡ (n.defect && not (eqb n.pointer 0))
    sends-flat = ap (λ (b : Bool). b && not (eqb n.pointer 0)) hot-inner

    defect-flat : synced_defect (P.inner x) n ss ≡ defect_after P st true x
    unfolding by_place
    defect-flat =
        ap₂ (λ (a b : Bool). xor (xor n.defect a) (P.inner x && b)) sends-flat (arrivals-flat P.dirs 0 false)
        ∙ ap (λ (a : Bool). xor a (P.inner x && arrived P st.defect st.pointer st.growth x 0 P.dirs false)) (keeps n.defect (eqb n.pointer 0))

    active-flat : synced_active n.pointer (P.inner x && n.defect) ss ≡ active_after P st x
    unfolding synced_active
    active-flat =
        whether (eqb n.pointer 0) (λ t. rw t hot-inner)
        (λ t.
        let r = leads (eqb-false _ _ t) in
        let g = get_or-by looks P.dirs (n.pointer - 1) nothing r.0 in
        let e = r.1 in
        rw (t, g, e))

    stepped-flat : stepped (P.own x) (P.inner x) n ss ≡ next_at P st x
    unfolding stepped
    stepped-flat =
        let f = floods-flat in
        let a = active-flat in
        let d = defect-flat in
        let s = sends-flat in
        rw (f, a, d, s)

-- OF A WINDOW

module _ (T : Table) (S : Suited T) (w : Window) (k : Kept T w) (merging : is_merging w.stage ≡ true) (st : State) (H : Shows T w st)
    (P : Plan) (N : Planned T w.shape.height w.shape.distance P) (g : ℕ) (l : g < size w) where
  abbrev F : Facts T w
  F = facts T w k.formed

  abbrev h : ℕ
  h = w.shape.height

  abbrev d : ℕ
  d = w.shape.distance

  abbrev x : ℕ
  x = entry g

  abbrev K : ℕ
  K = length T.steps

  -- its number and its mark are not the code of reset
  number-low : P.own x < reset_code
  number-low = omega (arith, N.number g l, own-lt h d F.ranged g l, numbers-le h d F.ranged)

  mark-low : eqb (st.mark x) reset_code ≡ false → st.mark x < reset_code
  mark-low t = omega (arith, mark-within T w F st H g l t, numbers-le h d F.ranged)

  -- growth over an edge is not that of none
  there-flat : (j : ℕ) → j < K → (to w T (j + 1) g).there ≡ true → eqb (st.growth (over_by x (P.slot j))) no_edge ≡ false
  there-flat j m e =
      let v = st.growth (over_by x (P.slot j)) in
      let a : v ≡ get_or w.growth (to w T (j + 1) g).slot 0 = flat-held T S w F st H P N g j l m ∙ rw e in
      let b = edge-most T S w F g (j + 1) l e in
      ne_eqb v no_edge (λ (z : v ≡ no_edge). omega arith)

  abbrev look : ℕ → Bool → Node → Seen
  look v push n = record { there = true; grown = eqb v 2; active = n.active; pushes = push; mark = n.mark }

  pub seen-flat : (j : ℕ) → j < K → seen T w g j ≡ looks P st x j
  seen-flat j m =
      whether (to w T (j + 1) g).there
      (λ e.
      let v = st.growth (over_by x (P.slot j)) in
      let v₀ = get_or w.growth (to w T (j + 1) g).slot 0 in
      let n = node_at st (over_by x (P.off j)) in
      let o = neighbour T w g (j + 1) in
      let b = (step T (j + 1)).back in
      let same : v ≡ v₀ = flat-held T S w F st H P N g j l m ∙ rw e in
      seen-edge T w g j e
      ∙ ap (λ (c : Bool). look v₀ c o) (pushes-over T w F g (j + 1) e)
      ∙ ap (λ (y : ℕ). look y (sends_along o b) o) (sym same)
      ∙ ap (λ (y : Node). look v (sends_along y b) y) (sym (flat-node T S w F st H P N g j l m e))
      ∙ ap (λ (y : ℕ). look v (sends_along n y) n) (sym (N.backs j m))
      ∙ sym (if-false (eqb v no_edge) nothing (look v (sends_along n (P.back j)) n) (there-flat j m e)))
      (λ e.
      let a : st.growth (over_by x (P.slot j)) ≡ no_edge = flat-held T S w F st H P N g j l m ∙ rw e in
      seen_none T w g j e ∙ rw a)

  -- a pointer is C or goes along an edge
  pointing : Pointing T h d (pointed w) (place w g) (at w g).pointer → ((at w g).pointer ≡ 0 → ⊥) → (to w T (at w g).pointer g).there ≡ true
  pointing (centre e) n = absurd (n e)
  pointing (along j) n =
      let led : pointed w ≡ present w = ap (supplied d w.next) (merging-led d w.stage merging) in
      edge-there T h d (present w) (at w g).pointer (place w g) (subst (λ (c : ℕ). Joins h d c (step T (at w g).pointer) (place w g)) led j)

  pointer_is : st.pointer x ≡ (at w g).pointer
  pointer_is = ap (λ (y : Node). y.pointer) (H.nodes g l)

  pub pointer-there : (st.pointer x ≡ 0 → ⊥) → (to w T (st.pointer x) g).there ≡ true
  pointer-there n = subst (λ (q : ℕ). (to w T q g).there ≡ true) (sym pointer_is) (pointing (F.nodes g l).pointer (λ z. n (pointer_is ∙ z)))

  leads : (st.pointer x ≡ 0 → ⊥) → (st.pointer x - 1 < P.dirs) × (eqb (st.growth (over_by x (P.slot (st.pointer x - 1)))) no_edge ≡ false)
  leads n =
      let p = (at w g).pointer in
      let t = pointing (F.nodes g l).pointer (λ z. n (pointer_is ∙ z)) in
      let i = way-is T w g p t in
      subst (λ (q : ℕ). (q - 1 < P.dirs) × (eqb (st.growth (over_by x (P.slot (q - 1)))) no_edge ≡ false)) (sym pointer_is) (rw N.dirs i.1, there-flat (p - 1) i.1 (rw i.0 t))

  hot-inner : (P.inner x && st.defect x) ≡ st.defect x
  hot-inner = ap₂ (λ (a b : Bool). a && b) (N.detects g l) (ap (λ (y : Node). y.defect) (H.nodes g l)) ∙ hot-is T w F g l ∙ sym (ap (λ (y : Node). y.defect) (H.nodes g l))

  -- THE CORE EQUATION
  pub step-flat : step_at T w g ≡ next_at P st x
  unfolding step_at
  step-flat =
      let own = number_of h d (place w g) in
      stepped_same (seen T w g) (looks P st x) K own (detector w g) (at w g)
      (λ j m. let q = seen-flat j m in record { grown = ap (λ (s : Seen). s.grown) q; mark = λ z. ap (λ (s : Seen). s.mark) q; pushes = ap (λ (s : Seen). s.pushes) q })
      (λ n.
      let r : (at w g).pointer - 1 < K = (way-is T w g (at w g).pointer (pointing (F.nodes g l).pointer n)).1 in
      (r, ap (λ (s : Seen). s.active) (seen-flat ((at w g).pointer - 1) r)))
      ∙ ap (λ (n : Node). stepped own (detector w g) n (by_place K (looks P st x))) (sym (H.nodes g l))
      ∙ ap₂ (λ (i : ℕ) (b : Bool). stepped i b (node_at st x) (by_place K (looks P st x))) (sym (N.number g l)) (sym (N.detects g l))
      ∙ ap (λ (i : ℕ). stepped (P.own x) (P.inner x) (node_at st x) (by_place i (looks P st x))) (sym N.dirs)
      ∙ stepped-flat P st x number-low hot-inner mark-low leads

  -- and of the correction bits that it names
  pub bit-flat : (kind : ℕ) → kind < T.kinds
      → flipped (get_or w.correction (slot_in (size w) kind g) false) (detector w g) (at w g) (namer T kind) (seen T w g (namer T kind - 1)) ≡ correction_after P st kind x
  bit-flat kind m =
      let p = namer T kind in
      let old = get_or w.correction (slot_in (size w) kind g) false in
      let i : p - 1 ≡ P.namer kind = let e = N.namers kind m in omega arith in
      let c = named-cell T S w F st H P N kind g m l in
      let j = named-way T S w F st H P N kind m in
      let own : pushes (detector w g) (at w g) p ≡ sends_along (node_at st x) (P.namer kind + 1)
      = pushes-is T w F g l p ∙ ap₂ (λ (n : Node) (q : ℕ). sends_along n q) (sym (H.nodes g l)) (sym (N.namers kind m)) in
      let v : st.growth (over_by x (P.slot (P.namer kind))) ≡ st.growth (cell kind x) = ap st.growth c in
      ap (λ (q : ℕ). flipped old (detector w g) (at w g) p (seen T w g q)) i
      ∙ ap₂ (λ (b : Bool) (s : Seen). if s.there (xor (xor old b) s.pushes) old) own (seen-flat (P.namer kind) j)
      ∙ ap (λ (old : Bool). if (looks P st x (P.namer kind)).there (xor (xor old (sends_along (node_at st x) (P.namer kind + 1))) (looks P st x (P.namer kind)).pushes) old) (sym (H.correction kind g m l))
      ∙ rw (← v) (whether (eqb (st.growth (over_by x (P.slot (P.namer kind)))) no_edge) (λ t. rw t) (λ t. rw t))
