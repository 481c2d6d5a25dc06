-- A PASS OVER A WORK LIST is a merging step: it takes a list that covers to a state that shows the next window, and to a list that covers
-- there. Where pointers do not ride, the list names all nodes and stays. Assumes nothing.
use Rattle.std.specs.Prelude.{ℕ, ◌+◌, ◌-◌, ◌≤◌, ◌<◌, ◌≡◌, refl, Bool, true, false, ◌&&◌, ◌||◌, not, eqb, length, get_or}
use Rattle.std.proofs.Common.{arith, sym, ◌∙◌, ap₂, subst, ⊎_elim, eqb-true, ne_eqb}
use Rattle.std.proofs.Math.Path.{ap}
use Rattle.refusal.specs.Laws.{undone}
use Rattle.shape.specs.Choice.{if, whether}
use Rattle.shape.proofs.Ranges.{halves, both}
use Rattle.steps.specs.Steps.{Table, step, namer, slot_in}
use Rattle.steps.specs.Suited.{Suited, namer-names}
use Rattle.window.specs.Lists.{any, xor}
use Rattle.window.specs.Window.{is_rest, is_merging, size, at, to}
use Rattle.window.specs.Merging.{nothing, seen, step_at, merged}
use Rattle.window.specs.declared.Stage.TheVariants.{Rest, Merging}
use Rattle.window.specs.declared.Node.{Node}
use Rattle.window.specs.declared.Seen.{Seen}
use Rattle.window.specs.declared.Stepped.{Stepped}
use Rattle.window.specs.declared.Window.{Window}
use Rattle.closure.specs.After.{merged-at, flipped-slot}
use Rattle.closure.specs.Closure.{Kept, kept-merging}
use Rattle.closure.specs.Facts.{Facts, facts, node-within}
use Rattle.closure.specs.Lists.{either, other, any_at}
use Rattle.closure.specs.Scan.{arrivals-none}
use Rattle.closure.specs.Sight.{seen-edge, seen_none}
use Rattle.closure.specs.Ways.{direction}
use Rattle.flat.specs.Entries.{State, margin, entry, cell, over_by}
use Rattle.flat.specs.Plan.{Plan}
use Rattle.flat.specs.Rule.{flood_of, arrived, sender, defect_after, busy_at, stirs, correction_after}
use Rattle.flat.specs.Step.{named, Places, edge_along, bit_along, sending, busy_in, Unturned, Passed, Follows}
use Rattle.shows.specs.Shows.{node_at, Shows}
use Rattle.shows.specs.Open.{arrivals-same}
use Rattle.shows.specs.Riding.{neighbour, Riding, sends_along, pushes-is, pushes-over}
use Rattle.shows.specs.Quiet.{Covers, AllQuiet, moved}
use Rattle.shows.proofs.Quiet.{settled-not, quiet-sends, sends_none}
use Rattle.shows.proofs.Next.{riding-merged, next-covers}
use Rattle.shows.proofs.Read.{node-within-entry, place-node, way-is, pointer-entry, pointer-open, named-cell}
use Rattle.shows.specs.Same.{next_at}
use Rattle.shows.proofs.Same.{looks, arrivals-flat, seen-flat, step-flat, bit-flat}
use Rattle.shows.proofs.Turned.{edge-back, turned_bit_lem}
use Rattle.shows.specs.Named.{named-found, named-same, listed_at, any_found, same_test}
use Rattle.shows.specs.Pass.{Going}

-- a list of all nodes covers
pub cover_all : (T : Table) (w : Window) (listed : ℕ → Bool) → ((g : ℕ) → g < size w → listed g ≡ true) → Covers T w listed
cover_all T w listed a g l n = absurd (undone (sym (a g l) ∙ n))

and_none : (b : Bool) → (b && false) ≡ false
and_none true = refl
and_none false = refl

xor_nothing : (a : Bool) → xor (xor a false) false ≡ a
xor_nothing true = refl
xor_nothing false = refl

-- a defect that is not sent, where none arrives
unsent : (d c : Bool) → (d && not c) ≡ false → xor (xor (d && c) false) d ≡ false
unsent true true e = refl
unsent true false e = e
unsent false c e = refl

module _ (T : Table) (S : Suited T) (P : Plan) (w : Window) (st : State) (rides : Bool) (count : ℕ) (list : ℕ → ℕ) (G : Going T P w st rides count list) where
  abbrev F : Facts T w
  F = facts T w G.kept.formed

  next-is : (g : ℕ) → g < size w → step_at T w g ≡ next_at P st (entry g)
  next-is g l = step-flat T S w G.kept G.merging st G.shows P G.planned g l

  bit_is : (kind g : ℕ) → kind < T.kinds → g < size w → get_or (merged T w).correction (slot_in (size w) kind g) false ≡ correction_after P st kind (entry g)
  bit_is kind g m l = flipped-slot T w g kind l m ∙ bit-flat T S w G.kept G.merging st G.shows P G.planned g l kind m

  sent_is : (g : ℕ) → g < size w → sender P st (entry g) ≡ ((at w g).defect && not (eqb (at w g).pointer 0))
  sent_is g l = ap (λ (n : Node). n.defect && not (eqb n.pointer 0)) (G.shows.nodes g l)

  -- A BIT whose two ends send nothing along its edge
  bit-stays : (kind g : ℕ) → kind < T.kinds → g < size w → sends_along (at w g) (namer T kind) ≡ false
      → ((to w T (namer T kind) g).there ≡ true → sends_along (neighbour T w g (namer T kind)) (step T (namer T kind)).back ≡ false)
      → correction_after P st kind (entry g) ≡ st.correction (cell kind (entry g))
  bit-stays kind g m l own over =
      let p = namer T kind in
      let old = get_or w.correction (slot_in (size w) kind g) false in
      let i = (namer-names T S kind m).pointer.0 in
      let x : p - 1 + 1 ≡ p = omega arith in
      sym (bit-flat T S w G.kept G.merging st G.shows P G.planned g l kind m)
      ∙ whether (to w T p g).there
      (λ e.
      let s : (seen T w g (p - 1)).pushes ≡ false = ap (λ (y : Seen). y.pushes) (seen-edge T w g (p - 1) (rw x e)) ∙ rw x (pushes-over T w F g p e ∙ over e) in
      let a = pushes-is T w F g l p ∙ own in
      let t : (seen T w g (p - 1)).there ≡ true = ap (λ (y : Seen). y.there) (seen-edge T w g (p - 1) (rw x e)) in
      rw (t, a, s) (xor_nothing old))
      (λ e.
      let s = seen_none T w g (p - 1) (rw x e) in
      rw s)
      ∙ sym (G.shows.correction kind g m l)

  -- a node along whose pointer nothing is turned sends nothing along it
  unsent-along : (e : ℕ) → Unturned P st count list e → (g p : ℕ) → g < size w → 1 ≤ p → over_by (entry g) (P.slot (p - 1)) ≡ e → sends_along (at w g) p ≡ false
  unsent-along e none g p l i is =
      whether (sends_along (at w g) p)
      (λ t.
      let h = halves (at w g).defect _ t in
      let q : (at w g).pointer ≡ p = eqb-true _ _ h.1 in
      let z : eqb (at w g).pointer 0 ≡ false = ne_eqb _ _ (λ (y : (at w g).pointer ≡ 0). omega arith) in
      let s = both (at w g).defect _ h.0 (ap not z) in
      let own : st.pointer (entry g) ≡ p = ap (λ (n : Node). n.pointer) (G.shows.nodes g l) ∙ q in
      absurd
      (whether (named list count (entry g))
      (λ n.
      let r = named-found list count (entry g) n in
      none r.0 r.1 (ap (sender P st) r.2 ∙ sent_is g l ∙ s) (ap (edge_along P st) r.2 ∙ ap (λ (y : ℕ). over_by (entry g) (P.slot (y - 1))) own ∙ is))
      (λ n. undone (sym s ∙ quiet-sends T w g F l (G.covers g l n).still))))
      (λ t. t)

  unturned-stays : (kind g : ℕ) → kind < T.kinds → g < size w → Unturned P st count list (cell kind (entry g))
      → correction_after P st kind (entry g) ≡ st.correction (cell kind (entry g))
  unturned-stays kind g m l none =
      let p = namer T kind in
      let i = (namer-names T S kind m).pointer in
      let c = G.planned.namers kind m in
      let x : p - 1 ≡ P.namer kind = omega arith in
      let here = ap (λ (j : ℕ). over_by (entry g) (P.slot j)) x ∙ named-cell T S w F st G.shows P G.planned kind g m l in
      bit-stays kind g m l (unsent-along _ none g p l i.0 here)
      (λ e.
      unsent-along _ none (to w T p g).node (step T p).back (node-within T w F.ranged p g e) (S.proper.opposed p i).back.0
      (edge-back T S w G.kept G.merging st G.shows P G.planned g p l e ∙ here))

  -- NO LISTED NODE SENDS: then none does, and nothing arrives
  module _ (none : sending P st count list ≡ false) where
    silent : (g : ℕ) → g < size w → ((at w g).defect && not (eqb (at w g).pointer 0)) ≡ false
    silent g l =
        whether (named list count (entry g))
        (λ t. sym (sent_is g l) ∙ whether (sender P st (entry g)) (λ y. absurd (undone (sym (listed_at list (sender P st) count (entry g) t y) ∙ none))) (λ y. y))
        (λ t. quiet-sends T w g F l (G.covers g l t).still)

    silent-over : (g p : ℕ) → (to w T p g).there ≡ true → sends_along (neighbour T w g p) (step T p).back ≡ false
    silent-over g p e =
        sends_none (neighbour T w g p) (step T p).back (S.proper.opposed p (direction T w g p e)).back.0 (silent (to w T p g).node (node-within T w F.ranged p g e))

    unpushed : (g j : ℕ) → (seen T w g j).pushes ≡ false
    unpushed g j =
        whether (to w T (j + 1) g).there
        (λ e. ap (λ (s : Seen). s.pushes) (seen-edge T w g j e) ∙ pushes-over T w F g (j + 1) e ∙ silent-over g (j + 1) e)
        (λ e. ap (λ (s : Seen). s.pushes) (seen_none T w g j e))

    none-arrives : (g : ℕ) → g < size w → arrived P st.defect st.pointer st.growth (entry g) 0 P.dirs false ≡ false
    none-arrives g l =
        sym (arrivals-flat P st (entry g) P.dirs 0 false)
        ∙ arrivals-same (looks P st (entry g)) (λ j. nothing) P.dirs 0 false
        (λ j a b.
        let m : j < length T.steps = omega (arith, G.planned.dirs) in
        ap (λ (s : Seen). s.pushes) (sym (seen-flat T S w G.kept G.merging st G.shows P G.planned g l j m)) ∙ unpushed g j)
        ∙ arrivals-none (λ j. nothing) P.dirs 0 (λ j. refl)

  -- so what arrives need not be looked for
  defect-is : (g : ℕ) → g < size w → defect_after P st (sending P st count list) (entry g) ≡ defect_after P st true (entry g)
  defect-is g l =
      let x = entry g in
      whether (sending P st count list)
      (λ t. ap (λ (b : Bool). defect_after P st b x) t)
      (λ t.
      ap (λ (b : Bool). defect_after P st b x) t
      ∙ ap (λ (b : Bool). xor (st.defect x && eqb (st.pointer x) 0) b) (sym (ap (λ (b : Bool). P.inner x && b) (none-arrives t g l) ∙ and_none (P.inner x))))

  moved-is : (g : ℕ) → g < size w → moved T w g ≡ stirs P st (sending P st count list) (entry g)
  moved-is g l =
      ap₂ (λ (s : Stepped) (b : Bool). s.busy || xor s.node.defect b) (next-is g l) (ap (λ (n : Node). n.defect) (sym (G.shows.nodes g l)))
      ∙ ap (λ (b : Bool). busy_at P st (entry g) || xor b (st.defect (entry g))) (sym (defect-is g l))

  -- SOME NODE IS BUSY exactly if a listed one is
  busy-list : any (size w) (λ g. (step_at T w g).busy) ≡ busy_in P st count list
  busy-list = same_test _ _ there back
    where
      there : any (size w) (λ g. (step_at T w g).busy) ≡ true → busy_in P st count list ≡ true
      there e =
          let r = any_found (λ g. (step_at T w g).busy) (size w) e in
          let g = r.0 in
          whether (named list count (entry g))
          (λ t. listed_at list (busy_at P st) count (entry g) t (ap (λ (s : Stepped). s.busy) (sym (next-is g r.1)) ∙ r.2))
          (λ t. absurd (undone (sym r.2 ∙ ap (λ (s : Stepped). s.busy) (G.covers g r.1 t).still)))

      back : busy_in P st count list ≡ true → any (size w) (λ g. (step_at T w g).busy) ≡ true
      back e =
          let r = any_found (λ i. busy_at P st (list i)) count e in
          let q = place-node (size w) (list r.0) (G.places r.0 r.1) in
          any_at (λ g. (step_at T w g).busy) (size w) _ q.0
          (ap (λ (s : Stepped). s.busy) (next-is _ q.0) ∙ ap (busy_at P st) q.1 ∙ r.2)

  pub stage_is : (merged T w).stage ≡ if (busy_in P st count list) Merging Rest
  unfolding merged
  stage_is = ap (λ (b : Bool). if b Merging Rest) busy-list

  -- it is at rest, or goes on
  pub pass-rest : busy_in P st count list ≡ false → is_rest (merged T w).stage ≡ true
  pass-rest b = ap is_rest stage_is ∙ rw b

  pub pass_on : busy_in P st count list ≡ true → is_rest (merged T w).stage ≡ false
  pass_on b = ap is_rest stage_is ∙ rw b

  -- THE STATE AFTER IT
  module _ (st' : State) (A : Passed P st count list (size w) st') where
    node-shows : (g : ℕ) → g < size w → node_at st' (entry g) ≡ at (merged T w) g
    node-shows g l =
        let x = entry g in
        let i = node-within-entry (size w) g l in
        let a = A.active x i in
        let d = A.defect x i in
        let u = A.unrooted x i in
        let p = A.pointer x i in
        let m = A.mark x i in
        let dd = defect-is g l in
        rw (a, d, u, p, m, dd)
        (whether (named list count x)
        (λ t. rw t (ap (λ (s : Stepped). s.node) (sym (next-is g l)) ∙ sym (merged-at T w g l)))
        (λ t. rw t (G.shows.nodes g l ∙ sym (merged-at T w g l ∙ ap (λ (s : Stepped). s.node) (G.covers g l t).still))))

    bit-shows : (kind g : ℕ) → kind < T.kinds → g < size w → st'.correction (cell kind (entry g)) ≡ get_or (merged T w).correction (slot_in (size w) kind g) false
    bit-shows kind g m l =
        let e = cell kind (entry g) in
        ⊎_elim
        (λ r.
        let x = list r.0 in
        let q = place-node (size w) x (G.places r.0 r.1) in
        let says = subst (λ (y : ℕ). sender P st y ≡ true → edge_along P st y ≡ e → bit_along P st y ≡ correction_after P st kind (entry g)) q.1
        (turned_bit_lem T S w G.kept G.merging st G.shows P G.planned kind g (x - margin) m l q.0) in
        r.4 ∙ says r.2 r.3 ∙ sym (bit_is kind g m l))
        (λ r. r.1 ∙ sym (bit_is kind g m l ∙ unturned-stays kind g m l r.0))
        (A.correction e)

    pub pass-shows : Shows T (merged T w) st'
    unfolding merged
    pass-shows =
        record {
          nodes = node-shows;
          growth = λ kind g m l. A.growth (cell kind (entry g)) ∙ G.shows.growth kind g m l;
          margins = λ kind x m l t. A.growth (cell kind x) ∙ G.shows.margins kind x m l t;
          correction = bit-shows;
        }

    -- THE NEXT LIST
    module _ (count' : ℕ) (list' : ℕ → ℕ) (follows : rides ≡ true → Follows P st count list (size w) count' list')
        (same : rides ≡ false → (count' ≡ count) × ((i : ℕ) → i < count → list' i ≡ list i)) where
      -- a node that moved is listed
      at-list : (g : ℕ) → g < size w → moved T w g ≡ true → (i : ℕ) × (i < count) × (list i ≡ entry g)
      at-list g l m =
          whether (named list count (entry g)) (named-found list count (entry g))
          (λ n. absurd (undone (sym m ∙ settled-not T w g (G.covers g l n).still)))

      follows-covers : Riding T w → Follows P st count list (size w) count' list' → Covers T (merged T w) (λ g. named list' count' (entry g))
      follows-covers R W =
          next-covers T S w G.kept R G.merging (λ g. named list' count' (entry g))
          (λ g l m.
          let r = at-list g l m in
          subst (λ (x : ℕ). named list' count' x ≡ true) r.2 (W.self r.0 r.1 (ap (stirs P st (sending P st count list)) r.2 ∙ sym (moved-is g l) ∙ m)))
          (λ g p l m o.
          let r = at-list g l m in
          let e = (halves (to w T p g).there _ o).0 in
          let i = (way-is T w g p e).1 in
          let opn = pointer-open T S w F st G.shows P G.planned g p l e ∙ o in
          let at = pointer-entry T S w F st G.shows P G.planned g p l e in
          let n = W.near r.0 (p - 1) r.1 (rw G.planned.dirs i) (ap (stirs P st (sending P st count list)) r.2 ∙ sym (moved-is g l) ∙ m)
          (ap (λ (y : ℕ). eqb (st.growth (over_by y (P.slot (p - 1)))) 2) r.2 ∙ opn) in
          subst (λ (y : ℕ). named list' count' y ≡ true) (ap (λ (y : ℕ). over_by y (P.off (p - 1))) r.2 ∙ at) n)

      still-named : rides ≡ false → (x : ℕ) → named list' count' x ≡ named list count x
      still-named f x = ap (λ (c : ℕ). named list' c x) (same f).0 ∙ named-same list list' count x (same f).1

      all_named : rides ≡ false → (g : ℕ) → g < size w → named list' count' (entry g) ≡ true
      all_named f g l = still-named f (entry g) ∙ G.all f g l

      next-places : Places (size w) count' list'
      next-places =
          whether rides (λ t. (follows t).places)
          (λ t i l. let c = (same t).0 in let b : i < count = omega arith in rw ((same t).1 i b) (G.places i b))

      covers-next : Covers T (merged T w) (λ g. named list' count' (entry g))
      unfolding merged
      covers-next = whether rides (λ t. follows-covers (G.riding t) (follows t)) (λ t. cover_all T (merged T w) (λ g. named list' count' (entry g)) (all_named t))

      pub pass-going : busy_in P st count list ≡ true → Going T P (merged T w) st' rides count' list'
      unfolding merged
      pass-going b =
          record {
            kept = kept-merging T S w G.kept G.merging;
            merging = ap is_merging stage_is ∙ rw b;
            planned = G.planned;
            shows = pass-shows;
            places = next-places;
            covers = covers-next;
            riding = λ t. riding-merged T S w G.kept (G.riding t);
            all = all_named;
          }

  -- NO LISTED NODE WAS BUSY: then none sent and none moved, so every node is quiet after it
  module _ (b : busy_in P st count list ≡ false) where
    none-busy : (g : ℕ) → g < size w → (step_at T w g).busy ≡ false
    none-busy g l = whether (step_at T w g).busy (λ t. absurd (undone (sym (any_at (λ i. (step_at T w i).busy) (size w) g l t) ∙ busy-list ∙ b))) (λ t. t)

    none-sends : sending P st count list ≡ false
    none-sends =
        whether (sending P st count list)
        (λ t.
        let r = any_found (λ i. sender P st (list i)) count t in
        let x = list r.0 in
        let floods = not (eqb (flood_of P st x).mark (st.mark x)) in
        absurd (undone (sym (any_at (λ i. busy_at P st (list i)) count r.0 r.1 (either (floods || sender P st x) _ (other floods (sender P st x) r.2))) ∙ b)))
        (λ t. t)

    none-moved : (g : ℕ) → g < size w → moved T w g ≡ false
    none-moved g l =
        let x = entry g in
        let a : busy_at P st x ≡ false = ap (λ (s : Stepped). s.busy) (sym (next-is g l)) ∙ none-busy g l in
        moved-is g l ∙ ap (λ (s : Bool). stirs P st s x) none-sends ∙ rw a (unsent (st.defect x) (eqb (st.pointer x) 0) (sent_is g l ∙ silent none-sends g l))

    pub pass-quiet : rides ≡ true → AllQuiet T (merged T w)
    pass-quiet t g l = next-covers T S w G.kept (G.riding t) G.merging (λ v. false) (λ v m x. absurd (undone (sym x ∙ none-moved v m))) (λ v p m x o. absurd (undone (sym x ∙ none-moved v m))) g l refl

  pub pass-riding : rides ≡ true → Riding T (merged T w)
  pass-riding t = riding-merged T S w G.kept (G.riding t)

  pub pass_kept : Kept T (merged T w)
  pass_kept = kept-merging T S w G.kept G.merging
