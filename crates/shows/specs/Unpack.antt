-- A STATE STANDS FOR THE WINDOW THAT IT SHOWS. Assumes nothing.
use Rattle.std.specs.Prelude.{ℕ, zero, suc, ◌+◌, ◌-◌, ◌*◌, ◌/◌, ◌%◌, ◌≤◌, ◌<◌, ◌≡◌, Bool, true, false, ◌&&◌, not, List, eqb, length, get_or, drop, replicate}
use Rattle.std.proofs.Common.{mul_comm, mul-le-mul_left, mod-lt, div-lt_iff_lt-mul, div-add-mod', arith, sym, ◌∙◌, ap, subst, ⊎_elim, eqb-true, ne_eqb, ext_get_or}
use Rattle.std.proofs.lemmas.Bool.{not-true}
use Rattle.std.proofs.lemmas.List.{length-replicate, get_or-replicate}
use Rattle.refusal.specs.Laws.{undone}
use Rattle.shape.specs.Choice.{if-false, whether, order}
use Rattle.shape.proofs.Ranges.{halves}
use Rattle.shape.specs.Sizes.{max_nodes}
use Rattle.steps.specs.Steps.{Table, namer, slot_in, slot_kind, slot_node}
use Rattle.window.specs.Lists.{over, all}
use Rattle.window.specs.LawsLists.{over-at, over-later, length_over, all_cons}
use Rattle.window.specs.Window.{unused, beyond, size, to}
use Rattle.window.specs.Fresh.{slots_of}
use Rattle.window.specs.Formed.{is_number, is_empty, unused_node}
use Rattle.window.specs.declared.Mark.{Mark}
use Rattle.window.specs.declared.Mark.TheVariants.{Reset, Root}
use Rattle.window.specs.declared.Node.{Node}
use Rattle.window.specs.declared.Window.{Window}
use Rattle.closure.specs.Closure.{Kept}
use Rattle.closure.specs.Facts.{Facts, facts}
use Rattle.closure.specs.Sized.{size-le}
use Rattle.flat.specs.Codes.{no_edge}
use Rattle.flat.specs.Entries.{State, entry, cell}
use Rattle.shows.specs.Shows.{node_at, shown, window_of, Shows}

-- LISTS

-- an entry that a test of all behind n covers
all-at {ℓ} : {A : Type ℓ} (f : A → Bool) (l : List A) (n i : ℕ) (d : A) → all f (drop n l) ≡ true → n ≤ i → i < length l → f (get_or l i d) ≡ true
all-at f l n i d e lo hi = go (i - n) n e (omega arith)
  where
    go : (c n : ℕ) → all f (drop n l) ≡ true → n + c ≡ i → f (get_or l i d) ≡ true
    go zero n e q =
        let z : n ≡ i = omega arith in
        let h : n < length l = omega arith in
        subst (λ (j : ℕ). f (get_or l j d) ≡ true) z (halves (f (get_or l n d)) _ (sym (all_cons f l n d h) ∙ e)).0
    go (suc c) n e q =
        let h : n < length l = omega arith in
        go c (n + 1) (halves (f (get_or l n d)) _ (sym (all_cons f l n d h) ∙ e)).1 (omega arith)

unused-is : (n : Node) → unused_node n ≡ true → n ≡ unused
unused-is n e =
    let a = halves _ (is_number 0 n.mark) e in
    let b = halves _ (eqb n.pointer 0) a.0 in
    let c = halves _ (not n.unrooted) b.0 in
    let f = halves (not n.active) (not n.defect) c.0 in
    let pointer : n.pointer ≡ 0 = eqb-true _ _ b.1 in
    build n.active n.defect n.unrooted n.pointer n.mark (not-true n.active f.0) (not-true n.defect f.1) (not-true n.unrooted c.1) pointer (number_is n.mark a.1)
  where
    number_is : (m : Mark) → is_number 0 m ≡ true → m ≡ Root 0
    number_is Reset e = absurd (undone (sym e))
    number_is (Root m) e = ap Root (eqb-true m 0 e)

    build : (a d u : Bool) (p : ℕ) (m : Mark) → a ≡ false → d ≡ false → u ≡ false → p ≡ 0 → m ≡ Root 0 → ◌≡◌ {A = Node} (record { active = a; defect = d; unrooted = u; pointer = p; mark = m }) unused
    build a d u p m x y z v t = rw (x, y, z, v, t)

-- a list filled by a rule over one value is a list that the rule gives and that holds the value behind
filled {ℓ} : {A : Type ℓ} (f : ℕ → A) (l : List A) (n m : ℕ) (z d : A) → length l ≡ m → n ≤ m → ((i : ℕ) → i < n → f i ≡ get_or l i d) → ((i : ℕ) → n ≤ i → i < m → get_or l i d ≡ z)
    → over n f (replicate m z) ≡ l
filled f l n m z d e le p q =
    let a : length (over n f (replicate m z)) ≡ m = length_over f (replicate m z) n (rw (length-replicate m z) le) ∙ length-replicate m z in
    ext_get_or d (over n f (replicate m z)) l (a ∙ sym e)
    (λ i h.
    let k : i < m = omega arith in
    ⊎_elim (λ x. over-at f (replicate m z) n i d x ∙ p i x)
    (λ x. over-later f (replicate m z) n i d x ∙ get_or-replicate m i z d k ∙ sym (q i x k))
    (order i n))

-- SLOTS

module _ (n kinds e : ℕ) (l : e < kinds * n) where
  some : 1 ≤ n
  some = go n l
    where
      go : (n : ℕ) → e < kinds * n → 1 ≤ n
      go zero l = absurd (omega arith)
      go (suc n) l = omega arith

  kind-lt : slot_kind n e < kinds
  kind-lt = (div-lt_iff_lt-mul some).1 l

  node-lt : slot_node n e < n
  node-lt = mod-lt e some

  slot_is : slot_in n (slot_kind n e) (slot_node n e) ≡ e
  slot_is = ap (λ (x : ℕ). x + e % n) (mul_comm n (e / n)) ∙ div-add-mod' e n

slots-le : (w : Window) (T : Table) → T.kinds * size w ≤ slots_of T
slots-le w T = omega (arith, mul-le-mul_left T.kinds (size-le w))

shown-least : (v : ℕ) → v ≤ 2 → shown v ≡ v
shown-least v l = if-false (eqb v no_edge) 0 v (ne_eqb v no_edge (λ (e : v ≡ no_edge). omega arith))

module _ (T : Table) (w : Window) (k : Kept T w) (st : State) (H : Shows T w st) where
  abbrev n : ℕ
  n = size w

  abbrev F : Facts T w
  F = facts T w k.formed

  growth-is : (e : ℕ) → e < T.kinds * n → shown (st.growth (cell (slot_kind n e) (entry (slot_node n e)))) ≡ get_or w.growth e 0
  growth-is e l =
      let kind = slot_kind n e in
      let g = slot_node n e in
      let m = kind-lt n T.kinds e l in
      let b = node-lt n T.kinds e l in
      let s = F.slots g kind b m in
      let slot = slot_in n kind g in
      ap shown (H.growth kind g m b)
      ∙ whether (to w T (namer T kind) g).there
      (λ t. rw t (shown-least (get_or w.growth slot 0) s.most ∙ ap (λ (i : ℕ). get_or w.growth i 0) (slot_is n T.kinds e l)))
      (λ t.
      let u : (is_empty (get_or w.growth slot 0) && not (get_or w.correction slot false)) ≡ true = rw t at s.used in
      let z = eqb-true (get_or w.growth slot 0) 0 (halves (is_empty (get_or w.growth slot 0)) _ u).0 in
      rw t (sym z ∙ ap (λ (i : ℕ). get_or w.growth i 0) (slot_is n T.kinds e l)))

  nodes-are : over n (λ g. node_at st (entry g)) (replicate max_nodes unused) ≡ w.nodes
  nodes-are =
      filled (λ g. node_at st (entry g)) w.nodes n max_nodes unused beyond k.sized.nodes (size-le w) (λ i l. H.nodes i l)
      (λ i x y. unused-is (get_or w.nodes i beyond) (all-at unused_node w.nodes n i beyond F.unused_nodes x (omega (arith, k.sized.nodes))))

  growths-are : over (T.kinds * n) (λ e. shown (st.growth (cell (slot_kind n e) (entry (slot_node n e))))) (replicate {A = ℕ} (slots_of T) 0) ≡ w.growth
  growths-are =
      filled {A = ℕ} _ w.growth (T.kinds * n) (slots_of T) 0 0 k.sized.growth (slots-le w T) growth-is
      (λ i x y. eqb-true (get_or w.growth i 0) 0 (all-at is_empty w.growth (T.kinds * n) i 0 F.unused_growth x (omega (arith, k.sized.growth))))

  bits_are : over (T.kinds * n) (λ e. st.correction (cell (slot_kind n e) (entry (slot_node n e)))) (replicate (slots_of T) false) ≡ w.correction
  bits_are =
      filled _ w.correction (T.kinds * n) (slots_of T) false false k.sized.correction (slots-le w T)
      (λ e l. H.correction (slot_kind n e) (slot_node n e) (kind-lt n T.kinds e l) (node-lt n T.kinds e l) ∙ ap (λ (i : ℕ). get_or w.correction i false) (slot_is n T.kinds e l))
      (λ i x y. not-true (get_or w.correction i false) (all-at not w.correction (T.kinds * n) i false F.unused_correction x (omega (arith, k.sized.correction))))

  pub window-shown : window_of T w.shape w.stage w.next w.measured st ≡ w
  unfolding window_of
  window-shown = rw (nodes-are, growths-are, bits_are)
