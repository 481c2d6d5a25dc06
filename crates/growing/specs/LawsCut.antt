-- Laws of bottom nodes that are cut: what stays of one, and strips that are cut one after the other. Assumes nothing.
use Rattle.std.specs.Prelude.{ℕ, zero, suc, ◌+◌, ◌/◌, ◌%◌, ◌<◌, ◌≡◌, refl, Bool, false, List, [], ◌∷◌, eqb, leb, get_or, set}
use Rattle.std.proofs.Common.{arith, ap, sym, ◌∙◌, leb-false, eq-eqb, ne_eqb}
use Rattle.shape.specs.Choice.{if, if-true, if-false}
use Rattle.flat.specs.Codes.{active_of, defect_of, unrooted_of, pointer_of}
use Rattle.flat.specs.Stored.{stored, place-next, stored-behind}
use Rattle.growing.specs.Grown.{cut_node, cut_mark}

-- A NODE THAT IS CUT: what stays of it
module _ (v : ℕ) where
  pub kept-active : active_of (v % 8) ≡ active_of v
  kept-active = let e : v % 8 % 2 ≡ v % 2 = omega arith in rw e

  pub kept-defect : defect_of (v % 8) ≡ defect_of v
  kept-defect = let e : v % 8 / 2 % 2 ≡ v / 2 % 2 = omega arith in rw e

  pub kept-unrooted : unrooted_of (v % 8) ≡ unrooted_of v
  kept-unrooted = let e : v % 8 / 4 % 2 ≡ v / 4 % 2 = omega arith in rw e

  pub cut-pointer : pointer_of (v % 8) ≡ 0
  cut-pointer = omega arith

-- what is stored as it was
set_back : (l : List ℕ) (i : ℕ) → set l i (get_or l i 0) ≡ l
set_back [] i = refl
set_back (x ∷ l) zero = refl
set_back (x ∷ l) (suc i) = ap (λ (r : List ℕ). x ∷ r) (set_back l i)

-- A STRIP: a turn over both arrays
module _ (table nodes marks : List ℕ) (b i at : ℕ) (now : List ℕ) where
  abbrev falls : ℕ → Bool
  falls p = eqb (get_or table (128 + p) 0) 1

  abbrev node : ℕ → ℕ
  node j = cut_node falls (get_or nodes (b + j) 0)

  abbrev mark : ℕ → ℕ
  mark j = cut_mark falls (get_or nodes (b + j) 0) (get_or marks (b + j) 0)

  module _ (p : now ≡ stored b node i nodes) (told : at ≡ 128 + get_or now (b + i) 0 / 8) where
    pub cut-node-next : (v : ℕ) → v ≡ if (eqb (get_or table at 0) 1) (get_or now (b + i) 0 % 8) (get_or now (b + i) 0) → set now (b + i) v ≡ stored b node (i + 1) nodes
    cut-node-next v q = place-next b (λ j w. cut_node falls w) 0 nodes i now v p (q ∙ ap (λ (y : ℕ). if (eqb (get_or table y 0) 1) (get_or now (b + i) 0 % 8) (get_or now (b + i) 0)) told)

    pub cut-mark-next : (old : List ℕ) (v : ℕ) → old ≡ stored b mark i marks → v ≡ if (eqb (get_or table at 0) 1) 65535 (get_or old (b + i) 0) → set old (b + i) v ≡ stored b mark (i + 1) marks
    cut-mark-next old v m q =
        let e : at ≡ 128 + get_or nodes (b + i) 0 / 8 = told ∙ ap (λ (l : List ℕ). 128 + get_or l (b + i) 0 / 8) p ∙ ap (λ (w : ℕ). 128 + w / 8) (stored-behind b node i nodes 0 (b + i) (omega arith)) in
        place-next b (λ j w. cut_mark falls (get_or nodes (b + j) 0) w) 0 marks i old v m (q ∙ ap (λ (y : ℕ). if (eqb (get_or table y 0) 1) 65535 (get_or old (b + i) 0)) e)

    -- the node's pointer falls
    pub cut-next : (old : List ℕ) → old ≡ stored b mark i marks → get_or table at 0 ≡ 1
        → (set now (b + i) (get_or now (b + i) 0 % 8) ≡ stored b node (i + 1) nodes) × (set old (b + i) 65535 ≡ stored b mark (i + 1) marks)
    cut-next old m t =
        let e = eq-eqb _ _ t in
        (cut-node-next _ (sym (if-true (eqb (get_or table at 0) 1) _ _ e)), cut-mark-next old _ m (sym (if-true (eqb (get_or table at 0) 1) _ _ e)))

    -- it does not
    pub cut-past : (old : List ℕ) → old ≡ stored b mark i marks → (get_or table at 0 ≡ 1 → ⊥) → (now ≡ stored b node (i + 1) nodes) × (old ≡ stored b mark (i + 1) marks)
    cut-past old m t =
        let e = ne_eqb _ _ t in (
          sym (set_back now (b + i)) ∙ cut-node-next _ (sym (if-false (eqb (get_or table at 0) 1) _ _ e)),
          sym (set_back old (b + i)) ∙ cut-mark-next old _ m (sym (if-false (eqb (get_or table at 0) 1) _ _ e)),
        )

-- STRIP AFTER STRIP

stored_same : (b : ℕ) (f : ℕ → ℕ) (n : ℕ) (l : List ℕ) → ((j : ℕ) → j < n → f j ≡ get_or l (b + j) 0) → stored b f n l ≡ l
unfolding stored
stored_same b f zero l q = refl
stored_same b f (suc n) l q =
    let r = stored_same b f n l (λ j h. q j (omega arith)) in
    let e = q n (omega arith) in
    ap (λ (m : List ℕ). set m (b + n) (f n)) r ∙ ap (λ (v : ℕ). set l (b + n) v) e ∙ set_back l (b + n)

-- entries stored behind others
stored_on : (b i : ℕ) (f g : ℕ → ℕ) (m : ℕ) (l : List ℕ) → ((j : ℕ) → j < m → g j ≡ f (i + j)) → stored (b + i) g m (stored b f i l) ≡ stored b f (i + m) l
unfolding stored
stored_on b i f g zero l q = let e : i ≡ i + 0 = omega arith in ap (λ (k : ℕ). stored b f k l) e
stored_on b i f g (suc m) l q =
    let r = stored_on b i f g m l (λ j h. q j (omega arith)) in
    let e = q m (omega arith) in
    let a : b + i + m ≡ b + (i + m) = omega arith in
    let s : suc (i + m) ≡ i + suc m = omega arith in
    ap (λ (k : List ℕ). set k (b + i + m) (g m)) r ∙ ap (λ (v : ℕ). set (stored b f (i + m) l) (b + i + m) v) e ∙ ap (λ (x : ℕ). set (stored b f (i + m) l) x (f (i + m))) a
    ∙ ap (λ (k : ℕ). stored b f k l) s

module _ (falls : ℕ → Bool) (nodes marks : List ℕ) (b i m : ℕ) (now old next later : List ℕ) where
  abbrev node_in : List ℕ → ℕ → ℕ → ℕ
  node_in l from j = cut_node falls (get_or l (from + j) 0)

  abbrev mark_in : List ℕ → List ℕ → ℕ → ℕ → ℕ
  mark_in l k from j = cut_mark falls (get_or l (from + j) 0) (get_or k (from + j) 0)

  module _ (p : now ≡ stored b (node_in nodes b) i nodes) where
    as-was : (j : ℕ) → get_or now (b + i + j) 0 ≡ get_or nodes (b + (i + j)) 0
    as-was j = let e : b + i + j ≡ b + (i + j) = omega arith in ap (λ (l : List ℕ). get_or l (b + i + j) 0) p ∙ stored-behind b (node_in nodes b) i nodes 0 (b + i + j) (omega arith) ∙ ap (λ (x : ℕ). get_or nodes x 0) e

    pub strips-node : next ≡ stored (b + i) (node_in now (b + i)) m now → next ≡ stored b (node_in nodes b) (i + m) nodes
    strips-node q =
        q ∙ ap (λ (l : List ℕ). stored (b + i) (node_in now (b + i)) m l) p
        ∙ stored_on b i (node_in nodes b) (node_in now (b + i)) m nodes (λ j h. ap (cut_node falls) (as-was j))

    pub strips-mark : old ≡ stored b (mark_in nodes marks b) i marks → later ≡ stored (b + i) (mark_in now old (b + i)) m old → later ≡ stored b (mark_in nodes marks b) (i + m) marks
    strips-mark o q =
        let was : (j : ℕ) → get_or old (b + i + j) 0 ≡ get_or marks (b + (i + j)) 0
        = λ j. let e : b + i + j ≡ b + (i + j) = omega arith in ap (λ (l : List ℕ). get_or l (b + i + j) 0) o ∙ stored-behind b (mark_in nodes marks b) i marks 0 (b + i + j) (omega arith) ∙ ap (λ (x : ℕ). get_or marks x 0) e in
        q ∙ ap (λ (l : List ℕ). stored (b + i) (mark_in now old (b + i)) m l) o
        ∙ stored_on b i (mark_in nodes marks b) (mark_in now old (b + i)) m marks (λ j h. ap (λ (v : ℕ). cut_mark falls v (get_or old (b + i + j) 0)) (as-was j) ∙ ap (cut_mark falls (get_or nodes (b + (i + j)) 0)) (was j))

-- a strip of nodes with pointer C stays
module _ (falls : ℕ → Bool) (none : falls 0 ≡ false) (at m : ℕ) (nodes marks : List ℕ) (centred : (j : ℕ) → j < m → leb 8 (get_or nodes (at + j) 0) ≡ false) where
  shut : (j : ℕ) → j < m → falls (pointer_of (get_or nodes (at + j) 0)) ≡ false
  shut j h = let l = leb-false 8 (get_or nodes (at + j) 0) (centred j h) in let e : get_or nodes (at + j) 0 / 8 ≡ 0 = omega arith in ap falls e ∙ none

  pub centred-node : nodes ≡ stored at (λ j. cut_node falls (get_or nodes (at + j) 0)) m nodes
  centred-node = sym (stored_same at (λ j. cut_node falls (get_or nodes (at + j) 0)) m nodes (λ j h. if-false (falls (pointer_of (get_or nodes (at + j) 0))) _ _ (shut j h)))

  pub centred-mark : marks ≡ stored at (λ j. cut_mark falls (get_or nodes (at + j) 0) (get_or marks (at + j) 0)) m marks
  centred-mark = sym (stored_same at (λ j. cut_mark falls (get_or nodes (at + j) 0) (get_or marks (at + j) 0)) m marks (λ j h. if-false (falls (pointer_of (get_or nodes (at + j) 0))) _ _ (shut j h)))
