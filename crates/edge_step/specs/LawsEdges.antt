-- One edge that is turned, the loop that gathers words, and what laying them down leaves. Assumes nothing.
use Rattle.std.specs.Prelude.{ℕ, zero, suc, ◌+◌, ◌-◌, ◌*◌, ◌≤◌, ◌<◌, ◌≡◌, refl, Bool, true, false, ◌&&◌, not, List, [], ◌⊎◌, eqb, ltb, get_or, set, length}
use Rattle.std.proofs.Common.{arith, ap, sym, ◌∙◌, subst, inl, inr, ⊎_elim, eq-eqb, ne_eqb, eqb-true, lt-ltb, length-set, get_or-set_same, get_or-set_other}
use Rattle.std.proofs.Math.Bool.{or-true, or-false}
use Rattle.std.proofs.lemmas.Bool.{eqb-false, not-true}
use Rattle.shape.specs.Choice.{if-true, if-false, whether, order}
use Rattle.shape.proofs.Ranges.{halves}
use Rattle.window.specs.Lists.{xor}
use Rattle.window.specs.LawsLists.{bit-most, any_none, any_next}
use Rattle.flat.specs.Codes.{defect_of, pointer_of, no_edge, edge_code, growth_of, correction_of}
use Rattle.flat.specs.LawsCodes.{edge-growth, edge-correction}
use Rattle.flat.specs.Entries.{State, state_of, plane, planes, over_by}
use Rattle.flat.specs.Laid.{laid, length-laid, laid-stays}
use Rattle.flat.specs.Plan.{Plan, plan_of}
use Rattle.flat.specs.Rule.{sender, pushes_along}
use Rattle.flat.specs.declared.Sizes.{Sizes}
use Rattle.edge_step.specs.Edges.{TurnedEdge, edge_in, number_in, Turn, Turns, Flipped}

-- one edge, by the code's branches
pub turned_none : (v : ℕ) (mine theirs : Bool) → v < 256 → growth_of v ≡ no_edge → TurnedEdge v mine theirs v
turned_none v mine theirs l e =
    record {
      low = l;
      growth = refl;
      correction = sym (if-true (eqb (growth_of v) no_edge) (correction_of v) (xor (xor (correction_of v) mine) theirs) (eq-eqb (growth_of v) no_edge e));
    }

pub turned-edge : (v : ℕ) (mine theirs : Bool) → (growth_of v ≡ no_edge → ⊥) → TurnedEdge v mine theirs (edge_code (growth_of v) (xor (xor (correction_of v) mine) theirs))
turned-edge v mine theirs e =
    let b = xor (xor (correction_of v) mine) theirs in
    let l : growth_of v < 4 = omega arith in
    record {
      low = omega (arith, bit-most b);
      growth = edge-growth (growth_of v) b l;
      correction = edge-correction (growth_of v) b l ∙ sym (if-false (eqb (growth_of v) no_edge) (correction_of v) b (ne_eqb (growth_of v) no_edge e));
    }

-- A NODE'S WORD, as the code reads it
pub sender-points : (v : ℕ) → (defect_of v && not (eqb (pointer_of v) 0)) ≡ true → 1 ≤ pointer_of v
sender-points v s = let d = eqb-false (pointer_of v) 0 (not-true _ (halves (defect_of v) _ s).1) in omega arith

module _ (z : Sizes) (nodes edges table : List ℕ) (x : ℕ) where
  abbrev st : State
  st = state_of nodes [] edges

  pub turn-tells : (p e j v : ℕ) (t : Bool) → p ≡ pointer_of (get_or nodes x 0) → e ≡ over_by x (get_or table (32 + (p - 1)) 0) → j ≡ over_by x (get_or table (p - 1) 0)
      → t ≡ pushes_along st.defect st.pointer j (get_or table (64 + (p - 1)) 0) → e < planes → TurnedEdge (get_or edges e 0) true t v → Turn (plan_of z table) st x (256 * e + v)
  turn-tells p e j v t is-p is-e is-j is-t l w =
      let low = w.low in
      let a : edge_in (256 * e + v) ≡ e = omega arith in
      let b : number_in (256 * e + v) ≡ v = omega arith in
      record {
        edge-back = a ∙ is-e ∙ ap (λ (q : ℕ). over_by x (get_or table (32 + (q - 1)) 0)) is-p;
        low = rw a l;
        growth = ap growth_of b ∙ w.growth ∙ ap (λ (y : ℕ). growth_of (get_or edges y 0)) (sym a);
        correction = ap correction_of b ∙ rw (is-t, is-j, is-e, is-p) at w.correction;
      }

apart : true ≡ false → ⊥
apart e = let z : ◌≡◌ {A = ℕ} 0 1 = cc in omega arith

-- GATHERING
module _ (P : Plan) (st : State) (list : ℕ → ℕ) where
  pub turns-none : (words : List ℕ) → length words ≡ plane → Turns P st list 0 0 words
  turns-none words l =
      record {
        long = l;
        few = omega arith;
        some = sym (any_none (λ i. sender P st (list i)));
        told = λ j h. absurd (omega arith);
        all = λ i h. absurd (omega arith);
      }

  module _ (i made : ℕ) (words : List ℕ) (t : Turns P st list i made words) where
    -- a node that does not send
    pub turns-past : sender P st (list i) ≡ false → Turns P st list (i + 1) made words
    turns-past s =
        record {
          long = t.long;
          few = omega (arith, t.few);
          some = sym (or-false (ltb 0 made)) ∙ any_next (λ j. sender P st (list j)) i _ _ t.some (sym s);
          told = λ j h. let r = t.told j h in (r.0, let l = r.1 in omega arith, r.2, r.3);
          all = λ j h y.
              ⊎_elim (λ l. t.all j l y) (λ l. let e : j ≡ i = omega arith in absurd (apart (sym y ∙ ap (λ (m : ℕ). sender P st (list m)) e ∙ s)))
              (order j i);
        }

    -- one that does takes a word
    pub turns_next : (w : ℕ) → i < plane → sender P st (list i) ≡ true → Turn P st (list i) w → Turns P st list (i + 1) (made + 1) (set words made w)
    turns_next w l s q =
        let here : get_or (set words made w) made 0 ≡ w = get_or-set_same words made w 0 (omega (arith, t.long, t.few)) in
        let kept : (x j : ℕ) → j < made → Turn P st x (get_or words j 0) → Turn P st x (get_or (set words made w) j 0)
        = λ x j h y. subst (λ (v : ℕ). Turn P st x v) (sym (get_or-set_other words made j w 0 (λ (e : j ≡ made). omega arith))) y in
        let new : Turn P st (list i) (get_or (set words made w) made 0) = subst (λ (v : ℕ). Turn P st (list i) v) (sym here) q in
        record {
          long = length-set words made w ∙ t.long;
          few = omega (arith, t.few);
          some = lt-ltb 0 (made + 1) (omega arith) ∙ sym (or-true (ltb 0 made)) ∙ any_next (λ j. sender P st (list j)) i _ _ t.some (sym s);
          told = λ j h.
              ⊎_elim (λ y. let r = t.told j y in (r.0, let b = r.1 in omega arith, r.2, kept (list r.0) j y r.3))
              (λ y. let e : made ≡ j = omega arith in (i, omega arith, s, subst (λ (m : ℕ). Turn P st (list i) (get_or (set words made w) m 0)) e new))
              (order j made);
          all = λ j h y.
              ⊎_elim (λ b. let r = t.all j b y in (r.0, let c = r.1 in omega arith, kept (list j) r.0 r.1 r.2))
              (λ b. let e : i ≡ j = omega arith in (made, omega arith, subst (λ (m : ℕ). Turn P st (list m) (get_or (set words made w) made 0)) e new))
              (order j i);
        }

-- LAID DOWN: where a place is named, one of its new values stands
laid_one : (place new : ℕ → ℕ) (l : List ℕ) (x c : ℕ) → ((i : ℕ) → i < c → place i < length l)
    → ((i : ℕ) × (i < c) × (place i ≡ x) × (get_or (laid place new c l) x 0 ≡ new i)) ⊎ (((i : ℕ) → i < c → place i ≡ x → ⊥) × (get_or (laid place new c l) x 0 ≡ get_or l x 0))
unfolding laid
laid_one place new l x zero low = inr (λ i h. absurd (omega arith), refl)
laid_one place new l x (suc c) low =
    let rest = laid place new c l in
    whether (eqb (place c) x)
    (λ t.
    let e : place c ≡ x = eqb-true _ _ t in
    let b : x < length rest = omega (arith, length-laid place new c l, low c (omega arith)) in
    inl (c, omega arith, e, rw e (get_or-set_same rest x (new c) 0 b)))
    (λ t.
    let d = eqb-false (place c) x t in
    let same = get_or-set_other rest (place c) x (new c) 0 (λ e. d (sym e)) in
    ⊎_elim (λ r. inl (r.0, let h = r.1 in omega arith, r.2, same ∙ r.3))
    (λ r. inr (λ i h e. ⊎_elim (λ b. r.0 i b e) (λ b. let q : i ≡ c = omega arith in d (ap place (sym q) ∙ e)) (order i c), same ∙ r.1))
    (laid_one place new l x c (λ i h. low i (omega arith))))

module _ (P : Plan) (nodes first : List ℕ) (count : ℕ) (list : ℕ → ℕ) (made : ℕ) (words : List ℕ) (t : Turns P (state_of nodes [] first) list count made words) where
  abbrev places : ℕ → ℕ
  places j = edge_in (get_or words j 0)

  abbrev news : ℕ → ℕ
  news j = number_in (get_or words j 0)

  pub turns-low : (j : ℕ) → j < made → edge_in (get_or words j 0) < planes
  turns-low j h = (t.told j h).3.low

  pub flipped-all : length first ≡ planes → Flipped P (state_of nodes [] first) count list (ltb 0 made) (laid places news made first)
  flipped-all l =
      record {
        long = length-laid places news made first ∙ l;
        some = t.some;
        growth = λ e. laid-stays growth_of places news first 0 e made (λ j h p. (t.told j h).3.growth ∙ ap (λ (y : ℕ). growth_of (get_or first y 0)) p);
        correction = λ e.
            ⊎_elim
            (λ r.
            let q = t.told r.0 r.1 in
            inl (q.0, q.1, q.2, sym q.3.edge-back ∙ r.2, ap correction_of r.3 ∙ q.3.correction))
            (λ r. inr (λ i h s p. let q = t.all i h s in r.0 q.0 q.1 (q.2.edge-back ∙ p), ap correction_of r.1))
            (laid_one places news first e made (λ j h. rw l (turns-low j h)));
      }
