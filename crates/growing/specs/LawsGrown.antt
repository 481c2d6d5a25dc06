-- Laws of grow by entries: halves that an edge gains, one node's edge in a direction, and the turns of the loops. Assumes nothing.
use Rattle.std.specs.Prelude.{ℕ, zero, suc, ◌+◌, ◌*◌, ◌/◌, ◌≤◌, ◌<◌, min, ◌≡◌, Bool, true, false, List, eqb, length, get_or, set}
use Rattle.std.proofs.Common.{add-one, arith, ap, ap₂, sym, ◌∙◌, subst, eqb-true, eq-eqb, ne_eqb, length-set, get_or-set_same, get_or-set_other}
use Rattle.std.proofs.Math.Path.{refl}
use Rattle.std.proofs.lemmas.Bool.{eqb-false}
use Rattle.refusal.specs.Laws.{undone}
use Rattle.shape.specs.Choice.{if, if-true, if-false, whether}
use Rattle.window.specs.Lists.{bit}
use Rattle.flat.specs.Codes.{growth_of, correction_of, no_edge}
use Rattle.flat.specs.Entries.{planes, within, over_by}
use Rattle.flat.specs.Bounds.{edge-low, node-low}
use Rattle.flat.specs.LawsEntries.{inside}
use Rattle.flat.specs.Plan.{Plan, plan_of, Safe}
use Rattle.flat.specs.Step.{named, list_at}
use Rattle.flat.specs.declared.Sizes.{Sizes}
use Rattle.queue.specs.Queue.{Queue, Extends, Pushed}
use Rattle.queue.specs.LawsNamed.{extends-none, extends-named, extends-on}
use Rattle.growing.specs.Grown.{raised, hits_in, edges_of, hits_of, Leads, Opener, Raised}

-- AN EDGE'S HALVES

module _ (v h : ℕ) where
  there : (growth_of v ≡ 3 → ⊥) → raised v h ≡ 4 * (v / 4) + min 2 (growth_of v + h)
  there n = ap (λ (g : ℕ). 4 * (v / 4) + g) (if-false (eqb (growth_of v) no_edge) (growth_of v) (min 2 (growth_of v + h)) (ne_eqb (growth_of v) no_edge n))

  none : growth_of v ≡ 3 → raised v h ≡ 4 * (v / 4) + 3
  none e = ap (λ (g : ℕ). 4 * (v / 4) + g) (if-true (eqb (growth_of v) no_edge) (growth_of v) (min 2 (growth_of v + h)) (eq-eqb (growth_of v) no_edge e) ∙ e)

  abbrev Cases : Type 0 → Type 0
  Cases A = (growth_of v ≡ 3 → raised v h ≡ 4 * (v / 4) + 3 → A) → ((growth_of v ≡ 3 → ⊥) → raised v h ≡ 4 * (v / 4) + min 2 (growth_of v + h) → A) → A

  by_cases : {A : Type 0} → Cases A
  by_cases f g = whether (eqb (growth_of v) 3) (λ t. let e = eqb-true _ _ t in f e (none e)) (λ t. let n = eqb-false _ _ t in g n (there n))

  pub raised-growth : growth_of (raised v h) ≡ if (eqb (growth_of v) no_edge) (growth_of v) (min 2 (growth_of v + h))
  raised-growth = whether (eqb (growth_of v) 3) (λ t. let e = eqb-true (growth_of v) 3 t in rw t (omega arith)) (λ t. rw t (omega arith))

  raised-same : raised v h / 4 ≡ v / 4
  raised-same = by_cases (λ e r. omega arith) (λ n r. omega arith)

  pub raised-correction : correction_of (raised v h) ≡ correction_of v
  raised-correction = ap (λ (x : ℕ). eqb x 1) raised-same

  -- a full edge, and no edge
  pub raised-full : 2 ≤ growth_of v → raised v h ≡ v
  raised-full l = by_cases (λ e r. omega arith) (λ n r. omega arith)

  pub raised-none : eqb (growth_of (raised v h)) no_edge ≡ eqb (growth_of v) no_edge
  raised-none =
      by_cases (λ e r. let a : growth_of (raised v h) ≡ 3 = omega arith in ap (λ (x : ℕ). eqb x 3) (a ∙ sym e))
      (λ n r. let a : growth_of (raised v h) ≤ 2 = omega arith in ne_eqb (growth_of (raised v h)) 3 (λ (e : growth_of (raised v h) ≡ 3). omega arith) ∙ sym (ne_eqb (growth_of v) 3 n))

pub raised-zero : (v : ℕ) → raised v 0 ≡ v
raised-zero v = by_cases v 0 (λ e r. omega arith) (λ n r. omega arith)

pub raised-one : (v : ℕ) → growth_of v < 2 → raised v 1 ≡ v + 1
raised-one v l = by_cases v 1 (λ e r. absurd (omega arith)) (λ n r. omega arith)

pub raised-sum : (v a b : ℕ) → raised (raised v a) b ≡ raised v (a + b)
raised-sum v a b =
    by_cases v a
    (λ e r. by_cases (raised v a) b (λ e' r'. by_cases v (a + b) (λ x y. omega arith) (λ x y. absurd (x e))) (λ n' r'. absurd (omega arith)))
    (λ n r. by_cases (raised v a) b (λ e' r'. absurd (omega arith)) (λ n' r'. by_cases v (a + b) (λ x y. absurd (n x)) (λ x y. omega arith)))

-- HOW OFTEN

module _ (place : ℕ → ℕ) (c e : ℕ) where
  pub hits_more : hits_in place (c + 1) e ≡ hits_in place c e + bit (eqb (place c) e)
  unfolding hits_in
  hits_more = rw (add-one c)

pub hits-none : (place : ℕ → ℕ) (e : ℕ) → 0 ≡ hits_in place 0 e
unfolding hits_in
hits-none place e = refl

pub hits-same : (place place' : ℕ → ℕ) (c e e' : ℕ) → ((i : ℕ) → i < c → eqb (place i) e ≡ eqb (place' i) e') → hits_in place c e ≡ hits_in place' c e'
unfolding hits_in
hits-same place place' zero e e' q = refl
hits-same place place' (suc c) e e' q = ap₂ (λ (a : ℕ) (b : Bool). a + bit b) (hits-same place place' c e e' (λ i l. q i (omega arith))) (q c (omega arith))

module _ (P : Plan) (list : ℕ → ℕ) (listed : ℕ) where
  pub all_more : (k e : ℕ) → hits_of P list listed (k + 1) e ≡ hits_of P list listed k e + hits_in (edges_of P list k) listed e
  unfolding hits_of
  all_more k e = rw (add-one k)

  pub all_none : (e : ℕ) → 0 ≡ hits_of P list listed 0 e
  unfolding hits_of
  all_none e = refl

-- EDGES ONE AFTER THE OTHER

module _ (P : Plan) (n : ℕ) where
  pub raised-start : (hits : ℕ → ℕ) → ((e : ℕ) → 0 ≡ hits e) → (edges : List ℕ) (count : ℕ) (lists : List ℕ) (queued : List Bool) → Queue 0 count lists queued
      → Raised P n hits edges edges count count lists lists queued
  raised-start hits z edges count lists queued q =
      record {
        long = refl;
        gains = λ e l. sym (ap (raised (get_or edges e 0)) (sym (z e)) ∙ raised-zero (get_or edges e 0));
        queue = q;
        extends = extends-none 0 count lists;
        places = λ p. p;
        opened = λ e l f t. absurd (undone (sym t ∙ f));
      }

  still : (count more : ℕ) (old lists : List ℕ) → Extends 0 count more old lists → (e : ℕ) → Opener P n count old e → Opener P n more lists e
  still count more old lists x e o =
      let s = extends-named 0 count more old lists x in
      record { node = o.node; way = o.way; inside = o.inside; low = o.low; edge = o.edge; here = s o.node o.here; there = s (over_by o.node (P.off o.way)) o.there }

  raised-on : (hits hits' hits'' : ℕ → ℕ) (edges edges' edges'' : List ℕ) (count more most : ℕ) (old lists lists' : List ℕ) (queued queued' : List Bool)
      → ((e : ℕ) → hits'' e ≡ hits e + hits' e) → Raised P n hits edges edges' count more old lists queued → Raised P n hits' edges' edges'' more most lists lists' queued'
      → Raised P n hits'' edges edges'' count most old lists' queued'
  raised-on hits hits' hits'' edges edges' edges'' count more most old lists lists' queued queued' q R S =
      record {
        long = S.long ∙ R.long;
        gains = λ e l. S.gains e l ∙ ap (λ (v : ℕ). raised v (hits' e)) (R.gains e l) ∙ raised-sum (get_or edges e 0) (hits e) (hits' e) ∙ ap (raised (get_or edges e 0)) (sym (q e));
        queue = S.queue;
        extends = extends-on 0 count more old lists R.extends most lists' S.extends;
        places = λ p. S.places (R.places p);
        opened = λ e l f t.
            whether (eqb (growth_of (get_or edges' e 0)) 2)
            (λ u. still more most lists lists' S.extends e (R.opened e l f u))
            (λ u. S.opened e l u t);
      }

  -- where an edge is stays
  pub leads-on : (hits : ℕ → ℕ) (edges edges' : List ℕ) (count more : ℕ) (old lists : List ℕ) (queued : List Bool) → ((x k : ℕ) → within n x ≡ true → k < P.dirs → over_by x (P.slot k) < planes)
      → Raised P n hits edges edges' count more old lists queued → Leads P n (λ e. growth_of (get_or edges e 0)) → Leads P n (λ e. growth_of (get_or edges' e 0))
  leads-on hits edges edges' count more old lists queued low R L x k w l f =
      let e = over_by x (P.slot k) in
      L x k w l (sym (raised-none (get_or edges e 0) (hits e)) ∙ ap (λ (v : ℕ). eqb (growth_of v) no_edge) (sym (R.gains e (low x k w l))) ∙ f)

-- ONE NODE'S EDGE in a direction

module _ (P : Plan) (n x k : ℕ) (edges : List ℕ) (count : ℕ) (old : List ℕ) (queued : List Bool) (size : length edges ≡ planes) (q : Queue 0 count old queued)
    (e : ℕ) (pe : e ≡ over_by x (P.slot k)) (low : e < planes) (t : ℕ) (pt : t ≡ growth_of (get_or edges e 0)) where
  abbrev hit : ℕ → ℕ
  hit c = bit (eqb (over_by x (P.slot k)) c)

  abbrev v : ℕ
  v = get_or edges e 0

  hit-here : hit e ≡ 1
  hit-here = ap bit (eq-eqb _ _ (sym pe))

  hit-else : (c : ℕ) → (c ≡ e → ⊥) → hit c ≡ 0
  hit-else c d = ap bit (ne_eqb _ _ (λ s. d (sym s ∙ sym pe)))

  -- at the edge and elsewhere
  at_all : (edges' : List ℕ) → get_or edges' e 0 ≡ raised v 1 → ((c : ℕ) → (c ≡ e → ⊥) → get_or edges' c 0 ≡ get_or edges c 0) → (c : ℕ) → get_or edges' c 0 ≡ raised (get_or edges c 0) (hit c)
  at_all edges' a b c =
      whether (eqb c e)
      (λ s. let y : c ≡ e = eqb-true _ _ s in rw y (a ∙ ap (raised v) (sym hit-here)))
      (λ s. let y = eqb-false c e s in b c y ∙ sym (ap (raised (get_or edges c 0)) (hit-else c y) ∙ raised-zero (get_or edges c 0)))

  pub edge-full : 2 ≤ t → Raised P n hit edges edges count count old old queued
  edge-full l =
      record {
        long = refl;
        gains = λ c h. at_all edges (sym (raised-full v 1 (omega arith))) (λ c d. refl) c;
        queue = q;
        extends = extends-none 0 count old;
        places = λ p. p;
        opened = λ c h f s. absurd (undone (sym s ∙ f));
      }

  module _ (more : t < 2) (new : ℕ) (pn : new ≡ v + 1) where
    abbrev edges' : List ℕ
    edges' = set edges e new

    at_edge : get_or (set edges e new) e 0 ≡ v + 1
    at_edge = get_or-set_same edges e new 0 (omega arith) ∙ pn

    else : (c : ℕ) → (c ≡ e → ⊥) → get_or (set edges e new) c 0 ≡ get_or edges c 0
    else c d = get_or-set_other edges e c new 0 d

    gains : (c : ℕ) → c < planes → get_or (set edges e new) c 0 ≡ raised (get_or edges c 0) (hit c)
    gains c h = at_all (set edges e new) (at_edge ∙ sym (raised-one v (omega arith))) else c

    -- only this edge can open
    only : (c : ℕ) → eqb (growth_of (get_or edges c 0)) 2 ≡ false → eqb (growth_of (get_or (set edges e new) c 0)) 2 ≡ true → c ≡ e
    only c f s = whether (eqb c e) (λ y. eqb-true _ _ y) (λ y. absurd (undone (sym s ∙ ap (λ (z : ℕ). eqb (growth_of z) 2) (else c (eqb-false c e y)) ∙ f)))

    pub edge-half : t ≡ 0 → Raised P n hit edges (set edges e new) count count old old queued
    edge-half z =
        record {
          long = length-set edges e new;
          gains = gains;
          queue = q;
          extends = extends-none 0 count old;
          places = λ p. p;
          opened = λ c h f s.
              let y = only c f s in
              let g : growth_of (get_or (set edges e new) c 0) ≡ 2 = eqb-true _ _ s in
              let a : get_or (set edges e new) c 0 ≡ v + 1 = ap (λ (i : ℕ). get_or (set edges e new) i 0) y ∙ at_edge in
              absurd (omega arith);
        }

    pub edge-opens : (t ≡ 0 → ⊥) → within n x ≡ true → k < P.dirs → Leads P n (λ c. growth_of (get_or edges c 0)) → (j : ℕ) → j ≡ over_by x (P.off k)
        → (some most : ℕ) (lists lists' : List ℕ) (queued' queued'' : List Bool) → Pushed x 0 count some old lists queued' → Pushed j 0 some most lists lists' queued''
        → Raised P n hit edges (set edges e new) count most old lists' queued''
    edge-opens z w m L j pj some most lists lists' queued' queued'' A B =
        let none = ne_eqb (growth_of v) no_edge (λ (s : growth_of v ≡ 3). omega arith) in
        let to = L x k w m (ap (λ (c : ℕ). eqb (growth_of (get_or edges c 0)) no_edge) (sym pe) ∙ none) in
        record {
          long = length-set edges e new;
          gains = gains;
          queue = B.queue;
          extends = extends-on 0 count some old lists A.extends most lists' B.extends;
          places = λ p. B.places n (ap (within n) pj ∙ to) (A.places n w p);
          opened = λ c h f s.
              record {
                node = x;
                way = k;
                inside = w;
                low = m;
                edge = sym pe ∙ sym (only c f s);
                here = extends-named 0 some most lists lists' B.extends x A.self;
                there = subst (λ (i : ℕ). named (list_at lists' 0) most i ≡ true) pj B.self;
              };
        }

-- THE LOOPS: a node more, and a direction more

module _ (P : Plan) (n k : ℕ) (list : ℕ → ℕ) (i : ℕ) (edges now next : List ℕ) (count some most : ℕ) (old lists lists' : List ℕ) (queued queued' : List Bool) where
  pub way_next : (x : ℕ) → x ≡ list i → Raised P n (hits_in (edges_of P list k) i) edges now count some old lists queued
      → Raised P n (λ c. bit (eqb (over_by x (P.slot k)) c)) now next some most lists lists' queued'
      → Raised P n (hits_in (edges_of P list k) (i + 1)) edges next count most old lists' queued'
  way_next x p R S =
      raised-on P n (hits_in (edges_of P list k) i) (λ c. bit (eqb (over_by x (P.slot k)) c)) (hits_in (edges_of P list k) (i + 1)) edges now next count some most old lists lists' queued queued'
      (λ c. hits_more (edges_of P list k) i c ∙ ap (λ (y : ℕ). hits_in (edges_of P list k) i c + bit (eqb (over_by y (P.slot k)) c)) (sym p)) R S

module _ (P : Plan) (n k : ℕ) (list list' : ℕ → ℕ) (listed : ℕ) (edges now next : List ℕ) (count some most : ℕ) (old lists lists' : List ℕ) (queued queued' : List Bool) where
  pub ways_next : ((i : ℕ) → i < listed → list' i ≡ list i) → Raised P n (hits_of P list listed k) edges now count some old lists queued
      → Raised P n (hits_in (edges_of P list' k) listed) now next some most lists lists' queued'
      → Raised P n (hits_of P list listed (k + 1)) edges next count most old lists' queued'
  ways_next p R S =
      raised-on P n (hits_of P list listed k) (hits_in (edges_of P list' k) listed) (hits_of P list listed (k + 1)) edges now next count some most old lists lists' queued queued'
      (λ c. all_more P list listed k c ∙ ap (λ (y : ℕ). hits_of P list listed k c + y) (hits-same (edges_of P list k) (edges_of P list' k) listed c c (λ i l. ap (λ (y : ℕ). eqb (over_by y (P.slot k)) c) (sym (p i l))))) R S

-- WHAT IS READ stands in the arrays

module _ (z : Sizes) (table : List ℕ) (S : Safe z table) (x k : ℕ) (w : within z.nodes x ≡ true) (l : k < z.dirs) where
  pub node-bounds : (512 ≤ x) × (x < 4608)
  node-bounds = let r = inside z.nodes x w in let r1 = r.1 in let s = S.nodes in (r.0, omega arith)

  pub edge_in_lem : over_by x ((plan_of z table).slot k) < planes
  edge_in_lem = let r = inside z.nodes x w in let d = S.dirs in edge-low z table S x k r.0 r.1 (omega arith)

  pub node_in_lem : over_by x ((plan_of z table).off k) < 4608
  node_in_lem = let r = inside z.nodes x w in let d = S.dirs in node-low z table S x k r.0 r.1 (omega arith)
