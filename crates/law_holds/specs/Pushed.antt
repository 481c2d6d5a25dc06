-- MERGING: what a step conserves at a detector of the window, its defect and the correction bits around it. Assumes nothing.
use Rattle.std.specs.Prelude.{ℕ, ◌+◌, ◌-◌, ◌≤◌, ◌<◌, ◌≡◌, refl, Bool, true, false, ◌&&◌, List, eqb, length, get_or}
use Rattle.std.proofs.Common.{arith, sym, ◌∙◌, ap, subst, ⊎_elim, eq-eqb, ne_eqb}
use Rattle.std.proofs.Math.Path.{ap₂}
use Rattle.std.proofs.Math.Bool.{not}
use Rattle.shape.specs.Choice.{if-true, if-false, tell}
use Rattle.shape.specs.Ranges.{Ranged}
use Rattle.shape.specs.Sizes.{boundary}
use Rattle.shape.specs.Nodes.{index_of}
use Rattle.shape.proofs.LawsIndex.{index-place}
use Rattle.steps.specs.Steps.{Table, step, across, slot, namer, naming_end}
use Rattle.steps.specs.Joins.{Joins}
use Rattle.steps.specs.Proper.{Points, points}
use Rattle.shape.specs.declared.Place.{Place}
use Rattle.window.specs.Lists.{xor}
use Rattle.window.specs.LawsLists.{and_no}
use Rattle.window.specs.Window.{is_merging, size, supplied, present, at, place, detector, to}
use Rattle.steps.specs.Suited.{Suited, namer-is, namer-back}
use Rattle.window.specs.Merging.{pushes, sends, hot, flipped, seen, stepped, step_at, merged}
use Rattle.window.specs.declared.Seen.{Seen}
use Rattle.window.specs.declared.Window.{Window}
use Rattle.closure.specs.States.{merging-led}
use Rattle.closure.specs.Edges.{edge, edge-there, edge_to}
use Rattle.closure.specs.Facts.{Pointing, centre, along, Facts, index-within, present-within}
use Rattle.closure.specs.Sight.{sight, seen-edge, seen_none}
use Rattle.closure.specs.After.{merged-at, flipped-slot}
use Rattle.law.specs.Bits.{xor-laws}
use Rattle.law_holds.specs.Sums.{arrivals-sum, parity, parity-xor, parity-same, parity-none, parity-only}
use Rattle.law_holds.specs.Nodes.{defects}
use Rattle.closure.specs.Ways.{node-detector, there_back, node-back}
use Rattle.law_holds.specs.LayerEnds.{named-joins}

-- WHAT IS SENT, over K directions: along none, or along one that is there

module _ (t : ℕ → Bool) (b : Bool) (v K : ℕ) where
  sent-none : v ≡ 0 → parity K (λ x. t x && (b && eqb v (x + 1))) ≡ b && not (eqb v 0)
  sent-none e =
      parity-none _ K (λ x l. let z : v ≡ x + 1 → ⊥ = λ y. omega arith in and_no (t x) _ (and_no b _ (ne_eqb v (x + 1) z)))
      ∙ sym (and_no b _ (ap not (eq-eqb v 0 e)))

  sent-one : 1 ≤ v → v ≤ K → t (v - 1) ≡ true → parity K (λ x. t x && (b && eqb v (x + 1))) ≡ b && not (eqb v 0)
  sent-one lo hi there =
      let m : v - 1 < K = omega arith in
      let e : v ≡ v - 1 + 1 = omega arith in
      let p : v ≡ 0 → ⊥ = λ y. omega arith in
      parity-only (λ x. t x && (b && eqb v (x + 1))) K (v - 1) m
      (λ x l n. let z : v ≡ x + 1 → ⊥ = λ y. n (omega arith) in and_no (t x) _ (and_no b _ (ne_eqb v (x + 1) z)))
      ∙ ap₂ (λ (x y : Bool). x && (b && y)) there (eq-eqb v (v - 1 + 1) e ∙ sym (ap not (ne_eqb v 0 p)))

-- A STEP FROM A NODE

module _ (T : Table) (w : Window) where
  abbrev h : ℕ
  h = w.shape.height

  abbrev d : ℕ
  d = w.shape.distance

  abbrev there : ℕ
  there = present w

  -- over an edge is seen the node across, which may push back
  module _ (g v : ℕ) (t : (to w T v g).there ≡ true) (k : ℕ) (e : k + 1 ≡ v) where
    seen-way : seen T w g k ≡ sight T w g v
    seen-way = seen-edge T w g k (rw e t) ∙ ap (sight T w g) e

    seen-pushes : let u = (to w T v g).node in (seen T w g k).pushes ≡ pushes (detector w u) (at w u) (step T v).back
    seen-pushes = ap (λ (x : Seen). x.pushes) seen-way ∙ ap (λ (b : Bool). pushes b (at w (to w T v g).node) (step T v).back) (node-detector T w g v t)

  -- THE SLOT OF AN EDGE

  module _ (S : Suited T) (r : Ranged h d) (g v : ℕ) (t : (to w T v g).there ≡ true) where
    abbrev q : Place
    q = place w g

    abbrev old : Bool
    old = get_or w.correction (slot T h d v q) false

    j : Joins h d there (step T v) q
    j = edge T h d there v q t

    pointed : Points T v
    pointed = points T v j.moves

    -- as node n, which names it in direction p, flips it
    flips : (n p : ℕ) → index_of h d (naming_end T v q) ≡ n → namer T (step T v).kind ≡ p
        → get_or (merged T w).correction (slot T h d v q) false ≡ flipped old (detector w n) (at w n) p (seen T w n (p - 1))
    unfolding slot
    flips n p e x =
        let m = naming_end T v q in
        flipped-slot T w (index_of h d m) (step T v).kind (index-within h d r m (present-within h d w.next m (named-joins T S h d there q v j).from)) (S.proper.opposed v pointed).kind
        ∙ ap₂ (λ (n p : ℕ). flipped old (detector w n) (at w n) p (seen T w n (p - 1))) e x

    abbrev Flips : ℕ → Type 0
    Flips k = get_or (merged T w).correction (slot T h d v q) false ≡ xor (xor old (pushes (detector w g) (at w g) v)) (seen T w g k).pushes

    -- from either end: flipped by each end that pushes along it
    flipped-own : (k : ℕ) → k + 1 ≡ v → (step T v).own ≡ true → Flips k
    flipped-own k e o =
        let y : v - 1 ≡ k = omega arith in
        flips g v (ap (λ (x : Place). index_of h d x) (if-true (step T v).own q (across (step T v) q) o) ∙ index-place h d g) (namer-is T S v pointed o)
        ∙ ap (λ (n : ℕ). flipped old (detector w g) (at w g) v (seen T w g n)) y
        ∙ if-true (seen T w g k).there _ old (ap (λ (x : Seen). x.there) (seen-way g v t k e))

    flipped-other : (k : ℕ) → k + 1 ≡ v → (step T v).own ≡ false → Flips k
    flipped-other k e o =
        let u = (to w T v g).node in
        let b = (step T v).back in
        let O = S.proper.opposed v pointed in
        let t' = there_back T w g v t S in
        let b1 : b - 1 + 1 ≡ b = let l = O.back.0 in omega arith in
        flips u b (ap (λ (x : Place). index_of h d x) (if-false (step T v).own q (across (step T v) q) o) ∙ sym (edge_to T h d there v q j)) (namer-back T S v pointed o)
        ∙ if-true (seen T w u (b - 1)).there _ old (ap (λ (x : Seen). x.there) (seen-way u b t' (b - 1) b1))
        ∙ last old (pushes (detector w u) (at w u) b) (seen T w u (b - 1)).pushes
        ∙ ap₂ (λ (x y : Bool). xor (xor old x) y)
        (seen-pushes u b t' (b - 1) b1 ∙ ap₂ (λ (n i : ℕ). pushes (detector w n) (at w n) i) (node-back T w g v t S) O.again)
        (sym (seen-pushes g v t k e))
      where
        last : (a b c : Bool) → xor (xor a b) c ≡ xor (xor a c) b
        last a b c = simp xor-laws

    flipped-is : (k : ℕ) → k + 1 ≡ v → Flips k
    flipped-is k e = ⊎_elim (flipped-own k e) (flipped-other k e) (tell (step T v).own)

  -- A DETECTOR

  module _ (S : Suited T) (f : Facts T w) (st : is_merging w.stage ≡ true) (g : ℕ) (l : g < size w) (det : boundary d (place w g).column ≡ false) where
    abbrev K : ℕ
    K = length T.steps

    abbrev there_at : ℕ → Bool
    there_at x = (to w T (x + 1) g).there

    abbrev bit_at : List Bool → ℕ → Bool
    bit_at correction x = there_at x && get_or correction (slot T h d (x + 1) (place w g)) false

    abbrev push_at : ℕ → Bool
    push_at x = there_at x && pushes (detector w g) (at w g) (x + 1)

    -- a direction's bit
    bit-after : (x : ℕ) → bit_at (merged T w).correction x ≡ xor (xor (bit_at w.correction x) (push_at x)) (seen T w g x).pushes
    bit-after x = ⊎_elim yes no (tell (there_at x))
      where
        yes : there_at x ≡ true → bit_at (merged T w).correction x ≡ xor (xor (bit_at w.correction x) (push_at x)) (seen T w g x).pushes
        yes t = let e = flipped-is S f.ranged g (x + 1) t x refl in rw t e

        no : there_at x ≡ false → bit_at (merged T w).correction x ≡ xor (xor (bit_at w.correction x) (push_at x)) (seen T w g x).pushes
        no t = let e = seen_none T w g x t in rw (t, e)

    -- its own push goes along one direction, if along any
    pushes-once : parity K push_at ≡ sends (detector w g) (at w g)
    pushes-once = go (subst (λ (k : ℕ). Pointing T h d k (place w g) (at w g).pointer) (ap (supplied d w.next) (merging-led d w.stage st)) (f.nodes g l).pointer)
      where
        go : Pointing T h d there (place w g) (at w g).pointer → parity K push_at ≡ sends (detector w g) (at w g)
        go (centre e) = sent-none there_at (hot (detector w g) (at w g)) (at w g).pointer K e
        go (along j) =
            let v = (at w g).pointer in
            let i = points T v j.moves in
            let lo = i.0 in
            let e : v - 1 + 1 ≡ v = omega arith in
            sent-one there_at (hot (detector w g) (at w g)) v K i.0 i.1 (ap (λ (n : ℕ). (to w T n g).there) e ∙ edge-there T h d there v (place w g) j)

    -- its defect
    defect-after : (at (merged T w) g).defect ≡ xor (xor (at w g).defect (sends (detector w g) (at w g))) (parity K (λ x. (seen T w g x).pushes))
    unfolding step_at stepped
    defect-after =
        defects (merged-at T w g l)
        ∙ ap₂ (λ (x y : Bool). xor (xor (at w g).defect (sends (detector w g) (at w g))) (x && y)) (ap not det) (arrivals-sum (seen T w g) K)

    pub pushed : xor (parity K (bit_at (merged T w).correction)) (at (merged T w) g).defect ≡ xor (parity K (bit_at w.correction)) (at w g).defect
    pushed =
        ap₂ (λ (x y : Bool). xor x y)
        (parity-same (bit_at (merged T w).correction) (λ x. xor (xor (bit_at w.correction x) (push_at x)) (seen T w g x).pushes) K (λ x m. bit-after x)
        ∙ parity-xor (λ x. xor (bit_at w.correction x) (push_at x)) (λ x. (seen T w g x).pushes) K
        ∙ ap (λ (b : Bool). xor b (parity K (λ x. (seen T w g x).pushes))) (parity-xor (bit_at w.correction) push_at K ∙ ap (λ (b : Bool). xor (parity K (bit_at w.correction)) b) pushes-once))
        defect-after
        ∙ cancels (parity K (bit_at w.correction)) (sends (detector w g) (at w g)) (parity K (λ x. (seen T w g x).pushes)) (at w g).defect
      where
        cancels : (a b c e : Bool) → xor (xor (xor a b) c) (xor (xor e b) c) ≡ xor a e
        cancels a b c e = simp xor-laws
