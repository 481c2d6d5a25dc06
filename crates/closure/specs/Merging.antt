-- MERGING keeps a window well-formed. Assumes nothing.
use Rattle.std.specs.Prelude.{ℕ, ◌+◌, ◌-◌, ◌*◌, ◌≤◌, ◌<◌, ◌≡◌, Bool, ◌&&◌, List, get_or}
use Rattle.std.proofs.Common.{arith, sym, ◌∙◌, ⊎_elim, ltb-true, lt-ltb}
use Rattle.std.proofs.Math.Path.{refl, ap, subst}
use Rattle.std.proofs.Math.Bool.{true, false, not}
use Rattle.std.proofs.Math.ListN.{length}
use Rattle.refusal.specs.Laws.{undone}
use Rattle.shape.specs.Choice.{if, if-false, tell}
use Rattle.shape.proofs.Ranges.{halves}
use Rattle.shape.specs.Sizes.{sheets_of, boundary, nodes_in}
use Rattle.shape.specs.Nodes.{number_of}
use Rattle.steps.specs.Steps.{Table, namer, slot_in}
use Rattle.window.specs.Lists.{by_place, any, xor}
use Rattle.window.specs.Window.{alone, is_rest, is_merging, size, supplied, led_to, present, pointed, at, place, detector, to}
use Rattle.steps.specs.Suited.{Suited}
use Rattle.window.specs.Merging.{nothing, synced_active, arrivals, scan, flooded, synced_defect, flipped, floods, stepped, seen, step_at, flipped_slot, merged}
use Rattle.window.specs.Formed.{mark_fits, unused_node, well_formed}
use Rattle.window.specs.declared.Mark.{Mark}
use Rattle.window.specs.declared.Mark.TheVariants.{Reset, Root}
use Rattle.window.specs.declared.Stage.{Stage}
use Rattle.window.specs.declared.Stage.TheVariants.{Rest, Merging}
use Rattle.window.specs.declared.Node.{Node}
use Rattle.window.specs.declared.Seen.{Seen}
use Rattle.window.specs.declared.Window.{Window}
use Rattle.closure.specs.Lists.{all-over, any_at, either}
use Rattle.closure.specs.States.{merging-led}
use Rattle.closure.specs.Sized.{Sized, nodes-over, correction-over}
use Rattle.closure.specs.Edges.{edge, edge-absent}
use Rattle.closure.specs.Facts.{Pointing, centre, along, Fits, Slot, Facts, facts, formed, own-lt, node-within, SlotOf}
use Rattle.closure.specs.Sight.{seen-edge, seen_none, seen-there, seen-grown}
use Rattle.closure.specs.After.{merged-at, flipped-slot}
use Rattle.closure.specs.Scan.{Good, floods-good, scan-none, arrivals-none}

-- MARKS

mark-lt : (stage : Stage) (N : ℕ) (m : Mark) → mark_fits stage N m ≡ true → (v : ℕ) → m ≡ Root v → v < N
mark-lt stage N Reset e v r = let z : ◌≡◌ {A = ℕ} 0 1 = cc in absurd (omega arith)
mark-lt stage N (Root m) e v r = let z : m ≡ v = cc in rw (← z) (ltb-true m N e)

mark-by : (stage : Stage) (N : ℕ) (m : Mark) → (m ≡ Reset → is_merging stage ≡ true) → ((v : ℕ) → m ≡ Root v → v < N) → mark_fits stage N m ≡ true
mark-by stage N Reset p q = p refl
mark-by stage N (Root m) p q = lt-ltb m N (q m refl)

-- DEFECTS: on a boundary nothing is sent, and nothing arrives

still : (d : Bool) → not d ≡ true → not (xor (xor d false) false) ≡ true
still false e = refl
still true e = e

synced : (b : Bool) (n : Node) (ss : List Seen) → not (b && n.defect) ≡ true → not (b && synced_defect (not b) n ss) ≡ true
synced false n ss e = refl
synced true n ss e = still n.defect e

-- stage merging, or rest
merging-or-rest : (b : Bool) → b ≡ true → is_merging (if b Merging Rest) ≡ true
merging-or-rest b e = rw e

-- a fresh node that sees no edge
fresh_step : (own : ℕ) (b : Bool) (ss : List Seen) → scan ss 0 false 0 false own ≡ flooded false 0 (Root own) false → arrivals ss false ≡ false
    → (stepped own b (alone own false) ss).node ≡ alone own false
unfolding stepped floods synced_active
fresh_step own true ss s a = rw (s, a)
fresh_step own false ss s a = rw s

module _ (T : Table) (w : Window) where
  abbrev after : Stage
  after = if (any (size w) (λ g. (step_at T w g).busy)) Merging Rest

  -- an edge of growth 2 is one
  grown-there : (g k : ℕ) → (seen T w g k).grown ≡ true → (to w T (k + 1) g).there ≡ true
  grown-there g k e = (halves _ _ (sym (seen-grown T w g k) ∙ e)).0

  module _ (f : Facts T w) (st : is_merging w.stage ≡ true) where
    abbrev h : ℕ
    h = w.shape.height

    abbrev d : ℕ
    d = w.shape.distance

    abbrev numbers : ℕ
    numbers = nodes_in h d (sheets_of d + 1)

    led-after : supplied d w.next (led_to d after) ≡ present w
    led-after = go (any (size w) (λ g. (step_at T w g).busy))
      where
        go : (b : Bool) → supplied d w.next (led_to d (if b Merging Rest)) ≡ present w
        go true = refl
        go false = refl

    led-is : pointed w ≡ present w
    led-is = ap (supplied d w.next) (merging-led d w.stage st)

    module _ (g : ℕ) (l : g < size w) where
      abbrev P : ℕ → Type 0
      P p = Pointing T h d (present w) (place w g) p

      to-seen : (k : ℕ) → (seen T w g k).grown ≡ true → P (k + 1)
      to-seen k e = along (edge T h d (present w) (k + 1) (place w g) (grown-there g k e))

      -- an absent node sees no edge, and stays as it is
      module _ (m : present w ≤ (place w g).depth) where
        sees-nothing : (k : ℕ) → seen T w g k ≡ nothing
        sees-nothing k = seen_none T w g k (edge-absent T h d (present w) (k + 1) (place w g) m)

        absent-stays : (step_at T w g).node ≡ alone (number_of h d (place w g)) false
        unfolding step_at stepped floods synced_active by_place
        absent-stays =
            let K = length T.steps in
            let own = number_of h d (place w g) in
            let ss = by_place K (seen T w g) in
            let s = scan-none (seen T w g) false K 0 0 0 false own (λ j. ap (λ (x : Seen). x.grown) (sees-nothing j)) in
            let a = arrivals-none (seen T w g) K 0 (λ j. ap (λ (x : Seen). x.pushes) (sees-nothing j)) in
            ap (λ (n : Node). (stepped own (detector w g) n ss).node) ((f.nodes g l).absent m)
            ∙ fresh_step own (detector w g) ss s a

      seen-mark : (k v : ℕ) → (seen T w g k).grown ≡ true → (seen T w g k).mark ≡ Root v → v < numbers
      seen-mark k v e m =
          let t = grown-there g k e in
          let way = to w T (k + 1) g in
          mark-lt w.stage numbers (at w way.node).mark (f.nodes way.node (node-within T w f.ranged (k + 1) g t)).mark v
          (sym (ap (λ (s : Seen). s.mark) (seen-edge T w g k t)) ∙ m)

      good : Good P numbers (floods (number_of h d (place w g)) (at w g).unrooted (at w g).pointer (at w g).mark (by_place (length T.steps) (seen T w g)))
      good =
          let n = f.nodes g l in
          floods-good P numbers (centre refl) (seen T w g) to-seen seen-mark (number_of h d (place w g)) (at w g).unrooted (at w g).pointer (at w g).mark (length T.steps)
          (own-lt h d f.ranged g l)
          (subst (λ (k : ℕ). Pointing T h d k (place w g) (at w g).pointer) led-is n.pointer)
          (mark-lt w.stage numbers (at w g).mark n.mark)

      node-fits : Fits T after h d (present w) (supplied d w.next (led_to d after)) (place w g) (at (merged T w) g)
      unfolding step_at stepped
      node-fits =
          rw (merged-at T w g l)
          (record {
            mark = mark-by after numbers _ (λ e. merging-or-rest _ (any_at (λ i. (step_at T w i).busy) (size w) g l (either _ _ (either _ _ (good.reset e))))) good.marked;
            pointer = subst (λ (k : ℕ). Pointing T h d k (place w g) (step_at T w g).node.pointer) (sym led-after) good.pointer;
            absent = absent-stays;
            defect = synced (boundary d (place w g).column) (at w g) (by_place (length T.steps) (seen T w g)) (f.nodes g l).defect;
          })

    -- SLOTS: flipped only where there is an edge

    flipped-fits : (g p growth : ℕ) (old : Bool) → 1 ≤ p → Slot (to w T p g).there growth old
        → Slot (to w T p g).there growth (flipped old (detector w g) (at w g) p (seen T w g (p - 1)))
    flipped-fits g p growth old l s =
        let x : p - 1 + 1 ≡ p = omega arith in
        ⊎_elim (λ e. record { most = s.most; used = either _ _ e })
        (λ e. rw (if-false (seen T w g (p - 1)).there _ old (seen-there T w g (p - 1) ∙ ap (λ (i : ℕ). (to w T i g).there) x ∙ e)) s)
        (tell (to w T p g).there)

    slot-fits : Suited T → (g kind : ℕ) → g < size w → kind < T.kinds → SlotOf T w g kind w.growth (merged T w).correction
    slot-fits S g kind l m =
        let e = slot_in (size w) kind g in
        rw (flipped-slot T w g kind l m)
        (flipped-fits g (namer T kind) (get_or w.growth e 0) (get_or w.correction e false) (S.named kind m) (f.slots g kind l m))

    merged-facts : Suited T → Facts T (merged T w)
    unfolding merged
    merged-facts S =
        record {
          ranged = f.ranged;
          model = f.model;
          next = f.next;
          nodes = node-fits;
          slots = slot-fits S;
          unused_nodes = all-over unused_node (λ i. (step_at T w i).node) (size w) w.nodes f.unused_nodes;
          unused_growth = f.unused_growth;
          unused_correction = all-over not (flipped_slot T w) (T.kinds * size w) w.correction f.unused_correction;
          unused_measured = f.unused_measured;
        }

  pub merging : Suited T → well_formed T w ≡ true → is_merging w.stage ≡ true → well_formed T (merged T w) ≡ true
  merging S e st = formed T (merged T w) (merged-facts (facts T w e) st S)

  pub merging-sized : Sized T w → Sized T (merged T w)
  unfolding merged
  merging-sized s = record { nodes = nodes-over w T s (λ i. (step_at T w i).node); growth = s.growth; correction = correction-over w T s (flipped_slot T w); measured = s.measured }

  -- a merging step ends in stage merging or at rest
  pub merging-stage : is_rest (merged T w).stage ≡ false → is_merging (merged T w).stage ≡ true
  unfolding merged
  merging-stage = go (any (size w) (λ g. (step_at T w g).busy))
    where
      go : (b : Bool) → is_rest (if b Merging Rest) ≡ false → is_merging (if b Merging Rest) ≡ true
      go true e = refl
      go false e = absurd (undone e)
