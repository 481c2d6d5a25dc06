-- THE STEP AFTER A STEP, where pointers ride: they still do; a node that did not move, and whose neighbours over open edges did not, is quiet
-- in the next step; so a list of the nodes that moved and of their neighbours over open edges covers it. Assumes nothing.
use Rattle.std.specs.Prelude.{ℕ, ◌+◌, ◌-◌, ◌<◌, ◌≡◌, refl, Bool, length}
use Rattle.std.proofs.Math.Path.{sym, ap}
use Rattle.std.proofs.Common.{◌∙◌}
use Rattle.std.proofs.Math.Bool.{true, false}
use Rattle.refusal.specs.Laws.{undone}
use Rattle.shape.specs.Choice.{whether}
use Rattle.shape.specs.Nodes.{number_of}
use Rattle.shape.proofs.Ranges.{halves}
use Rattle.steps.specs.Steps.{Table, step}
use Rattle.steps.specs.Suited.{Suited}
use Rattle.window.specs.Lists.{by_place}
use Rattle.window.specs.Window.{is_merging, size, at, place, detector, to}
use Rattle.window.specs.Merging.{floods, stepped, seen, step_at, merged}
use Rattle.window.specs.declared.Mark.{Mark}
use Rattle.window.specs.declared.Mark.TheVariants.{Reset, Root}
use Rattle.window.specs.declared.Node.{Node}
use Rattle.window.specs.declared.Seen.{Seen}
use Rattle.window.specs.declared.Flooded.{Flooded}
use Rattle.window.specs.declared.Stepped.{Stepped}
use Rattle.window.specs.declared.Window.{Window}
use Rattle.closure.specs.After.{merged-at}
use Rattle.closure.specs.Closure.{Kept, kept-merging}
use Rattle.closure.specs.Facts.{Facts, facts, node-within}
use Rattle.closure.specs.Scan.{ScanOutcome, passed, lowered, stopped, scanned}
use Rattle.closure.specs.Sight.{seen-grown}
use Rattle.closure.specs.Ways.{direction}
use Rattle.shows.specs.Open.{stepped_same}
use Rattle.shows.specs.Riding.{opens, neighbour, Riding, sends_along, viewed-same, glimpse, back-opens, back-node, pushed-over, ridden, step-glimpse}
use Rattle.shows.specs.Quiet.{settled, Quiet, Covers, moved}
use Rattle.shows.proofs.Quiet.{still-by, quiet-sends, sends_none}

-- the pointer that flooding leaves is the one it had, C, or along an edge of growth 2
module _ (Good : ℕ → Type 0) (centre : Good 0) (f : ℕ → Seen) (along : (k : ℕ) → (f k).grown ≡ true → Good (k + 1)) where
  scanned-pointer : (u : Bool) (n p m : ℕ) (r : Flooded) → Good p → ScanOutcome f u 0 n p false m r → Good r.pointer
  scanned-pointer u n p m r a (passed h) = a
  scanned-pointer u n p m r a (lowered {j = j} l x e s h) = along j e
  scanned-pointer u n p m r a (stopped z hi o s) = centre

  flooded-pointer : (own : ℕ) (u : Bool) (p : ℕ) (mark : Mark) (n : ℕ) → Good p → Good (floods own u p mark (by_place n f)).pointer
  unfolding floods by_place
  flooded-pointer own u p Reset n a = a
  flooded-pointer own u p (Root m) n a = scanned-pointer u n p m _ a (scanned f u n 0 p false m)

module _ (T : Table) (S : Suited T) (w : Window) (k : Kept T w) (R : Riding T w) where
  abbrev F : Facts T w
  F = facts T w k.formed

  pub riding-merged : Riding T (merged T w)
  unfolding merged step_at stepped
  riding-merged g l n =
      let e : (at (merged T w) g).pointer ≡ (step_at T w g).node.pointer = ap (λ (y : Node). y.pointer) (merged-at T w g l) in
      let a : ((step_at T w g).node.pointer ≡ 0 → ⊥) → opens T w g (step_at T w g).node.pointer ≡ true
      = flooded-pointer (λ p. (p ≡ 0 → ⊥) → opens T w g p ≡ true) (λ x. absurd (x refl)) (seen T w g) (λ j o x. sym (seen-grown T w g j) ∙ o)
      (number_of w.shape.height w.shape.distance (place w g)) (at w g).unrooted (at w g).pointer (at w g).mark (length T.steps) (R g l) in
      rw e (a (λ z. n (e ∙ z)))

  abbrev Still : ℕ → Type 0
  Still g = step_at T w g ≡ settled (at w g)

  -- a node that did not move
  still-at : (g : ℕ) → g < size w → Still g → at (merged T w) g ≡ at w g
  still-at g l e = merged-at T w g l ∙ ap (λ (s : Stepped). s.node) e

  module _ (merging : is_merging w.stage ≡ true) where
    k' : Kept T (merged T w)
    k' = kept-merging T S w k merging

    F' : Facts T (merged T w)
    F' = facts T (merged T w) k'.formed

    module _ (g : ℕ) (l : g < size w) (e : Still g) (near : (p : ℕ) → opens T w g p ≡ true → Still (to w T p g).node) where
      within-open : (p : ℕ) → opens T w g p ≡ true → (to w T p g).node < size w
      within-open p o = node-within T w F.ranged p g (halves (to w T p g).there _ o).0

      neighbour-same : (p : ℕ) → opens T w g p ≡ true → neighbour T (merged T w) g p ≡ neighbour T w g p
      unfolding merged
      neighbour-same p o = still-at (to w T p g).node (within-open p o) (near p o)

      glimpse-same : (j : ℕ) → glimpse T (merged T w) g j ≡ glimpse T w g j
      unfolding merged
      glimpse-same j = viewed-same (opens T w g (j + 1)) _ _ (step T (j + 1)).back (λ o. neighbour-same (j + 1) o)

      abbrev own : ℕ
      own = number_of w.shape.height w.shape.distance (place w g)

      abbrev K : ℕ
      K = length T.steps

      low : g < size (merged T w)
      unfolding merged
      low = l

      rest : stepped (number_of (merged T w).shape.height (merged T w).shape.distance (place (merged T w) g)) (detector (merged T w) g) (at (merged T w) g) (by_place K (glimpse T (merged T w) g))
          ≡ stepped own (detector w g) (at w g) (by_place K (glimpse T w g))
      unfolding merged
      rest =
          ap (λ (n : Node). stepped own (detector w g) n (by_place K (glimpse T (merged T w) g))) (still-at g l e)
          ∙ stepped_same (glimpse T (merged T w) g) (glimpse T w g) K own (detector w g) (at w g)
          (λ j x. let q = glimpse-same j in record { grown = ap (λ (s : Seen). s.grown) q; mark = λ z. ap (λ (s : Seen). s.mark) q; pushes = ap (λ (s : Seen). s.pushes) q })
          (λ n. ((ridden T S w F R g l n).0, ap (λ (s : Seen). s.active) (glimpse-same ((at w g).pointer - 1))))

      same_step : step_at T (merged T w) g ≡ step_at T w g
      same_step = step-glimpse T S (merged T w) F' riding-merged g low ∙ rest ∙ sym (step-glimpse T S w F R g l)

      silent-over : (p : ℕ) → opens T w g p ≡ true → sends_along (neighbour T w g p) (step T p).back ≡ false
      silent-over p o =
          let u = (to w T p g).node in
          sends_none (at w u) (step T p).back (S.proper.opposed p (direction T w g p (halves (to w T p g).there _ o).0)).back.0 (quiet-sends T w u F (within-open p o) (near p o))

      quiet_next : Quiet T (merged T w) g
      unfolding merged
      quiet_next =
          record {
            still = same_step ∙ e ∙ ap settled (sym (still-at g l e));
            bits = λ p t.
                whether (opens T w g p)
                (λ o. ap (λ (n : Node). sends_along n (step T p).back) (neighbour-same p o) ∙ silent-over p o)
                (λ o. pushed-over T S (merged T w) F' riding-merged g low p t o);
          }

    -- THE NEXT LIST
    pub next-covers : (listed : ℕ → Bool) → ((g : ℕ) → g < size w → moved T w g ≡ true → listed g ≡ true)
        → ((g p : ℕ) → g < size w → moved T w g ≡ true → opens T w g p ≡ true → listed (to w T p g).node ≡ true)
        → Covers T (merged T w) listed
    unfolding merged
    next-covers listed self near g l n =
        quiet_next g l (still g (λ m. undone (sym (self g l m) ∙ n)))
        (λ p o.
        let u = (to w T p g).node in
        still u (λ m.
        let x = near u (step T p).back (node-within T w F.ranged p g (halves (to w T p g).there _ o).0) m (back-opens T S w g p o) in
        undone (sym x ∙ ap listed (back-node T S w g p o) ∙ n)))
      where
        still : (v : ℕ) → (moved T w v ≡ true → ⊥) → Still v
        still v never = whether (moved T w v) (λ m. absurd (never m)) (λ m. still-by T w v m)
