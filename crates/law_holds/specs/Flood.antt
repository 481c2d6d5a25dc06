-- FLOODING in a merging step: every node's turn is one of the four cases. Assumes nothing.
use Rattle.std.specs.Prelude.{ℕ, ◌+◌, ◌-◌, ◌<◌, ◌≡◌, Bool, true, length}
use Rattle.std.proofs.Common.{arith, sym, ◌∙◌, ap}
use Rattle.std.proofs.Math.Path.{refl}
use Rattle.std.proofs.Math.Bool.{false}
use Rattle.shape.proofs.Ranges.{halves}
use Rattle.steps.specs.Steps.{Table}
use Rattle.window.specs.Lists.{by_place}
use Rattle.window.specs.Window.{size, at}
use Rattle.window.specs.Merging.{flooded, floods, stepped, seen, step_at, merged}
use Rattle.window.specs.declared.Mark.{Mark}
use Rattle.window.specs.declared.Mark.TheVariants.{Reset, Root}
use Rattle.window.specs.declared.Seen.{Seen}
use Rattle.window.specs.declared.Flooded.{Flooded}
use Rattle.window.specs.declared.Window.{Window}
use Rattle.closure.specs.Lists.{either}
use Rattle.closure.specs.Sight.{seen-edge, seen-grown}
use Rattle.closure.specs.After.{merged-at}
use Rattle.closure.specs.Scan.{Passes, ScanOutcome, passed, lowered, stopped, scanned}
use Rattle.law_holds.specs.Graph.{Laws, graph, view}
use Rattle.law_holds.specs.Turn.{Clear, Turn, Turns, woke, cut, stayed, took}

-- WHAT A NODE SEES is what its open edges lead to

module _ (T : Table) (w : Window) where
  pub seen-mark : (v j : ℕ) → (graph T w).opn v (j + 1) ≡ true → (seen T w v j).mark ≡ (view w).mark ((graph T w).nb v (j + 1))
  seen-mark v j o = ap (λ (s : Seen). s.mark) (seen-edge T w v j (halves _ _ o).0)

  abbrev pub busy : ℕ → Bool
  busy v = (step_at T w v).busy

  module _ (L : Laws (graph T w)) (v : ℕ) (l : v < size w) where
    -- the scan has seen every open edge
    clear : (m : ℕ) → Passes (seen T w v) (at w v).unrooted 0 (length T.steps) m → Clear (graph T w) (view w) v m
    clear m h p o =
        let d = L.dir v p l o in
        let e : p - 1 + 1 ≡ p = omega (arith, d.0) in
        let o' : (graph T w).opn v (p - 1 + 1) ≡ true = rw e o in
        let a = h (p - 1) (omega arith) (omega (arith, d.0, d.1)) (seen-grown T w v (p - 1) ∙ o') in
        rw (seen-mark v (p - 1) o', e) at a

    -- what becomes of v if it is not reset
    ended : (m : ℕ) → (at w v).mark ≡ Root m → (r : Flooded) → ScanOutcome (seen T w v) (at w v).unrooted 0 (length T.steps) (at w v).pointer false m r
        → (b : Bool) → (r.busy ≡ true → b ≡ true)
        → Turn (graph T w) (view w) (flooded r.unrooted r.pointer r.mark b) v
    ended m e r (passed h) b t = stayed (record { m = m; was = e; clear = clear m h; mark = refl; pointer = refl; unrooted = refl })
    ended m e r (lowered {a = a} {j = j} k hi o s h) b t =
        let o' = sym (seen-grown T w v j) ∙ o in
        took (record {
          old = m;
          m = a;
          was = e;
          less = k;
          points = omega arith;
          opn = o';
          sees = sym (seen-mark v j o') ∙ s;
          clear = clear a h;
          mark = refl;
          unrooted = refl;
          busy = t refl;
        })
    ended m e r (stopped {j = j} u hi o s) b t =
        let o' = sym (seen-grown T w v j) ∙ o in
        cut (record {
          m = m;
          was = e;
          rooted = u;
          way = j + 1;
          opn = o';
          sees = sym (seen-mark v j o') ∙ s;
          mark = refl;
          pointer = refl;
          unrooted = u;
          busy = t refl;
        })

    abbrev flood : Mark → Flooded
    flood x = floods ((graph T w).num v) (at w v).unrooted (at w v).pointer x (by_place (length T.steps) (seen T w v))

    floods-turn : (x : Mark) → (at w v).mark ≡ x → (b : Bool) → ((flood x).busy ≡ true → b ≡ true)
        → Turn (graph T w) (view w) (flooded (flood x).unrooted (flood x).pointer (flood x).mark b) v
    unfolding floods by_place
    floods-turn Reset e b t = woke (record { was = e; mark = refl; pointer = refl; unrooted = refl; busy = t refl })
    floods-turn (Root m) e b t = ended m e _ (scanned (seen T w v) (at w v).unrooted (length T.steps) 0 (at w v).pointer false m) b t

    pub turn : Turns (graph T w) (view w) (view (merged T w)) busy v
    unfolding step_at stepped
    turn = rw (merged-at T w v l) (floods-turn (at w v).mark refl (busy v) (λ e. either _ _ (either _ _ e)))
