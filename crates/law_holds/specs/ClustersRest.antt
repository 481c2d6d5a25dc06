-- A MERGING STEP IN WHICH NO NODE IS BUSY changes none: the window is at rest, and so are its clusters. Assumes nothing.
use Rattle.std.specs.Prelude.{ℕ, ◌≤◌, ◌<◌, ◌≡◌, refl, Bool, true, false, ◌||◌}
use Rattle.std.proofs.Math.Path.{sym}
use Rattle.std.proofs.Common.{◌∙◌}
use Rattle.std.proofs.Math.Logic.{⊎_elim}
use Rattle.refusal.specs.Laws.{undone}
use Rattle.shape.specs.Choice.{if, tell}
use Rattle.steps.specs.Steps.{Table}
use Rattle.window.specs.Lists.{any, xor}
use Rattle.window.specs.Window.{is_rest, size, at, detector, to}
use Rattle.window.specs.Merging.{hot, synced_active, sends, floods, stepped, step_at, merged}
use Rattle.window.specs.declared.Stage.TheVariants.{Rest, Merging}
use Rattle.window.specs.declared.Mark.TheVariants.{Root}
use Rattle.window.specs.declared.Window.{Window}
use Rattle.closure.specs.Lists.{any_at}
use Rattle.steps.specs.Suited.{Suited}
use Rattle.closure.specs.After.{merged-at}
use Rattle.closure.specs.Closure.{Kept}
use Rattle.law_holds.specs.Nodes.{actives, unrooteds, pointers, marks}
use Rattle.law_holds.specs.Graph.{Laws, graph, view, Inv, Calm}
use Rattle.law_holds.specs.GraphLaws.{laws}
use Rattle.law_holds.specs.Turn.{above-le, Turns, Stays, woke, cut, stayed, took}
use Rattle.law_holds.specs.Flood.{busy, turn}
use Rattle.law_holds.specs.ClustersMerging.{merging-inv}
use Rattle.law_holds.specs.Quiet.{Quiet, calm}
use Rattle.law_holds.specs.Syncing.{sends-not, active-centre, active-along, sights, seen-active, defect-stays}

-- TESTS

idle-parts : (a b c d : Bool) → (a || b || xor c d) ≡ false → (b ≡ false) × (c ≡ d)
idle-parts true b c d e = absurd (undone e)
idle-parts false true c d e = absurd (undone e)
idle-parts false false true true e = (refl, refl)
idle-parts false false true false e = absurd (undone e)
idle-parts false false false true e = absurd (undone e)
idle-parts false false false false e = (refl, refl)

resting : (b : Bool) → is_rest (if b Merging Rest) ≡ true → b ≡ false
resting true e = absurd (undone (sym e))
resting false e = refl

module _ (T : Table) (S : Suited T) (w : Window) (kept : Kept T w) (rest : is_rest (merged T w).stage ≡ true) where
  abbrev L : Laws (graph T w)
  L = laws T w S kept

  none-busy : (v : ℕ) → v < size w → busy T w v ≡ false
  unfolding merged
  none-busy v l =
      ⊎_elim (λ e. absurd (undone (sym (any_at (busy T w) (size w) v l e) ∙ resting (any (size w) (busy T w)) rest))) (λ e. e) (tell (busy T w v))

  module _ (v : ℕ) (l : v < size w) where
    stays : Stays (graph T w) (view w) (view (merged T w)) (busy T w) v
    stays = go (none-busy v l) (turn T w L v l)
      where
        go : busy T w v ≡ false → Turns (graph T w) (view w) (view (merged T w)) (busy T w) v → Stays (graph T w) (view w) (view (merged T w)) (busy T w) v
        go e (woke x) = absurd (undone cc)
        go e (cut x) = absurd (undone cc)
        go e (stayed x) = x
        go e (took x) = absurd (undone cc)

    -- it sends nothing, and its activity is what its pointer says
    parts : (sends (detector w v) (at w v) ≡ false) × (synced_active (at w v).pointer (hot (detector w v) (at w v)) (sights T w v) ≡ (at w v).active)
    unfolding step_at stepped
    parts = idle-parts (floods ((graph T w).num v) (at w v).unrooted (at w v).pointer (at w v).mark (sights T w v)).busy _ _ _ (none-busy v l)

    centred : hot (detector w v) (at w v) ≡ true → (at w v).pointer ≡ 0
    centred = sends-not (hot (detector w v) (at w v)) (at w v).pointer parts.0

  -- every node is as it was
  unchanged : (v : ℕ) → v < size w → at (merged T w) v ≡ at w v
  unfolding step_at stepped
  unchanged v l =
      let x = stays v l in
      let n = merged-at T w v l in
      let p : (step_at T w v).node.pointer ≡ (at w v).pointer = pointers (sym n) ∙ x.pointer in
      let u : (step_at T w v).node.unrooted ≡ (at w v).unrooted = unrooteds (sym n) ∙ x.unrooted in
      let m : (step_at T w v).node.mark ≡ (at w v).mark = marks (sym n) ∙ x.mark ∙ sym x.was in
      n ∙ rw (p, u, m, (parts v l).1, defect-stays T w S kept centred v l)

  -- and has nothing left to do
  module _ (v : ℕ) (l : v < size w) where
    lowest : (p a : ℕ) → (graph T w).opn v p ≡ true → (at w (to w T p v).node).mark ≡ Root a → (stays v l).m ≤ a
    lowest p a o e = above-le (at w v).unrooted (stays v l).m a (at w (to w T p v).node).mark e ((stays v l).clear p o)

    quiet : Quiet (graph T w) (view w) v
    quiet =
        record {
          m = (stays v l).m;
          mark = (stays v l).was;
          least = lowest;
          defect = centred v l;
          centre = λ e. sym (parts v l).1 ∙ active-centre (at w v).pointer (hot (detector w v) (at w v)) (sights T w v) e;
          along = λ o.
              sym (parts v l).1
              ∙ active-along (at w v).pointer (hot (detector w v) (at w v)) (sights T w v) (L.dir v (at w v).pointer l o).0
              ∙ seen-active T w L v l (at w v).pointer o;
        }

    -- and after the step
    quiet-after : Quiet (graph T w) (view (merged T w)) v
    quiet-after =
        record {
          m = quiet.m;
          mark = rw (unchanged v l) quiet.mark;
          least = λ p a o e. quiet.least p a o (marks (sym (unchanged _ (L.within v p l o))) ∙ e);
          defect = rw (unchanged v l) quiet.defect;
          centre = rw (unchanged v l) quiet.centre;
          along = rw (unchanged v l) (λ o. quiet.along o ∙ actives (sym (unchanged _ (L.within v (at w v).pointer l o))));
        }

-- its clusters are at rest when the step leaves it so
pub merging-calm : (T : Table) (S : Suited T) (w : Window) (kept : Kept T w) → Inv (graph T w) (view w) → is_rest (merged T w).stage ≡ true
    → Calm (graph T (merged T w)) (view (merged T w))
unfolding merged
merging-calm T S w kept I rest = calm (graph T w) (laws T w S kept) (view (merged T w)) (merging-inv T S w kept I) (quiet-after T S w kept rest)
