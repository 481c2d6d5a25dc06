-- GROW keeps the conservation clause: it changes nothing in it. Assumes nothing.
use Rattle.std.specs.Prelude.{ℕ, ◌≡◌, Bool, ◌&&◌}
use Rattle.std.proofs.Common.{sym, ◌∙◌}
use Rattle.std.proofs.Math.Path.{ap}
use Rattle.std.proofs.Math.Logic.{⊎_elim}
use Rattle.shape.specs.Choice.{tell, order}
use Rattle.shape.specs.Nodes.{index_of}
use Rattle.steps.specs.Steps.{Table}
use Rattle.window.specs.Lists.{bit, xor}
use Rattle.window.specs.LawsLists.{over-later}
use Rattle.window.specs.Window.{size, at, beyond}
use Rattle.window.specs.Grow.{grown_node, grown}
use Rattle.closure.specs.After.{orphan, cut_at, uncut-at}
use Rattle.law.specs.Law.{Played, height, distance, in_window, place_now, escaped}
use Rattle.law.specs.Everywhere.{Conserved}
use Rattle.law_holds.specs.Rules.{with_window}
use Rattle.law_holds.specs.Nodes.{defects}
use Rattle.law_holds.specs.Conserved.{ended, corrected, charged, conserved-by}

module _ (T : Table) (p : Played) where
  grown-defect : (g : ℕ) → (at (grown T p.window) g).defect ≡ (at p.window g).defect
  unfolding grown
  grown-defect g =
      let w = p.window in
      ⊎_elim (λ l. ⊎_elim (λ e. defects (cut_at T w g l e)) (λ e. defects (uncut-at T w g l e)) (tell (orphan T w g)))
      (λ l. defects (over-later (grown_node T w) w.nodes (size w) g beyond l))
      (order g (size w))

  pub conserved-grow : Conserved T p → Conserved T (with_window p (grown T p.window))
  unfolding grown
  conserved-grow c =
      conserved-by T (with_window p (grown T p.window))
      (λ a i.
      charged T p c a (record { arrived = i.arrived; row = i.row; west = i.west; east = i.east })
      ∙ ap (λ (b : Bool). bit (xor (ended T p (corrected T p) a) (xor (in_window p a.round && b) (escaped p a)))) (sym (grown-defect (index_of (height p) (distance p) (place_now p a)))))
