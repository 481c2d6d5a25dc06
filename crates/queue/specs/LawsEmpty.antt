-- Flags cleared, and a list begun. Assumes nothing.
use Rattle.std.specs.Prelude.{ℕ, ◌≡◌, refl, Bool, false, List, get_or, length}
use Rattle.std.proofs.Common.{arith, ◌∙◌, ap, ⊎_elim}
use Rattle.std.proofs.Math.ListN.{get_or-eq_default}
use Rattle.shape.specs.Choice.{whether, order}
use Rattle.flat.specs.Laid.{laid, laid-at, length-laid}
use Rattle.flat.specs.Step.{named, list_at}
use Rattle.queue.specs.Queue.{Queue, Empty}

-- every flag that was set is of a listed node: so none is left
pub emptied : (from count : ℕ) (lists : List ℕ) (queued now : List Bool) → Queue from count lists queued → now ≡ laid (list_at lists from) (λ i. false) count queued → Empty now
emptied from count lists queued now q e =
    record {
      wide = ap length e ∙ length-laid (list_at lists from) (λ i. false) count queued ∙ q.wide;
      none = λ x.
          ap (λ (l : List Bool). get_or l x false) e
          ∙ ⊎_elim
          (λ l.
          laid-at (list_at lists from) (λ i. false) (λ i. false) queued false x (omega (arith, q.wide)) count (λ i h. refl)
          ∙ whether (named (list_at lists from) count x)
          (λ t. rw t)
          (λ t. rw t (whether (get_or queued x false) (λ s. absurd (let k = q.known x s in let z : ◌≡◌ {A = ℕ} 0 1 = cc in omega arith)) (λ s. s))))
          (λ l. get_or-eq_default (laid (list_at lists from) (λ i. false) count queued) false (let r = length-laid (list_at lists from) (λ i. false) count queued in omega (arith, r, q.wide)))
          (order x 4608);
    }

-- a list with no entry
pub queue-none : (from : ℕ) (lists : List ℕ) (queued : List Bool) → length lists ≡ 13824 → Empty queued → Queue from 0 lists queued
queue-none from lists queued l e =
    record {
      long = l;
      wide = e.wide;
      few = omega arith;
      known = λ x t. absurd (let k = e.none x in let z : ◌≡◌ {A = ℕ} 0 1 = cc in omega arith);
    }
