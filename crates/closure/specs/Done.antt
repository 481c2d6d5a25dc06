-- A CALL: what it leaves of a window; and if it is done, the tests that it has passed and what it gives. Assumes nothing.
use Rattle.std.specs.Prelude.{ℕ, ◌≡◌, refl, Bool, true, List, [], ltb, eqb, length}
use Rattle.std.proofs.Common.{eqb-true}
use Rattle.refusal.specs.Answer.{Answer, done, ended, refused, refused_at, unless}
use Rattle.refusal.specs.Done.{took}
use Rattle.refusal.specs.Tests.{tests-done}
use Rattle.list.specs.Sheet.{are_bits}
use Rattle.layers.specs.Layers.{layer_edges}
use Rattle.shape.specs.Sizes.{detectors_of}
use Rattle.steps.specs.Steps.{Table}
use Rattle.window.specs.Window.{is_rest, max_next}
use Rattle.window.specs.Formed.{well_formed}
use Rattle.window.specs.Calls.{leaves, Round, state_tests, round_by}
use Rattle.window.specs.declared.Window.{Window}

-- done or refused: what a call leaves of a window
pub leaves-keeps : {A : Type 0} (P : Window → Type 0) (a : Answer A) (of : A → Window) (w : Window) → P w → ((v : A) (n : ℕ) → a ≡ done v n → P (of v)) → P (leaves a of w).window
leaves-keeps P (done v n) of w k e = e v n refl
leaves-keeps P ended of w k e = k
leaves-keeps P (refused n) of w k e = k
leaves-keeps P (refused_at n at) of w k e = k

-- GROW, MERGING AND RUN

pub record Staged {A : Type 0} (T : Table) (w : Window) (stage : Bool) (a v : A) : Type 0 where
  pub formed : well_formed T w ≡ true
  pub staged : stage ≡ true
  pub value : a ≡ v

pub staged : {A : Type 0} (T : Table) (w : Window) (stage : Bool) (a v : A) (n : ℕ) → unless (state_tests T w stage) (done a 0) ≡ done v n → Staged T w stage a v
staged T w stage a v n e =
    let x = took (well_formed T w) _ (refused 21) v n refl e in
    let y = took stage _ (refused 22) v n refl x.1 in
    record { formed = x.0; staged = y.0; value = tests-done [] a v 0 n y.1 }

-- ROUND

-- plain or raw: v is what the call leaves where it is done
pub record Accepted (T : Table) (w : Window) (bytes : List ℕ) (v r : Round) : Type 0 where
  pub formed : well_formed T w ≡ true
  pub staged : is_rest w.stage ≡ true
  pub long : length bytes ≡ detectors_of w.shape.height w.shape.distance
  pub bits : are_bits bytes ≡ true
  pub value : v ≡ r

pub accepted : (T : Table) (w : Window) (bytes edges escapes : List ℕ) (v r : Round) (n : ℕ)
    → round_by T w v bytes edges escapes ≡ done r n → Accepted T w bytes v r
accepted T w bytes edges escapes v r n e =
    let a = took (well_formed T w) _ (refused 21) r n refl e in
    let b = took (is_rest w.stage) _ (refused 22) r n refl a.1 in
    let c = took (ltb w.next max_next) _ (refused 23) r n refl b.1 in
    let d = took (eqb (length bytes) (detectors_of w.shape.height w.shape.distance)) _ (refused 3) r n refl c.1 in
    let f = took (eqb (length edges) (layer_edges T w.shape.height w.shape.distance)) _ (refused 5) r n refl d.1 in
    let g = took (eqb (length escapes) (detectors_of w.shape.height w.shape.distance)) _ (refused 6) r n refl f.1 in
    let i = took (are_bits bytes) _ (refused 4) r n refl g.1 in
    record { formed = a.0; staged = b.0; long = eqb-true _ _ d.0; bits = i.0; value = tests-done [] v r 0 n i.1 }
