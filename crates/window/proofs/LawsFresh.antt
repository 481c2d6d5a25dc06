-- A creation that is done: the shape is one, and the window is its fresh one. Assumes nothing.
use Rattle.std.specs.Prelude.{ℕ, ◌≡◌, []}
use Rattle.std.proofs.Common.{sym, ◌∙◌, ap}
use Rattle.refusal.specs.Answer.{Answer, done, and_then, value_or, itself}
use Rattle.refusal.specs.Done.{goes_on_lem, went}
use Rattle.refusal.specs.Laws.{done_on}
use Rattle.refusal.specs.Tests.{tests-done}
use Rattle.shape.proofs.Ranges.{shape-accepted}
use Rattle.shape.specs.Sizes.{max_height, max_distance, IsShape, shape_of}
use Rattle.shape.specs.declared.Shape.{Shape}
use Rattle.creation.specs.Creation.{allowed_shape}
use Rattle.creation.proofs.Laws.{allowed-is, largest-limits}
use Rattle.steps.specs.Steps.{Table}
use Rattle.window.specs.Fresh.{fresh_window, no_window}
use Rattle.window.specs.Calls.{Answered, leaves, fresh_call}
use Rattle.window.specs.declared.Window.{Window}
use Rattle.window.specs.LawsFresh.{Started}

pub started : (T : Table) (h d m largest_height largest_distance : ℕ) (w : Window) (n : ℕ) → fresh_call T h d m largest_height largest_distance ≡ done w n
    → Started T h d m w
unfolding fresh_call
started T h d m largest_height largest_distance w n e =
    let x = went (allowed_shape h d m largest_height largest_distance) (λ sh m. done (fresh_window T sh) m) w n e in
    let a = allowed-is h d m largest_height largest_distance x.value x.next x.before in
    record { range = a.range; value = ap (λ (sh : Shape). fresh_window T sh) a.same ∙ tests-done [] (fresh_window T x.value) w x.next n x.after }

-- FOR THE LARGEST LIMITS: the shape's own tests decide,
pub by_shape : (T : Table) (h d m : ℕ) → fresh_call T h d m max_height max_distance ≡ and_then (shape_of h d m) (λ sh n. done (fresh_window T sh) n)
unfolding fresh_call
by_shape T h d m = ap (λ (a : Answer Shape). and_then a (λ sh n. done (fresh_window T sh) n)) (largest-limits h d m)

-- and no shape is refused
pub created : (T : Table) (sh : Shape) → IsShape sh → fresh_call T sh.height sh.distance sh.model max_height max_distance ≡ done (fresh_window T sh) 0
created T sh range = by_shape T sh.height sh.distance sh.model ∙ goes_on_lem (λ sh n. done (fresh_window T sh) n) (shape-accepted sh range)

-- BY A PROMISE: if x is what a creation leaves, and its answer is done, the creation is done with the window of x
pub created-by : (a : Answer Window) (x : Answered (Unit {0})) (n : ℕ) → x ≡ leaves a itself no_window → x.answer ≡ done tt n → a ≡ done x.window n
created-by a x n e d =
    let y = done_on a n (ap (λ (l : Answered (Unit {0})). l.answer) (sym e) ∙ d) in
    y.1 ∙ ap (λ (w : Window). done w n) (sym (ap (λ (l : Answered (Unit {0})). l.window) e ∙ ap (λ (b : Answer Window). value_or b itself no_window) y.1))
