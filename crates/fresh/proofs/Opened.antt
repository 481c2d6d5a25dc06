-- What opening a window leaves. Assumes nothing.
use Rattle.std.specs.Prelude.{Result, Ok, Err}
use Prim.Native.Nat.{ℕ}
use mathlib.Core.Path.{◌≡◌, sym, ◌∙◌, ap}
use mathlib.Core.Bool.{false}
use mathlib.Core.List.{List}
use lib.ListN.{replicate}
use Rattle.refusal.specs.Answer.{Answer, done, turned, and_then, itself}
use Rattle.refusal.specs.Laws.{turned-not, turned-passed, value_not, turned_as}
use Rattle.refusal.specs.declared.Refusal.{Refusal}
use Rattle.shape.specs.Sizes.{shape_answer, sheets_of, nodes_of, max_nodes, max_detectors}
use Rattle.creation.specs.Creation.{allowed_shape}
use Rattle.creation.specs.Laws.{Allowed}
use Rattle.creation.proofs.Laws.{allowed-is}
use Rattle.steps.specs.Steps.{Table}
use Rattle.steps.specs.Models.{of_model}
use Rattle.window.specs.Window.{alone, unused, max_slots}
use Rattle.window.specs.Fresh.{fresh_window, no_window, slots-model}
use Rattle.window.specs.Calls.{Answered, given, leaves, fresh_call, fresh_leaves}
use Rattle.shape.specs.Nodes.{number_of, place_at}
use Rattle.shape.specs.declared.Place.{Place}
use Rattle.shape.specs.declared.Shape.{Shape}
use Rattle.window.specs.Lists.{over}
use Rattle.window.specs.declared.Node.{Node}
use Rattle.window.specs.declared.Stage.TheVariants.{Rest}
use Rattle.window.specs.declared.Window.{Window}

-- A FRESH WINDOW

fresh_as : Table → Answer Shape → Answered (Unit {0})
fresh_as T a = leaves (and_then a (λ sh n. done (fresh_window T sh) n)) itself no_window

module _ (h d m largest_height largest_distance : ℕ) (r : Result Shape Refusal) (made : shape_answer r ≡ allowed_shape h d m largest_height largest_distance) where
  pub fresh-refused : (f : Refusal) → r ≡ Err f → given (turned f) no_window ≡ fresh_leaves (of_model m) h d m largest_height largest_distance
  unfolding fresh_call fresh_as
  fresh-refused f z =
      let e = ap shape_answer (sym z) ∙ made in
      sym (ap (fresh_as (of_model m)) (sym e) ∙ ap (λ (a : Answer Window). leaves a itself no_window) (turned_as {B = Window} f (λ sh n. done (fresh_window (of_model m) sh) n)) ∙ rw (
        turned-passed Window f,
        value_not (turned {A = Window} f) itself no_window (turned-not Window f),
      ))

  -- a shape that was made is the named one, and in range
  made_of : (sh : Shape) → r ≡ Ok sh → Allowed h d m sh
  made_of sh z = allowed-is h d m largest_height largest_distance sh 0 (sym made ∙ ap shape_answer z)

  pub fresh-done : (sh : Shape) (v : Window) → r ≡ Ok sh → v ≡ fresh_window (of_model sh.model) sh → given (done tt 0) v ≡ fresh_leaves (of_model m) h d m largest_height largest_distance
  unfolding fresh_call fresh_as
  fresh-done sh v z y =
      let k : sh.model ≡ m = ap (λ (x : Shape). x.model) (sym (made_of sh z).same) in
      ap (λ (x : Window). given (done tt 0) x) (y ∙ ap (λ (n : ℕ). fresh_window (of_model n) sh) k) ∙ sym (ap (fresh_as (of_model m)) (sym made ∙ ap shape_answer z))

-- the loop that numbers its nodes
abbrev pub numbering : Shape → ℕ → Node
numbering sh g = alone (number_of sh.height sh.distance (place_at sh.height sh.distance g)) false

pub numbered-by : (sh : Shape) (g m : ℕ) (q : Place) (x : Node) → q ≡ place_at sh.height sh.distance g → m ≡ number_of sh.height sh.distance q → x ≡ alone m false → x ≡ numbering sh g
numbered-by sh g m q x e f z = rw (z, f, e)

-- a window at rest with nothing on its edges, and no sheet measured
abbrev opened : Shape → ℕ → List Node → Window
opened sh s nodes =
    record {
      shape = sh;
      stage = Rest;
      next = s;
      nodes = nodes;
      growth = replicate {A = ℕ} max_slots 0;
      correction = replicate max_slots false;
      measured = replicate max_detectors false;
    }

pub none-by : (x : Node) → x ≡ unused → opened (record { height = 0; distance = 0; model = 0 }) 0 (replicate max_nodes x) ≡ no_window
unfolding no_window
none-by x e = ap (λ (n : Node). opened (record { height = 0; distance = 0; model = 0 }) 0 (replicate max_nodes n)) e

pub fresh-by : (sh : Shape) (g s : ℕ) (nodes : List Node) → g ≡ nodes_of sh.height sh.distance → s ≡ sheets_of sh.distance → nodes ≡ over g (numbering sh) (replicate max_nodes unused)
    → opened sh s nodes ≡ fresh_window (of_model sh.model) sh
unfolding fresh_window
fresh-by sh g s nodes e f z = rw (z, e, f, slots-model sh.model)
