-- WHAT THE MACHINE'S ARRAYS HOLD BEFORE A ROUND: one set some window of the shape at rest, while the other set is free and no node is queued.
-- Assumes nothing.
use Rattle.std.specs.Prelude.{ℕ, ◌≡◌, Bool, List, length}
use Rattle.shape.specs.Sizes.{IsShape}
use Rattle.shape.specs.declared.Shape.{Shape}
use Rattle.steps.specs.Models.{of_model}
use Rattle.window.specs.declared.Window.{Window}
use Rattle.flat.specs.Entries.{State, Long}
use Rattle.flat.specs.Plan.{Plan, plan_of}
use Rattle.flat.specs.Structs.{state_in}
use Rattle.flat.specs.declared.Sizes.{Sizes}
use Rattle.flat.specs.declared.arrays.Arrays.{Arrays}
use Rattle.flat.specs.declared.arrays.Work.{Work}
use Rattle.flat.specs.declared.layout.Layout.{Layout}
use Rattle.plan.specs.Table.{sizes_of}
use Rattle.plan.specs.Filled.{Filled}
use Rattle.queue.specs.Queue.{Empty}
use Rattle.round_step.specs.Falls.{NoneOutside}
use Rattle.shows.specs.Turn.{Held}

-- some window of the shape, with its next round
abbrev pub HeldAt : Plan → Shape → ℕ → State → Bool → Bool → Type 0
HeldAt P sh next st rides quiet = (w : Window) × (w.shape ≡ sh) × (w.next ≡ next) × Held (of_model sh.model) P w st rides quiet

-- lists and words of their lengths, and no node queued
pub record Scratch (work : Work) : Type 0 where
  pub lists-long : length work.lists ≡ 13824
  pub empty : Empty work.queued
  pub words_long : length work.words ≡ 4608

-- the table of the shape; the set that holds the window; and the free set, with no edge in its margins
pub record ReadyIn (sh : Shape) (z : Sizes) (table : List ℕ) (next : ℕ) (rides quiet : Bool) (arrays other : Arrays) (work : Work) : Type 0 where
  pub range : IsShape sh
  pub sizes : z ≡ sizes_of (of_model sh.model) sh.height sh.distance
  pub filled : Filled (of_model sh.model) sh.height sh.distance table
  pub long : Long arrays.nodes arrays.marks arrays.edges
  pub free : Long other.nodes other.marks other.edges
  pub outside : NoneOutside (of_model sh.model) sh.height sh.distance other.edges
  pub scratch : Scratch work
  pub held : HeldAt (plan_of z table) sh next (state_in arrays) rides quiet

-- by a layout
abbrev pub Ready : Shape → Layout → ℕ → Bool → Bool → Arrays → Arrays → Work → Type 0
Ready sh layout = ReadyIn sh layout.sizes layout.table
