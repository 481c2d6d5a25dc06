-- WHAT A TURN LEAVES IN THE ARRAYS, for every window that they held: the window after round, grow and merging steps. Assumes nothing.
use Rattle.std.specs.Prelude.{ℕ, ◌+◌, ◌-◌, ◌*◌, ◌≤◌, ◌<◌, ◌≡◌, Bool, true, false, ◌&&◌, List, leb, get_or}
use Rattle.std.proofs.Common.{arith, ◌∙◌, ap, subst, leb-true}
use Rattle.std.proofs.Math.Path.{sym}
use Rattle.shape.specs.Choice.{if}
use Rattle.shape.proofs.Ranges.{halves}
use Rattle.shape.specs.Sizes.{nodes_of}
use Rattle.shape.specs.declared.Shape.{Shape}
use Rattle.steps.specs.Steps.{Table}
use Rattle.steps.specs.Models.{of_model}
use Rattle.steps.proofs.Models.{suited-model}
use Rattle.window.specs.Grow.{grown}
use Rattle.window.specs.Round.{rounded}
use Rattle.window.specs.Run.{steps_from, ran}
use Rattle.window.specs.Window.{size, sheet}
use Rattle.window.specs.declared.Window.{Window}
use Rattle.closure.specs.Closure.{kept-round}
use Rattle.flat.specs.Codes.{growth_of, reset_code}
use Rattle.flat.specs.Entries.{State, margin, entry, within, state_of, Long}
use Rattle.flat.specs.LawsEntries.{within_by}
use Rattle.flat.specs.Plan.{Plan}
use Rattle.flat.specs.Step.{named, list_at, Places}
use Rattle.flat.specs.Structs.{state_in}
use Rattle.flat.specs.declared.Sizes.{Sizes}
use Rattle.flat.specs.declared.arrays.Arrays.{Arrays}
use Rattle.flat.specs.declared.arrays.Work.{Work}
use Rattle.plan.specs.Table.{sizes_of}
use Rattle.shows.specs.Grown.{cuts_at, Grows}
use Rattle.shows.specs.Changed.{Enlists}
use Rattle.shows.specs.Pass.{Going}
use Rattle.shows.specs.Planned.{Planned}
use Rattle.shows.specs.Run.{Over}
use Rattle.shows.proofs.Run.{ran-round}
use Rattle.shows.specs.Sinks.{second_there, Sinks}
use Rattle.shows.proofs.Sinks.{sinks-shows}
use Rattle.shows.specs.Turn.{Held}
use Rattle.shows.proofs.Turn.{turn-kept, turn-shows, turn-going}
use Rattle.queue.specs.Queue.{Inside}
use Rattle.round_step.specs.Falls.{NoneAbove}
use Rattle.round_step.specs.LawsFalls.{none_above}
use Rattle.grow_step.specs.Standing.{Standing}
use Rattle.grow_step.specs.Openings.{Openings}
use Rattle.run_steps.specs.Going.{Shown, Ended}
use Rattle.run_steps.specs.Inside.{open-inside}
use Rattle.work_list.specs.Work.{Worked}
use Rattle.turn.specs.Ready.{HeldAt, Scratch}

-- THE WINDOW AFTER IT, and that it is held, all of it quiet, if it came to rest
pub record Turned (T : Table) (P : Plan) (w : Window) (bytes : List ℕ) (rides rest : Bool) (made : ℕ) (st : State) : Type 0 where
  pub window : Window
  pub equals : ran T 65536 (rounded T w bytes) ≡ record { window = window; rest = rest; count = made }
  pub shape : window.shape ≡ w.shape
  pub next : window.next ≡ w.next + 1
  pub measured : window.measured ≡ w.measured
  pub held : rest ≡ true → Held T P window st rides true

-- THE FIRST LIST, where only changes count: from what opened, and from what stands in the arrays after grow
module _ (P : Plan) (n sheet : ℕ) (st₁ : State) (nodes marks edges : List ℕ) (G : Grows P n sheet st₁ (state_of nodes marks edges)) (fits : sheet ≤ n)
    (opened : ℕ) (old : List ℕ) (were : List Bool) (O : Openings P n st₁ (state_of nodes marks edges) opened old were)
    (changes : Bool) (c : changes ≡ true) (count : ℕ) (lists : List ℕ) (queued : List Bool) (W : Worked P n sheet changes opened nodes marks edges old count lists queued) where
  is-reset : (x : ℕ) → within n x ≡ true → cuts_at P n sheet st₁ x ≡ true → get_or marks x 0 ≡ reset_code
  is-reset x i t = G.mark x i ∙ ap (λ (b : Bool). if b reset_code (st₁.mark x)) t

  low : (x : ℕ) → cuts_at P n sheet st₁ x ≡ true → margin + n - sheet ≤ x
  low x t = leb-true (margin + n - sheet) x (halves (leb (margin + n - sheet) x) (P.falls (st₁.pointer x)) t).0

  pub work-enlists : Enlists P n sheet st₁ (state_of nodes marks edges) count (list_at lists 0)
  work-enlists =
      record {
        places = W.places;
        opened = λ x k i l a b. W.kept x (O.opened x k i l a b);
        cut = λ x i t. W.reset c x i (low x t) (is-reset x i t);
        near = λ x k i l t o. W.near c x k i l (low x t) (is-reset x i t) o;
        received = λ i l d. W.received c i l (G.defect (entry i) (within_by n (entry i) (omega arith) (omega arith)) ∙ d);
      }

module _ (P : Plan) (sh : Shape) (next : ℕ) (second : Bool) (there : second ≡ second_there sh.distance next) (bytes : List ℕ) (rides quiet : Bool) (st : State) (st₁ : State)
    (A₁ : Sinks (of_model sh.model) sh.height sh.distance P second bytes st st₁)
    (z : Sizes) (sizes : z ≡ sizes_of (of_model sh.model) sh.height sh.distance) where
  module _ (w : Window) (shape : w.shape ≡ sh) (next-is : w.next ≡ next) (H : Held (of_model sh.model) P w st rides quiet) where
    abbrev T : Table
    T = of_model sh.model

    is-there : second ≡ second_there w.shape.distance w.next
    is-there = rw (shape, next-is) there

    size_is : z.nodes ≡ size w
    size_is = ap (λ (y : Sizes). y.nodes) sizes ∙ ap (λ (s : Shape). nodes_of s.height s.distance) (sym shape)

    sheet-is : z.sheet ≡ sheet w
    sheet-is = ap (λ (y : Sizes). y.sheet) sizes ∙ ap (λ (s : Shape). s.height * (s.distance + 1)) (sym shape)

    sinks : Sinks (of_model sh.model) w.shape.height w.shape.distance P (second_there w.shape.distance w.next) bytes st st₁
    sinks = subst (λ (b : Bool). Sinks T w.shape.height w.shape.distance P b bytes st st₁) is-there (subst (λ (s : Shape). Sinks T s.height s.distance P second bytes st st₁) (sym shape) A₁)

    -- after the round a window stands in the arrays
    pub turned-standing : Standing P z.nodes z.sheet st₁
    unfolding rounded
    turned-standing = (
      T,
      suited-model sh.model,
      rounded T w bytes,
      sym size_is,
      sym sheet-is,
      kept-round T (suited-model sh.model) w H.kept bytes H.rest,
      H.planned,
      sinks-shows T (suited-model sh.model) w H.kept H.rest bytes P H.planned st H.shows st₁ sinks,
    )

    -- AFTER GROW
    module _ (nodes marks edges : List ℕ) (A₂ : Grows P z.nodes z.sheet st₁ (state_of nodes marks edges)) where
      abbrev st₂ : State
      st₂ = state_of nodes marks edges

      grows : Grows P (size w) (sheet w) st₁ (state_of nodes marks edges)
      grows = subst (λ (m : ℕ). Grows P m (sheet w) st₁ st₂) size_is (subst (λ (m : ℕ). Grows P z.nodes m st₁ st₂) sheet-is A₂)

      -- what lies over an open edge is a node
      inside-size : (x : ℕ) → within (size w) x ≡ true → Inside P (λ e. growth_of (get_or edges e 0)) x P.dirs (size w)
      unfolding grown rounded
      inside-size =
          open-inside T (suited-model sh.model) P (grown T (rounded T w bytes)) st₂ (turn-kept T (suited-model sh.model) P w st rides quiet H bytes st₁ sinks st₂ grows) H.planned
          (turn-shows T (suited-model sh.model) P w st rides quiet H bytes st₁ sinks st₂ grows)

      pub turned-inside : (x : ℕ) → within z.nodes x ≡ true → Inside P (λ e. growth_of (get_or edges e 0)) x P.dirs z.nodes
      turned-inside x i =
          subst (λ (m : ℕ). Inside P (λ e. growth_of (get_or edges e 0)) x P.dirs m) (sym size_is) (inside-size x (subst (λ (m : ℕ). within m x ≡ true) size_is i))

      -- WITH A WORK LIST
      module _ (fits : z.sheet ≤ z.nodes) (opened : ℕ) (old : List ℕ) (were : List Bool) (O : Openings P z.nodes st₁ (state_of nodes marks edges) opened old were)
          (count : ℕ) (lists : List ℕ) (queued : List Bool) (W : Worked P z.nodes z.sheet (rides && quiet) opened nodes marks edges old count lists queued) where
        abbrev list : ℕ → ℕ
        list = list_at lists 0

        enlists : (rides && quiet) ≡ true → Enlists P (size w) (sheet w) st₁ (state_of nodes marks edges) count (list_at lists 0)
        enlists c =
            subst (λ (m : ℕ). Enlists P m (sheet w) st₁ st₂ count list) size_is
            (subst (λ (m : ℕ). Enlists P z.nodes m st₁ st₂ count list) sheet-is
            (work-enlists P z.nodes z.sheet st₁ nodes marks edges A₂ fits opened old were O (rides && quiet) c count lists queued W))

        every : (rides && quiet) ≡ false → (g : ℕ) → g < size w → named (list_at lists 0) count (entry g) ≡ true
        every f g l = W.all f g (rw size_is l)

        -- the steps begin
        turned-going : Going (of_model sh.model) P (grown (of_model sh.model) (rounded (of_model sh.model) w bytes)) (state_of nodes marks edges) rides count (list_at lists 0)
        turned-going =
            turn-going T (suited-model sh.model) P w st rides quiet H bytes st₁ sinks st₂ grows count list (subst (λ (m : ℕ). Places m count list) size_is W.places) enlists every

        same_size : size (grown (of_model sh.model) (rounded (of_model sh.model) w bytes)) ≡ z.nodes
        unfolding grown rounded
        same_size = sym size_is

        pub turned-shown : Shown P z.nodes (state_of nodes marks edges) rides count (list_at lists 0)
        turned-shown = (T, suited-model sh.model, grown T (rounded T w bytes), same_size, turned-going)

        -- and end
        module _ (rest : Bool) (made : ℕ) (st₃ : State) (E : Ended P z.nodes 65536 (state_of nodes marks edges) rides count (list_at lists 0) rest made st₃) where
          over : Over (of_model sh.model) P 65536 (steps_from (of_model sh.model) 65536 0 (grown (of_model sh.model) (rounded (of_model sh.model) w bytes))) rides (grown (of_model sh.model) (rounded (of_model sh.model) w bytes)) rest made st₃
          over = E T (suited-model sh.model) (grown T (rounded T w bytes)) same_size turned-going

          same_shape : over.window.shape ≡ w.shape
          unfolding grown rounded
          same_shape = over.shape

          later : over.window.next ≡ w.next + 1
          unfolding grown rounded
          later = over.next

          same-measured : over.window.measured ≡ w.measured
          unfolding grown rounded
          same-measured = over.measured

          pub turned : Turned (of_model sh.model) P w bytes rides rest made st₃
          turned =
              record {
                window = over.window;
                equals = ran-round T 65536 w bytes ∙ over.equals;
                shape = same_shape;
                next = later;
                measured = same-measured;
                held = λ r.
                    record {
                      kept = over.kept;
                      rest = over.still r;
                      planned = subst (λ (s : Shape). Planned T s.height s.distance P) (sym same_shape) H.planned;
                      shows = over.shows;
                      riding = over.riding;
                      all_quiet = λ t u. over.quiet r t;
                    };
              }

-- WHAT IS LEFT IN THE ARRAYS, whichever window they held
pub record TurnLeaves (P : Plan) (sh : Shape) (next : ℕ) (bytes : List ℕ) (st : State) (rides quiet rest : Bool) (made : ℕ)
    (arrays : Arrays) (work : Work) : Type 0 where
  pub long : Long arrays.nodes arrays.marks arrays.edges
  pub scratch : Scratch work
  pub turns : (w : Window) → w.shape ≡ sh → w.next ≡ next → Held (of_model sh.model) P w st rides quiet → Turned (of_model sh.model) P w bytes rides rest made (state_in arrays)

-- no edge goes up from the top sheet of a window that is held
pub held-above : (P : Plan) (sh : Shape) (next : ℕ) (nodes marks edges : List ℕ) (rides quiet : Bool) → HeldAt P sh next (state_of nodes marks edges) rides quiet
    → NoneAbove (of_model sh.model) sh.height sh.distance edges
held-above P sh next nodes marks edges rides quiet H =
    subst (λ (s : Shape). NoneAbove (of_model sh.model) s.height s.distance edges) H.1 (none_above (of_model sh.model) (suited-model sh.model) H.0 H.3.kept nodes marks edges H.3.shows)
