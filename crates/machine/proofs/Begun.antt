-- A RUN BEGINS with the window that is grown, where that is due, and a list of all nodes; its end is packed. Assumes nothing.
use Prim.Native.Nat.{ℕ, ◌+◌, ◌<◌}
use mathlib.Core.Path.{◌≡◌, refl, sym, ◌∙◌, ap, subst}
use mathlib.Core.Bool.{Bool, true, false}
use mathlib.Core.List.{List}
use Rattle.shape.specs.Choice.{if}
use Rattle.shape.specs.Sizes.{nodes_of}
use Rattle.shape.specs.declared.Shape.{Shape}
use Rattle.steps.specs.Steps.{Table}
use Rattle.steps.specs.Models.{of_model}
use Rattle.steps.proofs.Models.{suited-model}
use Rattle.window.specs.Lists.{every}
use Rattle.window.specs.Window.{is_rest, is_to_grow, is_merging, size, sheet}
use Rattle.window.specs.Grow.{grown}
use Rattle.window.specs.Run.{steps_from, ran}
use Rattle.window.specs.declared.Ran.{Ran}
use Rattle.window.specs.declared.Stage.{Stage}
use Rattle.window.specs.declared.Stage.TheVariants.{Rest, Merging}
use Rattle.window.specs.declared.Window.{Window}
use Rattle.closure.specs.Closure.{Kept, kept-grow}
use Rattle.flat.specs.Entries.{State, entry, state_of}
use Rattle.flat.specs.Plan.{Plan, plan_of}
use Rattle.flat.specs.Step.{named, list_at, Places}
use Rattle.flat.specs.declared.Sizes.{Sizes}
use Rattle.shows.specs.Planned.{Planned}
use Rattle.shows.specs.Shows.{Shows, window_of}
use Rattle.shows.specs.Unpack.{window-shown}
use Rattle.shows.specs.Riding.{Riding}
use Rattle.shows.specs.Grown.{Grows}
use Rattle.shows.proofs.Grown.{grown-shows, riding-grown}
use Rattle.shows.proofs.Tests.{riding-by, aloft-by}
use Rattle.shows.specs.Pass.{Going}
use Rattle.shows.proofs.Turn.{going-all}
use Rattle.window.specs.LawsRun.{ran-grown, ran-merging}
use Rattle.shows.specs.Run.{Over}
use Rattle.plan.specs.Table.{sizes_of}
use Rattle.plan.specs.Filled.{Filled}
use Rattle.unpack.specs.Rides.{rides_in}
use Rattle.unpack.specs.Unpacked.{Unpacked}
use Rattle.enlist.specs.Enlisted.{Enlisted}
use Rattle.run_steps.specs.Going.{Shown, Ended}
use Rattle.machine.specs.Due.{Due}
use Rattle.machine.proofs.Packed.{shown}
use Rattle.machine.proofs.Stages.{is-merging, stage-after}

same-window : (T : Table) {sh sh' : Shape} {s s' : Stage} {n n' : ℕ} {m m' : List Bool} → sh ≡ sh' → s ≡ s' → n ≡ n' → m ≡ m' → (st : State) → window_of T sh s n m st ≡ window_of T sh' s' n' m' st
same-window T a b c d st = rw (a, b, c, d)

-- the window whose steps a run makes
pub record Begun (w : Window) (rides : Bool) (st : State) : Type 0 where
  pub window : Window
  pub runs : (budget : ℕ) → ran (of_model w.shape.model) budget w ≡ steps_from (of_model w.shape.model) budget 0 window
  pub shape : window.shape ≡ w.shape
  pub next : window.next ≡ w.next
  pub measured : window.measured ≡ w.measured
  pub kept : Kept (of_model w.shape.model) window
  pub merging : is_merging window.stage ≡ true
  pub shows : Shows (of_model w.shape.model) window st
  pub riding : rides ≡ true → Riding (of_model w.shape.model) window

module _ (w : Window) (z : Sizes) (e : z ≡ sizes_of (of_model w.shape.model) w.shape.height w.shape.distance) (table : List ℕ) (F : Filled (of_model w.shape.model) w.shape.height w.shape.distance table)
    (k : Kept (of_model w.shape.model) w) where
  abbrev z₀ : Sizes
  z₀ = sizes_of (of_model w.shape.model) w.shape.height w.shape.distance

  module _ (nodes marks edges : List ℕ) (U : Unpacked (of_model w.shape.model) w nodes marks edges) where
    abbrev st : State
    st = state_of nodes marks edges

    abbrev P₀ : Plan
    P₀ = plan_of z₀ table

    H : Shows (of_model w.shape.model) w st
    H = shown w z e table F k nodes marks edges U

    module _ (rides : Bool) (st' : State) where
      grown-begun : is_to_grow w.stage ≡ true → rides ≡ every (size w) (λ g. rides_in z₀ true nodes edges table (entry g)) → Grows P₀ (size w) (sheet w) st st' → Begun w rides st'
      unfolding grown
      grown-begun t r A =
          record {
            window = grown (of_model w.shape.model) w;
            runs = λ budget. ran-grown (of_model w.shape.model) budget w t;
            shape = refl;
            next = refl;
            measured = refl;
            kept = kept-grow (of_model w.shape.model) (suited-model w.shape.model) w k;
            merging = refl;
            shows = grown-shows (of_model w.shape.model) (suited-model w.shape.model) w k P₀ F.planned st H st' A;
            riding = λ u. riding-grown (of_model w.shape.model) (suited-model w.shape.model) w k (aloft-by (of_model w.shape.model) (suited-model w.shape.model) w k P₀ F.planned st H (sym r ∙ u));
          }

      merging-begun : is_rest w.stage ≡ false → is_to_grow w.stage ≡ false → rides ≡ every (size w) (λ g. rides_in z₀ false nodes edges table (entry g)) → st' ≡ st → Begun w rides st'
      merging-begun m t r same =
          record {
            window = w;
            runs = λ budget. ran-merging (of_model w.shape.model) budget w t;
            shape = refl;
            next = refl;
            measured = refl;
            kept = k;
            merging = is-merging w.stage m t;
            shows = subst (λ (s : State). Shows (of_model w.shape.model) w s) (sym same) H;
            riding = λ u. riding-by (of_model w.shape.model) (suited-model w.shape.model) w k P₀ F.planned st H (sym r ∙ u);
          }

      pub begun : (count : ℕ) (lists : List ℕ) (queued : List Bool) (due : Bool) → due ≡ is_to_grow w.stage → is_rest w.stage ≡ false → rides ≡ every z.nodes (λ g. rides_in z due nodes edges table (entry g))
          → Due due (plan_of z table) z.nodes z.sheet (state_of nodes marks edges) st' count lists queued → Begun w rides st'
      begun count lists queued due d m r D =
          go due d
          (subst (λ (s : Sizes). rides ≡ every s.nodes (λ g. rides_in s due nodes edges table (entry g))) e r)
          (subst (λ (s : Sizes). Due due (plan_of s table) s.nodes s.sheet st st' count lists queued) e D)
        where
          go : (due : Bool) → due ≡ is_to_grow w.stage → rides ≡ every (size w) (λ g. rides_in z₀ due nodes edges table (entry g)) → Due due P₀ (size w) (sheet w) st st' count lists queued → Begun w rides st'
          go true d r D = grown-begun (sym d) r (D.grows refl)
          go false d r D = merging-begun m (sym d) r (D.same refl)

  -- WITH A LIST OF ALL NODES
  module _ (rides : Bool) (st : State) (B : Begun w rides st) (start : ℕ) (old lists : List ℕ) (queued : List Bool) (count : ℕ)
      (E : Enlisted z.nodes start old (λ i. true) (λ i. 512 + i) z.nodes count lists queued) where
    abbrev list : ℕ → ℕ
    list = list_at lists 0

    abbrev nodes_in : Shape → ℕ
    nodes_in sh = nodes_of sh.height sh.distance

    same_size : size B.window ≡ z.nodes
    same_size = ap nodes_in B.shape ∙ ap (λ (s : Sizes). s.nodes) (sym e)

    all_named : (g : ℕ) → g < size B.window → named list count (entry g) ≡ true
    all_named g l = E.names g (subst (λ (n : ℕ). g < n) same_size l) refl

    planned : Planned (of_model w.shape.model) B.window.shape.height B.window.shape.distance (plan_of z table)
    planned =
        subst (λ (sh : Shape). Planned (of_model w.shape.model) sh.height sh.distance (plan_of z table)) (sym B.shape)
        (subst (λ (s : Sizes). Planned (of_model w.shape.model) w.shape.height w.shape.distance (plan_of s table)) (sym e) F.planned)

    going : Going (of_model w.shape.model) (plan_of z table) B.window st rides count list
    going =
        going-all (of_model w.shape.model) B.window count list all_named (plan_of z table) st rides B.kept B.merging planned B.shows
        (subst (λ (n : ℕ). Places n count list) (sym same_size) E.listing.places) B.riding

    pub some-shown : Shown (plan_of z table) z.nodes st rides count (list_at lists 0)
    some-shown = (of_model w.shape.model, suited-model w.shape.model, B.window, same_size, going)

    -- THE END IS PACKED
    module _ (budget : ℕ) (rest : Bool) (made : ℕ) (st' : State) (ended : Ended (plan_of z table) z.nodes budget st rides count (list_at lists 0) rest made st') where
      over : Over (of_model w.shape.model) (plan_of z table) budget (steps_from (of_model w.shape.model) budget 0 B.window) rides B.window rest made st'
      over = ended (of_model w.shape.model) (suited-model w.shape.model) B.window same_size going

      abbrev v : Window
      v = over.window

      stage_is : v.stage ≡ if rest Rest Merging
      stage_is = subst (λ (r : Ran). r.window.stage ≡ if r.rest Rest Merging) over.equals (stage-after (of_model w.shape.model) budget 0 B.window B.merging)

      packed-is : window_of (of_model w.shape.model) w.shape (if rest Rest Merging) w.next w.measured st' ≡ v
      packed-is =
          same-window (of_model w.shape.model) (sym (over.shape ∙ B.shape)) (sym stage_is) (sym (over.next ∙ B.next)) (sym (over.measured ∙ B.measured)) st' ∙ window-shown (of_model w.shape.model) v over.kept st' over.shows

      pub run-packed : (stage : Stage) → stage ≡ if rest Rest Merging → (r : Window) → r ≡ window_of (of_model w.shape.model) w.shape stage w.next w.measured st'
          → ◌≡◌ {A = Ran} (record { window = r; rest = rest; count = made }) (ran (of_model w.shape.model) budget w)
      run-packed stage s r p =
          ap (λ (x : Window). record { window = x; rest = rest; count = made }) (p ∙ ap (λ (x : Stage). window_of (of_model w.shape.model) w.shape x w.next w.measured st') s ∙ packed-is)
          ∙ sym (B.runs budget ∙ over.equals)
