-- A RUN OF MERGING STEPS on the machine's arrays: what it asks of them, and what it leaves, for every window that they show. Assumes nothing.
use Rattle.std.specs.Prelude.{ℕ, ◌+◌, ◌-◌, ◌≤◌, ◌<◌, ◌≡◌, refl, Bool, true, false, List, ◌⊎◌, eqb, length, get_or}
use Rattle.std.proofs.Common.{arith, sym, ◌∙◌, ap, subst, inl, inr, ⊎_elim}
use Rattle.refusal.specs.Laws.{undone}
use Rattle.shape.specs.Sizes.{nodes_of}
use Rattle.shape.specs.declared.Shape.{Shape}
use Rattle.steps.specs.Steps.{Table}
use Rattle.steps.specs.Suited.{Suited}
use Rattle.window.specs.Run.{steps_from}
use Rattle.window.specs.Window.{size}
use Rattle.window.specs.declared.Window.{Window}
use Rattle.flat.specs.Codes.{growth_of}
use Rattle.flat.specs.Entries.{State, within, over_by, state_of, Long}
use Rattle.flat.specs.Plan.{Plan}
use Rattle.flat.specs.Step.{list_at, Places, Passed, Follows}
use Rattle.queue.specs.Queue.{Queue, Empty, Inside}
use Rattle.node_step.specs.Words.{stir_in}
use Rattle.next_list.specs.Next.{Next}
use Rattle.next_list.specs.LawsNext.{follows}
use Rattle.merge_step.specs.Pass.{AllLong, PassLeaves}
use Rattle.shows.specs.Pass.{Going}
use Rattle.shows.specs.Run.{Underway, Over}
use Rattle.shows.proofs.Run.{run-starts, run-spent, run-rests, run-goes}
use Rattle.run_steps.specs.Inside.{open-inside}

-- some window of n nodes is shown, by some table, with a list that covers
abbrev pub Shown : Plan → ℕ → State → Bool → ℕ → (ℕ → ℕ) → Type 0
Shown P n st rides count list = (T : Table) × Suited T × (w : Window) × (size w ≡ n) × Going T P w st rides count list

-- whatever window was shown, by whatever table
abbrev pub Each : Plan → ℕ → State → Bool → ℕ → (ℕ → ℕ) → (Table → Window → Type 0) → Type 0
Each P n st rides count list A = (T : Table) → Suited T → (w : Window) → size w ≡ n → Going T P w st rides count list → A T w

-- THE RUN IS OVER
abbrev pub Ended : Plan → ℕ → ℕ → State → Bool → ℕ → (ℕ → ℕ) → Bool → ℕ → State → Type 0
Ended P n budget st rides count list rest made st' = Each P n st rides count list (λ T w. Over T P budget (steps_from T budget 0 w) rides w rest made st')

-- a work list stands at 0 or at 4,608, and the next one at the other
abbrev pub Half : ℕ → Type 0
Half from = (from ≡ 0) ⊎ (from ≡ 4608)

-- IT GOES ON: so many steps were made
pub record Middle (P : Plan) (n budget : ℕ) (st₀ : State) (rides : Bool) (count₀ : ℕ) (list₀ : ℕ → ℕ)
    (made from count : ℕ) (nodes marks edges words lists : List ℕ) (queued : List Bool) : Type 0 where
  pub all-long : AllLong nodes marks edges words
  pub half : Half from
  pub queue : Queue from count lists queued
  pub each : Each P n st₀ rides count₀ list₀ (λ T w. Underway T P budget (steps_from T budget 0 w) rides w made (state_of nodes marks edges) count (list_at lists from))

module _ (P : Plan) (n budget : ℕ) (rides : Bool) where
  abbrev nodes_in : Shape → ℕ
  nodes_in sh = nodes_of sh.height sh.distance

  -- some window is shown between two steps, too
  pub still-shown : (st₀ : State) (count₀ : ℕ) (list₀ : ℕ → ℕ) → Shown P n st₀ rides count₀ list₀ → (made count : ℕ) (st : State) (list : ℕ → ℕ)
      → Each P n st₀ rides count₀ list₀ (λ T w. Underway T P budget (steps_from T budget 0 w) rides w made st count list) → Shown P n st rides count list
  still-shown st₀ count₀ list₀ s made count st list u =
      let v = u s.0 s.1 s.2 s.3 s.4 in
      (s.0, s.1, v.window, ap nodes_in v.shape ∙ s.3, v.going)

  module _ (st : State) (count : ℕ) (list : ℕ → ℕ) (s : Shown P n st rides count list) where
    pub shown-places : Places n count list
    shown-places = subst (λ (m : ℕ). Places m count list) s.3 s.4.places

    -- also by another account of the same growth
    pub shown-inside : (growth : ℕ → ℕ) → ((e : ℕ) → growth e ≡ st.growth e) → (dirs : ℕ) → P.dirs ≡ dirs → (i : ℕ) → i < count → Inside P growth (list i) dirs n
    shown-inside growth e dirs d i l k m o =
        let G = s.4 in
        let m' : k < P.dirs = omega arith in
        let r = open-inside s.0 s.1 P s.2 st G.kept G.planned G.shows (list i) (G.places i l) k m' (ap (λ (v : ℕ). eqb v 2) (sym (e (over_by (list i) (P.slot k)))) ∙ o) in
        subst (λ (m : ℕ). within m (over_by (list i) (P.off k)) ≡ true) s.3 r

-- a run stopped, with its last list on the queue
pub record Stopped (P : Plan) (n budget : ℕ) (st₀ : State) (rides : Bool) (count₀ : ℕ) (list₀ : ℕ → ℕ) (rest : Bool) (made from count : ℕ)
    (nodes marks edges words lists : List ℕ) (queued : List Bool) : Type 0 where
  pub all-long : AllLong nodes marks edges words
  pub half : Half from
  pub queue : Queue from count lists queued
  pub places : Places n count (list_at lists from)
  pub ended : Ended P n budget st₀ rides count₀ list₀ rest made (state_of nodes marks edges)

-- and with none on it
pub record Finished (P : Plan) (n budget : ℕ) (st₀ : State) (rides : Bool) (count₀ : ℕ) (list₀ : ℕ → ℕ) (rest : Bool) (made : ℕ)
    (nodes marks edges words lists : List ℕ) (queued : List Bool) : Type 0 where
  pub long : Long nodes marks edges
  pub words_long : length words ≡ 4608
  pub lists-long : length lists ≡ 13824
  pub empty : Empty queued
  pub ended : Ended P n budget st₀ rides count₀ list₀ rest made (state_of nodes marks edges)

-- HALVES

pub half-low : (from : ℕ) → Half from → from ≤ 4608
half-low from h = ⊎_elim (λ e. omega arith) (λ e. omega arith) h

pub half-other : (from : ℕ) → Half from → Half (4608 - from)
half-other from h = ⊎_elim (λ e. inr (omega arith)) (λ e. inl (omega arith)) h

pub half-apart : (from : ℕ) → Half from → (from + 4608 ≤ 4608 - from) ⊎ (4608 - from + 4608 ≤ from)
half-apart from h = ⊎_elim (λ e. inl (omega arith)) (λ e. inr (omega arith)) h

-- THE LOOP

module _ (P : Plan) (n budget : ℕ) (rides : Bool) (st₀ : State) (count₀ : ℕ) (list₀ : ℕ → ℕ) where
  pub starts : (nodes marks edges words lists : List ℕ) (queued : List Bool) → st₀ ≡ state_of nodes marks edges → list₀ ≡ list_at lists 0 → AllLong nodes marks edges words → Queue 0 count₀ lists queued
      → Middle P n budget st₀ rides count₀ list₀ 0 0 count₀ nodes marks edges words lists queued
  starts nodes marks edges words lists queued e f s q =
      record {
        all-long = s;
        half = inl refl;
        queue = q;
        each = λ T S w a G. rw (← e, ← f) (run-starts T P budget (steps_from T budget 0 w) rides w st₀ count₀ list₀ G refl);
      }

  module _ (s : Shown P n st₀ rides count₀ list₀) (made from count : ℕ) (nodes marks edges words lists : List ℕ) (queued : List Bool)
      (M : Middle P n budget st₀ rides count₀ list₀ made from count nodes marks edges words lists queued) where
    abbrev st : State
    st = state_of nodes marks edges

    abbrev list : ℕ → ℕ
    list = list_at lists from

    pub now-shown : Shown P n (state_of nodes marks edges) rides count (list_at lists from)
    now-shown = still-shown P n budget rides st₀ count₀ list₀ s made count st list M.each

    pub now-places : Places n count (list_at lists from)
    now-places = shown-places P n budget rides st count list now-shown

    -- the budget is spent
    pub over-spent : budget ≤ made → Stopped P n budget st₀ rides count₀ list₀ false made from count nodes marks edges words lists queued
    over-spent l =
        record {
          all-long = M.all-long;
          half = M.half;
          queue = M.queue;
          places = now-places;
          ended = λ T S w a G. run-spent T P budget (steps_from T budget 0 w) rides w made st count list (M.each T S w a G) l;
        }

    -- ONE STEP
    module _ (l : made < budget) (busy : Bool) (nodes' marks' edges' words' : List ℕ) (L : PassLeaves P st count list n busy nodes' marks' edges' words') where
      abbrev st' : State
      st' = state_of nodes' marks' edges'

      passed-in : (w : Window) → size w ≡ n → Passed P st count list (size w) st'
      passed-in w a = subst (λ (m : ℕ). Passed P st count list m st') (sym a) L.passed

      pub over-rests : busy ≡ false → Stopped P n budget st₀ rides count₀ list₀ true (made + 1) from count nodes' marks' edges' words' lists queued
      over-rests b =
          record {
            all-long = L.all-long;
            half = M.half;
            queue = M.queue;
            places = now-places;
            ended = λ T S w a G.
                run-rests T P budget (steps_from T budget 0 w) rides w S made st count list (M.each T S w a G) l st' (passed-in w a) (sym L.is-busy ∙ b);
          }

      pub goes_same : busy ≡ true → rides ≡ false → Middle P n budget st₀ rides count₀ list₀ (made + 1) from count nodes' marks' edges' words' lists queued
      goes_same b f =
          record {
            all-long = L.all-long;
            half = M.half;
            queue = M.queue;
            each = λ T S w a G.
                run-goes T P budget (steps_from T budget 0 w) rides w S made st count list (M.each T S w a G) l st' (passed-in w a) count list
                (λ t. absurd (undone (sym t ∙ f))) (λ t. (refl, λ i h. refl)) (sym L.is-busy ∙ b);
          }

      -- what the next list asks for
      pub now-inside : (dirs : ℕ) → P.dirs ≡ dirs → (i : ℕ) → i < count → Inside P (λ e. growth_of (get_or edges' e 0)) (list_at lists from i) dirs n
      now-inside dirs d i h = shown-inside P n budget rides st count list now-shown (λ e. growth_of (get_or edges' e 0)) (λ e. L.passed.growth e) dirs d i h

      pub goes_on_lem : busy ≡ true → rides ≡ true → (to more : ℕ) (lists' : List ℕ) (queued' : List Bool) → to ≡ 4608 - from
          → Next P (λ e. growth_of (get_or edges' e 0)) n list (λ i. stir_in (get_or words' i 0)) count to more lists lists' queued'
          → Middle P n budget st₀ rides count₀ list₀ (made + 1) to more nodes' marks' edges' words' lists' queued'
      goes_on_lem b t to more lists' queued' e N =
          let h = half-low from M.half in
          record {
            all-long = L.all-long;
            half = subst Half (sym e) (half-other from M.half);
            queue = N.queue;
            each = λ T S w a G.
                run-goes T P budget (steps_from T budget 0 w) rides w S made st count list (M.each T S w a G) l st' (passed-in w a) more (list_at lists' to)
                (λ r.
                subst (λ (m : ℕ). Follows P st count list m more (list_at lists' to)) (sym a)
                (follows P (λ e. growth_of (get_or edges' e 0)) n list (λ i. stir_in (get_or words' i 0)) to lists st count more lists' queued' N (λ e. L.passed.growth e) L.stirring))
                (λ f. absurd (undone (sym t ∙ f))) (sym L.is-busy ∙ b);
          }
