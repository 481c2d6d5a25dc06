-- A WINDOW AT REST that the machine's arrays hold between two rounds, and the turn to the next one: round, grow, and a first work list. Where
-- pointers ride on open edges and every node is quiet, the list names what changed; where not, all nodes are listed. Assumes nothing.
use Rattle.std.specs.Prelude.{ℕ, ◌<◌, ◌≡◌, refl, Bool, true, false, ◌&&◌, List}
use Rattle.shape.specs.Choice.{whether}
use Rattle.shape.proofs.Ranges.{halves}
use Rattle.shape.specs.Sizes.{IsShape}
use Rattle.shape.specs.declared.Shape.{Shape}
use Rattle.steps.specs.Steps.{Table}
use Rattle.steps.specs.Suited.{Suited}
use Rattle.window.specs.Fresh.{fresh_window}
use Rattle.window.specs.Grow.{grown}
use Rattle.window.specs.LawsLists.{and-not}
use Rattle.window.specs.Round.{rounded}
use Rattle.window.specs.Window.{is_merging, size, sheet}
use Rattle.window.specs.declared.Window.{Window}
use Rattle.closure.specs.Closure.{Kept, kept_fresh, kept-round, kept-grow}
use Rattle.flat.specs.Entries.{State, entry}
use Rattle.flat.specs.Plan.{Plan}
use Rattle.flat.specs.Step.{named, Places}
use Rattle.shows.specs.Planned.{Planned}
use Rattle.shows.specs.Shows.{Shows}
use Rattle.shows.specs.Riding.{Riding}
use Rattle.shows.specs.Quiet.{Covers}
use Rattle.shows.specs.Pass.{Going}
use Rattle.shows.proofs.Pass.{cover_all}
use Rattle.shows.specs.Grown.{Grows}
use Rattle.shows.proofs.Grown.{riding-grown, grown-shows}
use Rattle.shows.proofs.Lowered.{aloft-round}
use Rattle.shows.specs.Sinks.{second_there, Sinks}
use Rattle.shows.proofs.Sinks.{sinks-shows}
use Rattle.shows.specs.Changed.{Enlists}
use Rattle.shows.proofs.Changed.{enlists-covers}
use Rattle.shows.specs.Fresh.{Blank}
use Rattle.shows.proofs.Fresh.{fresh-riding, fresh-quiet, fresh-shows}
use Rattle.shows.specs.Turn.{Held}

pub fresh-held : (T : Table) (sh : Shape) → IsShape sh → (P : Plan) → Planned T sh.height sh.distance P
    → (st : State) → Blank P (size (fresh_window T sh)) st → Held T P (fresh_window T sh) st true true
unfolding fresh_window
fresh-held T sh range P N st A =
    record {
      kept = kept_fresh T sh range;
      rest = refl;
      planned = N;
      shows = fresh-shows T sh range.sizes P N st A;
      riding = λ t. fresh-riding T sh;
      all_quiet = λ t u. fresh-quiet T sh;
    }

-- A LIST OF ALL NODES, for a window of unknown origin
module _ (T : Table) (w : Window) (count : ℕ) (list : ℕ → ℕ) (all : (g : ℕ) → g < size w → named list count (entry g) ≡ true) where
  pub going-all : (P : Plan) (st : State) (rides : Bool) → Kept T w → is_merging w.stage ≡ true → Planned T w.shape.height w.shape.distance P → Shows T w st
      → Places (size w) count list → (rides ≡ true → Riding T w) → Going T P w st rides count list
  going-all P st rides k m N H P' R =
      record {
        kept = k;
        merging = m;
        planned = N;
        shows = H;
        places = P';
        covers = cover_all T w (λ g. named list count (entry g)) all;
        riding = R;
        all = λ e. all;
      }

-- ROUND AND GROW
module _ (T : Table) (S : Suited T) (P : Plan) (w : Window) (st : State) (rides quiet : Bool) (H : Held T P w st rides quiet) (bytes : List ℕ)
    (st₁ : State) (A₁ : Sinks T w.shape.height w.shape.distance P (second_there w.shape.distance w.next) bytes st st₁)
    (st₂ : State) (A₂ : Grows P (size w) (sheet w) st₁ st₂) where
  abbrev w₁ : Window
  w₁ = rounded T w bytes

  pub round-kept : Kept T (rounded T w bytes)
  round-kept = kept-round T S w H.kept bytes H.rest

  pub round-shows : Shows T (rounded T w bytes) st₁
  round-shows = sinks-shows T S w H.kept H.rest bytes P H.planned st H.shows st₁ A₁

  pub turn-kept : Kept T (grown T (rounded T w bytes))
  turn-kept = kept-grow T S w₁ round-kept

  pub turn-shows : Shows T (grown T (rounded T w bytes)) st₂
  unfolding rounded
  turn-shows = grown-shows T S w₁ round-kept P H.planned st₁ round-shows st₂ A₂

  turn-riding : rides ≡ true → Riding T (grown T (rounded T w bytes))
  turn-riding t = riding-grown T S w₁ round-kept (aloft-round T S w H.kept bytes (H.riding t))

  -- AND A WORK LIST
  module _ (count : ℕ) (list : ℕ → ℕ) (places : Places (size w) count list) (enlists : (rides && quiet) ≡ true → Enlists P (size w) (sheet w) st₁ st₂ count list)
      (all : (rides && quiet) ≡ false → (g : ℕ) → g < size w → named list count (entry g) ≡ true) where
    turn-covers : Covers T (grown T (rounded T w bytes)) (λ g. named list count (entry g))
    unfolding grown rounded
    turn-covers =
        whether (rides && quiet)
        (λ t.
        let r = halves rides quiet t in
        enlists-covers T S w H.kept H.rest (H.riding r.0) (H.all_quiet r.0 r.1) bytes P H.planned st₁ round-shows st₂ turn-shows count list (enlists t))
        (λ t. cover_all T (grown T w₁) (λ g. named list count (entry g)) (all t))

    pub turn-going : Going T P (grown T (rounded T w bytes)) st₂ rides count list
    unfolding grown rounded
    turn-going =
        record {
          kept = turn-kept;
          merging = refl;
          planned = H.planned;
          shows = turn-shows;
          places = places;
          covers = turn-covers;
          riding = turn-riding;
          all = λ e. all (and-not rides quiet e);
        }
