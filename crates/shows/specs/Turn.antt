-- A WINDOW AT REST that the machine's arrays hold between two rounds, and the turn to the next one: round, grow, and a first work list. Where
-- pointers ride on open edges and every node is quiet, the list names what changed; where not, all nodes are listed. Assumes nothing.
use Rattle.std.specs.Prelude.{◌≡◌, Bool, true}
use Rattle.steps.specs.Steps.{Table}
use Rattle.window.specs.Window.{is_rest}
use Rattle.window.specs.declared.Window.{Window}
use Rattle.closure.specs.Closure.{Kept}
use Rattle.flat.specs.Entries.{State}
use Rattle.flat.specs.Plan.{Plan}
use Rattle.shows.specs.Planned.{Planned}
use Rattle.shows.specs.Shows.{Shows}
use Rattle.shows.specs.Riding.{Riding}
use Rattle.shows.specs.Quiet.{AllQuiet}

-- where pointers ride and quiet says so, every node is quiet
pub record Held (T : Table) (P : Plan) (w : Window) (st : State) (rides quiet : Bool) : Type 0 where
  pub kept : Kept T w
  pub rest : is_rest w.stage ≡ true
  pub planned : Planned T w.shape.height w.shape.distance P
  pub shows : Shows T w st
  pub riding : rides ≡ true → Riding T w
  pub all_quiet : rides ≡ true → quiet ≡ true → AllQuiet T w
