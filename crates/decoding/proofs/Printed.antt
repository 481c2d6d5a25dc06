-- THE PRINTED LINES of document 01 that are to be proved, with S-4's model behind the distance, on the rules themselves; a session that shows absent rounds,
-- and one of model 1. Assumes nothing.
use Rattle.std.specs.Prelude.{refl}
use Rattle.trip.specs.Printed as stream
use Rattle.decoding.specs.Printed.{Budgets, Printed, opened, third}

pub printed : Printed
unfolding opened
printed = record { first = refl; second = refl; tie = refl; absent = refl; diagonal = refl; streams = stream.printed }

pub budgets : Budgets
unfolding opened third
budgets = record { rest = refl; rest-steps = refl; spent = refl; spent-steps = refl; one_more = refl }
