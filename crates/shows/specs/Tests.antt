-- A WINDOW OF UNKNOWN ORIGIN: one test over all entries tells whether its pointers ride. Assumes nothing.
use Rattle.std.specs.Prelude.{ℕ, ◌-◌, Bool, ◌||◌, eqb}
use Rattle.flat.specs.Entries.{State, over_by}
use Rattle.flat.specs.Plan.{Plan}

-- the pointer of an entry is C or goes over an open edge
abbrev pub rides_at : Plan → State → ℕ → Bool
rides_at P st x = eqb (st.pointer x) 0 || eqb (st.growth (over_by x (P.slot (st.pointer x - 1)))) 2
