-- THE MACHINE'S RULE IS THE WINDOW'S: for every node of a state that shows a well-formed window in stage merging. Assumes nothing.
use Prim.Native.Nat.{ℕ}
use Rattle.std.proofs.Math.Bool.{true}
use Rattle.window.specs.declared.Stepped.{Stepped}
use Rattle.flat.specs.Codes.{mark_of}
use Rattle.flat.specs.Entries.{State}
use Rattle.flat.specs.Plan.{Plan}
use Rattle.flat.specs.Rule.{flood_of, active_after, defect_after, unrooted_after, busy_at}

-- what becomes of the node at an entry
abbrev pub next_at : Plan → State → ℕ → Stepped
next_at P st x =
    record {
      node = record {
        active = active_after P st x;
        defect = defect_after P st true x;
        unrooted = unrooted_after P st x;
        pointer = (flood_of P st x).pointer;
        mark = mark_of (flood_of P st x).mark;
      };
      busy = busy_at P st x;
    }
