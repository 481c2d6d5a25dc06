-- What it means that the rules keep something of a list of calls. Assumes nothing.
use Rattle.std.specs.Prelude.{ℕ, ◌≡◌, true, List, [], ◌∷◌, ◌++◌}
use Rattle.list.specs.Sheet.{are_bits}
use Rattle.steps.specs.Steps.{Table}
use Rattle.window.specs.Window.{is_rest, is_to_grow, is_merging}
use Rattle.window.specs.Round.{rounded, committed_edges, escaped_defects}
use Rattle.window.specs.Measured.{measuring}
use Rattle.window.specs.Grow.{grown}
use Rattle.window.specs.Merging.{merged}
use Rattle.window.specs.declared.Window.{Window}
use Rattle.closure.specs.Closure.{Kept}
use Rattle.law.specs.Law.{Played, Receipt}

-- another window, no receipt
abbrev pub with_window : Played → Window → Played
with_window p w = record { window = w; receipts = p.receipts; last_raw = p.last_raw }

-- a round received, with its receipt
abbrev pub receipt_for : Table → Window → List ℕ → Receipt
receipt_for T w defects = record { defects = defects; edges = committed_edges T w; escapes = escaped_defects w }

abbrev pub taken : Table → Played → List ℕ → Played
taken T p defects =
    record { window = rounded T p.window defects; receipts = p.receipts ++ (receipt_for T p.window defects ∷ []); last_raw = p.last_raw }

-- the last measured sheet replaced
abbrev pub replaced : Played → List ℕ → Played
replaced p bytes = record { window = measuring p.window bytes; receipts = p.receipts; last_raw = bytes }

-- what the rules keep, each where its call is not refused; a raw round is a round of the differences, and then the sheet is replaced
pub record Invariant (T : Table) (I : Played → Type 0) : Type 0 where
  pub round : (p : Played) (defects : List ℕ) → Kept T p.window → is_rest p.window.stage ≡ true → are_bits defects ≡ true → I p → I (taken T p defects)
  pub replace : (p : Played) (bytes : List ℕ) → I p → I (replaced p bytes)
  pub grow : (p : Played) → Kept T p.window → is_to_grow p.window.stage ≡ true → I p → I (with_window p (grown T p.window))
  pub merging : (p : Played) → Kept T p.window → is_merging p.window.stage ≡ true → I p → I (with_window p (merged T p.window))
