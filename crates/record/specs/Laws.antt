-- Laws of what the calls cite, for those who use the definitions. Assumes nothing.
use Rattle.std.specs.Prelude.{ℕ, ◌≡◌, List}
use Rattle.refusal.specs.Answer.{Answer, done, and_then}
use Rattle.number.specs.Number.{number_at}
use Rattle.list.specs.Sheet.{list_at}
use Rattle.record.specs.Records.{Result, result_from}

-- what is done with the edges, with the escapes, and with the steps
abbrev pub on_steps : List ℕ → List ℕ → ℕ → ℕ → Answer Result
on_steps committed escaped steps behind = done (record { edges = committed; escapes = escaped; steps = steps }) behind

abbrev pub on_escapes : List ℕ → List ℕ → List ℕ → ℕ → Answer Result
on_escapes s committed escaped last = and_then (number_at s last) (on_steps committed escaped)

abbrev pub on_edges : List ℕ → ℕ → List ℕ → ℕ → Answer Result
on_edges s detectors committed next = and_then (list_at s detectors next) (on_escapes s committed)

-- the parts of a round that can be read
pub record ResultParts (s : List ℕ) (edges detectors at : ℕ) : Type 0 where
  pub committed : List ℕ
  pub next : ℕ
  pub escaped : List ℕ
  pub last : ℕ
  pub steps : ℕ
  pub behind : ℕ
  pub edges-read : list_at s edges at ≡ done committed next
  pub escapes-read : list_at s detectors next ≡ done escaped last
  pub whole : result_from s edges detectors at ≡ done (record { edges = committed; escapes = escaped; steps = steps }) behind
