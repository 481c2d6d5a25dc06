-- A round of the stream received and run: no call refuses it, and what leaves can be written. Assumes nothing.
use Rattle.std.specs.Prelude.{ℕ, ◌≡◌, Bool, List, replicate}
use Rattle.refusal.specs.Answer.{done}
use Rattle.layers.specs.Layers.{layer_edges}
use Rattle.shape.specs.Sizes.{detectors_of}
use Rattle.steps.specs.Steps.{Table}
use Rattle.record.specs.Records.{round_at}
use Rattle.window.specs.Lists.{by_place, bit}
use Rattle.window.specs.Calls.{Round, round_call, run_call}
use Rattle.window.specs.declared.Ran.{Ran}
use Rattle.window.specs.declared.Window.{Window}
use Rattle.decoding.specs.Decoding.{budget, Turn}

-- THE SIZES of a sheet and of a layer

abbrev pub detectors : Window → ℕ
detectors w = detectors_of w.shape.height w.shape.distance

abbrev pub edges : Table → Window → ℕ
edges T w = layer_edges T w.shape.height w.shape.distance

-- WHAT LEAVES has its size, and each byte is 0 or 1

-- bytes by a rule of bits
pub record Bits (n : ℕ) (xs : List ℕ) : Type 0 where
  pub rule : ℕ → Bool
  pub bytes : xs ≡ by_place n (λ k. bit (rule k))

-- WHAT A TURN WAS MADE OF: a round read, received and run
pub record TurnMade (T : Table) (s : List ℕ) (w : Window) (at : ℕ) (t : Turn) (next : ℕ) : Type 0 where
  pub sheet : List ℕ
  pub round : Round
  pub run : Ran
  pub reads : round_at s (detectors w) at ≡ done sheet next
  pub receives : (z : ℕ) × (round_call T w sheet (replicate {A = ℕ} (edges T w) 0) (replicate {A = ℕ} (detectors w) 0) ≡ done round z)
  pub runs : (z : ℕ) × (run_call T round.window budget ≡ done run z)
  pub gives : record { window = run.window; result = record { edges = round.edges; escapes = round.escapes; steps = run.count }; rest = run.rest } ≡ t
