-- THE ACCOUNT'S TERMS ARE MET, by value, in document 01's first session: the defect that its first round brings, in round 3, is the one that the
-- edge in the fourth result ends at. One result earlier nothing accounts for it. And in a session of model 1: the edge in its fourth result is a
-- diagonal, which ends at both its defects, in rounds 3 and 4. Assumes nothing.
use Rattle.std.specs.Prelude.{ℕ, ◌≡◌, true, false, List, [], ◌∷◌}
use Rattle.shape.specs.declared.Shape.{Shape}
use Rattle.record.specs.Records.{Result}
use Rattle.trip.specs.Streams.{Stream, input_bytes, result_bytes}
use Rattle.law.specs.Law.{Spot}
use Rattle.law.specs.Witness.{spot}
use Rattle.decoding.specs.Decoding.{decoded}
use Rattle.decoding.specs.Printed.{gives}
use Rattle.account.specs.Account.{received_in, ending_in, escaped_in}

abbrev shape : Shape
shape = record { height = 1; distance = 3; model = 0 }

abbrev pub input : Stream (List ℕ)
input = record { shape = shape; records = (1 ∷ 0 ∷ []) ∷ (0 ∷ 0 ∷ []) ∷ (0 ∷ 0 ∷ []) ∷ (0 ∷ 0 ∷ []) ∷ [] }

-- a result with edge 0 or without, detector 0 escaped or not, and so many steps
abbrev gave : ℕ → ℕ → ℕ → Result
gave edge escape steps = record { edges = edge ∷ 0 ∷ 0 ∷ 0 ∷ 0 ∷ []; escapes = escape ∷ 0 ∷ []; steps = steps }

abbrev with : List Result → Stream Result
with results = record { shape = shape; records = results }

abbrev pub output : Stream Result
output = with (gave 0 0 2 ∷ gave 0 0 1 ∷ gave 0 0 4 ∷ gave 1 0 2 ∷ [])

-- one result earlier
abbrev pub earlier : Stream Result
earlier = with (gave 0 0 2 ∷ gave 0 0 1 ∷ gave 0 0 4 ∷ [])

-- another fourth result, by hand, that would have the defect escape
abbrev pub escaping : Stream Result
escaping = with (gave 0 0 2 ∷ gave 0 0 1 ∷ gave 0 0 4 ∷ gave 0 1 2 ∷ [])

pub record First : Type 0 where
  pub decodes : decoded (input_bytes input) 65536 ≡ gives (result_bytes output)
  pub received : received_in input spot ≡ 1
  pub committed : ending_in output spot ≡ 1
  pub kept : escaped_in output spot ≡ false
  -- three results do not settle round 3
  pub not_yet : ending_in earlier spot ≡ 0
  pub nor-escaped : escaped_in earlier spot ≡ false
  -- an escape counts as well as an edge
  pub no-edge : ending_in escaping spot ≡ 0
  pub escapes : escaped_in escaping spot ≡ true

-- MODEL 1: 2 by 3, a defect at the first detector and, a round later, one at the last

abbrev shape1 : Shape
shape1 = record { height = 2; distance = 3; model = 1 }

abbrev pub input1 : Stream (List ℕ)
input1 = record { shape = shape1; records = (1 ∷ 0 ∷ 0 ∷ 0 ∷ []) ∷ (0 ∷ 0 ∷ 0 ∷ 1 ∷ []) ∷ (0 ∷ 0 ∷ 0 ∷ 0 ∷ []) ∷ (0 ∷ 0 ∷ 0 ∷ 0 ∷ []) ∷ [] }

-- a result with edge 16, the layer's only SEU, or without, and so many steps
abbrev gave1 : ℕ → ℕ → Result
gave1 edge steps = record {
  edges = 0 ∷ 0 ∷ 0 ∷ 0 ∷ 0 ∷ 0 ∷ 0 ∷ 0 ∷ 0 ∷ 0 ∷ 0 ∷ 0 ∷ 0 ∷ 0 ∷ 0 ∷ 0 ∷ edge ∷ [];
  escapes = 0 ∷ 0 ∷ 0 ∷ 0 ∷ [];
  steps = steps;
}

abbrev pub output1 : Stream Result
output1 = record { shape = shape1; records = gave1 0 2 ∷ gave1 0 2 ∷ gave1 0 5 ∷ gave1 1 2 ∷ [] }

-- its lower end, and its upper one
abbrev pub lower : Spot
lower = record { round = 3; row = 0; column = 1 }

abbrev pub upper : Spot
upper = record { round = 4; row = 1; column = 2 }

pub record Diagonal : Type 0 where
  pub decodes : decoded (input_bytes input1) 65536 ≡ gives (result_bytes output1)
  pub received : received_in input1 lower ≡ 1
  pub received-next : received_in input1 upper ≡ 1
  pub committed : ending_in output1 lower ≡ 1
  pub committed-next : ending_in output1 upper ≡ 1
