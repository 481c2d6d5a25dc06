-- What a caller in C sees of an answer: one number for how the call ended, the place that it lent, and the values that it lent. Assumes nothing.
use Rattle.std.specs.Prelude.{ℕ}
use Rattle.refusal.specs.Answer.{Answer, by_code, status, place_or, value_or, itself}
use Rattle.shape.specs.declared.Shape.{Shape}
use Rattle.scan.specs.Scanned.{Scanned}
use Rattle.decoding.specs.Decoding.{Line, finished, turned_back, spent}

pub record Reply : Type 0 where
  pub status : ℕ
  pub place : ℕ

abbrev pub reply : ℕ → ℕ → Reply
reply n place = record { status = n; place = place }

-- 0 done, 255 no bytes left, else the refusal's number; the place takes the offset behind the record, or that of the number's first byte, where there is one
abbrev pub replied : {A : Type 0} → Answer A → ℕ → Reply
replied a place = reply (status a) (place_or a place)

-- A VALUE, which takes what is done, and stays as it was where nothing is

pub record ValueOut : Type 0 where
  pub reply : Reply
  pub value : ℕ

abbrev pub value_out : Reply → ℕ → ValueOut
value_out r value = record { reply = r; value = value }

abbrev pub value_by : Answer ℕ → ℕ → ℕ → ValueOut
value_by a value place = value_out (replied a place) (value_or a itself value)

-- A SHAPE, and with it a count of rounds

pub record HeaderOut : Type 0 where
  pub reply : Reply
  pub height : ℕ
  pub distance : ℕ
  pub model : ℕ

abbrev pub header_out : Reply → ℕ → ℕ → ℕ → HeaderOut
header_out r height distance model = record { reply = r; height = height; distance = distance; model = model }

abbrev pub header_by : Answer Shape → ℕ → ℕ → ℕ → ℕ → HeaderOut
header_by a height distance model place =
    header_out
    (replied a place)
    (value_or a (λ (sh : Shape). sh.height) height)
    (value_or a (λ (sh : Shape). sh.distance) distance)
    (value_or a (λ (sh : Shape). sh.model) model)

pub record ScanOut : Type 0 where
  pub reply : Reply
  pub height : ℕ
  pub distance : ℕ
  pub model : ℕ
  pub rounds : ℕ

abbrev pub scan_out : Reply → ℕ → ℕ → ℕ → ℕ → ScanOut
scan_out r height distance model rounds = record { reply = r; height = height; distance = distance; model = model; rounds = rounds }

abbrev pub scan_by : Answer Scanned → ℕ → ℕ → ℕ → ℕ → ℕ → ScanOut
scan_by a height distance model rounds place =
    scan_out
    (replied a place)
    (value_or a (λ (t : Scanned). t.shape.height) height)
    (value_or a (λ (t : Scanned). t.shape.distance) distance)
    (value_or a (λ (t : Scanned). t.shape.model) model)
    (value_or a (λ (t : Scanned). t.rounds) rounds)

-- A DECODING

-- 0 at the input's end, 254 with a round that is spent, else as its refusal
abbrev pub concluded : Line → ℕ → Reply
concluded finished place = reply 0 place
concluded spent place = reply 254 place
concluded (turned_back c) place = replied (by_code {A = Unit {0}} c) place

-- the count takes the length of what was written, however the decoding ended
abbrev pub count_by : Line → ℕ → ℕ → ValueOut
count_by l written place = value_out (concluded l place) written
