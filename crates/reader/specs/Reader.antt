-- The reader that carries its stream. Assumes nothing.
use Rattle.refusal.specs.Answer.{Answer, next_or}
use Rattle.reader.specs.declared.Reader.{Reader}

-- the reader behind what is done; where nothing is, as it was
abbrev pub moved : {A : Type 0} → Reader → Answer A → Reader
moved r a = record { src = r.src; at = next_or a r.at }
