-- The loop of `scan::scan`: what was read is the rounds so far, up to the offset, and fewer bytes are left each time.
use Rattle.std.specs.Prelude.{◌≡◌, ◌-◌, length, Ok}
use Rattle.scan.specs.Reached.{Reached}
use Rattle.scan.proofs.scan.Given as goal

abbrev pub invariant-loop-reader : goal.invariant-loop-reader
invariant-loop-reader g l = (l.reader.src.now ≡ l.src) × Reached g.K.Kind.kind l.src (Ok (l.shape, l.rounds)) l.reader.at

abbrev pub decreases-loop-reader : goal.decreases-loop-reader
decreases-loop-reader g l = length l.src - l.reader.at
