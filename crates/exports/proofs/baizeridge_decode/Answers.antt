-- `exports::baizeridge_decode` meets its contract. Assumes nothing.
use Rattle.exports.specs.Laws.{decode-out}
use Rattle.exports.proofs.baizeridge_decode.Goals as goal

pub returns : goal.returns
returns c = decode-out c.args.place.now c.decode-given.ensures c.ending.ensures
