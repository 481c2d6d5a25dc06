-- The count of a layer's edges, by the table of a model. Assumes nothing.
use Rattle.layers.proofs.Document.{count-model}

pub ruleset counted = (count-model)
