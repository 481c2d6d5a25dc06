-- a list of nodes with a flag for each node
pub mod Queue
pub mod LawsTrues
pub mod LawsNamed
pub mod LawsPush
pub mod LawsEmpty
pub mod LawsParts
