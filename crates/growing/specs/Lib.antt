-- the list of active nodes, what grow makes of an edge and of a bottom node, and what it leaves
pub mod Grown
-- how its loops prove it
pub mod LawsListed
pub mod LawsGrown
pub mod LawsCut
