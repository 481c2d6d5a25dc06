-- a round's edges by entries
pub mod Edges
-- what the loops prove of them, and what follows
pub mod LawsEdges
