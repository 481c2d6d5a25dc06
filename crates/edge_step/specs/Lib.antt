-- the listed nodes
pub mod Listed
-- words that tell
pub mod Each
-- what becomes of correction bits in a merging step
pub mod Edges
pub mod LawsEdges
