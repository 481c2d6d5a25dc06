-- how nodes, marks and edges are written as numbers, and where they stand
pub mod Codes
pub mod LawsCodes
pub mod Entries
pub mod LawsEntries
pub mod Plan
-- what a merging step makes of one node, and what it leaves over a work list
pub mod Rule
pub mod Step
-- loops that store: one entry after the other, or at the places of a list
pub mod Stored
pub mod LawsStored
-- entries taken together
pub mod Together
pub mod Laid
-- readings stay in the arrays
pub mod Bounds
pub mod Structs
