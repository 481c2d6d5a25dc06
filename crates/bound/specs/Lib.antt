-- the statement
pub mod Bound
-- counting
pub mod Count
-- one merging step as functions of a node, and the four phases of a merging stage
pub mod MergingStep
pub mod Resets
pub mod Levels
pub mod Depth
pub mod Defects
pub mod Activity
-- the window's merging step is such a step
pub mod Merged
-- the phases one after another
pub mod Runs
pub mod Phases
-- windows that calls reach, the steps of a stage over the calls that make them, and the proof
pub mod Reachable
-- from a node to its root
pub mod ToRoot
-- steps by value, and a window that no calls reach
pub mod Witness
pub mod Circling
