-- when a plan is right, and when a state shows a window
pub mod Planned
pub mod Shows
-- a merging step reads open edges only, where pointers ride
pub mod Open
pub mod Riding
-- nodes that a step leaves as they are, and so what a work list may leave out
pub mod Quiet
pub mod Calm
-- the machine reads what stands in the window, and its rule is the window's
pub mod Same
-- a pass over a work list is a merging step
pub mod Named
pub mod Pass
-- grow
pub mod Sheets
pub mod Grown
-- round
pub mod Sinks
-- from a window to arrays, and back
pub mod There
pub mod Written
pub mod Unpack
-- a fresh window, and what leaves with a round
pub mod Fresh
pub mod Leaves
-- a turn, from rest to rest
pub mod Rested
pub mod Changed
pub mod Turn
pub mod Run
-- a window of unknown origin
pub mod Tests
