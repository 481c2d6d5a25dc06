-- what the loops over kinds leave of a window's edges
pub mod Packed
