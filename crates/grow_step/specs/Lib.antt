-- what grow asks of the arrays, and what it leaves on the work list
pub mod Standing
pub mod Openings
