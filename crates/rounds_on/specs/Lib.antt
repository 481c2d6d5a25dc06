-- what a record makes of the rounds, and what holds between two records
pub mod Laid
pub mod Passing
pub mod Rounds
