pub mod Offsets
pub mod Joins
pub mod Models
pub mod Moves
pub mod LawsStep
pub mod Suits
