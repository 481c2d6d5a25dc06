-- what moves down, and how
pub mod Sunk
pub mod LawsSunk
