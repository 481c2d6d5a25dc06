-- when nothing leaves, and what a window's arrays have of what does
pub mod Left
pub mod LawsLeft
