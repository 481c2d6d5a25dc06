-- what the arrays hold before a turn, and what it leaves
pub mod Ready
pub mod Turned
