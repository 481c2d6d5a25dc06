pub mod Printed
pub mod LawsTurn
pub mod Resumed
pub mod Lengths
pub mod LawsDecoding
