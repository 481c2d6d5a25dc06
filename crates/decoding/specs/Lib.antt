pub mod Decoding
pub mod Answers
pub mod LawsTurn
pub mod LawsDecoding
pub mod Printed
pub mod Lengths
