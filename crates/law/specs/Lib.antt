-- the statement, and its terms met by value
pub mod Law
pub mod Witness
pub mod RawWitness
-- the ends of an edge, a cluster at rest and a measured sheet in plain numbers
pub mod Everywhere
pub mod Bits
pub mod Spots
pub mod Plain
