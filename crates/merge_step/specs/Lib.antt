-- a merging step over a work list, as the machine's arrays have it
pub mod Pass
pub mod LawsPass
