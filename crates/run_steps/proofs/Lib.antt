-- a merging step over a part of the lists
pub mod Listed
