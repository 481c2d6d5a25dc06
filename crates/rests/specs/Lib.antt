-- the statement
pub mod Rests
-- a run; a decoding, round after round; the steps of each record; and the proof
pub mod Runs
pub mod Records
pub mod Steps
pub mod Theorem
-- a window that no calls leave, from which a round is spent
pub mod SpentWitness
