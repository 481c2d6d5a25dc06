-- what becomes of a round that was run, and of one record
pub mod RecordOf
pub mod RecordOn
