pub mod LawsFresh
