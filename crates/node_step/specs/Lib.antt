-- what becomes of a node, in a word
pub mod Words
pub mod After
