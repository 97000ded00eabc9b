pub mod Order
pub mod Names
pub mod Compile
pub mod GrammarNfa
