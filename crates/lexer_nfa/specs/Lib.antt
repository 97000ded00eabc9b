pub mod Order
pub mod GrammarNfa
pub mod inner
