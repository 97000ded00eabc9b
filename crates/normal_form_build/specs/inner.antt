pub mod Terms
pub mod Numbers
pub mod ParserRules
pub mod OwnRules
