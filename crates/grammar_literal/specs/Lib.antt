pub mod Literal
