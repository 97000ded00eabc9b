pub mod Terms
pub mod OneChar
