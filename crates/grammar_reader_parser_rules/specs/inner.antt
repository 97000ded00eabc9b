pub mod Terms
pub mod References
