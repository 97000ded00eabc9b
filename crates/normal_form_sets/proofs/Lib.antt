mod Lacking
mod SetSteps
pub mod Lent
