pub mod RunEnds
pub mod UnderWay
pub mod Runs
pub mod Work
pub mod Ends
