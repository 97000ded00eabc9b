pub mod Productive
pub mod Expected
pub mod Walk
pub mod Following
