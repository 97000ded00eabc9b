pub mod Workers
pub mod RunEnds
