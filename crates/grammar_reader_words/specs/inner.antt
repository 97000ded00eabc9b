pub mod Cursor
pub mod Next
pub mod Parts
pub mod Spans
pub mod Words
