pub mod Nodes
pub mod Verdicts
pub mod Texts
pub mod Results
pub mod Found
pub mod RoundsOf
pub mod Ends
