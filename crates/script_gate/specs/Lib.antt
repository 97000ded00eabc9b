pub use Rattle.edge_io.specs.Calls
pub mod Script
