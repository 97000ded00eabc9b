pub use Rattle.cert_check.specs as CertCheck
pub use Rattle.command_check.specs.Check
pub use Rattle.command_normal.specs as CommandNormal
pub use Rattle.command_selftest.specs.Selftest
pub use Rattle.command_reduce.specs as CommandReduce
pub mod Call
pub mod Confirmed
pub mod Headline
pub mod Workers
pub mod inner
