pub use Rattle.faults.specs.Memory
pub use Rattle.reduce_rounds.specs as ReduceRounds
pub use Rattle.worker_pool.specs as WorkerPool
pub mod Seen
pub mod Run
pub mod Faults
pub mod Records
pub mod Workers
pub mod RunEnds
pub mod inner
