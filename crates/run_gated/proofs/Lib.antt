mod RunLemmas
mod ShareLemmas
mod PoolLemmas
mod AllLemmas
pub mod Lent
