mod CallLemmas
mod FileLemmas
mod KeepLemmas
pub mod Lent
