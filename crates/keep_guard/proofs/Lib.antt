mod KeepLemmas
pub mod Lent
