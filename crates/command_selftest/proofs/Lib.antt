mod SelftestLemmas
pub mod Lent
