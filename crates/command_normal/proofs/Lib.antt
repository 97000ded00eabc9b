mod NormalLemmas
mod NormalByStatusLemmas
pub mod Lent
