mod CallLemmas
mod Contents
pub mod Lent
mod Starts
