mod CallLemmas
mod GrammarLemmas
mod TextLemmas
pub mod Lent
