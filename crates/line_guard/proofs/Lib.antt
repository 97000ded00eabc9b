mod EndsLemmas
mod FlagLemmas
mod LineParts
mod NothingLemmas
mod NumberLemmas
mod WishLemmas
pub mod Lent
