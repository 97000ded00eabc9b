mod GrowingLists
mod FoundLemmas
mod InMode
mod EndsLemmas
