mod StaysLemmas
mod NameLemmas
mod OpeningLemmas
