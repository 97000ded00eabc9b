mod RecordLemmas
mod TableLemmas
mod TextIndexLemmas
mod KeptLemmas
pub mod Lent
