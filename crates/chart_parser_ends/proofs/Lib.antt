mod Rising
mod Exactly
mod Spans
mod SymbolEnds
mod Pooled
mod Numbered
mod Linked
mod AllPositions
mod Greatest
mod Choosing
mod Optionally
mod Repeating
mod Beginning
mod Going
mod FirstKinds
mod FirstRows
pub mod Lent
