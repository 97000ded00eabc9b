mod Traversed
mod EmptyForms
mod EmptyRules
mod LoopForms
mod CornerForms
mod RecursionForms
mod CornerFacts
mod ReferenceForms
mod CornerEdges
mod CountForms
mod BodyForms
pub mod Lent
