mod SeenForms
mod FirstForms
mod LexerChecks
mod FoundFirst
mod Twins
mod EofForms
mod FindForms
mod IndexForms
mod UnknownForms
mod AnswerForms
mod StartForms
pub mod Lent
