mod KindLists
mod Adding
mod Places
mod TokenKinds
mod Literals
mod LiteralKinds
pub mod Lent
