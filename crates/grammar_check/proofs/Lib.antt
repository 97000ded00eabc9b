mod KindForms
mod Table
mod CheckForms
mod MessageForms
pub mod Lent
