mod Cons
mod Producing
mod Viable
mod Growing
mod Alternatives
mod Walking
mod Tokens
