mod States
mod StateSets
mod Steps
mod Living
mod Cuts
mod Seeing
mod Best
mod Found
mod Traced
mod Outcomes
mod Walked
pub mod Lent
