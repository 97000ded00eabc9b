mod NamedSets
mod Replaced
mod RuleSteps
mod TermRules
mod GroupSteps
mod NewNames
mod Assembly
