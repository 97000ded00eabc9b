mod ByteLaws
mod RoundLemmas
mod Ready
mod Spellings
