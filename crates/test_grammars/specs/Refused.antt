-- Why a text gives no checked grammar.
use Rattle.std.specs.Prelude.{ℕ, ◌≤◌, ◌^◌, List, Option, length}
use Rattle.grammar_load.specs.Answer.{IsGrammarFault}
use Rattle.test_grammars.specs.declared.reading.Refused.{Refused}
use Rattle.test_grammars.specs.declared.reading.Refused.TheVariants.{TooLong, Faulty}

-- The text is too long, or this is its first fault.
abbrev pub IsRefused : List ℕ → Option (List ℕ) → Refused → Type 0
IsRefused text wanted TooLong = 2 ^ 32 ≤ length text
IsRefused text wanted (Faulty fault) = IsGrammarFault text wanted fault
