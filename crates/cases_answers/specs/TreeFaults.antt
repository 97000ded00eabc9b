-- Why a text has no language, and why a text or a list of kinds has no answer. Out of memory says nothing of them.
use Rattle.std.specs.Prelude.{ℕ, ◌≤◌, ◌^◌, ⊤, List, None, length}
use Rattle.std.specs.Str.{chars}
use Rattle.grammar_tree.specs.Written.{WrittenGrammar}
use Rattle.grammar_tree.specs.Lexes.{StopsAt}
use Rattle.test_grammars.specs.Refused.{IsRefused}
use Rattle.cases_answers.specs.StartTree.{HasKinds}
use Rattle.cases_answers.specs.declared.fault.LanguageFault.{LanguageFault}
use Rattle.cases_answers.specs.declared.fault.LanguageFault.TheVariants as language
use Rattle.cases_answers.specs.declared.fault.TreeFault.{TreeFault}
use Rattle.cases_answers.specs.declared.fault.TreeFault.TheVariants.{LongText, NoToken, LongList, Memory}

-- The bytes spell no well-formed grammar.
abbrev pub IsLanguageFault : List ℕ → LanguageFault → Type 0
IsLanguageFault text (language.Refused refused) = IsRefused text None refused
IsLanguageFault text (language.Memory memory) = ⊤

-- The list has too many kinds.
abbrev pub IsListFault : List ℕ → TreeFault → Type 0
IsListFault kinds LongList = 2 ^ 32 ≤ length kinds
IsListFault kinds (Memory memory) = ⊤
IsListFault kinds _ = ⊥

-- The bytes are too many, or are cut into pieces up to the offset, where no rule matches, or are cut into too many tokens.
abbrev pub IsTextFault : WrittenGrammar → List ℕ → TreeFault → Type 0
IsTextFault G text LongText = 2 ^ 32 ≤ length text
IsTextFault G text (NoToken offset) = StopsAt G (chars text) offset
IsTextFault G text LongList = (kinds : List ℕ) × HasKinds G (chars text) kinds × (2 ^ 32 ≤ length kinds)
IsTextFault G text (Memory memory) = ⊤
