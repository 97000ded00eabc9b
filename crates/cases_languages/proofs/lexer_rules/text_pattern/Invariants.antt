use Rattle.std.proofs.Common.{◌≡◌, drop}
use Rattle.cases_languages.specs.Spelled.{spelled_text}
use Rattle.cases_languages.specs.View.{pattern}
use Rattle.cases_languages.proofs.lexer_rules.text_pattern.Given as goal

abbrev pub invariant-loop-i : goal.invariant-loop-i
invariant-loop-i l = pattern l.whole ≡ spelled_text (drop l.i l.characters.items)
