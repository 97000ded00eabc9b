use Rattle.std.proofs.Common.{◌≡◌}
use Rattle.cases_languages.proofs.lexer_rules.characters.Given as goal

abbrev pub invariant-loop-c : goal.invariant-loop-c
invariant-loop-c l = l.list.items ≡ l.yielded
