-- Rules of one name.
use Rattle.std.specs.Prelude.{◌≡◌, ℕ, Some, slice_get}
use Rattle.grammar_tree.specs.Faults.{TwoRules}
use Rattle.grammar_tree.specs.Kinds.{rule_name}
use Rattle.grammar_tree.specs.Written.{WrittenRule, WrittenGrammar}

-- Another rule has the name of the rule at this index.
abbrev pub IsTwinAt : WrittenGrammar → ℕ → Type 0
IsTwinAt G i = (rule : WrittenRule) × (slice_get G.rules i ≡ Some rule) × TwoRules G (rule_name rule)
