-- Beside `../Twins.antt`: what private functions and proofs need.
use Rattle.std.specs.Prelude.{◌≡◌, ◌⊎◌, ℕ, ◌<◌, ◌≤◌, Option, Some, length, position, slice_get}
use Rattle.grammar_tree.specs.Kinds.{rule_name}
use Rattle.grammar_tree.specs.Written.{WrittenRule, WrittenGrammar}
use Rattle.grammar_check_parser_rules.specs.Rules.{has_key}
use Rattle.grammar_check_parser_rules.specs.declared.rules.Key.TheVariants.{Name}
use Rattle.grammar_check_faults.specs.Twins.{IsTwinAt}

-- Of the rules before an index, those whose name an earlier rule has have it from this
-- first one or from later ones; and this one, where it is a rule, has a twin.
pub record AreFirstSoFar (G : WrittenGrammar) (first index : ℕ) : Type 0 where
  pub least : (k p : ℕ) (rule : WrittenRule) → k < index → slice_get G.rules k ≡ Some rule → position (has_key Name (rule_name rule)) G.rules ≡ Some p → p < k
      → first ≤ p
  pub twin : first < length G.rules → IsTwinAt G first

-- The least of an index and of another one, where that is before a limit.
pub record IsEarliest (other : Option ℕ) (limit first least : ℕ) : Type 0 where
  pub below : least ≤ first
  pub counts : (p : ℕ) → other ≡ Some p → p < limit → least ≤ p
  pub is : (least ≡ first) ⊎ ((other ≡ Some least) × (least < limit))
