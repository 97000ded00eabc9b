-- What is looked up while the rules of a parser rule's terms are made.
use Rattle.std.specs.Prelude.{◌≡◌, ℕ, ◌<◌, ◌^◌, List, length, slice_index}
use Rattle.grammar_tree.specs.Written.{WrittenGrammar}
use Rattle.grammar_tree.specs.Kinds.{any_kinds}
use Rattle.grammar_tree.specs.Derives.{bodies}
use Rattle.normal_form.specs.NormalOf.{own_rule, sets_of}
use Rattle.normal_form_sets.specs.Sets.{SetsOfKinds}

-- The numbers are those of the parser rules' own rules, and the sets those of the grammar.
pub record AreNumbersOf (G : WrittenGrammar) (own_rules : List ℕ) (sets : SetsOfKinds) : Type 0 where
  pub known : length own_rules ≡ length (bodies G)
  pub own_rules_are : (r : ℕ) → r < length (bodies G) → slice_index own_rules r ≡ own_rule (bodies G) r
  pub all_are : sets.all ≡ any_kinds G
  pub sets_are : sets.sets ≡ sets_of (bodies G)
  pub few_sets : length sets.sets < 2 ^ 32
