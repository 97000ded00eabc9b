-- What contracts see of each form of pattern, as equations.
use Rattle.std.proofs.Common.{◌≡◌, ℕ, Box, Global, Vec, sym, ap, ◌∙◌}
use Rattle.cases_languages.specs.Patterns as plain
use Rattle.cases_languages.specs.View.{pattern, node_pattern}
use Rattle.cases_languages.specs.declared.pattern.Pattern.{Pattern, Pattern-F, fold-roll-Pattern}
use Rattle.cases_languages.specs.declared.pattern.Pattern.TheVariants.{Empty, One, Rule, Plus, rolls-Empty, rolls-One, rolls-Rule, rolls-Plus}

pub pattern-Empty : pattern Empty ≡ plain.Pattern.empty
pattern-Empty = ap pattern (sym rolls-Empty) ∙ fold-roll-Pattern plain.Pattern node_pattern Pattern-F.Empty

pub pattern-One : (ranges : Vec (ℕ × ℕ) Global) → pattern (One ranges) ≡ plain.Pattern.one ranges.items
pattern-One ranges = ap pattern (sym (rolls-One ranges)) ∙ fold-roll-Pattern plain.Pattern node_pattern (Pattern-F.One ranges)

pub pattern-Rule : (r : ℕ) → pattern (Rule r) ≡ plain.Pattern.rule r
pattern-Rule r = ap pattern (sym (rolls-Rule r)) ∙ fold-roll-Pattern plain.Pattern node_pattern (Pattern-F.Rule r)

pub pattern-Plus : (a : Box Pattern Global) → pattern (Plus a) ≡ plain.Pattern.plus (pattern a.value)
pattern-Plus a = ap pattern (sym (rolls-Plus a)) ∙ fold-roll-Pattern plain.Pattern node_pattern (Pattern-F.Plus a)
