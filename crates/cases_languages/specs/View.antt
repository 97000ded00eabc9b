-- What contracts see of a pattern in memory.
use Rattle.cases_languages.specs.Patterns as plain
use Rattle.cases_languages.specs.declared.pattern.Pattern.{Pattern}
use Rattle.cases_languages.specs.declared.pattern.Pattern.TheOpen.{Pattern-F}
use Rattle.cases_languages.specs.declared.pattern.Pattern.TheFolds.{fold-Pattern}

abbrev pub node_pattern : Pattern-F plain.Pattern → plain.Pattern
node_pattern Pattern-F.Never = plain.Pattern.never
node_pattern Pattern-F.Empty = plain.Pattern.empty
node_pattern (Pattern-F.One ranges) = plain.Pattern.one ranges.items
node_pattern (Pattern-F.Rule r) = plain.Pattern.rule r
node_pattern (Pattern-F.Seq a b) = plain.Pattern.seq a.value b.value
node_pattern (Pattern-F.Alt a b) = plain.Pattern.alt a.value b.value
node_pattern (Pattern-F.Plus a) = plain.Pattern.plus a.value

abbrev pub pattern : Pattern → plain.Pattern
pattern = fold-Pattern plain.Pattern node_pattern
