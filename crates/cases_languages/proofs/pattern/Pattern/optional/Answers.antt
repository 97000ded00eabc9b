use Rattle.std.proofs.Common.{ap, ◌∙◌}
use Rattle.cases_languages.specs.Patterns as plain
use Rattle.cases_languages.specs.View.{pattern}
use Rattle.cases_languages.proofs.Views.{pattern-Empty}
use Rattle.cases_languages.proofs.pattern.Pattern.optional.Goals as goal

pub returns : goal.returns
returns c = c.in_ok-whole.ensures ∙ ap (λ (p : plain.Pattern). plain.Pattern.alt p (pattern c.args.part)) pattern-Empty
