use Rattle.std.proofs.Common.{ap, ◌∙◌}
use Rattle.cases_languages.specs.Patterns as plain
use Rattle.cases_languages.proofs.pattern.Pattern.star.Goals as goal

pub returns : goal.returns
returns c = c.in_ok-whole.ensures ∙ ap (λ (p : plain.Pattern). plain.Pattern.alt plain.Pattern.empty p) c.in_ok-some.ensures
