use Rattle.std.proofs.Common.{Bool, List, ℕ, sym, ap, ◌∙◌}
use Rattle.std.specs.Prelude.{codes, if◌then◌else◌}
use Rattle.grammar_check.proofs.fault.no_start.Goals as goal

abbrev words : Bool → List ℕ
words b = if b then codes "no start" else codes "no start "

pub returns-then-is_empty_text : goal.returns-then-is_empty_text
returns-then-is_empty_text c = sym (ap words (sym c.is_empty_text.ensures ∙ c.if-is_empty_text.true))

pub returns-else-is_empty_text : goal.returns-else-is_empty_text
returns-else-is_empty_text c = sym (ap words (sym c.is_empty_text.ensures ∙ c.if-is_empty_text.false))
