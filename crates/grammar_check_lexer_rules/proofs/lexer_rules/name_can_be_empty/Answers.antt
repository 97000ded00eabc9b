use Rattle.std.proofs.Common.{ℕ, Option, false, sym, ap, ◌∙◌}
use Rattle.std.specs.Option.{option_map_or}
use Rattle.grammar_check_nodes.specs.Flags.{flag}
use Rattle.grammar_check_lexer_rules.proofs.lexer_rules.name_can_be_empty.Goals as goal

pub returns-in-None : goal.returns-in-None
returns-in-None c = sym (ap (λ (o : Option ℕ). option_map_or (flag c.args.flags.now) o false) (sym c.index.ensures ∙ c.in-None.is))
