use Rattle.std.proofs.Common.{refl}
use Rattle.grammar_reader_parser_rules.proofs.terms.past_label.Goals as goal

pub returns : goal.returns
returns c = λ b. refl
