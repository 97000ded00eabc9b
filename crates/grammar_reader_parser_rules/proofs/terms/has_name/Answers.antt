use Rattle.std.proofs.Common.{sym, ap}
use Rattle.grammar_reader_parser_rules.specs.inner.Terms.{is_name}
use Rattle.grammar_reader_parser_rules.proofs.terms.has_name.Goals as goal

pub returns-in-Upper : goal.returns-in-Upper
returns-in-Upper c = sym (ap is_name c.in-Upper.is)
