use Rattle.std.proofs.Common.{subst, sym, ap, ◌∙◌}
use Rattle.grammar_reader_machine.specs.View.{body_of}
use Rattle.grammar_reader_parser_rules.specs.inner.References.{after_reference}
use Rattle.grammar_reader_machine.specs.NextState.{NextIs}
use Rattle.grammar_reader_parser_rules.proofs.Defaults.{no_bracket}
use Rattle.grammar_reader_parser_rules.proofs.parser.step_ref.Goals as goal

pub returns-in_default : goal.returns-in_default
returns-in_default c =
    subst (NextIs c.after_reference.result)
    (ap (after_reference (body_of c.args.body)) c.reference.ensures
    ∙ sym (no_bracket (body_of c.args.body) c.args.word c.in_default.not-Open))
    c.after_reference.ensures
