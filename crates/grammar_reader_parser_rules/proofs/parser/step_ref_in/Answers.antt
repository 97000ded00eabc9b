use Rattle.std.proofs.Common.{subst, sym, ap, ◌∙◌}
use Rattle.grammar_reader_machine.specs.View.{body_of, refs_of}
use Rattle.grammar_reader_parser_rules.specs.inner.References.{after_listed}
use Rattle.grammar_reader_machine.specs.NextState.{NextIs}
use Rattle.grammar_reader_parser_rules.proofs.Defaults.{listed}
use Rattle.grammar_reader_parser_rules.proofs.parser.step_ref_in.Goals as goal

pub returns : goal.returns
returns c =
    subst (NextIs c.after_listed.result)
    (ap (after_listed (body_of c.args.body) (refs_of c.args.refs)) c.reference.ensures
    ∙ sym (listed (body_of c.args.body) (refs_of c.args.refs) c.args.word))
    c.after_listed.ensures
