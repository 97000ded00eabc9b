use Rattle.grammar_tree.specs.View.{parser_alts}
use Rattle.grammar_reader_machine.proofs.Pushed.{with_terms, term_pushed}
use Rattle.grammar_reader_machine.proofs.frame.Frame.with_term.Goals as goal

pub returns : goal.returns
returns c = with_terms (parser_alts c.args.self.alts) (term_pushed c.args.self.terms c.push.new.self c.args.term c.in_ok-push.ensures.items)
