use Rattle.grammar_tree.specs.View.{lex_alts}
use Rattle.grammar_reader_machine.proofs.Pushed.{with_terms, lex_term_pushed}
use Rattle.grammar_reader_machine.proofs.frame.LexFrame.with_term.Goals as goal

pub returns : goal.returns
returns c = with_terms (lex_alts c.args.self.alts) (lex_term_pushed c.args.self.terms c.push.new.self c.args.term c.in_ok-push.ensures.items)
