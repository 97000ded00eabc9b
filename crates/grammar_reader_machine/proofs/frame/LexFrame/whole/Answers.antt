use Rattle.grammar_reader_machine.proofs.Pushed.{lex_alt_pushed}
use Rattle.grammar_reader_machine.proofs.frame.LexFrame.whole.Goals as goal

pub returns : goal.returns
returns c = lex_alt_pushed c.args.self.alts c.push.new.self c.args.self.terms c.in_ok-push.ensures.items
