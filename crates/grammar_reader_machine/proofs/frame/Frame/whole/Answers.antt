use Rattle.grammar_reader_machine.proofs.Pushed.{alt_pushed}
use Rattle.grammar_reader_machine.proofs.frame.Frame.whole.Goals as goal

pub returns : goal.returns
returns c = alt_pushed c.args.self.alts c.push.new.self c.args.self.terms c.in_ok-push.ensures.items
