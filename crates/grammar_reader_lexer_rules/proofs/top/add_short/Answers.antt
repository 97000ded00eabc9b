use Rattle.std.proofs.Common.{◌≡◌, IfOk, subst}
use Rattle.grammar_reader_machine.specs.Machine as m
use Rattle.grammar_reader_machine.specs.View.{top_body_of}
use Rattle.grammar_reader_lexer_rules.proofs.top.add_short.Goals as goal

pub returns : goal.returns
returns c = subst (λ t. IfOk c.add.result (λ b. top_body_of b ≡ m.lex_add (top_body_of c.args.body) t)) c.short.ensures c.add.ensures
