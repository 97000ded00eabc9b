use Rattle.std.proofs.Common.{subst, sym, ap}
use Rattle.grammar_reader_machine.specs.Machine as m
use Rattle.grammar_reader_machine.specs.View.{state_of}
use Rattle.grammar_reader_machine.specs.NextState.{NextIs}
use Rattle.grammar_reader.proofs.steps.next_state.Goals as goal

pub returns-in-Parser : goal.returns-in-Parser
returns-in-Parser c = subst (λ s. NextIs c.step_parser.result (m.step 64 s c.args.word)) (sym (ap state_of c.in-Parser.is)) (c.step_parser.ensures 64)

pub returns-in-Lexer : goal.returns-in-Lexer
returns-in-Lexer c = subst (λ s. NextIs c.step_lexer.result (m.step 64 s c.args.word)) (sym (ap state_of c.in-Lexer.is)) (c.step_lexer.ensures 64)

pub returns-in-Top : goal.returns-in-Top
returns-in-Top c = subst (λ s. NextIs c.step_top.result (m.step 64 s c.args.word)) (sym (ap state_of c.in-Top.is)) (c.step_top.ensures 64)
