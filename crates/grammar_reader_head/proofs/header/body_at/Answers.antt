use Rattle.std.proofs.Common.{Some, ap, sym, ◌∙◌, ◌+◌, length}
use Rattle.grammar_tree.specs.GrammarView.{grammar_of}
use Rattle.grammar_reader_machine.specs.Machine as m
use Rattle.grammar_reader_machine.specs.View.{frame_of, head_of, lex_frame_of}
use Rattle.grammar_reader_head.proofs.Begun.{lexer_rule_begun, parser_rule_begun}
use Rattle.grammar_reader_head.proofs.header.body_at.Goals as goal

pub invariant_of-body : goal.invariant_of-body
invariant_of-body c = record { depth = ap (λ xs. 64 + length xs) c.new.ensures.items }

pub invariant_of-body-in-Lexer : goal.invariant_of-body-in-Lexer
invariant_of-body-in-Lexer c = record { depth = ap (λ xs. 64 + length xs) c.new-in-Lexer.ensures.items }

pub returns-in-Parser : goal.returns-in-Parser
returns-in-Parser c =
    c.some.ensures
    ∙ parser_rule_begun (grammar_of c.args.grammar) c.in-Parser.name c.new.result.items (frame_of c.fresh.result) c.new.ensures.items c.fresh.ensures
    ∙ sym (ap (λ h. Some (m.body_at 64 (grammar_of c.args.grammar) (head_of h))) c.in-Parser.is)

pub returns-in-Lexer : goal.returns-in-Lexer
returns-in-Lexer c =
    c.some-in-Lexer.ensures
    ∙ lexer_rule_begun (grammar_of c.args.grammar) c.in-Lexer.name c.in-Lexer.fragment c.no_commands.result c.new-in-Lexer.result.items
    (lex_frame_of c.fresh-in-Lexer.result) c.no_commands.ensures c.new-in-Lexer.ensures.items c.fresh-in-Lexer.ensures
    ∙ sym (ap (λ h. Some (m.body_at 64 (grammar_of c.args.grammar) (head_of h))) c.in-Lexer.is)
