use Rattle.std.proofs.Common.{map, ap, sym, ◌∙◌}
use Rattle.grammar_tree.specs.GrammarView.{grammar_of, rule_of}
use Rattle.grammar_tree.specs.Written.{WrittenGrammar}
use Rattle.grammar_pair.specs.Joined.{first_implicit, wrong_rules}
use Rattle.grammar_pair.specs.inner.Read.{IsJoinFault, others}
use Rattle.grammar_pair.proofs.Bodies.{memory_gives}
use Rattle.grammar_pair.proofs.Pairs.{none_first}
use Rattle.grammar_pair.proofs.joining.join_read.Goals as goal

pub returns-in_err-name-clause-fault : goal.returns-in_err-name-clause-fault
returns-in_err-name-clause-fault c =
    memory_gives (IsJoinFault (grammar_of c.args.lexer) (grammar_of c.args.parser) c.args.names.now) IsJoinFault.memory
    c.from_residual.result c.from_residual.ensures.1

pub returns-in-Some-clause-fault : goal.returns-in-Some-clause-fault
returns-in-Some-clause-fault c = IsJoinFault.other_vocab (sym c.in_ok-name.ensures ∙ c.in-Some.is)

pub returns-in_err-name-2-clause-fault : goal.returns-in_err-name-2-clause-fault
returns-in_err-name-2-clause-fault c =
    memory_gives (IsJoinFault (grammar_of c.args.lexer) (grammar_of c.args.parser) c.args.names.now) IsJoinFault.memory
    c.from_residual-in_err-name-2.result
    c.from_residual-in_err-name-2.ensures.1

pub returns-in-Some-2-clause-fault : goal.returns-in-Some-2-clause-fault
returns-in-Some-2-clause-fault c =
    IsJoinFault.wrong_rule (none_first (others c.args.lexer.name c.args.names.now) (sym c.in_ok-name.ensures ∙ c.in_default.is))
    (sym c.in_ok-name-2.ensures ∙ c.in-Some-2.is)

pub returns-in_err-grammar-clause-fault : goal.returns-in_err-grammar-clause-fault
returns-in_err-grammar-clause-fault c =
    memory_gives (IsJoinFault (grammar_of c.args.lexer) (grammar_of c.args.parser) c.args.names.now) IsJoinFault.memory
    c.from_residual-in_err-grammar.result
    c.from_residual-in_err-grammar.ensures.1

pub returns-in_err-literal-clause-fault : goal.returns-in_err-literal-clause-fault
returns-in_err-literal-clause-fault c =
    memory_gives (IsJoinFault (grammar_of c.args.lexer) (grammar_of c.args.parser) c.args.names.now) IsJoinFault.memory
    c.from_residual-in_err-literal.result
    c.from_residual-in_err-literal.ensures.1

pub returns-in-Some-3-clause-fault : goal.returns-in-Some-3-clause-fault
returns-in-Some-3-clause-fault c =
    IsJoinFault.no_literal (none_first (others c.args.lexer.name c.args.names.now) (sym c.in_ok-name.ensures ∙ c.in_default.is))
    (none_first (wrong_rules (grammar_of c.args.lexer) (grammar_of c.args.parser)) (sym c.in_ok-name-2.ensures ∙ c.in_default-2.is))
    (ap (λ (g : WrittenGrammar). first_implicit g.rules) (sym c.in_ok-grammar.ensures)
    ∙ ap (λ rules. first_implicit (map rule_of rules)) (sym c.deref.ensures.value) ∙ sym c.in_ok-literal.ensures ∙ c.in-Some-3.is)
