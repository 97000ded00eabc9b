use Rattle.std.proofs.Common.{map}
use Rattle.grammar_tree.specs.GrammarView.{rule_of}
use Rattle.grammar_tree.specs.View.{lex_alts}
use Rattle.grammar_tree.specs.Written.{lexer_alts}
use Rattle.lexer_nfa.proofs.Compiled.{found_no_loop}
use Rattle.lexer_nfa.proofs.Pushed.{source_implicit, source_declared, sum_right, with_none, with_same, moved_rule, moved_missing}
use Rattle.lexer_nfa.proofs.alternatives.add_kind.Goals as goal

pub add_rule-requires-clause-no_loop : goal.add_rule-requires-clause-no_loop
add_rule-requires-clause-no_loop c =
    found_no_loop (map rule_of c.args.names.now.rules.now) c.in-Written.index
    (lexer_alts (lex_alts c.in-Some.alts.now)) c.args.names.now.no_loops c.in-Some.ensures.found

pub returns-in_ok-add_implicit-in-Implicit-clause-added : goal.returns-in_ok-add_implicit-in-Implicit-clause-added
returns-in_ok-add_implicit-in-Implicit-clause-added c G same k w =
    sum_right (c.in_ok-add_implicit-in-Implicit.ensures.added k w)
    (with_same k c.args.number (source_implicit G c.args.kind.now.source c.args.kind.now.name w c.in-Implicit.is))

pub returns-in_ok-add_rule-in-Some-clause-added : goal.returns-in_ok-add_rule-in-Some-clause-added
returns-in_ok-add_rule-in-Some-clause-added c G same k w =
    sum_right (c.in_ok-add_rule-in-Some.ensures.added k w)
    (with_same k c.args.number
    (moved_rule G (map rule_of c.args.names.now.rules.now) c.args.kind.now.source c.in-Written.index c.args.kind.now.name w
    (lexer_alts (lex_alts c.in-Some.alts.now)) c.in-Written.is same c.in-Some.ensures.found))

pub returns-in-None-clause-added : goal.returns-in-None-clause-added
returns-in-None-clause-added c G same k w =
    with_none k c.args.number (moved_missing G
    (map rule_of c.args.names.now.rules.now) c.args.kind.now.source c.in-Written.index c.args.kind.now.name w c.in-Written.is same c.in-None.ensures.missing)

pub returns-in-Declared-clause-added : goal.returns-in-Declared-clause-added
returns-in-Declared-clause-added c G same k w = with_none k c.args.number (source_declared G c.args.kind.now.source c.args.kind.now.name w c.in-Declared.is)
