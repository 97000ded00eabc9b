use Rattle.std.proofs.Common.{map, refl}
use Rattle.grammar_tree.specs.GrammarView.{rule_of}
use Rattle.grammar_tree.specs.Kinds.{lexer_rules}
use Rattle.grammar_tree.specs.Matches.{MatchesSeq}
use Rattle.grammar_tree.specs.View.{lex_terms}
use Rattle.grammar_tree.specs.Written.{lexer_seq}
use Rattle.lexer_nfa.proofs.Pushed.{pushed_nfa, pushed_exact, as_alternative, sum_right}
use Rattle.lexer_match.specs.declared.alternative.Alternative.{Alternative}
use Rattle.lexer_nfa.proofs.Order.{up_to_push}
use Rattle.lexer_nfa.proofs.alternatives.add_alternative.Goals as goal

pub returns-clause-nfa : goal.returns-clause-nfa
returns-clause-nfa c =
    let G = lexer_rules (map rule_of c.args.names.now.rules.now) in
    pushed_nfa (MatchesSeq G (lexer_seq (lex_terms c.args.terms.now))) c.args.states.now.items c.compile.new.states.items c.args.alternatives.now.items
    c.requires.nfa c.in_ok-start.start c.in_ok-start.ensures c.args.kind c.is_short-short.result c.push.new.self.items c.in_ok-push.ensures.items

pub returns-clause-added : goal.returns-clause-added
returns-clause-added c k w =
    let G = lexer_rules (map rule_of c.args.names.now.rules.now) in
    let s = lexer_seq (lex_terms c.args.terms.now) in
    sum_right
    (pushed_exact (MatchesSeq G s) c.args.states.now.items c.compile.new.states.items c.args.alternatives.now.items c.requires.nfa c.in_ok-start.start
    c.in_ok-start.ensures c.args.kind c.is_short-short.result c.push.new.self.items c.in_ok-push.ensures.items k w)
    (as_alternative G s c.args.kind k c.is_short-short.result w c.is_short-short.ensures)

pub returns-clause-order : goal.returns-clause-order
returns-clause-order c before =
    up_to_push (λ (a : Alternative). a.kind) c.args.alternatives.now.items c.push.new.self.items
    (record { kind = c.args.kind; short = c.is_short-short.result; start = c.in_ok-start.start }) c.args.kind c.in_ok-push.ensures.items refl before
