use Rattle.std.proofs.Common.{map, arith}
use Rattle.grammar_tree.specs.GrammarView.{rule_of}
use Rattle.grammar_tree.specs.Kinds.{lexer_rules}
use Rattle.grammar_tree.specs.declared.lex_term.LexAlts.{out-LexAlts}
use Rattle.lexer_match.specs.Alternatives.{HasAlternative}
use Rattle.lexer_nfa.proofs.Terms.{alts_item}
use Rattle.lexer_nfa.proofs.Pushed.{rule_more, rule_all}
use Rattle.lexer_nfa.proofs.alternatives.add_rule.Goals as goal

pub add_alternative-requires-clause-no_loop : goal.add_alternative-requires-clause-no_loop
add_alternative-requires-clause-no_loop c =
    alts_item (lexer_rules (map rule_of c.args.names.now.rules.now)) c.args.alts.now c.loop-i.i c.index.result.now
    (omega (arith, (out-LexAlts c.args.alts.now).items.ok.0)) c.index.ensures c.requires.no_loop

pub loop-i-preserved : goal.loop-i-preserved
loop-i-preserved c =
    let G = lexer_rules (map rule_of c.args.names.now.rules.now) in
    let items = (out-LexAlts c.args.alts.now).items.items in
    record {
      nfa = c.in_ok-add_alternative.ensures.nfa;
      added =
          λ k w. rule_more G (HasAlternative c.args.states.now.items c.args.alternatives.now.items k w)
          (HasAlternative c.loop-i.states.items c.loop-i.alternatives.items k w)
          (HasAlternative c.add_alternative.new.states.items c.add_alternative.new.alternatives.items k w) items c.loop-i.i c.args.kind k c.index.result.now w
          (omega (arith, (out-LexAlts c.args.alts.now).items.ok.0)) c.index.ensures (c.loop-i.invariant.added k w) (c.in_ok-add_alternative.ensures.added k w);
      order = λ before. c.in_ok-add_alternative.ensures.order (c.loop-i.invariant.order before);
    }

pub returns-clause-added : goal.returns-clause-added
returns-clause-added c k w =
    rule_all (lexer_rules (map rule_of c.args.names.now.rules.now)) (HasAlternative c.args.states.now.items c.args.alternatives.now.items k w)
    (HasAlternative c.loop-i.states.items c.loop-i.alternatives.items k w) c.args.alts.now c.loop-i.i c.args.kind k w
    (omega (arith, (out-LexAlts c.args.alts.now).items.ok.0)) (c.loop-i.invariant.added k w)
