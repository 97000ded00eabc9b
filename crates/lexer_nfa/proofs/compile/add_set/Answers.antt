use Rattle.grammar_tree.specs.Kinds.{lexer_rules}
use Rattle.lexer_nfa.proofs.Compiled.{set_all}
use Rattle.lexer_nfa.proofs.compile.add_set.Goals as goal

pub returns : goal.returns
returns c rules =
    set_all (lexer_rules rules) c.args.states.now.items c.add.new.states.items c.args.set.now c.in_ok-copy.field-0 c.in_ok-number.number c.args.next
    c.requires.closed c.requires.next c.in_ok-copy.ensures c.in_ok-number.ensures.added c.in_ok-number.ensures.number
