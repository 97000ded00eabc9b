use Rattle.std.proofs.Common.{◌∷◌, [], ◌++◌, ap, ◌∙◌, sym, arith, map}
use Rattle.grammar_tree.specs.GrammarView.{rule_of}
use Rattle.lexer_match.specs.declared.nfa.State.{State}
use Rattle.lexer_nfa.proofs.Compiled.{call_all, unnamed_all}
use Rattle.lexer_nfa.proofs.compile.add_call.Goals.{in-Some, in-None}
use Rattle.lexer_nfa.proofs.compile.add_call.Goals as goal

pub returns : goal.returns
returns c =
    let R = map rule_of c.args.names.now.rules.now in
    let old = c.args.states.now.items in
    let made = c.in_ok-number.ensures in
    elim c.match-index_of.branch [
      | in-Some w ↦
          call_all c.args.name.now old c.add.new.states.items w.in-Some.rule c.in_ok-number.number c.args.next c.args.names.now.one_name
          (sym c.index_of.ensures ∙ w.in-Some.is) c.requires.closed c.requires.next (made.added ∙ ap (λ (x : State). old ++ x ∷ []) w.state-is) made.number
      | in-None w ↦
          unnamed_all c.args.name.now old c.add.new.states.items c.in_ok-number.number c.args.next (sym c.index_of.ensures ∙ w.in-None.is) c.requires.closed
          (omega (arith, c.requires.next)) (made.added ∙ ap (λ (x : State). old ++ x ∷ []) w.state-is) made.number
    ]
