use Rattle.std.proofs.Common.{◌∷◌}
use Rattle.std.specs.Str.Iter.{chars_rest}
use Rattle.lexer_nfa.proofs.Compiled.{literal_more, text_more, literal_all}
use Rattle.lexer_nfa.proofs.compile.add_literal.Goals as goal

pub loop-c-preserved : goal.loop-c-preserved
loop-c-preserved c =
    let (cs, e, a) = c.loop-c.invariant in (
      c.in-Some.c ∷ cs,
      text_more c.args.text.now (chars_rest c.loop-c.rest) (chars_rest c.next_back.new.self) c.in-Some.c cs e c.in-Some.ensures.steps,
      λ rules. literal_more c.args.states.now.items c.loop-c.states.items c.add.new.states.items c.in-Some.c c.loop-c.entry c.in_ok-entry.entry c.args.next cs
          (a rules) c.in_ok-entry.ensures.added c.in_ok-entry.ensures.number,
    )

pub returns : goal.returns
returns c rules =
    let (cs, e, a) = c.loop-c.invariant in
    literal_all c.args.text.now (chars_rest c.loop-c.rest) c.args.states.now.items c.loop-c.states.items c.loop-c.entry c.args.next cs c.utf8.text e
    c.in_default.ensures.steps.0 (a rules)
