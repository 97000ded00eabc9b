use Rattle.std.proofs.Common.{false, refl, arith}
use Rattle.std.proofs.lemmas.List.Elements.{Contains-get_or}
use Rattle.lexer_match.specs.declared.alternative.Alternative.{Alternative}
use Rattle.lexer.proofs.Listed.{alternatives_more, each_beginning}
use Rattle.lexer.proofs.candidates.beginnings.Goals as goal

abbrev none : Alternative
none = record { kind = 0; short = false; start = 0 }

pub first_states-requires-clause-start : goal.first_states-requires-clause-start
first_states-requires-clause-start c = c.requires.inside _ (Contains-get_or c.args.alternatives.now c.loop-alternative.alternative-index none (omega arith))

pub loop-alternative-preserved : goal.loop-alternative-preserved
loop-alternative-preserved c =
    let before = c.loop-alternative.invariant in
    let made = c.in_ok-states.ensures in
    record {
      ready = made.ready;
      alternatives =
          alternatives_more c.args.alternatives.now c.loop-alternative.alternative-index none c.loop-alternative.list.items c.push.new.self.items _
          (omega arith) refl c.in_ok-push.ensures.items before.alternatives;
      each =
          each_beginning c.args.nfa.now c.loop-alternative.list.items c.push.new.self.items _ c.in_ok-push.ensures.items
          (record { inside = made.inside; first = made.reads }) before.each;
    }
