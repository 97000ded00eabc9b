use Rattle.std.proofs.Common.{◌∙◌, arith, rules}
use Rattle.std.proofs.lemmas.List.Elements.{Contains-get_or}
use Rattle.lexer_match.proofs.Steps.{up_to_none, up_to_more, up_to_all}
use Rattle.lexer_match.proofs.state_set.StateSet.add_after.Goals as goal

pub loop-state-init : goal.loop-state-init
loop-state-init c = record {
  size = search rules;
  marked = c.requires.marked;
  after = λ n. up_to_none c.args.nfa.now c.args.before.now c.args.self.now.states.items c.args.c n c.requires.none;
}

pub add_next-requires-clause-inside : goal.add_next-requires-clause-inside
add_next-requires-clause-inside c = c.requires.before _ (Contains-get_or c.args.before.now c.loop-state.state-index 0 (omega arith))

pub loop-state-preserved : goal.loop-state-preserved
loop-state-preserved c = record {
  size = c.in_ok-add_next.ensures.size ∙ c.loop-state.invariant.size;
  marked = c.in_ok-add_next.ensures.marked;
  after =
      λ n. up_to_more c.args.nfa.now c.args.before.now c.loop-state.self.states.items c.add_next.new.self.states.items c.args.c c.loop-state.state-index n
      (c.loop-state.invariant.after n) (c.in_ok-add_next.ensures.members n);
}

pub returns-clause-after : goal.returns-clause-after
returns-clause-after c n =
    up_to_all c.args.nfa.now c.args.before.now c.loop-state.self.states.items c.args.c c.loop-state.state-index n (omega arith) (c.loop-state.invariant.after n)
