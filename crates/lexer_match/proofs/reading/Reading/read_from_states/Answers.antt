use Rattle.std.proofs.Common.{subst}
use Rattle.lexer_match.specs.declared.dead.DeadSets.{DeadSets}
use Rattle.lexer_match.specs.Dead.{StayDead}
use Rattle.lexer_match.proofs.Traced.{stay_dead}
use Rattle.lexer_match.proofs.reading.Reading.read_from_states.Goals as goal

pub returns-clause-dead : goal.returns-clause-dead
returns-clause-dead c =
    let P : DeadSets → Type 0 = λ x. StayDead c.args.nfa.now c.args.text.now x c.keep_dead.new.self.dead in
    subst P c.in_ok-extent.ensures.same
    (stay_dead c.args.nfa.now c.args.text.now c.read_extent.new.self.dead c.keep_dead.new.self.dead c.read_extent.new.self.trace.items
    c.in_ok-extent.extent.seen c.in_ok-keep_dead.ensures.added c.in_ok-extent.ensures.traced)
