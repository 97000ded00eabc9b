use Rattle.std.proofs.Common.{length, subst, sym}
use Rattle.std.specs.Str.{chars}
use Rattle.lexer_match.specs.declared.dead.DeadSets.{DeadSets}
use Rattle.lexer_match.specs.Dead.{AreDead, StayDead}
use Rattle.lexer_match.specs.Reading.{IsRead}
use Rattle.lexer_match.specs.Seen.{IsExtent}
use Rattle.lexer_match.proofs.Found.{in_some}
use Rattle.lexer_match.proofs.Traced.{ready_same}
use Rattle.lexer_match.proofs.reading.Reading.extent.Goals as goal

pub returns-in-Some-clause-ready : goal.returns-in-Some-clause-ready
returns-in-Some-clause-ready c = ready_same (length c.args.nfa.now) c.args.self.now c.walk.new.self c.walk.ensures.current c.walk.ensures.next c.requires.ready

pub returns-in-Some-clause-extent : goal.returns-in-Some-clause-extent
returns-in-Some-clause-extent c =
    in_some c.walk.result c.in-Some.extent (IsExtent (IsRead c.args.nfa.now c.args.alternative) (chars c.args.text.now)) c.in-Some.is
    (c.walk.ensures.extent c.args.nfa.now c.requires.table)

pub returns-in-Some-clause-dead : goal.returns-in-Some-clause-dead
returns-in-Some-clause-dead c =
    let D : DeadSets → Type 0 = λ x. StayDead c.args.nfa.now c.args.text.now c.args.self.now.dead x in
    subst D (sym c.walk.ensures.dead) (λ whole ends are. are)

pub read_from_states-requires-clause-ready : goal.read_from_states-requires-clause-ready
read_from_states-requires-clause-ready c =
    ready_same (length c.args.nfa.now) c.args.self.now c.walk.new.self c.walk.ensures.current c.walk.ensures.next c.requires.ready

pub read_from_states-requires-clause-dead : goal.read_from_states-requires-clause-dead
read_from_states-requires-clause-dead c =
    let D : DeadSets → Type 0 = λ x. AreDead c.args.nfa.now c.args.text.now x in
    subst D (sym c.walk.ensures.dead) c.requires.dead

pub returns-in_ok-extent-in-None-clause-dead : goal.returns-in_ok-extent-in-None-clause-dead
returns-in_ok-extent-in-None-clause-dead c =
    let D : DeadSets → Type 0 = λ x. StayDead c.args.nfa.now c.args.text.now x c.read_from_states.new.self.dead in
    subst D c.walk.ensures.dead c.in_ok-extent-in-None.ensures.dead
