use Rattle.std.proofs.Common.{Bool, List, MatchOption, sym, subst}
use Rattle.std.specs.Bool.{⊤}
use Rattle.std.specs.Str.{chars}
use Rattle.lexer.specs.declared.pieces.NextMatch.{NextMatch}
use Rattle.lexer_match.specs.declared.nfa.State.{State}
use Rattle.lexer_match.specs.declared.alternative.Alternative.{Alternative}
use Rattle.lexer.specs.inner.Candidates.{ComesNext, HasNoNext, IsMatchedByOne}
use Rattle.lexer_match.specs.Dead.{AreDead, StayDead}
use Rattle.lexer_match.specs.Live.{AreLive}
use Rattle.lexer_match.specs.Seen.{IsSeenTo}
use Rattle.lexer.proofs.rules.Rules.next.Goals as goal

pub returns-clause-next : goal.returns-clause-next
returns-clause-next c =
    let text = chars c.args.text.now in
    let found = c.in_ok-found.found in
    let P : List State → Type 0 =
    λ x. MatchOption found (HasNoNext x c.deref-3.result.now text) (λ (m : NextMatch). ComesNext x c.deref-3.result.now text m.found.kind m.found.len) in
    let Q : List Alternative → Type 0 =
    λ x. MatchOption found (HasNoNext c.args.self.now.states.items x text)
    (λ (m : NextMatch). ComesNext c.args.self.now.states.items x text m.found.kind m.found.len) in
    subst Q c.deref-3.ensures.value (subst P c.deref.ensures.value c.in_ok-found.ensures.next)

pub returns-clause-dead : goal.returns-clause-dead
returns-clause-dead c =
    let D : List State → Type 0 = λ x. StayDead x c.args.text.now c.args.reading.now.dead c.next_match.new.reading.dead in
    subst D c.deref.ensures.value c.in_ok-found.ensures.dead

pub next_match-requires-clause-live : goal.next_match-requires-clause-live
next_match-requires-clause-live c =
    let P : List State → Type 0 = λ x. AreLive x c.deref-2.result.now in
    let Q : List Bool → Type 0 = λ x. AreLive c.args.self.now.states.items x in
    subst P (sym c.deref.ensures.value) (subst Q (sym c.deref-2.ensures.value) c.requires.runnable.live)

pub next_match-requires-clause-dead : goal.next_match-requires-clause-dead
next_match-requires-clause-dead c =
    let D : List State → Type 0 = λ x. AreDead x c.args.text.now c.args.reading.now.dead in
    subst D (sym c.deref.ensures.value) c.requires.dead

pub returns-clause-seen : goal.returns-clause-seen
returns-clause-seen c =
    let text = chars c.args.text.now in
    let found = c.in_ok-found.found in
    let P : List State → Type 0 = λ x. MatchOption found ⊤ (λ (m : NextMatch). IsSeenTo (IsMatchedByOne x c.deref-3.result.now) text m.seen) in
    let Q : List Alternative → Type 0 = λ x. MatchOption found ⊤ (λ (m : NextMatch). IsSeenTo (IsMatchedByOne c.args.self.now.states.items x) text m.seen) in
    subst Q c.deref-3.ensures.value (subst P c.deref.ensures.value c.in_ok-found.ensures.seen)
