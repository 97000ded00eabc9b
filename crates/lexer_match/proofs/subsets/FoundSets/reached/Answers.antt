use Rattle.std.proofs.Common.{List, ℕ, sym, subst}
use Rattle.lexer_match.specs.inner.Subsets.{IsSame, IsSet}
use Rattle.lexer_match.proofs.Found.{in_some, reached_of}
use Rattle.lexer_match.proofs.Living.{IsFlagged, flagged_on}
use Rattle.lexer_match.proofs.subsets.FoundSets.reached.Goals as goal

pub returns-in-Some-clause-sets : goal.returns-in-Some-clause-sets
returns-in-Some-clause-sets c P set are =
    let Q : List ℕ → Type 0 = λ l. IsSet P l in
    c.in_ok-number.ensures.sets P (subst Q (sym c.deref.ensures.value) set) are

pub returns-in-Some-clause-reached : goal.returns-in-Some-clause-reached
returns-in-Some-clause-reached c P live set =
    let sets = c.number.new.self.sets.items in
    let states = c.args.states.now.states.items in
    let Q : List ℕ → Type 0 = λ l. IsSame sets l c.in-Some.set in
    let same = in_some c.in_ok-number.number c.in-Some.set (IsSame sets c.deref.result.now) c.in-Some.is c.in_ok-number.ensures.number in
    let flagged : IsFlagged c.args.live.now states c.has_flagged.result = record { some = c.has_flagged.ensures.some; none = c.has_flagged.ensures.none } in
    reached_of P sets states c.args.states.now.marks.items c.in-Some.set c.has.result c.has_flagged.result c.requires.marked set.followed c.has.ensures
    (flagged_on P c.args.live.now states live c.has_flagged.result set.followed flagged) (subst Q c.deref.ensures.value same)

pub returns-in-None-clause-sets : goal.returns-in-None-clause-sets
returns-in-None-clause-sets c P set are =
    let Q : List ℕ → Type 0 = λ l. IsSet P l in
    c.in_ok-number.ensures.sets P (subst Q (sym c.deref.ensures.value) set) are
