use Rattle.std.proofs.Common.{◌≡◌, List, ℕ, IsPermutation, subst}
use Rattle.lexer_match.specs.inner.Subsets.{IsNumbered, IsSame}
use Rattle.lexer_match.proofs.Found.{HaveSame, option_as, same_numbered, same_sorted, set_same, sets_as, starts_as, starts_both}
use Rattle.lexer_match.proofs.subsets.FoundSets.number.Goals as goal

-- what was sorted has the states that were given
same : (states copy sorted : List ℕ) → copy ≡ states → IsPermutation copy sorted → HaveSame sorted states
same states copy sorted e p = let Q : List ℕ → Type 0 = λ l. HaveSame sorted l in subst Q e (same_sorted copy sorted p)

pub returns-then-not-may-clause-grown : goal.returns-then-not-may-clause-grown
returns-then-not-may-clause-grown c = starts_as c.may_look-may.new.self.sets.items c.args.self.now.sets.items c.may_look-may.ensures.sets

pub returns-then-not-may-clause-sets : goal.returns-then-not-may-clause-sets
returns-then-not-may-clause-sets c P set are = sets_as P c.may_look-may.new.self.sets.items c.args.self.now.sets.items c.may_look-may.ensures.sets are

pub returns-in-Some-clause-grown : goal.returns-in-Some-clause-grown
returns-in-Some-clause-grown c = starts_as c.may_look-may.new.self.sets.items c.args.self.now.sets.items c.may_look-may.ensures.sets

pub returns-in-Some-clause-sets : goal.returns-in-Some-clause-sets
returns-in-Some-clause-sets c P set are = sets_as P c.may_look-may.new.self.sets.items c.args.self.now.sets.items c.may_look-may.ensures.sets are

pub returns-in-Some-clause-number : goal.returns-in-Some-clause-number
returns-in-Some-clause-number c =
    let states = c.args.states.now in
    let sorted = c.sort_unstable.new.self.items in
    let sets = c.may_look-may.new.self.sets.items in
    let Q : List ℕ → Type 0 = λ l. IsNumbered sets l c.in-Some.number in
    same_numbered sets states sorted c.in-Some.number
    (same states c.in_ok-sorted.sorted.items sorted c.in_ok-sorted.ensures.items c.sort_unstable.ensures.permutation)
    (subst Q c.deref.ensures.value c.in-Some.ensures)

pub returns-in_ok-number-in-None-clause-grown : goal.returns-in_ok-number-in-None-clause-grown
returns-in_ok-number-in-None-clause-grown c =
    let old = c.args.self.now.sets.items in
    let mid = c.may_look-may.new.self.sets.items in
    starts_both old mid c.add.new.self.sets.items (starts_as mid old c.may_look-may.ensures.sets) c.in_ok-number-in-None.ensures.grown

pub returns-in_ok-number-in-None-clause-sets : goal.returns-in_ok-number-in-None-clause-sets
returns-in_ok-number-in-None-clause-sets c P set are =
    let states = c.args.states.now in
    let sorted = c.sort_unstable.new.self.items in
    let mid = c.may_look-may.new.self.sets.items in
    c.in_ok-number-in-None.ensures.sets P (set_same P sorted states
    (same states c.in_ok-sorted.sorted.items sorted c.in_ok-sorted.ensures.items c.sort_unstable.ensures.permutation) set)
    (sets_as P mid c.args.self.now.sets.items c.may_look-may.ensures.sets are)

pub returns-in_ok-number-in-None-clause-number : goal.returns-in_ok-number-in-None-clause-number
returns-in_ok-number-in-None-clause-number c =
    let states = c.args.states.now in
    let sorted = c.sort_unstable.new.self.items in
    let sets = c.add.new.self.sets.items in
    let alike = same states c.in_ok-sorted.sorted.items sorted c.in_ok-sorted.ensures.items c.sort_unstable.ensures.permutation in
    option_as c.in_ok-number-in-None.number (IsNumbered sets sorted) (IsSame sets states)
    (λ n is. same_numbered sets states sorted n alike is) c.in_ok-number-in-None.ensures.number
