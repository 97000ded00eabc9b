use Rattle.std.proofs.Common.{List, ℕ, ◌∷◌, ◌↔◌, sym, subst, length}
use Rattle.std.specs.List.{Contains}
use Rattle.lexer_match.specs.StateSets.{ReadsFrom}
use Rattle.lexer_match.specs.inner.StateSets.{IsFollowed}
use Rattle.lexer_match.proofs.Steps.{marked_inside}
use Rattle.lexer_match.proofs.state_set.StateSet.step.Goals as goal

pub step_from-requires-clause-before : goal.step_from-requires-clause-before
step_from-requires-clause-before c n among =
    let P : List ℕ → Type 0 = λ x. Contains x n in
    marked_inside c.args.before.now.states.items c.args.before.now.marks.items (length c.args.nfa.now) n c.requires.before_marked c.requires.before_size
    (subst P c.deref.ensures.value among)

pub step_from-requires-clause-before_followed : goal.step_from-requires-clause-before_followed
step_from-requires-clause-before_followed c =
    let P : List ℕ → Type 0 = λ x. IsFollowed c.args.nfa.now x in
    subst P (sym c.deref.ensures.value) c.requires.before_followed

pub returns-clause-reads : goal.returns-clause-reads
returns-clause-reads c w =
    let P : List ℕ → Type 0 = λ x. ReadsFrom c.args.nfa.now c.step_from.new.self.states.items w ↔ ReadsFrom c.args.nfa.now x (c.args.c ∷ w) in
    subst P c.deref.ensures.value (c.in_ok-step_from.ensures.reads w)
