use Rattle.std.proofs.Common.{List, ℕ, ◌↔◌, ◌∷◌, sym, subst}
use Rattle.lexer_match.specs.declared.state_set.StateSet.{StateSet}
use Rattle.lexer_match.specs.StateSets.{ReadsFrom}
use Rattle.lexer_match.specs.inner.StateSets.{IsFollowed}
use Rattle.lexer_match.proofs.reading.Reading.step.Goals as goal

pub returns-clause-followed : goal.returns-clause-followed
returns-clause-followed c =
    let Q : StateSet → Type 0 = λ x. IsFollowed c.args.nfa.now x.states.items in
    subst Q (sym c.swap.ensures.x_after) c.in_ok-step.ensures.followed

pub returns-clause-reads : goal.returns-clause-reads
returns-clause-reads c =
    let Q : StateSet → Type 0 =
    λ x. (w : List ℕ) → ReadsFrom c.args.nfa.now x.states.items w ↔ ReadsFrom c.args.nfa.now c.args.self.now.current.states.items (c.args.c ∷ w) in
    subst Q (sym c.swap.ensures.x_after) c.in_ok-step.ensures.reads
