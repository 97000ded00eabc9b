use Rattle.std.proofs.Common.{ap, sym, subst}
use Rattle.reduce_trees_mode.specs.Input.{TreeInput}
use Rattle.spell_shrink.specs.KindWords.{AreWordsOf}
use Rattle.spell_shrink.specs.Respelled.{Reduced, Respelled}
use Rattle.spell_shrink.specs.SpellMode.{trials_as}
use Rattle.spell_shrink.proofs.spell_round.SpellRoundTreePartsTreeRoundRound.copy.Goals as goal

-- ---- the tree

pub returns-in_ok-copy-in-Reducing-clause-input : goal.returns-in_ok-copy-in-Reducing-clause-input
returns-in_ok-copy-in-Reducing-clause-input g c = rw c.in-Reducing.is c.in_ok-copy-in-Reducing.ensures.input

pub returns-in_ok-copy-in-Reducing-clause-state : goal.returns-in_ok-copy-in-Reducing-clause-state
returns-in_ok-copy-in-Reducing-clause-state g c = rw c.in-Reducing.is (ap Reduced c.in_ok-copy-in-Reducing.ensures.state)

pub returns-in_ok-copy-in-Reducing-clause-rest : goal.returns-in_ok-copy-in-Reducing-clause-rest
returns-in_ok-copy-in-Reducing-clause-rest g c = rw c.in-Reducing.is (ap (trials_as Reduced) c.in_ok-copy-in-Reducing.ensures.rest)

-- the spellings are those of the start
pub invariant_of-result : goal.invariant_of-result
invariant_of-result g c =
    record {
      agrees =
          subst (λ (input : TreeInput). AreWordsOf input.start input.tokens c.args.self.now.words.now) (sym c.in_ok-copy-in-Reducing.ensures.input)
          (rw c.in-Reducing.is at c.args.self.now.agrees);
    }

-- ---- its tokens

pub returns-in_ok-copy-in-Respelling-clause-input : goal.returns-in_ok-copy-in-Respelling-clause-input
returns-in_ok-copy-in-Respelling-clause-input g c = rw c.in-Respelling.is c.in_ok-copy-in-Respelling.ensures.input

pub returns-in_ok-copy-in-Respelling-clause-state : goal.returns-in_ok-copy-in-Respelling-clause-state
returns-in_ok-copy-in-Respelling-clause-state g c =
    let copied = c.in_ok-copy-in-Respelling.ensures in
    rw c.in-Respelling.is (λ i. Respelled (copied.style i) (copied.respelling i))

pub returns-in_ok-copy-in-Respelling-clause-rest : goal.returns-in_ok-copy-in-Respelling-clause-rest
returns-in_ok-copy-in-Respelling-clause-rest g c =
    let copied = c.in_ok-copy-in-Respelling.ensures in
    rw c.in-Respelling.is (λ i. trials_as (Respelled (copied.style i)) (copied.rest i))
