use Rattle.std.proofs.Common.{sym, subst}
use Rattle.reduce_trees_mode.specs.Input.{TreeInput}
use Rattle.spell_shrink.specs.KindWords.{AreWordsOf}
use Rattle.spell_shrink.specs.Respelled.{Reduced, Respelled}
use Rattle.spell_shrink.proofs.PhaseLemmas.{respelling_rest, respelling_state, rest_after, some_as, yes_after}
use Rattle.spell_shrink.proofs.spell_round.SpellRoundTreePartsTreeRoundRound.answer.Goals as goal

-- ---- the tree

pub answer-requires : goal.answer-requires
answer-requires g c = some_as Reduced _ (rw c.in-Reducing.is at c.requires)

pub returns-in-Reducing-clause-rest : goal.returns-in-Reducing-clause-rest
returns-in-Reducing-clause-rest g c = rw c.in-Reducing.is (rest_after Reduced c.answer.result _ _ c.args.yes c.answer.ensures.rest)

pub returns-in-Reducing-clause-state : goal.returns-in-Reducing-clause-state
returns-in-Reducing-clause-state g c = rw c.in-Reducing.is (yes_after Reduced c.answer.result _ _ _ c.args.yes c.answer.ensures.state)

pub returns-in-Reducing-clause-input : goal.returns-in-Reducing-clause-input
returns-in-Reducing-clause-input g c = rw c.in-Reducing.is c.answer.ensures.input

-- the spellings stay those of the start
pub invariant_of-self : goal.invariant_of-self
invariant_of-self g c =
    record {
      agrees =
          subst (λ (input : TreeInput). AreWordsOf input.start input.tokens c.args.self.now.words.now) (sym c.answer.ensures.input)
          (rw c.in-Reducing.is at c.args.self.now.agrees);
    }

-- ---- its tokens

pub answer-requires-in-Respelling : goal.answer-requires-in-Respelling
answer-requires-in-Respelling g c = some_as (Respelled c.in-Respelling.step.style) _ (rw c.in-Respelling.is at c.requires)

pub returns-in-Respelling-clause-rest : goal.returns-in-Respelling-clause-rest
returns-in-Respelling-clause-rest g c =
    let answered = c.answer-in-Respelling in
    rw c.in-Respelling.is
    (respelling_rest answered.result c.in-Respelling.step.style answered.new.self.style answered.ensures.style _ _ c.args.yes answered.ensures.rest)

pub returns-in-Respelling-clause-state : goal.returns-in-Respelling-clause-state
returns-in-Respelling-clause-state g c =
    let answered = c.answer-in-Respelling in
    rw c.in-Respelling.is
    (respelling_state answered.result c.in-Respelling.step.style answered.new.self.style answered.ensures.style _ _ _ c.args.yes
    answered.ensures.respelling)

pub returns-in-Respelling-clause-input : goal.returns-in-Respelling-clause-input
returns-in-Respelling-clause-input g c = rw c.in-Respelling.is c.answer-in-Respelling.ensures.input
