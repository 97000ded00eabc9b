use Rattle.std.proofs.Common.{ap, sym, subst}
use Rattle.std.proofs.lemmas.Result.{on_ok_weaker}
use Rattle.reduce_trees_mode.specs.Input.{IsInput, TreeInput}
use Rattle.spell_shrink.specs.KindWords.{AreWordsOf}
use Rattle.spell_shrink.specs.Respelled.{Reduced, Respelled}
use Rattle.spell_shrink.specs.SpellMode.{trials_as}
use Rattle.spell_shrink.proofs.PhaseLemmas.{is_done_as, respelling_begun}
use Rattle.spell_shrink.proofs.spell_round.SpellRoundTreePartsTreeRoundRound.begin_round.Goals as goal

-- ---- the tree

pub begin_round-requires : goal.begin_round-requires
begin_round-requires g c = is_done_as Reduced _ (rw c.in-Reducing.is at c.requires)

pub returns-in-Reducing-clause-rest : goal.returns-in-Reducing-clause-rest
returns-in-Reducing-clause-rest g c =
    rw c.in-Reducing.is (on_ok_weaker c.begin_round.result (λ same. ap (trials_as Reduced) same) c.begin_round.ensures.rest)

pub returns-in-Reducing-clause-state : goal.returns-in-Reducing-clause-state
returns-in-Reducing-clause-state g c =
    rw c.in-Reducing.is (on_ok_weaker c.begin_round.result (λ same. ap Reduced same) c.begin_round.ensures.state)

pub returns-in-Reducing-clause-input : goal.returns-in-Reducing-clause-input
returns-in-Reducing-clause-input g c = rw c.in-Reducing.is c.begin_round.ensures.input

pub returns-in-Reducing-clause-lawful : goal.returns-in-Reducing-clause-lawful
returns-in-Reducing-clause-lawful g c =
    rw c.in-Reducing.is
    (on_ok_weaker c.begin_round.result (λ done. c.spell_mode_is_lawful.ensures _ (subst IsInput c.parts.ensures c.is_input.ensures.is))
    c.begin_round.ensures.lawful)

-- the spellings stay those of the start
pub invariant_of-self : goal.invariant_of-self
invariant_of-self g c =
    record {
      agrees =
          subst (λ (input : TreeInput). AreWordsOf input.start input.tokens c.args.self.now.words.now) (sym c.begin_round.ensures.input)
          (rw c.in-Reducing.is at c.args.self.now.agrees);
    }

-- ---- its tokens

pub returns-in-Respelling-clause-rest : goal.returns-in-Respelling-clause-rest
returns-in-Respelling-clause-rest g c =
    let begun = c.begin_round-in-Respelling in
    rw c.in-Respelling.is
    (respelling_begun begun.result c.in-Respelling.step.style begun.new.self.style begun.ensures.style _ _ begun.ensures.rest)

pub returns-in-Respelling-clause-state : goal.returns-in-Respelling-clause-state
returns-in-Respelling-clause-state g c =
    let begun = c.begin_round-in-Respelling in
    rw c.in-Respelling.is
    (on_ok_weaker begun.result (λ done i. Respelled (begun.ensures.style i) (begun.ensures.respelling i)) begun.ensures.rest)

pub returns-in-Respelling-clause-input : goal.returns-in-Respelling-clause-input
returns-in-Respelling-clause-input g c = rw c.in-Respelling.is c.begin_round-in-Respelling.ensures.input

pub returns-in-Respelling-clause-lawful : goal.returns-in-Respelling-clause-lawful
returns-in-Respelling-clause-lawful g c =
    let begun = c.begin_round-in-Respelling in
    rw c.in-Respelling.is
    (on_ok_weaker begun.result (λ done. c.spell_mode_is_lawful.ensures _ c.is_input-in-Respelling.ensures) begun.ensures.rest)
