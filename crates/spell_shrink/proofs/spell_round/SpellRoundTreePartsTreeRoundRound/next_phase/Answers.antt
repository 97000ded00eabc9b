use Rattle.std.proofs.Common.{◌∙◌, ap, refl, sym, subst}
use Rattle.reduce_trees_mode.specs.Input.{TreeInput, TreeState}
use Rattle.reduce_trees_mode.specs.InStyles.{in_style}
use Rattle.spell_shrink.specs.KindWords.{AreWordsOf}
use Rattle.spell_shrink.specs.Respelled.{Reduced, Respelled}
use Rattle.spell_shrink.specs.SpellMode.{trials_as}
use Rattle.spell_shrink.proofs.PhaseLemmas.{is_done_as, other_phase, own_next, own_of}
use Rattle.spell_shrink.proofs.spell_round.SpellRoundTreePartsTreeRoundRound.next_phase.Goals as goal

pub kept-requires : goal.kept-requires
kept-requires g c = is_done_as Reduced _ (rw c.in-Reducing.is at c.requires)

-- the parts are of the round's input, whose spellings these are
pub new-requires-clause-words : goal.new-requires-clause-words
new-requires-clause-words g c =
    subst (λ (input : TreeInput). AreWordsOf input.start input.tokens c.args.self.now.words.now) (sym c.parts-parts.ensures)
    (rw c.in-Reducing.is at c.args.self.now.agrees)

-- what is left begins with its tokens' own spellings
pub new-requires-clause-own : goal.new-requires-clause-own
new-requires-clause-own g c =
    own_of _ _ _ c.in_ok-kept.kept.items c.style.result c.is_input.ensures.is c.left_is_part.ensures c.parts-parts.ensures c.in_ok-kept.ensures.tokens
    c.style.ensures c.in_ok-kept.ensures.kept

pub returns-clause-state : goal.returns-clause-state
returns-clause-state g c =
    let step = c.in_ok-step in
    let round = c.in-Reducing.round in
    let state : TreeState = in_style round.style (g.W.TreeWalk.left round.walk) in
    rw c.in-Reducing.is (
      refl,
      own_next _ _ state c.in_ok-kept.kept.items step.step.style _ c.parts-parts.ensures c.in_ok-kept.ensures.tokens
          (step.ensures.style ∙ c.style.ensures) step.ensures.respelling,
    )

pub returns-clause-rest : goal.returns-clause-rest
returns-clause-rest g c = ap (trials_as (Respelled c.in_ok-step.step.style)) c.in_ok-step.ensures.rest

pub returns-clause-input : goal.returns-clause-input
returns-clause-input g c = rw c.in-Reducing.is (c.in_ok-step.ensures.input ∙ c.parts-parts.ensures)

-- its tokens are respelled
pub returns-in_default-clause-state : goal.returns-in_default-clause-state
returns-in_default-clause-state g c = rw (other_phase c.args.self.now.phase c.in_default.not-Reducing).1 (refl, refl)
