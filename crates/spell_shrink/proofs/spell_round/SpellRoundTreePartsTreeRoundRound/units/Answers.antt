use Rattle.spell_shrink.specs.Respelled.{Reduced}
use Rattle.spell_shrink.proofs.PhaseLemmas.{reducing_units, respelling_units, some_as}
use Rattle.spell_shrink.proofs.spell_round.SpellRoundTreePartsTreeRoundRound.units.Goals as goal

pub units-requires : goal.units-requires
units-requires g c = some_as Reduced _ (rw c.in-Reducing.is at c.requires)

pub returns-in-Reducing : goal.returns-in-Reducing
returns-in-Reducing g c = rw c.in-Reducing.is (reducing_units c.units.result _ c.units.ensures)

pub returns-in-Respelling : goal.returns-in-Respelling
returns-in-Respelling g c =
    rw c.in-Respelling.is (respelling_units c.in-Respelling.step.style c.units-in-Respelling.result _ c.units-in-Respelling.ensures)
