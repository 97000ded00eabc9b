use Rattle.spell_shrink.proofs.Recursions as lemmas
use Rattle.spell_shrink.proofs.laws.perses_speller_is_its_recursion.Goals as goal

pub returns : goal.returns
returns c = lemmas.perses_speller c.perses_rounds_are_visits.ensures c.opening_is_one_test.ensures c.spell_mode_is_lawful.ensures
