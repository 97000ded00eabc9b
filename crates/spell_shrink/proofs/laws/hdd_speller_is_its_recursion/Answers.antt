use Rattle.spell_shrink.proofs.Recursions as lemmas
use Rattle.spell_shrink.proofs.laws.hdd_speller_is_its_recursion.Goals as goal

pub returns : goal.returns
returns c = lemmas.hdd_speller c.hdd_rounds_are_levels.ensures c.opening_is_one_test.ensures c.spell_mode_is_lawful.ensures
