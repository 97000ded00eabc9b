use Rattle.cert_check.proofs.Reducers as lemmas
use Rattle.cert_check.proofs.laws.confirmed_are_reductions.Goals as goal

pub returns : goal.returns
returns c =
    lemmas.confirmed_are_reductions c.lines_end_minimal.ensures c.spell_laws.ensures c.spell_laws-2.ensures c.perses_is_its_recursion.ensures
    c.hdd_is_its_recursion.ensures c.perses_speller_is_its_recursion.ensures c.hdd_speller_is_its_recursion.ensures
