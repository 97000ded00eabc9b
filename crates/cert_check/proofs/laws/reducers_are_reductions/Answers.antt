use Rattle.cert_check.proofs.Reducers as lemmas
use Rattle.cert_check.proofs.laws.reducers_are_reductions.Goals as goal

pub returns : goal.returns
returns c =
    lemmas.reducers_are_reductions c.follows_lines.ensures c.perses_is_its_recursion.ensures c.hdd_is_its_recursion.ensures
    c.perses_speller_is_its_recursion.ensures c.hdd_speller_is_its_recursion.ensures
