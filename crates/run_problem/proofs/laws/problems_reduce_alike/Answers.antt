use Rattle.run_problem.proofs.AlikeLemmas as lemmas
use Rattle.run_problem.proofs.laws.problems_reduce_alike.Goals as goal

pub returns : goal.returns
returns c =
    lemmas.problems_reduce_alike c.lines_are_recursions.ensures c.perses_is_its_recursion.ensures c.hdd_is_its_recursion.ensures
    c.perses_speller_is_its_recursion.ensures c.hdd_speller_is_its_recursion.ensures
