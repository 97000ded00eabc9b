use Rattle.run_problem.proofs.QuestionLemmas as lemmas
use Rattle.run_problem.proofs.laws.histories_go_by_questions.Goals as goal

pub returns : goal.returns
returns c =
    lemmas.histories_go c.lines_are_recursions.ensures c.perses_is_its_recursion.ensures c.hdd_is_its_recursion.ensures
    c.perses_speller_is_its_recursion.ensures c.hdd_speller_is_its_recursion.ensures
