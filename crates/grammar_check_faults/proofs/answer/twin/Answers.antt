use Rattle.grammar_tree.specs.GrammarView.{grammar_of}
use Rattle.grammar_check_faults.specs.Twins.{IsTwinAt}
use Rattle.grammar_check_faults.proofs.AnswerForms.{twins_are_rules, named_first}
use Rattle.grammar_check_faults.proofs.answer.twin.Goals as goal

pub returns : goal.returns
returns c =
    let G = grammar_of c.args.grammar.now in
    named_first G (IsTwinAt G) (twins_are_rules G) c.in_ok-index.index c.in_ok-name.name c.in_ok-name.ensures c.in_ok-index.ensures
