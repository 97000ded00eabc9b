use Rattle.grammar_tree.specs.Faults.{EofPlace}
use Rattle.grammar_tree.specs.GrammarView.{grammar_of}
use Rattle.grammar_check_faults.proofs.AnswerForms.{eof_in_rules, named_first}
use Rattle.grammar_check_faults.proofs.answer.misplaced_eof.Goals as goal

pub returns : goal.returns
returns c =
    let G = grammar_of c.args.grammar.now in
    named_first G (EofPlace G c.args.start) (eof_in_rules G c.args.start) c.in_ok-index.index c.in_ok-name.name c.in_ok-name.ensures c.in_ok-index.ensures
