use Rattle.std.proofs.Common.{ℕ, Option, sym, ap, ◌∙◌, subst}
use Rattle.grammar_tree.specs.Derives.{bodies}
use Rattle.grammar_tree.specs.Faults.{LeftRecursion}
use Rattle.grammar_check_nodes.specs.First.{IsFirstOrNone}
use Rattle.grammar_check_faults.specs.inner.ParserFaults.{LeadsBackAt}
use Rattle.grammar_check_faults.specs.inner.ParserIndices.{index_at}
use Rattle.grammar_check_faults.proofs.IndexForms.{recursion_by_index, first_index}
use Rattle.grammar_check_faults.proofs.parser_rules.left_recursive_index.Goals as goal

pub returns : goal.returns
returns c =
    let G = c.args.names.now in
    let R : Option ℕ → Type 0 = λ o. IsFirstOrNone (LeftRecursion G) o in
    subst R (sym (c.index_of.ensures ∙ ap (λ ps. index_at ps c.in_ok-number.number) c.requires.indices))
    (first_index G (LeadsBackAt (bodies G)) (LeftRecursion G) (recursion_by_index G) c.in_ok-number.number c.in_ok-number.ensures)
