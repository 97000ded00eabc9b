use Rattle.std.proofs.Common.{ℕ, Option, sym, ap, ◌∙◌, subst}
use Rattle.grammar_tree.specs.Derives.{bodies}
use Rattle.grammar_check_nodes.specs.First.{IsFirstOrNone}
use Rattle.grammar_check_faults.specs.ParserFaults.{ParserLoopAt}
use Rattle.grammar_check_faults.specs.inner.ParserFaults.{HasLoopAt}
use Rattle.grammar_check_faults.specs.inner.ParserIndices.{index_at}
use Rattle.grammar_check_faults.proofs.IndexForms.{loops_by_index, first_index}
use Rattle.grammar_check_faults.proofs.parser_rules.index_with_loop.Goals as goal

pub returns : goal.returns
returns c =
    let G = c.args.names.now in
    let R : Option ℕ → Type 0 = λ o. IsFirstOrNone (ParserLoopAt G) o in
    subst R (sym (c.index_of.ensures ∙ ap (λ ps. index_at ps c.first_with_loop.result) c.requires.indices))
    (first_index G (HasLoopAt (bodies G)) (ParserLoopAt G) (loops_by_index G) c.first_with_loop.result c.first_with_loop.ensures)
