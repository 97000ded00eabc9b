use Rattle.std.proofs.Common.{ℕ, Option, sym, ap, ◌∙◌, subst}
use Rattle.grammar_tree.specs.Derives.{bodies}
use Rattle.grammar_tree.specs.Faults.{NoBase}
use Rattle.grammar_check_nodes.specs.First.{IsFirstOrNone}
use Rattle.grammar_check_faults.specs.inner.ParserFaults.{HasNoBaseAt}
use Rattle.grammar_check_faults.specs.inner.ParserIndices.{index_at}
use Rattle.grammar_check_faults.proofs.IndexForms.{bases_by_index, first_index}
use Rattle.grammar_check_faults.proofs.parser_rules.index_without_base.Goals as goal

pub returns : goal.returns
returns c =
    let G = c.args.names.now in
    let R : Option ℕ → Type 0 = λ o. IsFirstOrNone (NoBase G) o in
    subst R (sym (c.index_of.ensures ∙ ap (λ ps. index_at ps c.first_without_base.result) c.requires.indices))
    (first_index G (HasNoBaseAt (bodies G)) (NoBase G) (bases_by_index G) c.first_without_base.result c.first_without_base.ensures)
