use Rattle.std.proofs.Common.{◌≡◌, ◌++◌, ◌+◌, ◌∷◌, [], length, map, take, length-take, sym, ap, ◌∙◌, arith}
use Rattle.std.proofs.lemmas.List.{length-map}
use Rattle.grammar_tree.specs.GrammarView.{rule_of}
use Rattle.grammar_names.proofs.Lent.{mapped_more}
use Rattle.grammar_check_faults.specs.ParserIndices.{indices_from}
use Rattle.grammar_check_faults.proofs.IndexForms.{indices_append}
use Rattle.grammar_check_faults.proofs.parser_rules.parser_indices.Goals as goal

pub loop-index-preserved : goal.loop-index-preserved
loop-index-preserved c =
    let i = c.loop-index.index in
    let rules = c.args.rules.now in
    let so_far = map rule_of (take i rules) in
    let rule = rule_of c.index-rules-index.result in
    let more = mapped_more rule_of rules i c.index-rules-index.result c.loop-index-test.true c.index-rules-index.is in
    let index : length so_far + 0 ≡ i = omega (arith, c.loop-index-test.true, length-map (take i rules) rule_of, length-take i rules) in
    c.in_ok-add_index.ensures
    ∙ ap (λ l. l ++ indices_from i (rule ∷ [])) c.loop-index.invariant
    ∙ ap (λ n. indices_from 0 so_far ++ indices_from n (rule ∷ [])) (sym index)
    ∙ sym (indices_append 0 so_far (rule ∷ [])) ∙ ap (indices_from 0) (sym more)
