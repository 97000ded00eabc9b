use Rattle.std.proofs.Common.{◌≡◌, ◌++◌, ◌+◌, ◌∷◌, [], length, map, take, length-take, sym, ap, ◌∙◌, append_assoc, arith}
use Rattle.std.proofs.lemmas.List.{length-map}
use Rattle.grammar_tree.specs.GrammarView.{kind_of, rule_of}
use Rattle.grammar_tree.specs.Kinds.{written_kinds}
use Rattle.grammar_names.proofs.Lent.{mapped_more}
use Rattle.grammar_check.proofs.KindForms.{kinds_append}
use Rattle.grammar_check.proofs.kinds.add_all_written.Goals as goal

pub loop-index-preserved : goal.loop-index-preserved
loop-index-preserved c =
    let i = c.loop-index.index in
    let rules = c.args.rules.now in
    let old = map kind_of c.args.kinds.now.items in
    let so_far = map rule_of (take i rules) in
    let rule = rule_of c.index-rules-index.result in
    let more = mapped_more rule_of rules i c.index-rules-index.result c.loop-index-test.true c.index-rules-index.is in
    let index : length so_far + 0 ≡ i = omega (arith, c.loop-index-test.true, length-map (take i rules) rule_of, length-take i rules) in
    c.in_ok-add_written.ensures
    ∙ ap (λ l. l ++ written_kinds i (rule ∷ [])) c.loop-index.invariant
    ∙ append_assoc old (written_kinds 0 so_far) (written_kinds i (rule ∷ []))
    ∙ ap (λ n. old ++ (written_kinds 0 so_far ++ written_kinds n (rule ∷ []))) (sym index)
    ∙ ap (λ l. old ++ l) (sym (kinds_append 0 so_far (rule ∷ [])) ∙ ap (written_kinds 0) (sym more))
