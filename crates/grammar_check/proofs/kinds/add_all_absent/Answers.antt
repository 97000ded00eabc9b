use Rattle.std.proofs.Common.{◌++◌, ◌∷◌, [], map, take, sym, ap, ◌∙◌, append_assoc, arith}
use Rattle.std.specs.Prelude.{is_none}
use Rattle.std.proofs.lemmas.List.{map-append, take_more}
use Rattle.std.proofs.lemmas.List.Elements.{filter-append}
use Rattle.grammar_tree.specs.GrammarView.{kind_of, source_of}
use Rattle.grammar_check.specs.inner.Kinds.{absent, plain_kind}
use Rattle.grammar_check.proofs.kinds.add_all_absent.Goals as goal

pub loop-text-preserved : goal.loop-text-preserved
loop-text-preserved c = λ f finds.
    let i = c.loop-text.text-index in
    let so_far = take i c.args.texts.now in
    let old = map kind_of c.args.kinds.now.items in
    let kinds = map (plain_kind (source_of c.args.source)) in
    let text = c.text-item.result in
    let more = take_more c.args.texts.now i text (omega arith) ∙ ap (λ t. so_far ++ t ∷ []) (sym c.text-item.is) in
    c.in_ok-add_absent.ensures f finds
    ∙ ap (λ l. l ++ kinds (absent f (text ∷ []))) (c.loop-text.invariant f finds)
    ∙ append_assoc old (kinds (absent f so_far)) (kinds (absent f (text ∷ [])))
    ∙ ap (λ l. old ++ l) (sym (map-append (plain_kind (source_of c.args.source)) (absent f so_far) (absent f (text ∷ []))))
    ∙ ap (λ l. old ++ kinds l) (sym (filter-append (λ t. is_none (f t)) so_far (text ∷ [])) ∙ ap (absent f) (sym more))
