use Rattle.std.proofs.Common.{◌++◌, ◌∷◌, [], map, take, sym, ap, ◌∙◌, arith}
use Rattle.std.specs.List.{filter_map}
use Rattle.std.proofs.lemmas.List.Elements.{filter_map-append}
use Rattle.grammar_tree.specs.Kinds.{as_literal}
use Rattle.grammar_tree.specs.View.{token_ref}
use Rattle.grammar_names.proofs.Lent.{mapped_more}
use Rattle.grammar_check.proofs.kinds.literals_of.Goals as goal

pub loop-reference-preserved : goal.loop-reference-preserved
loop-reference-preserved c =
    let i = c.loop-reference.reference-index in
    let refs = c.args.references.now in
    let more = mapped_more token_ref refs i c.reference-item.result (omega arith) c.reference-item.is in
    c.in_ok-add_literal.ensures
    ∙ ap (λ l. l ++ filter_map as_literal (token_ref c.reference-item.result ∷ [])) c.loop-reference.invariant
    ∙ sym (filter_map-append as_literal (map token_ref (take i refs)) (token_ref c.reference-item.result ∷ []))
    ∙ ap (filter_map as_literal) (sym more)
