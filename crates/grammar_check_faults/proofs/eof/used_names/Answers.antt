use Rattle.std.proofs.Common.{List, ℕ, ◌∷◌, [], map, take, sym, ap, ◌∙◌, subst, arith}
use Rattle.std.specs.List.{filter_map}
use Rattle.std.proofs.lemmas.List.Elements.{filter_map-append}
use Rattle.grammar_tree.specs.Kinds.{as_name}
use Rattle.grammar_tree.specs.View.{token_ref}
use Rattle.grammar_names.specs.Index.{Finds}
use Rattle.grammar_names.proofs.Lent.{mapped_more}
use Rattle.grammar_check_faults.specs.inner.Seen.{seen_in}
use Rattle.grammar_check_faults.proofs.eof.used_names.Goals as goal

pub loop-reference-preserved : goal.loop-reference-preserved
loop-reference-preserved c =
    let i = c.loop-reference.reference-index in
    let refs = c.args.references.now in
    let so_far = map token_ref (take i refs) in
    let more = mapped_more token_ref refs i c.reference-item.result (omega arith) c.reference-item.is in
    let texts = sym (filter_map-append as_name so_far (token_ref c.reference-item.result ∷ [])) ∙ ap (filter_map as_name) (sym more) in
    let P : List (List ℕ) → Type 0 = λ l. Finds c.add_used.new.used (seen_in l) in
    subst P texts (c.in_ok-add_used.ensures (filter_map as_name so_far) c.loop-reference.invariant)
