use Rattle.std.proofs.Common.{◌≡◌, List, ℕ, map, ap, ◌∙◌, subst, IfOk}
use Rattle.std.specs.Prelude.{filter}
use Rattle.std.specs.List.{filter_map}
use Rattle.std.proofs.lemmas.List.Elements.{filter_agree}
use Rattle.grammar_tree.specs.Kinds.{reference_kind}
use Rattle.grammar_tree.specs.View.{token_ref}
use Rattle.grammar_names.specs.KindLists.{is_in}
use Rattle.grammar_names.proofs.names.Names.named_kinds.Goals as goal

pub returns : goal.returns
returns c =
    let G = c.args.self.now in
    let refs = map token_ref c.args.tokens.now.items.items in
    let written = c.in_ok-named.ensures ∙ ap (λ l. filter_map (reference_kind G) (map token_ref l)) c.deref.ensures.value in
    let same = λ (k : ℕ). ap (λ l. is_in l k) c.as_slice.ensures.value ∙ c.sorted-named.ensures.same k ∙ ap (λ l. is_in l k) written in
    let P : List ℕ → Type 0 = λ l. IfOk c.common.result (λ kinds. kinds.items ≡ l) in
    subst P (filter_agree (is_in c.as_slice.result.now) (is_in (filter_map (reference_kind G) refs)) same c.any_kinds.result.now
    ∙ ap (filter (is_in (filter_map (reference_kind G) refs))) c.any_kinds.ensures.kinds) c.common.ensures
