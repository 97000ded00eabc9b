-- What isn't left out of all kinds is what no token stands for.
use Rattle.std.proofs.Common.{◌≡◌, ℕ, List, map, not, ap, ◌∙◌, subst, IfOk}
use Rattle.std.specs.Prelude.{filter, nat_eq}
use Rattle.std.specs.List.{filter_map, list_any}
use Rattle.grammar_tree.specs.Kinds.{reference_kind}
use Rattle.grammar_tree.specs.View.{token_ref}
use Rattle.grammar_names.proofs.TokenKinds.{others_are}
use Rattle.grammar_names.proofs.names.Names.other_kinds.Goals as goal

pub returns : goal.returns
returns c =
    let refs = map token_ref c.args.tokens.now.items.items in
    let left_out =
    c.as_slice.ensures.value ∙ c.in_ok-left_out.ensures ∙ ap (λ l. filter_map (reference_kind c.args.self.now) (map token_ref l)) c.deref.ensures.value in
    let P : List ℕ → Type 0 = λ l. IfOk c.without.result (λ kinds. kinds.items ≡ l) in
    subst P (ap (λ l. filter (λ k. not (list_any (λ other. nat_eq other k) l)) c.any_kinds.result.now) left_out
    ∙ ap (filter (λ k. not (list_any (λ other. nat_eq other k) (filter_map (reference_kind c.args.self.now) refs)))) c.any_kinds.ensures.kinds
    ∙ others_are c.args.self.now refs) c.without.ensures
