use Rattle.std.proofs.Common.{◌++◌, [], ◌∷◌, map, take, sym, ap, ◌∙◌}
use Rattle.std.specs.List.{filter_map}
use Rattle.std.proofs.lemmas.List.{append-nil}
use Rattle.grammar_tree.specs.Kinds.{reference_kind}
use Rattle.grammar_tree.specs.View.{token_ref}
use Rattle.grammar_names.proofs.Places.{mapped_more}
use Rattle.grammar_names.proofs.TokenKinds.{one_more, none_more}
use Rattle.grammar_names.proofs.names.Names.reference_kinds.Goals.{in-Some+in_ok-push, in_default}
use Rattle.grammar_names.proofs.names.Names.reference_kinds.Goals as goal

pub loop-token-preserved : goal.loop-token-preserved
loop-token-preserved c =
    let h = reference_kind c.args.self.now in
    let before = map token_ref (take c.loop-token.token-index c.args.tokens.now) in
    let this = token_ref c.token-item.result in
    let more =
    ap (filter_map h) (mapped_more token_ref c.args.tokens.now c.loop-token.token-index c.token-item.result c.loop-token-test.true c.token-item.is) in
    elim c.match-reference_kind.branch [
      | in-Some+in_ok-push w ↦
          ap (λ v. v.items) w.kinds-is ∙ w.in_ok-push.ensures.items ∙ ap (λ l. l ++ w.in-Some.kind ∷ []) c.loop-token.invariant
          ∙ sym (one_more h before this w.in-Some.kind (sym c.reference_kind.ensures ∙ w.in-Some.is)) ∙ sym more
      | in_default w ↦
          ap (λ v. v.items) w.kinds-is ∙ c.loop-token.invariant ∙ sym (append-nil (filter_map h before))
          ∙ sym (none_more h before this (sym c.reference_kind.ensures ∙ w.in_default.is)) ∙ sym more
    ]
