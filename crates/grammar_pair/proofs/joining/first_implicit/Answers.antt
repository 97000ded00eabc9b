use Rattle.std.proofs.Common.{map, ap, ◌∙◌}
use Rattle.std.specs.Prelude.{position}
use Rattle.std.proofs.lemmas.Result.{IfOk-weaker}
use Rattle.grammar_tree.specs.GrammarView.{rule_of}
use Rattle.grammar_tree.specs.Kinds.{is_named_by}
use Rattle.grammar_tree.specs.View.{token_ref}
use Rattle.grammar_pair.proofs.Unnamed.{is_first_implicit}
use Rattle.grammar_pair.proofs.joining.first_implicit.Goals as goal

pub returns : goal.returns
returns c =
    let rules = map rule_of c.args.rules.now in
    let are = ap (map token_ref) c.deref.ensures.value ∙ c.in_ok-references.ensures in
    IfOk-weaker c.first_unnamed.result _ _ (λ found is. is ∙ is_first_implicit rules (map token_ref c.deref.result.now) are)
    (c.first_unnamed.ensures (λ t. position (is_named_by t) rules) c.in_ok-named.ensures)
