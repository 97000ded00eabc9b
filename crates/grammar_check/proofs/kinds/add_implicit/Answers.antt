use Rattle.std.proofs.Common.{◌≡◌, ◌++◌, List, ℕ, map, ap, ◌∙◌}
use Rattle.std.specs.Prelude.{position}
use Rattle.std.specs.List.{filter_map}
use Rattle.grammar_tree.specs.GrammarView.{kind_of, rule_of}
use Rattle.grammar_tree.specs.Kinds.{all_references, as_literal, distinct, is_named_by}
use Rattle.grammar_tree.specs.View.{token_ref}
use Rattle.grammar_tree.specs.Written.{Source}
use Rattle.grammar_check.specs.inner.Kinds.{absent, plain_kind}
use Rattle.grammar_check.proofs.KindForms.{implicit_are}
use Rattle.grammar_check.proofs.kinds.add_implicit.Goals as goal

pub returns : goal.returns
returns c =
    let rules = map rule_of c.args.rules.now in
    let old = map kind_of c.args.kinds.now.items in
    let f = λ (t : List ℕ). position (is_named_by t) rules in
    let literals : c.in_ok-literals.literals.items ≡ filter_map as_literal (all_references rules) =
    c.in_ok-literals.ensures ∙ ap (λ l. filter_map as_literal (map token_ref l)) c.deref.ensures.value
    ∙ ap (filter_map as_literal) c.in_ok-references.ensures in
    let texts : c.deref-3.result.now ≡ distinct c.in_ok-literals.literals.items =
    c.deref-3.ensures.value ∙ c.in_ok-texts.ensures ∙ ap distinct c.deref-2.ensures.value in
    c.in_ok-add_all_absent.ensures f c.in_ok-named.ensures
    ∙ ap (λ ts. old ++ map (plain_kind Source.implicit) (absent f ts)) texts
    ∙ ap (λ l. old ++ l) (implicit_are rules c.in_ok-literals.literals.items literals)
