use Rattle.std.proofs.Common.{◌≡◌, ◌++◌, List, ℕ, map, ap, ◌∙◌, subst}
use Rattle.std.specs.Prelude.{position}
use Rattle.grammar_tree.specs.GrammarView.{grammar_of, kind_of, rule_of}
use Rattle.grammar_tree.specs.Kinds.{distinct, makes_token}
use Rattle.grammar_tree.specs.Written.{Source}
use Rattle.grammar_names.specs.Index.{Finds}
use Rattle.grammar_tree.specs.declared.rule.Rule.{Rule}
use Rattle.grammar_check.specs.inner.Kinds.{absent, plain_kind}
use Rattle.grammar_check.proofs.KindForms.{declared_are}
use Rattle.grammar_check.proofs.kinds.add_declared.Goals as goal

pub returns : goal.returns
returns c =
    let G = grammar_of c.args.grammar.now in
    let old = map kind_of c.args.kinds.now.items in
    let f = λ (t : List ℕ). position (makes_token t) G.rules in
    let P : List Rule → Type 0 = λ rs. Finds c.in_ok-made.made (λ t. position (makes_token t) (map rule_of rs)) in
    let finds : Finds c.in_ok-made.made f = subst P c.deref-2.ensures.value c.in_ok-made.ensures in
    let texts : c.deref-3.result.now ≡ distinct G.tokens = c.deref-3.ensures.value ∙ c.in_ok-texts.ensures ∙ ap distinct c.deref.ensures.value in
    c.in_ok-add_all_absent.ensures f finds
    ∙ ap (λ ts. old ++ map (plain_kind Source.declared) (absent f ts)) texts
    ∙ ap (λ l. old ++ l) (declared_are G)
