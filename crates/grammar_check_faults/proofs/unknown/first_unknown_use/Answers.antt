use Rattle.std.proofs.Common.{◌≡◌, ◌∷◌, ◌++◌, [], List, Some, None, map, refl, sym, ap, ◌∙◌, arith}
use Rattle.std.specs.Prelude.{find, option_map}
use Rattle.std.specs.List.{flat_map}
use Rattle.grammar_tree.specs.Faults.{NameUse, name_uses, rule_uses, used_name}
use Rattle.grammar_tree.specs.GrammarView.{rule_of}
use Rattle.grammar_tree.specs.Written.{WrittenGrammar}
use Rattle.grammar_tree.specs.declared.rule.Rule.{Rule}
use Rattle.grammar_check_faults.specs.inner.Unknown.{is_unknown}
use Rattle.grammar_check_faults.proofs.FindForms.{none_more, none_of, first_found, none_found}
use Rattle.grammar_check_faults.proofs.UnknownForms.{first_unknown_is}
use Rattle.grammar_check_faults.proofs.unknown.first_unknown_use.Goals as goal

abbrev uses_of : Rule → List NameUse
uses_of r = rule_uses (rule_of r)

uses_flat : (rs : List Rule) → flat_map rule_uses (map rule_of rs) ≡ flat_map uses_of rs
uses_flat [] = refl
uses_flat (r ∷ rs) = ap (λ l. uses_of r ++ l) (uses_flat rs)

all_uses : (G : WrittenGrammar) (rs : List Rule) → map rule_of rs ≡ G.rules
    → option_map used_name (find (is_unknown G) (flat_map uses_of rs)) ≡ option_map used_name (find (is_unknown G) (name_uses G))
all_uses G rs same = ap (λ l. option_map used_name (find (is_unknown G) l)) (sym (uses_flat rs) ∙ ap (flat_map rule_uses) same)

pub returns-in-Some : goal.returns-in-Some
returns-in-Some c =
    let rules = c.args.rules.now in
    let G = c.args.names.now in
    let found =
    first_found (is_unknown G) uses_of used_name rules c.loop-rule.rule-index c.rule-item.result c.in-Some.name c.loop-rule.invariant
    (omega (arith, c.loop-rule-test.true)) c.rule-item.is (sym c.in-Some.is ∙ c.in_ok-name.ensures) in
    first_unknown_is G (Some c.in-Some.name) (found ∙ all_uses G rules c.requires.rules)

pub loop-rule-preserved : goal.loop-rule-preserved
loop-rule-preserved c =
    let rules = c.args.rules.now in
    let G = c.args.names.now in
    none_more (is_unknown G) uses_of rules c.loop-rule.rule-index c.rule-item.result c.loop-rule.invariant (omega (arith, c.loop-rule-test.true)) c.rule-item.is
    (none_of (is_unknown G) uses_of used_name c.rule-item.result (sym c.in_default.is ∙ c.in_ok-name.ensures))

pub returns : goal.returns
returns c =
    let rules = c.args.rules.now in
    let G = c.args.names.now in
    let none = none_found (is_unknown G) uses_of used_name rules c.loop-rule.rule-index c.loop-rule.invariant (omega arith) in
    first_unknown_is G None (none ∙ all_uses G rules c.requires.rules)
