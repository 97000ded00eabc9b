use Rattle.std.proofs.Common.{◌≡◌, ℕ, Bool, not, ◌&&◌, Option, Some, None, is_some, refl, sym, ap, ◌∙◌}
use Rattle.std.specs.Prelude.{is_none}
use Rattle.grammar_tree.specs.Kinds.{name_kind, rule_number}
use Rattle.grammar_check_faults.proofs.unknown.means_nothing.Goals as goal

nothing : (o : Option ℕ) → not (is_some o) ≡ is_none o
nothing None = refl
nothing (Some i) = refl

tested : (has : Bool) (found o : Option ℕ) → has ≡ is_some found → found ≡ o → is_none o ≡ not has
tested has found o is same = sym (ap not (is ∙ ap (is_some {T = ℕ}) same) ∙ nothing o)

pub returns-then-not-is_rule : goal.returns-then-not-is_rule
returns-then-not-is_rule c =
    let G = c.args.names.now in
    let name = c.args.name.now in
    let rule = tested c.is_some-is_rule.result c.rule_number.result (rule_number G name) c.is_some-is_rule.ensures c.rule_number.ensures in
    let kind = tested c.is_some-is_token.result c.name_kind.result (name_kind G name) c.is_some-is_token.ensures c.name_kind.ensures in
    sym (ap (λ b. b && is_none (name_kind G name)) (rule ∙ ap not c.if-not-is_rule.true) ∙ kind)

pub returns-else-not-is_rule : goal.returns-else-not-is_rule
returns-else-not-is_rule c =
    let G = c.args.names.now in
    let name = c.args.name.now in
    let rule = tested c.is_some-is_rule.result c.rule_number.result (rule_number G name) c.is_some-is_rule.ensures c.rule_number.ensures in
    ap not c.if-not-is_rule.false ∙ sym (ap (λ b. b && is_none (name_kind G name)) (rule ∙ ap not c.if-not-is_rule.false))
