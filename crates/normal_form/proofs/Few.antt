-- How many rules a normal form has.
use Rattle.std.proofs.Common.{◌≡◌, ℕ, zero, suc, ◌+◌, ◌-◌, ◌<◌, List, [], ◌∷◌, length, map, take, refl, sym, ap, ◌∙◌, subst, arith, length-append}
use Rattle.grammar_tree.specs.Written.{ParserRule, WrittenGrammar, CheckedGrammar}
use Rattle.grammar_tree.specs.Kinds.{parser_rules}
use Rattle.grammar_tree.specs.Derives.{Alts, bodies, resolved_alts}
use Rattle.grammar_tree.specs.Corners.{group_size, normal_count_from}
use Rattle.grammar_tree.specs.Faults.{number_at}
use Rattle.grammar_tree.specs.Checked.{IsChecked}
use Rattle.grammar_tree.proofs.Lent.{numbers}
use Rattle.normal_form.specs.Form.{NormalForm}
use Rattle.normal_form.specs.Numbering.{Numbering, group, groups}
use Rattle.normal_form.specs.NormalOf.{group_names, names_from, new_names, normal_of, numbering}
use Rattle.normal_form.specs.FormLaws.{HasFewRules, RulesAreFew}
use Rattle.normal_form.proofs.Bounds.{few_rules, number_within}
use Rattle.normal_form.proofs.Counted.{group_positive}
use Rattle.normal_form.proofs.Named.{group_length}

groups_length : (M : Numbering) (n r : ℕ) (G : List Alts) → length (groups M n r G) ≡ normal_count_from r G
groups_length M n r [] = refl
groups_length M n r (a ∷ G) =
    let next : normal_count_from (r + 1) G ≡ normal_count_from (suc r) G = ap (λ q. normal_count_from q G) (omega arith) in
    length-append (group M n r a) (groups M (n + group_size r a) (r + 1) G)
    ∙ omega (arith, group_length M n r a, groups_length M (n + group_size r a) (r + 1) G, next)

new_length : (name : List ℕ) (k n : ℕ) → length (new_names name k n) ≡ n
new_length name k zero = refl
new_length name k (suc n) = ap suc (new_length name (k + 1) n)

names_length : (G : WrittenGrammar) (r : ℕ) (rules : List ParserRule)
    → length (names_from G r rules) ≡ normal_count_from r (map (λ (p : ParserRule). resolved_alts G p.alts) rules)
names_length G r [] = refl
names_length G r (rule ∷ rules) =
    let size = group_size r (resolved_alts G rule.alts) in
    let next : normal_count_from (r + 1) (map (λ (p : ParserRule). resolved_alts G p.alts) rules) ≡ normal_count_from (suc r)
    (map (λ (p : ParserRule). resolved_alts G p.alts) rules) =
    ap (λ q. normal_count_from q (map (λ (p : ParserRule). resolved_alts G p.alts) rules)) (omega arith) in
    length-append (group_names rule.name size) (names_from G (r + 1) rules)
    ∙ omega (arith, new_length rule.name 1 (size - 1), group_positive r (resolved_alts G rule.alts), names_length G (r + 1) rules, next)

-- an own rule is before the end
own_rule_below : (r : ℕ) (G : List Alts) (k : ℕ) → k < length G → normal_count_from r (take k G) < normal_count_from r G
own_rule_below r [] k h = absurd (omega (arith, h))
own_rule_below r (a ∷ G) zero h = omega (arith, group_positive r a)
own_rule_below r (a ∷ G) (suc k) h = omega (arith, own_rule_below (suc r) G k (omega (arith, h)))

few : (c : CheckedGrammar) → IsChecked c → HasFewRules (normal_of c)
unfolding normal_of
few c checked =
    let G = bodies c.grammar in
    let count = groups_length (numbering G) 0 0 G in
    record {
      few = omega (arith, count, few_rules c checked);
      named = names_length c.grammar 0 (parser_rules c.grammar.rules) ∙ sym count;
      start_is_there = omega (arith, count, own_rule_below 0 G (number_at c.grammar c.start) (number_within c checked (numbers c.grammar)));
    }

pub rules_are_few : RulesAreFew
rules_are_few N normal = let P : NormalForm → Type 0 = λ M. HasFewRules M in subst P (sym normal.is) (few normal.grammar normal.checked)
