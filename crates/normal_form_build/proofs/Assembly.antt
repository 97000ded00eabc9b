-- The parts of a normal form, put together.
use Rattle.std.proofs.Common.{◌≡◌, ℕ, zero, suc, ◌+◌, ◌<◌, ◌^◌, List, [], ◌∷◌, length, map, take, get_or, refl, sym, ap, ◌∙◌, subst, arith, length-take}
use Rattle.std.proofs.lemmas.List.{length-map, take-map, get_or_default}
use Rattle.std.proofs.lemmas.Option.{slice_get_within}
use Rattle.grammar_tree.specs.Written.{ParserRule, WrittenRule, WrittenGrammar, CheckedGrammar}
use Rattle.grammar_tree.specs.Kinds.{any_kinds, parser_rules}
use Rattle.grammar_tree.specs.Derives.{Alts, bodies, resolved_alts}
use Rattle.grammar_tree.specs.Corners.{group_size, normal_count_from}
use Rattle.grammar_tree.specs.Faults.{number_at}
use Rattle.grammar_tree.specs.Size.{grammar_size}
use Rattle.grammar_tree.specs.Checked.{IsChecked}
use Rattle.normal_form_build.specs.declared.parser_rule.ParserRuleRef.{ParserRuleRef}
use Rattle.normal_form.specs.NormalOf.{names_from, normal_of, numbering, own_rule, sets_of}
use Rattle.normal_form_build.specs.Numbers.{AreNumbersOf}
use Rattle.normal_form_build.specs.inner.OwnRules.{own_rules_from}
use Rattle.normal_form_sets.specs.Sets.{SetsOfKinds}
use Rattle.normal_form.specs.View.{normal_form, rule_form}
use Rattle.normal_form_build.specs.inner.ParserRules.{bodies_of, parser_rule}
use Rattle.normal_form.specs.Form.{RuleForm, NormalForm}
use Rattle.normal_form.specs.Numbering.{groups}
use Rattle.normal_form.specs.Laws.{EqualLanguages, HasEqualLanguages}
use Rattle.normal_form.specs.declared.normal.NormalRule.{NormalRule}
use Rattle.grammar_tree.specs.declared.rule.Rule.{Rule}
use Rattle.grammar_tree.specs.GrammarView.{rule_of}
use Rattle.normal_form.proofs.Lent.{few_sets}

-- the alternatives of the parser rules that were found
pub bodies_are : (G H : WrittenGrammar) (found : List ParserRuleRef) (rules : List WrittenRule) → H ≡ G → rules ≡ G.rules
    → map parser_rule found ≡ parser_rules rules → bodies_of H found ≡ bodies G
bodies_are G H found rules e is f =
    ap (λ K. bodies_of K found) e ∙ ap (map (λ (r : ParserRule). resolved_alts G r.alts)) (f ∙ ap parser_rules is)

-- The numbers of the parser rules' own rules.
own_rules_length : (n r : ℕ) (G : List Alts) → length (own_rules_from n r G) ≡ length G
own_rules_length n r [] = refl
own_rules_length n r (a ∷ G) = ap suc (own_rules_length (n + group_size r a) (r + 1) G)

own_rule_at : (n r : ℕ) (G : List Alts) (k : ℕ) → k < length G → get_or (own_rules_from n r G) k 0 ≡ n + normal_count_from r (take k G)
own_rule_at n r [] k h = absurd (omega (arith, h))
own_rule_at n r (a ∷ G) zero h = omega arith
own_rule_at n r (a ∷ G) (suc k) h =
    let next : normal_count_from (r + 1) (take k G) ≡ normal_count_from (suc r) (take k G) = ap (λ q. normal_count_from q (take k G)) (omega arith) in
    own_rule_at (n + group_size r a) (r + 1) G k (omega (arith, h)) ∙ omega (arith, next)

-- what is looked up is the grammar's
pub numbers_are : (G H : WrittenGrammar) (own_rules : List ℕ) (sets : SetsOfKinds) (B : List Alts) → H ≡ G → B ≡ bodies G → own_rules ≡ own_rules_from 0 0 B
    → sets ≡ record { all = any_kinds H; sets = sets_of B } → grammar_size G < 2 ^ 32 → AreNumbersOf H own_rules sets
numbers_are G H own_rules sets B e b p s small =
    let at_B : own_rules ≡ own_rules_from 0 0 (bodies G) = p ∙ ap (own_rules_from 0 0) b in
    let sets_G : sets.sets ≡ sets_of (bodies G) = ap (λ (t : SetsOfKinds). t.sets) s ∙ ap sets_of b in
    let all : AreNumbersOf G own_rules sets =
    (record {
      known = ap length at_B ∙ own_rules_length 0 0 (bodies G);
      own_rules_are = λ r h. ap (λ l. get_or l r 0) at_B ∙ own_rule_at 0 0 (bodies G) r h ∙ omega arith;
      all_are = ap (λ (t : SetsOfKinds). t.all) s ∙ ap any_kinds e;
      sets_are = sets_G;
      few_sets = omega (arith, few_sets G, small, ap length sets_G);
    }) in
    let P : WrittenGrammar → Type 0 = λ K. AreNumbersOf K own_rules sets in subst P (sym e) all

-- The start.
pub start_within : (c : CheckedGrammar) → IsChecked c → c.start < length c.grammar.rules
start_within c checked = let at = checked.well_formed.has_start in slice_get_within c.grammar.rules c.start (WrittenRule.parser_rule at.0) at.1

-- the number of the start rule, which is counted
pub start_number : (c : CheckedGrammar) (items rules : List Rule) (n start : ℕ) → items ≡ rules → map rule_of rules ≡ c.grammar.rules → start ≡ c.start
    → n ≡ length (parser_rules (map rule_of (take start items))) → n ≡ number_at c.grammar c.start
start_number c items rules n start e is s h =
    h
    ∙ ap (λ l. length (parser_rules l)) (sym (take-map rule_of start items) ∙ ap (take start) (ap (map rule_of) e ∙ is))
    ∙ ap (λ i. length (parser_rules (take i c.grammar.rules))) s

pub start_length : (c : CheckedGrammar) → IsChecked c → (items rules : List Rule) (start : ℕ) → items ≡ rules → map rule_of rules ≡ c.grammar.rules
    → start ≡ c.start → start ≡ length (take start items)
start_length c checked items rules start e is s =
    omega (arith, start_within c checked, s, length-take start items, ap length is, length-map rules rule_of, ap length e)

-- how many own rules there are
pub own_rules_known : (G H : WrittenGrammar) (own_rules : List ℕ) (B : List Alts) → B ≡ bodies G → own_rules ≡ own_rules_from 0 0 B
    → length own_rules ≡ length (bodies G)
own_rules_known G H own_rules B b p = ap length (p ∙ ap (own_rules_from 0 0) b) ∙ own_rules_length 0 0 (bodies G)

-- the own rule that is read
pub own_rule_read : (G : WrittenGrammar) (own_rules : List ℕ) (B : List Alts) (k m : ℕ) (x : ℕ) → B ≡ bodies G → own_rules ≡ own_rules_from 0 0 B → k ≡ m
    → m < length (bodies G) → x ≡ get_or own_rules k x → x ≡ own_rule (bodies G) m
own_rule_read G own_rules B k m x b p e h is =
    let at : own_rules ≡ own_rules_from 0 0 (bodies G) = p ∙ ap (own_rules_from 0 0) b in
    let within : m < length own_rules = omega (arith, h, ap length at, own_rules_length 0 0 (bodies G)) in
    is ∙ ap (λ j. get_or own_rules j x) e ∙ get_or_default own_rules m x 0 within ∙ ap (λ l. get_or l m 0) at ∙ own_rule_at 0 0 (bodies G) m h ∙ omega arith

-- the whole
pub assembled : (c : CheckedGrammar) (made : List NormalRule) (names : List (List ℕ)) (sets : List (List ℕ)) (start : ℕ)
    → map rule_form made ≡ groups (numbering (bodies c.grammar)) 0 0 (bodies c.grammar) → names ≡ names_from c.grammar 0 (parser_rules c.grammar.rules)
    → sets ≡ sets_of (bodies c.grammar) → start ≡ own_rule (bodies c.grammar) (number_at c.grammar c.start) → normal_form made names sets start ≡ normal_of c
unfolding normal_of
assembled c made names sets start m n s k =
    let G = bodies c.grammar in
    let rules = groups (numbering G) 0 0 G in
    let all_names = names_from c.grammar 0 (parser_rules c.grammar.rules) in
    ap (with_rules names sets start) m
    ∙ ap (λ l. with_rules l sets start rules) n
    ∙ ap (λ l. with_rules all_names l start rules) s
    ∙ ap (λ i. with_rules all_names (sets_of G) i rules) k
  where
    with_rules : List (List ℕ) → List (List ℕ) → ℕ → List RuleForm → NormalForm
    with_rules ns ss i rs = record { rules = rs; names = ns; sets = ss; start = i }

-- what the rules that were made are, in the grammar
pub made_are : (G K : WrittenGrammar) (B : List Alts) (rules : List RuleForm) → K ≡ G → B ≡ bodies G → rules ≡ groups (numbering (bodies K)) 0 0 B
    → rules ≡ groups (numbering (bodies G)) 0 0 (bodies G)
made_are G K B rules e b r = r ∙ ap (λ X. groups (numbering (bodies X)) 0 0 B) e ∙ ap (groups (numbering (bodies G)) 0 0) b

pub languages_are : (c : CheckedGrammar) (N : NormalForm) → EqualLanguages → IsChecked c → N ≡ normal_of c → HasEqualLanguages c N
languages_are c N equal checked e = let P : NormalForm → Type 0 = λ M. HasEqualLanguages c M in subst P (sym e) (equal c checked)
