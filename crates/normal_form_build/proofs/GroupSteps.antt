-- One more parser rule, while the rules that each makes are counted, named and made.
use Rattle.std.proofs.Common.{◌≡◌, ℕ, suc, ◌+◌, ◌<◌, ◌≤◌, ◌^◌, List, [], ◌∷◌, ◌++◌, length, map, drop, slice_index_or, sym, ap, ◌∙◌, arith}
use Rattle.std.proofs.lemmas.List.{at_drop_all, at_drop_more}
use Rattle.grammar_tree.specs.Corners.{group_size, normal_count_from}
use Rattle.grammar_tree.specs.Derives.{Alts, resolved_alts}
use Rattle.grammar_tree.specs.Written.{ParserRule, WrittenGrammar}
use Rattle.normal_form.specs.Form.{RuleForm}
use Rattle.normal_form.specs.NormalOf.{group_names, names_from}
use Rattle.normal_form.specs.Numbering.{Numbering, group, groups}
use Rattle.normal_form_build.specs.declared.parser_rule.ParserRuleRef.{ParserRuleRef}
use Rattle.normal_form_build.specs.inner.OwnRules.{own_rules_from}
use Rattle.normal_form_build.specs.inner.ParserRules.{bodies_of, parser_rule}
use Rattle.normal_form_build.proofs.RuleSteps.{all_made, more_made}

-- the parser rules from an index on, of which one is taken
pub body_taken : (G : WrittenGrammar) (rules : List ParserRuleRef) (i : ℕ) (r : ParserRuleRef) → i < length rules → r ≡ slice_index_or rules i r
    → bodies_of G (drop i rules) ≡ resolved_alts G (parser_rule r).alts ∷ bodies_of G (drop (i + 1) rules)
body_taken G rules i r lt is =
    at_drop_more (bodies_of G) rules i r lt ∙ ap (λ x. resolved_alts G (parser_rule x).alts ∷ bodies_of G (drop (i + 1) rules)) (sym is)

pub name_taken : (rules : List ParserRuleRef) (i : ℕ) (r : ParserRuleRef) → i < length rules → r ≡ slice_index_or rules i r
    → map parser_rule (drop i rules) ≡ parser_rule r ∷ map parser_rule (drop (i + 1) rules)
name_taken rules i r lt is =
    at_drop_more (map parser_rule) rules i r lt ∙ ap (λ x. parser_rule x ∷ map parser_rule (drop (i + 1) rules)) (sym is)

-- none is left to be taken
pub bodies_end : (G : WrittenGrammar) (rules : List ParserRuleRef) (i : ℕ) → length rules ≤ i → bodies_of G (drop i rules) ≡ []
bodies_end G rules i past = at_drop_all (bodies_of G) rules i past

pub names_end : (rules : List ParserRuleRef) (i : ℕ) → length rules ≤ i → map parser_rule (drop i rules) ≡ []
names_end rules i past = at_drop_all (map parser_rule) rules i past

module _ (i n : ℕ) (a : Alts) (all rest : List Alts) (taken : all ≡ a ∷ rest) where
  -- its rules are few, where those of all are
  pub group_fits : (m : ℕ) → n + normal_count_from i all ≡ m → m < 2 ^ 32 → n + group_size i a < 2 ^ 32
  group_fits m so_far few = omega (arith, ap (normal_count_from i) taken, so_far, few)

  module _ (k : ℕ) (counted : k ≡ n + group_size i a) where
    pub count_more : (m : ℕ) → n + normal_count_from i all ≡ m → k + normal_count_from (i + 1) rest ≡ m
    count_more m so_far =
        let next : normal_count_from (suc i) rest ≡ normal_count_from (i + 1) rest =
        ap (λ q. normal_count_from q rest) (omega arith) in omega (arith, ap (normal_count_from i) taken, next, counted, so_far)

    pub own_rules_more : (old new whole : List ℕ) → new ≡ old ++ n ∷ [] → old ++ own_rules_from n i all ≡ whole → new ++ own_rules_from k (i + 1) rest ≡ whole
    own_rules_more old new whole made so_far =
        more_made old new (n ∷ []) (own_rules_from k (i + 1) rest) (own_rules_from n i all) whole made
        (ap (own_rules_from n i) taken ∙ ap (λ j. n ∷ own_rules_from j (i + 1) rest) (sym counted)) so_far

    pub groups_more : (M : Numbering) (old new whole : List RuleForm) → new ≡ old ++ group M n i a → old ++ groups M n i all ≡ whole
        → new ++ groups M k (i + 1) rest ≡ whole
    groups_more M old new whole made so_far =
        more_made old new (group M n i a) (groups M k (i + 1) rest) (groups M n i all) whole made
        (ap (groups M n i) taken ∙ ap (λ j. group M n i a ++ groups M j (i + 1) rest) (sym counted)) so_far

-- the rules that are left are few, where one more is
pub rest_few : (i : ℕ) (a : Alts) (all rest : List Alts) → all ≡ a ∷ rest → normal_count_from i all < 2 ^ 32 → normal_count_from (i + 1) rest < 2 ^ 32
rest_few i a all rest taken few =
    let next : normal_count_from (suc i) rest ≡ normal_count_from (i + 1) rest =
    ap (λ q. normal_count_from q rest) (omega arith) in omega (arith, ap (normal_count_from i) taken, next, few)

-- the names of one rule's rules are added
pub names_more : (G : WrittenGrammar) (i : ℕ) (r : ParserRule) (all rest : List ParserRule) → all ≡ r ∷ rest → (size : ℕ)
    → size ≡ group_size i (resolved_alts G r.alts) → (old new whole : List (List ℕ)) → new ≡ old ++ group_names r.name size → old ++ names_from G i all ≡ whole
    → new ++ names_from G (i + 1) rest ≡ whole
names_more G i r all rest taken size is old new whole made so_far =
    more_made old new (group_names r.name size) (names_from G (i + 1) rest) (names_from G i all) whole made
    (ap (names_from G i) taken ∙ ap (λ s. group_names r.name s ++ names_from G (i + 1) rest) (sym is)) so_far

-- what is made once no parser rule is left
module _ (i n : ℕ) (all : List Alts) (none_left : all ≡ []) where
  pub own_rules_end : (made whole : List ℕ) → made ++ own_rules_from n i all ≡ whole → made ≡ whole
  own_rules_end made whole so_far = all_made made (own_rules_from n i all) whole (ap (own_rules_from n i) none_left) so_far

  pub groups_end : (M : Numbering) (made whole : List RuleForm) → made ++ groups M n i all ≡ whole → made ≡ whole
  groups_end M made whole so_far = all_made made (groups M n i all) whole (ap (groups M n i) none_left) so_far

pub all_named : (G : WrittenGrammar) (i : ℕ) (all : List ParserRule) → all ≡ [] → (made whole : List (List ℕ)) → made ++ names_from G i all ≡ whole
    → made ≡ whole
all_named G i all none_left made whole so_far = all_made made (names_from G i all) whole (ap (names_from G i) none_left) so_far
