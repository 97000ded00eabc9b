-- How many sets and rules a normal form has, and that its start rule is one of the parser rules.
use Rattle.std.proofs.Common.{◌≡◌, ℕ, suc, ◌+◌, ◌<◌, ◌≤◌, ◌⊎◌, inl, inr, Bool, true, false, cond, List, [], ◌∷◌}
use Rattle.std.proofs.Common.{length, map, Option, Some, None, refl, arith, length-append}
use Rattle.std.specs.Prelude.{filter, sum_by, not}
use Rattle.std.specs.List.{flat_map}
use Rattle.std.proofs.lemmas.List.Sums.{sum_by-cons}
use Rattle.std.proofs.lemmas.Option.{slice_get_within}
use Rattle.std.proofs.lemmas.Bool.{cases_lt}
use Rattle.grammar_tree.specs.Written.{WrittenTerm, WrittenSeq, WrittenAlts, ParserRule, WrittenRule, WrittenGrammar, CheckedGrammar}
use Rattle.grammar_tree.specs.Kinds.{distinct, literal_kind, name_kind, parser_rules, rule_number, same_text}
use Rattle.grammar_tree.specs.Derives.{bodies, resolved, resolved_seq, resolved_alts}
use Rattle.grammar_tree.specs.Corners.{normal_count}
use Rattle.grammar_tree.specs.Faults.{number_at}
use Rattle.grammar_tree.specs.Places.{PlacesHaveNumbers}
use Rattle.grammar_tree.specs.Size.{alts_size, seq_size, term_size, grammar_size, rule_size}
use Rattle.grammar_tree.specs.Checked.{IsChecked}
use Rattle.grammar_check_recursion.proofs.Lent.{kind_term, name_term}
use Rattle.normal_form.specs.NormalOf.{alts_sets, seq_sets, sets_of, term_sets}

-- The sets are fewer than the terms.
cond_shorter : (x : List ℕ) (xs ys : List (List ℕ)) → length xs ≤ length ys → (b : Bool) → length (cond b (x ∷ xs) xs) ≤ length (x ∷ ys)
cond_shorter x xs ys h true = omega (arith, h)
cond_shorter x xs ys h false = omega (arith, h)

filter_shorter : (p : List ℕ → Bool) (xs : List (List ℕ)) → length (filter p xs) ≤ length xs
filter_shorter p [] = omega arith
filter_shorter p (x ∷ xs) = cond_shorter x (filter p xs) xs (filter_shorter p xs) (p x)

distinct_shorter : (xs : List (List ℕ)) → length (distinct xs) ≤ length xs
distinct_shorter [] = omega arith
distinct_shorter (x ∷ xs) = omega (arith, filter_shorter (λ u. not (same_text x u)) (distinct xs), distinct_shorter xs)

kind_sets : (o : Option ℕ) → length (term_sets (kind_term o)) ≤ 1
kind_sets None = omega arith
kind_sets (Some k) = omega arith

name_sets : (o token : Option ℕ) → length (term_sets (name_term o token)) ≤ 1
name_sets (Some r) token = omega arith
name_sets None token = kind_sets token

module _ (G : WrittenGrammar) where
  mutual
    term_fits : (t : WrittenTerm) → length (term_sets (resolved G t)) ≤ term_size t
    term_fits (WrittenTerm.literal t) = kind_sets (literal_kind G t)
    term_fits (WrittenTerm.name n) = name_sets (rule_number G n) (name_kind G n)
    term_fits WrittenTerm.any = omega arith
    term_fits (WrittenTerm.but refs) = omega arith
    term_fits (WrittenTerm.block a) = omega (arith, alts_fit a)
    term_fits (WrittenTerm.opt t) = omega (arith, term_fits t)
    term_fits (WrittenTerm.star t) = omega (arith, term_fits t)
    term_fits (WrittenTerm.plus t) = omega (arith, term_fits t)
    term_fits WrittenTerm.eof = omega arith

    seq_fits : (s : WrittenSeq) → length (seq_sets (resolved_seq G s)) ≤ seq_size s
    seq_fits WrittenSeq.done = omega arith
    seq_fits (WrittenSeq.next t s) = omega (arith, length-append (term_sets (resolved G t)) (seq_sets (resolved_seq G s)), term_fits t, seq_fits s)

    alts_fit : (a : WrittenAlts) → length (alts_sets (resolved_alts G a)) ≤ alts_size a
    alts_fit WrittenAlts.none = omega arith
    alts_fit (WrittenAlts.or s a) = omega (arith, length-append (seq_sets (resolved_seq G s)) (alts_sets (resolved_alts G a)), seq_fits s, alts_fit a)

  rules_fit : (rules : List WrittenRule) → length
      (flat_map alts_sets (map (λ (r : ParserRule). resolved_alts G r.alts) (parser_rules rules))) ≤ sum_by rule_size rules
  rules_fit [] = omega arith
  rules_fit (WrittenRule.lexer_rule r ∷ rules) = omega (arith, rules_fit rules, sum_by-cons rule_size (WrittenRule.lexer_rule r) rules)
  rules_fit (WrittenRule.parser_rule r ∷ rules) =
      let body = λ (x : ParserRule). resolved_alts G x.alts in
      let own : length (alts_sets (resolved_alts G r.alts)) ≤ alts_size r.alts = alts_fit r.alts in
      let split : length (flat_map alts_sets (map body (parser_rules (WrittenRule.parser_rule r ∷ rules)))) ≡ length
      (alts_sets (resolved_alts G r.alts)) + length (flat_map alts_sets (map body (parser_rules rules))) =
      length-append (alts_sets (resolved_alts G r.alts)) (flat_map alts_sets (map body (parser_rules rules))) in
      let size : sum_by rule_size (WrittenRule.parser_rule r ∷ rules) ≡ suc (alts_size r.alts) + sum_by rule_size rules =
      sum_by-cons rule_size (WrittenRule.parser_rule r) rules in
      omega (arith, own, split, size, rules_fit rules)

pub few_sets : (G : WrittenGrammar) → length (sets_of (bodies G)) ≤ grammar_size G
unfolding grammar_size
few_sets G = omega (arith, distinct_shorter (flat_map alts_sets (bodies G)), rules_fit G G.rules)

-- The start rule is one of the parser rules.
pub number_within : (c : CheckedGrammar) → IsChecked c → PlacesHaveNumbers c.grammar → number_at c.grammar c.start < length (bodies c.grammar)
number_within c checked numbers =
    let at = checked.well_formed.has_start in
    slice_get_within (bodies c.grammar) (number_at c.grammar c.start) (resolved_alts c.grammar at.0.alts) (numbers.body c.start at.0 at.1)

-- The rules of the normal form are few.
pub few_rules : (c : CheckedGrammar) → IsChecked c → normal_count (bodies c.grammar) ≤ 65535
few_rules c checked = go (cases_lt 65535 (normal_count (bodies c.grammar)))
  where
    go : (65535 < normal_count (bodies c.grammar)) ⊎ (normal_count (bodies c.grammar) ≤ 65535) → normal_count (bodies c.grammar) ≤ 65535
    go (inl h) = absurd (checked.well_formed.few_rules (normal_count (bodies c.grammar)) (refl, h))
    go (inr h) = h
