-- Where `EOF` is, by the parts.
use Rattle.std.proofs.Common.{◌≡◌, ◌≢◌, ◌⊎◌, inl, inr, cond, ◌+◌, ◌<◌, ◌≤◌, ℕ, zero, suc, Bool, true, false, not, ◌||◌, ◌&&◌, List, [], ◌∷◌, Some, None}
use Rattle.std.proofs.Common.{is_some, length, map, drop, slice_get, slice_index_or, nat_eq, refl, sym, ap, ◌∙◌, subst, arith, true≢false}
use Rattle.std.specs.List.{Contains, filter_map, list_any}
use Rattle.std.proofs.lemmas.Bool.{cases_Bool, cases_eq, false≢true}
use Rattle.std.proofs.lemmas.Bool.Decides.{Decides-eqb}
use Rattle.std.proofs.lemmas.List.{length-map}
use Rattle.std.proofs.lemmas.Option.{same_Some}
use Rattle.std.proofs.lemmas.Slice.Eq.{bytes_eq-Decides}
use Rattle.grammar_tree.specs.Faults.{EofPlace, any_has_eof, has_eof, is_misplaced, is_misplaced_in, seq_has_eof}
use Rattle.grammar_tree.specs.Kinds.{all_references, as_name, rule_name, same_text}
use Rattle.grammar_tree.specs.View.{parser_alts, parser_term, parser_terms}
use Rattle.grammar_tree.specs.Written.{Reference, WrittenTerm, WrittenRule, WrittenGrammar, written_alts, written_seq}
use Rattle.grammar_tree.specs.declared.parser_term.ParserAlts.{ParserAlts, out-ParserAlts}
use Rattle.grammar_tree.specs.declared.parser_term.ParserTerm.{ParserTerm}
use Rattle.grammar_tree.specs.declared.parser_term.ParserTerms.{ParserTerms, out-ParserTerms}
use Rattle.grammar_tree.proofs.Lent.{contains_cases, contains_filter_map, contains_first, elements_contains_later as contains_later, contains_none}
use Rattle.grammar_check_faults.specs.inner.Eof.{is_misplaced_rule, is_misplaced_term}
use Rattle.grammar_check_faults.specs.inner.Seen.{seen_in}
use Rattle.grammar_check_parser_rules.proofs.Lent.{drop_at, drop_end, and_both, from_both, from_first, from_second, or_one, alts_view, seq_view}
use Rattle.grammar_check_faults.proofs.SeenForms.{was_seen}
use Rattle.grammar_check_lexer_rules.proofs.Lent.{from_filter_map}

eof_terms : (ts : List ParserTerm) → seq_has_eof (written_seq (map parser_term ts)) ≡ list_any (λ t. has_eof (parser_term t)) ts
eof_terms [] = refl
eof_terms (t ∷ ts) = ap (λ b. has_eof (parser_term t) || b) (eof_terms ts)

pub eof_seq : (s : ParserTerms) → seq_has_eof (written_seq (parser_terms s)) ≡ list_any (λ t. has_eof (parser_term t)) (out-ParserTerms s).items.items
eof_seq s = ap (λ ts. seq_has_eof (written_seq ts)) (seq_view s) ∙ eof_terms (out-ParserTerms s).items.items

eof_seqs : (ss : List ParserTerms) → any_has_eof (written_alts (map parser_terms ss)) ≡ list_any (λ s. seq_has_eof (written_seq (parser_terms s))) ss
eof_seqs [] = refl
eof_seqs (s ∷ ss) = ap (λ b. seq_has_eof (written_seq (parser_terms s)) || b) (eof_seqs ss)

pub eof_alts : (a : ParserAlts) → any_has_eof (written_alts (parser_alts a)) ≡ list_any (λ s. seq_has_eof (written_seq (parser_terms s)))
    (out-ParserAlts a).items.items
eof_alts a = ap (λ ss. any_has_eof (written_alts ss)) (alts_view a) ∙ eof_seqs (out-ParserAlts a).items.items

misplaced_seqs : (ss : List ParserTerms) → is_misplaced (written_alts (map parser_terms ss)) ≡ list_any (λ s. is_misplaced_in (written_seq (parser_terms s))) ss
misplaced_seqs [] = refl
misplaced_seqs (s ∷ ss) = ap (λ b. is_misplaced_in (written_seq (parser_terms s)) || b) (misplaced_seqs ss)

pub misplaced_alts : (a : ParserAlts) → is_misplaced (written_alts (parser_alts a)) ≡ list_any (λ s. is_misplaced_in (written_seq (parser_terms s)))
    (out-ParserAlts a).items.items
misplaced_alts a = ap (λ ss. is_misplaced (written_alts ss)) (alts_view a) ∙ misplaced_seqs (out-ParserAlts a).items.items

-- one term, and what comes after it
no_term : List WrittenTerm → Bool
no_term [] = true
no_term (t ∷ ts) = false

first_term : (t : WrittenTerm) (ts : List WrittenTerm)
    → is_misplaced_in (written_seq (t ∷ ts)) ≡ (is_misplaced_term t (no_term ts) || is_misplaced_in (written_seq ts))
unfolding no_term
first_term (WrittenTerm.literal x) ts = refl
first_term (WrittenTerm.name x) ts = refl
first_term WrittenTerm.any ts = refl
first_term (WrittenTerm.but x) ts = refl
first_term (WrittenTerm.block x) ts = refl
first_term (WrittenTerm.opt x) ts = refl
first_term (WrittenTerm.star x) ts = refl
first_term (WrittenTerm.plus x) ts = refl
first_term WrittenTerm.eof [] = refl
first_term WrittenTerm.eof (t ∷ ts) = refl

none_remain : (us : List WrittenTerm) (k : ℕ) → length us ≤ k → no_term (drop k us) ≡ true
unfolding no_term
none_remain [] zero le = refl
none_remain [] (suc k) le = refl
none_remain (u ∷ us) zero le = absurd (omega (arith, le))
none_remain (u ∷ us) (suc k) le = none_remain us k (omega arith)

some_remain : (us : List WrittenTerm) (k : ℕ) → k < length us → no_term (drop k us) ≡ false
unfolding no_term
some_remain [] k lt = absurd (omega (arith, lt))
some_remain (u ∷ us) zero lt = refl
some_remain (u ∷ us) (suc k) lt = some_remain us k (omega arith)

last_of : (ts : List WrittenTerm) (i n : ℕ) → n ≡ length ts → i < n → no_term (drop (suc i) ts) ≡ nat_eq (i + 1) n
last_of ts i n len lt = elim (cases_eq (i + 1) n) [
  | inl same ↦ none_remain ts (suc i) (omega (arith, same, len)) ∙ sym ((Decides-eqb (i + 1) n).1 same)
  | inr differ ↦ some_remain ts (suc i) (omega (arith, differ, lt, len)) ∙ sym (not_equal differ (cases_Bool (nat_eq (i + 1) n)))
]
  where
    not_equal : (i + 1 ≡ n → ⊥) → (nat_eq (i + 1) n ≡ true) ⊎ (nat_eq (i + 1) n ≡ false) → nat_eq (i + 1) n ≡ false
    not_equal differ (inl e) = absurd (differ ((Decides-eqb (i + 1) n).0 e))
    not_equal differ (inr e) = e

-- the terms from an index on
abbrev pub from : ParserTerms → ℕ → Bool
from s i = is_misplaced_in (written_seq (drop i (parser_terms s)))

pub misplaced_at : (s : ParserTerms) (i n : ℕ) (t : ParserTerm) → n ≡ length (out-ParserTerms s).items.items → i < n
    → t ≡ slice_index_or (out-ParserTerms s).items.items i t →
    from s i ≡ (is_misplaced_term (parser_term t) (nat_eq (i + 1) n) || from s (i + 1))
misplaced_at s i n t len lt is =
    let items = (out-ParserTerms s).items.items in
    let terms = map parser_term items in
    let P : ℕ → Type 0 =
    λ j. is_misplaced_in (written_seq (drop i terms))
    ≡ (is_misplaced_term (parser_term t) (nat_eq (i + 1) n) || is_misplaced_in (written_seq (drop j terms))) in
    let Q : List WrittenTerm → Type 0 =
    λ ts. is_misplaced_in (written_seq (drop i ts))
    ≡ (is_misplaced_term (parser_term t) (nat_eq (i + 1) n) || is_misplaced_in (written_seq (drop (i + 1) ts))) in
    let next : suc i ≡ i + 1 = omega arith in
    let cut = ap (λ ts. is_misplaced_in (written_seq ts)) (drop_at parser_term items i t (omega arith) is) ∙ first_term (parser_term t) (drop (suc i) terms)
    ∙ ap (λ b. is_misplaced_term (parser_term t) b || is_misplaced_in (written_seq (drop (suc i) terms)))
    (last_of terms i n (len ∙ sym (length-map items parser_term)) lt) in
    subst Q (sym (seq_view s)) (subst P next cut)

pub misplaced_end : (s : ParserTerms) (i : ℕ) → length (out-ParserTerms s).items.items ≤ i → from s i ≡ false
misplaced_end s i le =
    let Q : List WrittenTerm → Type 0 = λ ts. is_misplaced_in (written_seq (drop i ts)) ≡ false in
    subst Q (sym (seq_view s)) (ap (λ ts. is_misplaced_in (written_seq ts)) (drop_end parser_term (out-ParserTerms s).items.items i le))

-- the rule at an index
module _ (G : WrittenGrammar) (start i : ℕ) (rule : WrittenRule) (at : slice_get G.rules i ≡ Some rule) where
  abbrev is_used : Bool
  is_used = is_some (seen_in (filter_map as_name (all_references G.rules)) (rule_name rule))

  as_reference : (r : Reference) (n : List ℕ) → as_name r ≡ Some n → r ≡ Reference.name n
  as_reference (Reference.literal t) n e = absurd cc
  as_reference (Reference.name m) n e = ap Reference.name (same_Some m n e)

  seen_contains : (texts : List (List ℕ)) (n : List ℕ) → list_any (λ u. same_text u n) texts ≡ true → Contains texts n
  seen_contains [] n e = absurd (false≢true e)
  seen_contains (t ∷ texts) n e = elim (or_one (same_text t n) (list_any (λ u. same_text u n) texts) e) [
    | inl same ↦ contains_first t texts n ((bytes_eq-Decides t n).0 same)
    | inr later ↦ contains_later t texts n (seen_contains texts n later)
  ]

  contains_seen : (texts : List (List ℕ)) (n : List ℕ) → Contains texts n → list_any (λ u. same_text u n) texts ≡ true
  contains_seen [] n c = absurd (contains_none n c)
  contains_seen (t ∷ texts) n c = elim (contains_cases t texts n c) [
    | inl same ↦ from_first (same_text t n) (list_any (λ u. same_text u n) texts) ((bytes_eq-Decides t n).1 same)
    | inr later ↦ from_second (same_text t n) (list_any (λ u. same_text u n) texts) (contains_seen texts n later)
  ]

  used_there : is_used ≡ true → Contains (all_references G.rules) (Reference.name (rule_name rule))
  used_there e =
      let texts = filter_map as_name (all_references G.rules) in
      let it = from_filter_map as_name (all_references G.rules) (rule_name rule) (seen_contains texts (rule_name rule) (was_seen texts (rule_name rule) e)) in
      let P : Reference → Type 0 = λ r. Contains (all_references G.rules) r in
      subst P (as_reference it.0 (rule_name rule) it.2) it.1

  there_used : (n : List ℕ) → rule_name rule ≡ n → Contains (all_references G.rules) (Reference.name n) → is_used ≡ true
  there_used n e c =
      let texts = filter_map as_name (all_references G.rules) in
      let P : List ℕ → Type 0 = λ m. Contains texts m in
      let seen = contains_seen texts (rule_name rule) (subst P (sym e) (contains_filter_map as_name (all_references G.rules) (Reference.name n) n refl c)) in
      ap (λ b. is_some {T = ℕ} (cond b (Some 0) None)) seen

  not_start : not (nat_eq i start) ≡ true → i ≢ start
  not_start e same = false≢true (ap not (sym ((Decides-eqb i start).1 same)) ∙ e)

  start_not : i ≢ start → not (nat_eq i start) ≡ true
  start_not differ = by (cases_Bool (nat_eq i start))
    where
      by : (nat_eq i start ≡ true) ⊎ (nat_eq i start ≡ false) → not (nat_eq i start) ≡ true
      by (inl e) = absurd (differ ((Decides-eqb i start).0 e))
      by (inr e) = ap not e

  misplaced_there : (r : WrittenRule) → rule ≡ r → is_misplaced_rule r (nat_eq i start) is_used ≡ true → EofPlace G start i
  misplaced_there (WrittenRule.lexer_rule r) e h = absurd (false≢true h)
  misplaced_there (WrittenRule.parser_rule r) e h = elim (or_one (is_misplaced r.alts) ((not (nat_eq i start) && any_has_eof r.alts) && is_used) h) [
    | inl index ↦ (r, at ∙ ap Some e, inl index)
    | inr both ↦
        let parts = and_both (not (nat_eq i start) && any_has_eof r.alts) is_used both in
        let more = and_both (not (nat_eq i start)) (any_has_eof r.alts) parts.0 in
        let P : List ℕ → Type 0 = λ n. Contains (all_references G.rules) (Reference.name n) in
        (r, at ∙ ap Some e, inr (more.1, not_start more.0, subst P (ap rule_name e) (used_there parts.1)))
  ]

  pub misplaced : is_misplaced_rule rule (nat_eq i start) is_used ≡ true → EofPlace G start i
  misplaced h = misplaced_there rule refl h

  pub not_misplaced : is_misplaced_rule rule (nat_eq i start) is_used ≡ false → ¬ EofPlace G start i
  not_misplaced h (r, at', inl index) =
      let same : rule ≡ WrittenRule.parser_rule r = same_Some rule (WrittenRule.parser_rule r) (sym at ∙ at') in
      true≢false
      (sym (ap (λ x. is_misplaced_rule x (nat_eq i start) is_used) same
      ∙ from_first (is_misplaced r.alts) ((not (nat_eq i start) && any_has_eof r.alts) && is_used) index) ∙ h)
  not_misplaced h (r, at', inr (eof, other, used)) =
      let same : rule ≡ WrittenRule.parser_rule r = same_Some rule (WrittenRule.parser_rule r) (sym at ∙ at') in
      let part =
      from_both (not (nat_eq i start) && any_has_eof r.alts) is_used (from_both (not (nat_eq i start)) (any_has_eof r.alts) (start_not other) eof)
      (there_used r.name (ap rule_name same) used) in
      true≢false
      (sym (ap (λ x. is_misplaced_rule x (nat_eq i start) is_used) same
      ∙ from_second (is_misplaced r.alts) ((not (nat_eq i start) && any_has_eof r.alts) && is_used) part) ∙ h)

-- `EOF` is where it may not be only in a rule that is used and isn't the start
pub may_not : (is_start has is_used : Bool) → not (is_start || not is_used) ≡ true → ((not is_start && has) && is_used) ≡ has
may_not true has used e = absurd (false≢true e)
may_not false has false e = absurd (false≢true e)
may_not false true true e = refl
may_not false false true e = refl

pub may : (is_start has is_used : Bool) → not (is_start || not is_used) ≡ false → ((not is_start && has) && is_used) ≡ false
may true has used e = refl
may false true false e = refl
may false false false e = refl
may false has true e = absurd (true≢false e)
