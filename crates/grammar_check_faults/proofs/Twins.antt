-- Rules of one name, by their indices.
use Rattle.std.proofs.Common.{◌≡◌, inl, inr, ℕ, suc, ◌+◌, ◌<◌, ◌≤◌, Bool, true, cond, List, [], ◌∷◌, Option, Some, length}
use Rattle.std.proofs.Common.{position, slice_get, slice_index_or, refl, sym, ap, ◌∙◌, subst, arith, true≢false}
use Rattle.std.specs.Prelude.{min}
use Rattle.std.specs.List.{count_by}
use Rattle.std.proofs.lemmas.Bool.{cases_Bool, cases_lt}
use Rattle.std.proofs.lemmas.List.Quantifiers.{position-Some}
use Rattle.std.proofs.lemmas.List.Sums.{sum_by-cons}
use Rattle.std.proofs.lemmas.Option.{same_Some, slice_get-get_or, slice_get_within, get_or_from_slice_get}
use Rattle.std.proofs.lemmas.Slice.Eq.{bytes_eq-Decides}
use Rattle.grammar_tree.specs.Faults.{TwoRules}
use Rattle.grammar_tree.specs.Kinds.{rule_name, same_text}
use Rattle.grammar_tree.specs.Written.{WrittenAlts, WrittenRule, WrittenGrammar}
use Rattle.grammar_tree.proofs.Lent.{contains_at, one_name, passes_twice, some_position}
use Rattle.grammar_check_parser_rules.specs.Rules.{has_key}
use Rattle.grammar_check_parser_rules.specs.declared.rules.Key.TheVariants.{Name}
use Rattle.grammar_check_nodes.specs.First.{IsFirst, Nowhere}
use Rattle.grammar_check_lexer_rules.specs.Lexer.{OneRule}
use Rattle.grammar_check_faults.specs.Twins.{IsTwinAt}
use Rattle.grammar_check_faults.specs.inner.Twins.{AreFirstSoFar, IsEarliest}

module _ {X : Type 0} (p : X → Bool) where
  some_passes : (xs : List X) → 1 ≤ count_by p xs → (i : ℕ) × (x : X) × (slice_get xs i ≡ Some x) × (p x ≡ true)
  some_passes [] h = absurd (omega (arith, h))
  some_passes (x ∷ xs) h = elim (cases_Bool (p x)) [
    | inl here ↦ (0, x, refl, here)
    | inr fails ↦
        let none : ◌≡◌ {A = ℕ} (cond (p x) 1 0) 0 = ap (λ b. cond b 1 0) fails in
        let it = some_passes xs (omega (arith, h, sum_by-cons (λ z. cond (p z) 1 0) x xs, none)) in (suc it.0, it.1, it.2, it.3)
  ]

  two_pass : (xs : List X) → 2 ≤ count_by p xs → (i : ℕ) × (j : ℕ) × (x : X) × (y : X) × (i < j) × (slice_get xs i ≡ Some x) × (slice_get xs j ≡ Some y)
      × (p x ≡ true) × (p y ≡ true)
  two_pass [] h = absurd (omega (arith, h))
  two_pass (x ∷ xs) h = elim (cases_Bool (p x)) [
    | inl here ↦
        let one : ◌≡◌ {A = ℕ} (cond (p x) 1 0) 1 = ap (λ b. cond b 1 0) here in
        let it = some_passes xs (omega (arith, h, sum_by-cons (λ z. cond (p z) 1 0) x xs, one)) in (0, suc it.0, x, it.1, omega arith, refl, it.2, here, it.3)
    | inr none ↦
        let nothing : ◌≡◌ {A = ℕ} (cond (p x) 1 0) 0 = ap (λ b. cond b 1 0) none in
        let it = two_pass xs (omega (arith, h, sum_by-cons (λ z. cond (p z) 1 0) x xs, nothing)) in
        (suc it.0, suc it.1, it.2, it.3, omega (arith, it.4), it.5, it.6, it.7, it.8)
  ]

-- the least of an index and of another one before the limit
pub earliest_is : (other : Option ℕ) (p limit first least : ℕ) → other ≡ Some p → p < limit → least ≡ min first p → IsEarliest other limit first least
earliest_is other p limit first least is lt e = record {
  below = omega (arith, e);
  counts = λ q is' lt'. omega (arith, e, same_Some q p (sym is' ∙ is));
  is = elim (cases_lt p first) [
    | inl before ↦ let same : p ≡ least = omega (arith, e, before) in inr (is ∙ ap Some same, omega (arith, same, lt))
    | inr after ↦ inl (omega (arith, e, after))
  ];
}

module _ (G : WrittenGrammar) where
  abbrev index_of : List ℕ → Option ℕ
  index_of n = position (has_key Name n) G.rules

  -- an index that a name has is a rule's of this name, and no later than any other such rule's
  rule_of_index : (n : List ℕ) (i : ℕ) → index_of n ≡ Some i → (rule : WrittenRule) × (slice_get G.rules i ≡ Some rule) × (rule_name rule ≡ n)
      × ((k : ℕ) (x : WrittenRule) → slice_get G.rules k ≡ Some x → rule_name x ≡ n → i ≤ k)
  rule_of_index n i e =
      let none = WrittenRule.parser_rule (record { name = []; alts = WrittenAlts.none }) in
      let found = position-Some (has_key Name n) G.rules i none e in
      let rule = slice_index_or G.rules i none in (
        rule,
        slice_get-get_or G.rules i none found.0,
        (bytes_eq-Decides (rule_name rule) n).0 found.1,
        λ k x at same. elim (cases_lt k i) [
          | inl before ↦
              let is = get_or_from_slice_get G.rules k x none at in
              absurd (true≢false (sym ((bytes_eq-Decides (rule_name x) n).1 same) ∙ ap (has_key Name n) (sym is) ∙ found.2 k before))
          | inr after ↦ after
        ],
      )

  has_index : (k : ℕ) (x : WrittenRule) → slice_get G.rules k ≡ Some x → (i : ℕ) × (index_of (rule_name x) ≡ Some i)
  has_index k x at = some_position (has_key Name (rule_name x)) G.rules x (contains_at G.rules k x at) ((bytes_eq-Decides (rule_name x) (rule_name x)).1 refl)

  -- two indices of one name
  twins : (i j : ℕ) (a b : WrittenRule) (n : List ℕ) → i < j → slice_get G.rules i ≡ Some a → slice_get G.rules j ≡ Some b → rule_name a ≡ n → rule_name b ≡ n
      → TwoRules G n
  twins i j a b n lt at at' e f =
      passes_twice (λ rule. same_text (rule_name rule) n) G.rules i j a b lt at at' ((bytes_eq-Decides (rule_name a) n).1 e)
      ((bytes_eq-Decides (rule_name b) n).1 f)

  pub one_more : (first index : ℕ) (rule : WrittenRule) (least : ℕ) → AreFirstSoFar G first index → slice_get G.rules index ≡ Some rule
      → IsEarliest (index_of (rule_name rule)) index first least → AreFirstSoFar G least (index + 1)
  one_more first index rule least far at is =
      record {
        least = λ k p x lt at' e below. elim (cases_lt k index) [
          | inl before ↦ omega (arith, is.below, far.least k p x before at' e below)
          | inr last ↦
              let same : k ≡ index = omega arith in
              let rules : x ≡ rule = same_Some x rule (sym at' ∙ ap (slice_get G.rules) same ∙ at) in
              is.counts p (ap (λ r. index_of (rule_name r)) (sym rules) ∙ e) (omega (arith, same, below))
        ];
        twin = λ lt. elim is.is [
          | inl same ↦ let P : ℕ → Type 0 = λ m. IsTwinAt G m in subst P (sym same) (far.twin (omega (arith, same, lt)))
          | inr new ↦
              let it = rule_of_index (rule_name rule) least new.0 in
              (it.0, it.1, twins least index it.0 rule (rule_name it.0) new.1 it.1 at refl (sym it.2))
        ];
      }

  pub none_yet : (n : ℕ) → length G.rules ≤ n → AreFirstSoFar G n 0
  none_yet n le = record { least = λ k p x lt at e below. absurd (omega (arith, lt)); twin = λ lt. absurd (omega (arith, lt, le)) }

  -- where some rule has a twin, the first of its name is before another
  twin_least : (first n i : ℕ) → length G.rules ≤ n → AreFirstSoFar G first n → IsTwinAt G i → (first ≤ i) × (first < length G.rules)
  twin_least first n i le far (rule, at, two) =
      let it = two_pass (λ r. same_text (rule_name r) (rule_name rule)) G.rules two in
      let left : rule_name it.2 ≡ rule_name rule = (bytes_eq-Decides (rule_name it.2) (rule_name rule)).0 it.7 in
      let right : rule_name it.3 ≡ rule_name rule = (bytes_eq-Decides (rule_name it.3) (rule_name rule)).0 it.8 in
      let index = has_index it.1 it.3 it.6 in
      let of = rule_of_index (rule_name it.3) index.0 index.1 in
      let before_first = of.3 it.0 it.2 it.5 (left ∙ sym right) in
      let before_it = of.3 i rule at (sym right) in
      let within = slice_get_within G.rules it.1 it.3 it.6 in
      let least = far.least it.1 index.0 it.3 (omega (arith, within, le)) it.6 index.1 (omega (arith, before_first, it.4)) in
      (omega (arith, least, before_it), omega (arith, least, before_first, it.4, within))

  pub first_is : (first n : ℕ) → length G.rules ≤ n → AreFirstSoFar G first n → first < length G.rules → IsFirst (IsTwinAt G) first
  first_is first n le far lt = record { holds = far.twin lt; before = λ j below two. omega (arith, (twin_least first n j le far two).0, below) }

  pub no_twin : (first n : ℕ) → length G.rules ≤ n → AreFirstSoFar G first n → length G.rules ≤ first → Nowhere (IsTwinAt G)
  no_twin first n le far past i two = omega (arith, (twin_least first n i le far two).1, past)

  -- without twins no name is two rules', and no two indices have one
  pub no_two : Nowhere (IsTwinAt G) → (name : List ℕ) → ¬ TwoRules G name
  no_two none name two =
      let it = two_pass (λ r. same_text (rule_name r) name) G.rules two in
      let named : rule_name it.2 ≡ name = (bytes_eq-Decides (rule_name it.2) name).0 it.7 in
      let P : List ℕ → Type 0 = λ n. TwoRules G n in
      none it.0 (it.2, it.5, subst P (sym named) two)

  pub one_rule : Nowhere (IsTwinAt G) → OneRule G.rules
  one_rule none = one_name G (no_two none)
