-- The rows of the table of faults, and the grammar that has none of them.
use Rattle.std.proofs.Common.{◌≡◌, ◌<◌, ℕ, List, Option, Some, None, slice_get, refl, sym, ap, ◌∙◌, subst, arith}
use Rattle.std.specs.Prelude.{option_map}
use Rattle.std.proofs.lemmas.Option.{none-some, same_Some}
use Rattle.grammar_tree.specs.Faults as fault
use Rattle.grammar_tree.specs.Faults.{IsWellFormed, NoStart, start_of}
use Rattle.grammar_tree.specs.Kinds.{rule_name}
use Rattle.grammar_tree.specs.Written.{WrittenRule, WrittenGrammar}
use Rattle.grammar_tree.proofs.Lent.{start_is_found, there}
use Rattle.grammar_check_nodes.specs.First.{Nowhere}
use Rattle.grammar_check_faults.specs.Answer.{IsFirstNamed}
use Rattle.grammar_check.specs.CheckFaults.{HoldsAt, IsFirstInTable, IsNamedAt, row}
use Rattle.grammar_check.specs.inner.CheckFaults.{HasNoneBefore}
use Rattle.grammar_check.specs.Laws.{NoFaultIsWellFormed, WellFormedHasNoFault}
use Rattle.grammar_check_faults.specs.Twins.{IsTwinAt}
use Rattle.grammar_check_faults.specs.Unknown.{IsFirstUnknown, IsUnknownAt}
use Rattle.grammar_check.specs.declared.fault.CheckFault.{CheckFault}
use Rattle.grammar_check.specs.declared.fault.CheckFault.TheVariants as variant
use Rattle.grammar_check_faults.proofs.Lent.{HasRules, baseless_are_rules, empty_loops_in_rules, eof_in_rules, loops_are_rules}
use Rattle.grammar_check_faults.proofs.Lent.{recursive_are_rules, shorts_are_rules, tokens_are_rules, no_two}
use Rattle.grammar_check.proofs.Table.{IsOfRow, first_at, first_named, none_at_all, passed}

module _ (G : WrittenGrammar) (wanted : Option (List ℕ)) where
  rule_named : (o : Option WrittenRule) (name : List ℕ) → option_map rule_name o ≡ Some name → (rule : WrittenRule) × (o ≡ Some rule) × (rule_name rule ≡ name)
  rule_named None name e = absurd (none-some name e)
  rule_named (Some rule) name e = (rule, refl, same_Some (rule_name rule) name e)

  named : (i : ℕ) (rule : WrittenRule) → slice_get G.rules i ≡ Some rule → IsNamedAt G i (rule_name rule)
  named i rule at = ap (option_map rule_name) at

  -- what the rows of rules and uses with one name say of an index
  twins : IsOfRow G wanted 1 (IsTwinAt G)
  twins i name count h =
      let it = rule_named (slice_get G.rules i) name h.0 in
      let P : List ℕ → Type 0 = λ n. fault.TwoRules G n in (it.0, it.1, subst P (sym it.2) h.1)

  unknown : IsOfRow G wanted 2 (IsUnknownAt G)
  unknown i name count h = (h.0, h.1, h.3)

  missing : IsOfRow G wanted 3 (λ i. (name : List ℕ) × NoStart G wanted name)
  missing i name count h = (name, h)

  pub before_unknown : Nowhere (IsTwinAt G) → HasNoneBefore G wanted 2
  before_unknown none = passed G wanted 1 (IsTwinAt G) twins (none_at_all G wanted) none

  pub before_start : Nowhere (IsTwinAt G) → Nowhere (IsUnknownAt G) → HasNoneBefore G wanted 3
  before_start one known = passed G wanted 2 (IsUnknownAt G) unknown (before_unknown one) known

  pub two_rules : (name : List ℕ) → IsFirstNamed G (IsTwinAt G) name → IsFirstInTable G wanted (variant.TwoRules name)
  two_rules name is = first_named G wanted (variant.TwoRules name) (IsTwinAt G) name twins (none_at_all G wanted)
      (λ i at p.
      let P : List ℕ → Type 0 = λ n. fault.TwoRules G n in
      (at, subst P (same_Some (rule_name p.0) name (sym (named i p.0 p.1) ∙ at)) p.2)) is

  pub no_rule : (name : List ℕ) → Nowhere (IsTwinAt G) → IsFirstUnknown G (Some name) → IsFirstInTable G wanted (variant.NoRule name)
  no_rule name one is = first_at G wanted (variant.NoRule name) (IsUnknownAt G) unknown (before_unknown one) is.0 is.2 is.1.before

  pub no_start : (name : List ℕ) → Nowhere (IsTwinAt G) → Nowhere (IsUnknownAt G) → NoStart G wanted name → IsFirstInTable G wanted (variant.NoStart name)
  no_start name one known h =
      first_at G wanted (variant.NoStart name) (λ i. (n : List ℕ) × NoStart G wanted n) missing (before_start one known) 0 h (λ j lt. omega (arith, lt))

  module _ (start : ℕ) (found : start_of G wanted ≡ Some start) where
    eof : IsOfRow G wanted 4 (fault.EofPlace G start)
    eof i name count h =
        let P : ℕ → Type 0 = λ s. fault.EofPlace G s i in
        subst P (same_Some h.1.0 start (sym h.1.1 ∙ found)) h.1.2

    pub before_eof : Nowhere (IsTwinAt G) → Nowhere (IsUnknownAt G) → HasNoneBefore G wanted 4
    before_eof one known =
        passed G wanted 3 (λ i. (n : List ℕ) × NoStart G wanted n) missing (before_start one known) (λ i h. (start_is_found G).there wanted start found h.0 h.1)

    pub eof_at : (name : List ℕ) → HasNoneBefore G wanted 4 → IsFirstNamed G (fault.EofPlace G start) name → IsFirstInTable G wanted (variant.EofPlace name)
    eof_at name none is = first_named G wanted (variant.EofPlace name) (fault.EofPlace G start) name eof none (λ i at p. (at, (start, found, p))) is

    pub before_loops : HasNoneBefore G wanted 4 → Nowhere (fault.EofPlace G start) → HasNoneBefore G wanted 5
    before_loops none ends = passed G wanted 4 (fault.EofPlace G start) eof none ends

  pub fragment_loop : (name : List ℕ) → HasNoneBefore G wanted 5 → IsFirstNamed G (fault.FragmentLoop G) name
      → IsFirstInTable G wanted (variant.FragmentLoop name)
  fragment_loop name none is = first_named G wanted (variant.FragmentLoop name) (fault.FragmentLoop G) name (λ i n c h. h.1) none (λ i at p. (at, p)) is

  pub before_short_uses : HasNoneBefore G wanted 5 → Nowhere (fault.FragmentLoop G) → HasNoneBefore G wanted 6
  before_short_uses none here = passed G wanted 5 (fault.FragmentLoop G) (λ i n c h. h.1) none here

  pub short_use : (name : List ℕ) → HasNoneBefore G wanted 6 → IsFirstNamed G (fault.ShortUse G) name → IsFirstInTable G wanted (variant.ShortUse name)
  short_use name none is = first_named G wanted (variant.ShortUse name) (fault.ShortUse G) name (λ i n c h. h.1) none (λ i at p. (at, p)) is

  pub before_tokens : HasNoneBefore G wanted 6 → Nowhere (fault.ShortUse G) → HasNoneBefore G wanted 7
  before_tokens none here = passed G wanted 6 (fault.ShortUse G) (λ i n c h. h.1) none here

  pub empty_token : (name : List ℕ) → HasNoneBefore G wanted 7 → IsFirstNamed G (fault.EmptyToken G) name → IsFirstInTable G wanted (variant.EmptyToken name)
  empty_token name none is = first_named G wanted (variant.EmptyToken name) (fault.EmptyToken G) name (λ i n c h. h.1) none (λ i at p. (at, p)) is

  pub before_bases : HasNoneBefore G wanted 7 → Nowhere (fault.EmptyToken G) → HasNoneBefore G wanted 8
  before_bases none here = passed G wanted 7 (fault.EmptyToken G) (λ i n c h. h.1) none here

  pub no_base : (name : List ℕ) → HasNoneBefore G wanted 8 → IsFirstNamed G (fault.NoBase G) name → IsFirstInTable G wanted (variant.NoBase name)
  no_base name none is = first_named G wanted (variant.NoBase name) (fault.NoBase G) name (λ i n c h. h.1) none (λ i at p. (at, p)) is

  pub before_empty_loops : HasNoneBefore G wanted 8 → Nowhere (fault.NoBase G) → HasNoneBefore G wanted 9
  before_empty_loops none here = passed G wanted 8 (fault.NoBase G) (λ i n c h. h.1) none here

  pub empty_loop : (name : List ℕ) → HasNoneBefore G wanted 9 → IsFirstNamed G (fault.EmptyLoop G) name → IsFirstInTable G wanted (variant.EmptyLoop name)
  empty_loop name none is = first_named G wanted (variant.EmptyLoop name) (fault.EmptyLoop G) name (λ i n c h. h.1) none (λ i at p. (at, p)) is

  pub before_recursion : HasNoneBefore G wanted 9 → Nowhere (fault.EmptyLoop G) → HasNoneBefore G wanted 10
  before_recursion none here = passed G wanted 9 (fault.EmptyLoop G) (λ i n c h. h.1) none here

  pub left_recursion : (name : List ℕ) → HasNoneBefore G wanted 10 → IsFirstNamed G (fault.LeftRecursion G) name
      → IsFirstInTable G wanted (variant.LeftRecursion name)
  left_recursion name none is = first_named G wanted (variant.LeftRecursion name) (fault.LeftRecursion G) name (λ i n c h. h.1) none (λ i at p. (at, p)) is

  pub before_count : HasNoneBefore G wanted 10 → Nowhere (fault.LeftRecursion G) → HasNoneBefore G wanted 11
  before_count none here = passed G wanted 10 (fault.LeftRecursion G) (λ i n c h. h.1) none here

  -- What the last row says of an index.
  abbrev IsLarge : ℕ → Type 0
  IsLarge i = (count : ℕ) × fault.TooManyRules G count

  pub too_many : (count : ℕ) → HasNoneBefore G wanted 11 → fault.TooManyRules G count → IsFirstInTable G wanted (variant.TooManyRules count)
  too_many count none is = first_at G wanted (variant.TooManyRules count) IsLarge (λ i n c h. (c, h)) none 0 is (λ j lt. omega (arith, lt))

  pub before_end : HasNoneBefore G wanted 11 → ((count : ℕ) → ¬ fault.TooManyRules G count) → HasNoneBefore G wanted 12
  before_end none few = passed G wanted 11 IsLarge (λ i n c h. (c, h)) none (λ i h. few h.0 h.1)

  module _ (none : HasNoneBefore G wanted 12) where
    -- a fact of rules that a row names holds nowhere
    row_nowhere : (P : ℕ → Type 0) → HasRules G P → (fault_of : List ℕ → CheckFault) → ((name : List ℕ) → row (fault_of name) < 12)
        → ((i : ℕ) (name : List ℕ) → IsNamedAt G i name → P i → HoldsAt G wanted i (fault_of name)) → Nowhere P
    row_nowhere P rules fault_of below holds i p =
        let it = rules i p in
        let name = rule_name it.0 in none (fault_of name) i (below name) (holds i name (named i it.0 it.1) p)

    no_twins : Nowhere (IsTwinAt G)
    no_twins i p = none (variant.TwoRules (rule_name p.0)) i (omega arith) (named i p.0 p.1, p.2)

    pub fine : (start : ℕ) → start_of G wanted ≡ Some start → IsWellFormed G start
    fine start found = record {
      one_rule_a_name = no_two G no_twins;
      each_name_known = λ name h. none (variant.NoRule name) h.0 (omega arith) h.1;
      has_start = let it = there G wanted start found in (it.0, it.1, tt);
      eof_at_ends = row_nowhere (fault.EofPlace G start) (eof_in_rules G start) variant.EofPlace (λ name. omega arith) (λ i name at p. (at, (start, found, p)));
      no_fragment_loop = row_nowhere (fault.FragmentLoop G) (loops_are_rules G) variant.FragmentLoop (λ name. omega arith) (λ i name at p. (at, p));
      no_short_use = row_nowhere (fault.ShortUse G) (shorts_are_rules G) variant.ShortUse (λ name. omega arith) (λ i name at p. (at, p));
      no_empty_token = row_nowhere (fault.EmptyToken G) (tokens_are_rules G) variant.EmptyToken (λ name. omega arith) (λ i name at p. (at, p));
      has_bases = row_nowhere (fault.NoBase G) (baseless_are_rules G) variant.NoBase (λ name. omega arith) (λ i name at p. (at, p));
      no_empty_loop = row_nowhere (fault.EmptyLoop G) (empty_loops_in_rules G) variant.EmptyLoop (λ name. omega arith) (λ i name at p. (at, p));
      no_left_recursion = row_nowhere (fault.LeftRecursion G) (recursive_are_rules G) variant.LeftRecursion (λ name. omega arith) (λ i name at p. (at, p));
      few_rules = λ count h. none (variant.TooManyRules count) 0 (omega arith) h;
    }

pub well_formed_has_no_fault : WellFormedHasNoFault
well_formed_has_no_fault G wanted start found well = at
  where
    at : (it : CheckFault) (i : ℕ) → ¬ HoldsAt G wanted i it
    at (variant.TwoRules name) i h = well.one_rule_a_name name h.1
    at (variant.NoRule name) i h = well.each_name_known name (i, h)
    at (variant.NoStart name) i h = (start_is_found G).there wanted start found name h
    at (variant.EofPlace name) i h =
        let P : ℕ → Type 0 = λ s. fault.EofPlace G s i in
        well.eof_at_ends i (subst P (same_Some h.1.0 start (sym h.1.1 ∙ found)) h.1.2)
    at (variant.FragmentLoop name) i h = well.no_fragment_loop i h.1
    at (variant.ShortUse name) i h = well.no_short_use i h.1
    at (variant.EmptyToken name) i h = well.no_empty_token i h.1
    at (variant.NoBase name) i h = well.has_bases i h.1
    at (variant.EmptyLoop name) i h = well.no_empty_loop i h.1
    at (variant.LeftRecursion name) i h = well.no_left_recursion i h.1
    at (variant.TooManyRules count) i h = well.few_rules count h
    at (variant.Memory _) i h = h

pub no_fault_is_well_formed : NoFaultIsWellFormed
no_fault_is_well_formed G wanted none = by (start_of G wanted) refl
  where
    by : (o : Option ℕ) → start_of G wanted ≡ o → (start : ℕ) × (start_of G wanted ≡ Some start) × IsWellFormed G start
    by None e = let it = (start_is_found G).missing wanted e in absurd (none (variant.NoStart it.0) 0 it.1)
    by (Some start) e = (start, e, fine G wanted (λ other i lt. none other i) start e)
