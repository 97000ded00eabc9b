-- The table of faults, row by row.
use Rattle.std.proofs.Common.{◌≡◌, inl, inr, ℕ, zero, suc, ◌<◌, List, [], Option, refl, sym, ap, ◌∙◌, subst, arith}
use Rattle.std.proofs.lemmas.Bool.{cases_lt}
use Rattle.std.proofs.lemmas.Option.{same_Some}
use Rattle.faults.specs.Memory.{ran_out}
use Rattle.grammar_tree.specs.Faults.{NoStart, used_name}
use Rattle.grammar_tree.specs.Written.{WrittenGrammar}
use Rattle.grammar_check_nodes.specs.First.{Nowhere}
use Rattle.grammar_check_faults.specs.Answer.{IsFirstNamed}
use Rattle.grammar_check.specs.CheckFaults.{HoldsAt, IsFirstInTable, IsNamedAt, row}
use Rattle.grammar_check.specs.inner.CheckFaults.{HasNoneBefore}
use Rattle.grammar_check.specs.Laws.{FirstFaultOnce}
use Rattle.grammar_check.specs.declared.fault.CheckFault.{CheckFault}
use Rattle.grammar_check.specs.declared.fault.CheckFault.TheVariants.{TwoRules, NoRule, NoStart as NoStartFault, EofPlace, FragmentLoop, ShortUse, EmptyToken}
use Rattle.grammar_check.specs.declared.fault.CheckFault.TheVariants.{NoBase, EmptyLoop, LeftRecursion, TooManyRules as TooManyRulesFault, Memory}

-- the fault of a row with this name or count
abbrev pub fault_of : ℕ → List ℕ → ℕ → CheckFault
fault_of (suc zero) n c = TwoRules n
fault_of (suc (suc zero)) n c = NoRule n
fault_of (suc (suc (suc zero))) n c = NoStartFault n
fault_of (suc (suc (suc (suc zero)))) n c = EofPlace n
fault_of (suc (suc (suc (suc (suc zero))))) n c = FragmentLoop n
fault_of (suc (suc (suc (suc (suc (suc zero)))))) n c = ShortUse n
fault_of (suc (suc (suc (suc (suc (suc (suc zero))))))) n c = EmptyToken n
fault_of (suc (suc (suc (suc (suc (suc (suc (suc zero)))))))) n c = NoBase n
fault_of (suc (suc (suc (suc (suc (suc (suc (suc (suc zero))))))))) n c = EmptyLoop n
fault_of (suc (suc (suc (suc (suc (suc (suc (suc (suc (suc zero)))))))))) n c = LeftRecursion n
fault_of (suc (suc (suc (suc (suc (suc (suc (suc (suc (suc (suc zero))))))))))) n c = TooManyRulesFault c
fault_of _ n c = Memory ran_out

name_in : CheckFault → List ℕ
name_in (TwoRules n) = n
name_in (NoRule n) = n
name_in (NoStartFault n) = n
name_in (EofPlace n) = n
name_in (FragmentLoop n) = n
name_in (ShortUse n) = n
name_in (EmptyToken n) = n
name_in (NoBase n) = n
name_in (EmptyLoop n) = n
name_in (LeftRecursion n) = n
name_in (TooManyRulesFault c) = []
name_in (Memory _) = []

count_in : CheckFault → ℕ
count_in (TooManyRulesFault c) = c
count_in _ = 0

remade : (it : CheckFault) → fault_of (row it) (name_in it) (count_in it) ≡ it
unfolding name_in count_in
remade (TwoRules n) = refl
remade (NoRule n) = refl
remade (NoStartFault n) = refl
remade (EofPlace n) = refl
remade (FragmentLoop n) = refl
remade (ShortUse n) = refl
remade (EmptyToken n) = refl
remade (NoBase n) = refl
remade (EmptyLoop n) = refl
remade (LeftRecursion n) = refl
remade (TooManyRulesFault c) = refl
remade (Memory _) = refl

in_row : (k : ℕ) (it : CheckFault) → row it ≡ k → it ≡ fault_of k (name_in it) (count_in it)
in_row k it e = sym (remade it) ∙ ap (λ r. fault_of r (name_in it) (count_in it)) e

module _ (G : WrittenGrammar) (wanted : Option (List ℕ)) where
  -- What holds of an index in a row.
  abbrev pub IsOfRow : ℕ → (ℕ → Type 0) → Type 0
  IsOfRow k P = (i : ℕ) (name : List ℕ) (count : ℕ) → HoldsAt G wanted i (fault_of k name count) → P i

  of_row : (k : ℕ) (P : ℕ → Type 0) → IsOfRow k P → (i : ℕ) (other : CheckFault) → row other ≡ k → HoldsAt G wanted i other → P i
  of_row k P at i other e h = at i (name_in other) (count_in other) (subst (HoldsAt G wanted i) (in_row k other e) h)

  -- one row more has no fault
  pub passed : (k : ℕ) (P : ℕ → Type 0) → IsOfRow k P → HasNoneBefore G wanted k → Nowhere P → HasNoneBefore G wanted (suc k)
  passed k P at none nowhere other i lt h = elim (cases_lt (row other) k) [
    | inl below ↦ none other i below h
    | inr above ↦ nowhere i (of_row k P at i other (omega arith) h)
  ]

  -- the first index of a row with a fact, where no row before it has a fault
  pub first_at : (it : CheckFault) (P : ℕ → Type 0) → IsOfRow (row it) P → HasNoneBefore G wanted (row it) →
      (i : ℕ) → HoldsAt G wanted i it → ((j : ℕ) → j < i → ¬ P j) → IsFirstInTable G wanted it
  first_at it P at none i holds before = record {
    index = i;
    holds = holds;
    before = λ other j earlier h. elim earlier [
      | inl below ↦ none other j below h
      | inr here ↦ before j here.1 (of_row (row it) P at j other here.0 h)
    ];
  }

  pub first_named : (it : CheckFault) (P : ℕ → Type 0) (name : List ℕ) → IsOfRow (row it) P → HasNoneBefore G wanted (row it) →
      ((i : ℕ) → IsNamedAt G i name → P i → HoldsAt G wanted i it) → IsFirstNamed G P name → IsFirstInTable G wanted it
  first_named it P name at none holds is = first_at it P at none is.index (holds is.index is.named is.first.holds) is.first.before

  pub none_at_all : HasNoneBefore G wanted 1
  none_at_all (TwoRules n) i lt h = omega (arith, lt)
  none_at_all (NoRule n) i lt h = omega (arith, lt)
  none_at_all (NoStartFault n) i lt h = omega (arith, lt)
  none_at_all (EofPlace n) i lt h = omega (arith, lt)
  none_at_all (FragmentLoop n) i lt h = omega (arith, lt)
  none_at_all (ShortUse n) i lt h = omega (arith, lt)
  none_at_all (EmptyToken n) i lt h = omega (arith, lt)
  none_at_all (NoBase n) i lt h = omega (arith, lt)
  none_at_all (EmptyLoop n) i lt h = omega (arith, lt)
  none_at_all (LeftRecursion n) i lt h = omega (arith, lt)
  none_at_all (TooManyRulesFault c) i lt h = omega (arith, lt)
  none_at_all (Memory _) i lt h = h

  -- the name of a fault is one, and so is its count

  same_at : (i : ℕ) (n m : List ℕ) → IsNamedAt G i n → IsNamedAt G i m → n ≡ m
  same_at i n m a b = same_Some n m (sym a ∙ b)

  same_use : (i : ℕ) (n m : List ℕ) → HoldsAt G wanted i (NoRule n) → HoldsAt G wanted i (NoRule m) → n ≡ m
  same_use i n m (u, at, is, unknown) (v, at', is', unknown') = sym is ∙ ap used_name (same_Some u v (sym at ∙ at')) ∙ is'

  same_start : {w : Option (List ℕ)} (n m : List ℕ) → NoStart G w n → NoStart G w m → n ≡ m
  same_start n m (NoStart.no_parser_rule w e) (NoStart.no_parser_rule w' e') = refl
  same_start n m (NoStart.no_parser_rule w e) (NoStart.not_there name some missing) = absurd (some e)
  same_start n m (NoStart.not_there name some missing) (NoStart.no_parser_rule w e) = absurd (some e)
  same_start n m (NoStart.not_there name some missing) (NoStart.not_there name' some' missing') = refl

  -- a row has one fault at an index
  one_at : (i : ℕ) (k : ℕ) (n m : List ℕ) (c d : ℕ) → HoldsAt G wanted i (fault_of k n c) → HoldsAt G wanted i (fault_of k m d)
      → fault_of k n c ≡ fault_of k m d
  one_at i (suc zero) n m c d a b = ap TwoRules (same_at i n m a.0 b.0)
  one_at i (suc (suc zero)) n m c d a b = ap NoRule (same_use i n m a b)
  one_at i (suc (suc (suc zero))) n m c d a b = ap NoStartFault (same_start n m a b)
  one_at i (suc (suc (suc (suc zero)))) n m c d a b = ap EofPlace (same_at i n m a.0 b.0)
  one_at i (suc (suc (suc (suc (suc zero))))) n m c d a b = ap FragmentLoop (same_at i n m a.0 b.0)
  one_at i (suc (suc (suc (suc (suc (suc zero)))))) n m c d a b = ap ShortUse (same_at i n m a.0 b.0)
  one_at i (suc (suc (suc (suc (suc (suc (suc zero))))))) n m c d a b = ap EmptyToken (same_at i n m a.0 b.0)
  one_at i (suc (suc (suc (suc (suc (suc (suc (suc zero)))))))) n m c d a b = ap NoBase (same_at i n m a.0 b.0)
  one_at i (suc (suc (suc (suc (suc (suc (suc (suc (suc zero))))))))) n m c d a b = ap EmptyLoop (same_at i n m a.0 b.0)
  one_at i (suc (suc (suc (suc (suc (suc (suc (suc (suc (suc zero)))))))))) n m c d a b = ap LeftRecursion (same_at i n m a.0 b.0)
  one_at i (suc (suc (suc (suc (suc (suc (suc (suc (suc (suc (suc zero))))))))))) n m c d a b = ap TooManyRulesFault (a.0 ∙ sym b.0)
  one_at i _ n m c d a b = absurd a

  same_fault : (i : ℕ) (one other : CheckFault) → row one ≡ row other → HoldsAt G wanted i one → HoldsAt G wanted i other → one ≡ other
  same_fault i one other e a b =
      let k = row other in
      let one_is = in_row k one e in
      let other_is = in_row k other refl in
      one_is ∙ one_at i k (name_in one) (name_in other) (count_in one) (count_in other) (subst (HoldsAt G wanted i) one_is a)
      (subst (HoldsAt G wanted i) other_is b) ∙ sym other_is

  module _ (one other : CheckFault) (a : IsFirstInTable G wanted one) (b : IsFirstInTable G wanted other) where
    at_index : row one ≡ row other → a.index ≡ b.index → one ≡ other
    at_index e f = let P : ℕ → Type 0 = λ i. HoldsAt G wanted i one in same_fault b.index one other e (subst P f a.holds) b.holds

    in_same_row : row one ≡ row other → one ≡ other
    in_same_row e = elim (cases_lt a.index b.index) [
      | inl below ↦ absurd (b.before one a.index (inr (e, below)) a.holds)
      | inr above ↦ elim (cases_lt b.index a.index) [
        | inl below ↦ absurd (a.before other b.index (inr (sym e, below)) b.holds)
        | inr equal ↦ at_index e (omega arith)
      ]
    ]

    once : one ≡ other
    once = elim (cases_lt (row one) (row other)) [
      | inl below ↦ absurd (b.before one a.index (inl below) a.holds)
      | inr above ↦ elim (cases_lt (row other) (row one)) [
        | inl below ↦ absurd (a.before other b.index (inl below) b.holds)
        | inr equal ↦ in_same_row (omega arith)
      ]
    ]

pub first_fault_once : FirstFaultOnce
first_fault_once G wanted one other a b = once G wanted one other a b
