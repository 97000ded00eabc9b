-- The faults of a grammar in the order of their table, and the first of them that holds.
use Rattle.std.specs.Prelude.{◌≡◌, ◌≢◌, ◌⊎◌, ◌<◌, ℕ, List, Option, Some}
use Rattle.faults.specs.Memory.{ran_out}
use Rattle.grammar_tree.specs.Faults as fault
use Rattle.grammar_tree.specs.Written.{WrittenGrammar}
use Rattle.grammar_check_faults.specs.Answer.{name_at}
use Rattle.grammar_check.specs.declared.fault.CheckFault.{CheckFault}
use Rattle.grammar_check.specs.declared.fault.CheckFault.TheVariants.{TwoRules, NoRule, NoStart, EofPlace, FragmentLoop, ShortUse, EmptyToken}
use Rattle.grammar_check.specs.declared.fault.CheckFault.TheVariants.{NoBase, EmptyLoop, LeftRecursion, TooManyRules, Memory}

-- the row of the table that a fault is in
abbrev pub row : CheckFault → ℕ
row (TwoRules name) = 1
row (NoRule name) = 2
row (NoStart name) = 3
row (EofPlace name) = 4
row (FragmentLoop name) = 5
row (ShortUse name) = 6
row (EmptyToken name) = 7
row (NoBase name) = 8
row (EmptyLoop name) = 9
row (LeftRecursion name) = 10
row (TooManyRules count) = 11
row (Memory _) = 12

-- The rule at this index has this name.
abbrev pub IsNamedAt : WrittenGrammar → ℕ → List ℕ → Type 0
IsNamedAt G i name = name_at G (Some i) ≡ Some name

-- The fault, with its name, holds at this index: of the rule, or the use of a name, with this index in
-- written order. A fault of the whole grammar holds at each index, and out of memory at none.
abbrev pub HoldsAt : WrittenGrammar → Option (List ℕ) → ℕ → CheckFault → Type 0
HoldsAt G wanted i (TwoRules name) = IsNamedAt G i name × fault.TwoRules G name
HoldsAt G wanted i (NoRule name) = fault.NoRuleAt G i name
HoldsAt G wanted i (NoStart name) = fault.NoStart G wanted name
HoldsAt G wanted i (EofPlace name) = IsNamedAt G i name × ((start : ℕ) × (fault.start_of G wanted ≡ Some start) × fault.EofPlace G start i)
HoldsAt G wanted i (FragmentLoop name) = IsNamedAt G i name × fault.FragmentLoop G i
HoldsAt G wanted i (ShortUse name) = IsNamedAt G i name × fault.ShortUse G i
HoldsAt G wanted i (EmptyToken name) = IsNamedAt G i name × fault.EmptyToken G i
HoldsAt G wanted i (NoBase name) = IsNamedAt G i name × fault.NoBase G i
HoldsAt G wanted i (EmptyLoop name) = IsNamedAt G i name × fault.EmptyLoop G i
HoldsAt G wanted i (LeftRecursion name) = IsNamedAt G i name × fault.LeftRecursion G i
HoldsAt G wanted i (TooManyRules count) = fault.TooManyRules G count
HoldsAt G wanted i (Memory _) = ⊥

-- The fault holds, and none holds of an earlier row; nor does one of its row at an earlier index.
pub record IsFirstInTable (G : WrittenGrammar) (wanted : Option (List ℕ)) (it : CheckFault) : Type 0 where
  pub index : ℕ
  pub holds : HoldsAt G wanted index it
  pub before : (other : CheckFault) (i : ℕ) → (row other < row it) ⊎ ((row other ≡ row it) × (i < index)) → ¬ HoldsAt G wanted i other

-- why a grammar isn't checked: by its first fault, or out of memory, which says nothing of the grammar
abbrev pub IsFault : WrittenGrammar → Option (List ℕ) → CheckFault → Type 0
IsFault G wanted it = it ≢ Memory ran_out → IsFirstInTable G wanted it
