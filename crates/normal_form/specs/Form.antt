-- The normal form of a grammar, as contracts see it.
use Rattle.std.specs.Prelude.{ℕ, List}
use Rattle.normal_form.specs.declared.normal.Sym.{Sym}

-- What a rule of the normal form is made of: alternatives, each of them symbols one after
-- another; or one symbol any number of times, at least once, or at most once.
pub data RuleForm : Type 0 where
  regular : List (List Sym) → RuleForm
  star : Sym → RuleForm
  plus : Sym → RuleForm
  opt : Sym → RuleForm

-- A normal form: its rules in the order of their numbers, which count from 0, the name of each, its sets of kinds, and the number of its start rule.
pub record NormalForm : Type 0 where
  pub rules : List RuleForm
  pub names : List (List ℕ)
  pub sets : List (List ℕ)
  pub start : ℕ
