-- What follows from the definitions, for the proofs of this crate's contracts and of other crates.
use Rattle.std.specs.Prelude.{◌≡◌, ◌⊎◌, ℕ, ◌+◌, ◌<◌, List, Some, slice_get}
use Rattle.std.specs.List.{between}
use Rattle.normal_form.specs.declared.normal.Sym.{Sym}
use Rattle.normal_form.specs.Form.{RuleForm, NormalForm}
use Rattle.normal_form.specs.NormalDerives.{NormalDerives}
use Rattle.normal_form.specs.NormalOf.{IsNormal}
use Rattle.normal_form.specs.Spans.{DerivesSpan}
use Rattle.syntax_tree.specs.Trees.{PlainTree, HasTokensFrom, kinds_of, renumbered, weight}
use Rattle.syntax_tree.specs.Valid.{IsValid}
use Rattle.syntax_tree.specs.Preferred.{Preferred}

-- A slot derives the kinds of each tree that is valid for it.
abbrev pub ValidTreesAreDerived : Type 0
ValidTreesAreDerived = (N : NormalForm) (s : Sym) (t : PlainTree) → IsValid N s t → NormalDerives N s (kinds_of t)

-- A preferred tree is valid for its symbol, which derives the span, and its leaves are the tokens of the span, with their kinds.
pub record IsTreeOfSpan (N : NormalForm) (kinds : List ℕ) (s : Sym) (i j : ℕ) (t : PlainTree) : Type 0 where
  pub valid : IsValid N s t
  pub derived : DerivesSpan N kinds s i j
  pub kinds_are : kinds_of t ≡ between i j kinds
  pub tokens : HasTokensFrom i t
  pub long : i + weight t ≡ j

abbrev pub PreferredTreesAreValid : Type 0
PreferredTreesAreValid = (N : NormalForm) (kinds : List ℕ) (s : Sym) (i j : ℕ) (t : PlainTree) → Preferred N kinds s i j t → IsTreeOfSpan N kinds s i j t

-- There is one preferred tree at most, up to the numbers of its nodes.
abbrev pub PreferredTreesAreOne : Type 0
PreferredTreesAreOne =
    (N : NormalForm) (kinds : List ℕ) (s : Sym) (i j : ℕ) (t u : PlainTree) → Preferred N kinds s i j t → Preferred N kinds s i j u
    → renumbered 0 t ≡ renumbered 0 u

-- A preferred tree with other numbers is preferred too.
abbrev pub NumbersDontMatter : Type 0
NumbersDontMatter =
    (N : NormalForm) (kinds : List ℕ) (s : Sym) (i j n : ℕ) (t : PlainTree) → Preferred N kinds s i j t → Preferred N kinds s i j (renumbered n t)

-- Each element of a star or plus has a leaf.
abbrev pub ElementsHaveTokens : Type 0
ElementsHaveTokens = (N : NormalForm) → IsNormal N → (r : ℕ) (x : Sym) (t : PlainTree) →
    (slice_get N.rules r ≡ Some (RuleForm.star x)) ⊎ (slice_get N.rules r ≡ Some (RuleForm.plus x)) → IsValid N x t → 0 < weight t
