-- The work on an optional.
use Rattle.std.proofs.Common.{◌≡◌, ℕ, ◌≤◌, ◌⊎◌, inl, inr, List, [], ◌∷◌, length, Some, slice_get, refl, sym, subst}
use Rattle.std.specs.List.Sorted.{IsStrictlyIncreasing}
use Rattle.normal_form.specs.declared.normal.Sym.{Sym}
use Rattle.normal_form.specs.declared.normal.Sym.TheVariants.{Rule}
use Rattle.normal_form.specs.Form.{RuleForm, NormalForm}
use Rattle.normal_form.specs.Spans.{DerivesSpan}
use Rattle.chart_parser_ends.specs.Positions.{HasAll, HasExactly, IsGrown}
use Rattle.chart_parser_ends.proofs.Exactly.{exactly_grown, exactly_one}
use Rattle.chart_parser_ends.proofs.Spans.{spans}

-- It can end where it begins, and where its symbol can end.
pub optional_ends : (N : NormalForm) (K : List ℕ) (rule first : ℕ) (s : Sym) (begun new : List ℕ) → slice_get N.rules rule ≡ Some (RuleForm.opt s)
    → first ≤ length K → begun ≡ first ∷ [] →
    IsStrictlyIncreasing new → IsGrown (DerivesSpan N K s first) begun new → HasAll (DerivesSpan N K s first) new
    → HasExactly (DerivesSpan N K (Rule rule) first) new
optional_ends N K rule first s begun new at l e rising grown all =
    exactly_grown (λ j. j ≡ first) (DerivesSpan N K s first) (DerivesSpan N K (Rule rule) first) (first ∷ []) new
    (exactly_one (λ j. j ≡ first) first refl (λ j same. same)) rising (subst (λ l. IsGrown (DerivesSpan N K s first) l new) e grown) all here there either
  where
    here : (j : ℕ) → j ≡ first → DerivesSpan N K (Rule rule) first j
    here j same = subst (DerivesSpan N K (Rule rule) first) (sym same) (((spans N K).opt rule first first s at).1 (inl (refl, l)))

    there : (j : ℕ) → DerivesSpan N K s first j → DerivesSpan N K (Rule rule) first j
    there j d = ((spans N K).opt rule first j s at).1 (inr d)

    by : (j : ℕ) → ((first ≡ j) × (j ≤ length K)) ⊎ DerivesSpan N K s first j → (j ≡ first) ⊎ DerivesSpan N K s first j
    by j (inl h) = inl (sym h.0)
    by j (inr d) = inr d

    either : (j : ℕ) → DerivesSpan N K (Rule rule) first j → (j ≡ first) ⊎ DerivesSpan N K s first j
    either j d = by j (((spans N K).opt rule first j s at).0 d)
