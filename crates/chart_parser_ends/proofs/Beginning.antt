-- The forms of rules that are read from a normal form.
use Rattle.std.proofs.Common.{◌≡◌, ℕ, zero, suc, ◌<◌, ◌≤◌, inl, inr, List, [], ◌∷◌, length, Some, None, slice_get, sym, ap, ◌∙◌, subst, arith}
use Rattle.std.proofs.lemmas.List.{length-map}
use Rattle.std.proofs.lemmas.Option.{slice_get_past}
use Rattle.std.specs.Global.{Vec}
use Rattle.std.specs.List.Sorted.{IsStrictlyIncreasing}
use Rattle.std.specs.Prelude.{map, slice_index_or}
use Rattle.normal_form.specs.declared.normal.NormalRule.{NormalRule}
use Rattle.normal_form.specs.Form.{RuleForm, NormalForm}
use Rattle.normal_form.specs.View.{alts_form, rule_form}
use Rattle.normal_form.specs.declared.normal.Sym.{Sym}
use Rattle.normal_form.specs.Spans.{DerivesSpan}
use Rattle.chart_parser_ends.specs.Input.{ChartInput}
use Rattle.chart_parser_ends.specs.inner.Working.{HasAlternatives}
use Rattle.chart_parser_ends.specs.Positions.{EndsUpTo, HasAll, HasExactly, IsGrown}
use Rattle.chart_parser_ends.proofs.Exactly.{exactly_grown, exactly_none, exactly_same}

pub rule_at : (rules : List NormalRule) (forms : List RuleForm) (r : ℕ) (rule : NormalRule) → map rule_form rules ≡ forms → r < length rules
    → slice_index_or rules r rule ≡ rule → slice_get forms r ≡ Some (rule_form rule)
rule_at rules forms r rule e l at = subst (λ l. slice_get l r ≡ Some (rule_form rule)) e (mapped rules r l at)
  where
    mapped : (rules : List NormalRule) (r : ℕ) → r < length rules → slice_index_or rules r rule ≡ rule
        → slice_get (map rule_form rules) r ≡ Some (rule_form rule)
    mapped [] r l at = absurd (omega (arith, l))
    mapped (x ∷ rules) zero l at = ap (λ y. Some (rule_form y)) at
    mapped (x ∷ rules) (suc r) l at = mapped rules r (omega (arith, l)) at

pub no_rule_at : (rules : List NormalRule) (forms : List RuleForm) (r : ℕ) → map rule_form rules ≡ forms → length rules ≤ r → slice_get forms r ≡ None
no_rule_at rules forms r e l = slice_get_past forms r (omega (arith, l, ap length (sym e) ∙ length-map rules rule_form))

same_alternatives : (a b : List (List Sym)) → Some (RuleForm.regular a) ≡ Some (RuleForm.regular b) → a ≡ b
same_alternatives a b e = cc

no_form : (f : RuleForm) → Some f ≡ None → ⊥
no_form f e = absurd (cc)

-- a rule has no alternative past its last one
pub no_alternative : (N : NormalForm) (r number : ℕ) (made : List (Vec Sym)) (alts : List (List Sym))
    → slice_get N.rules r ≡ Some (RuleForm.regular (alts_form made)) → length made ≤ number → HasAlternatives N r alts → None ≡ slice_get alts number
no_alternative N r number made alts at l (inl there) =
    let same = same_alternatives (alts_form made) alts (sym at ∙ there) in
    sym (slice_get_past alts number (omega (arith, l, ap length same, length-map made (λ (a : Vec Sym). a.items))))
no_alternative N r number made alts at l (inr (none, e)) = absurd (no_form (RuleForm.regular (alts_form made)) (sym at ∙ none))

-- What is added to an empty list is all that it has.
exactly_added : (P : ℕ → Type 0) (old new : List ℕ) → old ≡ [] → IsStrictlyIncreasing new → IsGrown P old new → HasAll P new → HasExactly P new
exactly_added P old new e rising grown all =
    exactly_grown (λ x. ⊥) P P [] new (exactly_none (λ x. ⊥) (λ x h. h)) rising (subst (λ l. IsGrown P l new) e grown) all (λ x h. absurd h) (λ x p. p)
    (λ x p. inr p)

-- All ends up to the end of the list are all ends.
pub ends_exact : (N : NormalForm) (K : List ℕ) (s : Sym) (first : ℕ) (x : ChartInput) (old new : List ℕ) → x ≡ record { normal = N; kinds = K } → old ≡ []
    → IsStrictlyIncreasing new → IsGrown (EndsUpTo x.normal x.kinds s first (length K)) old new →
    HasAll (EndsUpTo x.normal x.kinds s first (length K)) new → HasExactly (DerivesSpan N K s first) new
ends_exact N K s first x old new e none rising grown all =
    exactly_same (EndsUpTo N K s first (length K)) (DerivesSpan N K s first) new (λ j h. h.0) (λ j d. (d, d.within))
    (exactly_added (EndsUpTo N K s first (length K)) old new none rising (subst (λ y. IsGrown (EndsUpTo y.normal y.kinds s first (length K)) old new) e grown)
    (subst (λ y. HasAll (EndsUpTo y.normal y.kinds s first (length K)) new) e all))
