-- The new rules of a term, by its form.
use Rattle.std.proofs.Common.{◌≡◌, ℕ, ◌+◌, List, [], ◌∷◌, ◌++◌, map, ap, ◌∙◌, append_assoc}
use Rattle.std.proofs.lemmas.List.{map-append}
use Rattle.grammar_tree.specs.Derives.{Term}
use Rattle.normal_form.specs.declared.normal.NormalRule.{NormalRule}
use Rattle.normal_form.specs.declared.normal.Sym.{Sym}
use Rattle.normal_form.specs.Numbering.{Numbering, symbol, term_rules}
use Rattle.normal_form.specs.View.{rule_form}
use Rattle.grammar_tree.specs.declared.suffix.Suffix.{Suffix}
use Rattle.normal_form_build.specs.inner.Terms.{suffix_form}

-- the rule of a term with a suffix, and after it those of the term
pub suffixed : (M : Numbering) (t : Term) (old pushed : List NormalRule) (own : NormalRule) (s : Suffix) (x : Sym) (n i k : ℕ) → pushed ≡ old ++ own ∷ []
    → rule_form own ≡ suffix_form s x → x ≡ symbol M i t → i ≡ n + 1 → k ≡ n + 1 →
    map rule_form pushed ++ term_rules M k t ≡ map rule_form old ++ (suffix_form s (symbol M (n + 1) t) ∷ term_rules M (n + 1) t)
suffixed M t old pushed own s x n i k is form named at counted =
    ap (λ l. map rule_form l ++ term_rules M k t) is
    ∙ ap (λ l. l ++ term_rules M k t) (map-append rule_form old (own ∷ []))
    ∙ append_assoc (map rule_form old) (rule_form own ∷ []) (term_rules M k t)
    ∙ ap (λ f. map rule_form old ++ f ∷ term_rules M k t) (form ∙ ap (suffix_form s) (named ∙ ap (λ j. symbol M j t) at))
    ∙ ap (λ j. map rule_form old ++ suffix_form s (symbol M (n + 1) t) ∷ term_rules M j t) counted
