-- Normal forms with equal parts.
use Rattle.std.proofs.Common.{◌≡◌, ℕ, List, ap, ◌∙◌}
use Rattle.normal_form.specs.Form.{NormalForm, RuleForm}

abbrev form_of : List RuleForm → List (List ℕ) → List (List ℕ) → ℕ → NormalForm
form_of rules names sets start = record { rules = rules; names = names; sets = sets; start = start }

pub same_parts : {r s : List RuleForm} {n m g h : List (List ℕ)} (start : ℕ) → r ≡ s → n ≡ m → g ≡ h → form_of r n g start ≡ form_of s m h start
same_parts {r} {s} {n} {m} {g} {h} start e f k = ap (λ x. form_of x n g start) e ∙ ap (λ x. form_of s x g start) f ∙ ap (λ x. form_of s m x start) k
