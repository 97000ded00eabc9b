-- Which symbols derive the empty list, where it is known which rules do.
use Rattle.std.specs.Prelude.{◌≡◌, ◌↔◌, ℕ, Bool, true, false, [], slice_get}
use Rattle.std.specs.List.{list_all, list_any}
use Rattle.std.specs.Option.{option_map_or}
use Rattle.normal_form.specs.declared.normal.Sym.{Sym}
use Rattle.normal_form.specs.declared.normal.Sym.TheVariants.{Kind, Set, Rule}
use Rattle.normal_form.specs.Form.{RuleForm, NormalForm}
use Rattle.normal_form.specs.NormalDerives.{NormalDerives}

-- whether the symbol derives the empty list, where this says so of rules
abbrev pub is_nullable : (ℕ → Bool) → Sym → Bool
is_nullable nulls (Kind k) = false
is_nullable nulls (Set i) = false
is_nullable nulls (Rule r) = nulls r

-- whether a rule of this form does
abbrev pub form_is_nullable : (ℕ → Bool) → RuleForm → Bool
form_is_nullable nulls (RuleForm.regular alts) = list_any (list_all (is_nullable nulls)) alts
form_is_nullable nulls (RuleForm.star s) = true
form_is_nullable nulls (RuleForm.plus s) = is_nullable nulls s
form_is_nullable nulls (RuleForm.opt s) = true

-- whether the rule with this number does
abbrev pub numbered_is_nullable : NormalForm → (ℕ → Bool) → ℕ → Bool
numbered_is_nullable N nulls r = option_map_or (form_is_nullable nulls) (slice_get N.rules r) false

-- It says exactly of the rules that derive the empty list that they do.
abbrev pub AreNullable : NormalForm → (ℕ → Bool) → Type 0
AreNullable N nulls = (r : ℕ) → (nulls r ≡ true) ↔ NormalDerives N (Rule r) []
