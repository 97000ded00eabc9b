-- What contracts see of the parts of a normal form.
use Rattle.std.specs.Prelude.{ℕ, List, map}
use Rattle.std.specs.Global.{Vec}
use Rattle.normal_form.specs.declared.normal.Sym.{Sym}
use Rattle.normal_form.specs.declared.normal.NormalRule.{NormalRule}
use Rattle.normal_form.specs.Form.{RuleForm, NormalForm}

-- the alternatives of a rule
abbrev pub alts_form : List (Vec Sym) → List (List Sym)
alts_form = map (λ alt. alt.items)

abbrev pub rule_form : NormalRule → RuleForm
rule_form (NormalRule.Regular alts) = RuleForm.regular (alts_form alts.items)
rule_form (NormalRule.Star s) = RuleForm.star s
rule_form (NormalRule.Plus s) = RuleForm.plus s
rule_form (NormalRule.Opt s) = RuleForm.opt s

-- the normal form with these parts
abbrev pub normal_form : List NormalRule → List (List ℕ) → List (List ℕ) → ℕ → NormalForm
normal_form rules names sets start = record { rules = map rule_form rules; names = names; sets = sets; start = start }
