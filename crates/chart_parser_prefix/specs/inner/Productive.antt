-- Which symbols derive some list of kinds.
use Rattle.std.specs.Prelude.{◌≡◌, ◌↔◌, ℕ, Bool, true, false, List, [], ◌∷◌, slice_get}
use Rattle.std.specs.List.{list_all, list_any}
use Rattle.std.specs.Option.{option_map_or}
use Rattle.grammar_check_nodes.specs.Flags.{flag}
use Rattle.normal_form.specs.declared.normal.Sym.{Sym}
use Rattle.normal_form.specs.declared.normal.Sym.TheVariants.{Kind, Set, Rule}
use Rattle.normal_form.specs.Form.{RuleForm, NormalForm}
use Rattle.normal_form.specs.NormalDerives.{NormalDerives, NormalDerivesSeq}

-- The symbol derives some list.
abbrev pub DerivesSome : NormalForm → Sym → Type 0
DerivesSome N s = (w : List ℕ) × NormalDerives N s w

-- The symbols, one after another, derive some list.
abbrev pub DerivesSomeSeq : NormalForm → List Sym → Type 0
DerivesSomeSeq N ss = (w : List ℕ) × NormalDerivesSeq N ss w

abbrev pub has_some : List ℕ → Bool
has_some [] = false
has_some (k ∷ ks) = true

-- whether the symbol derives some list, as far as the table of rules says
abbrev pub passes : NormalForm → List Bool → Sym → Bool
passes N flags (Kind k) = true
passes N flags (Set g) = option_map_or has_some (slice_get N.sets g) false
passes N flags (Rule r) = flag flags r

-- whether a rule of this form does
abbrev pub form_passes : NormalForm → List Bool → RuleForm → Bool
form_passes N flags (RuleForm.regular alts) = list_any (list_all (passes N flags)) alts
form_passes N flags (RuleForm.star s) = true
form_passes N flags (RuleForm.plus s) = passes N flags s
form_passes N flags (RuleForm.opt s) = true

-- whether the rule with this number does
abbrev pub numbered_passes : NormalForm → List Bool → ℕ → Bool
numbered_passes N flags r = option_map_or (form_passes N flags) (slice_get N.rules r) false

-- The table says exactly which rules derive some list.
abbrev pub AreProductive : NormalForm → List Bool → Type 0
AreProductive N flags = (r : ℕ) → (flag flags r ≡ true) ↔ DerivesSome N (Rule r)
