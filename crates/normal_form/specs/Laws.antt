-- A grammar and its normal form have equal languages.
use Rattle.std.specs.Prelude.{◌↔◌, ◌<◌, ℕ, List, length}
use Rattle.grammar_tree.specs.Written.{CheckedGrammar}
use Rattle.grammar_tree.specs.Checked.{IsChecked, StartDerives}
use Rattle.grammar_tree.specs.Derives.{RuleDerives, bodies}
use Rattle.normal_form.specs.declared.normal.Sym.TheVariants.{Rule}
use Rattle.normal_form.specs.Form.{NormalForm}
use Rattle.normal_form.specs.NormalDerives.{NormalDerives}
use Rattle.normal_form.specs.NormalOf.{normal_of, own_rule}

-- Each parser rule of the grammar, as it is written, derives the lists of kinds that its rule
-- in the normal form derives, and no others; and so do the two start rules.
pub record HasEqualLanguages (c : CheckedGrammar) (N : NormalForm) : Type 0 where
  pub rules : (r : ℕ) → r < length (bodies c.grammar) → (w : List ℕ) → RuleDerives c.grammar r w ↔ NormalDerives N (Rule (own_rule (bodies c.grammar) r)) w
  pub starts : (w : List ℕ) → StartDerives c w ↔ NormalDerives N (Rule N.start) w

-- The normal form of a checked grammar has the grammar's languages.
abbrev pub EqualLanguages : Type 0
EqualLanguages = (c : CheckedGrammar) → IsChecked c → HasEqualLanguages c (normal_of c)
