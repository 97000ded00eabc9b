-- Whether a symbol fits a slot, as a plain function: rules are let in one after another, as in Warshall's algorithm.
use Rattle.std.specs.Prelude.{ℕ, zero, suc, nat_eq, if◌then◌else◌, Bool, false, ◌&&◌, ◌||◌, List, [], ◌∷◌, Option, Some, slice_get, length}
use Rattle.std.specs.List.{list_all, list_any}
use Rattle.std.specs.Option.{option_map_or}
use Rattle.normal_form.specs.declared.normal.Sym.{Sym}
use Rattle.normal_form.specs.declared.normal.Sym.TheVariants.{Kind, Set, Rule}
use Rattle.normal_form.specs.Form.{RuleForm, NormalForm}
use Rattle.compat_table.specs.Nullable.{AreNullable, is_nullable, numbered_is_nullable}
use Rattle.descend_replace.specs.Compatible.{DecidesFits}

-- these rules, and where it passes the rule n too
abbrev pub with_rule : ℕ → Bool → (ℕ → Bool) → ℕ → Bool
with_rule n passes known = if passes then (λ r. nat_eq r n || known r) else known

-- Whether the rule derives the empty list by the first n rules, where these others are known
-- to. A rule is tested by the rules before it, and is known to those after it.
abbrev pub nullable_by : ℕ → NormalForm → (ℕ → Bool) → ℕ → Bool
nullable_by zero N known = known
nullable_by (suc n) N known = nullable_by n N (with_rule n (numbered_is_nullable N (nullable_by n N known) n) known)

-- whether the rule derives the empty list
unfoldable pub nullable_in : NormalForm → ℕ → Bool
nullable_in N = nullable_by (length N.rules) N (λ r. false)

-- It does exactly where this says so.
abbrev pub NullableInDecides : Type 0
NullableInDecides = (N : NormalForm) → AreNullable N (nullable_in N)

-- whether the symbols are one
abbrev pub is_same : Sym → Sym → Bool
is_same (Kind a) (Kind b) = nat_eq a b
is_same (Set a) (Set b) = nat_eq a b
is_same (Rule a) (Rule b) = nat_eq a b
is_same s t = false

-- whether the kind is one of these
abbrev pub has_kind : ℕ → List ℕ → Bool
has_kind k [] = false
has_kind k (x ∷ xs) = nat_eq x k || has_kind k xs

-- whether the symbol is a kind of the set
abbrev pub is_in_set : NormalForm → Sym → Sym → Bool
is_in_set N (Kind k) (Set i) = option_map_or (has_kind k) (slice_get N.sets i) false
is_in_set N s t = false

-- whether the first form is a plus, and the second one a star with the same symbol
abbrev pub are_plus_and_star : Option RuleForm → Option RuleForm → Bool
are_plus_and_star (Some (RuleForm.plus s)) (Some (RuleForm.star t)) = is_same s t
are_plus_and_star f g = false

-- whether the symbol is a plus, and the slot a star with the same symbol
abbrev pub is_in_star : NormalForm → Sym → Sym → Bool
is_in_star N (Rule p) (Rule r) = are_plus_and_star (slice_get N.rules p) (slice_get N.rules r)
is_in_star N s t = false

-- whether the symbol fits the slot without a step from a rule to one of its symbols
abbrev pub fits_at_once : NormalForm → Sym → Sym → Bool
fits_at_once N s t = is_same s t || (is_in_set N s t || is_in_star N s t)

-- whether one of the symbols passes, while all others derive the empty list
abbrev pub passes_alone : (Sym → Bool) → (Sym → Bool) → List Sym → Bool
passes_alone empty test [] = false
passes_alone empty test (t ∷ ts) = (test t && list_all empty ts) || (empty t && passes_alone empty test ts)

-- whether there is a regular rule with such an alternative, or a plus whose symbol passes
abbrev pub passes_in_rule : (Sym → Bool) → (Sym → Bool) → Option RuleForm → Bool
passes_in_rule empty test (Some (RuleForm.regular alts)) = list_any (passes_alone empty test) alts
passes_in_rule empty test (Some (RuleForm.plus t)) = test t
passes_in_rule empty test form = false

-- Whether the symbol fits the slot by steps from the first n rules to their symbols, and then at once. From
-- a slot to the rule n the steps alone lead: what fits a rule at once need not fit the slot.
abbrev pub fits_by : (Sym → Sym → Bool) → ℕ → NormalForm → Sym → Sym → Bool
fits_by at_once zero N s t = at_once s t
fits_by at_once (suc n) N s t =
    fits_by at_once n N s t || (fits_by is_same n N (Rule n) t && passes_in_rule (is_nullable (nullable_in N)) (fits_by at_once n N s) (slice_get N.rules n))

-- whether the symbol fits the slot
unfoldable pub fits_in : NormalForm → Sym → Sym → Bool
fits_in N s t = fits_by (fits_at_once N) (length N.rules) N s t

-- It does exactly where this says so.
abbrev pub FitsInDecides : Type 0
FitsInDecides = (N : NormalForm) → DecidesFits N (fits_in N)
