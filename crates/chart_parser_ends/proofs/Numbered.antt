-- The numbers of ranges that are in no chain.
use Rattle.std.proofs.Common.{◌≡◌, ℕ, zero, suc, ◌<◌, ◌≤◌, Bool, true, false, cond, ◌⊎◌, inl, inr, List, [], ◌∷◌, ◌++◌, length, Option, Some, None}
use Rattle.std.proofs.Common.{slice_get, get_or, nat_eq, refl, sym, ap, ◌∙◌, subst, arith}
use Rattle.std.proofs.lemmas.Bool.{and_from, and_parts, eq-eqb, eqb-true}
use Rattle.std.proofs.lemmas.List.Elements.{Contains-push_cases}
use Rattle.std.proofs.lemmas.Option.{get_or_from_slice_get, slice_get_within}
use Rattle.std.specs.HashMap.{HashMap, get}
use Rattle.std.specs.List.{Contains}
use Rattle.std.specs.Map.{lookup}
use Rattle.std.specs.Prelude.{IfNone}
use Rattle.chart_parser_ends.specs.declared.entries.EndsRange.{EndsRange}
use Rattle.chart_parser_ends.specs.inner.Ranges.{IsApart, IsNumberOf, IsNumbered, IsRangeOf, same_key}

slice_get_before : {X : Type 0} (xs ys : List X) (i : ℕ) (x : X) → slice_get xs i ≡ Some x → slice_get (xs ++ ys) i ≡ Some x
slice_get_before [] ys i x e = absurd (cc)
slice_get_before (y ∷ xs) ys zero x e = e
slice_get_before (y ∷ xs) ys (suc i) x e = slice_get_before xs ys i x e

slice_get_last : {X : Type 0} (xs : List X) (x : X) → slice_get (xs ++ x ∷ []) (length xs) ≡ Some x
slice_get_last [] x = refl
slice_get_last (y ∷ xs) x = slice_get_last xs x

key_is : (rule first : ℕ) (r : EndsRange) → same_key (r.rule, r.first) (rule, first) ≡ true → IsRangeOf rule first r
key_is rule first r e =
    let parts = and_parts (nat_eq r.rule rule) (nat_eq r.first first) e in
    record { rule_is = eqb-true r.rule rule parts.0; first_is = eqb-true r.first first parts.1 }

is_key : (rule first : ℕ) (r : EndsRange) → IsRangeOf rule first r → same_key (r.rule, r.first) (rule, first) ≡ true
is_key rule first r is =
    and_from (nat_eq r.rule rule) (nat_eq r.first first) (eq-eqb r.rule rule is.rule_is) (eq-eqb r.first first is.first_is)

false_true : false ≡ true → ⊥
false_true e = absurd (cc)

number_more : (ranges : List EndsRange) (r : EndsRange) (rule first : ℕ) (b : Bool) (o : Option ℕ) → same_key (r.rule, r.first) (rule, first) ≡ b
    → IsNumberOf ranges rule first o → IsNumberOf (ranges ++ r ∷ []) rule first (cond b (Some (length ranges)) o)
number_more ranges r rule first true o e h = (r, slice_get_last ranges r, key_is rule first r e)
number_more ranges r rule first false (Some n) e (x, at, is) = (x, slice_get_before ranges (r ∷ []) n x at, is)
number_more ranges r rule first false None e none = λ x c is apart. by x is apart (Contains-push_cases ranges r x c)
  where
    by : (x : EndsRange) → IsRangeOf rule first x → IsApart x → Contains ranges x ⊎ (r ≡ x) → ⊥
    by x is apart (inl c) = none x c is apart
    by x is apart (inr same) = false_true (sym e ∙ is_key rule first r (subst (IsRangeOf rule first) (sym same) is))

-- The map has one number more, that of the range that comes last.
pub numbered_more : {S : Type 0} (ranges : List EndsRange) (m n : HashMap (ℕ × ℕ) ℕ S) (r : EndsRange) (number : ℕ) → number ≡ length ranges
    → ((q : ℕ × ℕ) → get same_key n q ≡ cond (same_key (r.rule, r.first) q) (Some number) (get same_key m q)) → IsNumbered ranges m
    → IsNumbered (ranges ++ r ∷ []) n
numbered_more ranges m n r number e updates h rule first =
    subst (IsNumberOf (ranges ++ r ∷ []) rule first)
    (sym (updates (rule, first) ∙ ap (λ i. cond (same_key (r.rule, r.first) (rule, first)) (Some i) (get same_key m (rule, first))) e))
    (number_more ranges r rule first (same_key (r.rule, r.first) (rule, first)) (get same_key m (rule, first)) refl (h rule first))

chained_more : (ranges : List EndsRange) (r : EndsRange) (rule first : ℕ) (o : Option ℕ) → r.depth ≤ 32 → IsNumberOf ranges rule first o
    → IsNumberOf (ranges ++ r ∷ []) rule first o
chained_more ranges r rule first (Some n) l (x, at, is) = (x, slice_get_before ranges (r ∷ []) n x at, is)
chained_more ranges r rule first None l none = λ x c is apart. by x is apart (Contains-push_cases ranges r x c)
  where
    by : (x : EndsRange) → IsRangeOf rule first x → IsApart x → Contains ranges x ⊎ (r ≡ x) → ⊥
    by x is apart (inl c) = none x c is apart
    by x is apart (inr same) = omega (arith, l, subst IsApart (sym same) apart)

-- The range that comes last is one of a chain, and the map stays as it is.
pub numbered_same : {S : Type 0} (ranges : List EndsRange) (m : HashMap (ℕ × ℕ) ℕ S) (r : EndsRange) → r.depth ≤ 32 → IsNumbered ranges m
    → IsNumbered (ranges ++ r ∷ []) m
numbered_same ranges m r l h rule first = chained_more ranges r rule first (get same_key m (rule, first)) l (h rule first)

no_range : (r : EndsRange) → Contains [] r → ⊥
no_range r (k, l, e) = omega (arith, l)

pub none_numbered : {S : Type 0} (ranges : List EndsRange) (m : HashMap (ℕ × ℕ) ℕ S) → ranges ≡ [] → m.entries ≡ [] → IsNumbered ranges m
none_numbered ranges m none e rule first =
    subst (λ rs. IsNumberOf rs rule first (get same_key m (rule, first))) (sym none)
    (subst (λ es. IsNumberOf [] rule first (lookup (same_key (rule, first)) es)) (sym e) (λ r c is apart. no_range r c))

pub number_within : (ranges : List EndsRange) (rule first number : ℕ) → IsNumberOf ranges rule first (Some number) → number < length ranges
number_within ranges rule first number (r, at, is) = slice_get_within ranges number r at

-- The range that has the number is the one of the rule at the position.
pub number_is : (ranges : List EndsRange) (rule first number : ℕ) (d : EndsRange) → IsNumberOf ranges rule first (Some number)
    → IsRangeOf rule first (get_or ranges number d)
number_is ranges rule first number d (x, at, is) = subst (IsRangeOf rule first) (sym (get_or_from_slice_get ranges number x d at)) is

-- A range that is neither in a chain nor in the map isn't there.
pub in_neither : (ranges : List EndsRange) (rule first : ℕ) (found : Option EndsRange)
    → ((r : EndsRange) → Contains ranges r → IsRangeOf rule first r → IsApart r)
    → IfNone found ((r : EndsRange) → Contains ranges r → IsRangeOf rule first r → ¬ IsApart r)
    → IfNone found ((r : EndsRange) → Contains ranges r → ¬ IsRangeOf rule first r)
in_neither ranges rule first None apart none = λ r c is. none r c is (apart r c is)
in_neither ranges rule first (Some x) apart none = none
