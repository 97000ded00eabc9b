-- A chain of left corners has fewer steps than there are rules, since it comes to no rule twice.
use Rattle.std.proofs.Common.{◌≡◌, ◌⊎◌, inl, inr, ℕ, zero, suc, ◌+◌, ◌<◌, ◌≤◌, true, false, ◌||◌, List, []}
use Rattle.std.proofs.Common.{◌∷◌, ◌++◌, length, refl, sym, ap, ◌∙◌, subst, arith, eqb}
use Rattle.std.specs.List as lists
use Rattle.std.specs.List.{AllByRecursion, IsDistinct, list_any}
use Rattle.std.proofs.lemmas.Bool.{cases_Bool, false≢true}
use Rattle.std.proofs.lemmas.Bool.Decides.{Decides-eqb}
use Rattle.std.proofs.lemmas.List.Elements.{Contains-append_right}
use Rattle.std.proofs.lemmas.Option.{slice_get_within}
use Rattle.std.proofs.lemmas.Map.Keys.{IsDistinct-cons}
use Rattle.std.proofs.lemmas.Map.Steps.{length-le_from_distinct_below}
use Rattle.normal_form.specs.declared.normal.Sym.TheVariants.{Rule}
use Rattle.normal_form.specs.Form.{RuleForm, NormalForm}
use Rattle.normal_form.specs.FormLaws.{AllCornersEnd, CanBeFirst, CornerChainsAreShort, CornersEnd}
use Rattle.normal_form.specs.FormLaws.{IsNormalCorner, NormalLeadsTo, no_step, of_corners, one_more}
use Rattle.normal_form.specs.NormalOf.{IsNormal}
use Rattle.normal_form.specs.Symbols.{HasSymbol}
use Rattle.normal_form.proofs.Few.{rules_are_few}
use Rattle.normal_form.proofs.KnownSymbols.{symbols_are_known}
use Rattle.normal_form.proofs.Lists.{Contains-here}
use Rattle.normal_form.proofs.NoLeftRecursion.{no_left_recursion}

first_is_symbol : (N : NormalForm) (b : ℕ) (f : RuleForm) → CanBeFirst N b f → HasSymbol f (Rule b)
first_is_symbol N b (RuleForm.regular alts) (before, after, c, d) =
    (before ++ Rule b ∷ after, c, Contains-append_right before (Rule b ∷ after) (Rule b) (Contains-here (Rule b) after))
first_is_symbol N b (RuleForm.star s) e = e
first_is_symbol N b (RuleForm.plus s) e = e
first_is_symbol N b (RuleForm.opt s) e = e

-- a number that is not in a list
all_apart : (b : ℕ) (xs : List ℕ) → (list_any (eqb b) xs ≡ true → ⊥) → AllByRecursion (λ y. eqb b y ≡ false) xs
all_apart b [] h = tt
all_apart b (y ∷ ys) h = elim (cases_Bool (eqb b y)) [
  | inl e ↦ absurd (h (ap (λ t. t || list_any (eqb b) ys) e))
  | inr e ↦ (e, all_apart b ys (λ k. h (ap (λ t. t || list_any (eqb b) ys) e ∙ k)))
]

one_distinct : (a : ℕ) → IsDistinct eqb (a ∷ [])
unfolding lists.IsDistinct
one_distinct a = (tt, tt)

-- the number is the first of the list, or one of the others
first_or_later : (q b : ℕ) (xs : List ℕ) → list_any (eqb q) (b ∷ xs) ≡ true → (q ≡ b) ⊎ (list_any (eqb q) xs ≡ true)
first_or_later q b xs h = elim (cases_Bool (eqb q b)) [
  | inl e ↦ inl ((Decides-eqb q b).0 e)
  | inr e ↦ inr (sym (ap (λ t. t || list_any (eqb q) xs) e) ∙ h)
]

module _ (N : NormalForm) (normal : IsNormal N) where
  -- the rules to which a chain comes
  record Trail (n b : ℕ) : Type 0 where
    rules : List ℕ
    count : length rules ≡ suc n
    distinct : IsDistinct eqb rules
    below : (q : ℕ) → list_any (eqb q) rules ≡ true → q < length N.rules
    lead : (q : ℕ) → list_any (eqb q) rules ≡ true → (k : ℕ) × NormalLeadsTo N k q b

  trail_of : (n a b : ℕ) → a < length N.rules → NormalLeadsTo N n a b → Trail n b
  trail_of n a b known (no_step a') =
      let only = λ (q : ℕ) (h : list_any (eqb q) (a ∷ []) ≡ true). first_or_later q a [] h in
      record {
        rules = a ∷ [];
        count = refl;
        distinct = one_distinct a;
        below = λ q h. elim (only q h) [ inl e ↦ omega (arith, e, known) | inr e ↦ absurd (false≢true e) ];
        lead = λ q h. elim (only q h) [ inl e ↦ (0, subst (λ (k : ℕ). NormalLeadsTo N 0 k a) (sym e) (no_step a)) | inr e ↦ absurd (false≢true e) ];
      }
  trail_of n a b known (one_more n' a' m b' chain corner) =
      let it = trail_of n' a m known chain in
      let new =
      λ (h : list_any (eqb b) it.rules ≡ true). no_left_recursion N normal (it.lead b h).0 b (one_more (it.lead b h).0 b m b (it.lead b h).1 corner) in
      let within : b < length N.rules = (symbols_are_known N normal).known m corner.0 (Rule b) corner.1 (first_is_symbol N b corner.0 corner.2) in
      record {
        rules = b ∷ it.rules;
        count = ap suc it.count;
        distinct = IsDistinct-cons eqb b it.rules (all_apart b it.rules new) it.distinct;
        below = λ q h. elim (first_or_later q b it.rules h) [ inl e ↦ omega (arith, e, within) | inr k ↦ it.below q k ];
        lead = λ q h. elim (first_or_later q b it.rules h) [
          | inl e ↦ (0, subst (λ (k : ℕ). NormalLeadsTo N 0 k b) (sym e) (no_step b))
          | inr k ↦ let from = it.lead q k in (suc from.0, one_more from.0 q m b from.1 corner)
        ];
      }

  short_from : (n a b : ℕ) → a < length N.rules → NormalLeadsTo N n a b → n < length N.rules
  short_from n a b known chain =
      let it = trail_of n a b known chain in
      omega (arith, it.count, length-le_from_distinct_below it.rules (length N.rules) it.distinct it.below)

  -- what a left corner goes on from begins with a rule
  first_within : (n a b : ℕ) → NormalLeadsTo N n a b → (c : ℕ) → IsNormalCorner N b c → a < length N.rules
  first_within n a b (no_step a') c corner = slice_get_within N.rules a corner.0 corner.1
  first_within n a b (one_more n' a' m b' chain last) c corner = first_within n' a m chain b last

  short : (n a b : ℕ) → NormalLeadsTo N n a b → n < length N.rules
  short n a b (no_step a') = omega (arith, (rules_are_few N normal).start_is_there)
  short n a b (one_more n' a' m b' chain corner) = short_from n a b (first_within n' a m chain b corner) (one_more n' a m b chain corner)

  -- after so many steps of a chain there are at most this many more
  ends_after : (more n from a : ℕ) → NormalLeadsTo N n from a → length N.rules ≤ n + more → CornersEnd N a
  ends_after zero n from a chain long = absurd (omega (arith, long, short n from a chain))
  ends_after (suc more) n from a chain long =
      of_corners a (λ b corner. ends_after more (suc n) from b (one_more n from a b chain corner) (omega (arith, long)))

pub corner_chains_are_short : CornerChainsAreShort
corner_chains_are_short N normal n a b chain = short N normal n a b chain

pub all_corners_end : AllCornersEnd
all_corners_end N normal a = ends_after N normal (length N.rules) 0 a a (no_step a) (omega arith)
