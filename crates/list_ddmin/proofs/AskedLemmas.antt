-- What a list step has asked by its end, and what its answers keep.
use Rattle.std.proofs.Common.{◌≡◌, ◌≤◌, ◌+◌, ◌-◌, ◌*◌, min, max, ℕ, ◌⊎◌, inl, inr, ⊎_elim, Bool, true, false, cond, List}
use Rattle.std.proofs.Common.{[], ◌∷◌, Some, refl, sym, ◌∙◌, subst, replicate, slice_get, slice_set}
use Rattle.std.proofs.lemmas.Bool.{false≢true, and_parts, cond_both}
use Rattle.std.specs.Prelude.{◌&&◌, ◌||◌, nat_lt}
use Rattle.std.specs.List.{AllByRecursion}
use Rattle.list_ddmin.specs.ListStep.{Outcome, list_step, kept_count, part, complement, IsOneMinimal}
use Rattle.list_ddmin.specs.Machine.{State, Nothing, Parts, Complements, End, begun, asks, kept, after}
use Rattle.list_ddmin.specs.Asked.{WasAsked, DeletionsAsked}
use Rattle.list_ddmin.specs.inner.Asked.{KeepsLastYes, KeepsAllAtFirst}
use Rattle.list_ddmin.proofs.Follows.{agreeing_maps}
use Rattle.list_ddmin.proofs.Minimal.{ends_one_minimal}

kept-begun : (keep : List Bool) (n : ℕ) → kept (begun keep n) ≡ keep
kept-begun keep n = cond_both (nat_lt (kept_count keep) 2) (End keep) (Parts keep n 0) (λ s. kept s ≡ keep) (λ few. refl) (λ many. refl)

-- what a yes keeps is what was asked
kept-yes : (state : State) (question : List Bool) → asks state ≡ Some question → kept (after state true) ≡ question
kept-yes (Nothing len) question is = (cc)
kept-yes (Parts keep n i) question is = let same : part keep n i ≡ question = cc in kept-begun (part keep n i) 2 ∙ same
kept-yes (Complements keep n i) question is = let same : complement keep n i ≡ question = cc in kept-begun (complement keep n i) (max (n - 1) 2) ∙ same
kept-yes (End keep) question is = (cc)

-- a no keeps what was kept
kept-no : (state : State) → kept (after state false) ≡ kept state
kept-no (Nothing len) = kept-begun (replicate len true) 2
kept-no (Parts keep n i) = cond_both (nat_lt (i + 1) n) (Parts keep n (i + 1)) (Complements keep n 0) (λ s. kept s ≡ keep) (λ more. refl) (λ last. refl)
kept-no (Complements keep n i) =
    cond_both (nat_lt (i + 1) n) (Complements keep n (i + 1)) (cond (nat_lt n (kept_count keep)) (Parts keep (min (kept_count keep) (2 * n)) 0) (End keep))
    (λ s. kept s ≡ keep)
    (λ more. refl)
    (λ last. cond_both (nat_lt n (kept_count keep)) (Parts keep (min (kept_count keep) (2 * n)) 0) (End keep) (λ s. kept s ≡ keep) (λ few. refl) (λ all. refl))
kept-no (End keep) = refl

pub keeps_last_yes : KeepsLastYes
keeps_last_yes state question is = (kept-yes state question is, kept-no state)

pub keeps_all_at_first : KeepsAllAtFirst
keeps_all_at_first len may_be_empty =
    cond_both (may_be_empty && nat_lt 0 len) (Nothing len) (begun (replicate len true) 2) (λ s. kept s ≡ replicate len true)
    (λ some. refl) (λ none. kept-begun (replicate len true) 2)

-- whether two flags, or two keep lists, are the same
abbrev same_flag : Bool → Bool → Bool
same_flag true flag = flag
same_flag false true = false
same_flag false false = true

abbrev same_keep : List Bool → List Bool → Bool
same_keep [] [] = true
same_keep [] (y ∷ ys) = false
same_keep (x ∷ xs) [] = false
same_keep (x ∷ xs) (y ∷ ys) = same_flag x y && same_keep xs ys

flag_is : (x y : Bool) → same_flag x y ≡ true → x ≡ y
flag_is true y same = sym same
flag_is false true same = absurd (false≢true same)
flag_is false false same = refl

keep_is : (xs ys : List Bool) → same_keep xs ys ≡ true → xs ≡ ys
keep_is [] [] same = refl
keep_is [] (y ∷ ys) same = absurd (false≢true same)
keep_is (x ∷ xs) [] same = absurd (false≢true same)
keep_is (x ∷ xs) (y ∷ ys) same =
    let parts = and_parts (same_flag x y) (same_keep xs ys) same in
    let flag : x ≡ y = flag_is x y parts.0 in
    let rest : xs ≡ ys = keep_is xs ys parts.1 in
    λ i. flag i ∷ rest i

same_itself : (xs : List Bool) → same_keep xs xs ≡ true
same_itself [] = refl
same_itself (true ∷ xs) = same_itself xs
same_itself (false ∷ xs) = same_itself xs

either : (b : Bool) → (b ≡ true) ⊎ (b ≡ false)
either true = inl refl
either false = inr refl

was_asked : (questions : List (List Bool)) (keep : List Bool) → WasAsked questions keep ⊎ AllByRecursion (λ question. same_keep question keep ≡ false) questions
was_asked [] keep = inr tt
was_asked (question ∷ questions) keep =
    ⊎_elim (λ same. inl (inl (keep_is question keep same)))
    (λ differs. ⊎_elim (λ later. inl (inr later)) (λ none. inr (differs, none)) (was_asked questions keep))
    (either (same_keep question keep))

or_false : (a b : Bool) → b ≡ false → a ≡ (a || b)
or_false true b is = refl
or_false false b is = sym is

or_true : (a b : Bool) → b ≡ true → (a || b) ≡ true
or_true true b is = refl
or_true false b is = is

agrees_but : (verdict : List Bool → Bool) (keep : List Bool) (questions : List (List Bool))
    → AllByRecursion (λ question. same_keep question keep ≡ false) questions
    → AllByRecursion (λ question. verdict question ≡ (verdict question || same_keep question keep)) questions
agrees_but verdict keep [] none = tt
agrees_but verdict keep (question ∷ questions) none = (or_false (verdict question) (same_keep question keep) none.0, agrees_but verdict keep questions none.1)

-- A map that differs at a keep list which was not asked has the same end, so it can't be yes there.
deletion_asked : (verdict : List Bool → Bool) (len k : ℕ) (may_be_empty : Bool)
    → ((map : List Bool → Bool) → list_step verdict len may_be_empty ≡ list_step map len may_be_empty
    → IsOneMinimal map (list_step map len may_be_empty).result)
    → slice_get (list_step verdict len may_be_empty).result k ≡ Some true
    → WasAsked (list_step verdict len may_be_empty).questions (slice_set (list_step verdict len may_be_empty).result k false)
deletion_asked verdict len k may_be_empty minimal is =
    let o : Outcome = list_step verdict len may_be_empty in
    let without : List Bool = slice_set o.result k false in
    ⊎_elim (λ asked. asked)
    (λ none.
    let other : List Bool → Bool = λ question. verdict question || same_keep question without in
    let same : o ≡ list_step other len may_be_empty = agreeing_maps verdict other len may_be_empty (agrees_but verdict without o.questions none) in
    let one : IsOneMinimal other o.result = subst (λ (p : Outcome). IsOneMinimal other p.result) (sym same) (minimal other same) in
    let says : other without ≡ false = one k is in
    absurd (false≢true (sym says ∙ or_true (verdict without) (same_keep without without) (same_itself without))))
    (was_asked o.questions without)

pub deletions_asked : DeletionsAsked
deletions_asked verdict len k = (
  λ is. deletion_asked verdict len k true (λ map same. (ends_one_minimal map len).0) is,
  λ two is. deletion_asked verdict len k false (λ map same. (ends_one_minimal map len).1 (subst (λ (o : Outcome). 2 ≤ kept_count o.result) same two)) is,
)
