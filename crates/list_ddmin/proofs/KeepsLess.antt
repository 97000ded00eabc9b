-- What is asked keeps some of the elements that are kept, and not all of them.
use Rattle.std.proofs.Common.{◌≡◌, ℕ, suc, zero, ◌+◌, ◌-◌, ◌*◌, ◌<◌, ◌⊎◌, inl, inr, min, max, Bool, true, false, cond}
use Rattle.std.proofs.Common.{List, [], ◌∷◌, Some, length, replicate, arith, refl, ap, subst}
use Rattle.std.proofs.lemmas.Bool.{cond_both}
use Rattle.std.specs.Prelude.{nat_lt}
use Rattle.list_ddmin.specs.ListStep.{kept_count, kept_where, part, complement}
use Rattle.list_ddmin.specs.Machine.{State, Nothing, Parts, Complements, End, begun, after, asks, kept, IsSound}
use Rattle.list_ddmin.specs.Asked.{KeepsOnlyOf, KeepsFewer, IsNothing, AsksFewer, AsksForNothingFirst}
use Rattle.list_ddmin.proofs.Borders.{kept_count-part}
use Rattle.list_ddmin.proofs.Counts.{each_yes_is_smaller}

pub only-length : (question keep : List Bool) → KeepsOnlyOf question keep → length question ≡ length keep
only-length [] [] only = refl
only-length [] (kept ∷ keep) only = absurd only
only-length (asked ∷ question) [] only = absurd only
only-length (asked ∷ question) (kept ∷ keep) only = ap suc (only-length question keep only.1)

pub only-both : (first second third : List Bool) → KeepsOnlyOf first second → KeepsOnlyOf second third → KeepsOnlyOf first third
only-both [] [] third left right = right
only-both [] (b ∷ second) third left right = absurd left
only-both (a ∷ first) [] third left right = absurd left
only-both (a ∷ first) (b ∷ second) [] left right = absurd right
only-both (a ∷ first) (b ∷ second) (c ∷ third) left right = ((λ is. right.0 (left.0 is)), only-both first second third left.1 right.1)

pub only-fewer : {first second third : List Bool} → KeepsFewer first second → KeepsFewer second third → KeepsFewer first third
only-fewer {first} {second} {third} left right = record { only = only-both first second third left.only right.only; fewer = omega arith }

only-kept_where : (test : ℕ → Bool) (place : ℕ) (keep : List Bool) → KeepsOnlyOf (kept_where test place keep) keep
only-kept_where test place [] = tt
only-kept_where test place (true ∷ keep) = ((λ is. refl), only-kept_where test (place + 1) keep)
only-kept_where test place (false ∷ keep) = ((λ is. is), only-kept_where test place keep)

pub only-part : (keep : List Bool) (n i : ℕ) → KeepsOnlyOf (part keep n i) keep
unfolding part
only-part keep n i = only-kept_where _ 0 keep

pub only-complement : (keep : List Bool) (n i : ℕ) → KeepsOnlyOf (complement keep n i) keep
unfolding complement
only-complement keep n i = only-kept_where _ 0 keep

only-none : (len : ℕ) → KeepsOnlyOf (replicate len false) (replicate len true)
only-none zero = tt
only-none (suc len) = ((λ is. refl), only-none len)

asked_only : (state : State) (question : List Bool) → asks state ≡ Some question → KeepsOnlyOf question (kept state)
asked_only (Nothing len) question is = let same : replicate len false ≡ question = cc in subst (λ q. KeepsOnlyOf q (replicate len true)) same (only-none len)
asked_only (Parts keep n i) question is = let same : part keep n i ≡ question = cc in subst (λ q. KeepsOnlyOf q keep) same (only-part keep n i)
asked_only (Complements keep n i) question is = let same : complement keep n i ≡ question =
    cc in subst (λ q. KeepsOnlyOf q keep) same (only-complement keep n i)
asked_only (End keep) question is = (cc)

asked_some : (state : State) (question : List Bool) → IsSound state → asks state ≡ Some question → (0 < kept_count question) ⊎ IsNothing state
asked_some (Nothing len) question sound is = inr tt
asked_some (Parts keep n i) question sound is =
    let same : part keep n i ≡ question = cc in
    let sizes = kept_count-part keep n i (omega arith) sound.fits sound.at in
    inl (subst (λ q. 0 < kept_count q) same (omega arith))
asked_some (Complements keep n i) question sound is =
    let same : complement keep n i ≡ question = cc in
    let sizes = kept_count-part keep n i (omega arith) sound.fits sound.at in
    inl (subst (λ q. 0 < kept_count q) same (omega arith))
asked_some (End keep) question sound is = (cc)

pub asks_fewer : AsksFewer
asks_fewer state question sound is = (
  record { only = asked_only state question is; fewer = each_yes_is_smaller state question sound is },
  asked_some state question sound is,
)

begun_isn't : (keep : List Bool) (n : ℕ) → IsNothing (begun keep n) → ⊥
begun_isn't keep n = cond_both (nat_lt (kept_count keep) 2) (End keep) (Parts keep n 0) (λ s. IsNothing s → ⊥) (λ few is. is) (λ many is. is)

after_isn't : (state : State) (answer : Bool) → IsNothing (after state answer) → ⊥
after_isn't (Nothing len) true = λ is. is
after_isn't (Nothing len) false = begun_isn't (replicate len true) 2
after_isn't (Parts keep n i) true = begun_isn't (part keep n i) 2
after_isn't (Parts keep n i) false =
    cond_both (nat_lt (i + 1) n) (Parts keep n (i + 1)) (Complements keep n 0) (λ s. IsNothing s → ⊥) (λ more is. is) (λ last is. is)
after_isn't (Complements keep n i) true = begun_isn't (complement keep n i) (max (n - 1) 2)
after_isn't (Complements keep n i) false =
    cond_both (nat_lt (i + 1) n) (Complements keep n (i + 1)) (cond (nat_lt n (kept_count keep)) (Parts keep (min (kept_count keep) (2 * n)) 0) (End keep))
    (λ s. IsNothing s → ⊥)
    (λ more is. is)
    (λ last. cond_both (nat_lt n (kept_count keep)) (Parts keep (min (kept_count keep) (2 * n)) 0) (End keep) (λ s. IsNothing s → ⊥) (λ few is. is)
    (λ all is. is))
after_isn't (End keep) answer = λ is. is

pub asks_for_nothing_first : AsksForNothingFirst
asks_for_nothing_first = (after_isn't, λ len. begun_isn't (replicate len true) 2)
