-- Each keep list has a flag for each element.
use Rattle.std.proofs.Common.{◌≡◌, ℕ, suc, zero, ◌+◌, ◌-◌, ◌*◌, min, max, Bool, true, false, cond, List, length, replicate, refl, sym, ap, ◌∙◌, subst}
use Rattle.std.proofs.lemmas.Bool.{cond_both}
use Rattle.std.proofs.lemmas.List.{length-replicate}
use Rattle.std.specs.Prelude.{nat_lt, ◌&&◌}
use Rattle.list_ddmin.specs.ListStep.{kept_count, part, complement, Outcome, ends_with, asks_first, tried, finer}
use Rattle.list_ddmin.specs.ListStep.{complements_tried, parts_tried, ddmin_within, ddmin, list_step}
use Rattle.list_ddmin.specs.Machine.{Nothing, Parts, Complements, End, kept, begun, rest_of, HasLength}
use Rattle.list_ddmin.specs.Machine.{QuestionsFit, RestFits, AsksAsKept, KeepsLength, StartsWithAll}
use Rattle.list_ddmin.proofs.Minimal.{length-part, length-complement}

HasLength-end : (keep : List Bool) → HasLength (length keep) (ends_with keep)
HasLength-end keep = record { questions = tt; result = refl }

HasLength-first : (len : ℕ) (question : List Bool) (o : Outcome) → length question ≡ len → HasLength len o → HasLength len (asks_first question o)
HasLength-first len question o same rest = record { questions = (same, rest.questions); result = rest.result }

module _ (verdict : List Bool → Bool) (len : ℕ) where
  HasLength-tried : (candidate : ℕ → List Bool) (on_yes : List Bool → Outcome) (on_no : Outcome)
      → ((j : ℕ) → length (candidate j) ≡ len) → ((j : ℕ) → HasLength len (on_yes (candidate j))) → HasLength len on_no
      → (i left : ℕ) → HasLength len (tried verdict candidate on_yes on_no i left)
  HasLength-tried candidate on_yes on_no fits at_yes at_no i zero = at_no
  HasLength-tried candidate on_yes on_no fits at_yes at_no i (suc left) =
      HasLength-first len (candidate i) (cond (verdict (candidate i)) (on_yes (candidate i)) (tried verdict candidate on_yes on_no (i + 1) left)) (fits i)
      (cond_both (verdict (candidate i)) (on_yes (candidate i)) (tried verdict candidate on_yes on_no (i + 1) left) (HasLength len)
      (λ is_yes. at_yes i) (λ is_no. HasLength-tried candidate on_yes on_no fits at_yes at_no (i + 1) left))

-- what goes on with lists of the same length
module _ (verdict : List Bool → Bool) (go : List Bool → ℕ → Outcome) (fits : (found : List Bool) (m : ℕ) → HasLength (length found) (go found m))
    (keep : List Bool) (n : ℕ) where
  HasLength-finer : HasLength (length keep) (finer go keep n)
  HasLength-finer =
      cond_both (nat_lt n (kept_count keep)) (go keep (min (kept_count keep) (2 * n))) (ends_with keep) (HasLength (length keep))
      (λ few. fits keep (min (kept_count keep) (2 * n))) (λ all. HasLength-end keep)

  pub HasLength-complements : (i left : ℕ) → HasLength (length keep) (complements_tried verdict go keep n i left)
  HasLength-complements i left =
      HasLength-tried verdict (length keep) (complement keep n) (λ found. go found (max (n - 1) 2)) (finer go keep n)
      (length-complement keep n)
      (λ j. subst (λ l. HasLength l (go (complement keep n j) (max (n - 1) 2))) (length-complement keep n j) (fits (complement keep n j) (max (n - 1) 2)))
      HasLength-finer i left

  pub HasLength-parts : (i left : ℕ) → HasLength (length keep) (parts_tried verdict go keep n i left)
  HasLength-parts i left =
      HasLength-tried verdict (length keep) (part keep n) (λ found. go found 2) (complements_tried verdict go keep n 0 n)
      (length-part keep n)
      (λ j. subst (λ l. HasLength l (go (part keep n j) 2)) (length-part keep n j) (fits (part keep n j) 2))
      (HasLength-complements 0 n) i left

module _ (verdict : List Bool → Bool) where
  HasLength-within : (calls : ℕ) (keep : List Bool) (n : ℕ) → HasLength (length keep) (ddmin_within calls verdict keep n)
  unfolding ddmin_within
  HasLength-within zero keep n = HasLength-end keep
  HasLength-within (suc calls) keep n =
      let go : List Bool → ℕ → Outcome = λ found m. ddmin_within calls verdict found m in
      cond_both (nat_lt (kept_count keep) 2) (ends_with keep) (parts_tried verdict go keep n 0 n) (HasLength (length keep))
      (λ small. HasLength-end keep)
      (λ large. HasLength-parts verdict go (HasLength-within calls) keep n 0 n)

  pub HasLength-ddmin : (keep : List Bool) (n : ℕ) → HasLength (length keep) (ddmin verdict keep n)
  unfolding ddmin
  HasLength-ddmin keep n = HasLength-within (suc (kept_count keep * kept_count keep + (kept_count keep - n))) keep n

  HasLength-all : (len : ℕ) → HasLength len (ddmin verdict (replicate len true) 2)
  HasLength-all len = subst (λ l. HasLength l (ddmin verdict (replicate len true) 2)) (length-replicate len true) (HasLength-ddmin (replicate len true) 2)

  HasLength-Nothing : (len : ℕ) → HasLength len
      (asks_first (replicate len false) (cond (verdict (replicate len false)) (ends_with (replicate len false)) (ddmin verdict (replicate len true) 2)))
  HasLength-Nothing len =
      HasLength-first len (replicate len false) (cond (verdict (replicate len false)) (ends_with (replicate len false)) (ddmin verdict (replicate len true) 2))
      (length-replicate len false)
      (cond_both (verdict (replicate len false)) (ends_with (replicate len false)) (ddmin verdict (replicate len true) 2) (HasLength len)
      (λ is_yes. record { questions = tt; result = length-replicate len false }) (λ is_no. HasLength-all len))

pub questions_fit : QuestionsFit
unfolding list_step
questions_fit verdict len may_be_empty =
    cond_both (may_be_empty && nat_lt 0 len)
    (asks_first (replicate len false) (cond (verdict (replicate len false)) (ends_with (replicate len false)) (ddmin verdict (replicate len true) 2)))
    (ddmin verdict (replicate len true) 2) (HasLength len)
    (λ some. HasLength-Nothing verdict len) (λ none. HasLength-all verdict len)

pub rest_fits : RestFits
rest_fits verdict (Nothing len) = subst (λ l. HasLength l (rest_of verdict (Nothing len))) (sym (length-replicate len true)) (HasLength-Nothing verdict len)
rest_fits verdict (Parts keep n i) = HasLength-parts verdict (λ found m. ddmin verdict found m) (HasLength-ddmin verdict) keep n i (n - i)
rest_fits verdict (Complements keep n i) = HasLength-complements verdict (λ found m. ddmin verdict found m) (HasLength-ddmin verdict) keep n i (n - i)
rest_fits verdict (End keep) = HasLength-end keep

pub asks_as_kept : AsksAsKept
asks_as_kept (Nothing len) question is =
    let same : replicate len false ≡ question = cc in
    ap length (sym same) ∙ length-replicate len false ∙ sym (length-replicate len true)
asks_as_kept (Parts keep n i) question is =
    let same : part keep n i ≡ question = cc in
    ap length (sym same) ∙ length-part keep n i
asks_as_kept (Complements keep n i) question is =
    let same : complement keep n i ≡ question = cc in
    ap length (sym same) ∙ length-complement keep n i
asks_as_kept (End keep) question is = (cc)

length-kept-begun : (keep : List Bool) (n : ℕ) → length (kept (begun keep n)) ≡ length keep
length-kept-begun keep n =
    cond_both (nat_lt (kept_count keep) 2) (End keep) (Parts keep n 0) (λ s. length (kept s) ≡ length keep) (λ small. refl) (λ large. refl)

pub keeps_length : KeepsLength
keeps_length (Nothing len) true = length-replicate len false ∙ sym (length-replicate len true)
keeps_length (Nothing len) false = length-kept-begun (replicate len true) 2
keeps_length (Parts keep n i) true = length-kept-begun (part keep n i) 2 ∙ length-part keep n i
keeps_length (Parts keep n i) false =
    cond_both (nat_lt (i + 1) n) (Parts keep n (i + 1)) (Complements keep n 0) (λ s. length (kept s) ≡ length keep) (λ more. refl) (λ last. refl)
keeps_length (Complements keep n i) true = length-kept-begun (complement keep n i) (max (n - 1) 2) ∙ length-complement keep n i
keeps_length (Complements keep n i) false =
    cond_both (nat_lt (i + 1) n) (Complements keep n (i + 1)) (cond (nat_lt n (kept_count keep)) (Parts keep (min (kept_count keep) (2 * n)) 0) (End keep))
    (λ s. length (kept s) ≡ length keep)
    (λ more. refl)
    (λ last. cond_both (nat_lt n (kept_count keep)) (Parts keep (min (kept_count keep) (2 * n)) 0) (End keep) (λ s. length (kept s) ≡ length keep) (λ few. refl)
    (λ all. refl))
keeps_length (End keep) answer = refl

pub starts_with_all : StartsWithAll
starts_with_all len may_be_empty =
    cond_both (may_be_empty && nat_lt 0 len) (Nothing len) (begun (replicate len true) 2) (λ s. length (kept s) ≡ len)
    (λ some. length-replicate len true) (λ none. length-kept-begun (replicate len true) 2 ∙ length-replicate len true)
