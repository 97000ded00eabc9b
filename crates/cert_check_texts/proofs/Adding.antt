-- One number more among those that are kept with the bytes of a key.
use Rattle.std.proofs.Common.{◌≡◌, ◌++◌, ℕ, Bool, true, false, cond, List, [], ◌∷◌, Option, Some, None, Vec, Global, ap, refl, sym, ◌∙◌, true≢false}
use Rattle.std.specs.BTreeMap.{get_by}
use Rattle.std.specs.Cmp.Lexicographic.{slice_cmp}
use Rattle.std.specs.Map.{update}
use Rattle.std.specs.Option.{UnwrapsOrElse, option_map_or}
use Rattle.std.specs.Ordering.{nat_cmp}
use Rattle.std.specs.Str.{bytes_eq}
use Rattle.std.proofs.lemmas.Bool.{false_from_ne_true}
use Rattle.std.proofs.lemmas.Slice.Eq.{bytes_eq-Decides}
use Rattle.cert_check_texts.specs.inner.Numbers.{listed_with}
use Rattle.cert_check_texts.specs.declared.numbers.Numbers.{Numbers}

abbrev pub Listed : Type 0
Listed = Vec ℕ Global

-- the list of an entry, or a new one
pub found_or_made : (found : Option Listed) (list : Listed) (IsMade : Listed → Type 0) → ((made : Listed) → IsMade made → made.items ≡ [])
    → UnwrapsOrElse found IsMade list → list.items ≡ option_map_or (λ (v : Listed). v.items) found []
found_or_made None list IsMade empty is = empty list is
found_or_made (Some other) list IsMade empty is = ap (λ (v : Listed). v.items) is

module _ (old new : Numbers) (key : List ℕ) (number : ℕ) (list : Listed)
    (updates : (other : List ℕ) → get_by (λ k. slice_cmp nat_cmp other k.now) new.lists
    ≡ update bytes_eq (λ bytes. get_by (λ k. slice_cmp nat_cmp bytes k.now) old.lists) key (Some list) other)
    (items : list.items ≡ listed_with old key ++ number ∷ []) (other : List ℕ) where
  abbrev Either : Bool → List ℕ
  Either same = option_map_or (λ (v : Listed). v.items) (cond same (Some list) (get_by (λ k. slice_cmp nat_cmp other k.now) old.lists)) []

  found : listed_with new other ≡ Either (bytes_eq key other)
  found = ap (λ (o : Option Listed). option_map_or (λ (v : Listed). v.items) o []) (updates other)

  by : (same : Bool) → bytes_eq other key ≡ same → listed_with new other ≡ cond same (listed_with old other ++ number ∷ []) (listed_with old other)
  by true same =
      let is : other ≡ key = (bytes_eq-Decides other key).0 same in
      found ∙ ap Either ((bytes_eq-Decides key other).1 (sym is)) ∙ items ∙ ap (λ (bytes : List ℕ). listed_with old bytes ++ number ∷ []) (sym is)
  by false apart =
      let other_key : bytes_eq key other ≡ false =
      false_from_ne_true (bytes_eq key other)
      (λ same. true≢false (sym ((bytes_eq-Decides other key).1 (sym ((bytes_eq-Decides key other).0 same))) ∙ apart)) in
      found ∙ ap Either other_key

  pub added : listed_with new other ≡ cond (bytes_eq other key) (listed_with old other ++ number ∷ []) (listed_with old other)
  added = by (bytes_eq other key) refl
