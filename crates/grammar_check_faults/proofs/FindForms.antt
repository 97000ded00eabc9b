-- A loop that looks for the first of what its elements have.
use Rattle.std.proofs.Common.{◌≡◌, ℕ, zero, suc, ◌+◌, ◌<◌, ◌≤◌, Bool, List, [], ◌∷◌, ◌++◌, Option, Some, None, length}
use Rattle.std.proofs.Common.{map, take, take_all, slice_index_or, refl, sym, ap, ◌∙◌, subst, arith}
use Rattle.std.specs.Prelude.{find, option_map}
use Rattle.std.specs.List.{cons_option, filter_map, flat_map}
use Rattle.std.specs.Option.{option_or}
use Rattle.std.proofs.lemmas.List.Folds.{find-append}
use Rattle.std.proofs.lemmas.Option.{none-some}
use Rattle.grammar_tree.specs.Faults.{NameUse}
use Rattle.grammar_tree.specs.Kinds.{as_name}
use Rattle.grammar_tree.specs.View.{token_ref}
use Rattle.grammar_tree.specs.declared.parser_term.TokenRef.{TokenRef}

module _ {X Y : Type 0} (p : Y → Bool) (U : X → List Y) where
  first_none : (x : X) (xs : List X) → find p (U x) ≡ None → find p (flat_map U (x ∷ xs)) ≡ find p (flat_map U xs)
  first_none x xs e = find-append p (U x) (flat_map U xs) ∙ ap (λ o. option_or o (find p (flat_map U xs))) e

  first_some : (x : X) (xs : List X) (y : Y) → find p (U x) ≡ Some y → find p (flat_map U (x ∷ xs)) ≡ Some y
  first_some x xs y e = find-append p (U x) (flat_map U xs) ∙ ap (λ o. option_or o (find p (flat_map U xs))) e

  -- nothing in the first part of what is joined
  no_first : (x : X) (xs : List X) → find p (flat_map U (x ∷ xs)) ≡ None → find p (U x) ≡ None
  no_first x xs e = by (find p (U x)) refl
    where
      by : (o : Option Y) → find p (U x) ≡ o → find p (U x) ≡ None
      by None h = h
      by (Some y) h = absurd (none-some y (sym e ∙ first_some x xs y h))

  pub found_at : (xs : List X) (i : ℕ) (x : X) (y : Y) → find p (flat_map U (take i xs)) ≡ None → i < length xs → x ≡ slice_index_or xs i x
      → find p (U x) ≡ Some y → find p (flat_map U xs) ≡ Some y
  found_at [] i x y none lt is h = absurd (omega (arith, lt))
  found_at (z ∷ xs) zero x y none lt is h = let P : X → Type 0 = λ v. find p (U v) ≡ Some y in first_some z xs y (subst P is h)
  found_at (z ∷ xs) (suc i) x y none lt is h =
      let here = no_first z (take i xs) none in
      first_none z xs here ∙ found_at xs i x y (sym (first_none z (take i xs) here) ∙ none) (omega arith) is h

  pub none_more : (xs : List X) (i : ℕ) (x : X) → find p (flat_map U (take i xs)) ≡ None → i < length xs → x ≡ slice_index_or xs i x → find p (U x) ≡ None
      → find p (flat_map U (take (i + 1) xs)) ≡ None
  none_more xs i x none lt is h = let P : ℕ → Type 0 = λ n. find p (flat_map U (take n xs)) ≡ None in let next : suc i ≡ i + 1 =
      omega arith in subst P next (more xs i none lt is)
    where
      more : (ys : List X) (k : ℕ) → find p (flat_map U (take k ys)) ≡ None → k < length ys → x ≡ slice_index_or ys k x
          → find p (flat_map U (take (suc k) ys)) ≡ None
      more [] k none lt is = absurd (omega (arith, lt))
      more (z ∷ ys) zero none lt is = let P : X → Type 0 = λ v. find p (U v) ≡ None in first_none z [] (subst P is h)
      more (z ∷ ys) (suc k) none lt is =
          let here = no_first z (take k ys) none in
          first_none z (take (suc k) ys) here ∙ more ys k (sym (first_none z (take k ys) here) ∙ none) (omega arith) is

  -- the first one
  pub first_found : {Z : Type 0} (g : Y → Z) (xs : List X) (i : ℕ) (x : X) (z : Z) → find p (flat_map U (take i xs)) ≡ None → i < length xs
      → x ≡ slice_index_or xs i x → Some z ≡ option_map g (find p (U x)) → Some z ≡ option_map g (find p (flat_map U xs))
  first_found {Z = Z} g xs i x z none lt is h = by (find p (U x)) refl
    where
      by : (o : Option Y) → find p (U x) ≡ o → Some z ≡ option_map g (find p (flat_map U xs))
      by None e = absurd (none-some z (sym (h ∙ ap (option_map g) e)))
      by (Some y) e = h ∙ ap (option_map g) (e ∙ sym (found_at xs i x y none lt is e))

  pub none_found : {Z : Type 0} (g : Y → Z) (xs : List X) (i : ℕ) → find p (flat_map U (take i xs)) ≡ None → length xs ≤ i
      → None ≡ option_map g (find p (flat_map U xs))
  none_found g xs i none le = sym (ap (option_map g) (ap (λ l. find p (flat_map U l)) (sym (take_all i xs le)) ∙ none))

  pub none_of : {Z : Type 0} (g : Y → Z) (x : X) → None ≡ option_map g (find p (U x)) → find p (U x) ≡ None
  none_of {Z = Z} g x h = by (find p (U x)) refl
    where
      by : (o : Option Y) → find p (U x) ≡ o → find p (U x) ≡ None
      by None e = e
      by (Some y) e = absurd (none-some (g y) (h ∙ ap (option_map g) e))

abbrev pub reference_use : TokenRef → List NameUse
reference_use r = map NameUse.by_parser_rule (filter_map as_name (token_ref r ∷ []))

abbrev pub lexer_use : List ℕ → List NameUse
lexer_use n = NameUse.by_lexer_rule n ∷ []

use_cons : (o : Option (List ℕ)) (ns : List (List ℕ))
    → map NameUse.by_parser_rule (cons_option o ns) ≡ map NameUse.by_parser_rule (cons_option o []) ++ map NameUse.by_parser_rule ns
use_cons None ns = refl
use_cons (Some n) ns = refl

pub references_flat : (refs : List TokenRef) → map NameUse.by_parser_rule (filter_map as_name (map token_ref refs)) ≡ flat_map reference_use refs
references_flat [] = refl
references_flat (r ∷ refs) = use_cons (as_name (token_ref r)) (filter_map as_name (map token_ref refs)) ∙ ap (λ l. reference_use r ++ l) (references_flat refs)

pub names_flat : (ns : List (List ℕ)) → map NameUse.by_lexer_rule ns ≡ flat_map lexer_use ns
names_flat [] = refl
names_flat (n ∷ ns) = ap (λ l. NameUse.by_lexer_rule n ∷ l) (names_flat ns)
