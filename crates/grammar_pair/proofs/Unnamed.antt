-- The first literal that names no lexer rule.
use Rattle.std.proofs.Common.{◌≡◌, ◌≤◌, ◌-◌, ℕ, Bool, true, false, cond, List, [], ◌∷◌, Option, Some, None, length, map, take, drop, get_or, refl, ap, sym, ◌∙◌}
use Rattle.std.specs.Prelude.{find, is_none, position}
use Rattle.std.specs.List.{cons_option, filter_map}
use Rattle.grammar_tree.specs.Kinds.{all_references, as_literal, is_named_by}
use Rattle.grammar_tree.specs.View.{token_ref}
use Rattle.grammar_tree.specs.Written.{Reference, WrittenRule}
use Rattle.grammar_tree.specs.declared.parser_term.TokenRef.{TokenRef}
use Rattle.grammar_pair.specs.Joined.{first_implicit, literals}
use Rattle.grammar_pair.specs.inner.Read.{unnamed_by}
use Rattle.grammar_pair.proofs.Loops.{next_item}
use Rattle.grammar_pair.proofs.Rules.{position_cons, shifted}

none_shifted : (o : Option ℕ) → is_none (shifted o) ≡ is_none o
none_shifted None = refl
none_shifted (Some k) = refl

-- what has no place isn't found
none_same : {X : Type 0} (p : X → Bool) (xs : List X) → is_none (position p xs) ≡ is_none (find p xs)
none_same p [] = refl
none_same p (x ∷ xs) = ap is_none (position_cons p x xs) ∙ either x xs (p x) (position p xs) (find p xs) (none_same p xs) where
  either : {X : Type 0} (x : X) (xs : List X) (b : Bool) (o : Option ℕ) (found : Option X) → is_none o ≡ is_none found
      → is_none (cond b (Some 0) (shifted o)) ≡ is_none (cond b (Some x) found)
  either x xs true o found h = refl
  either x xs false o found h = none_shifted o ∙ h

find_same : {X : Type 0} (p q : X → Bool) → ((x : X) → p x ≡ q x) → (xs : List X) → find p xs ≡ find q xs
find_same p q h [] = refl
find_same p q h (x ∷ xs) = ap (λ b. cond b (Some x) (find p xs)) (h x) ∙ ap (λ o. cond (q x) (Some x) o) (find_same p q h xs)

pub is_first_implicit : (rules : List WrittenRule) (references : List Reference) → references ≡ all_references rules →
    find (λ t. is_none (position (is_named_by t) rules)) (filter_map as_literal references) ≡ first_implicit rules
is_first_implicit rules references e =
    ap (λ rs. find (λ t. is_none (position (is_named_by t) rules)) (filter_map as_literal rs)) e
    ∙ find_same (λ t. is_none (position (is_named_by t) rules)) (λ t. is_none (find (is_named_by t) rules)) (λ t. none_same (is_named_by t) rules)
    (literals rules)

-- The first reference, and the ones after it.
module _ (f : List ℕ → Option ℕ) where
  abbrev first_of : List (List ℕ) → Option (List ℕ)
  first_of literals = find (λ t. is_none (f t)) literals

  this_one : (b : Bool) (u t : List ℕ) (o : Option (List ℕ)) → Some t ≡ cond b (Some u) None → cond b (Some u) o ≡ Some t
  this_one true u t o e = sym e
  this_one false u t o e = cc e

  a_later_one : (b : Bool) (u : List ℕ) (o : Option (List ℕ)) → None ≡ cond b (Some u) None → o ≡ cond b (Some u) o
  a_later_one true u o e = cc e
  a_later_one false u o e = refl

  of_this : (r : Reference) (ts : List (List ℕ)) (t : List ℕ) → Some t ≡ unnamed_by f r → first_of (cons_option (as_literal r) ts) ≡ Some t
  of_this (Reference.literal u) ts t e = this_one (is_none (f u)) u t (first_of ts) e
  of_this (Reference.name n) ts t e = cc e

  of_later : (r : Reference) (ts : List (List ℕ)) → None ≡ unnamed_by f r → first_of ts ≡ first_of (cons_option (as_literal r) ts)
  of_later (Reference.literal u) ts e = a_later_one (is_none (f u)) u (first_of ts) e
  of_later (Reference.name n) ts e = refl

  module _ (items : List TokenRef) (x : TokenRef) (some : 1 ≤ length items) (is : x ≡ get_or items 0 x) where
    pub found_first : (t : List ℕ) → Some t ≡ unnamed_by f (token_ref x) → first_of (filter_map as_literal (map token_ref items)) ≡ Some t
    found_first t e =
        ap (λ refs. first_of (filter_map as_literal (map token_ref refs))) (next_item items x some is)
        ∙ of_this (token_ref x) (filter_map as_literal (map token_ref (take (length items - 1) (drop 1 items)))) t e

    pub found_later : None ≡ unnamed_by f (token_ref x)
        → first_of (filter_map as_literal (map token_ref (take (length items - 1) (drop 1 items)))) ≡ first_of (filter_map as_literal (map token_ref items))
    found_later e =
        of_later (token_ref x) (filter_map as_literal (map token_ref (take (length items - 1) (drop 1 items)))) e
        ∙ ap (λ refs. first_of (filter_map as_literal (map token_ref refs))) (sym (next_item items x some is))
