-- The name at the end of a path.
use Rattle.std.proofs.Common.{◌≡◌, ◌≢◌, ◌<◌, ℕ, suc, Bool, true, false, cond, List, [], ◌∷◌, ◌++◌, Some, None}
use Rattle.std.proofs.Common.{length, get_or, take, drop, refl, sym, ap, ◌∙◌, arith}
use Rattle.std.proofs.lemmas.Bool.{eqb-true}
use Rattle.std.proofs.lemmas.List.{take-append-drop}
use Rattle.std.proofs.lemmas.Str.Pattern.{NoCharPasses-char, drop_at_char}
use Rattle.std.specs.Prelude.{◌==◌, ◌||◌}
use Rattle.std.specs.Str.Pattern.{RFindsChar}
use Rattle.command_reduce_calls.specs.FileName.{has_slash, file_name_of}

-- none of the bytes is a slash
HasNoSlash : List ℕ → Type 0
HasNoSlash bytes = (k : ℕ) → k < length bytes → get_or bytes k 0 ≢ 47

not_either : (a b : Bool) → (a ≡ true → ⊥) → b ≡ false → (a || b) ≡ false
not_either true b never rest = absurd (never refl)
not_either false b never rest = rest

no_slash : (bytes : List ℕ) → HasNoSlash bytes → has_slash bytes ≡ false
unfolding HasNoSlash
no_slash [] none = refl
no_slash (byte ∷ bytes) none =
    not_either (byte == 47) (has_slash bytes) (λ is. none 0 (omega arith) (eqb-true byte 47 is)) (no_slash bytes (λ k within is. none (suc k) (omega arith) is))

or_true : (a b : Bool) → b ≡ true → (a || b) ≡ true
or_true true b is = refl
or_true false b is = is

slash_within : (front back : List ℕ) → has_slash (front ++ 47 ∷ back) ≡ true
slash_within [] back = refl
slash_within (byte ∷ front) back = or_true (byte == 47) (has_slash (front ++ 47 ∷ back)) (slash_within front back)

name_after : (front back : List ℕ) → HasNoSlash back → file_name_of (front ++ 47 ∷ back) ≡ back
name_after [] back none = rw (no_slash back none) refl
name_after (byte ∷ front) back none = rw (slash_within front back) (name_after front back none)

first_differs : (b : Bool) (x y : List ℕ) → (b ≡ true → ⊥) → cond b y x ≡ x
first_differs true x y never = absurd (never refl)
first_differs false x y never = refl

name_whole : (path : List ℕ) → HasNoSlash path → file_name_of path ≡ path
unfolding HasNoSlash
name_whole [] none = refl
name_whole (byte ∷ path) none =
    rw (no_slash path (λ k within is. none (suc k) (omega arith) is))
    (first_differs (byte == 47) (byte ∷ path) path (λ is. none 0 (omega arith) (eqb-true byte 47 is)))

-- what is split off at the last slash is the name
pub name-split : (path front back : List ℕ) (i j : ℕ) → RFindsChar 47 path (Some (i, j)) → back ≡ drop j path → back ≡ file_name_of path
unfolding HasNoSlash
name-split path front back i j found is =
    let none : HasNoSlash (drop j path) = λ k within. NoCharPasses-char 47 (drop j path) k found.0 (omega arith) within in
    let here : drop i path ≡ 47 ∷ drop j path = drop_at_char 47 path i j found.1 (omega arith) in
    let whole : take i path ++ 47 ∷ drop j path ≡ path = ap (λ rest. take i path ++ rest) (sym here) ∙ take-append-drop i path in
    is ∙ sym (ap file_name_of (sym whole) ∙ name_after (take i path) (drop j path) none)

-- without a slash it is the whole path
pub name-none : (path : List ℕ) → RFindsChar 47 path None → path ≡ file_name_of path
unfolding HasNoSlash
name-none path none = sym (name_whole path (λ k within. NoCharPasses-char 47 path k none (omega arith) within))
