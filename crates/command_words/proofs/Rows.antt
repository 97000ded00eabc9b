-- What is found for an option after a use of it.
use Rattle.std.proofs.Common.{◌≡◌, ◌∙◌, Bool, true, false, cond, ◌||◌, List, [], ◌∷◌, ◌++◌, Option, Some, None, find, refl, sym, ap}
use Rattle.std.proofs.Common.{bytes_eq, option_map, is_some, if◌then◌else◌, map, filter, append-nil, subst, true≢false}
use Rattle.std.proofs.lemmas.List.{map-append}
use Rattle.std.proofs.lemmas.List.Elements.{filter-append}
use Rattle.clap.specs.Walk.{Row, Text, has_row, more_values, stronger, with_values, without}
use Rattle.clap.specs.declared.builder.value_parser.Reading.{Reading}
use Rattle.clap.specs.declared.builder.value_parser.Reading.TheVariants.{AsWritten}
use Rattle.clap.specs.declared.parser.matches.ValueSource.{ValueSource}
use Rattle.command_words.specs.Options.{Use, values_for}
use Rattle.command_words.proofs.Texts.{both_answers, text_equal, text_same}

-- the values that were found, and how they are read
abbrev pub seen : Text → List Row → Option (List Text × Reading)
seen id rows = option_map (λ (r : Row). (r.values, r.reading)) (find (λ (r : Row). bytes_eq r.id id) rows)

abbrev pub with_more : Bool → List Text → Option (List Text × Reading) → Option (List Text × Reading)
with_more true values None = Some (values, AsWritten)
with_more true values (Some p) = Some (p.0 ++ values, p.1)
with_more false values p = p

pub row_is_seen : (id : Text) (rows : List Row) → has_row id rows ≡ is_some {T = List Text × Reading} (seen id rows)
row_is_seen id [] = refl
row_is_seen id (r ∷ rs) = go (bytes_eq r.id id) (row_is_seen id rs)
  where
    go : (b : Bool) → has_row id rs ≡ is_some {T = List Text × Reading} (seen id rs)
        → (b || has_row id rs) ≡ is_some {T = List Text × Reading}
        (option_map (λ (x : Row). (x.values, x.reading)) (cond b (Some r) (find (λ (x : Row). bytes_eq x.id id) rs)))
    go true later = refl
    go false later = later

pub without_none : (id : Text) (rows : List Row) → has_row id rows ≡ false → without id rows ≡ rows
without_none id [] none = refl
without_none id (r ∷ rs) none = go (bytes_eq r.id id) (λ later. without_none id rs later) none
  where
    go : (b : Bool) → (has_row id rs ≡ false → without id rs ≡ rs) → (b || has_row id rs) ≡ false → (if b then [] ++ rs else r ∷ without id rs) ≡ r ∷ rs
    go true later none = absurd (true≢false none)
    go false later none = ap (λ (rest : List Row). r ∷ rest) (later none)

-- a row's values and how they are read
abbrev shown_row : Row → List Text × Reading
shown_row r = (r.values, r.reading)

-- a row of the option has the values more
hit : (b : Bool) (r r' : Row) (values : List Text) (rest : Option Row) → shown_row r' ≡ (r.values ++ values, r.reading)
    → option_map shown_row (cond b (Some r') rest) ≡ with_more b values (option_map shown_row (cond b (Some r) rest))
hit true r r' values rest same = ap (λ (p : List Text × Reading). Some p) same
hit false r r' values rest same = refl

-- a row of another option stays
miss : (b same : Bool) (r : Row) (values : List Text) (rest rest' : Option Row) → (b ≡ true → same ≡ true → ⊥)
    → option_map shown_row rest' ≡ with_more same values (option_map shown_row rest)
    → option_map shown_row (cond b (Some r) rest') ≡ with_more same values (option_map shown_row (cond b (Some r) rest))
miss true true r values rest rest' other later = absurd (other refl refl)
miss true false r values rest rest' other later = refl
miss false same r values rest rest' other later = later

pub seen_after : (id name : Text) (source : ValueSource) (values : List Text) (rows : List Row)
    → seen id (with_values name AsWritten source values rows) ≡ with_more (bytes_eq name id) values (seen id rows)
seen_after id name source values [] = go (bytes_eq name id)
  where
    go : (b : Bool) → option_map shown_row (cond b (Some (record { id = name; values = values; count = None; source = Some source; reading = AsWritten })) None)
        ≡ with_more b values None
    go true = refl
    go false = refl
seen_after id name source values (r ∷ rs) = go (bytes_eq r.id name) refl (seen_after id name source values rs)
  where
    go : (b : Bool) → bytes_eq r.id name ≡ b → seen id (with_values name AsWritten source values rs) ≡ with_more (bytes_eq name id) values (seen id rs)
        → seen id (if b then more_values source values r ++ rs else r ∷ with_values name AsWritten source values rs) ≡ with_more (bytes_eq name id) values
        (seen id (r ∷ rs))
    go true is later =
        let same : bytes_eq r.id id ≡ bytes_eq name id = ap (λ (x : Text). bytes_eq x id) (text_same r.id name is) in
        subst (λ (b : Bool). seen id (more_values source values r ++ rs) ≡ with_more b values (seen id (r ∷ rs))) same
        (hit (bytes_eq r.id id) r (record r { values = r.values ++ values; source = Some (stronger r.source source) }) values
        (find (λ (x : Row). bytes_eq x.id id) rs) refl)
    go false is later =
        miss (bytes_eq r.id id) (bytes_eq name id) r values (find (λ (x : Row). bytes_eq x.id id) rs)
        (find (λ (x : Row). bytes_eq x.id id) (with_values name AsWritten source values rs))
        (λ mine other. both_answers (bytes_eq r.id name) (text_equal r.id name (text_same r.id id mine ∙ sym (text_same name id other))) is) later

-- ---- the values that are given

-- the values of an option, as they are found
abbrev pub shown : List Text → Option (List Text × Reading)
shown [] = None
shown (value ∷ values) = Some (value ∷ values, AsWritten)

-- the value, where the use is of the option
abbrev pub own_value : Bool → Text → List Text
own_value true value = value ∷ []
own_value false value = []

pub given_append : (name : Text) (xs ys : List Use) → values_for name (xs ++ ys) ≡ values_for name xs ++ values_for name ys
given_append name xs ys =
    ap (map (λ (one : Use). one.value)) (filter-append (λ (one : Use). bytes_eq one.name name) xs ys)
    ∙ map-append (λ (one : Use). one.value) (filter (λ (one : Use). bytes_eq one.name name) xs) (filter (λ (one : Use). bytes_eq one.name name) ys)

pub given_one : (name : Text) (one : Use) → values_for name (one ∷ []) ≡ own_value (bytes_eq one.name name) one.value
given_one name one = go (bytes_eq one.name name)
  where
    go : (b : Bool) → map (λ (x : Use). x.value) (cond b (one ∷ []) []) ≡ own_value b one.value
    go true = refl
    go false = refl

pub given_after : (name : Text) (uses : List Use) (one : Use)
    → values_for name (uses ++ one ∷ []) ≡ values_for name uses ++ own_value (bytes_eq one.name name) one.value
given_after name uses one = given_append name uses (one ∷ []) ∙ ap (λ (more : List Text). values_for name uses ++ more) (given_one name one)

more_shown : (b : Bool) (value : Text) (values : List Text) → with_more b (value ∷ []) (shown values) ≡ shown (values ++ own_value b value)
more_shown true value [] = refl
more_shown true value (x ∷ xs) = refl
more_shown false value values = sym (ap shown (append-nil values))

-- the rows have what the uses give
abbrev pub HasRows : List Row → List Use → Type 0
HasRows rows uses = (name : Text) → seen name rows ≡ shown (values_for name uses)

pub rows_after_use : (rows : List Row) (uses : List Use) (one : Use) (source : ValueSource) → HasRows rows uses
    → HasRows (with_values one.name AsWritten source (one.value ∷ []) rows) (uses ++ one ∷ [])
rows_after_use rows uses one source has name =
    seen_after name one.name source (one.value ∷ []) rows
    ∙ ap (with_more (bytes_eq one.name name) (one.value ∷ [])) (has name)
    ∙ more_shown (bytes_eq one.name name) one.value (values_for name uses)
    ∙ sym (ap shown (given_after name uses one))
