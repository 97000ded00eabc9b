-- What is given for a flag is the text `true`.
use Rattle.std.proofs.Common.{◌≡◌, ◌∙◌, ℕ, Bool, true, false, cond, List, [], ◌∷◌, map, filter, Option, Some}
use Rattle.std.proofs.Common.{None, refl, sym, ap, subst, bytes_eq, if◌then◌else◌, codes}
use Rattle.std.specs.List.{list_all}
use Rattle.std.proofs.lemmas.Bool.{and_from}
use Rattle.command_words.specs.Options.{OptionRow, OptionWord, Use, WordKind, has_value, is_value, kind_by_row, kind_of_option}
use Rattle.command_words.specs.Options.{kind_of_word, option_word, row_of, then_uses, uses_after, uses_from, values_for}
use Rattle.command_words.proofs.Texts.{both_answers, found_passes, text_same}

-- each value that is given for the flag is that text
abbrev pub all_true : List ℕ → List Use → Bool
all_true name uses = list_all (bytes_eq (codes "true")) (values_for name uses)

one_more : (name : List ℕ) (one : Use) (uses : List Use) → (bytes_eq one.name name ≡ true → bytes_eq (codes "true") one.value ≡ true)
    → all_true name uses ≡ true → all_true name (one ∷ uses) ≡ true
one_more name one uses own rest = go (bytes_eq one.name name) own
  where
    go : (b : Bool) → (b ≡ true → bytes_eq (codes "true") one.value ≡ true)
        → list_all (bytes_eq (codes "true")) (map (λ (x : Use). x.value)
        (cond b (one ∷ filter (λ (x : Use). bytes_eq x.name name) uses) (filter (λ (x : Use). bytes_eq x.name name) uses))) ≡ true
    go true own = and_from _ _ (own refl) rest
    go false own = rest

-- what comes after a use
rest_of : (one : Use) (read : Option (List Use)) (uses : List Use) → then_uses one read ≡ Some uses → (more : List Use) × (read ≡ Some more)
    × (uses ≡ one ∷ more)
rest_of one None uses is = absurd (cc is)
rest_of one (Some more) uses is = (more, refl, cc is)

-- the name of an option with a value is none of a flag
other_name : (table : List OptionRow) (flag row : OptionRow) (name : List ℕ) → row_of table flag.name ≡ Some flag → has_value flag.values ≡ false
    → row_of table name ≡ Some row → has_value row.values ≡ true
    → bytes_eq row.name flag.name ≡ true → ⊥
other_name table flag row name flag_found is_flag found takes same =
    let names : row.name ≡ name = text_same row.name name (found_passes (λ (r : OptionRow). bytes_eq r.name name) table row found) in
    let both : Some row ≡ Some flag = sym found ∙ sym (ap (row_of table) names) ∙ ap (row_of table) (text_same row.name flag.name same) ∙ flag_found in
    let one : row ≡ flag = cc both in
    both_answers (has_value flag.values) (sym (ap (λ (r : OptionRow). has_value r.values) one) ∙ takes) is_flag

-- the option that waits for its value isn't the flag
abbrev pub WaitsForOther : List ℕ → Option (List ℕ) → Type 0
WaitsForOther name None = Unit {0}
WaitsForOther name (Some waiting) = bytes_eq waiting name ≡ true → ⊥

-- what the words after this one give, for each option that may wait
abbrev GivesTrue : List OptionRow → List ℕ → List (List ℕ) → Type 0
GivesTrue table name words =
    (waiting : Option (List ℕ)) (uses : List Use) → WaitsForOther name waiting → uses_from table waiting words ≡ Some uses → all_true name uses ≡ true

added_true : (table : List OptionRow) (name : List ℕ) (words : List (List ℕ)) → GivesTrue table name words → (one : Use) (uses : List Use)
    → (bytes_eq one.name name ≡ true → bytes_eq (codes "true") one.value ≡ true)
    → then_uses one (uses_from table None words) ≡ Some uses → all_true name uses ≡ true
added_true table name words later one uses own is =
    let rest = rest_of one (uses_from table None words) uses is in
    subst (λ (l : List Use). all_true name l ≡ true) (sym rest.2) (one_more name one rest.0 own (later None rest.0 tt rest.1))

met_true : (table : List OptionRow) (flag : OptionRow) → row_of table flag.name ≡ Some flag → has_value flag.values ≡ false → (words : List (List ℕ))
    → GivesTrue table flag.name words
    → (row : OptionRow) (name : List ℕ) → row_of table name ≡ Some row → (takes : Bool) → has_value row.values ≡ takes
    → (value : Option (List ℕ)) (uses : List Use)
    → uses_after (kind_of_option takes row.name value) (λ waiting. uses_from table waiting words) ≡ Some uses → all_true flag.name uses ≡ true
met_true table flag flag_found is_flag words later row name found false takes None uses is =
    added_true table flag.name words later (record { name = row.name; value = codes "true" }) uses (λ same. refl) is
met_true table flag flag_found is_flag words later row name found false takes (Some v) uses is = absurd (cc is)
met_true table flag flag_found is_flag words later row name found true takes None uses is =
    later (Some row.name) uses (other_name table flag row name flag_found is_flag found takes) is
met_true table flag flag_found is_flag words later row name found true takes (Some v) uses is = go (is_value v) is
  where
    go : (b : Bool) → uses_after (if b then WordKind.whole (record { name = row.name; value = v }) else WordKind.unknown)
        (λ waiting. uses_from table waiting words) ≡ Some uses → all_true flag.name uses ≡ true
    go false is = absurd (cc is)
    go true is =
        added_true table flag.name words later (record { name = row.name; value = v }) uses
        (λ same. absurd (other_name table flag row name flag_found is_flag found takes same)) is

word_true : (table : List OptionRow) (flag : OptionRow) → row_of table flag.name ≡ Some flag → has_value flag.values ≡ false → (words : List (List ℕ))
    → GivesTrue table flag.name words
    → (option : Option OptionWord) (uses : List Use) → uses_after (kind_of_word table option) (λ waiting. uses_from table waiting words) ≡ Some uses
    → all_true flag.name uses ≡ true
word_true table flag flag_found is_flag words later None uses is = absurd (cc is)
word_true table flag flag_found is_flag words later (Some option) uses is = go (row_of table option.name) refl is
  where
    go : (found : Option OptionRow) → row_of table option.name ≡ found
        → uses_after (kind_by_row found option.value) (λ waiting. uses_from table waiting words) ≡ Some uses → all_true flag.name uses ≡ true
    go None found is = absurd (cc is)
    go (Some row) found is = met_true table flag flag_found is_flag words later row option.name found (has_value row.values) refl option.value uses is

pub flags_are_true : (table : List OptionRow) (flag : OptionRow) → row_of table flag.name ≡ Some flag → has_value flag.values ≡ false → (words : List (List ℕ))
    → GivesTrue table flag.name words
flags_are_true table flag flag_found is_flag [] None uses other is = let none : [] ≡ uses =
    cc is in subst (λ (l : List Use). all_true flag.name l ≡ true) none refl
flags_are_true table flag flag_found is_flag [] (Some waiting) uses other is = absurd (cc is)
flags_are_true table flag flag_found is_flag (word ∷ words) None uses other is =
    word_true table flag flag_found is_flag words (flags_are_true table flag flag_found is_flag words) (option_word word) uses is
flags_are_true table flag flag_found is_flag (word ∷ words) (Some waiting) uses other is =
    go (is_value word) is (flags_are_true table flag flag_found is_flag words)
  where
    go : (b : Bool) → (if b then then_uses (record { name = waiting; value = word }) (uses_from table None words) else None) ≡ Some uses
        → GivesTrue table flag.name words → all_true flag.name uses ≡ true
    go false is later = absurd (cc is)
    go true is later = added_true table flag.name words later (record { name = waiting; value = word }) uses (λ same. absurd (other same)) is
