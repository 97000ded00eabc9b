-- What a word that options may have looks like.
use Rattle.std.proofs.Common.{◌≡◌, ◌∙◌, ℕ, ◌==◌, Bool, true, false, not, ◌&&◌, List, [], ◌∷◌, Option, Some, None, refl}
use Rattle.std.proofs.Common.{sym, ap, bytes_eq, if◌then◌else◌, true≢false, option_and_then}
use Rattle.clap.specs.Walk.{Text}
use Rattle.clap.specs.Lexer.{long_of, long_of_rest, short_of, short_of_rest, strip_byte}
use Rattle.command_words.specs.Options.{OptionWord, is_value, name_and_value, option_word}
use Rattle.command_words.specs.inner.Read.{is_part_of, is_well_formed}

-- two hyphens
abbrev pub dashes : Text
dashes = 45 ∷ 45 ∷ []

-- the word is an option's, with its value or without; or it is a value
pub data Shape (word : Text) : Type 0 where
  is_option : (name : Text) (value : Option Text) → option_word word ≡ Some (record { name = name; value = value }) → long_of word ≡ Some (name, value)
      → bytes_eq word dashes ≡ false
      → is_value word ≡ false → ((v : Text) → value ≡ Some v → is_value v ≡ true) → Shape word
  is_plain : option_word word ≡ None → is_value word ≡ true → long_of word ≡ None → short_of word ≡ None → bytes_eq word dashes ≡ false → Shape word

-- a word that doesn't begin with a hyphen
plain_word : (byte : ℕ) (bytes : List ℕ) → (byte == 45) ≡ false → option_word (byte ∷ bytes) ≡ None → Shape (byte ∷ bytes)
plain_word byte bytes is none =
    Shape.is_plain none (ap not is)
    (ap (λ (b : Bool). option_and_then long_of_rest (option_and_then (strip_byte 45) (if b then Some bytes else None))) is)
    (ap (λ (b : Bool). option_and_then short_of_rest (if b then Some bytes else None)) is)
    (before bytes)
  where
    before : (rest : List ℕ) → bytes_eq (byte ∷ rest) dashes ≡ false
    before rest = rw is refl

-- a word after two hyphens
option_shape : (a b x : ℕ) (xs : List ℕ) → (a == 45) ≡ true → (b == 45) ≡ true
    → ((v : Text) → (name_and_value (x ∷ xs)).value ≡ Some v → is_value v ≡ true) → Shape (a ∷ (b ∷ (x ∷ xs)))
option_shape a b x xs a_is b_is good =
    let word = name_and_value (x ∷ xs) in
    Shape.is_option word.name word.value (rw (a_is, b_is) refl) (rw (a_is, b_is) refl) (rw (a_is, b_is) refl) (ap not a_is) good

value_is_good : (word : OptionWord) → is_part_of [] (Some word) ≡ true → (v : Text) → word.value ≡ Some v → is_value v ≡ true
value_is_good word part v is = go word.value is part
  where
    go : (value : Option Text) → value ≡ Some v → is_part_of [] (Some (record { name = word.name; value = value })) ≡ true → is_value v ≡ true
    go None is part = absurd (cc is)
    go (Some w) is part = let same : w ≡ v = cc is in sym (ap is_value same) ∙ part

after_hyphens : (a b : ℕ) (text : List ℕ) → (a == 45) ≡ true → (b == 45) ≡ true → is_part_of (a ∷ (b ∷ text)) (Some (name_and_value text)) ≡ true
    → Shape (a ∷ (b ∷ text))
after_hyphens a b [] a_is b_is part = absurd (true≢false (sym part))
after_hyphens a b (x ∷ xs) a_is b_is part = option_shape a b x xs a_is b_is (value_is_good (name_and_value (x ∷ xs)) part)

pub shape_of : (word : Text) → is_well_formed word ≡ true → Shape word
shape_of [] part = absurd (true≢false (sym part))
shape_of (byte ∷ []) part = go (byte == 45) refl part
  where
    go : (b : Bool) → (byte == 45) ≡ b → not b ≡ true → Shape (byte ∷ [])
    go true is part = absurd (true≢false (sym part))
    go false is part = plain_word byte [] is refl
shape_of (a ∷ (b ∷ text)) part = go (a == 45) refl (b == 45) refl part
  where
    go : (first : Bool) → (a == 45) ≡ first → (second : Bool) → (b == 45) ≡ second
        → is_part_of (a ∷ (b ∷ text)) (if first && second then Some (name_and_value text) else None) ≡ true → Shape (a ∷ (b ∷ text))
    go false a_is second b_is part = plain_word a (b ∷ text) a_is (rw a_is refl)
    go true a_is false b_is part = absurd (true≢false (sym part ∙ ap not a_is))
    go true a_is true b_is part = after_hyphens a b text a_is b_is part
