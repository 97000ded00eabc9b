-- The options in the words of a command, by a table of the options that it has.
use Rattle.std.specs.Prelude.{ℕ, ◌==◌, nat_le, not, ◌&&◌, ◌||◌, Bool, true, false, List, [], ◌∷◌, Option, Some, None}
use Rattle.std.specs.Prelude.{if◌then◌else◌, codes, length, map, filter, find, option_map}
use Rattle.std.specs.List.{after_first, before_first, list_all, list_any}
use Rattle.std.specs.Char.{is_ascii_digit}
use Rattle.std.specs.Str.{bytes_eq}
use Rattle.std.specs.Str.Parse.{digits_value}

-- which values an option takes: none, any text, one of these words, a number from the first to the second, or lines by two such numbers
pub data Values : Type 0 where
  no_value : Values
  any_text : Values
  one_of : List (List ℕ) → Values
  number : ℕ → ℕ → Values
  lines : ℕ → ℕ → Values

-- an option that a command has: its name, without the hyphens; which values it takes; how often it may be there at most; and whether it must be there
pub record OptionRow : Type 0 where
  pub name : List ℕ
  pub values : Values
  pub most : ℕ
  pub is_required : Bool

-- an option that is there: its name, and its value, which is the text `true` for an option without one
pub record Use : Type 0 where
  pub name : List ℕ
  pub value : List ℕ

-- a value isn't empty and doesn't begin with `-` (45)
abbrev pub is_value : List ℕ → Bool
is_value [] = false
is_value (byte ∷ bytes) = not (byte == 45)

-- a word `--name` or `--name=value`: the name, and the value where there is one
pub record OptionWord : Type 0 where
  pub name : List ℕ
  pub value : Option (List ℕ)

-- the byte is `=`
abbrev pub is_equals : ℕ → Bool
is_equals byte = byte == 61

-- what is after the two hyphens: the name ends at the first `=`
abbrev pub name_and_value : List ℕ → OptionWord
name_and_value text = record { name = before_first is_equals text; value = if list_any is_equals text then Some (after_first is_equals text) else None }

abbrev pub option_word : List ℕ → Option OptionWord
option_word [] = None
option_word (byte ∷ []) = None
option_word (first ∷ (second ∷ text)) = if first == 45 && second == 45 then Some (name_and_value text) else None

abbrev pub has_value : Values → Bool
has_value Values.no_value = false
has_value _ = true

-- what a word comes to where an option may be: nothing that the table has, an option, or an option whose value is the next word
pub data WordKind : Type 0 where
  unknown : WordKind
  whole : Use → WordKind
  begun : List ℕ → WordKind

-- an option of the table, with the value in its word
abbrev pub kind_of_option : Bool → List ℕ → Option (List ℕ) → WordKind
kind_of_option false name None = WordKind.whole (record { name = name; value = codes "true" })
kind_of_option false name (Some value) = WordKind.unknown
kind_of_option true name None = WordKind.begun name
kind_of_option true name (Some value) = if is_value value then WordKind.whole (record { name = name; value = value }) else WordKind.unknown

abbrev pub kind_by_row : Option OptionRow → Option (List ℕ) → WordKind
kind_by_row None value = WordKind.unknown
kind_by_row (Some row) value = kind_of_option (has_value row.values) row.name value

abbrev pub row_of : List OptionRow → List ℕ → Option OptionRow
row_of table name = find (λ row. bytes_eq row.name name) table

abbrev pub kind_of_word : List OptionRow → Option OptionWord → WordKind
kind_of_word table None = WordKind.unknown
kind_of_word table (Some word) = kind_by_row (row_of table word.name) word.value

-- the option before the others
abbrev pub then_uses : Use → Option (List Use) → Option (List Use)
then_uses one rest = option_map (λ uses. one ∷ uses) rest

-- the options in the words after this one, which is an option or begins one; `after` gives
-- those of the words after it, where an option waits for its value or none does
abbrev pub uses_after : WordKind → (Option (List ℕ) → Option (List Use)) → Option (List Use)
uses_after WordKind.unknown after = None
uses_after (WordKind.whole one) after = then_uses one (after None)
uses_after (WordKind.begun name) after = after (Some name)

-- The options in the words, in their order: each is `--name` or `--name=value` or `--name value` with a name of the table. None
-- where the words are anything else. The option of the given name, if any, waits for the first word as its value.
abbrev pub uses_from : List OptionRow → Option (List ℕ) → List (List ℕ) → Option (List Use)
uses_from table None [] = Some []
uses_from table (Some name) [] = None
uses_from table None (word ∷ words) = uses_after (kind_of_word table (option_word word)) (λ waiting. uses_from table waiting words)
uses_from table (Some name) (word ∷ words) = if is_value word then then_uses (record { name = name; value = word }) (uses_from table None words) else None

-- the values that are given for an option, in their order
abbrev pub values_for : List ℕ → List Use → List (List ℕ)
values_for name uses = map (λ one. one.value) (filter (λ one. bytes_eq one.name name) uses)

-- decimal digits without a leading zero, but for `0` (48) itself
abbrev pub is_decimal : List ℕ → Bool
is_decimal [] = false
is_decimal (digit ∷ []) = list_all is_ascii_digit (digit ∷ [])
is_decimal (digit ∷ (next ∷ digits)) = not (digit == 48) && list_all is_ascii_digit (digit ∷ (next ∷ digits))

-- the text is a number from the first to the second
abbrev pub is_number_in : ℕ → ℕ → List ℕ → Bool
is_number_in least most text = is_decimal text && (nat_le least (digits_value 10 text) && nat_le (digits_value 10 text) most)

-- the byte is `-`
abbrev pub is_hyphen : ℕ → Bool
is_hyphen byte = byte == 45

-- the numbers of the first and the last of some lines
pub record LineSpan : Type 0 where
  pub first : ℕ
  pub last : ℕ

-- the lines of a text `first-last`
abbrev pub span_of : List ℕ → LineSpan
span_of text = record { first = digits_value 10 (before_first is_hyphen text); last = digits_value 10 (after_first is_hyphen text) }

-- the text is two numbers in these bounds with a `-` between them, of which the first isn't greater than the second
abbrev pub is_span_in : ℕ → ℕ → List ℕ → Bool
is_span_in least most text =
    is_number_in least most (before_first is_hyphen text)
    && (is_number_in least most (after_first is_hyphen text) && nat_le (span_of text).first (span_of text).last)

abbrev pub takes_value : Values → List ℕ → Bool
takes_value Values.no_value value = true
takes_value Values.any_text value = true
takes_value (Values.one_of words) value = list_any (λ word. bytes_eq word value) words
takes_value (Values.number least most) value = is_number_in least most value
takes_value (Values.lines least most) value = is_span_in least most value

-- the option of this row is there often enough and not too often, and takes each value that is given
abbrev pub fits_row : List Use → OptionRow → Bool
fits_row uses row =
    nat_le (length (values_for row.name uses)) row.most && (not row.is_required || nat_le 1 (length (values_for row.name uses)))
    && list_all (takes_value row.values) (values_for row.name uses)

abbrev pub fits_table : List OptionRow → List Use → Bool
fits_table table uses = list_all (fits_row uses) table

abbrev pub where_fits : List OptionRow → Option (List Use) → Option (List Use)
where_fits table None = None
where_fits table (Some uses) = if fits_table table uses then Some uses else None

-- The options that the words give, where they are options of the table as it says.
abbrev pub options_in : List OptionRow → List (List ℕ) → Option (List Use)
options_in table words = where_fits table (uses_from table None words)
