-- What is found in the words of a command before its options' values are looked at.
use Rattle.std.specs.Prelude.{◌≡◌, ℕ, ◌==◌, ◌≤◌, Bool, true, false, List, [], ◌∷◌, Option, Some, None, codes, length, nat_lt, option_map, slice_get}
use Rattle.clap.specs.Words.{Rule, first_value, found_of, matched_of, new_rule, one_text, raw_values}
use Rattle.clap.specs.declared.builder.action.ArgAction.{ArgAction}
use Rattle.clap.specs.declared.builder.action.ArgAction.TheVariants.{Append, Set, SetTrue}
use Rattle.clap.specs.declared.parser.matches.ArgMatches.{ArgMatches}
use Rattle.clap.specs.declared.parser.matches.Found.{Found}
use Rattle.command_words.specs.Options.{OptionRow, OptionWord, Use, has_value, is_value, option_word, row_of, uses_from, values_for}
use Rattle.command_words.specs.declared.options.Takes.{Takes}
use Rattle.command_words.specs.declared.options.Takes.TheVariants.{Nothing, Several, Value}
use Rattle.command_words.specs.declared.options.ClapOption.{ClapOption}

-- an option by its name, how often it may be there, and whether it has a value
pub record PlainRow : Type 0 where
  pub name : List ℕ
  pub takes : Takes

abbrev pub read_row : ClapOption → PlainRow
read_row row = record { name = row.name.now; takes = row.takes }

-- whether a value is taken, and how often the option may be there
abbrev pub takes_of : Bool → Bool → Takes
takes_of false is_single = Nothing
takes_of true true = Value
takes_of true false = Several

abbrev pub table_row : OptionRow → PlainRow
table_row row = record { name = row.name; takes = takes_of (has_value row.values) (row.most == 1) }

abbrev pub action_for : Takes → ArgAction
action_for Value = Set
action_for Several = Append
action_for Nothing = SetTrue

-- the option as `clap` has it
abbrev pub option_rule : PlainRow → Rule
option_rule row = record (new_rule row.name) { long = Some row.name; action = Some (action_for row.takes) }

-- a word that options may have: `--name`, `--name=value` or a value
abbrev pub is_option_part : List ℕ → Option (List ℕ) → Bool
is_option_part name None = nat_lt 0 (length name)
is_option_part name (Some value) = is_value value

abbrev pub is_part_of : List ℕ → Option OptionWord → Bool
is_part_of word None = is_value word
is_part_of word (Some option) = is_option_part option.name option.value

abbrev pub is_well_formed : List ℕ → Bool
is_well_formed word = is_part_of word (option_word word)

-- the option may be there several times
abbrev pub is_several : Takes → Bool
is_several Several = true
is_several _ = false

-- no option is there twice that may be there once
abbrev pub IsOnce : List OptionRow → List Use → Type 0
IsOnce table uses = (row : OptionRow) → row_of table row.name ≡ Some row → is_several (table_row row).takes ≡ false → length (values_for row.name uses) ≤ 1

-- each of the rows is found by its name
abbrev pub AllFound : List OptionRow → List OptionRow → Type 0
AllFound table [] = Unit {0}
AllFound table (row ∷ rows) = (row_of table row.name ≡ Some row) × AllFound table rows

-- no two options have one name, and each has one
abbrev pub IsTable : List OptionRow → Type 0
IsTable table = AllFound table table × (row_of table [] ≡ None)

-- the texts, where there are some
abbrev pub where_some : List (List ℕ) → Option (List (List ℕ))
where_some [] = None
where_some (text ∷ texts) = Some (text ∷ texts)

-- what a flag has, by what is given for it
abbrev pub flag_text : List (List ℕ) → List ℕ
flag_text [] = codes "false"
flag_text (text ∷ texts) = codes "true"

-- the option of this name has a value
abbrev pub NamesValue : List OptionRow → List ℕ → Type 0
NamesValue table name = (row : OptionRow) → row_of table name ≡ Some row → has_value row.values ≡ true

-- the matches have these uses
pub record HasUses (table : List OptionRow) (uses : List Use) (found : Found) : Type 0 where
  pub values : (name : List ℕ) → NamesValue table name → option_map raw_values (matched_of found name) ≡ where_some (values_for name uses)
  pub first : (name : List ℕ) → NamesValue table name → first_value found name ≡ slice_get (values_for name uses) 0
  pub flags : (row : OptionRow) → row_of table row.name ≡ Some row → has_value row.values ≡ false
      → one_text found row.name ≡ Some (flag_text (values_for row.name uses))

-- the words are options of the table, none of them twice that may be there once, and the matches have them
pub record HasRead (table : List OptionRow) (words : List (List ℕ)) (found : Found) : Type 0 where
  pub uses : List Use
  pub are : uses_from table None words ≡ Some uses
  pub once : IsOnce table uses
  pub has : HasUses table uses found

-- what is answered to the words
abbrev pub IsAnswered : List OptionRow → List (List ℕ) → Option ArgMatches → Type 0
IsAnswered table words None = (uses : List Use) → uses_from table None words ≡ Some uses → IsOnce table uses → ⊥
IsAnswered table words (Some matches) = HasRead table words (found_of matches)
