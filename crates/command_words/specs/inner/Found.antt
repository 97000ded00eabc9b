-- What the options that were found give, before a command is made of them.
use Rattle.std.specs.Prelude.{◌≡◌, ℕ, ◌∷◌, ◌&&◌, Bool, List, Option, Some, None, if◌then◌else◌, codes, length, map, nat_le, option_map}
use Rattle.std.specs.List.{list_all}
use Rattle.std.specs.Str.Parse.{digits_value}
use Rattle.clap.specs.Words.{found_of}
use Rattle.clap.specs.declared.parser.matches.ArgMatches.{ArgMatches}
use Rattle.command_words.specs.Options.{LineSpan, OptionRow, Use, Values, row_of, span_of, takes_value, values_for}
use Rattle.command_words.specs.Tables.{any_lines, optional, tree_modes}
use Rattle.command_words.specs.Commands.{CheckOptions, ModeOptions, ProtectOptions, ReduceOptions, check_in, fitting_respell, is_given, mode_options}
use Rattle.command_words.specs.Commands.{number_of, reduction_in, value_of, value_or}
use Rattle.command_words.specs.inner.Read.{HasUses, IsOnce, NamesValue}

-- the matches have these uses of options of the table
pub record HasFound (table : List OptionRow) (uses : List Use) (matches : ArgMatches) : Type 0 where
  pub once : IsOnce table uses
  pub has : HasUses table uses (found_of matches)

-- the table has the options that say which states are tried
pub record HasModeOptions (table : List OptionRow) : Type 0 where
  pub grammar : NamesValue table (codes "grammar")
  pub lexer : NamesValue table (codes "lexer")
  pub start : NamesValue table (codes "start")
  pub mode : row_of table (codes "mode") ≡ Some (optional (codes "mode") (Values.one_of (codes "lines" ∷ tree_modes)))
  pub squeeze : row_of table (codes "squeeze") ≡ Some (optional (codes "squeeze") Values.no_value)

-- each value that is given for the option is one that it takes
abbrev pub values_fit : Values → List ℕ → List Use → Bool
values_fit values name uses = list_all (takes_value values) (values_for name uses)

-- the input, the output and the file of this option are named
abbrev pub names_files : List ℕ → List Use → Bool
names_files third uses = is_given (codes "input") uses && (is_given (codes "output") uses && is_given third uses)

-- the mode, where it is one
abbrev pub fitting_mode : List Use → Option ModeOptions
fitting_mode uses = if values_fit (Values.one_of (codes "lines" ∷ tree_modes)) (codes "mode") uses then mode_options uses else None

-- the number of workers, where it is one
abbrev pub fitting_jobs : List Use → Option ℕ
fitting_jobs uses = if values_fit (Values.number 1 16) (codes "jobs") uses then Some (digits_value 10 (value_or (codes "1") (codes "jobs") uses)) else None

-- the texts of an option, where there are not too many
abbrev pub fitting_texts : List ℕ → List Use → Option (List (List ℕ))
fitting_texts name uses = if nat_le (length (values_for name uses)) 8 then Some (values_for name uses) else None

-- the keep texts, where there are not too many
abbrev pub fitting_keeps : List Use → Option (List (List ℕ))
fitting_keeps uses = fitting_texts (codes "keep") uses

-- each of the values is lines, and which
abbrev pub spans_in : List (List ℕ) → Option (List LineSpan)
spans_in values = if list_all (takes_value any_lines) values then Some (map span_of values) else None

-- the lines of `--protect`, where there are not too many
abbrev pub fitting_spans : List Use → Option (List LineSpan)
fitting_spans uses = if nat_le (length (values_for (codes "protect") uses)) 8 then spans_in (values_for (codes "protect") uses) else None

-- the lines of `--only`, where they are such
abbrev pub fitting_only : List Use → Option (Option LineSpan)
fitting_only uses = if values_fit any_lines (codes "only") uses then Some (option_map span_of (value_of (codes "only") uses)) else None

-- which lines must stay, of these parts, where each is there
abbrev pub protects_of_parts : Option (List LineSpan) → Option (List (List ℕ)) → Option (Option LineSpan) → Option ProtectOptions
protects_of_parts None texts only = None
protects_of_parts (Some lines) None only = None
protects_of_parts (Some lines) (Some texts) None = None
protects_of_parts (Some lines) (Some texts) (Some only) = Some (record { lines = lines; texts = texts; only = only })

abbrev pub fitting_protects : List Use → Option ProtectOptions
fitting_protects uses = protects_of_parts (fitting_spans uses) (fitting_texts (codes "protect-text") uses) (fitting_only uses)

-- the line of these parts, where each is there
abbrev pub line_of_parts : List Use → Option ModeOptions → Option ℕ → Option (List (List ℕ)) → Option ProtectOptions → Option ReduceOptions
line_of_parts uses None jobs keeps protects = None
line_of_parts uses (Some mode) None keeps protects = None
line_of_parts uses (Some mode) (Some jobs) None protects = None
line_of_parts uses (Some mode) (Some jobs) (Some keeps) None = None
line_of_parts uses (Some mode) (Some jobs) (Some keeps) (Some protects) =
    Some (record (reduction_in uses mode) { jobs = jobs; keeps = keeps; protects = protects })

-- the line of these parts, where `--respell` fits
abbrev pub line_if : Option Bool → Option ReduceOptions → Option ReduceOptions
line_if None line = None
line_if (Some respell) line = line

-- The line of these keep texts and these lines that must stay, where its files are named, its mode and its number of workers are such, and `--respell` goes
-- with the other options.
abbrev pub line_with : List Use → Option (List (List ℕ)) → Option ProtectOptions → Option ReduceOptions
line_with uses keeps protects =
    if names_files (codes "script") uses
    then line_if (fitting_respell uses) (line_of_parts uses (fitting_mode uses) (fitting_jobs uses) keeps protects)
    else None

-- the check of these parts, where each is there
abbrev pub check_of_parts : List Use → Option ModeOptions → Option (List (List ℕ)) → Option CheckOptions
check_of_parts uses None keeps = None
check_of_parts uses (Some mode) None = None
check_of_parts uses (Some mode) (Some keeps) = Some (record (check_in uses mode) { keeps = keeps })

-- the check with these keep texts, where the files of the run are named and its mode is such
abbrev pub check_with : List Use → Option (List (List ℕ)) → Option CheckOptions
check_with uses keeps = if names_files (codes "journal") uses then check_of_parts uses (fitting_mode uses) keeps else None

-- the number that is given for the option, where there is one in these bounds
abbrev pub fitting_number : ℕ → ℕ → List ℕ → List Use → Option ℕ
fitting_number least most name uses = if is_given name uses && values_fit (Values.number least most) name uses then Some (number_of name uses) else None
