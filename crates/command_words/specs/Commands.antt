-- Which words are a command line, and what it asks for.
use Rattle.std.specs.Prelude.{ℕ, ◌||◌, ◌&&◌, Bool, false, List, [], ◌∷◌, ◌++◌, Option, Some, None, if◌then◌else◌, codes}
use Rattle.std.specs.Prelude.{is_some, map, option_and_then, option_map, slice_get, unwrap_or}
use Rattle.std.specs.Str.{bytes_eq}
use Rattle.std.specs.Str.Parse.{digits_value}
use Rattle.command_words.specs.Options.{LineSpan, Use, options_in, span_of, values_for}
use Rattle.command_words.specs.Tables.{check_table, normal_table, reduce_table, selftest_table}
use Rattle.reduce_step.specs.declared.mode.TreeMode.{TreeMode}
use Rattle.reduce_step.specs.declared.mode.TreeMode.TheVariants.{Hdd, Perses}

-- a grammar by its path, that of its lexer, where it is in two files, and the name of its start rule, where one is given
pub record GrammarSource : Type 0 where
  pub path : List ℕ
  pub lexer : Option (List ℕ)
  pub start : Option (List ℕ)

-- what is said of a reduction by a grammar: the grammar, how a round goes through a tree, and whether the squeezed text of the whole tree is tried
pub record GrammarOptions : Type 0 where
  pub grammar : GrammarSource
  pub mode : TreeMode
  pub squeeze : Bool

-- which states are tried: lists of lines, or trees of a grammar
pub data ModeOptions : Type 0 where
  lines : ModeOptions
  by_grammar : GrammarOptions → ModeOptions

-- which lines must stay: those of these numbers, those that hold one of the texts, and all but those of `only`
pub record ProtectOptions : Type 0 where
  pub lines : List LineSpan
  pub texts : List (List ℕ)
  pub only : Option LineSpan

-- what a command line of `reduce` gives: the mode; whether what is left is respelled; the paths of the input, the output, the script and
-- the journal; that of the journal that is resumed, where one is; the folder of the candidates; the number of workers; the keep texts;
-- and which lines must stay
pub record ReduceOptions : Type 0 where
  pub mode : ModeOptions
  pub respell : Bool
  pub input : List ℕ
  pub output : List ℕ
  pub script : List ℕ
  pub journal : List ℕ
  pub resume : Option (List ℕ)
  pub work : List ℕ
  pub jobs : ℕ
  pub keeps : List (List ℕ)
  pub protects : ProtectOptions

-- what a command line of `selftest` gives: the number and the size of the program that is made and reduced, and the mode
pub record SelftestOptions : Type 0 where
  pub number : ℕ
  pub size : ℕ
  pub mode : TreeMode

-- what a command line of `check` gives: the mode; the paths of the input, of the file that is taken for
-- the result, and of the run's journal; and the keep texts
pub record CheckOptions : Type 0 where
  pub mode : ModeOptions
  pub input : List ℕ
  pub output : List ℕ
  pub journal : List ℕ
  pub keeps : List (List ℕ)

-- what a command line asks for: a file is reduced, the normal form of a grammar is printed, a generated
-- program is reduced in memory, or a finished run is checked from its files
pub data Command : Type 0 where
  reduce : ReduceOptions → Command
  normal : GrammarSource → Command
  selftest : SelftestOptions → Command
  check : CheckOptions → Command

-- the first value that is given for an option
abbrev pub value_of : List ℕ → List Use → Option (List ℕ)
value_of name uses = slice_get (values_for name uses) 0

-- that value, or this one where none is given
abbrev pub value_or : List ℕ → List ℕ → List Use → List ℕ
value_or other name uses = unwrap_or (value_of name uses) other

-- the value of an option that must be there
abbrev pub text_of : List ℕ → List Use → List ℕ
text_of = value_or []

-- that value as a number
abbrev pub number_of : List ℕ → List Use → ℕ
number_of name uses = digits_value 10 (text_of name uses)

abbrev pub is_given : List ℕ → List Use → Bool
is_given name uses = is_some (value_of name uses)

-- the mode of this name
abbrev pub tree_mode_named : List ℕ → TreeMode
tree_mode_named name = if bytes_eq name (codes "hdd") then Hdd else Perses

-- the mode of `--mode` by a grammar, which is `perses` where none is given
abbrev pub tree_mode_of : List Use → TreeMode
tree_mode_of uses = tree_mode_named (value_or (codes "perses") (codes "mode") uses)

-- a file of a grammar is named
abbrev pub names_grammar : List Use → Bool
names_grammar uses = is_given (codes "grammar") uses || is_given (codes "lexer") uses

-- something is said of a grammar
abbrev pub says_grammar : List Use → Bool
says_grammar uses = names_grammar uses || (is_given (codes "start") uses || is_given (codes "squeeze") uses)

-- with `--mode lines` nothing is said of a grammar
abbrev pub lines_options : List Use → Option ModeOptions
lines_options uses = if says_grammar uses then None else Some ModeOptions.lines

-- the grammar of `--grammar`, `--lexer` and `--start`, where one is given
abbrev pub named_grammar : List Use → Option GrammarSource
named_grammar uses =
    option_map (λ path. record { path = path; lexer = value_of (codes "lexer") uses; start = value_of (codes "start") uses }) (value_of (codes "grammar") uses)

-- with another mode there is a grammar
abbrev pub trees_options : TreeMode → List Use → Option ModeOptions
trees_options mode uses =
    option_map (λ grammar. ModeOptions.by_grammar (record { grammar = grammar; mode = mode; squeeze = is_given (codes "squeeze") uses })) (named_grammar uses)

abbrev pub mode_options : List Use → Option ModeOptions
mode_options uses = if bytes_eq (text_of (codes "mode") uses) (codes "lines") then lines_options uses else trees_options (tree_mode_of uses) uses

-- what `--protect`, `--protect-text` and `--only` say
abbrev pub protects_in : List Use → ProtectOptions
protects_in uses = record {
  lines = map span_of (values_for (codes "protect") uses);
  texts = values_for (codes "protect-text") uses;
  only = option_map span_of (value_of (codes "only") uses);
}

-- a reduction in this mode; the journal has the output's name followed by `.journal` where none is given
abbrev pub reduction_in : List Use → ModeOptions → ReduceOptions
reduction_in uses mode = record {
  mode = mode;
  respell = is_given (codes "respell") uses;
  input = text_of (codes "input") uses;
  output = text_of (codes "output") uses;
  script = text_of (codes "script") uses;
  journal = value_or (text_of (codes "output") uses ++ codes ".journal") (codes "journal") uses;
  resume = value_of (codes "resume") uses;
  work = value_or (codes "perses-work") (codes "work") uses;
  jobs = digits_value 10 (value_or (codes "1") (codes "jobs") uses);
  keeps = values_for (codes "keep") uses;
  protects = protects_in uses;
}

-- it is said which lines must stay
abbrev pub says_protects : List Use → Bool
says_protects uses = is_given (codes "protect") uses || (is_given (codes "protect-text") uses || is_given (codes "only") uses)

-- whether what is left is respelled: `--respell` goes neither with `--mode lines` nor with lines that must stay
abbrev pub fitting_respell : List Use → Option Bool
fitting_respell uses =
    if is_given (codes "respell") uses && (bytes_eq (text_of (codes "mode") uses) (codes "lines") || says_protects uses)
    then None
    else Some (is_given (codes "respell") uses)

abbrev pub reduce_of : List Use → Option ReduceOptions
reduce_of uses = option_and_then (λ respell. option_map (reduction_in uses) (mode_options uses)) (fitting_respell uses)

abbrev pub selftest_of : List Use → SelftestOptions
selftest_of uses = record { number = number_of (codes "number") uses; size = number_of (codes "size") uses; mode = tree_mode_of uses }

-- a check of a run in this mode
abbrev pub check_in : List Use → ModeOptions → CheckOptions
check_in uses mode = record {
  mode = mode;
  input = text_of (codes "input") uses;
  output = text_of (codes "output") uses;
  journal = text_of (codes "journal") uses;
  keeps = values_for (codes "keep") uses;
}

abbrev pub check_of : List Use → Option CheckOptions
check_of uses = option_map (check_in uses) (mode_options uses)

-- what the words after `reduce`, after `normal`, after `selftest` and after `check` ask for
abbrev pub reduce_line : List (List ℕ) → Option ReduceOptions
reduce_line words = option_and_then reduce_of (options_in reduce_table words)

abbrev pub normal_line : List (List ℕ) → Option GrammarSource
normal_line words = option_and_then named_grammar (options_in normal_table words)

abbrev pub selftest_line : List (List ℕ) → Option SelftestOptions
selftest_line words = option_map selftest_of (options_in selftest_table words)

abbrev pub check_line : List (List ℕ) → Option CheckOptions
check_line words = option_and_then check_of (options_in check_table words)

-- the name is that of a command
abbrev pub is_command : List ℕ → Bool
is_command name =
    bytes_eq name (codes "reduce") || (bytes_eq name (codes "normal") || (bytes_eq name (codes "selftest") || bytes_eq name (codes "check")))

-- the words after the name of a command
abbrev pub command_of : List ℕ → List (List ℕ) → Option Command
command_of name words =
    if bytes_eq name (codes "reduce") then option_map Command.reduce (reduce_line words)
    else (if bytes_eq name (codes "normal") then option_map Command.normal (normal_line words)
    else (if bytes_eq name (codes "selftest") then option_map Command.selftest (selftest_line words)
    else (if bytes_eq name (codes "check") then option_map Command.check (check_line words) else None)))

-- What the words ask for, where they are a command line: the program's name, which isn't looked at, the name of a command, and its options.
abbrev pub command_line_of : List (List ℕ) → Option Command
command_line_of [] = None
command_line_of (program ∷ []) = None
command_line_of (program ∷ (name ∷ words)) = command_of name words

-- the second of the words is the name of a command
abbrev pub names_command : List (List ℕ) → Bool
names_command [] = false
names_command (program ∷ []) = false
names_command (program ∷ (name ∷ words)) = is_command name
