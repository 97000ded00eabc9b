-- What the matches of a command line give for one option, where they have the options that were found.
use Rattle.std.proofs.Common.{◌≡◌, ◌∙◌, ℕ, ◌≤◌, Bool, true, false, ◌&&◌, ◌||◌, List, [], ◌∷◌, length, Option, Some, None, refl, sym, ap}
use Rattle.std.proofs.Common.{ap₂, bytes_eq, codes, cond, is_some, slice_get, option_map, unwrap_or, true≢false}
use Rattle.std.specs.Borrow.{Bor}
use Rattle.clap.specs.Words.{first_value, found_of, matched_of, raw_values}
use Rattle.clap.specs.declared.parser.matches.ArgMatches.{ArgMatches}
use Rattle.clap.specs.declared.parser.matches.MatchedArg.{MatchedArg}
use Rattle.command_words.specs.Options.{OptionRow, Use, Values, takes_value, values_for}
use Rattle.command_words.specs.Tables.{optional, tree_modes}
use Rattle.command_words.specs.Commands.{GrammarSource, ModeOptions, is_given, lines_options, named_grammar, says_grammar}
use Rattle.command_words.specs.Commands.{text_of, tree_mode_named, trees_options, value_of, value_or}
use Rattle.command_words.specs.inner.Found.{HasFound, HasModeOptions, fitting_mode, names_files}
use Rattle.command_words.specs.inner.Read.{flag_text, NamesValue, where_some}
use Rattle.reduce_step.specs.declared.mode.TreeMode.{TreeMode}
use Rattle.command_words.proofs.FoundValues.{given_none, given_some, mode_default, mode_of_lines, mode_of_trees, mode_unknown, named_by}
use Rattle.command_words.proofs.FoundValues.{value_in}

-- ---- the first value

pub first_none : (table : List OptionRow) (uses : List Use) (m : ArgMatches) (name : List ℕ) → HasFound table uses m → NamesValue table name
    → None ≡ first_value (found_of m) name → value_of name uses ≡ None
first_none table uses m name has takes none = sym (has.has.first name takes) ∙ sym none

pub first_some : (table : List OptionRow) (uses : List Use) (m : ArgMatches) (name text : List ℕ) → HasFound table uses m → NamesValue table name
    → Some text ≡ first_value (found_of m) name → value_of name uses ≡ Some text
first_some table uses m name text has takes some = sym (has.has.first name takes) ∙ sym some

-- that value, or another where there is none
pub first_or : (table : List OptionRow) (uses : List Use) (m : ArgMatches) (name : List ℕ) → HasFound table uses m → NamesValue table name
    → (r : Option (Bor (List ℕ))) (other t : Bor (List ℕ))
    → option_map (λ (s : Bor (List ℕ)). s.now) r ≡ first_value (found_of m) name → t ≡ unwrap_or r other → t.now ≡ value_or other.now name uses
first_or table uses m name has takes None other t none is =
    ap (λ (s : Bor (List ℕ)). s.now) is ∙ sym (ap (λ (o : Option (List ℕ)). unwrap_or o other.now) (first_none table uses m name has takes none))
first_or table uses m name has takes (Some text) other t some is =
    ap (λ (s : Bor (List ℕ)). s.now) is ∙ sym (ap (λ (o : Option (List ℕ)). unwrap_or o other.now) (first_some table uses m name text.now has takes some))

-- ---- whether it is there

some_of_map : {A B : Type 0} (f : A → B) (o : Option A) → is_some {T = A} o ≡ is_some {T = B} (option_map f o)
some_of_map f None = refl
some_of_map f (Some a) = refl

some_given : (values : List (List ℕ)) → is_some {T = List (List ℕ)} (where_some values) ≡ is_some {T = List ℕ} (slice_get values 0)
some_given [] = refl
some_given (v ∷ vs) = refl

pub is_there : (table : List OptionRow) (uses : List Use) (m : ArgMatches) (name : List ℕ) → HasFound table uses m → NamesValue table name
    → is_some {T = MatchedArg} (matched_of (found_of m) name) ≡ is_given name uses
is_there table uses m name has takes =
    some_of_map raw_values (matched_of (found_of m) name) ∙ ap (is_some {T = List (List ℕ)}) (has.has.values name takes) ∙ some_given (values_for name uses)

-- a flag, as `clap` reads its text
pub flag_there : (values : List (List ℕ)) (text : Option (List ℕ)) (r : Bool) → text ≡ Some (flag_text values) → (text ≡ Some (codes "true") → r ≡ true)
    → (text ≡ Some (codes "false") → r ≡ false)
    → r ≡ is_some {T = List ℕ} (slice_get values 0)
flag_there [] text r is reads_true reads_false = reads_false is
flag_there (v ∷ vs) text r is reads_true reads_false = reads_true is

-- ---- files

first_false : (a b c : Bool) → a ≡ false → (a && (b && c)) ≡ false
first_false a b c is = ap (λ (x : Bool). x && (b && c)) is

second_false : (a b c : Bool) → b ≡ false → (a && (b && c)) ≡ false
second_false true b c is = ap (λ (x : Bool). x && c) is
second_false false b c is = refl

third_false : (a b c : Bool) → c ≡ false → (a && (b && c)) ≡ false
third_false true true c is = is
third_false true false c is = refl
third_false false b c is = refl

all_true : (a b c : Bool) → a ≡ true → b ≡ true → c ≡ true → (a && (b && c)) ≡ true
all_true a b c a_is b_is c_is = rw (a_is, b_is, c_is) refl

pub no_input : (third : List ℕ) (uses : List Use) → value_of (codes "input") uses ≡ None → names_files third uses ≡ false
no_input third uses none = first_false _ (is_given (codes "output") uses) (is_given third uses) (given_none (codes "input") uses none)

pub no_output : (third : List ℕ) (uses : List Use) → value_of (codes "output") uses ≡ None → names_files third uses ≡ false
no_output third uses none = second_false (is_given (codes "input") uses) _ (is_given third uses) (given_none (codes "output") uses none)

pub no_third : (third : List ℕ) (uses : List Use) → value_of third uses ≡ None → names_files third uses ≡ false
no_third third uses none = third_false (is_given (codes "input") uses) (is_given (codes "output") uses) _ (given_none third uses none)

pub these_files : (third : List ℕ) (uses : List Use) (input output file : List ℕ) → value_of (codes "input") uses ≡ Some input
    → value_of (codes "output") uses ≡ Some output
    → value_of third uses ≡ Some file
    → (names_files third uses ≡ true) × (input ≡ text_of (codes "input") uses) × (output ≡ text_of (codes "output") uses) × (file ≡ text_of third uses)
these_files third uses input output file input_is output_is file_is =
    let i = given_some (codes "input") input uses input_is in
    let o = given_some (codes "output") output uses output_is in
    let f = given_some third file uses file_is in
    (all_true _ _ _ i.0 o.0 f.0, sym i.1, sym o.1, sym f.1)

-- ---- a grammar

abbrev grammar_with : List ℕ → Option (List ℕ) → Option (List ℕ) → GrammarSource
grammar_with path lexer start = record { path = path; lexer = lexer; start = start }

pub no_grammar : (uses : List Use) → value_of (codes "grammar") uses ≡ None → None ≡ named_grammar uses
no_grammar uses none = sym (ap (option_map (λ (path : List ℕ). grammar_with path (value_of (codes "lexer") uses) (value_of (codes "start") uses))) none)

pub this_grammar : (uses : List Use) (path : List ℕ) (lexer start : Option (List ℕ)) → value_of (codes "grammar") uses ≡ Some path
    → lexer ≡ value_of (codes "lexer") uses
    → start ≡ value_of (codes "start") uses → Some (grammar_with path lexer start) ≡ named_grammar uses
this_grammar uses path lexer start is lexer_is start_is =
    ap₂ (λ (l s : Option (List ℕ)). Some (grammar_with path l s)) lexer_is start_is
    ∙ sym (ap (option_map (λ (p : List ℕ). grammar_with p (value_of (codes "lexer") uses) (value_of (codes "start") uses))) is)

abbrev with_mode : TreeMode → Bool → GrammarSource → ModeOptions
with_mode mode squeeze grammar = ModeOptions.by_grammar (record { grammar = grammar; mode = mode; squeeze = squeeze })

-- a mode of trees, by the grammar that is read and the flag
pub trees_found : (uses : List Use) (mode : TreeMode) (grammar : Option GrammarSource) (squeeze : Bool) → grammar ≡ named_grammar uses
    → squeeze ≡ is_given (codes "squeeze") uses
    → option_map (with_mode mode squeeze) grammar ≡ trees_options mode uses
trees_found uses mode grammar squeeze grammar_is squeeze_is =
    ap (λ (b : Bool). option_map (with_mode mode b) grammar) squeeze_is
    ∙ ap (option_map (with_mode mode (is_given (codes "squeeze") uses))) grammar_is

-- ---- modes, by the text that is given or stands for it

abbrev mode_text : List Use → List ℕ
mode_text = value_or (codes "perses") (codes "mode")

-- the mode is given once at most
pub mode_once : (table : List OptionRow) (uses : List Use) (m : ArgMatches) → HasModeOptions table → HasFound table uses m
    → length (values_for (codes "mode") uses) ≤ 1
mode_once table uses m chooses has = has.once (optional (codes "mode") (Values.one_of (codes "lines" ∷ tree_modes))) chooses.mode refl

pub mode_named : (table : List OptionRow) → HasModeOptions table → NamesValue table (codes "mode")
mode_named table chooses = named_by table (codes "mode") (ap value_in chooses.mode)

pub lines_mode : (uses : List Use) → length (values_for (codes "mode") uses) ≤ 1 → bytes_eq (mode_text uses) (codes "lines") ≡ true
    → lines_options uses ≡ fitting_mode uses
lines_mode uses few is = go (value_of (codes "mode") uses) refl
  where
    go : (o : Option (List ℕ)) → value_of (codes "mode") uses ≡ o → lines_options uses ≡ fitting_mode uses
    go None none =
        let no : false ≡ true = sym (ap (λ (x : Option (List ℕ)). bytes_eq (unwrap_or x (codes "perses")) (codes "lines")) none) ∙ is in
        absurd (true≢false (sym no))
    go (Some text) some =
        mode_of_lines uses text few some (sym (ap (λ (x : Option (List ℕ)). bytes_eq (unwrap_or x (codes "perses")) (codes "lines")) some) ∙ is)

pub no_mode : (uses : List Use) → length (values_for (codes "mode") uses) ≤ 1 → bytes_eq (mode_text uses) (codes "lines") ≡ false
    → takes_value (Values.one_of tree_modes) (mode_text uses) ≡ false → None ≡ fitting_mode uses
no_mode uses few other takes = go (value_of (codes "mode") uses) refl
  where
    go : (o : Option (List ℕ)) → value_of (codes "mode") uses ≡ o → None ≡ fitting_mode uses
    go None none =
        let yes : true ≡ false = sym (ap (λ (x : Option (List ℕ)). takes_value (Values.one_of tree_modes) (unwrap_or x (codes "perses"))) none) ∙ takes in
        absurd (true≢false yes)
    go (Some text) some =
        mode_unknown uses text few some (sym (ap (λ (x : Option (List ℕ)). bytes_eq (unwrap_or x (codes "perses")) (codes "lines")) some) ∙ other)
        (sym (ap (λ (x : Option (List ℕ)). takes_value (Values.one_of tree_modes) (unwrap_or x (codes "perses"))) some) ∙ takes)

pub tree_mode : (uses : List Use) (mode : TreeMode) → length (values_for (codes "mode") uses) ≤ 1 → bytes_eq (mode_text uses) (codes "lines") ≡ false
    → takes_value (Values.one_of tree_modes) (mode_text uses) ≡ true
    → mode ≡ tree_mode_named (mode_text uses) → trees_options mode uses ≡ fitting_mode uses
tree_mode uses mode few other takes named = go (value_of (codes "mode") uses) refl
  where
    go : (o : Option (List ℕ)) → value_of (codes "mode") uses ≡ o → trees_options mode uses ≡ fitting_mode uses
    go None none =
        let same : tree_mode_named (mode_text uses) ≡ tree_mode_named (codes "perses") =
        ap (λ (x : Option (List ℕ)). tree_mode_named (unwrap_or x (codes "perses"))) none in
        ap (λ (m : TreeMode). trees_options m uses) (named ∙ same) ∙ mode_default uses none
    go (Some text) some =
        mode_of_trees uses text mode few some (sym (ap (λ (x : Option (List ℕ)). bytes_eq (unwrap_or x (codes "perses")) (codes "lines")) some) ∙ other)
        (sym (ap (λ (x : Option (List ℕ)). takes_value (Values.one_of tree_modes) (unwrap_or x (codes "perses"))) some) ∙ takes)
        (named ∙ ap (λ (x : Option (List ℕ)). tree_mode_named (unwrap_or x (codes "perses"))) some)

-- with something said of a grammar, the mode isn't `lines`
pub not_lines : (uses : List Use) → says_grammar uses ≡ true → None ≡ lines_options uses
not_lines uses some = sym (ap (λ (b : Bool). cond b None (Some ModeOptions.lines)) some)

pub only_lines : (uses : List Use) → says_grammar uses ≡ false → Some ModeOptions.lines ≡ lines_options uses
only_lines uses none = sym (ap (λ (b : Bool). cond b None (Some ModeOptions.lines)) none)

-- what is said of a grammar, asked for one option after the other
pub any_of_three : (grammar start squeeze first both : Bool) → first ≡ (grammar || start) → both ≡ (first || squeeze) → both ≡ (grammar || (start || squeeze))
any_of_three grammar start squeeze first both first_is both_is = both_is ∙ ap (λ (b : Bool). b || squeeze) first_is ∙ or_moved grammar start squeeze
  where
    or_moved : (a b c : Bool) → ((a || b) || c) ≡ (a || (b || c))
    or_moved true b c = refl
    or_moved false b c = refl
