-- A command line, put together from what its options give.
use Rattle.std.proofs.Common.{◌≡◌, ◌∙◌, ℕ, ◌-◌, ◌<◌, ◌≤◌, Bool, true, false, ◌&&◌, ◌||◌, List, [], ◌∷◌, ◌++◌, map, length, nat_le, Option, Some}
use Rattle.std.proofs.Common.{None, MatchOption, refl, sym, ap, ap₂, bytes_eq, codes, is_some, slice_get, option_and_then, option_map}
use Rattle.std.proofs.Common.{unwrap_or, if◌then◌else◌, String, arith, drop, get_or, string_bytes, take}
use Rattle.std.proofs.lemmas.List.{take_all}
use Rattle.std.proofs.lemmas.Option.{same_Some}
use Rattle.std.specs.List.{list_all}
use Rattle.std.specs.Str.Parse.{digits_value}
use Rattle.clap.specs.declared.parser.matches.ArgMatches.{ArgMatches}
use Rattle.command_words.specs.Options.{OptionRow, Use, Values, fits_table, is_number_in, options_in, span_of, takes_value, uses_from, values_for, where_fits}
use Rattle.command_words.specs.Tables.{any_lines, check_table, normal_table, reduce_table, selftest_table, tree_modes}
use Rattle.command_words.specs.Commands.{CheckOptions, Command, GrammarSource, ModeOptions, ProtectOptions, ReduceOptions, SelftestOptions}
use Rattle.command_words.specs.Commands.{check_in, check_line, check_of, command_line_of, command_of, fitting_respell, is_given}
use Rattle.command_words.specs.Commands.{is_command, mode_options, named_grammar, names_command, normal_line, number_of, reduce_line, reduce_of}
use Rattle.command_words.specs.Commands.{reduction_in, selftest_line}
use Rattle.command_words.specs.Commands.{selftest_of, text_of, tree_mode_named, tree_mode_of, value_of, value_or}
use Rattle.command_words.specs.inner.Found.{HasFound, HasModeOptions, check_of_parts, check_with, fitting_jobs, fitting_keeps, fitting_mode, fitting_number}
use Rattle.command_words.specs.inner.Found.{fitting_protects, line_if, line_of_parts, line_with, names_files, protects_of_parts, values_fit}
use Rattle.command_words.specs.inner.Read.{IsAnswered, IsOnce, IsTable}
use Rattle.reduce_step.specs.declared.mode.TreeMode.{TreeMode}
use Rattle.command_words.proofs.Fits.{check_fits, fits_once, flags_once, normal_fits, reduce_fits, selftest_fits}
use Rattle.command_words.proofs.FoundValues.{named_by, no_values, number_read, one_value}

-- ---- words that aren't answered

pub none_in : (table : List OptionRow) (words : List (List ℕ)) → flags_once table ≡ true → IsAnswered table words None → options_in table words ≡ None
none_in table words flags none = go (uses_from table None words) refl
  where
    fails : (uses : List Use) → uses_from table None words ≡ Some uses → (b : Bool) → fits_table table uses ≡ b → (if b then Some uses else None) ≡ None
    fails uses is false fits = refl
    fails uses is true fits = absurd (none uses is (fits_once table flags uses fits))

    go : (read : Option (List Use)) → uses_from table None words ≡ read → where_fits table read ≡ None
    go None is = refl
    go (Some uses) is = fails uses is (fits_table table uses) refl

pub these_in : (table : List OptionRow) (words : List (List ℕ)) (matches : ArgMatches) (read : IsAnswered table words (Some matches))
    → where_fits table (Some read.uses) ≡ options_in table words
these_in table words matches read = sym (ap (where_fits table) read.are)

pub found_in_words : (table : List OptionRow) (words : List (List ℕ)) (matches : ArgMatches) (read : IsAnswered table words (Some matches))
    → HasFound table read.uses matches
found_in_words table words matches read = record { once = read.once; has = read.has }

-- ---- the tables

pub reduce_is_table : IsTable reduce_table
reduce_is_table =
    ((refl, (refl, (refl, (refl, (refl, (refl, (refl, (refl, (refl, (refl, (refl, (refl, (refl, (refl, (refl, (refl, (refl, tt))))))))))))))))), refl)

pub normal_is_table : IsTable normal_table
normal_is_table = ((refl, (refl, (refl, tt))), refl)

pub selftest_is_table : IsTable selftest_table
selftest_is_table = ((refl, (refl, (refl, tt))), refl)

pub check_is_table : IsTable check_table
check_is_table = ((refl, (refl, (refl, (refl, (refl, (refl, (refl, (refl, (refl, tt))))))))), refl)

pub reduce_chooses : HasModeOptions reduce_table
reduce_chooses = record {
  grammar = named_by reduce_table (codes "grammar") refl;
  lexer = named_by reduce_table (codes "lexer") refl;
  start = named_by reduce_table (codes "start") refl;
  mode = refl;
  squeeze = refl;
}

pub check_chooses : HasModeOptions check_table
check_chooses = record {
  grammar = named_by check_table (codes "grammar") refl;
  lexer = named_by check_table (codes "lexer") refl;
  start = named_by check_table (codes "start") refl;
  mode = refl;
  squeeze = refl;
}

-- ---- a line of `reduce`

abbrev nothing : Option ReduceOptions
nothing = None

either_nothing : (b : Bool) → nothing ≡ (if b then nothing else nothing)
either_nothing true = refl
either_nothing false = refl

-- part by part, or all at once
by_parts : (uses : List Use) (files mode_fits jobs_fit keeps_fit few spans texts only : Bool) (mode : Option ModeOptions)
    → (if files then line_of_parts uses (if mode_fits then mode else None)
    (if jobs_fit then Some (digits_value 10 (value_or (codes "1") (codes "jobs") uses)) else None)
    (if keeps_fit then Some (values_for (codes "keep") uses) else None)
    (protects_of_parts (if few then (if spans then Some (map span_of (values_for (codes "protect") uses)) else None) else None)
    (if texts then Some (values_for (codes "protect-text") uses) else None)
    (if only then Some (option_map span_of (value_of (codes "only") uses)) else None)) else nothing)
    ≡ (if files && (mode_fits && (jobs_fit && (keeps_fit && ((few && spans) && (texts && only))))) then option_map (reduction_in uses) mode else nothing)
by_parts uses false mode_fits jobs_fit keeps_fit few spans texts only mode = refl
by_parts uses true false jobs_fit keeps_fit few spans texts only mode = refl
by_parts uses true true jobs_fit keeps_fit few spans texts only None = either_nothing (jobs_fit && (keeps_fit && ((few && spans) && (texts && only))))
by_parts uses true true false keeps_fit few spans texts only (Some mode) = refl
by_parts uses true true true false few spans texts only (Some mode) = refl
by_parts uses true true true true false spans texts only (Some mode) = refl
by_parts uses true true true true true false texts only (Some mode) = refl
by_parts uses true true true true true true false only (Some mode) = refl
by_parts uses true true true true true true true false (Some mode) = refl
by_parts uses true true true true true true true true (Some mode) = refl

-- where `--respell` goes with the other options, and where it doesn't
where_respell_fits : (uses : List Use) (respell : Option Bool) (mode : Option ModeOptions) (files all : Bool) (line : Option ReduceOptions)
    → (if files then line else nothing) ≡ (if all then option_map (reduction_in uses) mode else nothing)
    → (if files then line_if respell line else nothing) ≡ (if all then option_and_then (λ (r : Bool). option_map (reduction_in uses) mode) respell else nothing)
where_respell_fits uses None mode files all line same = sym (either_nothing files) ∙ either_nothing all
where_respell_fits uses (Some respell) mode files all line same = same

where_true : {A : Type 0} (f : List Use → Option A) (uses : List Use) (b : Bool)
    → (if b then f uses else None) ≡ option_and_then f (if b then Some uses else None)
where_true f uses true = refl
where_true f uses false = refl

-- the line of what is found, whether `--respell` goes with it or not
abbrev line_by : List Use → Option Bool → Option ModeOptions → Option ℕ → Option (List (List ℕ)) → Option ProtectOptions → Option ReduceOptions
line_by uses respell mode jobs keeps protects = line_if respell (line_of_parts uses mode jobs keeps protects)

pub reduce_found : (uses : List Use) → IsOnce reduce_table uses
    → line_with uses (fitting_keeps uses) (fitting_protects uses) ≡ option_and_then reduce_of (where_fits reduce_table (Some uses))
reduce_found uses once =
    let files : Bool = names_files (codes "script") uses in
    let mode : Bool = values_fit (Values.one_of (codes "lines" ∷ tree_modes)) (codes "mode") uses in
    let jobs : Bool = values_fit (Values.number 1 16) (codes "jobs") uses in
    let keeps : Bool = nat_le (length (values_for (codes "keep") uses)) 8 in
    let few : Bool = nat_le (length (values_for (codes "protect") uses)) 8 in
    let spans : Bool = values_fit any_lines (codes "protect") uses in
    let texts : Bool = nat_le (length (values_for (codes "protect-text") uses)) 8 in
    let only : Bool = values_fit any_lines (codes "only") uses in
    where_respell_fits uses (fitting_respell uses) (mode_options uses) files (files && (mode && (jobs && (keeps && ((few && spans) && (texts && only))))))
    (line_of_parts uses (fitting_mode uses) (fitting_jobs uses) (fitting_keeps uses) (fitting_protects uses))
    (by_parts uses files mode jobs keeps few spans texts only (mode_options uses))
    ∙ sym (ap (λ (b : Bool). if b then reduce_of uses else None) (reduce_fits uses once))
    ∙ where_true reduce_of uses (fits_table reduce_table uses)

-- without a part there is no line
no_part : (files : Bool) (respell : Option Bool) (line : Option ReduceOptions) → None ≡ line → None ≡ (if files then line_if respell line else nothing)
no_part false respell line none = refl
no_part true None line none = refl
no_part true (Some r) line none = none

-- without keep texts there is no line
pub no_line : (uses : List Use) (protects : Option ProtectOptions) → None ≡ line_with uses None protects
no_line uses protects = no_part (names_files (codes "script") uses) (fitting_respell uses) _ (go (fitting_mode uses) (fitting_jobs uses))
  where
    go : (mode : Option ModeOptions) (jobs : Option ℕ) → None ≡ line_of_parts uses mode jobs None protects
    go None jobs = refl
    go (Some mode) None = refl
    go (Some mode) (Some jobs) = refl

-- nor is there one where what must stay isn't such
pub nothing_stays : (uses : List Use) (keeps : Option (List (List ℕ))) → None ≡ line_with uses keeps None
nothing_stays uses keeps = no_part (names_files (codes "script") uses) (fitting_respell uses) _ (go (fitting_mode uses) (fitting_jobs uses) keeps)
  where
    go : (mode : Option ModeOptions) (jobs : Option ℕ) (keeps : Option (List (List ℕ))) → None ≡ line_of_parts uses mode jobs keeps None
    go None jobs keeps = refl
    go (Some mode) None keeps = refl
    go (Some mode) (Some jobs) None = refl
    go (Some mode) (Some jobs) (Some keeps) = refl

pub line_without_files : (uses : List Use) (keeps : Option (List (List ℕ))) (protects : Option ProtectOptions) → names_files (codes "script") uses ≡ false
    → None ≡ line_with uses keeps protects
line_without_files uses keeps protects none =
    sym (ap (λ (b : Bool). if b then line_by uses (fitting_respell uses) (fitting_mode uses) (fitting_jobs uses) keeps protects else None) none)

pub line_without_mode : (uses : List Use) (keeps : Option (List (List ℕ))) (protects : Option ProtectOptions) → None ≡ fitting_mode uses
    → None ≡ line_with uses keeps protects
line_without_mode uses keeps protects none =
    no_part (names_files (codes "script") uses) (fitting_respell uses) (line_of_parts uses None (fitting_jobs uses) keeps protects) refl
    ∙ ap
    (λ (mode : Option ModeOptions).
    if names_files (codes "script") uses then line_by uses (fitting_respell uses) mode (fitting_jobs uses) keeps protects else None) none

pub line_without_respell : (uses : List Use) (keeps : Option (List (List ℕ))) (protects : Option ProtectOptions) → None ≡ fitting_respell uses
    → None ≡ line_with uses keeps protects
line_without_respell uses keeps protects none =
    either_nothing (names_files (codes "script") uses)
    ∙ ap
    (λ (respell : Option Bool).
    if names_files (codes "script") uses then line_by uses respell (fitting_mode uses) (fitting_jobs uses) keeps protects else None) none

pub line_without_jobs : (uses : List Use) (keeps : Option (List (List ℕ))) (protects : Option ProtectOptions) → None ≡ fitting_jobs uses
    → None ≡ line_with uses keeps protects
line_without_jobs uses keeps protects none =
    no_part (names_files (codes "script") uses) (fitting_respell uses) (line_of_parts uses (fitting_mode uses) None keeps protects) (go (fitting_mode uses))
    ∙ ap
    (λ (jobs : Option ℕ).
    if names_files (codes "script") uses then line_by uses (fitting_respell uses) (fitting_mode uses) jobs keeps protects else None) none
  where
    go : (mode : Option ModeOptions) → None ≡ line_of_parts uses mode None keeps protects
    go None = refl
    go (Some mode) = refl

-- where `--respell` goes with the other options, it is said whether it is there
respell_is : (uses : List Use) (respell : Bool) → Some respell ≡ fitting_respell uses → respell ≡ is_given (codes "respell") uses
respell_is uses respell fits = by _ fits
  where
    by : (b : Bool) → Some respell ≡ (if b then None else Some (is_given (codes "respell") uses)) → respell ≡ is_given (codes "respell") uses
    by true fits = absurd (cc fits)
    by false fits = same_Some respell (is_given (codes "respell") uses) fits

-- what is said of the files, of the journal and of the folder, by their options
line_is : (uses : List Use) (mode : ModeOptions) (respell : Bool) (jobs : ℕ) (keeps : List (List ℕ)) (protects : ProtectOptions)
    (input output script : List ℕ) (journal resume : Option (List ℕ)) (work : List ℕ) → respell ≡ is_given (codes "respell") uses
    → input ≡ text_of (codes "input") uses
    → output ≡ text_of (codes "output") uses → script ≡ text_of (codes "script") uses → journal ≡ value_of (codes "journal") uses
    → resume ≡ value_of (codes "resume") uses → work ≡ value_or (codes "perses-work") (codes "work") uses
    → Some
    (record {
      mode = mode;
      respell = respell;
      input = input;
      output = output;
      script = script;
      journal = unwrap_or journal (output ++ codes ".journal");
      resume = resume;
      work = work;
      jobs = jobs;
      keeps = keeps;
      protects = protects;
    })
    ≡ line_of_parts uses (Some mode) (Some jobs) (Some keeps) (Some protects)
line_is uses mode respell jobs keeps protects input output script journal resume work respell_is input_is output_is script_is journal_is resume_is work_is =
    rw (respell_is, input_is, output_is, script_is, journal_is, resume_is, work_is) refl

pub this_line : (uses : List Use) (mode : ModeOptions) (respell : Bool) (jobs : ℕ) (keeps : List (List ℕ)) (protects : ProtectOptions)
    (input output script : List ℕ) (journal resume : Option (List ℕ)) (work : List ℕ)
    → (names_files (codes "script") uses ≡ true) × (input ≡ text_of (codes "input") uses) × (output ≡ text_of (codes "output") uses)
    × (script ≡ text_of (codes "script") uses)
    → journal ≡ value_of (codes "journal") uses → resume ≡ value_of (codes "resume") uses
    → work ≡ value_or (codes "perses-work") (codes "work") uses → Some mode ≡ fitting_mode uses
    → Some respell ≡ fitting_respell uses → Some jobs ≡ fitting_jobs uses
    → Some (record {
      mode = mode;
      respell = respell;
      input = input;
      output = output;
      script = script;
      journal = unwrap_or journal (output ++ codes ".journal");
      resume = resume;
      work = work;
      jobs = jobs;
      keeps = keeps;
      protects = protects;
    })
    ≡ line_with uses (Some keeps) (Some protects)
this_line uses mode respell jobs keeps protects input output script journal resume work files journal_is resume_is work_is mode_is fits jobs_are =
    line_is uses mode respell jobs keeps protects input output script journal resume work (respell_is uses respell fits) files.1 files.2 files.3
    journal_is resume_is work_is
    ∙ ap₂ (λ (m : Option ModeOptions) (j : Option ℕ). line_of_parts uses m j (Some keeps) (Some protects)) mode_is jobs_are
    ∙ ap (λ (r : Option Bool). line_by uses r (fitting_mode uses) (fitting_jobs uses) (Some keeps) (Some protects)) fits
    ∙ sym (ap (λ (b : Bool). if b then line_by uses (fitting_respell uses) (fitting_mode uses) (fitting_jobs uses) (Some keeps) (Some protects) else None)
    files.0)

-- ---- a line of `check`

abbrev no_check : Option CheckOptions
no_check = None

-- part by part, or all at once
check_by_parts : (uses : List Use) (files mode_fits keeps_fit : Bool) (mode : Option ModeOptions)
    → (if files then check_of_parts uses (if mode_fits then mode else None) (if keeps_fit then Some (values_for (codes "keep") uses) else None) else no_check)
    ≡ (if files && (mode_fits && keeps_fit) then option_map (check_in uses) mode else no_check)
check_by_parts uses false mode_fits keeps_fit mode = refl
check_by_parts uses true false keeps_fit mode = refl
check_by_parts uses true true false None = refl
check_by_parts uses true true true None = refl
check_by_parts uses true true false (Some mode) = refl
check_by_parts uses true true true (Some mode) = refl

pub check_found : (uses : List Use) → IsOnce check_table uses
    → check_with uses (fitting_keeps uses) ≡ option_and_then check_of (where_fits check_table (Some uses))
check_found uses once =
    check_by_parts uses (names_files (codes "journal") uses) (values_fit (Values.one_of (codes "lines" ∷ tree_modes)) (codes "mode") uses)
    (nat_le (length (values_for (codes "keep") uses)) 8) (mode_options uses)
    ∙ sym (ap (λ (b : Bool). if b then check_of uses else None) (check_fits uses once))
    ∙ where_true check_of uses (fits_table check_table uses)

pub check_without_keeps : (uses : List Use) → None ≡ check_with uses None
check_without_keeps uses = go (names_files (codes "journal") uses) (fitting_mode uses)
  where
    go : (files : Bool) (mode : Option ModeOptions) → None ≡ (if files then check_of_parts uses mode None else no_check)
    go false mode = refl
    go true None = refl
    go true (Some mode) = refl

pub check_without_files : (uses : List Use) (keeps : Option (List (List ℕ))) → names_files (codes "journal") uses ≡ false → None ≡ check_with uses keeps
check_without_files uses keeps none = sym (ap (λ (b : Bool). if b then check_of_parts uses (fitting_mode uses) keeps else None) none)

pub check_without_mode : (uses : List Use) (keeps : Option (List (List ℕ))) → None ≡ fitting_mode uses → None ≡ check_with uses keeps
check_without_mode uses keeps none =
    go (names_files (codes "journal") uses)
    ∙ ap (λ (mode : Option ModeOptions). if names_files (codes "journal") uses then check_of_parts uses mode keeps else None) none
  where
    go : (files : Bool) → None ≡ (if files then check_of_parts uses None keeps else no_check)
    go true = refl
    go false = refl

-- what is said of the files, by their options
check_is : (uses : List Use) (mode : ModeOptions) (keeps : List (List ℕ)) (input output journal : List ℕ) → input ≡ text_of (codes "input") uses
    → output ≡ text_of (codes "output") uses
    → journal ≡ text_of (codes "journal") uses
    → Some (record { mode = mode; input = input; output = output; journal = journal; keeps = keeps }) ≡ check_of_parts uses (Some mode) (Some keeps)
check_is uses mode keeps input output journal input_is output_is journal_is = rw (input_is, output_is, journal_is) refl

pub this_check : (uses : List Use) (mode : ModeOptions) (keeps : List (List ℕ)) (input output journal : List ℕ)
    → (names_files (codes "journal") uses ≡ true) × (input ≡ text_of (codes "input") uses) × (output ≡ text_of (codes "output") uses)
    × (journal ≡ text_of (codes "journal") uses)
    → Some mode ≡ fitting_mode uses
    → Some (record { mode = mode; input = input; output = output; journal = journal; keeps = keeps }) ≡ check_with uses (Some keeps)
this_check uses mode keeps input output journal files mode_is =
    check_is uses mode keeps input output journal files.1 files.2 files.3
    ∙ ap (λ (m : Option ModeOptions). check_of_parts uses m (Some keeps)) mode_is
    ∙ sym (ap (λ (b : Bool). if b then check_of_parts uses (fitting_mode uses) (Some keeps) else None) files.0)

-- ---- a line of `normal`

abbrev grammar_at : List Use → List ℕ → GrammarSource
grammar_at uses path = record { path = path; lexer = value_of (codes "lexer") uses; start = value_of (codes "start") uses }

pub normal_found : (uses : List Use) → IsOnce normal_table uses → named_grammar uses ≡ option_and_then named_grammar (where_fits normal_table (Some uses))
normal_found uses once =
    go (value_of (codes "grammar") uses) refl ∙ sym (ap (λ (b : Bool). option_and_then named_grammar (if b then Some uses else None)) (normal_fits uses once))
  where
    go : (path : Option (List ℕ)) → value_of (codes "grammar") uses ≡ path
        → named_grammar uses ≡ option_and_then named_grammar (if is_given (codes "grammar") uses then Some uses else None)
    go None none =
        ap (option_map (grammar_at uses)) none
        ∙ sym (ap (λ (p : Option (List ℕ)). option_and_then named_grammar (if is_some {T = List ℕ} p then Some uses else None)) none)
    go (Some path) some = sym (ap (λ (p : Option (List ℕ)). option_and_then named_grammar (if is_some {T = List ℕ} p then Some uses else None)) some)

-- ---- a line of `selftest`

-- the number that these values give, where there is one
abbrev found_from : ℕ → ℕ → List (List ℕ) → Option ℕ
found_from least most values =
    if is_some {T = List ℕ} (slice_get values 0) && list_all (takes_value (Values.number least most)) values then Some
    (digits_value 10 (unwrap_or (slice_get values 0) [])) else None

pub this_number : (least most : ℕ) (name : List ℕ) (uses : List Use) (text : List ℕ) (r : Option ℕ) → length (values_for name uses) ≤ 1
    → value_of name uses ≡ Some text
    → MatchOption r (is_number_in least most text ≡ false) (λ n. (is_number_in least most text ≡ true) × (n ≡ digits_value 10 text))
    → r ≡ fitting_number least most name uses
this_number least most name uses text r few some reads =
    number_read least most text r reads ∙ sym (ap (found_from least most) (one_value (values_for name uses) text few some))

-- the mode that these values give, where they are one
abbrev pub tree_mode_from : List (List ℕ) → Option TreeMode
tree_mode_from values =
    if list_all (takes_value (Values.one_of tree_modes)) values then Some (tree_mode_named (unwrap_or (slice_get values 0) (codes "perses"))) else None

abbrev pub fitting_tree_mode : List Use → Option TreeMode
fitting_tree_mode uses = tree_mode_from (values_for (codes "mode") uses)

-- the mode of this name, where it is one
abbrev pub IsModeOf : List ℕ → Option TreeMode → Type 0
IsModeOf text r =
    MatchOption r (takes_value (Values.one_of tree_modes) text ≡ false)
    (λ mode. (takes_value (Values.one_of tree_modes) text ≡ true) × (mode ≡ tree_mode_named text))

mode_read : (text : List ℕ) (r : Option TreeMode) → IsModeOf text r
    → r ≡ (if takes_value (Values.one_of tree_modes) text then Some (tree_mode_named text) else None)
mode_read text None fails = sym (ap (λ (b : Bool). if b then Some (tree_mode_named text) else None) fails)
mode_read text (Some mode) reads = ap (λ (m : TreeMode). Some m) reads.1 ∙ sym (ap (λ (b : Bool). if b then Some (tree_mode_named text) else None) reads.0)

and_none : (b : Bool) (mode : TreeMode) → (if b then Some mode else None) ≡ (if b && true then Some mode else None)
and_none true mode = refl
and_none false mode = refl

pub this_mode : (uses : List Use) (text : List ℕ) (r : Option TreeMode) → length (values_for (codes "mode") uses) ≤ 1
    → text ≡ value_or (codes "perses") (codes "mode") uses → IsModeOf text r → r ≡ fitting_tree_mode uses
this_mode uses text r few is reads =
    mode_read text r reads ∙ ap (λ (t : List ℕ). if takes_value (Values.one_of tree_modes) t then Some (tree_mode_named t) else None) is
    ∙ go (value_of (codes "mode") uses) refl
  where
    go : (o : Option (List ℕ)) → value_of (codes "mode") uses ≡ o
        → (if takes_value (Values.one_of tree_modes) (value_or (codes "perses") (codes "mode") uses) then Some
        (tree_mode_named (value_or (codes "perses") (codes "mode") uses)) else None) ≡ fitting_tree_mode uses
    go None none =
        ap (λ (x : Option (List ℕ)). if takes_value (Values.one_of tree_modes) (unwrap_or x (codes "perses")) then Some
        (tree_mode_named (unwrap_or x (codes "perses"))) else None) none
        ∙ sym (ap tree_mode_from (no_values (values_for (codes "mode") uses) none))
    go (Some t) some =
        ap (λ (x : Option (List ℕ)). if takes_value (Values.one_of tree_modes) (unwrap_or x (codes "perses")) then Some
        (tree_mode_named (unwrap_or x (codes "perses"))) else None) some
        ∙ and_none (takes_value (Values.one_of tree_modes) t) (tree_mode_named t)
        ∙ sym (ap tree_mode_from (one_value (values_for (codes "mode") uses) t few some))

-- the line of these parts, where each is there
abbrev selftest_parts : Option ℕ → Option ℕ → Option TreeMode → Option SelftestOptions
selftest_parts None size mode = None
selftest_parts (Some number) None mode = None
selftest_parts (Some number) (Some size) None = None
selftest_parts (Some number) (Some size) (Some mode) = Some (record { number = number; size = size; mode = mode })

abbrev selftest_from : List Use → Option SelftestOptions
selftest_from uses = selftest_parts (fitting_number 0 4294967295 (codes "number") uses) (fitting_number 1 1500 (codes "size") uses) (fitting_tree_mode uses)

selftest_by_parts : (uses : List Use) (number size mode : Bool)
    → selftest_parts (if number then Some (number_of (codes "number") uses) else None) (if size then Some (number_of (codes "size") uses) else None)
    (if mode then Some (tree_mode_of uses) else None)
    ≡ option_map selftest_of (if number && (size && mode) then Some uses else None)
selftest_by_parts uses false size mode = refl
selftest_by_parts uses true false mode = refl
selftest_by_parts uses true true false = refl
selftest_by_parts uses true true true = refl

selftest_found : (uses : List Use) → IsOnce selftest_table uses → selftest_from uses ≡ option_map selftest_of (where_fits selftest_table (Some uses))
selftest_found uses once =
    selftest_by_parts uses (is_given (codes "number") uses && values_fit (Values.number 0 4294967295) (codes "number") uses)
    (is_given (codes "size") uses && values_fit (Values.number 1 1500) (codes "size") uses)
    (values_fit (Values.one_of tree_modes) (codes "mode") uses)
    ∙ sym (ap (λ (b : Bool). option_map selftest_of (if b then Some uses else None)) (selftest_fits uses once))

pub selftest_without_number : (uses : List Use) → IsOnce selftest_table uses → None ≡ fitting_number 0 4294967295 (codes "number") uses
    → None ≡ option_map selftest_of (where_fits selftest_table (Some uses))
selftest_without_number uses once none =
    ap (λ (n : Option ℕ). selftest_parts n (fitting_number 1 1500 (codes "size") uses) (fitting_tree_mode uses)) none ∙ selftest_found uses once

pub selftest_without_size : (uses : List Use) → IsOnce selftest_table uses → None ≡ fitting_number 1 1500 (codes "size") uses
    → None ≡ option_map selftest_of (where_fits selftest_table (Some uses))
selftest_without_size uses once none =
    go (fitting_number 0 4294967295 (codes "number") uses)
    ∙ ap (λ (n : Option ℕ). selftest_parts (fitting_number 0 4294967295 (codes "number") uses) n (fitting_tree_mode uses)) none ∙ selftest_found uses once
  where
    go : (n : Option ℕ) → None ≡ selftest_parts n None (fitting_tree_mode uses)
    go None = refl
    go (Some n) = refl

pub selftest_without_mode : (uses : List Use) → IsOnce selftest_table uses → None ≡ fitting_tree_mode uses
    → None ≡ option_map selftest_of (where_fits selftest_table (Some uses))
selftest_without_mode uses once none =
    go (fitting_number 0 4294967295 (codes "number") uses) (fitting_number 1 1500 (codes "size") uses)
    ∙ ap (λ (m : Option TreeMode). selftest_parts (fitting_number 0 4294967295 (codes "number") uses) (fitting_number 1 1500 (codes "size") uses) m) none
    ∙ selftest_found uses once
  where
    go : (n s : Option ℕ) → None ≡ selftest_parts n s None
    go None s = refl
    go (Some n) None = refl
    go (Some n) (Some s) = refl

pub this_selftest : (uses : List Use) (number size : ℕ) (mode : TreeMode) → IsOnce selftest_table uses
    → Some number ≡ fitting_number 0 4294967295 (codes "number") uses
    → Some size ≡ fitting_number 1 1500 (codes "size") uses → Some mode ≡ fitting_tree_mode uses
    → Some (record { number = number; size = size; mode = mode }) ≡ option_map selftest_of (where_fits selftest_table (Some uses))
this_selftest uses number size mode once number_is size_is mode_is =
    ap₂ (λ (n s : Option ℕ). selftest_parts n s (Some mode)) number_is size_is
    ∙ ap (λ (m : Option TreeMode). selftest_parts (fitting_number 0 4294967295 (codes "number") uses) (fitting_number 1 1500 (codes "size") uses) m) mode_is
    ∙ selftest_found uses once

-- ---- a command, by its name

abbrev after_reduce : List ℕ → List (List ℕ) → Option Command
after_reduce name words =
    if bytes_eq name (codes "normal") then option_map Command.normal (normal_line words) else
    (if bytes_eq name (codes "selftest") then option_map Command.selftest (selftest_line words) else
    (if bytes_eq name (codes "check") then option_map Command.check (check_line words) else None))

abbrev after_normal : List ℕ → List (List ℕ) → Option Command
after_normal name words =
    if bytes_eq name (codes "selftest") then option_map Command.selftest (selftest_line words) else
    (if bytes_eq name (codes "check") then option_map Command.check (check_line words) else None)

abbrev after_selftest : List ℕ → List (List ℕ) → Option Command
after_selftest name words = if bytes_eq name (codes "check") then option_map Command.check (check_line words) else None

other_than_reduce : (name : List ℕ) (words : List (List ℕ)) → bytes_eq name (codes "reduce") ≡ false → after_reduce name words ≡ command_of name words
other_than_reduce name words no_reduce = sym (ap (λ (b : Bool). if b then option_map Command.reduce (reduce_line words) else after_reduce name words) no_reduce)

other_than_normal : (name : List ℕ) (words : List (List ℕ)) → bytes_eq name (codes "normal") ≡ false → after_normal name words ≡ after_reduce name words
other_than_normal name words no_normal = sym (ap (λ (b : Bool). if b then option_map Command.normal (normal_line words) else after_normal name words) no_normal)

-- the name is none of these three
abbrev pub IsOther : List ℕ → Type 0
IsOther name = (bytes_eq name (codes "reduce") ≡ false) × (bytes_eq name (codes "normal") ≡ false) × (bytes_eq name (codes "selftest") ≡ false)

other_than_these : (name : List ℕ) (words : List (List ℕ)) → IsOther name → after_selftest name words ≡ command_of name words
other_than_these name words other =
    sym (ap (λ (b : Bool). if b then option_map Command.selftest (selftest_line words) else after_selftest name words) other.2)
    ∙ other_than_normal name words other.1 ∙ other_than_reduce name words other.0

pub reduce_asked : (name : List ℕ) (words : List (List ℕ)) (line : Option ReduceOptions) → bytes_eq name (codes "reduce") ≡ true → line ≡ reduce_line words
    → option_map Command.reduce line ≡ command_of name words
reduce_asked name words line is line_is =
    ap (option_map Command.reduce) line_is ∙ sym (ap (λ (b : Bool). if b then option_map Command.reduce (reduce_line words) else after_reduce name words) is)

pub normal_asked : (name : List ℕ) (words : List (List ℕ)) (line : Option GrammarSource) → bytes_eq name (codes "reduce") ≡ false
    → bytes_eq name (codes "normal") ≡ true → line ≡ normal_line words
    → option_map Command.normal line ≡ command_of name words
normal_asked name words line no_reduce is line_is =
    ap (option_map Command.normal) line_is ∙ sym (ap (λ (b : Bool). if b then option_map Command.normal (normal_line words) else after_normal name words) is)
    ∙ other_than_reduce name words no_reduce

pub selftest_asked : (name : List ℕ) (words : List (List ℕ)) (line : Option SelftestOptions) → bytes_eq name (codes "reduce") ≡ false
    → bytes_eq name (codes "normal") ≡ false
    → bytes_eq name (codes "selftest") ≡ true → line ≡ selftest_line words → option_map Command.selftest line ≡ command_of name words
selftest_asked name words line no_reduce no_normal is line_is =
    ap (option_map Command.selftest) line_is
    ∙ sym (ap (λ (b : Bool). if b then option_map Command.selftest (selftest_line words) else after_selftest name words) is)
    ∙ other_than_normal name words no_normal ∙ other_than_reduce name words no_reduce

pub check_asked : (name : List ℕ) (words : List (List ℕ)) (line : Option CheckOptions) → IsOther name → bytes_eq name (codes "check") ≡ true
    → line ≡ check_line words → option_map Command.check line ≡ command_of name words
check_asked name words line other is line_is =
    ap (option_map Command.check) line_is ∙ sym (ap (λ (b : Bool). if b then option_map Command.check (check_line words) else None) is)
    ∙ other_than_these name words other

pub nothing_asked : (name : List ℕ) (words : List (List ℕ)) → IsOther name → bytes_eq name (codes "check") ≡ false → None ≡ command_of name words
nothing_asked name words other no_check =
    sym (ap (λ (b : Bool). if b then option_map Command.check (check_line words) else None) no_check) ∙ other_than_these name words other

-- ---- the name of a command

pub reduce_named : (name : List ℕ) → bytes_eq name (codes "reduce") ≡ true → is_command name ≡ true
reduce_named name is =
    ap (λ (b : Bool). b || (bytes_eq name (codes "normal") || (bytes_eq name (codes "selftest") || bytes_eq name (codes "check")))) is

beside_reduce : (name : List ℕ) → bytes_eq name (codes "reduce") ≡ false
    → is_command name ≡ (bytes_eq name (codes "normal") || (bytes_eq name (codes "selftest") || bytes_eq name (codes "check")))
beside_reduce name no_reduce =
    ap (λ (b : Bool). b || (bytes_eq name (codes "normal") || (bytes_eq name (codes "selftest") || bytes_eq name (codes "check")))) no_reduce

pub normal_named : (name : List ℕ) → bytes_eq name (codes "reduce") ≡ false → bytes_eq name (codes "normal") ≡ true → is_command name ≡ true
normal_named name no_reduce is =
    beside_reduce name no_reduce ∙ ap (λ (b : Bool). b || (bytes_eq name (codes "selftest") || bytes_eq name (codes "check"))) is

beside_normal : (name : List ℕ) → bytes_eq name (codes "reduce") ≡ false → bytes_eq name (codes "normal") ≡ false
    → is_command name ≡ (bytes_eq name (codes "selftest") || bytes_eq name (codes "check"))
beside_normal name no_reduce no_normal =
    beside_reduce name no_reduce ∙ ap (λ (b : Bool). b || (bytes_eq name (codes "selftest") || bytes_eq name (codes "check"))) no_normal

pub selftest_named : (name : List ℕ) → bytes_eq name (codes "reduce") ≡ false → bytes_eq name (codes "normal") ≡ false
    → bytes_eq name (codes "selftest") ≡ true → is_command name ≡ true
selftest_named name no_reduce no_normal is =
    beside_normal name no_reduce no_normal ∙ ap (λ (b : Bool). b || bytes_eq name (codes "check")) is

pub check_named : (name : List ℕ) → IsOther name → bytes_eq name (codes "check") ≡ true → is_command name ≡ true
check_named name other is =
    beside_normal name other.0 other.1 ∙ ap (λ (b : Bool). b || bytes_eq name (codes "check")) other.2 ∙ is

-- ---- the words

pub too_few : {Z : Type 0} → (words : List (String Z)) → length words < 2 → None ≡ command_line_of (map string_bytes words)
too_few [] few = refl
too_few (program ∷ []) few = refl
too_few (program ∷ (name ∷ words)) few = absurd (omega arith)

after_two : {Z : Type 0} → (words : List (String Z)) (other : String Z) → 2 ≤ length words
    → command_of (string_bytes (get_or words 1 other)) (map string_bytes (take (length words - 2) (drop 2 words))) ≡ command_line_of (map string_bytes words)
after_two [] other enough = absurd (omega arith)
after_two (program ∷ []) other enough = absurd (omega arith)
after_two {Z} (program ∷ (name ∷ words)) other enough =
    ap (λ (ws : List (String Z)). command_of (string_bytes name) (map string_bytes ws)) (take_all (length (program ∷ (name ∷ words)) - 2) words (omega arith))

pub after_program : {Z : Type 0} → (words : List (String Z)) (item : String Z) (name : List ℕ) → 2 ≤ length words → item ≡ get_or words 1 item
    → name ≡ string_bytes item
    → command_of name (map string_bytes (take (length words - 2) (drop 2 words))) ≡ command_line_of (map string_bytes words)
after_program words item name enough item_is name_is =
    ap (λ (n : List ℕ). command_of n (map string_bytes (take (length words - 2) (drop 2 words)))) (name_is ∙ ap string_bytes item_is)
    ∙ after_two words item enough

two_named : {Z : Type 0} → (words : List (String Z)) (other : String Z) → 2 ≤ length words
    → is_command (string_bytes (get_or words 1 other)) ≡ names_command (map string_bytes words)
two_named [] other enough = absurd (omega arith)
two_named (program ∷ []) other enough = absurd (omega arith)
two_named (program ∷ (name ∷ words)) other enough = refl

pub named_in : {Z : Type 0} → (words : List (String Z)) (item : String Z) (name : List ℕ) → 2 ≤ length words → item ≡ get_or words 1 item
    → name ≡ string_bytes item → is_command name ≡ names_command (map string_bytes words)
named_in words item name enough item_is name_is = ap is_command (name_is ∙ ap string_bytes item_is) ∙ two_named words item enough
