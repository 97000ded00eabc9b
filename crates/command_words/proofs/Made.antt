-- The command that `clap` is given, and what it answers.
use Rattle.std.proofs.Common.{◌≡◌, ◌∙◌, true, false, List, [], ◌∷◌, ◌++◌, map, Some, None, fold, refl, sym, ap, ap₂, subst, append-nil, append_assoc, inl, inr}
use Rattle.std.specs.List.{list_all}
use Rattle.std.proofs.lemmas.Bool.{and_parts}
use Rattle.std.proofs.lemmas.List.Folds.{list_all-map}
use Rattle.std.specs.Prelude.{String, string_bytes}
use Rattle.clap.specs.Words.{App, HasKind, HasMatchesOf, IsAmong, Rule, Text, fault_of, is_simple, is_simple_and_free, kind_of, with_rule}
use Rattle.clap.specs.Simple.{app_of, app_of_fields, built, new_app, new_shape, on_top}
use Rattle.clap.specs.Faults.{is_free_app}
use Rattle.clap.specs.declared.builder.command.Command.{Command}
use Rattle.clap.specs.declared.builder.command.Command.TheViews.{out-Command as fields_of}
use Rattle.clap.specs.declared.error.Error.{Error}
use Rattle.clap.specs.declared.error.kind.ErrorKind.TheVariants.{OutOfMemory}
use Rattle.clap.specs.declared.parser.matches.ArgMatches.{ArgMatches}
use Rattle.command_words.specs.Options.{OptionRow}
use Rattle.command_words.specs.declared.options.ClapOption.{ClapOption}
use Rattle.command_words.specs.inner.Read.{IsAnswered, IsTable, is_well_formed, option_rule, read_row, table_row}
use Rattle.command_words.proofs.Texts.{both_answers}
use Rattle.command_words.proofs.Rules.{is_plain_command}
use Rattle.command_words.proofs.Answered.{answered_err, answered_ok, app, are_well_formed}

-- the command before its options are added
abbrev pub bare_app : Text → App
bare_app name = record { top = record (new_shape name) { no_binary_name = true; disable_help_flag = true }; subs = [] }

pub bare : (name : Text) (a b c : Command) → app_of a ≡ new_app name → fields_of b ≡ record (fields_of a) { no_binary_name = true }
    → fields_of c ≡ record (fields_of b) { disable_help_flag = true }
    → app_of c ≡ bare_app name
bare name a b c new no_name no_help =
    ap app_of_fields no_help
    ∙ ap (on_top (λ s. record s { disable_help_flag = true })) (ap app_of_fields no_name ∙ ap (on_top (λ s. record s { no_binary_name = true })) new)

-- each word, as text
pub all_formed : {Z : Type 0} → (words : List (String Z))
    → list_all (λ word. is_well_formed (string_bytes word)) words ≡ list_all is_well_formed (map string_bytes words)
all_formed words = sym (list_all-map is_well_formed string_bytes words)

rules_added : (a : App) (rules : List Rule) → fold with_rule a rules ≡ on_top (λ s. record s { rules = s.rules ++ rules }) a
rules_added a [] = ap (λ (rules : List Rule). on_top (λ s. record s { rules = rules }) a) (sym (append-nil a.top.rules))
rules_added a (r ∷ rs) =
    rules_added (with_rule a r) rs ∙ ap (λ (rules : List Rule). on_top (λ s. record s { rules = rules }) a) (append_assoc a.top.rules (r ∷ []) rs)

two_maps : (rows : List ClapOption) → map (λ row. option_rule (read_row row)) rows ≡ map option_rule (map read_row rows)
two_maps [] = refl
two_maps (row ∷ rows) = ap (λ (rest : List Rule). option_rule (read_row row) ∷ rest) (two_maps rows)

-- the command with its options
pub command_app : (name : Text) (table : List OptionRow) (rows : List ClapOption) (bare made : App) → bare ≡ bare_app name
    → made ≡ fold with_rule bare (map (λ row. option_rule (read_row row)) rows) → map read_row rows ≡ map table_row table → made ≡ app name table
command_app name table rows bare made bare_is made_is same =
    made_is ∙ ap₂ (λ (a : App) (rules : List Rule). fold with_rule a rules) bare_is (two_maps rows ∙ ap (map option_rule) same)
    ∙ rules_added (bare_app name) (map option_rule (map table_row table))

pub answer_of_matches : (name : Text) (table : List OptionRow) (words : List Text) → list_all is_well_formed words ≡ true → IsTable table → (made : App)
    → made ≡ app name table → (m : ArgMatches)
    → HasMatchesOf made words m → (is_simple_and_free made ≡ true → fault_of made words ≡ []) → IsAnswered table words (Some m)
answer_of_matches name table words good is_table made is m matches none =
    let plain = is_plain_command name (map table_row table) in
    let simple = and_parts (is_simple (app name table)) (is_free_app (built (app name table))) plain in
    answered_ok name table words good is_table.0 m (subst (λ (a : App). HasMatchesOf a words m) is matches) simple.0
    (sym (ap (λ (a : App). fault_of a words) is) ∙ none (ap is_simple_and_free is ∙ plain))

pub answer_of_error : (name : Text) (table : List OptionRow) (words : List Text) → list_all is_well_formed words ≡ true → (made : App) → made ≡ app name table
    → (e : Error)
    → (is_simple_and_free made ≡ true → HasKind (fault_of made words) e) → (kind_of e ≡ OutOfMemory → ⊥) → IsAnswered table words None
answer_of_error name table words good made is e fails other = go (fails (ap is_simple_and_free is ∙ is_plain_command name (map table_row table)))
  where
    go : HasKind (fault_of made words) e → IsAnswered table words None
    go (inl memory) = absurd (other memory)
    go (inr among) = answered_err name table words good (kind_of e) (subst (λ (a : App). IsAmong (kind_of e) (fault_of a words)) is among)

pub answer_of_others : (table : List OptionRow) (words : List Text) → IsTable table → list_all is_well_formed words ≡ false → IsAnswered table words None
answer_of_others table words is_table bad uses reads once =
    both_answers (list_all is_well_formed words) (are_well_formed table is_table.1 words None uses reads) bad
