-- What `clap` answers to the words of a command, by its clauses.
use Rattle.std.proofs.Common.{◌≡◌, ◌∙◌, ◌==◌, Bool, true, false, cond, not, ◌&&◌, List, length, nat_lt, arith, lt-ltb, true≢false, [], ◌∷◌, map, Option, Some}
use Rattle.std.proofs.Common.{None, find, fold, refl, sym, ap, ap₂, subst, bytes_eq, is_some, if◌then◌else◌, codes, option_map, option_and_then, slice_get}
use Rattle.std.specs.List.{list_all}
use Rattle.std.proofs.lemmas.Bool.{and_from, and_parts}
use Rattle.clap.specs.declared.error.kind.ErrorKind.{ErrorKind}
use Rattle.clap.specs.Walk.{default_rows, idle, reading_by}
use Rattle.clap.specs.Simple.{Shape}
use Rattle.clap.specs.Words.{App, HasMatchesOf, fault_of, found_of, is_simple, matches_of, read_as, rows_of}
use Rattle.clap.specs.Walk.{Row, Text, all_of, first_of, has_row, nothing_held, one_of, row_text, rows_after, settled, walked, with_default, with_values}
use Rattle.clap.specs.Simple.{built}
use Rattle.clap.specs.Kinds.{Kinds, IsAmong, or_else}
use Rattle.clap.specs.Faults.{level_fault, settle_fault, walk_fault}
use Rattle.clap.specs.declared.builder.value_parser.Reading.{Reading}
use Rattle.clap.specs.declared.builder.value_parser.Reading.TheVariants.{AsWritten}
use Rattle.clap.specs.declared.parser.matches.ArgMatches.{ArgMatches}
use Rattle.clap.specs.declared.parser.matches.ValueSource.TheVariants.{DefaultValue}
use Rattle.clap.proofs.FaultLemmas.{leaf_fault}
use Rattle.clap.proofs.WalkLemmas.{first_value-rows, one_text-rows, raw_values-rows}
use Rattle.command_words.specs.Options.{OptionRow, OptionWord, Use, WordKind, has_value, is_value, kind_by_row, kind_of_option, kind_of_word}
use Rattle.command_words.specs.Options.{name_and_value, option_word, row_of, then_uses, uses_after, uses_from, values_for}
use Rattle.command_words.specs.inner.Read.{AllFound, HasRead, HasUses, IsOnce, flag_text, is_option_part, is_part_of}
use Rattle.command_words.specs.inner.Read.{is_well_formed, NamesValue, table_row, takes_of, where_some}
use Rattle.command_words.proofs.Texts.{both_answers, text_same}
use Rattle.command_words.proofs.Rules.{app_for, built_rule, built_shape, no_check_fails, no_defaults_fail}
use Rattle.command_words.proofs.Rows.{HasRows, row_is_seen, seen, seen_after, shown, with_more}
use Rattle.command_words.proofs.Flags.{flags_are_true}
use Rattle.command_words.proofs.Walks.{Reads, command_for, faults_from, rows_from, rule, rules, walk_at}
use Rattle.command_words.proofs.Reading.{held_at, reads_words}

-- an option of the table or none, as the walk meets it
abbrev by_found : Bool → Option OptionRow → Option Text → WordKind
by_found takes None value = WordKind.unknown
by_found takes (Some row) value = kind_of_option takes row.name value

abbrev pub app : Text → List OptionRow → App
app name table = app_for name (map table_row table)

abbrev start : Text → List OptionRow → Kinds → Kinds → List Text → Kinds
start name table d k words = or_else (walk_fault (command_for name table) [] (walk_at (held_at [] None) idle) words)
    (or_else (settle_fault (rules table) false (fold (walked (rules table) []) (walk_at (held_at [] None) idle) words).held) (or_else d k))

regroup : (a b : Kinds) → or_else a (or_else b (or_else [] [])) ≡ or_else a b
regroup [] [] = refl
regroup [] (k ∷ ks) = refl
regroup (k ∷ ks) b = refl

-- the faults of the command are those of the walk
pub fault_is : (name : Text) (table : List OptionRow) (words : List Text)
    → fault_of (app name table) words ≡ faults_from name table (walk_at (held_at [] None) idle) words
fault_is name table words =
    let end = (fold (walked (rules table) []) (walk_at (held_at [] None) idle) words).held in
    leaf_fault (built (app name table)) nothing_held words refl
    ∙ ap (λ s. level_fault s [] nothing_held words false []) (built_shape name (map table_row table))
    ∙ ap₂ (λ (d k : Kinds). start name table d k words) (no_defaults_fail (settled (rules table) end).rows (map table_row table))
    (no_check_fails name (fold with_default (settled (rules table) end).rows (rules table)) (map table_row table))
    ∙ regroup _ _

-- ---- defaults: a flag that isn't there has the text `false`

abbrev pub Seen : Type 0
Seen = Option (List Text × Reading)

abbrev defaulted : Bool → Bool → Seen → Seen
defaulted takes same (Some p) = Some p
defaulted true same None = None
defaulted false true None = Some (codes "false" ∷ [], AsWritten)
defaulted false false None = None

stays : (takes : Bool) (s : Seen) → defaulted true takes s ≡ s
stays takes None = refl
stays takes (Some p) = refl

no_default : (single : Bool) (n : Text) (rows : List Row) → with_default rows (built_rule (record { name = n; takes = takes_of true single })) ≡ rows
no_default single n rows = go single (has_row n rows)
  where
    go : (single b : Bool)
        → (if b then rows else default_rows n (reading_by (built_rule (record { name = n; takes = takes_of true single })))
        (built_rule (record { name = n; takes = takes_of true single })).defaults rows) ≡ rows
    go true true = refl
    go true false = refl
    go false true = refl
    go false false = refl

-- a flag that is there keeps what it has
there_already : (row : OptionRow) (name : Text) (rows : List Row) → has_row row.name rows ≡ true → (same : Bool) → bytes_eq row.name name ≡ same → (s : Seen)
    → seen name rows ≡ s → s ≡ defaulted false same s
there_already row name rows there same is (Some p) at = refl
there_already row name rows there false is None at = refl
there_already row name rows there true is None at =
    let none : has_row row.name rows ≡ false =
    row_is_seen row.name rows ∙ ap (λ (n : Text). is_some {T = List Text × Reading} (seen n rows)) (text_same row.name name is)
    ∙ ap (is_some {T = List Text × Reading}) at in
    absurd (both_answers (has_row row.name rows) there none)

-- a flag that isn't gets the text
added : (row : OptionRow) (name : Text) (rows : List Row) → has_row row.name rows ≡ false → (same : Bool) → bytes_eq row.name name ≡ same → (s : Seen)
    → seen name rows ≡ s
    → with_more same (codes "false" ∷ []) s ≡ defaulted false same s
added row name rows absent true is None at = refl
added row name rows absent false is None at = refl
added row name rows absent false is (Some p) at = refl
added row name rows absent true is (Some p) at =
    let some : has_row row.name rows ≡ true =
    row_is_seen row.name rows ∙ ap (λ (n : Text). is_some {T = List Text × Reading} (seen n rows)) (text_same row.name name is) ∙ ap
    (is_some {T = List Text × Reading}) at in
    absurd (both_answers (has_row row.name rows) some absent)

flag_default : (row : OptionRow) (name : Text) (rows : List Row) (b : Bool) → has_row row.name rows ≡ b
    → seen name (if b then rows else with_values row.name AsWritten DefaultValue (codes "false" ∷ []) rows) ≡ defaulted false (bytes_eq row.name name)
    (seen name rows)
flag_default row name rows true there = there_already row name rows there (bytes_eq row.name name) refl (seen name rows) refl
flag_default row name rows false absent =
    seen_after name row.name DefaultValue (codes "false" ∷ []) rows ∙ added row name rows absent (bytes_eq row.name name) refl (seen name rows) refl

after_default : (row : OptionRow) (name : Text) (rows : List Row)
    → seen name (with_default rows (rule row)) ≡ defaulted (has_value row.values) (bytes_eq row.name name) (seen name rows)
after_default row name rows = go (has_value row.values)
  where
    go : (takes : Bool) → seen name (with_default rows (built_rule (record { name = row.name; takes = takes_of takes (row.most == 1) }))) ≡ defaulted takes
        (bytes_eq row.name name) (seen name rows)
    go true = ap (seen name) (no_default (row.most == 1) row.name rows) ∙ sym (stays (bytes_eq row.name name) (seen name rows))
    go false = flag_default row name rows (has_row row.name rows) refl

-- the rows after the defaults
abbrev pub all_defaults : List Row → List OptionRow → List Row
all_defaults rows table = fold with_default rows (rules table)

-- an option with a value has no default
value_stays : (table : List OptionRow) (name : Text) → NamesValue table name → (r : OptionRow) → row_of table r.name ≡ Some r → (takes : Bool)
    → has_value r.values ≡ takes → (same : Bool) → bytes_eq r.name name ≡ same
    → (s : Seen) → defaulted takes same s ≡ s
value_stays table name named r found takes is same same_is (Some p) = refl
value_stays table name named r found true is same same_is None = refl
value_stays table name named r found false is false same_is None = refl
value_stays table name named r found false is true same_is None =
    absurd (both_answers (has_value r.values) (named r (ap (row_of table) (sym (text_same r.name name same_is)) ∙ found)) is)

pub defaults_of_value : (table : List OptionRow) (name : Text) → NamesValue table name → (rs : List OptionRow) → AllFound table rs → (rows : List Row)
    → seen name (all_defaults rows rs) ≡ seen name rows
defaults_of_value table name named [] found rows = refl
defaults_of_value table name named (r ∷ rs) found rows =
    defaults_of_value table name named rs found.1 (with_default rows (rule r)) ∙ after_default r name rows
    ∙ value_stays table name named r found.0 (has_value r.values) refl (bytes_eq r.name name) refl (seen name rows)

some_stays : (name : Text) (rs : List OptionRow) (rows : List Row) (p : List Text × Reading) → seen name rows ≡ Some p
    → seen name (all_defaults rows rs) ≡ Some p
some_stays name [] rows p at = at
some_stays name (r ∷ rs) rows p at =
    some_stays name rs (with_default rows (rule r)) p (after_default r name rows ∙ ap (defaulted (has_value r.values) (bytes_eq r.name name)) at)

other_stays : (takes : Bool) (s : Seen) → defaulted takes false s ≡ s
other_stays takes (Some p) = refl
other_stays true None = refl
other_stays false None = refl

-- a flag has what it had, or the text
pub defaults_of_flag : (row : OptionRow) → has_value row.values ≡ false → (rs : List OptionRow) → row_of rs row.name ≡ Some row → (rows : List Row)
    → seen row.name (all_defaults rows rs) ≡ defaulted false true (seen row.name rows)
defaults_of_flag row flag [] found rows = absurd (cc found)
defaults_of_flag row flag (r ∷ rs) found rows =
    go (bytes_eq r.name row.name) refl found (λ later. defaults_of_flag row flag rs later (with_default rows (rule r)))
  where
    own : (s : Seen) → seen row.name (with_default rows (rule r)) ≡ defaulted false true s
        → seen row.name (all_defaults (with_default rows (rule r)) rs) ≡ defaulted false true s
    own None at = some_stays row.name rs (with_default rows (rule r)) (codes "false" ∷ [], AsWritten) at
    own (Some p) at = some_stays row.name rs (with_default rows (rule r)) p at

    go : (b : Bool) → bytes_eq r.name row.name ≡ b → cond b (Some r) (row_of rs row.name) ≡ Some row
        → (row_of rs row.name ≡ Some row → seen row.name (all_defaults (with_default rows (rule r)) rs) ≡ defaulted false true
        (seen row.name (with_default rows (rule r))))
        → seen row.name (all_defaults (with_default rows (rule r)) rs) ≡ defaulted false true (seen row.name rows)
    go true is found later =
        let same : r ≡ row = cc found in
        own (seen row.name rows) (after_default r row.name rows
        ∙ ap₂ (λ (t b : Bool). defaulted t b (seen row.name rows)) (ap (λ (x : OptionRow). has_value x.values) same ∙ flag) is)
    go false is found later =
        later found ∙ ap (defaulted false true) (after_default r row.name rows ∙ ap (λ (b : Bool). defaulted (has_value r.values) b (seen row.name rows)) is
        ∙ other_stays (has_value r.values) (seen row.name rows))

-- ---- what the matches give

all_seen : (name : Text) (rows : List Row) → all_of name rows ≡ option_map (λ (p : List Text × Reading). p.0) (seen name rows)
all_seen name rows = go (find (λ (r : Row). bytes_eq r.id name) rows)
  where
    go : (o : Option Row) → option_map (λ (r : Row). r.values) o ≡ option_map (λ (p : List Text × Reading). p.0)
        (option_map (λ (r : Row). (r.values, r.reading)) o)
    go None = refl
    go (Some r) = refl

first_seen : (name : Text) (rows : List Row) → first_of name rows ≡ option_and_then (λ (p : List Text × Reading). slice_get p.0 0) (seen name rows)
first_seen name rows = go (find (λ (r : Row). bytes_eq r.id name) rows)
  where
    go : (o : Option Row) → option_and_then (λ (r : Row). slice_get r.values 0) o ≡ option_and_then (λ (p : List Text × Reading). slice_get p.0 0)
        (option_map (λ (r : Row). (r.values, r.reading)) o)
    go None = refl
    go (Some r) = refl

one_seen : (name : Text) (rows : List Row)
    → one_of name rows ≡ option_and_then (λ (p : List Text × Reading). option_map (read_as p.1) (slice_get p.0 0)) (seen name rows)
one_seen name rows = go (find (λ (r : Row). bytes_eq r.id name) rows)
  where
    go : (o : Option Row) → option_and_then row_text o ≡ option_and_then (λ (p : List Text × Reading). option_map (read_as p.1) (slice_get p.0 0))
        (option_map (λ (r : Row). (r.values, r.reading)) o)
    go None = refl
    go (Some r) = refl

shown_values : (values : List Text) → option_map (λ (p : List Text × Reading). p.0) (shown values) ≡ where_some values
shown_values [] = refl
shown_values (v ∷ vs) = refl

shown_first : (values : List Text) → option_and_then (λ (p : List Text × Reading). slice_get p.0 0) (shown values) ≡ slice_get values 0
shown_first [] = refl
shown_first (v ∷ vs) = refl

shown_flag : (values : List Text) → list_all (bytes_eq (codes "true")) values ≡ true
    → option_and_then (λ (p : List Text × Reading). option_map (read_as p.1) (slice_get p.0 0)) (defaulted false true (shown values)) ≡ Some (flag_text values)
shown_flag [] all = refl
shown_flag (v ∷ vs) all =
    ap (λ (t : Text). Some t) (sym (text_same (codes "true") v (and_parts (bytes_eq (codes "true") v) (list_all (bytes_eq (codes "true")) vs) all).0))

uses_found : (table : List OptionRow) → AllFound table table → (words : List Text) (uses : List Use) → uses_from table None words ≡ Some uses
    → (rows : List Row) → HasRows rows uses → (m : ArgMatches) → rows_of (found_of m) ≡ all_defaults rows table
    → HasUses table uses (found_of m)
uses_found table each words uses reads rows has m are =
    let found = found_of m in
    let value_seen : (name : Text) → NamesValue table name → seen name (rows_of found) ≡ shown (values_for name uses) =
    λ name named. ap (seen name) are ∙ defaults_of_value table name named table each rows ∙ has name in
    record {
      values =
          λ name named. raw_values-rows found name ∙ all_seen name (rows_of found) ∙ ap (option_map (λ (p : List Text × Reading). p.0)) (value_seen name named)
          ∙ shown_values (values_for name uses);
      first = λ name named. first_value-rows found name ∙ first_seen name (rows_of found)
          ∙ ap (option_and_then (λ (p : List Text × Reading). slice_get p.0 0)) (value_seen name named) ∙ shown_first (values_for name uses);
      flags = λ row here flag. one_text-rows found row.name ∙ one_seen row.name (rows_of found)
          ∙ ap (option_and_then (λ (p : List Text × Reading). option_map (read_as p.1) (slice_get p.0 0)))
          (ap (seen row.name) are ∙ defaults_of_flag row flag table here rows ∙ ap (defaulted false true) (has row.name))
          ∙ shown_flag (values_for row.name uses) (flags_are_true table row here flag words None uses tt reads);
    }

-- the rows of the matches are those of the walk with the defaults
rows_are : (name : Text) (table : List OptionRow) (words : List Text)
    → matches_of (app name table) words ≡ all_defaults (rows_from table (walk_at (held_at [] None) idle) words) table
rows_are name table words = ap (λ (s : Shape). rows_after s.rules [] words) (built_shape name (map table_row table))

pub answered_ok : (name : Text) (table : List OptionRow) (words : List Text) → list_all is_well_formed words ≡ true → AllFound table table → (m : ArgMatches)
    → HasMatchesOf (app name table) words m → is_simple (app name table) ≡ true → fault_of (app name table) words ≡ [] → HasRead table words (found_of m)
answered_ok name table words good each m matches simple none = go (reads_words name table words good)
  where
    go : Reads table [] (faults_from name table (walk_at (held_at [] None) idle) words) (rows_from table (walk_at (held_at [] None) idle) words)
        (uses_from table None words) → HasRead table words (found_of m)
    go (Reads.refused fails twice) = absurd (fails (sym (fault_is name table words) ∙ none))
    go (Reads.well more is passes has once) = record {
      uses = more;
      are = is;
      once = once;
      has = uses_found table each words more is (rows_from table (walk_at (held_at [] None) idle) words) has m ((matches simple).0 ∙ rows_are name table words);
    }

pub answered_err : (name : Text) (table : List OptionRow) (words : List Text) → list_all is_well_formed words ≡ true → (k : ErrorKind)
    → IsAmong k (fault_of (app name table) words)
    → (uses : List Use) → uses_from table None words ≡ Some uses → IsOnce table uses → ⊥
answered_err name table words good k among uses are once = go (reads_words name table words good)
  where
    go : Reads table [] (faults_from name table (walk_at (held_at [] None) idle) words) (rows_from table (walk_at (held_at [] None) idle) words)
        (uses_from table None words) → ⊥
    go (Reads.refused fails twice) = twice uses are once
    go (Reads.well more is passes has once_too) = let bad : IsAmong k [] = subst (IsAmong k) (fault_is name table words ∙ passes) among in bad

-- ---- words that options can't have

value_is_part : (word : Text) → is_value word ≡ true → is_well_formed word ≡ true
value_is_part [] is = absurd (cc is)
value_is_part (byte ∷ []) is = is
value_is_part (a ∷ (b ∷ text)) is = go (a == 45) refl is
  where
    go : (first : Bool) → (a == 45) ≡ first → not first ≡ true
        → is_part_of (a ∷ (b ∷ text)) (if first && (b == 45) then Some (name_and_value text) else None) ≡ true
    go true a_is is = absurd (true≢false (sym is))
    go false a_is is = ap not a_is

name_is_some : (table : List OptionRow) → row_of table [] ≡ None → (name : Text) (row : OptionRow) → row_of table name ≡ Some row
    → nat_lt 0 (length name) ≡ true
name_is_some table none [] row found = let bad : None ≡ Some row = sym none ∙ found in absurd (cc bad)
name_is_some table none (x ∷ xs) row found = lt-ltb 0 (length (x ∷ xs)) (omega arith)

-- what comes after a use
rest_of : (one : Use) (read : Option (List Use)) (uses : List Use) → then_uses one read ≡ Some uses → (more : List Use) × (read ≡ Some more)
rest_of one None uses is = absurd (cc is)
rest_of one (Some more) uses is = (more, refl)

-- the word is one that options may have, and the words after it give options
abbrev GoesOn : List OptionRow → Text → List Text → Type 0
GoesOn table word words = (is_well_formed word ≡ true) × ((waiting : Option Text) × (more : List Use) × (uses_from table waiting words ≡ Some more))

option_goes_on : (table : List OptionRow) → row_of table [] ≡ None → (word : Text) (words : List Text) (uses : List Use) (option : OptionWord)
    → option_word word ≡ Some option
    → (found : Option OptionRow) → row_of table option.name ≡ found → (takes : Bool) (value : Option Text) → option.value ≡ value
    → uses_after (by_found takes found value) (λ waiting. uses_from table waiting words) ≡ Some uses → GoesOn table word words
option_goes_on table none word words uses option is None found takes value value_is reads = absurd (cc reads)
option_goes_on table none word words uses option is (Some row) found true None value_is reads =
    (ap (is_part_of word) is ∙ ap (is_option_part option.name) value_is ∙ name_is_some table none option.name row found, (Some row.name, uses, reads))
option_goes_on table none word words uses option is (Some row) found false None value_is reads =
    let rest = rest_of (record { name = row.name; value = codes "true" }) (uses_from table None words) uses reads in
    (ap (is_part_of word) is ∙ ap (is_option_part option.name) value_is ∙ name_is_some table none option.name row found, (None, rest.0, rest.1))
option_goes_on table none word words uses option is (Some row) found false (Some v) value_is reads = absurd (cc reads)
option_goes_on table none word words uses option is (Some row) found true (Some v) value_is reads = go (is_value v) refl reads
  where
    go : (b : Bool) → is_value v ≡ b → uses_after (if b then WordKind.whole (record { name = row.name; value = v }) else WordKind.unknown)
        (λ waiting. uses_from table waiting words) ≡ Some uses → GoesOn table word words
    go false no_value reads = absurd (cc reads)
    go true good reads =
        let rest = rest_of (record { name = row.name; value = v }) (uses_from table None words) uses reads in
        (ap (is_part_of word) is ∙ ap (is_option_part option.name) value_is ∙ good, (None, rest.0, rest.1))

word_goes_on : (table : List OptionRow) → row_of table [] ≡ None → (word : Text) (words : List Text) (uses : List Use)
    → uses_from table None (word ∷ words) ≡ Some uses → GoesOn table word words
word_goes_on table none word words uses reads = go (option_word word) refl reads
  where
    by_row : (option : OptionWord) → option_word word ≡ Some option → (found : Option OptionRow) → row_of table option.name ≡ found
        → uses_after (kind_by_row found option.value) (λ waiting. uses_from table waiting words) ≡ Some uses → GoesOn table word words
    by_row option is None found reads = absurd (cc reads)
    by_row option is (Some row) found reads =
        option_goes_on table none word words uses option is (Some row) found (has_value row.values) option.value refl reads

    go : (o : Option OptionWord) → option_word word ≡ o → uses_after (kind_of_word table o) (λ waiting. uses_from table waiting words) ≡ Some uses
        → GoesOn table word words
    go None is reads = absurd (cc reads)
    go (Some option) is reads = by_row option is (row_of table option.name) refl reads

value_goes_on : (table : List OptionRow) (name word : Text) (words : List Text) (uses : List Use) → uses_from table (Some name) (word ∷ words) ≡ Some uses
    → GoesOn table word words
value_goes_on table name word words uses reads = go (is_value word) refl reads
  where
    go : (b : Bool) → is_value word ≡ b → (if b then then_uses (record { name = name; value = word }) (uses_from table None words) else None) ≡ Some uses
        → GoesOn table word words
    go false no_value reads = absurd (cc reads)
    go true good reads =
        let rest = rest_of (record { name = name; value = word }) (uses_from table None words) uses reads in
        (value_is_part word good, (None, rest.0, rest.1))

-- each word of options is one that options may have
pub are_well_formed : (table : List OptionRow) → row_of table [] ≡ None → (words : List Text) (waiting : Option Text) (uses : List Use)
    → uses_from table waiting words ≡ Some uses → list_all is_well_formed words ≡ true
are_well_formed table none [] waiting uses reads = refl
are_well_formed table none (word ∷ words) None uses reads =
    let on = word_goes_on table none word words uses reads in
    and_from _ _ on.0 (are_well_formed table none words on.1.0 on.1.1 on.1.2)
are_well_formed table none (word ∷ words) (Some name) uses reads =
    let on = value_goes_on table name word words uses reads in
    and_from _ _ on.0 (are_well_formed table none words on.1.0 on.1.1 on.1.2)
