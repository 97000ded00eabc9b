-- The walk of `clap` over the words, and the options that they give.
use Rattle.std.proofs.Common.{◌≡◌, ◌∙◌, ℕ, ◌==◌, Bool, true, false, List, [], ◌∷◌, ◌++◌, map, Option, Some, None, refl, sym}
use Rattle.std.proofs.Common.{ap, ap₂, subst, bytes_eq, fold, if◌then◌else◌, append_assoc, option_map}
use Rattle.std.specs.Option.{option_map_or}
use Rattle.clap.specs.Walk.{Held, Row, Rule, Step, Text, Waiting, Walk, after_flag, after_step, arg_by_id, arg_by_long, long_met, long_or_other}
use Rattle.clap.specs.Walk.{plain_word, settled, short_or_plain, subcommand_met, subcommand_or_other, takes_values, walked}
use Rattle.clap.specs.Simple.{Shape as Command}
use Rattle.clap.specs.Kinds.{Kinds, or_else}
use Rattle.clap.specs.Faults.{bundle_fault, flag_word_fault, long_fault, other_fault, settle_fault, step_fault, turn_fault, walk_fault}
use Rattle.clap.proofs.WalkLemmas.{find-map}
use Rattle.clap.specs.Lexer.{long_of, short_of}
use Rattle.command_words.specs.Options.{OptionRow, Use, has_value, row_of, then_uses}
use Rattle.command_words.specs.inner.Read.{IsOnce, PlainRow, table_row, takes_of}
use Rattle.command_words.proofs.Texts.{found_passes, text_same}
use Rattle.command_words.proofs.Rules.{built_rule, by_id, by_long, find_plain, rules_for, shape_for}
use Rattle.command_words.proofs.Rows.{HasRows}
use Rattle.command_words.proofs.Shapes.{dashes}

-- the options of a table, as `clap` has them
abbrev pub rules : List OptionRow → List Rule
rules table = rules_for (map table_row table)

abbrev pub rule : OptionRow → Rule
rule row = built_rule (table_row row)

abbrev pub command_for : List ℕ → List OptionRow → Command
command_for name table = shape_for name (map table_row table)

-- ---- searches in the table

mapped_twice : (found : Option OptionRow) → option_map built_rule (option_map table_row found) ≡ option_map rule found
mapped_twice None = refl
mapped_twice (Some row) = refl

plain_found : (table : List OptionRow) (name : Text) → find_plain (map table_row table) name ≡ option_map table_row (row_of table name)
plain_found table name = sym (find-map (λ (row : PlainRow). bytes_eq row.name name) table_row table)

pub long_found : (table : List OptionRow) (name : Text) → arg_by_long (rules table) name ≡ option_map rule (row_of table name)
long_found table name = by_long (map table_row table) name ∙ ap (option_map built_rule) (plain_found table name) ∙ mapped_twice (row_of table name)

pub id_found : (table : List OptionRow) (name : Text) → arg_by_id (rules table) name ≡ option_map rule (row_of table name)
id_found table name = by_id (map table_row table) name ∙ ap (option_map built_rule) (plain_found table name) ∙ mapped_twice (row_of table name)

pub row_itself : (table : List OptionRow) (name : Text) (row : OptionRow) → row_of table name ≡ Some row → row_of table row.name ≡ Some row
row_itself table name row found =
    let same : row.name ≡ name = text_same row.name name (found_passes (λ (r : OptionRow). bytes_eq r.name name) table row found) in
    ap (row_of table) same ∙ found

pub takes_as_table : (row : OptionRow) → takes_values (rule row) ≡ has_value row.values
takes_as_table row = go (has_value row.values) (row.most == 1)
  where
    go : (value single : Bool) → takes_values (built_rule (record { name = row.name; takes = takes_of value single })) ≡ value
    go true true = refl
    go true false = refl
    go false single = refl

-- ---- one word

-- between two words, with this held
abbrev pub walk_at : Held → Waiting → Walk
walk_at h waiting = record { held = h; waiting = waiting; position = 1; is_trailing = false; stopped = None }

abbrev pub met_flag : List Rule → Waiting → Text → Option Rule → Option Text → Held → Held × Step
met_flag c waiting word found value h = after_flag c waiting word (long_met c found value h).0 (long_met c found value h).1

abbrev pub option_turn : Command → Waiting → Text → Option Rule → Option Text → Held → Kinds
option_turn s waiting word found value h =
    or_else (long_fault s.rules false found value h)
    (step_fault s 1 (met_flag s.rules waiting word found value h).0 (met_flag s.rules waiting word found value h).1)

pub turn_of_option : (name : Text) (table : List OptionRow) (waiting : Waiting) (word option : Text) (value : Option Text) (h : Held)
    → subcommand_met [] waiting word ≡ None
    → bytes_eq word dashes ≡ false → long_of word ≡ Some (option, value)
    → turn_fault (command_for name table) [] (walk_at h waiting) word ≡ option_turn (command_for name table) waiting word
    (option_map rule (row_of table option)) value h
turn_of_option name table waiting word option value h no_command no_end long =
    let s = command_for name table in
    ap (λ (sub : Option Text). or_else (other_fault s sub word h)
    (step_fault s 1 (subcommand_or_other s.rules sub waiting 1 word h).0 (subcommand_or_other s.rules sub waiting 1 word h).1)) no_command
    ∙ ap₂ (λ (b : Bool) (l : Option (Text × Option Text)). or_else (if b then [] else flag_word_fault s.rules false l word h)
    (step_fault s 1 (if b then (h, Step.trailing 1) else long_or_other s.rules waiting word l h).0
    (if b then (h, Step.trailing 1) else long_or_other s.rules waiting word l h).1)) no_end long
    ∙ ap (λ (found : Option Rule). option_turn s waiting word found value h) (long_found table option)

pub walk_of_option : (table : List OptionRow) (waiting : Waiting) (word option : Text) (value : Option Text) (h : Held) → subcommand_met [] waiting word ≡ None
    → bytes_eq word dashes ≡ false → long_of word ≡ Some (option, value)
    → walked (rules table) [] (walk_at h waiting) word ≡ after_step (rules table) word (walk_at h waiting)
    (met_flag (rules table) waiting word (option_map rule (row_of table option)) value h).0
    (met_flag (rules table) waiting word (option_map rule (row_of table option)) value h).1
unfolding walked
walk_of_option table waiting word option value h no_command no_end long =
    let c = rules table in
    let after : Held × Step → Walk = λ p. after_step c word (walk_at h waiting) p.0 p.1 in
    ap (λ (sub : Option Text). after (subcommand_or_other c sub waiting 1 word h)) no_command
    ∙ ap₂ (λ (b : Bool) (l : Option (Text × Option Text)). after (if b then (h, Step.trailing 1) else long_or_other c waiting word l h)) no_end long
    ∙ ap (λ (found : Option Rule). after (met_flag c waiting word found value h)) (long_found table option)

pub turn_of_plain : (name : Text) (table : List OptionRow) (waiting : Waiting) (word : Text) (h : Held) → subcommand_met [] waiting word ≡ None
    → bytes_eq word dashes ≡ false
    → long_of word ≡ None → short_of word ≡ None
    → turn_fault (command_for name table) [] (walk_at h waiting) word ≡ step_fault (command_for name table) 1 (plain_word (rules table) waiting word h).0
    (plain_word (rules table) waiting word h).1
turn_of_plain name table waiting word h no_command no_end no_long no_short =
    let s = command_for name table in
    ap
    (λ (sub : Option Text). or_else (other_fault s sub word h)
    (step_fault s 1 (subcommand_or_other s.rules sub waiting 1 word h).0 (subcommand_or_other s.rules sub waiting 1 word h).1)) no_command
    ∙ ap₂ (λ (b : Bool) (l : Option (Text × Option Text)). or_else (if b then [] else flag_word_fault s.rules false l word h)
    (step_fault s 1 (if b then (h, Step.trailing 1) else long_or_other s.rules waiting word l h).0
    (if b then (h, Step.trailing 1) else long_or_other s.rules waiting word l h).1)) no_end no_long
    ∙ ap (λ (f : Option Text). or_else (option_map_or (λ flags. bundle_fault s.rules false flags h) f [])
    (step_fault s 1 (short_or_plain s.rules waiting word f h).0 (short_or_plain s.rules waiting word f h).1)) no_short

pub walk_of_plain : (table : List OptionRow) (waiting : Waiting) (word : Text) (h : Held) → subcommand_met [] waiting word ≡ None → bytes_eq word dashes ≡ false
    → long_of word ≡ None → short_of word ≡ None
    → walked (rules table) [] (walk_at h waiting) word ≡ after_step (rules table) word (walk_at h waiting) (plain_word (rules table) waiting word h).0
    (plain_word (rules table) waiting word h).1
unfolding walked
walk_of_plain table waiting word h no_command no_end no_long no_short =
    let c = rules table in
    let after : Held × Step → Walk = λ p. after_step c word (walk_at h waiting) p.0 p.1 in
    ap (λ (sub : Option Text). after (subcommand_or_other c sub waiting 1 word h)) no_command
    ∙ ap₂ (λ (b : Bool) (l : Option (Text × Option Text)). after (if b then (h, Step.trailing 1) else long_or_other c waiting word l h)) no_end no_long
    ∙ ap (λ (f : Option Text). after (short_or_plain c waiting word f h)) no_short

-- ---- what is left of the walk

-- the faults from here on, with that of the option that is held at the end
abbrev pub faults_from : Text → List OptionRow → Walk → List Text → Kinds
faults_from name table w words =
    or_else (walk_fault (command_for name table) [] w words) (settle_fault (rules table) false (fold (walked (rules table) []) w words).held)

abbrev pub rows_from : List OptionRow → Walk → List Text → List Row
rows_from table w words = (settled (rules table) (fold (walked (rules table) []) w words).held).rows

-- what the words from here on come to, after these uses
pub data Reads (table : List OptionRow) (uses : List Use) (fault : Kinds) (rows : List Row) (read : Option (List Use)) : Type 0 where
  refused : (fault ≡ [] → ⊥) → ((more : List Use) → read ≡ Some more → IsOnce table (uses ++ more) → ⊥) → Reads table uses fault rows read
  well : (more : List Use) → read ≡ Some more → fault ≡ [] → HasRows rows (uses ++ more) → IsOnce table (uses ++ more) → Reads table uses fault rows read

abbrev pub ReadsFrom : Text → List OptionRow → List Use → Walk → List Text → Option (List Use) → Type 0
ReadsFrom name table uses w words read = Reads table uses (faults_from name table w words) (rows_from table w words) read

pub first_fails : (a b c : Kinds) → (a ≡ [] → ⊥) → or_else (or_else a b) c ≡ [] → ⊥
first_fails [] b c fails none = fails refl
first_fails (k ∷ ks) b c fails none = cc none

pub word_fails : (name : Text) (table : List OptionRow) (w : Walk) (word : Text) (words : List Text) → (turn_fault (command_for name table) [] w word ≡ [] → ⊥)
    → faults_from name table w (word ∷ words) ≡ [] → ⊥
unfolding walk_fault
word_fails name table w word words fails none = first_fails (turn_fault (command_for name table) [] w word) _ _ fails none

pub word_passes : (name : Text) (table : List OptionRow) (uses : List Use) (w later : Walk) (word : Text) (words : List Text) (read : Option (List Use))
    → turn_fault (command_for name table) [] w word ≡ []
    → walked (rules table) [] w word ≡ later → ReadsFrom name table uses later words read → ReadsFrom name table uses w (word ∷ words) read
unfolding walk_fault
word_passes name table uses w later word words read passes step reads =
    let s = command_for name table in
    let c = rules table in
    let next = walked c [] w word in
    let here : ReadsFrom name table uses next words read = subst (λ (x : Walk). ReadsFrom name table uses x words read) (sym step) reads in
    subst (λ (k : Kinds). Reads table uses (or_else (or_else k (walk_fault s [] next words)) (settle_fault c false (fold (walked c []) next words).held))
    (rows_from table next words) read) (sym passes) here

-- the rest gives these uses after one
pub with_first : (name : Text) (table : List OptionRow) (uses : List Use) (one : Use) (w : Walk) (words : List Text) (read : Option (List Use))
    → ReadsFrom name table (uses ++ one ∷ []) w words read
    → ReadsFrom name table uses w words (then_uses one read)
with_first name table uses one w words read (Reads.refused fails twice) = Reads.refused fails (λ more is once. go read more is once twice)
  where
    go : (read : Option (List Use)) (more : List Use) → then_uses one read ≡ Some more → IsOnce table (uses ++ more)
        → ((others : List Use) → read ≡ Some others → IsOnce table ((uses ++ one ∷ []) ++ others) → ⊥) → ⊥
    go None more is once twice = absurd (cc is)
    go (Some others) more is once twice =
        let same : one ∷ others ≡ more = cc is in
        twice others refl (subst (λ (l : List Use). IsOnce table l)
        (ap (λ (l : List Use). uses ++ l) (sym same) ∙ sym (append_assoc uses (one ∷ []) others)) once)
with_first name table uses one w words read (Reads.well more is none has once) =
    let regroup = append_assoc uses (one ∷ []) more in
    Reads.well (one ∷ more) (ap (then_uses one) is) none (subst (HasRows (rows_from table w words)) regroup has) (subst (IsOnce table) regroup once)

-- what is held passes, and gives these uses
pub data Settles (table : List OptionRow) (uses : List Use) (h : Held) : Type 0 where
  twice : (settle_fault (rules table) false h ≡ [] → ⊥) → ((more : List Use) → IsOnce table (uses ++ more) → ⊥) → Settles table uses h
  passes : settle_fault (rules table) false h ≡ [] → HasRows (settled (rules table) h).rows uses → IsOnce table uses → Settles table uses h
