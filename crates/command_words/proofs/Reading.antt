-- The walk of `clap` over the words of a command gives the options that the words give, by the table.
use Rattle.std.proofs.Common.{◌≡◌, ◌∙◌, ℕ, ◌==◌, Bool, true, false, List, [], ◌∷◌, ◌++◌, Option, Some, None, refl, sym, ap, ap₂, subst, bytes_eq}
use Rattle.std.proofs.Common.{is_some, if◌then◌else◌, nat_lt, codes, append-nil, append_assoc, map, option_map, arith}
use Rattle.std.specs.List.{list_all}
use Rattle.std.specs.Option.{option_map_or}
use Rattle.std.proofs.lemmas.Bool.{and_parts}
use Rattle.clap.specs.Walk.{Held, Outcome, Row, Rule, Text, Waiting, Walk, after_flag, after_step, arg_by_id, flag_met, most_values}
use Rattle.clap.specs.Walk.{option_met, option_word as value_met, settled, takes_values, used, used_by_id, walked}
use Rattle.clap.specs.Simple.{Shape as Command}
use Rattle.clap.specs.Kinds.{Kinds, or_else}
use Rattle.clap.specs.Faults.{option_fault, positional_fault, react_fault, settle_fault, step_fault, stray_fault, turn_fault, use_fault, walk_fault}
use Rattle.clap.specs.declared.error.kind.ErrorKind.TheVariants as kind
use Rattle.clap.specs.Lexer.{long_of, short_of}
use Rattle.command_words.specs.Options.{OptionRow, OptionWord, Use, WordKind, has_value, is_value, kind_by_row, kind_of_option}
use Rattle.command_words.specs.Options.{kind_of_word, option_word, row_of, then_uses, uses_after, uses_from}
use Rattle.command_words.specs.inner.Read.{IsOnce, is_well_formed, table_row, takes_of}
use Rattle.command_words.proofs.Texts.{text_self}
use Rattle.command_words.proofs.Rules.{built_rule, none_by_index}
use Rattle.command_words.proofs.Rows.{HasRows}
use Rattle.command_words.proofs.Steps.{Used, use_flag, use_of, use_value}
use Rattle.command_words.proofs.Shapes.{Shape, dashes, shape_of}
use Rattle.command_words.proofs.Walks.{Reads, ReadsFrom, Settles, command_for, id_found, met_flag, option_turn, row_itself, rule, rules, takes_as_table}
use Rattle.command_words.proofs.Walks.{turn_of_option, turn_of_plain, walk_at, walk_of_option, walk_of_plain, with_first, word_fails, word_passes}

-- what is held between two words
abbrev pub held_at : List Row → Option (Text × List Text) → Held
held_at rows pending = record { rows = rows; pending = pending; skip = 0 }

-- ---- the turn of an option of the table

abbrev fault_by : List Rule → Bool → Rule → Option Text → Held → Kinds
fault_by c takes r value h = if takes then option_fault c false r value h else (if is_some value then kind.TooManyValues ∷ [] else react_fault c false r [] h)

abbrev met_by : List Rule → Bool → Rule → Option Text → Held → Held × Outcome
met_by c takes r value h = if takes then option_met c r value h else flag_met c r value h

abbrev turn_by : Command → Bool → Rule → Text → Option Text → Held → Kinds
turn_by s takes r word value h =
    or_else (fault_by s.rules takes r value h)
    (step_fault s 1 (after_flag s.rules Waiting.idle word (met_by s.rules takes r value h).0 (met_by s.rules takes r value h).1).0
    (after_flag s.rules Waiting.idle word (met_by s.rules takes r value h).0 (met_by s.rules takes r value h).1).1)

abbrev walk_by : List Rule → Bool → Rule → Text → Option Text → Held → Walk
walk_by c takes r word value h =
    after_step c word (walk_at h Waiting.idle) (after_flag c Waiting.idle word (met_by c takes r value h).0 (met_by c takes r value h).1).0
    (after_flag c Waiting.idle word (met_by c takes r value h).0 (met_by c takes r value h).1).1

left_none : (a b : Kinds) → or_else a b ≡ [] → a ≡ []
left_none [] b none = refl
left_none (k ∷ ks) b none = absurd (cc none)

-- what is held fails: so does the turn of any option
held_fails : (name : Text) (table : List OptionRow) (waiting : Waiting) (word : Text) (value : Option Text) (h : Held)
    → (settle_fault (rules table) false h ≡ [] → ⊥)
    → (found : Option OptionRow) → option_turn (command_for name table) waiting word (option_map rule found) value h ≡ [] → ⊥
held_fails name table waiting word value h fails None none = cc none
held_fails name table waiting word value h fails (Some row) none = go (takes_values (rule row)) value (left_none _ _ none)
  where
    go : (b : Bool) (v : Option Text) → fault_by (rules table) b (rule row) v h ≡ [] → ⊥
    go true None none = fails none
    go true (Some x) none = fails (left_none _ _ none)
    go false None none = fails (left_none _ _ none)
    go false (Some x) none = cc none

-- ---- what the words come to, from each of the states between two words

abbrev FromNone : Text → List OptionRow → List Text → Type 0
FromNone name table words = (rows : List Row) (uses : List Use) → HasRows rows uses → IsOnce table uses
    → ReadsFrom name table uses (walk_at (held_at rows None) Waiting.idle) words (uses_from table None words)

abbrev FromBegun : Text → List OptionRow → List Text → Type 0
FromBegun name table words =
    (rows : List Row) (uses : List Use) (row : OptionRow) → row_of table row.name ≡ Some row → has_value row.values ≡ true → HasRows rows uses
    → IsOnce table uses
    → ReadsFrom name table uses (walk_at (held_at rows (Some (row.name, []))) (Waiting.option row.name)) words (uses_from table (Some row.name) words)

abbrev FromEnded : Text → List OptionRow → List Text → Type 0
FromEnded name table words =
    (rows : List Row) (uses : List Use) (row : OptionRow) (value : Text) → row_of table row.name ≡ Some row → has_value row.values ≡ true → HasRows rows uses
    → IsOnce table uses
    → ReadsFrom name table (uses ++ use_of row value ∷ []) (walk_at (held_at rows (Some (row.name, value ∷ []))) Waiting.idle) words
    (uses_from table None words)

-- ---- what is held

settles_none : (table : List OptionRow) (rows : List Row) (uses : List Use) → HasRows rows uses → IsOnce table uses → Settles table uses (held_at rows None)
settles_none table rows uses has once = Settles.passes refl has once

row_by_id : (table : List OptionRow) (row : OptionRow) → row_of table row.name ≡ Some row → arg_by_id (rules table) row.name ≡ Some (rule row)
row_by_id table row here = id_found table row.name ∙ ap (option_map rule) here

settles_ended : (table : List OptionRow) (rows : List Row) (uses : List Use) (row : OptionRow) (value : Text) → row_of table row.name ≡ Some row
    → has_value row.values ≡ true
    → HasRows rows uses → IsOnce table uses → Settles table (uses ++ use_of row value ∷ []) (held_at rows (Some (row.name, value ∷ [])))
settles_ended table rows uses row value here takes has once = go (use_value table uses row value rows here takes has once)
  where
    go : Used table uses (use_of row value) (use_fault false (rule row) (value ∷ []) rows) (used (rule row) (value ∷ []) rows)
        → Settles table (uses ++ use_of row value ∷ []) (held_at rows (Some (row.name, value ∷ [])))
    go (Used.twice fails twice) =
        Settles.twice
        (λ none. fails (sym (ap (λ (o : Option Rule). option_map_or (λ a. use_fault false a (value ∷ []) rows) o []) (row_by_id table row here)) ∙ none)) twice
    go (Used.added none now once_now) =
        Settles.passes (ap (λ (o : Option Rule). option_map_or (λ a. use_fault false a (value ∷ []) rows) o []) (row_by_id table row here) ∙ none)
        (subst (λ (rs : List Row). HasRows rs (uses ++ use_of row value ∷ []))
        (sym (ap (λ (o : Option Rule). used_by_id o (value ∷ []) rows) (row_by_id table row here))) now) once_now

begun_fails : (table : List OptionRow) (rows : List Row) (row : OptionRow) → row_of table row.name ≡ Some row → has_value row.values ≡ true
    → settle_fault (rules table) false (held_at rows (Some (row.name, []))) ≡ [] → ⊥
begun_fails table rows row here takes none =
    go (row.most == 1) (ap (λ (b : Bool). use_fault false (built_rule (record { name = row.name; takes = takes_of b (row.most == 1) })) [] rows) (sym takes)
    ∙ sym (ap (λ (o : Option Rule). option_map_or (λ a. use_fault false a [] rows) o []) (row_by_id table row here)) ∙ none)
  where
    go : (single : Bool) → use_fault false (built_rule (record { name = row.name; takes = takes_of true single })) [] rows ≡ [] → ⊥
    go true none = cc none
    go false none = cc none

-- ---- an option's word

-- the word's turn, where the option is in the table
turn_found : (name : Text) (table : List OptionRow) (h : Held) (word option : Text) (value : Option Text) (row : OptionRow) (takes : Bool)
    → bytes_eq word dashes ≡ false → long_of word ≡ Some (option, value)
    → row_of table option ≡ Some row → has_value row.values ≡ takes
    → turn_fault (command_for name table) [] (walk_at h Waiting.idle) word ≡ turn_by (command_for name table) takes (rule row) word value h
turn_found name table h word option value row takes no_end long found is =
    turn_of_option name table Waiting.idle word option value h refl no_end long
    ∙ ap (λ (f : Option OptionRow). option_turn (command_for name table) Waiting.idle word (option_map rule f) value h) found
    ∙ ap (λ (t : Bool). turn_by (command_for name table) t (rule row) word value h) (takes_as_table row ∙ is)

walk_found : (table : List OptionRow) (h : Held) (word option : Text) (value : Option Text) (row : OptionRow) (takes : Bool) → bytes_eq word dashes ≡ false
    → long_of word ≡ Some (option, value)
    → row_of table option ≡ Some row → has_value row.values ≡ takes
    → walked (rules table) [] (walk_at h Waiting.idle) word ≡ walk_by (rules table) takes (rule row) word value h
walk_found table h word option value row takes no_end long found is =
    walk_of_option table Waiting.idle word option value h refl no_end long
    ∙ ap (λ (f : Option OptionRow). after_step (rules table) word (walk_at h Waiting.idle)
    (met_flag (rules table) Waiting.idle word (option_map rule f) value h).0
    (met_flag (rules table) Waiting.idle word (option_map rule f) value h).1) found
    ∙ ap (λ (t : Bool). walk_by (rules table) t (rule row) word value h) (takes_as_table row ∙ is)

-- a word that is a whole use of an option, whose fault and rows are these
by_use : (name : Text) (table : List OptionRow) (h : Held) (uses : List Use) (one : Use) (word : Text) (words : List Text) (fault : Kinds) (rows : List Row)
    (read : Option (List Use))
    → turn_fault (command_for name table) [] (walk_at h Waiting.idle) word ≡ or_else (or_else (settle_fault (rules table) false h) fault) []
    → walked (rules table) [] (walk_at h Waiting.idle) word ≡ walk_at (held_at rows None) Waiting.idle
    → Settles table uses h → (HasRows (settled (rules table) h).rows uses → IsOnce table uses → Used table uses one fault rows)
    → (HasRows rows (uses ++ one ∷ []) → IsOnce table (uses ++ one ∷ [])
    → ReadsFrom name table (uses ++ one ∷ []) (walk_at (held_at rows None) Waiting.idle) words read)
    → ReadsFrom name table (uses ++ one ∷ []) (walk_at h Waiting.idle) (word ∷ words) read
by_use name table h uses one word words fault rows read turn walk (Settles.twice fails twice) does later =
    Reads.refused (word_fails name table (walk_at h Waiting.idle) word words (λ none. fails (left_none _ fault (left_none _ [] (sym turn ∙ none)))))
    (λ more is once. twice ((one ∷ []) ++ more) (subst (λ (l : List Use). IsOnce table l) (append_assoc uses (one ∷ []) more) once))
by_use name table h uses one word words fault rows read turn walk (Settles.passes settles has once) does later = go (does has once)
  where
    go : Used table uses one fault rows → ReadsFrom name table (uses ++ one ∷ []) (walk_at h Waiting.idle) (word ∷ words) read
    go (Used.twice fails twice) =
        Reads.refused (word_fails name table (walk_at h Waiting.idle) word words
        (λ none. fails (sym (ap (λ (k : Kinds). or_else k fault) settles) ∙ left_none _ [] (sym turn ∙ none))))
        (λ more is once. twice more once)
    go (Used.added none now once_now) =
        word_passes name table (uses ++ one ∷ []) (walk_at h Waiting.idle) (walk_at (held_at rows None) Waiting.idle) word words read
        (turn ∙ ap₂ (λ (a b : Kinds). or_else (or_else a b) []) settles none) walk (later now once_now)

-- a word that begins a use, whose value is the next word
by_begun : (name : Text) (table : List OptionRow) (h : Held) (uses : List Use) (word : Text) (words : List Text) (later : Walk) (read : Option (List Use))
    → turn_fault (command_for name table) [] (walk_at h Waiting.idle) word ≡ or_else (settle_fault (rules table) false h) []
    → walked (rules table) [] (walk_at h Waiting.idle) word ≡ later → Settles table uses h
    → (HasRows (settled (rules table) h).rows uses → IsOnce table uses → ReadsFrom name table uses later words read)
    → ReadsFrom name table uses (walk_at h Waiting.idle) (word ∷ words) read
by_begun name table h uses word words later read turn walk (Settles.twice fails twice) reads =
    Reads.refused (word_fails name table (walk_at h Waiting.idle) word words (λ none. fails (left_none _ [] (sym turn ∙ none))))
    (λ more is once. twice more once)
by_begun name table h uses word words later read turn walk (Settles.passes settles has once) reads =
    word_passes name table uses (walk_at h Waiting.idle) later word words read (turn ∙ ap (λ (k : Kinds). or_else k []) settles) walk (reads has once)

by_takes : (name : Text) (table : List OptionRow) (rows : List Row) (pending : Option (Text × List Text)) (uses : List Use)
    → Settles table uses (held_at rows pending)
    → (word option : Text) → bytes_eq word dashes ≡ false → (row : OptionRow) → row_of table option ≡ Some row
    → (words : List Text) → FromNone name table words → FromBegun name table words
    → (takes : Bool) → has_value row.values ≡ takes → (value : Option Text) → long_of word ≡ Some (option, value)
    → ((v : Text) → value ≡ Some v → is_value v ≡ true)
    → ReadsFrom name table uses (walk_at (held_at rows pending) Waiting.idle) (word ∷ words)
    (uses_after (kind_of_option takes row.name value) (λ waiting. uses_from table waiting words))
by_takes name table rows pending uses settles word option no_end row found words from_none from_begun true takes None long good =
    let h = held_at rows pending in
    let here = row_itself table option row found in
    by_begun name table h uses word words (walk_at (held_at (settled (rules table) h).rows (Some (row.name, []))) (Waiting.option row.name))
    (uses_from table (Some row.name) words)
    (turn_found name table h word option None row true no_end long found takes) (walk_found table h word option None row true no_end long found takes) settles
    (λ has once. from_begun (settled (rules table) h).rows uses row here takes has once)
by_takes name table rows pending uses settles word option no_end row found words from_none from_begun true takes (Some v) long good =
    let h = held_at rows pending in
    let here = row_itself table option row found in
    let next = uses_from table None words in
    let one = use_of row v in
    let found_rows = used (rule row) (v ∷ []) (settled (rules table) h).rows in
    let read : uses_after (kind_of_option true row.name (Some v)) (λ waiting. uses_from table waiting words) ≡ then_uses one next =
    ap (λ (b : Bool). uses_after (if b then WordKind.whole one else WordKind.unknown) (λ waiting. uses_from table waiting words)) (good v refl) in
    subst (λ (r : Option (List Use)). ReadsFrom name table uses (walk_at h Waiting.idle) (word ∷ words) r) (sym read)
    (with_first name table uses one (walk_at h Waiting.idle) (word ∷ words) next
    (by_use name table h uses one word words (use_fault false (rule row) (v ∷ []) (settled (rules table) h).rows) found_rows next
    (turn_found name table h word option (Some v) row true no_end long found takes)
    (walk_found table h word option (Some v) row true no_end long found takes) settles
    (λ has once. use_value table uses row v (settled (rules table) h).rows here takes has once)
    (λ has once. from_none found_rows (uses ++ one ∷ []) has once)))
by_takes name table rows pending uses settles word option no_end row found words from_none from_begun false takes None long good =
    let h = held_at rows pending in
    let here = row_itself table option row found in
    let next = uses_from table None words in
    let one = use_of row (codes "true") in
    let found_rows = used (rule row) [] (settled (rules table) h).rows in
    with_first name table uses one (walk_at h Waiting.idle) (word ∷ words) next
    (by_use name table h uses one word words (use_fault false (rule row) [] (settled (rules table) h).rows) found_rows next
    (turn_found name table h word option None row false no_end long found takes) (walk_found table h word option None row false no_end long found takes) settles
    (λ has once. use_flag table uses row (settled (rules table) h).rows here takes has once)
    (λ has once. from_none found_rows (uses ++ one ∷ []) has once))
by_takes name table rows pending uses settles word option no_end row found words from_none from_begun false takes (Some v) long good =
    Reads.refused (word_fails name table (walk_at (held_at rows pending) Waiting.idle) word words
    (λ none. let bad : kind.TooManyValues ∷ [] ≡ [] = sym (turn_found name table (held_at rows pending) word option (Some v) row false no_end long found takes)
    ∙ none in cc bad))
    (λ more is once. cc is)

by_row : (name : Text) (table : List OptionRow) (rows : List Row) (pending : Option (Text × List Text)) (uses : List Use)
    → Settles table uses (held_at rows pending)
    → (word option : Text) (value : Option Text) → long_of word ≡ Some (option, value) → bytes_eq word dashes ≡ false
    → ((v : Text) → value ≡ Some v → is_value v ≡ true)
    → (words : List Text) → FromNone name table words → FromBegun name table words → (found : Option OptionRow) → row_of table option ≡ found
    → ReadsFrom name table uses (walk_at (held_at rows pending) Waiting.idle) (word ∷ words)
    (uses_after (kind_by_row found value) (λ waiting. uses_from table waiting words))
by_row name table rows pending uses settles word option value long no_end good words from_none from_begun None found =
    let h = held_at rows pending in
    Reads.refused (word_fails name table (walk_at h Waiting.idle) word words
    (λ none. let bad : kind.UnknownArgument ∷ [] ≡ [] = sym (turn_of_option name table Waiting.idle word option value h refl no_end long
    ∙ ap (λ (f : Option OptionRow). option_turn (command_for name table) Waiting.idle word (option_map rule f) value h) found) ∙ none in cc bad))
    (λ more is once. cc is)
by_row name table rows pending uses settles word option value long no_end good words from_none from_begun (Some row) found =
    by_takes name table rows pending uses settles word option no_end row found words from_none from_begun (has_value row.values) refl value long good

option_from : (name : Text) (table : List OptionRow) (rows : List Row) (pending : Option (Text × List Text)) (uses : List Use)
    → Settles table uses (held_at rows pending)
    → (word option : Text) (value : Option Text) → option_word word ≡ Some (record { name = option; value = value }) → long_of word ≡ Some (option, value)
    → bytes_eq word dashes ≡ false
    → ((v : Text) → value ≡ Some v → is_value v ≡ true) → (words : List Text) → FromNone name table words → FromBegun name table words
    → ReadsFrom name table uses (walk_at (held_at rows pending) Waiting.idle) (word ∷ words) (uses_from table None (word ∷ words))
option_from name table rows pending uses settles word option value is long no_end good words from_none from_begun =
    subst (λ (r : Option (List Use)). ReadsFrom name table uses (walk_at (held_at rows pending) Waiting.idle) (word ∷ words) r)
    (sym (ap (λ (o : Option OptionWord). uses_after (kind_of_word table o) (λ waiting. uses_from table waiting words)) is))
    (by_row name table rows pending uses settles word option value long no_end good words from_none from_begun (row_of table option) refl)

-- a value where no option waits for one
plain_from : (name : Text) (table : List OptionRow) (h : Held) (uses : List Use) (word : Text) → option_word word ≡ None → long_of word ≡ None
    → short_of word ≡ None → bytes_eq word dashes ≡ false
    → (words : List Text) → ReadsFrom name table uses (walk_at h Waiting.idle) (word ∷ words) (uses_from table None (word ∷ words))
plain_from name table h uses word is long short no_end words =
    let s = command_for name table in
    let stray : turn_fault s [] (walk_at h Waiting.idle) word ≡ kind.UnknownArgument ∷ [] =
    turn_of_plain name table Waiting.idle word h refl no_end long short
    ∙ ap (λ (o : Option Rule). option_map_or (λ a. positional_fault s.rules false a h) o (stray_fault s)) (none_by_index (map table_row table) 1) in
    Reads.refused (word_fails name table (walk_at h Waiting.idle) word words (λ none. let bad : kind.UnknownArgument ∷ [] ≡ [] = sym stray ∙ none in cc bad))
    (λ more reads once. go more (sym (ap (λ (o : Option OptionWord). uses_after (kind_of_word table o) (λ waiting. uses_from table waiting words)) is) ∙ reads))
  where
    go : (more : List Use) → None ≡ Some more → ⊥
    go more bad = cc bad

idle_from : (name : Text) (table : List OptionRow) (rows : List Row) (pending : Option (Text × List Text)) (uses : List Use)
    → Settles table uses (held_at rows pending)
    → (word : Text) → Shape word → (words : List Text) → FromNone name table words → FromBegun name table words
    → ReadsFrom name table uses (walk_at (held_at rows pending) Waiting.idle) (word ∷ words) (uses_from table None (word ∷ words))
idle_from name table rows pending uses settles word (Shape.is_option option value is long no_end no_value good) words from_none from_begun =
    option_from name table rows pending uses settles word option value is long no_end good words from_none from_begun
idle_from name table rows pending uses settles word (Shape.is_plain is a_value long short no_end) words from_none from_begun =
    plain_from name table (held_at rows pending) uses word is long short no_end words

-- ---- where an option waits for its value

takes_one : (row : OptionRow) → has_value row.values ≡ true → most_values (rule row) ≡ 1
takes_one row takes = ap (λ (b : Bool). most_values (built_rule (record { name = row.name; takes = takes_of b (row.most == 1) }))) takes ∙ go (row.most == 1)
  where
    go : (single : Bool) → most_values (built_rule (record { name = row.name; takes = takes_of true single })) ≡ 1
    go true = refl
    go false = refl

-- the word is the value
value_held : (table : List OptionRow) (rows : List Row) (row : OptionRow) (word : Text) → row_of table row.name ≡ Some row → has_value row.values ≡ true
    → let h = held_at rows (Some (row.name, [])) in let met = value_met (arg_by_id (rules table) row.name) row.name word h in
    walk_at met.0 met.1 ≡ walk_at (held_at rows (Some (row.name, word ∷ []))) Waiting.idle
value_held table rows row word here takes =
    let h = held_at rows (Some (row.name, [])) in
    ap (λ (o : Option Rule). walk_at (value_met o row.name word h).0 (value_met o row.name word h).1) (row_by_id table row here)
    ∙ ap₂ (λ (b : Bool) (most : ℕ). walk_at (held_at rows (Some (row.name, word ∷ [])))
    (if nat_lt (if b then 1 else 0) most then Waiting.option row.name else Waiting.idle)) (text_self row.name) (takes_one row takes)

begun_from : (name : Text) (table : List OptionRow) (rows : List Row) (uses : List Use) (row : OptionRow) → row_of table row.name ≡ Some row
    → has_value row.values ≡ true
    → HasRows rows uses → IsOnce table uses → (word : Text) → Shape word → (words : List Text) → FromEnded name table words
    → ReadsFrom name table uses (walk_at (held_at rows (Some (row.name, []))) (Waiting.option row.name)) (word ∷ words)
    (uses_from table (Some row.name) (word ∷ words))
begun_from name table rows uses row here takes has once word (Shape.is_option option value is long no_end no_value good) words from_ended =
    let h = held_at rows (Some (row.name, [])) in
    Reads.refused
    (word_fails name table (walk_at h (Waiting.option row.name)) word words
    (λ none. held_fails name table (Waiting.option row.name) word value h (begun_fails table rows row here takes) (row_of table option)
    (sym (turn_of_option name table (Waiting.option row.name) word option value h refl no_end long) ∙ none)))
    (λ more reads once_more. go more (sym (ap (λ (b : Bool). if b then then_uses (use_of row word) (uses_from table None words) else None) no_value) ∙ reads))
  where
    go : (more : List Use) → None ≡ Some more → ⊥
    go more bad = cc bad
begun_from name table rows uses row here takes has once word (Shape.is_plain is a_value long short no_end) words from_ended =
    let h = held_at rows (Some (row.name, [])) in
    let waiting = Waiting.option row.name in
    let one = use_of row word in
    subst (λ (r : Option (List Use)). ReadsFrom name table uses (walk_at h waiting) (word ∷ words) r)
    (sym (ap (λ (b : Bool). if b then then_uses one (uses_from table None words) else None) a_value))
    (with_first name table uses one (walk_at h waiting) (word ∷ words) (uses_from table None words)
    (word_passes name table (uses ++ one ∷ []) (walk_at h waiting) (walk_at (held_at rows (Some (row.name, word ∷ []))) Waiting.idle) word words
    (uses_from table None words)
    (turn_of_plain name table waiting word h refl no_end long short)
    (walk_of_plain table waiting word h refl no_end long short ∙ value_held table rows row word here takes)
    (from_ended rows uses row word here takes has once)))

-- ---- all words

-- what the words come to, from each of the states
pub record FromEach (name : Text) (table : List OptionRow) (words : List Text) : Type 0 where
  pub from_none : FromNone name table words
  pub from_begun : FromBegun name table words
  pub from_ended : FromEnded name table words

at_end : (name : Text) (table : List OptionRow) (h : Held) (uses : List Use) → Settles table uses h
    → ReadsFrom name table uses (walk_at h Waiting.idle) [] (Some [])
unfolding walk_fault
at_end name table h uses (Settles.twice fails twice) =
    Reads.refused fails (λ more is once. twice more once)
at_end name table h uses (Settles.passes none has once) =
    let same = sym (append-nil uses) in
    Reads.well [] refl none (subst (HasRows (settled (rules table) h).rows) same has) (subst (IsOnce table) same once)

begun_end : (name : Text) (table : List OptionRow) (rows : List Row) (uses : List Use) (row : OptionRow) → row_of table row.name ≡ Some row
    → has_value row.values ≡ true
    → ReadsFrom name table uses (walk_at (held_at rows (Some (row.name, []))) (Waiting.option row.name)) [] None
unfolding walk_fault
begun_end name table rows uses row here takes = Reads.refused (begun_fails table rows row here takes) (λ more is once. cc is)

from_each : (name : Text) (table : List OptionRow) (words : List Text) → list_all is_well_formed words ≡ true → FromEach name table words
from_each name table [] good = record {
  from_none = λ rows uses has once. at_end name table (held_at rows None) uses (settles_none table rows uses has once);
  from_begun = λ rows uses row here takes has once. begun_end name table rows uses row here takes;
  from_ended =
      λ rows uses row value here takes has once. at_end name table (held_at rows (Some (row.name, value ∷ []))) (uses ++ use_of row value ∷ [])
      (settles_ended table rows uses row value here takes has once);
}
from_each name table (word ∷ words) good =
    let parts = and_parts (is_well_formed word) (list_all is_well_formed words) good in
    let shape = shape_of word parts.0 in
    let later = from_each name table words parts.1 in
    record {
      from_none =
          λ rows uses has once. idle_from name table rows None uses (settles_none table rows uses has once) word shape words later.from_none later.from_begun;
      from_begun = λ rows uses row here takes has once. begun_from name table rows uses row here takes has once word shape words later.from_ended;
      from_ended = λ rows uses row value here takes has once. idle_from name table rows (Some (row.name, value ∷ [])) (uses ++ use_of row value ∷ [])
          (settles_ended table rows uses row value here takes has once) word shape words later.from_none later.from_begun;
    }

no_use_once : (table : List OptionRow) → IsOnce table []
no_use_once table row here single = omega arith

-- what all the words come to
pub reads_words : (name : Text) (table : List OptionRow) (words : List Text) → list_all is_well_formed words ≡ true
    → ReadsFrom name table [] (walk_at (held_at [] None) Waiting.idle) words (uses_from table None words)
reads_words name table words good = (from_each name table words good).from_none [] [] (λ n. refl) (no_use_once table)
