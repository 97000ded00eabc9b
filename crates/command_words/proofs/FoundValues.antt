-- What the values that were found give, option by option.
use Rattle.std.proofs.Common.{◌≡◌, ◌∙◌, ℕ, ◌<◌, ◌≤◌, Bool, true, false, ◌&&◌, ◌||◌, List, [], ◌∷◌, length, nat_le, Option, Some, None}
use Rattle.std.proofs.Common.{MatchOption, refl, sym, ap, ap₂, bytes_eq, is_some, option_map, slice_get, unwrap_or, if◌then◌else◌, codes, arith}
use Rattle.std.proofs.lemmas.Bool.{le-leb, lt-leb}
use Rattle.std.specs.List.{list_all}
use Rattle.std.specs.Str.Parse.{digits_value}
use Rattle.command_words.specs.Options.{LineSpan, OptionRow, Use, Values, has_value, is_number_in, is_span_in, row_of, span_of, takes_value, values_for}
use Rattle.command_words.specs.Tables.{any_lines, tree_modes}
use Rattle.command_words.specs.Commands.{ModeOptions, is_given, lines_options, text_of, tree_mode_named, trees_options, value_of}
use Rattle.command_words.specs.inner.Found.{fitting_jobs, fitting_mode, fitting_only, fitting_spans, fitting_texts, spans_in}
use Rattle.command_words.specs.inner.Read.{NamesValue, where_some}
use Rattle.reduce_step.specs.declared.mode.TreeMode.{TreeMode}
use Rattle.reduce_step.specs.declared.mode.TreeMode.TheVariants.{Perses}
use Rattle.command_words.proofs.Texts.{both_answers, text_equal, text_same}

-- the option that this row is has a value, where a table has it
abbrev pub value_in : Option OptionRow → Bool
value_in None = true
value_in (Some row) = has_value row.values

pub named_by : (table : List OptionRow) (name : List ℕ) → value_in (row_of table name) ≡ true → NamesValue table name
named_by table name takes row found = sym (ap value_in found) ∙ takes

-- ---- one option

pub given_none : (name : List ℕ) (uses : List Use) → value_of name uses ≡ None → is_given name uses ≡ false
given_none name uses none = ap (is_some {T = List ℕ}) none

pub given_some : (name text : List ℕ) (uses : List Use) → value_of name uses ≡ Some text → (is_given name uses ≡ true) × (text_of name uses ≡ text)
given_some name text uses some = (ap (is_some {T = List ℕ}) some, ap (λ (o : Option (List ℕ)). unwrap_or o []) some)

pub no_values : (values : List (List ℕ)) → slice_get values 0 ≡ None → values ≡ []
no_values [] none = refl
no_values (v ∷ vs) none = cc none

pub one_value : (values : List (List ℕ)) (text : List ℕ) → length values ≤ 1 → slice_get values 0 ≡ Some text → values ≡ text ∷ []
one_value [] text few some = cc some
one_value (v ∷ []) text few some = let same : v ≡ text = cc some in ap (λ (x : List ℕ). x ∷ []) same
one_value (v ∷ (w ∷ vs)) text few some = absurd (omega arith)

-- ---- numbers

-- the number that these values give, where there is one
abbrev number_from : ℕ → ℕ → List (List ℕ) → Option ℕ
number_from least most values =
    if list_all (takes_value (Values.number least most)) values then Some (digits_value 10 (unwrap_or (slice_get values 0) (codes "1"))) else None

-- what is read of the text, as a test of it
pub number_read : (least most : ℕ) (text : List ℕ) (r : Option ℕ)
    → MatchOption r (is_number_in least most text ≡ false) (λ n. (is_number_in least most text ≡ true) × (n ≡ digits_value 10 text))
    → r ≡ (if is_number_in least most text && true then Some (digits_value 10 text) else None)
number_read least most text None fails = sym (ap (λ (b : Bool). if b && true then Some (digits_value 10 text) else None) fails)
number_read least most text (Some n) reads =
    ap (λ (x : ℕ). Some x) reads.1 ∙ sym (ap (λ (b : Bool). if b && true then Some (digits_value 10 text) else None) reads.0)

pub jobs_read : (uses : List Use) (text : List ℕ) (r : Option ℕ) → length (values_for (codes "jobs") uses) ≤ 1 → value_of (codes "jobs") uses ≡ Some text
    → MatchOption r (is_number_in 1 16 text ≡ false) (λ n. (is_number_in 1 16 text ≡ true) × (n ≡ digits_value 10 text)) → r ≡ fitting_jobs uses
jobs_read uses text r few some reads = number_read 1 16 text r reads ∙ sym (ap (number_from 1 16) (one_value (values_for (codes "jobs") uses) text few some))

-- ---- modes

-- the mode that these values give, where they are one
abbrev mode_from : List Use → List (List ℕ) → Option ModeOptions
mode_from uses values =
    if list_all (takes_value (Values.one_of (codes "lines" ∷ tree_modes))) values
    then (if bytes_eq (unwrap_or (slice_get values 0) []) (codes "lines") then lines_options uses else trees_options
    (tree_mode_named (unwrap_or (slice_get values 0) (codes "perses"))) uses)
    else None

pub mode_default : (uses : List Use) → value_of (codes "mode") uses ≡ None → trees_options Perses uses ≡ fitting_mode uses
mode_default uses none = sym (ap (mode_from uses) (no_values (values_for (codes "mode") uses) none))

mode_is : (uses : List Use) (text : List ℕ) → length (values_for (codes "mode") uses) ≤ 1 → value_of (codes "mode") uses ≡ Some text
    → mode_from uses (text ∷ []) ≡ fitting_mode uses
mode_is uses text few some = sym (ap (mode_from uses) (one_value (values_for (codes "mode") uses) text few some))

pub mode_of_lines : (uses : List Use) (text : List ℕ) → length (values_for (codes "mode") uses) ≤ 1 → value_of (codes "mode") uses ≡ Some text
    → bytes_eq text (codes "lines") ≡ true → lines_options uses ≡ fitting_mode uses
mode_of_lines uses text few some is =
    sym (ap (λ (t : List ℕ). mode_from uses (t ∷ [])) (text_same text (codes "lines") is)) ∙ mode_is uses text few some

-- a mode of trees isn't that of lines
other_mode : (text : List ℕ) → bytes_eq text (codes "lines") ≡ false → bytes_eq (codes "lines") text ≡ false
other_mode text other = go (bytes_eq (codes "lines") text) refl
  where
    go : (b : Bool) → bytes_eq (codes "lines") text ≡ b → b ≡ false
    go false is = refl
    go true is = absurd (both_answers (bytes_eq text (codes "lines")) (text_equal text (codes "lines") (sym (text_same (codes "lines") text is))) other)

mode_takes : (text : List ℕ) (b : Bool) → bytes_eq text (codes "lines") ≡ false → takes_value (Values.one_of tree_modes) text ≡ b
    → takes_value (Values.one_of (codes "lines" ∷ tree_modes)) text ≡ b
mode_takes text b other takes = ap₂ (λ (x y : Bool). x || y) (other_mode text other) takes

pub mode_unknown : (uses : List Use) (text : List ℕ) → length (values_for (codes "mode") uses) ≤ 1 → value_of (codes "mode") uses ≡ Some text
    → bytes_eq text (codes "lines") ≡ false
    → takes_value (Values.one_of tree_modes) text ≡ false → None ≡ fitting_mode uses
mode_unknown uses text few some other takes =
    sym (ap (λ (b : Bool). if b && true
    then (if bytes_eq text (codes "lines") then lines_options uses else trees_options (tree_mode_named text) uses) else None)
    (mode_takes text false other takes))
    ∙ mode_is uses text few some

pub mode_of_trees : (uses : List Use) (text : List ℕ) (mode : TreeMode) → length (values_for (codes "mode") uses) ≤ 1 → value_of (codes "mode") uses ≡ Some text
    → bytes_eq text (codes "lines") ≡ false
    → takes_value (Values.one_of tree_modes) text ≡ true → mode ≡ tree_mode_named text → trees_options mode uses ≡ fitting_mode uses
mode_of_trees uses text mode few some other takes named =
    ap (λ (m : TreeMode). trees_options m uses) named
    ∙ sym (ap₂ (λ (b lines : Bool). if b && true
    then (if lines then lines_options uses else trees_options (tree_mode_named text) uses) else None) (mode_takes text true other takes) other)
    ∙ mode_is uses text few some

-- ---- texts that may be given several times

where_none : (values : List (List ℕ)) → where_some values ≡ None → values ≡ []
where_none [] none = refl
where_none (v ∷ vs) none = cc none

where_these : (values texts : List (List ℕ)) → where_some values ≡ Some texts → values ≡ texts
where_these [] texts some = cc some
where_these (v ∷ vs) texts some = cc some

abbrev few_of : List (List ℕ) → Option (List (List ℕ))
few_of values = if nat_le (length values) 8 then Some values else None

pub no_texts : (name : List ℕ) (uses : List Use) → where_some (values_for name uses) ≡ None → Some [] ≡ fitting_texts name uses
no_texts name uses none = sym (ap few_of (where_none (values_for name uses) none))

texts_are : (name : List ℕ) (uses : List Use) (texts : List (List ℕ)) → where_some (values_for name uses) ≡ Some texts → few_of texts ≡ fitting_texts name uses
texts_are name uses texts some = sym (ap few_of (where_these (values_for name uses) texts some))

pub too_many : (name : List ℕ) (uses : List Use) (texts : List (List ℕ)) → 8 < length texts → where_some (values_for name uses) ≡ Some texts
    → None ≡ fitting_texts name uses
too_many name uses texts many some =
    sym (ap (λ (b : Bool). if b then Some texts else None) (lt-leb (length texts) 8 many)) ∙ texts_are name uses texts some

pub few_enough : (name : List ℕ) (uses : List Use) (texts : List (List ℕ)) → length texts ≤ 8 → where_some (values_for name uses) ≡ Some texts
    → Some texts ≡ fitting_texts name uses
few_enough name uses texts few some =
    sym (ap (λ (b : Bool). if b then Some texts else None) (le-leb (length texts) 8 few)) ∙ texts_are name uses texts some

-- ---- lines

abbrev few_spans_of : List (List ℕ) → Option (List LineSpan)
few_spans_of values = if nat_le (length values) 8 then spans_in values else None

pub no_spans : (uses : List Use) → where_some (values_for (codes "protect") uses) ≡ None → Some [] ≡ fitting_spans uses
no_spans uses none = sym (ap few_spans_of (where_none (values_for (codes "protect") uses) none))

spans_are : (uses : List Use) (texts : List (List ℕ)) → where_some (values_for (codes "protect") uses) ≡ Some texts → few_spans_of texts ≡ fitting_spans uses
spans_are uses texts some = sym (ap few_spans_of (where_these (values_for (codes "protect") uses) texts some))

pub too_many_spans : (uses : List Use) (texts : List (List ℕ)) → 8 < length texts → where_some (values_for (codes "protect") uses) ≡ Some texts
    → None ≡ fitting_spans uses
too_many_spans uses texts many some =
    sym (ap (λ (b : Bool). if b then spans_in texts else None) (lt-leb (length texts) 8 many)) ∙ spans_are uses texts some

pub few_spans : (uses : List Use) (texts : List (List ℕ)) → length texts ≤ 8 → where_some (values_for (codes "protect") uses) ≡ Some texts
    → spans_in texts ≡ fitting_spans uses
few_spans uses texts few some =
    sym (ap (λ (b : Bool). if b then spans_in texts else None) (le-leb (length texts) 8 few)) ∙ spans_are uses texts some

-- the lines that these values give, if there are some
abbrev only_from : List (List ℕ) → Option (Option LineSpan)
only_from values = if list_all (takes_value any_lines) values then Some (option_map span_of (slice_get values 0)) else None

pub no_only : (uses : List Use) → value_of (codes "only") uses ≡ None → Some None ≡ fitting_only uses
no_only uses none = sym (ap only_from (no_values (values_for (codes "only") uses) none))

-- what the text of `--only` gives
only_with : (uses : List Use) (text : List ℕ) (b : Bool) → length (values_for (codes "only") uses) ≤ 1 → value_of (codes "only") uses ≡ Some text
    → is_span_in 1 4294967295 text ≡ b → (if b && true then Some (Some (span_of text)) else None) ≡ fitting_only uses
only_with uses text b few some is =
    sym (ap (λ (fits : Bool). if fits && true then Some (Some (span_of text)) else None) is)
    ∙ sym (ap only_from (one_value (values_for (codes "only") uses) text few some))

pub no_span : (uses : List Use) (text : List ℕ) → length (values_for (codes "only") uses) ≤ 1 → value_of (codes "only") uses ≡ Some text
    → is_span_in 1 4294967295 text ≡ false → None ≡ fitting_only uses
no_span uses text few some is = only_with uses text false few some is

pub this_span : (uses : List Use) (text : List ℕ) (span : LineSpan) → length (values_for (codes "only") uses) ≤ 1 → value_of (codes "only") uses ≡ Some text
    → is_span_in 1 4294967295 text ≡ true → span ≡ span_of text → Some (Some span) ≡ fitting_only uses
this_span uses text span few some is span_is = ap (λ (s : LineSpan). Some (Some s)) span_is ∙ only_with uses text true few some is
