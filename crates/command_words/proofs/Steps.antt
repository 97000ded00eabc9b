-- What one use of an option does: it is refused where the option was there before and may be there once only, and else it is added to what was found.
use Rattle.std.proofs.Common.{◌≡◌, ◌∙◌, ◌+◌, ◌≤◌, ◌==◌, Bool, true, false, ◌&&◌, List, [], ◌∷◌, ◌++◌, length, Some, refl, sym, ap}
use Rattle.std.proofs.Common.{ap₂, subst, bytes_eq, is_some, if◌then◌else◌, codes, arith, length-append}
use Rattle.clap.specs.Walk.{Row, Rule, Text, has_row, used, with_values, without}
use Rattle.clap.specs.Kinds.{Kinds, or_else}
use Rattle.clap.specs.Faults.{use_fault}
use Rattle.clap.specs.declared.builder.value_parser.Reading.TheVariants.{AsWritten}
use Rattle.clap.specs.declared.builder.value_parser.Reading.{Reading}
use Rattle.clap.specs.declared.error.kind.ErrorKind.TheVariants as kind
use Rattle.clap.specs.declared.parser.matches.ValueSource.TheVariants.{CommandLine}
use Rattle.command_words.specs.Options.{OptionRow, Use, has_value, row_of, values_for}
use Rattle.command_words.specs.inner.Read.{IsOnce, is_several, table_row, takes_of}
use Rattle.command_words.proofs.Texts.{both_answers, text_same, text_self}
use Rattle.command_words.proofs.Rules.{built_rule}
use Rattle.command_words.proofs.Rows.{HasRows, given_after, given_append, own_value, row_is_seen, rows_after_use, shown, without_none}

-- a use of the option of this row
abbrev pub use_of : OptionRow → Text → Use
use_of row value = record { name = row.name; value = value }

-- what a use comes to, by its fault and what is found after it
pub data Used (table : List OptionRow) (uses : List Use) (one : Use) (fault : Kinds) (rows : List Row) : Type 0 where
  twice : (fault ≡ [] → ⊥) → ((more : List Use) → IsOnce table ((uses ++ one ∷ []) ++ more) → ⊥) → Used table uses one fault rows
  added : fault ≡ [] → HasRows rows (uses ++ one ∷ []) → IsOnce table (uses ++ one ∷ []) → Used table uses one fault rows

-- how often an option is there after one use more
count_after : (name : Text) (uses : List Use) (one : Use)
    → length (values_for name (uses ++ one ∷ [])) ≡ length (values_for name uses) + length (own_value (bytes_eq one.name name) one.value)
count_after name uses one = ap length (given_after name uses one) ∙ length-append (values_for name uses) (own_value (bytes_eq one.name name) one.value)

other_count : (name : Text) (uses : List Use) (one : Use) → bytes_eq one.name name ≡ false
    → length (values_for name (uses ++ one ∷ [])) ≡ length (values_for name uses)
other_count name uses one is =
    let own : length (own_value (bytes_eq one.name name) one.value) ≡ 0 = ap (λ (b : Bool). length (own_value b one.value)) is in
    let all = count_after name uses one in
    omega arith

own_count : (name : Text) (uses : List Use) (one : Use) → bytes_eq one.name name ≡ true
    → length (values_for name (uses ++ one ∷ [])) ≡ length (values_for name uses) + 1
own_count name uses one is =
    let own : length (own_value (bytes_eq one.name name) one.value) ≡ 1 = ap (λ (b : Bool). length (own_value b one.value)) is in
    let all = count_after name uses one in
    omega arith

once_at_first : (table : List OptionRow) (uses : List Use) (row : OptionRow) (value : Text) → values_for row.name uses ≡ [] → IsOnce table uses
    → IsOnce table (uses ++ use_of row value ∷ [])
once_at_first table uses row value first once other found single = go (bytes_eq row.name other.name) refl
  where
    go : (b : Bool) → bytes_eq row.name other.name ≡ b → length (values_for other.name (uses ++ use_of row value ∷ [])) ≤ 1
    go true is =
        let none : length (values_for other.name uses) ≡ 0 =
        ap (λ (n : Text). length (values_for n uses)) (sym (text_same row.name other.name is)) ∙ ap length first in
        let all = own_count other.name uses (use_of row value) is in
        omega arith
    go false is =
        let before = once other found single in
        let all = other_count other.name uses (use_of row value) is in
        omega arith

once_at_several : (table : List OptionRow) (uses : List Use) (row : OptionRow) (value : Text) → row_of table row.name ≡ Some row
    → is_several (table_row row).takes ≡ true
    → IsOnce table uses → IsOnce table (uses ++ use_of row value ∷ [])
once_at_several table uses row value here several once other found single = go (bytes_eq row.name other.name) refl
  where
    go : (b : Bool) → bytes_eq row.name other.name ≡ b → length (values_for other.name (uses ++ use_of row value ∷ [])) ≤ 1
    go true is =
        let both : Some row ≡ Some other = sym here ∙ ap (row_of table) (text_same row.name other.name is) ∙ found in
        let same : row ≡ other = cc both in
        absurd (both_answers (is_several (table_row row).takes) several (ap (λ (r : OptionRow). is_several (table_row r).takes) same ∙ single))
    go false is =
        let before = once other found single in
        let all = other_count other.name uses (use_of row value) is in
        omega arith

-- the fault of a use of an option that may be there once
abbrev fault_if : Bool → Kinds
fault_if there = or_else (if there && true then kind.ArgumentConflict ∷ [] else []) []

use_once : (table : List OptionRow) (uses : List Use) (row : OptionRow) (value : Text) (rows : List Row) → row_of table row.name ≡ Some row
    → is_several (table_row row).takes ≡ false
    → HasRows rows uses → IsOnce table uses
    → Used table uses (use_of row value) (fault_if (has_row row.name rows)) (with_values row.name AsWritten CommandLine (value ∷ []) (without row.name rows))
use_once table uses row value rows here single has once = go (values_for row.name uses) refl
  where
    go : (values : List Text) → values_for row.name uses ≡ values
        → Used table uses (use_of row value) (fault_if (has_row row.name rows))
        (with_values row.name AsWritten CommandLine (value ∷ []) (without row.name rows))
    go [] none =
        let absent : has_row row.name rows ≡ false = row_is_seen row.name rows ∙ ap (is_some {T = List Text × Reading}) (has row.name ∙ ap shown none) in
        Used.added (ap fault_if absent)
        (subst (λ (rest : List Row). HasRows (with_values row.name AsWritten CommandLine (value ∷ []) rest) (uses ++ use_of row value ∷ []))
        (sym (without_none row.name rows absent))
        (rows_after_use rows uses (use_of row value) CommandLine has))
        (once_at_first table uses row value none once)
    go (x ∷ xs) some =
        let there : has_row row.name rows ≡ true = row_is_seen row.name rows ∙ ap (is_some {T = List Text × Reading}) (has row.name ∙ ap shown some) in
        Used.twice (λ no_fault. let bad : kind.ArgumentConflict ∷ [] ≡ [] = sym (ap fault_if there) ∙ no_fault in absurd (cc bad))
        (λ more one_only.
        let most = one_only row here single in
        let split : length (values_for row.name ((uses ++ use_of row value ∷ []) ++ more)) ≡ length
        (values_for row.name (uses ++ use_of row value ∷ [])) + length (values_for row.name more) =
        ap length (given_append row.name (uses ++ use_of row value ∷ []) more)
        ∙ length-append (values_for row.name (uses ++ use_of row value ∷ [])) (values_for row.name more) in
        let now = own_count row.name uses (use_of row value) (text_self row.name) in
        let before : length (values_for row.name uses) ≡ length xs + 1 = ap length some ∙ omega arith in
        omega arith)

use_more : (table : List OptionRow) (uses : List Use) (row : OptionRow) (value : Text) (rows : List Row) → row_of table row.name ≡ Some row
    → is_several (table_row row).takes ≡ true
    → HasRows rows uses → IsOnce table uses
    → Used table uses (use_of row value) [] (with_values row.name AsWritten CommandLine (value ∷ []) rows)
use_more table uses row value rows here several has once =
    Used.added refl (rows_after_use rows uses (use_of row value) CommandLine has) (once_at_several table uses row value here several once)

-- a use of an option with this value
abbrev pub UsedWith : List OptionRow → List Use → OptionRow → Text → List Text → List Row → Rule → Type 0
UsedWith table uses row value values rows rule = Used table uses (use_of row value) (use_fault false rule values rows) (used rule values rows)

pub use_value : (table : List OptionRow) (uses : List Use) (row : OptionRow) (value : Text) (rows : List Row) → row_of table row.name ≡ Some row
    → has_value row.values ≡ true
    → HasRows rows uses → IsOnce table uses → UsedWith table uses row value (value ∷ []) rows (built_rule (table_row row))
use_value table uses row value rows here takes has once =
    subst (λ (b : Bool). UsedWith table uses row value (value ∷ []) rows (built_rule (record { name = row.name; takes = takes_of b (row.most == 1) })))
    (sym takes) (go (row.most == 1) refl)
  where
    go : (single : Bool) → (row.most == 1) ≡ single
        → UsedWith table uses row value (value ∷ []) rows (built_rule (record { name = row.name; takes = takes_of true single }))
    go true is = use_once table uses row value rows here (ap₂ (λ (a b : Bool). is_several (takes_of a b)) takes is) has once
    go false is = use_more table uses row value rows here (ap₂ (λ (a b : Bool). is_several (takes_of a b)) takes is) has once

pub use_flag : (table : List OptionRow) (uses : List Use) (row : OptionRow) (rows : List Row) → row_of table row.name ≡ Some row → has_value row.values ≡ false
    → HasRows rows uses → IsOnce table uses → UsedWith table uses row (codes "true") [] rows (built_rule (table_row row))
use_flag table uses row rows here takes has once =
    subst (λ (b : Bool). UsedWith table uses row (codes "true") [] rows (built_rule (record { name = row.name; takes = takes_of b (row.most == 1) })))
    (sym takes)
    (use_once table uses row (codes "true") rows here (ap (λ (b : Bool). is_several (takes_of b (row.most == 1))) takes) has once)
