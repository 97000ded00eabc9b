-- The options as `clap` builds them.
use Rattle.std.proofs.Common.{◌≡◌, ◌∙◌, ℕ, Bool, true, false, cond, not, ◌&&◌, ◌||◌, List, [], ◌∷◌, map, Option, Some, None}
use Rattle.std.proofs.Common.{find, refl, sym, ap, bytes_eq, option_map, if◌then◌else◌, count_by, is_some}
use Rattle.std.specs.List.{list_all, list_any}
use Rattle.clap.specs.Walk.{Row, Rule, arg_by_id, arg_by_index, arg_by_long, has_row, is_early_multiple, is_empty, with_default}
use Rattle.clap.specs.Simple.{App, Shape, built, filled, filled_from, new_shape}
use Rattle.clap.specs.Takes.{is_given}
use Rattle.clap.specs.Kinds.{Kinds, check_kinds, or_else}
use Rattle.clap.specs.Faults.{check_fault, default_fault, defaults_fault, given_default_fault, is_simple_and_free}
use Rattle.clap.proofs.WalkLemmas.{find-map}
use Rattle.command_words.specs.inner.Read.{PlainRow, option_rule}
use Rattle.command_words.specs.declared.options.Takes.{Takes}
use Rattle.command_words.specs.declared.options.Takes.TheVariants.{Nothing, Several, Value}

abbrev pub built_rule : PlainRow → Rule
built_rule row = filled (option_rule row)

abbrev pub rules_for : List PlainRow → List Rule
rules_for rows = map built_rule rows

pub filled_rules : (i : ℕ) (rows : List PlainRow) → filled_from i (map option_rule rows) ≡ rules_for rows
filled_rules i [] = refl
filled_rules i (row ∷ rows) = ap (λ (rest : List Rule). built_rule row ∷ rest) (filled_rules i rows)

abbrev pub find_plain : List PlainRow → List ℕ → Option PlainRow
find_plain rows name = find (λ row. bytes_eq row.name name) rows

-- ---- searches

pub by_long : (rows : List PlainRow) (name : List ℕ) → arg_by_long (rules_for rows) name ≡ option_map built_rule (find_plain rows name)
by_long [] name = refl
by_long (row ∷ rows) name = go (bytes_eq row.name name) (by_long rows name)
  where
    go : (b : Bool) → arg_by_long (rules_for rows) name ≡ option_map built_rule (find_plain rows name)
        → cond (b || false) (Some (built_rule row)) (arg_by_long (rules_for rows) name) ≡ option_map built_rule (cond b (Some row) (find_plain rows name))
    go true later = refl
    go false later = later

pub by_id : (rows : List PlainRow) (name : List ℕ) → arg_by_id (rules_for rows) name ≡ option_map built_rule (find_plain rows name)
by_id rows name = sym (find-map (λ (rule : Rule). bytes_eq rule.id name) built_rule rows)

pub none_by_index : (rows : List PlainRow) (i : ℕ) → arg_by_index (rules_for rows) i ≡ None
none_by_index [] i = refl
none_by_index (row ∷ rows) i = none_by_index rows i

-- ---- what is checked after the words

default_none : (found : List Row) (row : PlainRow) → default_fault found (built_rule row) ≡ []
default_none found row = go (has_row row.name found) row.takes
  where
    go : (b : Bool) (takes : Takes) → let rule =
        built_rule (record { name = row.name; takes = takes }) in (if b || is_empty rule.defaults then [] else given_default_fault rule rule.defaults) ≡ []
    go true takes = refl
    go false Value = refl
    go false Several = refl
    go false Nothing = refl

pub no_defaults_fail : (found : List Row) (rows : List PlainRow) → defaults_fault found (rules_for rows) ≡ []
unfolding defaults_fault
no_defaults_fail found [] = refl
no_defaults_fail found (row ∷ rows) =
    ap (λ (k : Kinds). or_else k (defaults_fault (with_default found (built_rule row)) (rules_for rows))) (default_none found row)
    ∙ no_defaults_fail (with_default found (built_rule row)) rows

pub none_required : (found : List Row) (rows : List PlainRow) → list_any (λ a. a.required && not (is_given a.id found)) (rules_for rows) ≡ false
none_required found [] = refl
none_required found (row ∷ rows) = none_required found rows

-- the command as it is built
abbrev pub shape_for : List ℕ → List PlainRow → Shape
shape_for command rows =
    record (new_shape command) { rules = rules_for rows; no_binary_name = true; disable_help_flag = true; disable_help_subcommand = true; is_built = true }

pub no_check_fails : (command : List ℕ) (found : List Row) (rows : List PlainRow) → check_fault (shape_for command rows) found false ≡ []
no_check_fails command found rows = ap (λ (b : Bool). check_kinds false false b) (none_required found rows)

-- the command before it is built
abbrev pub app_for : List ℕ → List PlainRow → App
app_for command rows = record { top = record (new_shape command) { rules = map option_rule rows; no_binary_name = true; disable_help_flag = true }; subs = [] }

pub built_shape : (command : List ℕ) (rows : List PlainRow) → (built (app_for command rows)).top ≡ shape_for command rows
built_shape command rows = ap (λ (rules : List Rule). record (shape_for command rows) { rules = rules }) (filled_rules 1 rows)

-- ---- the command is simple

all_simple : (rows : List PlainRow) → list_all (λ (a : Rule). a.is_simple) (map option_rule rows) ≡ true
all_simple [] = refl
all_simple (row ∷ rows) = all_simple rows

built_simple : (rows : List PlainRow) → list_all (λ (a : Rule). a.is_simple) (rules_for rows) ≡ true
built_simple [] = refl
built_simple (row ∷ rows) = built_simple rows

built_free : (rows : List PlainRow) → list_all (λ (a : Rule). a.is_free) (rules_for rows) ≡ true
built_free [] = refl
built_free (row ∷ rows) = built_free rows

none_early : (n : ℕ) (rows : List PlainRow) → list_any (is_early_multiple n) (rules_for rows) ≡ false
none_early n [] = refl
none_early n (row ∷ rows) = none_early n rows

-- the tests of a plain command, with these rules once it is built
abbrev plain_with : List PlainRow → List Rule → Bool
plain_with rows rules =
    ((list_all (λ (a : Rule). a.is_simple) (map option_rule rows) && true)
    && ((list_all (λ (a : Rule). a.is_simple) rules && not (list_any (is_early_multiple (count_by (λ (a : Rule). is_some a.index) rules)) rules)) && true))
    && (list_all (λ (a : Rule). a.is_free) rules && true)

together : (a b c d : Bool) → a ≡ true → b ≡ true → c ≡ false → d ≡ true → (((a && true) && ((b && not c) && true)) && (d && true)) ≡ true
together a b c d a_is b_is c_is d_is = rw (a_is, b_is, c_is, d_is) refl

pub is_plain_command : (command : List ℕ) (rows : List PlainRow) → is_simple_and_free (app_for command rows) ≡ true
is_plain_command command rows =
    ap (plain_with rows) (filled_rules 1 rows) ∙ together _ _ _ _ (all_simple rows) (built_simple rows) (none_early _ rows) (built_free rows)
