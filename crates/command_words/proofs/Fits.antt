-- Whether the options that are there are as the table says, row by row.
use Rattle.std.proofs.Common.{◌≡◌, ◌∙◌, ℕ, ◌≤◌, ◌==◌, Bool, true, false, not, ◌&&◌, ◌||◌, List, [], ◌∷◌, length, nat_le, Some, find, refl, sym}
use Rattle.std.proofs.Common.{ap, subst, cond, is_some, slice_get, codes, arith, leb-true, eqb-true, true≢false, bytes_eq}
use Rattle.std.specs.List.{list_all}
use Rattle.std.proofs.lemmas.Bool.{and_parts}
use Rattle.command_words.specs.Options.{OptionRow, Use, Values, fits_row, fits_table, has_value, takes_value, values_for}
use Rattle.command_words.specs.Tables.{any_lines, check_table, normal_table, optional, reduce_table, required, selftest_table, tree_modes}
use Rattle.command_words.specs.Commands.{is_given}
use Rattle.command_words.specs.inner.Found.{names_files, values_fit}
use Rattle.command_words.specs.inner.Read.{IsOnce, is_several, takes_of}

-- ---- one row, by the values that are given

any_fits : (values : List (List ℕ)) → list_all (takes_value Values.any_text) values ≡ true
any_fits [] = refl
any_fits (v ∷ vs) = any_fits vs

pub optional_fits : (values : List (List ℕ)) → length values ≤ 1
    → ((nat_le (length values) 1 && (true || nat_le 1 (length values))) && list_all (takes_value Values.any_text) values) ≡ true
optional_fits [] few = refl
optional_fits (v ∷ []) few = refl
optional_fits (v ∷ (w ∷ vs)) few = absurd (omega arith)

pub flag_fits : (values : List (List ℕ)) → length values ≤ 1
    → ((nat_le (length values) 1 && (true || nat_le 1 (length values))) && list_all (takes_value Values.no_value) values) ≡ true
flag_fits [] few = refl
flag_fits (v ∷ []) few = refl
flag_fits (v ∷ (w ∷ vs)) few = absurd (omega arith)

pub required_fits : (values : List (List ℕ)) → length values ≤ 1
    → ((nat_le (length values) 1 && (false || nat_le 1 (length values))) && list_all (takes_value Values.any_text) values) ≡ is_some {T = List ℕ}
    (slice_get values 0)
required_fits [] few = refl
required_fits (v ∷ []) few = refl
required_fits (v ∷ (w ∷ vs)) few = absurd (omega arith)

pub optional_values_fit : (takes : Values) (values : List (List ℕ)) → length values ≤ 1
    → ((nat_le (length values) 1 && (true || nat_le 1 (length values))) && list_all (takes_value takes) values) ≡ list_all (takes_value takes) values
optional_values_fit takes [] few = refl
optional_values_fit takes (v ∷ []) few = refl
optional_values_fit takes (v ∷ (w ∷ vs)) few = absurd (omega arith)

pub required_values_fit : (takes : Values) (values : List (List ℕ)) → length values ≤ 1
    → ((nat_le (length values) 1 && (false || nat_le 1 (length values))) && list_all (takes_value takes) values)
    ≡ (is_some {T = List ℕ} (slice_get values 0) && list_all (takes_value takes) values)
required_values_fit takes [] few = refl
required_values_fit takes (v ∷ []) few = refl
required_values_fit takes (v ∷ (w ∷ vs)) few = absurd (omega arith)

and_true : (b : Bool) → (b && true) ≡ b
and_true true = refl
and_true false = refl

pub keeps_fit : (values : List (List ℕ))
    → ((nat_le (length values) 8 && (true || nat_le 1 (length values))) && list_all (takes_value Values.any_text) values) ≡ nat_le (length values) 8
keeps_fit values =
    ap (λ (b : Bool). (nat_le (length values) 8 && true) && b) (any_fits values) ∙ and_true (nat_le (length values) 8 && true)
    ∙ and_true (nat_le (length values) 8)

pub spans_fit : (values : List (List ℕ))
    → ((nat_le (length values) 8 && (true || nat_le 1 (length values))) && list_all (takes_value any_lines) values)
    ≡ (nat_le (length values) 8 && list_all (takes_value any_lines) values)
spans_fit values = ap (λ (b : Bool). b && list_all (takes_value any_lines) values) (and_true (nat_le (length values) 8))

-- ---- tables

reduce_conjuncts : (a b c e g j m n o a' b' c' d l e' f g' h r i j' k s m' n' o' : Bool) → a ≡ a' → b ≡ b' → c ≡ c' → d ≡ true → l ≡ true → e ≡ e'
    → f ≡ true → g ≡ g' → h ≡ true → r ≡ true → i ≡ true → j ≡ j' → k ≡ true → s ≡ true → m ≡ m' → n ≡ n' → o ≡ o'
    → (a && (b && (c && (d && (l && (e && (f && (g && (h && (r && (i && (j && (k && (s && (m && (n && (o && true)))))))))))))))))
    ≡ ((a' && (b' && c')) && (e' && (g' && (j' && (m' && (n' && o'))))))
reduce_conjuncts a b c e g j m n o a' b' c' d l e' f g' h r i j' k s m' n' o' a_is b_is c_is d_is l_is e_is f_is g_is h_is r_is i_is
    j_is k_is s_is m_is n_is o_is =
    rw (a_is, b_is, c_is, d_is, l_is, e_is, f_is, g_is, h_is, r_is, i_is, j_is, k_is, s_is, m_is, n_is, o_is) (regroup a' b' c' e' g' j' m' n' o')
  where
    regroup : (a b c e g j m n o : Bool)
        → (a && (b && (c && (true && (true && (e && (true && (g && (true && (true && (true && (j && (true && (true && (m && (n && (o && true)))))))))))))))))
        ≡ ((a && (b && c)) && (e && (g && (j && (m && (n && o))))))
    regroup false b c e g j m n o = refl
    regroup true false c e g j m n o = refl
    regroup true true false e g j m n o = refl
    regroup true true true e g j m n o = ap (λ (x : Bool). e && (g && (j && (m && (n && x))))) (and_true o)

-- the options of `reduce` fit: the files are named, the mode and the number of workers are such, there are not too many keep texts, and what must stay is such
pub reduce_fits : (uses : List Use) → IsOnce reduce_table uses
    → fits_table reduce_table uses
    ≡ (names_files (codes "script") uses
    && (values_fit (Values.one_of (codes "lines" ∷ tree_modes)) (codes "mode") uses &&
    (values_fit (Values.number 1 16) (codes "jobs") uses && (nat_le (length (values_for (codes "keep") uses)) 8
    && ((nat_le (length (values_for (codes "protect") uses)) 8 && values_fit any_lines (codes "protect") uses)
    && (nat_le (length (values_for (codes "protect-text") uses)) 8 && values_fit any_lines (codes "only") uses))))))
reduce_fits uses once =
    let g : List ℕ → List (List ℕ) = λ name. values_for name uses in
    reduce_conjuncts _ _ _ _ _ _ _ _ _ _ _ _ _ _ _ _ _ _ _ _ _ _ _ _ _ _
    (required_fits (g (codes "input")) (once (required (codes "input") Values.any_text) refl refl))
    (required_fits (g (codes "output")) (once (required (codes "output") Values.any_text) refl refl))
    (required_fits (g (codes "script")) (once (required (codes "script") Values.any_text) refl refl))
    (optional_fits (g (codes "grammar")) (once (optional (codes "grammar") Values.any_text) refl refl))
    (optional_fits (g (codes "lexer")) (once (optional (codes "lexer") Values.any_text) refl refl))
    (optional_values_fit (Values.one_of (codes "lines" ∷ tree_modes)) (g (codes "mode"))
    (once (optional (codes "mode") (Values.one_of (codes "lines" ∷ tree_modes))) refl refl))
    (optional_fits (g (codes "start")) (once (optional (codes "start") Values.any_text) refl refl))
    (optional_values_fit (Values.number 1 16) (g (codes "jobs")) (once (optional (codes "jobs") (Values.number 1 16)) refl refl))
    (optional_fits (g (codes "journal")) (once (optional (codes "journal") Values.any_text) refl refl))
    (optional_fits (g (codes "resume")) (once (optional (codes "resume") Values.any_text) refl refl))
    (optional_fits (g (codes "work")) (once (optional (codes "work") Values.any_text) refl refl))
    (keeps_fit (g (codes "keep")))
    (flag_fits (g (codes "squeeze")) (once (optional (codes "squeeze") Values.no_value) refl refl))
    (flag_fits (g (codes "respell")) (once (optional (codes "respell") Values.no_value) refl refl))
    (spans_fit (g (codes "protect")))
    (keeps_fit (g (codes "protect-text")))
    (optional_values_fit any_lines (g (codes "only")) (once (optional (codes "only") any_lines) refl refl))

normal_conjuncts : (a b c a' : Bool) → a ≡ a' → b ≡ true → c ≡ true → (a && (b && (c && true))) ≡ a'
normal_conjuncts a b c a' a_is b_is c_is = rw (a_is, b_is, c_is) (and_true a')

pub normal_fits : (uses : List Use) → IsOnce normal_table uses → fits_table normal_table uses ≡ is_given (codes "grammar") uses
normal_fits uses once =
    let g : List ℕ → List (List ℕ) = λ name. values_for name uses in
    normal_conjuncts _ _ _ _ (required_fits (g (codes "grammar")) (once (required (codes "grammar") Values.any_text) refl refl))
    (optional_fits (g (codes "lexer")) (once (optional (codes "lexer") Values.any_text) refl refl))
    (optional_fits (g (codes "start")) (once (optional (codes "start") Values.any_text) refl refl))

selftest_conjuncts : (a b c a' b' c' : Bool) → a ≡ a' → b ≡ b' → c ≡ c' → (a && (b && (c && true))) ≡ (a' && (b' && c'))
selftest_conjuncts a b c a' b' c' a_is b_is c_is = rw (a_is, b_is, c_is) (ap (λ (x : Bool). a' && (b' && x)) (and_true c'))

pub selftest_fits : (uses : List Use) → IsOnce selftest_table uses
    → fits_table selftest_table uses
    ≡ ((is_given (codes "number") uses && values_fit (Values.number 0 4294967295) (codes "number") uses)
    && ((is_given (codes "size") uses && values_fit (Values.number 1 1500) (codes "size") uses) && values_fit (Values.one_of tree_modes) (codes "mode") uses))
selftest_fits uses once =
    let g : List ℕ → List (List ℕ) = λ name. values_for name uses in
    selftest_conjuncts _ _ _ _ _ _
    (required_values_fit (Values.number 0 4294967295) (g (codes "number")) (once (required (codes "number") (Values.number 0 4294967295)) refl refl))
    (required_values_fit (Values.number 1 1500) (g (codes "size")) (once (required (codes "size") (Values.number 1 1500)) refl refl))
    (optional_values_fit (Values.one_of tree_modes) (g (codes "mode")) (once (optional (codes "mode") (Values.one_of tree_modes)) refl refl))

check_conjuncts : (a b c d e f g h i a' b' c' f' h' : Bool) → a ≡ a' → b ≡ b' → c ≡ c' → d ≡ true → e ≡ true → f ≡ f' → g ≡ true → h ≡ h' → i ≡ true
    → (a && (b && (c && (d && (e && (f && (g && (h && (i && true))))))))) ≡ ((a' && (b' && c')) && (f' && h'))
check_conjuncts a b c d e f g h i a' b' c' f' h' a_is b_is c_is d_is e_is f_is g_is h_is i_is =
    rw (a_is, b_is, c_is, d_is, e_is, f_is, g_is, h_is, i_is) (regroup a' b' c' f' h')
  where
    regroup : (a b c f h : Bool) → (a && (b && (c && (true && (true && (f && (true && (h && (true && true))))))))) ≡ ((a && (b && c)) && (f && h))
    regroup false b c f h = refl
    regroup true false c f h = refl
    regroup true true false f h = refl
    regroup true true true f h = ap (λ (x : Bool). f && x) (and_true h)

-- the options of `check` fit: the files are named, the mode is such, and there are not too many keep texts
pub check_fits : (uses : List Use) → IsOnce check_table uses
    → fits_table check_table uses
    ≡ (names_files (codes "journal") uses
    && (values_fit (Values.one_of (codes "lines" ∷ tree_modes)) (codes "mode") uses && nat_le (length (values_for (codes "keep") uses)) 8))
check_fits uses once =
    let g : List ℕ → List (List ℕ) = λ name. values_for name uses in
    check_conjuncts _ _ _ _ _ _ _ _ _ _ _ _ _ _
    (required_fits (g (codes "input")) (once (required (codes "input") Values.any_text) refl refl))
    (required_fits (g (codes "output")) (once (required (codes "output") Values.any_text) refl refl))
    (required_fits (g (codes "journal")) (once (required (codes "journal") Values.any_text) refl refl))
    (optional_fits (g (codes "grammar")) (once (optional (codes "grammar") Values.any_text) refl refl))
    (optional_fits (g (codes "lexer")) (once (optional (codes "lexer") Values.any_text) refl refl))
    (optional_values_fit (Values.one_of (codes "lines" ∷ tree_modes)) (g (codes "mode"))
    (once (optional (codes "mode") (Values.one_of (codes "lines" ∷ tree_modes))) refl refl))
    (optional_fits (g (codes "start")) (once (optional (codes "start") Values.any_text) refl refl))
    (keeps_fit (g (codes "keep")))
    (flag_fits (g (codes "squeeze")) (once (optional (codes "squeeze") Values.no_value) refl refl))

-- ---- where all options fit, none is there twice that may be there once

-- a flag may be there once
abbrev pub flags_once : List OptionRow → Bool
flags_once table = list_all (λ row. has_value row.values || row.most == 1) table

found_in : {X : Type 0} (test passes : X → Bool) (xs : List X) (x : X) → list_all passes xs ≡ true → find test xs ≡ Some x → passes x ≡ true
found_in test passes [] x all found = absurd (cc found)
found_in {X} test passes (y ∷ ys) x all found = go (test y) found (λ later. found_in test passes ys x (and_parts (passes y) (list_all passes ys) all).1 later)
  where
    go : (b : Bool) → cond b (Some y) (find test ys) ≡ Some x → (find test ys ≡ Some x → passes x ≡ true) → passes x ≡ true
    go true found later = let same : y ≡ x = cc found in subst (λ (z : X). passes z ≡ true) same (and_parts (passes y) (list_all passes ys) all).0
    go false found later = later found

single_most : (value single : Bool) → is_several (takes_of value single) ≡ false → (value || single) ≡ true → single ≡ true
single_most true true once flag = refl
single_most true false once flag = absurd (true≢false once)
single_most false true once flag = refl
single_most false false once flag = absurd (true≢false (sym flag))

pub fits_once : (table : List OptionRow) → flags_once table ≡ true → (uses : List Use) → fits_table table uses ≡ true → IsOnce table uses
fits_once table flags uses fits row found single =
    let row_fits = found_in (λ (r : OptionRow). bytes_eq r.name row.name) (fits_row uses) table row fits found in
    let flag = found_in (λ (r : OptionRow). bytes_eq r.name row.name) (λ (r : OptionRow). has_value r.values || r.most == 1) table row flags found in
    let most : row.most ≡ 1 = eqb-true row.most 1 (single_most (has_value row.values) (row.most == 1) single flag) in
    let counts =
    (and_parts (nat_le (length (values_for row.name uses)) row.most && (not row.is_required || nat_le 1 (length (values_for row.name uses))))
    (list_all (takes_value row.values) (values_for row.name uses)) row_fits).0 in
    let few : length (values_for row.name uses) ≤ row.most =
    leb-true _ _ (and_parts (nat_le (length (values_for row.name uses)) row.most)
    (not row.is_required || nat_le 1 (length (values_for row.name uses))) counts).0 in
    omega arith
