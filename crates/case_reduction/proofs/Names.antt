-- The names of the functions: an f and a number.
use Rattle.std.proofs.Common.{◌≡◌, ℕ, ◌+◌, ◌<◌, ◌%◌, ◌^◌, true, ◌||◌, cond, nat_le, List, [], ◌∷◌, ◌++◌, decimal, refl, ap, ◌∙◌, arith}
use Rattle.std.proofs.lemmas.Bool.{and_from, and_parts, le-leb}
use Rattle.std.proofs.lemmas.Fmt.{decimal_by_steps}
use Rattle.std.proofs.Math.Nat.{mod-lt}
use Rattle.regex_class.specs.Ranges.{in_range, in_ranges}
use Rattle.grammar_tree.specs.Chars.{has}
use Rattle.grammar_tree.specs.Written.{LexerSeq, LexerTerm, TokenKind, WrittenGrammar}
use Rattle.grammar_tree.specs.Lexes.{LexesTo}
use Rattle.case_reduction.specs.Mini.{letters, letters_digits, mini}
use Rattle.case_reduction.proofs.Threads.{moved, run}
use Rattle.case_reduction.proofs.Scan.{all_end, ends_all, kind_threads, next_before, none_below, states}
use Rattle.case_reduction.proofs.MiniKinds.{kinds_mini, mini_kinds, mini_nameless}
use Rattle.case_reduction.proofs.Spelled.{all_in, spelled, spelled_matches}
use Rattle.case_reduction.proofs.Pieces.{of_kind}

digit_is_part : (d : ℕ) → d < 10 → has letters_digits (48 + d) ≡ true
unfolding in_ranges in_range
digit_is_part d h =
    ap (λ b. b || in_ranges ((65, 90) ∷ (95, 95) ∷ (97, 122) ∷ []) (48 + d))
    (and_from (nat_le 48 (48 + d)) (nat_le (48 + d) 57) (le-leb 48 (48 + d) (omega arith)) (le-leb (48 + d) 57 (omega (arith, h))))

-- each digit of a number may be part of a name
pub digits_are_parts : (n : ℕ) → n < 2 ^ 64 → all_in letters_digits (decimal n) ≡ true
digits_are_parts =
    decimal_by_steps (λ n ds. all_in letters_digits ds ≡ true) (λ n h. and_from (has letters_digits (48 + n)) true (digit_is_part n h) refl)
    (λ n ds h more. one_more ds (48 + n % 10) more (digit_is_part (n % 10) (mod-lt n (omega arith))))
  where
    one_more : (ds : List ℕ) (c : ℕ) → all_in letters_digits ds ≡ true → has letters_digits c ≡ true → all_in letters_digits (ds ++ (c ∷ [])) ≡ true
    one_more [] c all h = and_from (has letters_digits c) true h refl
    one_more (d ∷ ds) c all h =
        let (one, others) = and_parts (has letters_digits d) (all_in letters_digits ds) all in
        and_from (has letters_digits d) (all_in letters_digits (ds ++ (c ∷ []))) one (one_more ds c others h)

-- the threads of all kinds after more characters
abbrev moved_all : ℕ → List (List LexerSeq) → List (List LexerSeq)
moved_all c [] = []
moved_all c (ks ∷ rest) = moved c ks ∷ moved_all c rest

abbrev run_all : List (List LexerSeq) → List ℕ → List (List LexerSeq)
run_all [] w = []
run_all (ks ∷ rest) w = run ks w ∷ run_all rest w

run_none : (rest : List (List LexerSeq)) → run_all rest [] ≡ rest
run_none [] = refl
run_none (ks ∷ rest) = ap (λ x. ks ∷ x) (run_none rest)

run_on : (rest : List (List LexerSeq)) (c : ℕ) (w : List ℕ) → run_all rest (c ∷ w) ≡ run_all (moved_all c rest) w
run_on [] c w = refl
run_on (ks ∷ rest) c w = ap (λ x. run (moved c ks) w ∷ x) (run_on rest c w)

states_on : (G : WrittenGrammar) (kinds : List TokenKind) (c : ℕ) (w : List ℕ) → states G kinds (c ∷ w) ≡ run_all (states G kinds (c ∷ [])) w
states_on G [] c w = refl
states_on G (kind ∷ kinds) c w = ap (λ x. run (moved c (kind_threads G kind)) w ∷ x) (states_on G kinds c w)

-- after an f only an ID can go on, with a letter or digit
abbrev after_f : List (List LexerSeq)
after_f = states mini mini_kinds (102 ∷ [])

abbrev rest_of_id : LexerSeq
rest_of_id = LexerSeq.next (LexerTerm.star (LexerTerm.set letters_digits)) LexerSeq.done

abbrev with_id : List LexerSeq → List (List LexerSeq)
with_id ks = [] ∷ [] ∷ [] ∷ [] ∷ [] ∷ [] ∷ [] ∷ [] ∷ [] ∷ [] ∷ [] ∷ [] ∷ [] ∷ [] ∷ [] ∷ [] ∷ [] ∷ ks ∷ [] ∷ [] ∷ [] ∷ [] ∷ [] ∷ []

after_f_is : after_f ≡ with_id (rest_of_id ∷ [])
unfolding in_ranges in_range
after_f_is = refl

stays : (c : ℕ) → has letters_digits c ≡ true → moved_all c (with_id (rest_of_id ∷ [])) ≡ with_id (rest_of_id ∷ [])
stays c h = ap (λ b. with_id ((cond b (rest_of_id ∷ []) [] ++ []) ++ [])) h

all_stay : (w : List ℕ) → all_in letters_digits w ≡ true → run_all (with_id (rest_of_id ∷ [])) w ≡ with_id (rest_of_id ∷ [])
all_stay [] h = run_none (with_id (rest_of_id ∷ []))
all_stay (c ∷ w) h =
    let (one, others) = and_parts (has letters_digits c) (all_in letters_digits w) h in
    run_on (with_id (rest_of_id ∷ [])) c w ∙ ap (λ x. run_all x w) (stays c one) ∙ all_stay w others

f_is_letter : has letters 102 ≡ true
unfolding in_ranges in_range
f_is_letter = refl

bracket_ends : all_end 40 (with_id (rest_of_id ∷ [])) ≡ true
unfolding in_ranges in_range
bracket_ends = refl

-- a name before a bracket
pub name_reads : (n : ℕ) (more : List ℕ) → n < 2 ^ 64 → LexesTo mini (102 ∷ (decimal n ++ (40 ∷ more))) (of_kind 17 (102 ∷ decimal n) ∷ []) (40 ∷ more)
name_reads n more small =
    LexesTo.by_piece (102 ∷ (decimal n ++ (40 ∷ more))) 17 (102 ∷ decimal n) (40 ∷ more) (40 ∷ more) []
    (next_before mini mini_kinds kinds_mini mini_nameless 17 (102 ∷ decimal n) 40 more (λ e. cc e) (spelled_matches 17 (102 ∷ decimal n) is_name) below
    (ends_all mini mini_kinds kinds_mini mini_nameless (102 ∷ decimal n) 40 ends))
    (LexesTo.by_end (40 ∷ more))
  where
    parts : all_in letters_digits (decimal n) ≡ true
    parts = digits_are_parts n small

    is_name : spelled 17 (102 ∷ decimal n) ≡ true
    is_name = and_from (has letters 102) (all_in letters_digits (decimal n)) f_is_letter parts

    after : states mini mini_kinds (102 ∷ decimal n) ≡ with_id (rest_of_id ∷ [])
    after = states_on mini mini_kinds 102 (decimal n) ∙ ap (λ x. run_all x (decimal n)) after_f_is ∙ all_stay (decimal n) parts

    below : none_below 17 (states mini mini_kinds (102 ∷ decimal n)) ≡ true
    below = ap (none_below 17) after

    ends : all_end 40 (states mini mini_kinds (102 ∷ decimal n)) ≡ true
    ends = ap (all_end 40) after ∙ bracket_ends
