-- Numbers that must be kept, in one pass.
use Rattle.std.proofs.Common.{◌≡◌, ◌+◌, ◌<◌, ◌≤◌, ◌⊎◌, ⊎_elim, ℕ, suc, Bool, true, false, ◌&&◌, ◌||◌, List, [], ◌∷◌, length}
use Rattle.std.proofs.Common.{drop, get_or, refl, sym, ap, ◌∙◌, arith, subst, add-one, drop-cons}
use Rattle.std.proofs.lemmas.Bool.{and_from, and_left, and_parts, cases_order, cond-false, cond-true, cond_both, eq-eqb, ne_eqb}
use Rattle.std.proofs.lemmas.Bool.{or_from, or_left, or_right}
use Rattle.std.proofs.lemmas.List.{drop_all}
use Rattle.std.specs.Prelude.{◌==◌}
use Rattle.std.specs.List.{list_any, range_with_len}
use Rattle.keep_guard.specs.Relation.{Rises, RisesFrom}
use Rattle.reduce_core.specs.Lines.{lines_of, numbered, numbered_lines, numbers_of}
use Rattle.line_guard.specs.Laws.{AllKeepProtected}
use Rattle.line_guard.specs.MustStay.{keeps_numbers}
use Rattle.line_guard.specs.Protected.{is_protected, is_token_protected, numbers_where}
use Rattle.line_guard.specs.inner.Passes.{passes, without}
use Rattle.line_guard.proofs.EndsLemmas.{rises-lower}

-- the number is one of these
abbrev is_in : ℕ → List ℕ → Bool
is_in number kept = list_any (λ one. one == number) kept

-- a lesser number isn't one of them
lost : (low number : ℕ) (kept : List ℕ) → RisesFrom low kept → number < low → is_in number kept ≡ false
lost low number [] rises below = refl
lost low number (one ∷ kept) rises below =
    let above = rises.0 in or_from _ _ (ne_eqb one number (λ same. omega arith)) (lost (one + 1) number kept rises.1 (omega arith))

-- a kept number that is less than all that must be kept doesn't matter
below-all : (number : ℕ) (kept must : List ℕ) → RisesFrom (number + 1) must → keeps_numbers kept must ≡ keeps_numbers (number ∷ kept) must
below-all number kept [] rises = refl
below-all number kept (first ∷ must) rises =
    let above = rises.0 in
    let other : (number == first) ≡ false = ne_eqb number first (λ same. omega arith) in
    ap (λ (b : Bool). (b || is_in first kept) && keeps_numbers kept must) (sym other)
    ∙ ap (λ (b : Bool). is_in first (number ∷ kept) && b)
    (below-all number kept must (rises-lower (first + 1) (number + 1) must (omega arith) rises.1))

-- the numbers that must be kept after the first kept one was seen
one-less : (low number : ℕ) (kept must : List ℕ) → RisesFrom (number + 1) kept → RisesFrom low must
    → keeps_numbers kept (without number must) ≡ keeps_numbers (number ∷ kept) must
one-less low number kept [] rises rising = refl
one-less low number kept (first ∷ must) rises rising = ⊎_elim (λ same. seen same) (λ other. unseen other) (cases_order first number)
  where
    seen : first ≡ number → keeps_numbers kept (without number (first ∷ must)) ≡ keeps_numbers (number ∷ kept) (first ∷ must)
    seen same =
        let here : (first == number) ≡ true = eq-eqb first number same in
        let there : is_in first (number ∷ kept) ≡ true = or_left _ _ (eq-eqb number first (sym same)) in
        ap (λ (l : List ℕ). keeps_numbers kept l) (cond-true (first == number) must (first ∷ must) here)
        ∙ below-all number kept must (subst (λ n. RisesFrom (n + 1) must) same rising.1)
        ∙ ap (λ (b : Bool). b && keeps_numbers (number ∷ kept) must) (sym there)

    stays : (first ≡ number → ⊥) → without number (first ∷ must) ≡ first ∷ must
    stays differs = cond-false (first == number) must (first ∷ must) (ne_eqb first number differs)

    unseen : (first < number) ⊎ (number < first) → keeps_numbers kept (without number (first ∷ must)) ≡ keeps_numbers (number ∷ kept) (first ∷ must)
    unseen other = ⊎_elim
        (λ less. ap (λ (l : List ℕ). keeps_numbers kept l) (stays (λ same. omega arith))
        ∙ and_left _ _ (lost (number + 1) first kept rises (omega arith))
        ∙ sym (and_left _ _ (or_from _ _ (ne_eqb number first (λ same. omega arith)) (lost (number + 1) first kept rises (omega arith)))))
        (λ more. ap (λ (l : List ℕ). keeps_numbers kept l) (stays (λ same. omega arith))
        ∙ below-all number kept (first ∷ must) (omega arith, rising.1))
        other

without-rises : (low number : ℕ) (must : List ℕ) → RisesFrom low must → RisesFrom low (without number must)
without-rises low number [] rises = tt
without-rises low number (first ∷ must) rises =
    cond_both (first == number) must (first ∷ must) (RisesFrom low)
    (λ _. rises-lower (first + 1) low must (let above = rises.0 in omega arith) rises.1) (λ _. rises)

passes-rise : (low below : ℕ) (kept must : List ℕ) → RisesFrom low kept → RisesFrom below must → passes kept must ≡ keeps_numbers kept must
passes-rise low below [] [] rises rising = refl
passes-rise low below [] (first ∷ must) rises rising = refl
passes-rise low below (number ∷ kept) must rises rising =
    passes-rise (number + 1) below kept (without number must) rises.1 (without-rises below number must rising)
    ∙ one-less below number kept must rises.1 rising

-- one pass over numbers that rise finds whether each is kept
pub passes-is : (kept must : List ℕ) → Rises kept → Rises must → passes kept must ≡ keeps_numbers kept must
passes-is kept must rises rising = passes-rise 0 0 kept must rises rising

-- one kept number after another
pub passes-step : (kept must : List ℕ) (at : ℕ) → at < length kept
    → passes (drop at kept) must ≡ passes (drop (at + 1) kept) (without (get_or kept at 0) must)
passes-step kept must at inside =
    ap (λ (l : List ℕ). passes l must) (drop-cons kept at 0 inside)
    ∙ ap (λ (n : ℕ). passes (drop n kept) (without (get_or kept at 0) must)) (sym (add-one at))

-- at their end
pub passes-end : (kept must : List ℕ) (at found : ℕ) → length kept ≤ at → found ≤ length must → (found == length must) ≡ passes (drop at kept) (drop found must)
passes-end kept must at found over within =
    ⊎_elim
    (λ same. eq-eqb found (length must) same ∙ sym (ap (λ (l : List ℕ). passes l (drop found must)) (drop_all at kept over)
    ∙ ap (λ (l : List ℕ). passes [] l) (drop_all found must (omega arith))))
    (λ other. ne_eqb found (length must) (λ same. ⊎_elim (λ less. omega arith) (λ more. omega arith) other)
    ∙ sym (ap (λ (l : List ℕ). passes l (drop found must)) (drop_all at kept over)
    ∙ ap (λ (l : List ℕ). passes [] l) (drop-cons must found 0 (⊎_elim (λ less. less) (λ more. absurd (omega arith)) other))))
    (cases_order found (length must))

pub without-seen : (must : List ℕ) (found number : ℕ) → found < length must → get_or must found 0 ≡ number
    → drop (found + 1) must ≡ without number (drop found must)
without-seen must found number inside is =
    ap (λ (n : ℕ). drop n must) (add-one found)
    ∙ sym (ap (λ (l : List ℕ). without number l) (drop-cons must found 0 inside)
    ∙ cond-true (get_or must found 0 == number) (drop (suc found) must) (get_or must found 0 ∷ drop (suc found) must) (eq-eqb (get_or must found 0) number is))

pub without-other : (must : List ℕ) (found number : ℕ) → found < length must → (get_or must found 0 ≡ number → ⊥)
    → drop found must ≡ without number (drop found must)
without-other must found number inside differs =
    drop-cons must found 0 inside
    ∙ sym (ap (λ (l : List ℕ). without number l) (drop-cons must found 0 inside)
    ∙ cond-false (get_or must found 0 == number) (drop (suc found) must) (get_or must found 0 ∷ drop (suc found) must)
    (ne_eqb (get_or must found 0) number differs))

pub without-none : (must : List ℕ) (found number : ℕ) → length must ≤ found → drop found must ≡ without number (drop found must)
without-none must found number over =
    drop_all found must over ∙ sym (ap (λ (l : List ℕ). without number l) (drop_all found must over))

-- one kept number more
keeps-more : (number : ℕ) (kept must : List ℕ) → keeps_numbers kept must ≡ true → keeps_numbers (number ∷ kept) must ≡ true
keeps-more number kept [] is = refl
keeps-more number kept (first ∷ must) is =
    let parts = and_parts _ _ is in and_from _ _ (or_right _ _ parts.0) (keeps-more number kept must parts.1)

all-keep : {X : Type 0} (test : X → Bool) (number : ℕ) (xs : List X)
    → keeps_numbers (range_with_len number (length xs)) (numbers_where test number xs) ≡ true
all-keep test number [] = refl
all-keep test number (x ∷ xs) =
    let rest = keeps-more number (range_with_len (number + 1) (length xs)) (numbers_where test (number + 1) xs) (all-keep test (number + 1) xs) in
    cond_both (test x) (number ∷ numbers_where test (number + 1) xs) (numbers_where test (number + 1) xs)
    (λ must. keeps_numbers (number ∷ range_with_len (number + 1) (length xs)) must ≡ true)
    (λ _. and_from _ _ (or_left _ _ (eq-eqb number number refl)) rest) (λ _. rest)

numbers-numbered : (number : ℕ) (lines : List (List ℕ)) → numbers_of (numbered number lines) ≡ range_with_len number (length (numbered number lines))
numbers-numbered number [] = refl
numbers-numbered number (line ∷ lines) = ap (λ (l : List ℕ). number ∷ l) (numbers-numbered (number + 1) lines)

pub all_keep_protected : AllKeepProtected
all_keep_protected = record {
  lines =
      λ wishes start.
      ap (λ (kept : List ℕ). keeps_numbers kept (numbers_where (is_protected wishes) 0 (numbered_lines start))) (numbers-numbered 0 (lines_of start))
      ∙ all-keep (is_protected wishes) 0 (numbered_lines start);
  tokens = λ wishes start tokens. all-keep (is_token_protected wishes start) 0 tokens;
}
