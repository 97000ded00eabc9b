-- Kept numbers rise, as a guard asks it, and what is asked of a text says whether it is listed.
use Rattle.std.proofs.Common.{ℕ, suc, ◌≡◌, ◌+◌, ◌<◌, ◌≤◌, ◌↔◌, Bool, ◌&&◌, List, [], ◌∷◌, slice_index, ap, ◌∙◌, subst, arith}
use Rattle.std.specs.Prelude.{IsTrue}
use Rattle.std.specs.List.Sorted.{IsStrictlyIncreasing}
use Rattle.std.proofs.lemmas.Bool.Decides.{same_from_decides}
use Rattle.token_print.specs.Readings.{SpelledAreFound, spells}
use Rattle.token_print.specs.Spelling.{kinds_and_spellings}
use Rattle.token_print.specs.declared.style.Style.{Style}
use Rattle.token_print.specs.Kept.{KeepsTokens}
use Rattle.keep_guard.specs.Relation.{Rises, RisesFrom}
use Rattle.reduce_trees_mode.specs.Input.{TreeInput}
use Rattle.reduce_trees_mode.specs.Listed.{text_in}
use Rattle.reduce_trees.specs.inner.Candidates.{is_listed_in}

-- the first number is this or greater
abbrev IsFrom : ℕ → List ℕ → Type 0
IsFrom low [] = Unit {0}
IsFrom low (x ∷ xs) = low ≤ x

from_next : (x : ℕ) (xs : List ℕ) → IsStrictlyIncreasing (x ∷ xs) → IsFrom (x + 1) xs
from_next x [] up = tt
from_next x (y ∷ ys) up =
    let less : x < y = up 0 (omega arith) in
    let more : x + 1 ≤ y = omega (arith, less) in
    more

later_rise : (x : ℕ) (xs : List ℕ) → IsStrictlyIncreasing (x ∷ xs) → IsStrictlyIncreasing xs
later_rise x xs up =
    λ k lt. subst (λ (m : ℕ). slice_index xs k < slice_index (x ∷ xs) m) (let e : suc k + 1 ≡ suc (k + 1) = omega arith in e) (up (suc k) (omega (arith, lt)))

rise_from : (low : ℕ) (xs : List ℕ) → IsStrictlyIncreasing xs → IsFrom low xs → RisesFrom low xs
rise_from low [] up from = tt
rise_from low (x ∷ xs) up from = (from, rise_from (x + 1) xs (later_rise x xs up) (from_next x xs up))

from_zero : (xs : List ℕ) → IsFrom 0 xs
from_zero [] = tt
from_zero (x ∷ xs) = let least : 0 ≤ x = omega arith in least

-- kept numbers rise, as a guard asks
pub kept_rise : (kept : List ℕ) → IsStrictlyIncreasing kept → Rises kept
kept_rise kept up = rise_from 0 kept up (from_zero kept)

-- A text is listed where it keeps its tokens and is admitted.
pub listed_in : SpelledAreFound → (input : TreeInput) (kept : List ℕ) (style : Style) (start text : List ℕ) (keeps : Bool) → start ≡ input.start → IsTrue keeps
    ↔ KeepsTokens input.grammar.grammar start input.tokens kept text → text ≡ text_in input kept style →
    (keeps && input.admits kept text) ≡ is_listed_in input kept style
listed_in found input kept style start text keeps same says is =
    let says_it : IsTrue keeps ↔ KeepsTokens input.grammar.grammar input.start input.tokens kept text =
    subst (λ (s : List ℕ). IsTrue keeps ↔ KeepsTokens input.grammar.grammar s input.tokens kept text) same says in
    let spelled = kinds_and_spellings input.start input.tokens kept in
    let one : keeps ≡ spells input.grammar.grammar text spelled =
    same_from_decides keeps (spells input.grammar.grammar text spelled) says_it (found input.grammar.grammar input.grammar.start input.formed text spelled) in
    ap (λ (b : Bool). b && input.admits kept text) one ∙ ap (λ (t : List ℕ). spells input.grammar.grammar t spelled && input.admits kept t) is
