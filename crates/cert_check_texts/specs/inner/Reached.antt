-- Along the offsets of a print: after which token of the start, and at which offset, a text can go on: a pair that is reached.
-- Texts are bytes, tokens have their numbers from 0, and offsets count bytes from 0.
use Rattle.std.specs.Prelude.{◌≡◌, ◌↔◌, ◌⊎◌, ◌<◌, ◌≤◌, ◌+◌, ℕ, suc, All, List, [], ◌∷◌, ◌++◌, Option, Some, None, drop, length, map, slice_index_or}
use denote.Ref.{Bor}
use Rattle.std.specs.List.{Contains}
use Rattle.std.specs.List.Sorted.{IsStrictlySortedBy}
use Rattle.std.specs.Ordering.{nat_cmp, ordering_then}
use Rattle.std.specs.declared.cmp.Ordering.{Ordering}
use Rattle.grammar_tree.specs.Lexes.{PlacedToken}
use Rattle.token_print.specs.Spelling.{gap_text, spelling_at}
use Rattle.token_print.specs.declared.style.Skips.{Skips}
use Rattle.token_print.specs.declared.style.Style.{Style}
use Rattle.token_print.specs.Printed.{before, printed_after, separator}
use Rattle.cert_check_texts.specs.declared.reached.Reached.{Reached}

-- the number comes after the last one, if there is one
abbrev pub IsAfter : Option ℕ → ℕ → Type 0
IsAfter None index = Unit {0}
IsAfter (Some last) index = last < index

-- The numbers rise strictly, and come after the last one.
abbrev pub RiseAfter : Option ℕ → List ℕ → Type 0
RiseAfter last [] = Unit {0}
RiseAfter last (index ∷ kept) = IsAfter last index × RiseAfter (Some index) kept

module _ (skips : Skips) (start : List ℕ) (tokens : List PlacedToken) (style : Style) (text : List ℕ) where
  -- what is printed of a token after the last kept one: what is before it, and its spelling
  abbrev pub piece : Option ℕ → ℕ → List ℕ
  piece last index = before skips start tokens style last index ++ spelling_at start tokens index

  -- From the offset the text goes on with this token after the last one, and the token ends there.
  pub record GoesOn (last : Option ℕ) (offset index end : ℕ) : Type 0 where
    pub after : IsAfter last index
    pub there : index < length tokens
    pub printed : drop offset text ≡ piece last index ++ drop end text
    pub at_end : end ≡ offset + length (piece last index)

  -- The tokens of these spellings, one after another, are printed from the offset to the end of the text.
  pub record CanEnd (last : Option ℕ) (offset : ℕ) (spellings : List (List ℕ)) : Type 0 where
    pub kept : List ℕ
    pub rise : RiseAfter last kept
    pub there : All (λ i. i < length tokens) kept
    pub spelled : map (spelling_at start tokens) kept ≡ spellings
    pub printed : drop offset text ≡ printed_after skips start tokens style last kept

  -- one of these pairs can end so
  abbrev pub SomeCanEnd : List Reached → List (List ℕ) → Type 0
  SomeCanEnd pairs spellings = (pair : Reached) × Contains pairs pair × CanEnd (Some pair.last) pair.offset spellings

  -- These are the pairs after a first token of this spelling.
  abbrev pub AreAfterFirst : List ℕ → List Reached → Type 0
  AreAfterFirst spelling next =
      (pair : Reached) → Contains next pair ↔ ((spelling_at start tokens pair.last ≡ spelling) × GoesOn None 0 pair.last pair.offset)

  -- These are the pairs after a token of this spelling, from one of those pairs, by the tokens that come so after it.
  abbrev pub AreAfterBy : (ℕ → ℕ → Type 0) → List Reached → List ℕ → List Reached → Type 0
  AreAfterBy Comes pairs spelling next = (pair : Reached) → Contains next pair ↔
      ((from : Reached) × Contains pairs from × Comes from.last pair.last × (spelling_at start tokens pair.last ≡ spelling)
      × GoesOn (Some from.last) from.offset pair.last pair.offset)

  -- Each of these pairs is so after a token of this spelling, from one of those pairs.
  abbrev pub AreSomeAfter : List Reached → List ℕ → List Reached → Type 0
  AreSomeAfter pairs spelling next = (pair : Reached) → Contains next pair →
      ((from : Reached) × Contains pairs from × (spelling_at start tokens pair.last ≡ spelling) × GoesOn (Some from.last) from.offset pair.last pair.offset)

  -- These are all of them.
  abbrev pub AreAfterToken : List Reached → List ℕ → List Reached → Type 0
  AreAfterToken pairs spelling next = (pair : Reached) → Contains next pair ↔
      ((from : Reached) × Contains pairs from × (spelling_at start tokens pair.last ≡ spelling) × GoesOn (Some from.last) from.offset pair.last pair.offset)

-- one token at least is left out between the two, or the one follows the other
abbrev pub LeavesOut : ℕ → ℕ → Type 0
LeavesOut last index = suc last < index

abbrev pub Follows : ℕ → ℕ → Type 0
Follows last index = index ≡ suc last

-- These are the separators of the first so many tokens, as they are lent.
pub record AreSeparators (skips : Skips) (start : List ℕ) (tokens : List PlacedToken) (count : ℕ) (separators : List (Bor (List ℕ))) : Type 0 where
  pub long : length separators ≡ count
  pub separate : (index : ℕ) (d : Bor (List ℕ)) → index < count → (slice_index_or separators index d).now ≡ separator skips (gap_text start tokens index)

-- one of the list is so
abbrev pub SomeOf : {A : Type 0} → List A → (A → Type 0) → Type 0
SomeOf {A} list Is = (one : A) × Contains list one × Is one

-- These are the pairs that were there before, and the new ones.
abbrev pub AreWith : List Reached → (Reached → Type 0) → List Reached → Type 0
AreWith before IsNew pairs = (pair : Reached) → Contains pairs pair ↔ (Contains before pair ⊎ IsNew pair)

-- Each of the one list is in the other.
abbrev pub AreAmong : List Reached → List Reached → Type 0
AreAmong few pairs = (pair : Reached) → Contains few pair → Contains pairs pair

-- These are the pairs of both lists.
abbrev pub AreOfBoth : List Reached → List Reached → List Reached → Type 0
AreOfBoth one other pairs = (pair : Reached) → Contains pairs pair ↔ (Contains one pair ⊎ Contains other pair)

-- among these there is one at the offset of a pair, whose token is no later
abbrev pub HasFirst : List Reached → Reached → Type 0
HasFirst firsts pair = (first : Reached) × Contains firsts first × (first.offset ≡ pair.offset) × (first.last ≤ pair.last)

-- Of each of these pairs there is a first one at its offset.
pub record AreFirst (pairs firsts : List Reached) : Type 0 where
  pub among : (first : Reached) → Contains firsts first → Contains pairs first
  pub least : (pair : Reached) → Contains pairs pair → HasFirst firsts pair

-- by their offsets, and at one offset by their tokens
abbrev pub order : Reached → Reached → Ordering
order one other = ordering_then (nat_cmp one.offset other.offset) (nat_cmp one.last other.last)

-- The pairs are sorted so, and each is there once.
abbrev pub AreSorted : List Reached → Type 0
AreSorted pairs = IsStrictlySortedBy order pairs
