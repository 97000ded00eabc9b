-- Which spellings a kind has: those of its tokens, and no others.
use Rattle.std.proofs.Common.{◌≡◌, ◌∙◌, ◌⊎◌, inl, inr, ⊎_elim, ◌<◌, ℕ, zero, suc, Bool, true, false, cond, List, [], ◌∷◌, length, get_or, refl, sym}
use Rattle.std.proofs.Common.{ap, subst, arith}
use Rattle.std.specs.Prelude.{nat_eq, nat_lt}
use Rattle.std.specs.List.{Contains}
use Rattle.std.specs.Ordering.{is_eq, nat_cmp, ordering_then}
use Rattle.std.specs.declared.cmp.Ordering.{Ordering}
use Rattle.std.specs.declared.cmp.Ordering.TheVariants.{Less, Equal, Greater}
use Rattle.std.specs.Cmp.Lexicographic.{slice_cmp}
use Rattle.std.proofs.lemmas.Bool.{eq-eqb, eqb-true, lt-ltb, ltb-true}
use Rattle.std.proofs.lemmas.Map.Text.{is_eq-slice_cmp}
use Rattle.std.proofs.lemmas.Slice.Eq.{bytes_eq-Decides}
use Rattle.grammar_tree.specs.Lexes.{PlacedToken}
use Rattle.token_print.specs.Spelling.{spelling}
use Rattle.spell_shrink.specs.Words.{placed, shorter_than, with_word, word_order, words_of}

-- the word is one of these
abbrev pub Has : List ℕ → List (List ℕ) → Type 0
Has word [] = ⊥
Has word (other ∷ words) = (other ≡ word) ⊎ Has word words

-- ---- one more word

then_equal : (o p : Ordering) → ordering_then o p ≡ Equal → p ≡ Equal
then_equal Equal p e = e
then_equal Less p e = absurd (cc e)
then_equal Greater p e = absurd (cc e)

-- words that are equal in the order are the same
same_word : (word other : List ℕ) → word_order word other ≡ Equal → other ≡ word
same_word word other e =
    sym ((bytes_eq-Decides word other).0
    (sym (is_eq-slice_cmp word other) ∙ ap is_eq (then_equal (nat_cmp (length word) (length other)) (slice_cmp nat_cmp word other) e)))

in_placed : (o : Ordering) (word other : List ℕ) (words later : List (List ℕ)) → (o ≡ Equal → other ≡ word) → Has word later
    → Has word (placed o word other words later)
in_placed Less word other words later same has = inl refl
in_placed Equal word other words later same has = inl (same refl)
in_placed Greater word other words later same has = inr has

in_with_word : (word : List ℕ) (words : List (List ℕ)) → Has word (with_word word words)
in_with_word word [] = inl refl
in_with_word word (other ∷ words) =
    in_placed (word_order word other) word other words (with_word word words) (same_word word other) (in_with_word word words)

stays_placed : (o : Ordering) (w word other : List ℕ) (words later : List (List ℕ)) → Has w (other ∷ words) → (Has w words → Has w later)
    → Has w (placed o word other words later)
stays_placed Less w word other words later has keep = inr has
stays_placed Equal w word other words later has keep = has
stays_placed Greater w word other words later (inl same) keep = inl same
stays_placed Greater w word other words later (inr has) keep = inr (keep has)

stays_with_word : (w word : List ℕ) (words : List (List ℕ)) → Has w words → Has w (with_word word words)
stays_with_word w word [] has = absurd has
stays_with_word w word (other ∷ words) has =
    stays_placed (word_order word other) w word other words (with_word word words) has (stays_with_word w word words)

from_placed : (o : Ordering) (w word other : List ℕ) (words later : List (List ℕ)) → (Has w later → (word ≡ w) ⊎ Has w words)
    → Has w (placed o word other words later) → (word ≡ w) ⊎ Has w (other ∷ words)
from_placed Less w word other words later back (inl same) = inl same
from_placed Less w word other words later back (inr has) = inr has
from_placed Equal w word other words later back has = inr has
from_placed Greater w word other words later back (inl same) = inr (inl same)
from_placed Greater w word other words later back (inr has) = ⊎_elim (λ same. inl same) (λ in_words. inr (inr in_words)) (back has)

from_with_word : (w word : List ℕ) (words : List (List ℕ)) → Has w (with_word word words) → (word ≡ w) ⊎ Has w words
from_with_word w word [] (inl same) = inl same
from_with_word w word [] (inr has) = absurd has
from_with_word w word (other ∷ words) has =
    from_placed (word_order word other) w word other words (with_word word words) (from_with_word w word words) has

-- ---- those of a kind

module _ (start : List ℕ) (kind : ℕ) where
  -- the spelling of a token of the kind is one of them
  pub in_words_of : (tokens : List PlacedToken) (t : PlacedToken) → Contains tokens t → t.kind ≡ kind → Has (spelling start t) (words_of start tokens kind)
  in_words_of tokens t there same = at tokens there.0 there.1 there.2
    where
      kept : (s : PlacedToken) (later : List (List ℕ)) (b : Bool) → Has (spelling start t) later
          → Has (spelling start t) (cond b (with_word (spelling start s) later) later)
      kept s later true has = stays_with_word (spelling start t) (spelling start s) later has
      kept s later false has = has

      at : (tokens : List PlacedToken) (k : ℕ) → k < length tokens → get_or tokens k t ≡ t → Has (spelling start t) (words_of start tokens kind)
      at [] k less e = absurd (omega (arith, less))
      at (s ∷ ts) zero less e =
          let of_kind : nat_eq s.kind kind ≡ true = eq-eqb s.kind kind (ap (λ (u : PlacedToken). u.kind) e ∙ same) in
          subst (λ b. Has (spelling start t) (cond b (with_word (spelling start s) (words_of start ts kind)) (words_of start ts kind))) (sym of_kind)
          (subst (λ (u : PlacedToken). Has (spelling start u) (with_word (spelling start s) (words_of start ts kind))) e
          (in_with_word (spelling start s) (words_of start ts kind)))
      at (s ∷ ts) (suc k) less e = kept s (words_of start ts kind) (nat_eq s.kind kind) (at ts k (omega (arith, less)) e)

  -- some token of the kind has the spelling
  pub record HasToken (tokens : List PlacedToken) (word : List ℕ) : Type 0 where
    pub token : PlacedToken
    pub there : Contains tokens token
    pub kind_is : token.kind ≡ kind
    pub word_is : word ≡ spelling start token

  one_more : (s : PlacedToken) (tokens : List PlacedToken) (word : List ℕ) → HasToken tokens word → HasToken (s ∷ tokens) word
  one_more s tokens word has =
      record { token = has.token; there = (suc has.there.0, omega (arith, has.there.1), has.there.2); kind_is = has.kind_is; word_is = has.word_is }

  pub from_words_of : (tokens : List PlacedToken) (word : List ℕ) → Has word (words_of start tokens kind) → HasToken tokens word
  from_words_of [] word has = absurd has
  from_words_of (s ∷ tokens) word has = by (nat_eq s.kind kind) refl (λ later. one_more s tokens word (from_words_of tokens word later)) has
    where
      by : (b : Bool) → nat_eq s.kind kind ≡ b → (Has word (words_of start tokens kind) → HasToken (s ∷ tokens) word)
          → Has word (cond b (with_word (spelling start s) (words_of start tokens kind)) (words_of start tokens kind)) → HasToken (s ∷ tokens) word
      by false e later has = later has
      by true e later has =
          ⊎_elim (λ same. record { token = s; there = (0, omega arith, refl); kind_is = eqb-true s.kind kind e; word_is = sym same }) later
          (from_with_word word (spelling start s) (words_of start tokens kind) has)

-- ---- the shorter ones

pub in_shorter : (size : ℕ) (word : List ℕ) (words : List (List ℕ)) → length word < size → Has word words → Has word (shorter_than size words)
in_shorter size word [] less has = absurd has
in_shorter size word (other ∷ words) less (inl same) =
    subst (λ b. Has word (cond b (other ∷ shorter_than size words) (shorter_than size words)))
    (sym (ap (λ (w : List ℕ). nat_lt (length w) size) same ∙ lt-ltb (length word) size less)) (inl same)
in_shorter size word (other ∷ words) less (inr later) = kept (nat_lt (length other) size) (in_shorter size word words less later)
  where
    kept : (b : Bool) → Has word (shorter_than size words) → Has word (cond b (other ∷ shorter_than size words) (shorter_than size words))
    kept true has = inr has
    kept false has = has

pub from_shorter : (size : ℕ) (word : List ℕ) (words : List (List ℕ)) → Has word (shorter_than size words) → Has word words × (length word < size)
from_shorter size word [] has = absurd has
from_shorter size word (other ∷ words) has =
    by (nat_lt (length other) size) refl (λ later. let both = from_shorter size word words later in (inr both.0, both.1)) has
  where
    by : (b : Bool) → nat_lt (length other) size ≡ b → (Has word (shorter_than size words) → Has word (other ∷ words) × (length word < size))
        → Has word (cond b (other ∷ shorter_than size words) (shorter_than size words)) → Has word (other ∷ words) × (length word < size)
    by false e later has = later has
    by true e later (inl same) = (inl same, subst (λ (w : List ℕ). length w < size) same (ltb-true (length other) size e))
    by true e later (inr has) = later has
