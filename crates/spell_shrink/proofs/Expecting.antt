-- The tokens that a changed text has to be cut into, at an index.
use Rattle.std.proofs.Common.{◌≡◌, ◌≢◌, ◌∙◌, ◌<◌, ◌≤◌, ◌⊎◌, ⊎_elim, inl, inr, ℕ, zero, suc, List, [], ◌∷◌, Option, Some, None, length, map, refl, sym}
use Rattle.std.proofs.Common.{ap, subst, arith}
use Rattle.std.specs.Prelude.{slice_get, slice_index_or}
use Rattle.std.specs.Option.{option_map_or}
use lib.Utf8.{encodes}
use Rattle.std.specs.Str.{chars, IsUtf8}
use Rattle.std.proofs.lemmas.Bool.{cases_order}
use Rattle.std.proofs.lemmas.Option.{slice_get_past}
use Rattle.std.proofs.lemmas.Str.{encodes-chars}
use Rattle.grammar_tree.specs.Lexes.{Piece, PlacedToken}
use Rattle.lexer.specs.Tokens.{token_of}
use Rattle.spell_shrink.specs.declared.reading.Expected.{Expected}
use Rattle.spell_shrink.specs.Respelling.{Respelling, kind_at, number_at, with_word_at, word_at}
use Rattle.spell_shrink.specs.Texts.{respelled_pieces}
use Rattle.spell_shrink.specs.inner.Changes.{respelling_of_words}
use Rattle.spell_shrink.specs.inner.Rereads.{AreExpected, expected_pieces, respelling_after}
use Rattle.spell_shrink.proofs.ChangedTexts.{as_many}
use Rattle.spell_shrink.proofs.WordPrinting.{respelling_long, spelling_of}

-- texts of the same characters are the same
pub same_text : (text other : List ℕ) → IsUtf8 text → IsUtf8 other → chars text ≡ chars other → text ≡ other
same_text text other utf8 other_utf8 same = sym (encodes-chars text utf8) ∙ ap encodes same ∙ encodes-chars other other_utf8

-- ---- a respelling in which one spelling is changed

pub changed_word : (r : Respelling) (k : ℕ) (word : List ℕ) → k < length r → word_at (with_word_at r k word) k ≡ word
changed_word [] k word less = absurd (omega (arith, less))
changed_word (p ∷ r) zero word less = refl
changed_word (p ∷ r) (suc k) word less = changed_word r k word (omega (arith, less))

pub other_word : (r : Respelling) (k j : ℕ) (word : List ℕ) → j ≢ k → word_at (with_word_at r k word) j ≡ word_at r j
other_word [] k j word other = refl
other_word (p ∷ r) zero zero word other = absurd (other refl)
other_word (p ∷ r) zero (suc j) word other = refl
other_word (p ∷ r) (suc k) zero word other = refl
other_word (p ∷ r) (suc k) (suc j) word other = other_word r k j word (λ same. other (ap suc same))

same_number : (r : Respelling) (k j : ℕ) (word : List ℕ) → number_at (with_word_at r k word) j ≡ number_at r j
same_number [] k j word = refl
same_number (p ∷ r) zero zero word = refl
same_number (p ∷ r) zero (suc j) word = refl
same_number (p ∷ r) (suc k) zero word = refl
same_number (p ∷ r) (suc k) (suc j) word = same_number r k j word

-- ---- kinds and spellings at an index

pub piece_at : (tokens : List PlacedToken) (r : Respelling) (k : ℕ) → k < length r
    → slice_get (respelled_pieces tokens r) k ≡ Some (record { kind = kind_at tokens (number_at r k); text = chars (word_at r k) })
piece_at tokens [] k less = absurd (omega (arith, less))
piece_at tokens (p ∷ r) zero less = refl
piece_at tokens (p ∷ r) (suc k) less = piece_at tokens r k (omega (arith, less))

pub pieces_long : (tokens : List PlacedToken) (r : Respelling) → length (respelled_pieces tokens r) ≡ length r
pieces_long tokens [] = refl
pieces_long tokens (p ∷ r) = omega (arith, pieces_long tokens r)

module _ (e : Expected) (long : length e.words.now ≡ length e.kept.now) where
  many : length (respelling_after e) ≡ length e.kept.now
  many = as_many (respelling_of_words e.kept.now e.words.now) e.index e.word.now ∙ respelling_long e.kept.now e.words.now long

  -- past the last one there is none
  pub none_past : (k : ℕ) (p : Piece) → length e.kept.now ≤ k → slice_get (expected_pieces e) k ≢ Some p
  none_past k p past is =
      let all = pieces_long (map token_of e.tokens.now) (respelling_after e) in
      let none : None ≡ Some p = sym (slice_get_past (expected_pieces e) k (omega (arith, all, many, past))) ∙ is in
      absurd (cc none)

  module _ (k : ℕ) (less : k < length e.kept.now) (kind : ℕ) (word : List ℕ)
      (kind_is : kind_at (map token_of e.tokens.now) (number_at (respelling_of_words e.kept.now e.words.now) k) ≡ kind)
      (word_is : word_at (respelling_after e) k ≡ word) where
    here : slice_get (expected_pieces e) k ≡ Some (record { kind = kind; text = chars word })
    here =
        piece_at (map token_of e.tokens.now) (respelling_after e) k (omega (arith, many, less))
        ∙ (λ i. Some (record { kind = kind_now i; text = chars (word_is i) }))
      where
        kind_now : kind_at (map token_of e.tokens.now) (number_at (respelling_after e) k) ≡ kind
        kind_now =
            ap (kind_at (map token_of e.tokens.now)) (same_number (respelling_of_words e.kept.now e.words.now) e.index k e.word.now) ∙ kind_is

    -- it has this kind and this spelling
    pub is_expected : (found_kind : ℕ) (found : List ℕ) → kind ≡ found_kind → word ≡ found
        → slice_get (expected_pieces e) k ≡ Some (record { kind = found_kind; text = chars found })
    is_expected found_kind found same_kind same = here ∙ (λ i. Some (record { kind = same_kind i; text = chars (same i) }))

    -- one of another kind is another
    pub other_kind : (found_kind : ℕ) (found : List ℕ) → kind ≢ found_kind
        → slice_get (expected_pieces e) k ≢ Some (record { kind = found_kind; text = chars found })
    other_kind found_kind found other is =
        let both : Some (record { kind = kind; text = chars word }) ≡ Some (record { kind = found_kind; text = chars found }) = sym here ∙ is in
        other (ap (λ (o : Option Piece). option_map_or (λ (p : Piece). p.kind) o 0) both)

    -- where it has not, the piece is another
    pub is_other : (found_kind : ℕ) (found : List ℕ) → IsUtf8 word → IsUtf8 found → (kind ≡ found_kind → word ≡ found → ⊥)
        → slice_get (expected_pieces e) k ≢ Some (record { kind = found_kind; text = chars found })
    is_other found_kind found utf8 found_utf8 differs is =
        let both : Some (record { kind = kind; text = chars word }) ≡ Some (record { kind = found_kind; text = chars found }) = sym here ∙ is in
        differs (ap (λ (o : Option Piece). option_map_or (λ (p : Piece). p.kind) o 0) both)
        (same_text word found utf8 found_utf8 (ap (λ (o : Option Piece). option_map_or (λ (p : Piece). p.text) o []) both))

-- what is expected is of UTF-8
pub word_utf8 : (e : Expected) → AreExpected e → (k : ℕ) → k < length e.kept.now → IsUtf8 (word_at (respelling_after e) k)
word_utf8 e are k less =
    ⊎_elim
    (λ same.
    subst IsUtf8 (sym (ap (word_at (respelling_after e)) same ∙ changed_word earlier e.index e.word.now (omega (arith, are.index, long))))
    are.word_utf8)
    (λ other.
    let here : word_at earlier k ≡ (slice_index_or e.words.now k e.word).now = spelling_of e.kept.now e.words.now k e.word less are.long in
    subst IsUtf8 (sym (other_word earlier e.index k e.word.now (apart other) ∙ here)) (are.utf8 k e.word (omega (arith, less, are.long))))
    (cases_order k e.index)
  where
    earlier : Respelling
    earlier = respelling_of_words e.kept.now e.words.now

    long : length earlier ≡ length e.kept.now
    long = respelling_long e.kept.now e.words.now are.long

    apart : (k < e.index) ⊎ (e.index < k) → k ≢ e.index
    apart (inl low) same = omega (arith, low, same)
    apart (inr high) same = omega (arith, high, same)
