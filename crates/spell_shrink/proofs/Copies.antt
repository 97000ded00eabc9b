-- What comes before a change, and what comes after it, is copied into the changed text.
use Rattle.std.proofs.Common.{◌≡◌, ◌∙◌, ◌+◌, ◌-◌, ◌≤◌, inl, inr, ℕ, suc, List, [], ◌++◌, take, drop, length, refl, sym, ap, subst, arith, append_assoc}
use Rattle.std.proofs.Common.{drop_at, length-append, length-drop, length-take-le}
use Rattle.std.specs.List.{between}
use Rattle.std.specs.Str.{IsCharBoundary, IsUtf8}
use Rattle.std.proofs.lemmas.List.{take-append-le, take-take}
use Rattle.std.proofs.lemmas.Slice.{between_is}
use Rattle.std.proofs.lemmas.Str.{IsCharBoundary-end, IsCharBoundary-from_drop, IsCharBoundary-from_take, IsCharBoundary-start, IsUtf8-drop, IsUtf8-take}
use Rattle.token_print.specs.declared.runs.Run.{Run}
use Rattle.token_print.specs.inner.Copies.{IsCopy}
use Rattle.spell_shrink.specs.declared.change.Change.{Change}
use Rattle.spell_shrink.specs.inner.Changes.{changed}

-- where the word of a change ends
abbrev pub word_end : Change → ℕ
word_end change = change.from + length change.word.now

-- what comes before the change, and what comes after it
abbrev pub before_run : Change → Run
before_run change = record { at = 0; from = 0; to = change.from; limit = change.from }

abbrev pub after_run : List ℕ → Change → Run
after_run old change = record { at = word_end change; from = change.to; to = length old; limit = suc (length old) }

-- the changed text, part by part
pub copied_text : (old : List ℕ) (change : Change) (first last none one two all : List ℕ) → first ≡ take change.from old → last ≡ drop change.to old
    → none ≡ [] → one ≡ none ++ first → two ≡ one ++ change.word.now → all ≡ two ++ last → all ≡ changed old change
copied_text old change first last none one two all first_is last_is none_is one_is two_is all_is =
    all_is ∙ ap (λ (l : List ℕ). l ++ last) (two_is ∙ ap (λ (l : List ℕ). l ++ change.word.now) (one_is ∙ ap (λ (l : List ℕ). l ++ first) none_is))
    ∙ append_assoc first change.word.now last ∙ (λ i. first_is i ++ (change.word.now ++ last_is i))

-- with a shorter word the changed text isn't longer
pub changed_small : (old : List ℕ) (change : Change) → change.from ≤ change.to → change.to ≤ length old → word_end change ≤ change.to
    → length (changed old change) ≤ length old
changed_small old change rises within shorter =
    let back : List ℕ = drop change.to old in
    omega (
      arith,
      within,
      shorter,
      length-append (take change.from old) (change.word.now ++ back),
      length-append change.word.now back,
      length-take-le change.from old (omega (arith, rises, within)),
      length-drop change.to old,
    )

module _ (old text : List ℕ) (change : Change) (utf8 : IsUtf8 old) (text_utf8 : IsUtf8 text) (is : text ≡ changed old change)
    (rises : change.from ≤ change.to) (within : change.to ≤ length old) (starts : IsCharBoundary old change.from) (ends : IsCharBoundary old change.to) where
  abbrev word : List ℕ
  word = change.word.now

  abbrev front : List ℕ
  front = take change.from old

  abbrev back : List ℕ
  back = drop change.to old

  front_size : length front ≡ change.from
  front_size = length-take-le change.from old (omega (arith, rises, within))

  pub text_size : length text ≡ word_end change + (length old - change.to)
  text_size =
      omega (
        arith,
        ap (λ (l : List ℕ). length l) is,
        length-append front (word ++ back),
        length-append word back,
        front_size,
        length-drop change.to old,
      )

  pub text_back : drop (word_end change) text ≡ back
  text_back =
      ap (drop (word_end change)) (is ∙ sym (append_assoc front word back))
      ∙ drop_at (front ++ word) back (word_end change) (omega (arith, length-append front word, front_size))

  -- up to there both texts are the same
  pub take_before : (n : ℕ) → n ≤ change.from → take n text ≡ take n old
  take_before n low =
      ap (take n) is ∙ take-append-le n front (word ++ back) (omega (arith, low, front_size)) ∙ take-take n change.from old low

  -- and have the same boundaries
  pub boundary_before : (n : ℕ) → n ≤ change.from → IsCharBoundary old n → IsCharBoundary text n
  boundary_before n low boundary =
      IsCharBoundary-from_take text n text_utf8 (omega (arith, low, text_size)) (subst IsUtf8 (sym (take_before n low)) (IsUtf8-take old n utf8 boundary))

  text_ends : IsCharBoundary text (word_end change)
  text_ends =
      IsCharBoundary-from_drop text (word_end change) (omega (arith, text_size)) (subst IsUtf8 (sym text_back) (IsUtf8-drop old change.to utf8 ends))

  -- ---- the two copies

  pub before_copied : IsCopy old text (before_run change)
  before_copied =
      let end : 0 + (change.from - 0) ≡ change.from = omega arith in
      record {
        rises = omega arith;
        within = omega (arith, rises, within);
        fits = omega (arith, text_size);
        same =
            ap (λ n. between 0 n text) end ∙ between_is text 0 change.from ∙ take_before change.from (omega arith)
            ∙ sym (between_is old 0 change.from);
        begins = IsCharBoundary-start old utf8;
        ends = starts;
        text_begins = IsCharBoundary-start text text_utf8;
        text_ends = subst (IsCharBoundary text) (sym end) (boundary_before change.from (omega arith) starts);
        limit = inl refl;
      }

  pub after_copied : IsCopy old text (after_run old change)
  after_copied =
      let n : ℕ = length old - change.to in
      let count : (word_end change + n) - word_end change ≡ n = omega arith in
      let end : word_end change + n ≡ length text = omega (arith, text_size) in
      record {
        rises = omega (arith, within);
        within = omega arith;
        fits = omega (arith, text_size);
        same = ap (λ k. take k (drop (word_end change) text)) count ∙ ap (take n) text_back;
        begins = ends;
        ends = IsCharBoundary-end old;
        text_begins = text_ends;
        text_ends = subst (IsCharBoundary text) (sym end) (IsCharBoundary-end text);
        limit = inr (refl, refl, end);
      }
