-- The bytes of each line, by where the lines end, and which line holds a byte.
use Rattle.std.proofs.Common.{◌≡◌, ◌+◌, ◌-◌, ◌<◌, ◌≤◌, ⊎_elim, ℕ, zero, suc, Bool, cond, List, [], ◌∷◌, ◌++◌, length, drop, get_or, take}
use Rattle.std.proofs.Common.{slice_get, slice_index, slice_range, Some, refl, sym, ap, ◌∙◌, arith, append_assoc, length-append}
use Rattle.std.proofs.Math.Seq.{drop-append_seam, take-append_seam}
use Rattle.std.proofs.lemmas.Bool.{cases_lt, le-ltb, lt-ltb}
use Rattle.std.proofs.lemmas.List.{get_or_read}
use Rattle.std.specs.List.{concat}
use Rattle.reduce_core.specs.Lines.{lines_of, numbered, text_of}
use Rattle.reduce_core.proofs.Lent.{text-numbered_lines}
use Rattle.line_guard.specs.Laws.{LinesHoldTheirBytes}
use Rattle.line_guard.specs.Lines.{ends_from, line_at, line_ends}
use Rattle.line_guard.specs.inner.Slices.{begin_from}
use Rattle.line_guard.proofs.EndsLemmas.{length-ends}

joined : (number : ℕ) (lines : List (List ℕ)) → text_of (numbered number lines) ≡ concat lines
joined number [] = refl
joined number (line ∷ lines) = ap (λ text. line ++ text) (joined (number + 1) lines)

-- the lines of a text, one after another, are the text
pub concat-lines : (text : List ℕ) → concat (lines_of text) ≡ text
concat-lines text = sym (joined 0 (lines_of text)) ∙ text-numbered_lines text

-- The lines are the line at this index between what is before it and what is after it.
record Part (begin : ℕ) (lines : List (List ℕ)) (at : ℕ) : Type 0 where
  front : List ℕ
  line : List ℕ
  back : List ℕ
  whole : concat lines ≡ front ++ (line ++ back)
  begins : begin_from begin (ends_from begin lines) at ≡ begin + length front
  ends : slice_index (ends_from begin lines) at ≡ begin + length front + length line
  is : slice_get lines at ≡ Some line

later : (begin end : ℕ) (ends : List ℕ) (at : ℕ) → begin_from begin (end ∷ ends) (suc at) ≡ begin_from end ends at
later begin end ends zero = refl
later begin end ends (suc at) = refl

part-of : (begin : ℕ) (lines : List (List ℕ)) (at : ℕ) → at < length lines → Part begin lines at
part-of begin [] at inside = absurd (omega arith)
part-of begin (line ∷ lines) zero inside =
    record { front = []; line = line; back = concat lines; whole = refl; begins = omega arith; ends = omega arith; is = refl }
part-of begin (line ∷ lines) (suc at) inside =
    let rest = part-of (begin + length line) lines at (omega arith) in
    let long = length-append line rest.front in
    let begun : (begin + length line) + length rest.front ≡ begin + length (line ++ rest.front) = omega (arith, long) in
    record {
      front = line ++ rest.front;
      line = rest.line;
      back = rest.back;
      whole = ap (λ text. line ++ text) rest.whole ∙ sym (append_assoc line rest.front (rest.line ++ rest.back));
      begins = later begin (begin + length line) (ends_from (begin + length line) lines) at ∙ rest.begins ∙ begun;
      ends = rest.ends ∙ ap (λ n. n + length rest.line) begun;
      is = rest.is;
    }

chosen : (front line back : List ℕ) (begin end : ℕ) → begin ≡ length front → end ≡ length front + length line
    → slice_range (front ++ (line ++ back)) begin end ≡ line
chosen front line back begin end begins ends =
    let long : end - begin ≡ length line = omega arith in
    ap (λ n. take n (drop begin (front ++ (line ++ back)))) long
    ∙ ap (λ n. take (length line) (drop n (front ++ (line ++ back)))) begins
    ∙ ap (λ text. take (length line) text) (drop-append_seam front (line ++ back))
    ∙ take-append_seam line back

-- The line at this index is this slice of the text.
pub record IsSliceAt (text : List ℕ) (at begin end : ℕ) : Type 0 where
  pub rises : begin ≤ end
  pub within : end ≤ length text
  pub is : slice_get (lines_of text) at ≡ Some (slice_range text begin end)

pub slice-at : (text ends : List ℕ) (at begin end : ℕ) → ends ≡ line_ends text → at < length ends → begin ≡ begin_from 0 ends at
    → end ≡ get_or ends at end → IsSliceAt text at begin end
slice-at text ends at begin end indexed inside begun ended =
    let long = ap (λ (l : List ℕ). length l) indexed in
    let part = part-of 0 (lines_of text) at (omega (arith, inside, long, length-ends 0 (lines_of text))) in
    let whole : text ≡ part.front ++ (part.line ++ part.back) = sym (concat-lines text) ∙ part.whole in
    let size = ap (λ (t : List ℕ). length t) whole ∙ length-append part.front (part.line ++ part.back) in
    let more = length-append part.line part.back in
    let first = begun ∙ ap (λ (l : List ℕ). begin_from 0 l at) indexed ∙ part.begins in
    let last = get_or_read ends at end inside ended 0 ∙ ap (λ (l : List ℕ). slice_index l at) indexed ∙ part.ends in
    let begins : begin ≡ length part.front = omega (arith, first) in
    let ends_at : end ≡ length part.front + length part.line = omega (arith, last) in
    record {
      rises = omega (arith, begins, ends_at);
      within = omega (arith, ends_at, size, more);
      is =
          part.is
          ∙ ap (λ line. Some line) (sym (ap (λ (t : List ℕ). slice_range t begin end) whole
          ∙ chosen part.front part.line part.back begin end begins ends_at));
    }

-- The line of an offset, among lines of which the first begins here.
record Holds (begin : ℕ) (lines : List (List ℕ)) (offset : ℕ) : Type 0 where
  before : List (List ℕ)
  line : List ℕ
  after : List (List ℕ)
  cut : lines ≡ before ++ (line ∷ after)
  numbered : line_at (ends_from begin lines) offset ≡ suc (length before)
  begun : begin + length (concat before) ≤ offset
  within : offset < begin + length (concat before) + length line

held-here : (begin : ℕ) (line : List ℕ) (lines : List (List ℕ)) (offset : ℕ) → begin ≤ offset → offset < begin + length line
    → Holds begin (line ∷ lines) offset
held-here begin line lines offset low here = record {
  before = [];
  line = line;
  after = lines;
  cut = refl;
  numbered = ap (λ (b : Bool). cond b 1 (suc (line_at (ends_from (begin + length line) lines) offset))) (lt-ltb offset (begin + length line) here);
  begun = omega arith;
  within = omega arith;
}

held-later : (begin : ℕ) (line : List ℕ) (lines : List (List ℕ)) (offset : ℕ) → begin + length line ≤ offset → Holds (begin + length line) lines offset
    → Holds begin (line ∷ lines) offset
held-later begin line lines offset beyond rest =
    let more = length-append line (concat rest.before) in
    record {
      before = line ∷ rest.before;
      line = rest.line;
      after = rest.after;
      cut = ap (λ (ls : List (List ℕ)). line ∷ ls) rest.cut;
      numbered =
          ap (λ (b : Bool). cond b 1 (suc (line_at (ends_from (begin + length line) lines) offset))) (le-ltb offset (begin + length line) beyond)
          ∙ ap (λ n. suc n) rest.numbered;
      begun = omega (arith, more, rest.begun);
      within = omega (arith, more, rest.within);
    }

holding : (begin : ℕ) (lines : List (List ℕ)) (offset : ℕ) → begin ≤ offset → offset < begin + length (concat lines) → Holds begin lines offset
holding begin [] offset low high = absurd (omega arith)
holding begin (line ∷ lines) offset low high =
    let long = length-append line (concat lines) in
    ⊎_elim (λ here. held-here begin line lines offset low here)
    (λ beyond. held-later begin line lines offset beyond (holding (begin + length line) lines offset beyond (omega (arith, long, high))))
    (cases_lt offset (begin + length line))

pub lines_hold_their_bytes : LinesHoldTheirBytes
lines_hold_their_bytes text offset inside =
    let size = ap (λ (t : List ℕ). length t) (concat-lines text) in
    let held = holding 0 (lines_of text) offset (omega arith) (omega (arith, inside, size)) in
    record {
      before = held.before;
      line = held.line;
      after = held.after;
      lines = held.cut;
      numbered = held.numbered;
      begun = omega (arith, held.begun);
      within = omega (arith, held.within);
    }
