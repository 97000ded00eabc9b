-- The lines of a text, one after another, are the text.
use Rattle.std.proofs.Common.{◌≡◌, ◌≢◌, ◌+◌, ◌<◌, ℕ, suc, zero, Bool, true, false, List, [], ◌∷◌, refl, ap, ◌∙◌, cond, sym}
use Rattle.std.proofs.Common.{take, drop, length, arith, append_assoc, ◌++◌, ◌≤◌, inl, inr, ⊎_elim, ◌⊎◌}
use Rattle.std.proofs.lemmas.Bool.{cond_both}
use Rattle.std.specs.Prelude.{◌==◌, slice_index}
use Rattle.memchr.specs.Find.{Nowhere, Passes, is_byte}
use Rattle.std.specs.List.{concat}
use Rattle.keep_guard.specs.Relation.{Rises, RisesFrom}
use Rattle.list_ddmin.specs.ListStep.{kept_of}
use Rattle.reduce_core.specs.declared.lines.Line.{Line}
use Rattle.reduce_core.specs.Lines.{at_front_of, lines_of, numbered, numbered_lines, numbers_of, text_of}

pub concat-at_front_of : (byte : ℕ) (lines : List (List ℕ)) → concat (at_front_of byte lines) ≡ byte ∷ concat lines
concat-at_front_of byte [] = refl
concat-at_front_of byte (line ∷ lines) = refl

pub concat-lines_of : (text : List ℕ) → concat (lines_of text) ≡ text
concat-lines_of [] = refl
concat-lines_of (byte ∷ text) =
    let rest = concat-lines_of text in
    cond_both (byte == 10) ((byte ∷ []) ∷ lines_of text) (at_front_of byte (lines_of text)) (λ lines. concat lines ≡ byte ∷ text)
    (λ _. ap (λ t. byte ∷ t) rest)
    (λ _. concat-at_front_of byte (lines_of text) ∙ ap (λ t. byte ∷ t) rest)

either : (b : Bool) → (b ≡ true) ⊎ (b ≡ false)
either true = inl refl
either false = inr refl

not_passing : (byte : ℕ) → ((byte == 10) ≡ true → ⊥) → (byte == 10) ≡ false
not_passing byte never = ⊎_elim (λ same. absurd (never same)) (λ differs. differs) (either (byte == 10))

other_line : (byte : ℕ) (b : Bool) (lines : List (List ℕ)) (text : List ℕ) → b ≡ false → lines ≡ text ∷ []
    → cond b ((byte ∷ []) ∷ lines) (at_front_of byte lines) ≡ (byte ∷ text) ∷ []
other_line byte true lines text differs one = absurd (cc differs)
other_line byte false lines text differs one = ap (at_front_of byte) one

-- a text whose first newline is at this index begins with the line up to it
pub first-line-some : (text : List ℕ) (at : ℕ) → Nowhere (Passes (is_byte 10) text) 0 at → at < length text → slice_index text at ≡ 10
    → lines_of text ≡ take (at + 1) text ∷ lines_of (drop (at + 1) text)
first-line-some [] at before within newline = absurd (omega arith)
first-line-some (byte ∷ text) zero before within newline = rw newline refl
first-line-some (byte ∷ text) (suc at) before within newline =
    let more : suc at + 1 ≡ suc (at + 1) = omega arith in
    let other : (byte == 10) ≡ false = not_passing byte (before 0 (omega arith) (omega arith)) in
    let rest = first-line-some text at (λ k low high pass. before (suc k) (omega arith) (omega arith) pass) (omega arith) newline in
    rw (more, other, rest) refl

-- a text without a newline is one line
pub first-line-none : (text : List ℕ) → Nowhere (Passes (is_byte 10) text) 0 (length text) → length text ≢ 0 → lines_of text ≡ text ∷ []
first-line-none [] nowhere some = absurd (some refl)
first-line-none (byte ∷ []) nowhere some = let other : (byte == 10) ≡ false = not_passing byte (nowhere 0 (omega arith) (omega arith)) in rw other refl
first-line-none (byte ∷ (next ∷ text)) nowhere some =
    let other : (byte == 10) ≡ false = not_passing byte (nowhere 0 (omega arith) (omega arith)) in
    let rest = first-line-none (next ∷ text) (λ k low high pass. nowhere (suc k) (omega arith) (omega arith) pass) (omega arith) in
    other_line byte (byte == 10) (lines_of (next ∷ text)) (next ∷ text) other rest

-- numbering changes no bytes
bytes-numbered : (number : ℕ) (lines : List (List ℕ)) → text_of (numbered number lines) ≡ concat lines
bytes-numbered number [] = refl
bytes-numbered number (bytes ∷ lines) = ap (λ text. bytes ++ text) (bytes-numbered (number + 1) lines)

pub text-numbered_lines : (text : List ℕ) → text_of (numbered_lines text) ≡ text
text-numbered_lines text = bytes-numbered 0 (lines_of text) ∙ concat-lines_of text

pub length-numbered : (number : ℕ) (lines : List (List ℕ)) → length (numbered number lines) ≡ length lines
length-numbered number [] = refl
length-numbered number (bytes ∷ lines) = ap (λ n. suc n) (length-numbered (number + 1) lines)

pub length-numbers_of : (lines : List Line) → length (numbers_of lines) ≡ length lines
length-numbers_of [] = refl
length-numbers_of (line ∷ lines) = ap (λ n. suc n) (length-numbers_of lines)

numbered-rises : (low number : ℕ) (lines : List (List ℕ)) → low ≤ number → RisesFrom low (numbers_of (numbered number lines))
numbered-rises low number [] above = tt
numbered-rises low number (bytes ∷ lines) above = (above, numbered-rises (number + 1) (number + 1) lines (omega arith))

-- the numbers of a text's lines rise
pub numbered_lines-rise : (text : List ℕ) → Rises (numbers_of (numbered_lines text))
numbered_lines-rise text = numbered-rises 0 0 (lines_of text) (omega arith)

rises-lower : (low below : ℕ) (numbers : List ℕ) → below ≤ low → RisesFrom low numbers → RisesFrom below numbers
rises-lower low below [] less rises = tt
rises-lower low below (number ∷ numbers) less rises = ((let above = rises.0 in omega arith), rises.1)

kept-rises : (low : ℕ) (keep : List Bool) (lines : List Line) → RisesFrom low (numbers_of lines) → RisesFrom low (numbers_of (kept_of keep lines))
kept-rises low [] lines rises = tt
kept-rises low (true ∷ keep) [] rises = tt
kept-rises low (false ∷ keep) [] rises = tt
kept-rises low (true ∷ keep) (line ∷ lines) rises = (rises.0, kept-rises (line.number + 1) keep lines rises.1)
kept-rises low (false ∷ keep) (line ∷ lines) rises =
    rises-lower (line.number + 1) low (numbers_of (kept_of keep lines)) (let above = rises.0 in omega arith) (kept-rises (line.number + 1) keep lines rises.1)

-- the numbers of some of the lines rise too
pub kept_of-rises : (keep : List Bool) (lines : List Line) → Rises (numbers_of lines) → Rises (numbers_of (kept_of keep lines))
kept_of-rises keep lines rises = kept-rises 0 keep lines rises

-- one line more on the left, the same lines in all
pub numbered-pushed : (front front' : List Line) (bytes : List ℕ) (lines later : List (List ℕ)) (number : ℕ) (whole : List Line)
    → lines ≡ bytes ∷ later → front' ≡ front ++ record { number = number; bytes = bytes } ∷ [] → number ≡ length front
    → front ++ numbered (length front) lines ≡ whole → front' ++ numbered (number + 1) later ≡ whole
numbered-pushed front front' bytes lines later number whole lines_are pushed number_is before =
    ap (λ f. f ++ numbered (number + 1) later) pushed
    ∙ append_assoc front (record { number = number; bytes = bytes } ∷ []) (numbered (number + 1) later)
    ∙ ap (λ n. front ++ numbered n (bytes ∷ later)) number_is
    ∙ ap (λ ls. front ++ numbered (length front) ls) (sym lines_are)
    ∙ before
