-- Where the lines of a text end, byte by byte.
use Rattle.std.proofs.Common.{◌≡◌, ◌+◌, ◌<◌, ◌≤◌, ◌⊎◌, inl, inr, ⊎_elim, ℕ, zero, suc, Bool, true, false, cond, ◌||◌, List, [], ◌∷◌, ◌++◌, length}
use Rattle.std.proofs.Common.{get_or, drop, slice_index, refl, sym, ap, ◌∙◌, arith, subst, add-one, append_assoc}
use Rattle.std.proofs.lemmas.Bool.{cases_Bool, cond_both, eq-eqb, eqb-false, eqb-true, le-ltb, lt-ltb, or_cases, or_parts}
use Rattle.std.proofs.lemmas.List.{append-nil, drop_all}
use Rattle.std.specs.Prelude.{◌==◌}
use Rattle.keep_guard.specs.Relation.{Rises, RisesFrom}
use Rattle.reduce_core.specs.Lines.{at_front_of, lines_of}
use Rattle.line_guard.specs.Lines.{ends_from, line_at, line_ends}

-- there is a first line
abbrev HasFirst : List (List ℕ) → Type 0
HasFirst lines = (line : List ℕ) × (rest : List (List ℕ)) × (lines ≡ line ∷ rest)

some-front : (byte : ℕ) (lines : List (List ℕ)) → HasFirst (at_front_of byte lines)
some-front byte [] = (byte ∷ [], [], refl)
some-front byte (line ∷ lines) = (byte ∷ line, lines, refl)

some-lines : (byte : ℕ) (text : List ℕ) → HasFirst (lines_of (byte ∷ text))
some-lines byte text =
    cond_both (byte == 10) ((byte ∷ []) ∷ lines_of text) (at_front_of byte (lines_of text)) HasFirst (λ _. (byte ∷ [], lines_of text, refl))
    (λ _. some-front byte (lines_of text))

one-byte : (begin byte : ℕ) (lines : List (List ℕ)) → ends_from begin ((byte ∷ []) ∷ lines) ≡ (begin + 1) ∷ ends_from (begin + 1) lines
one-byte begin byte lines = let one : begin + length (byte ∷ []) ≡ begin + 1 = omega arith in ap (λ n. n ∷ ends_from n lines) one

last-byte : (begin byte : ℕ) (b : Bool) → ends_from begin (cond b ((byte ∷ []) ∷ []) (at_front_of byte [])) ≡ (begin + 1) ∷ []
last-byte begin byte true = one-byte begin byte []
last-byte begin byte false = one-byte begin byte []

-- a newline ends its line, and so does the last byte
pub ended-step : (begin byte : ℕ) (text : List ℕ) → (byte ≡ 10) ⊎ (length text ≡ 0)
    → ends_from begin (lines_of (byte ∷ text)) ≡ (begin + 1) ∷ ends_from (begin + 1) (lines_of text)
ended-step begin byte [] ends = last-byte begin byte (byte == 10)
ended-step begin byte (next ∷ text) ends = ⊎_elim (λ newline. by_newline (eq-eqb byte 10 newline)) (λ last. absurd (omega arith)) ends
  where
    by_newline : (byte == 10) ≡ true → ends_from begin (lines_of (byte ∷ (next ∷ text))) ≡ (begin + 1) ∷ ends_from (begin + 1) (lines_of (next ∷ text))
    by_newline is =
        ap (λ (b : Bool). ends_from begin (cond b ((byte ∷ []) ∷ lines_of (next ∷ text)) (at_front_of byte (lines_of (next ∷ text))))) is
        ∙ one-byte begin byte (lines_of (next ∷ text))

front-step : (begin byte : ℕ) (lines : List (List ℕ)) → HasFirst lines → ends_from begin (at_front_of byte lines) ≡ ends_from (begin + 1) lines
front-step begin byte [] first = absurd (cc first.2)
front-step begin byte (line ∷ lines) first =
    let same : begin + length (byte ∷ line) ≡ (begin + 1) + length line = omega arith in ap (λ n. n ∷ ends_from n lines) same

-- another byte doesn't
pub going-step : (begin byte next : ℕ) (text : List ℕ) → (byte == 10) ≡ false
    → ends_from begin (lines_of (byte ∷ (next ∷ text))) ≡ ends_from (begin + 1) (lines_of (next ∷ text))
going-step begin byte next text other =
    ap (λ (b : Bool). ends_from begin (cond b ((byte ∷ []) ∷ lines_of (next ∷ text)) (at_front_of byte (lines_of (next ∷ text))))) other
    ∙ front-step begin byte (lines_of (next ∷ text)) (some-lines next text)

-- the same from an index on
pub ended-at : (begin at : ℕ) (text : List ℕ) → at < length text → (slice_index text at ≡ 10) ⊎ (suc at ≡ length text)
    → ends_from begin (lines_of (drop at text)) ≡ (begin + 1) ∷ ends_from (begin + 1) (lines_of (drop (suc at) text))
ended-at begin at [] inside ends = absurd (omega arith)
ended-at begin zero (byte ∷ text) inside ends = ended-step begin byte text (⊎_elim (λ newline. inl newline) (λ last. inr (omega arith)) ends)
ended-at begin (suc at) (byte ∷ text) inside ends =
    ended-at begin at text (omega arith) (⊎_elim (λ newline. inl newline) (λ last. inr (omega arith)) ends)

pub going-at : (begin at : ℕ) (text : List ℕ) → suc at < length text → (slice_index text at == 10) ≡ false
    → ends_from begin (lines_of (drop at text)) ≡ ends_from (begin + 1) (lines_of (drop (suc at) text))
going-at begin at [] inside other = absurd (omega arith)
going-at begin zero (byte ∷ []) inside other = absurd (omega arith)
going-at begin zero (byte ∷ (next ∷ text)) inside other = going-step begin byte next text other
going-at begin (suc at) (byte ∷ text) inside other = going-at begin at text (omega arith) other

-- one byte more was looked at, and it ended its line
pub ended-more : (ends whole text : List ℕ) (at : ℕ) → at < length text → ((slice_index text at == 10) || (at + 1 == length text)) ≡ true
    → ends ++ ends_from at (lines_of (drop at text)) ≡ whole → (ends ++ (at + 1) ∷ []) ++ ends_from (at + 1) (lines_of (drop (at + 1) text)) ≡ whole
ended-more ends whole text at inside ended before =
    let last : (at + 1 == length text) ≡ true → suc at ≡ length text = λ is. let same = eqb-true (at + 1) (length text) is in omega arith in
    let case = ⊎_elim (λ newline. inl (eqb-true (slice_index text at) 10 newline)) (λ is. inr (last is))
    (or_cases (slice_index text at == 10) (at + 1 == length text) ended) in
    append_assoc ends ((at + 1) ∷ []) (ends_from (at + 1) (lines_of (drop (at + 1) text)))
    ∙ ap (λ n. ends ++ (at + 1) ∷ ends_from (at + 1) (lines_of (drop n text))) (add-one at)
    ∙ ap (λ (l : List ℕ). ends ++ l) (sym (ended-at at at text inside case))
    ∙ before

-- one byte more was looked at, and it didn't end its line
pub going-more : (ends whole text : List ℕ) (at : ℕ) → at < length text → ((slice_index text at == 10) || (at + 1 == length text)) ≡ false
    → ends ++ ends_from at (lines_of (drop at text)) ≡ whole → ends ++ ends_from (at + 1) (lines_of (drop (at + 1) text)) ≡ whole
going-more ends whole text at inside going before =
    let parts = or_parts (slice_index text at == 10) (at + 1 == length text) going in
    let more : suc at < length text = let differs = eqb-false (at + 1) (length text) parts.1 in omega arith in
    ap (λ n. ends ++ ends_from (at + 1) (lines_of (drop n text))) (add-one at)
    ∙ ap (λ (l : List ℕ). ends ++ l) (sym (going-at at at text more parts.0))
    ∙ before

-- all bytes were looked at
pub ends-whole : (ends text : List ℕ) (at : ℕ) → length text ≤ at → ends ++ ends_from at (lines_of (drop at text)) ≡ line_ends text → ends ≡ line_ends text
ends-whole ends text at over is =
    sym (append-nil ends) ∙ ap (λ (l : List ℕ). ends ++ ends_from at (lines_of l)) (sym (drop_all at text over)) ∙ is

-- what holds of the ends of lines with one byte more
by-byte : (P : List ℕ → Type 0) (begin byte : ℕ) (text : List ℕ) → P ((begin + 1) ∷ ends_from (begin + 1) (lines_of text))
    → P (ends_from (begin + 1) (lines_of text)) → P (ends_from begin (lines_of (byte ∷ text)))
by-byte P begin byte [] ended going = subst P (sym (ended-step begin byte [] (inr refl))) ended
by-byte P begin byte (next ∷ text) ended going =
    ⊎_elim (λ newline. subst P (sym (ended-step begin byte (next ∷ text) (inl (eqb-true byte 10 newline)))) ended)
    (λ other. subst P (sym (going-step begin byte next text other)) going) (cases_Bool (byte == 10))

pub rises-lower : (low below : ℕ) (numbers : List ℕ) → below ≤ low → RisesFrom low numbers → RisesFrom below numbers
rises-lower low below [] less rises = tt
rises-lower low below (number ∷ numbers) less rises = ((let above = rises.0 in omega arith), rises.1)

ends-rise : (begin : ℕ) (text : List ℕ) → RisesFrom (begin + 1) (ends_from begin (lines_of text))
ends-rise begin [] = tt
ends-rise begin (byte ∷ text) =
    let rest = ends-rise (begin + 1) text in
    by-byte (λ ends. RisesFrom (begin + 1) ends) begin byte text (omega arith, rest)
    (rises-lower ((begin + 1) + 1) (begin + 1) (ends_from (begin + 1) (lines_of text)) (omega arith) rest)

-- the ends of lines rise
pub line_ends-rise : (text : List ℕ) → Rises (line_ends text)
line_ends-rise text = rises-lower (0 + 1) 0 (line_ends text) (omega arith) (ends-rise 0 text)

-- there are no more of them than bytes
pub few-ends : (begin : ℕ) (text : List ℕ) → length (ends_from begin (lines_of text)) ≤ length text
few-ends begin [] = omega arith
few-ends begin (byte ∷ text) =
    let rest = few-ends (begin + 1) text in
    by-byte (λ ends. length ends ≤ length (byte ∷ text)) begin byte text (omega arith) (omega arith)

pub length-ends : (begin : ℕ) (lines : List (List ℕ)) → length (ends_from begin lines) ≡ length lines
length-ends begin [] = refl
length-ends begin (line ∷ lines) = ap (λ n. suc n) (length-ends (begin + length line) lines)

-- the line of an offset, where so many lines end at or before it
pub at-point : (ends : List ℕ) (offset i : ℕ) → i ≤ length ends → ((k : ℕ) → k < i → get_or ends k 0 ≤ offset)
    → ((k : ℕ) → i ≤ k → k < length ends → offset < get_or ends k 0) → i + 1 ≡ line_at ends offset
at-point [] offset i low before after = omega arith
at-point (end ∷ ends) offset zero low before after =
    sym (ap (λ (b : Bool). cond b 1 (suc (line_at ends offset))) (lt-ltb offset end (after zero (omega arith) (omega arith))))
at-point (end ∷ ends) offset (suc i) low before after =
    let next : suc i + 1 ≡ suc (i + 1) = omega arith in
    let rest = at-point ends offset i (omega arith) (λ k below. before (suc k) (omega arith)) (λ k from inside. after (suc k) (omega arith) (omega arith)) in
    next ∙ ap (λ n. suc n) rest ∙ sym (ap (λ (b : Bool). cond b 1 (suc (line_at ends offset))) (le-ltb offset end (before zero (omega arith))))

at-least : (low : ℕ) (xs : List ℕ) → RisesFrom low xs → (j d : ℕ) → j < length xs → low ≤ get_or xs j d
at-least low [] rises j d inside = absurd (omega arith)
at-least low (x ∷ xs) rises zero d inside = rises.0
at-least low (x ∷ xs) rises (suc j) d inside =
    let first = rises.0 in let rest = at-least (x + 1) xs rises.1 j d (omega arith) in omega arith

-- numbers that rise are in order
pub in-order : (low : ℕ) (xs : List ℕ) → RisesFrom low xs → (i j d : ℕ) → i ≤ j → j < length xs → get_or xs i d ≤ get_or xs j d
in-order low [] rises i j d le inside = absurd (omega arith)
in-order low (x ∷ xs) rises zero zero d le inside = omega arith
in-order low (x ∷ xs) rises zero (suc j) d le inside = let rest = at-least (x + 1) xs rises.1 j d (omega arith) in omega arith
in-order low (x ∷ xs) rises (suc i) zero d le inside = absurd (omega arith)
in-order low (x ∷ xs) rises (suc i) (suc j) d le inside = in-order (x + 1) xs rises.1 i j d (omega arith) (omega arith)
