-- Flags of lines and tokens, and the numbers of those that are set.
use Rattle.std.proofs.Common.{◌≡◌, ◌+◌, ◌-◌, ◌<◌, ◌≤◌, ⊎_elim, ℕ, zero, suc, Bool, true, false, cond, ◌&&◌, ◌||◌, List, [], ◌∷◌, ◌++◌, length}
use Rattle.std.proofs.Common.{drop, get_or, map, take, slice_get, Option, Some, unwrap_or, refl, sym, ap, ◌∙◌, arith, add-one, drop-cons}
use Rattle.std.proofs.lemmas.Bool.{and_from, and_left, and_parts, and_right, cases_Bool, cond_both, le-leb, leb-true, or_from, or_left, or_right}
use Rattle.std.proofs.lemmas.List.{append-nil, drop_all, length-map, map_more}
use Rattle.std.proofs.lemmas.Option.{get_or_from_slice_get, slice_get_within}
use Rattle.std.specs.List.{list_any}
use Rattle.keep_guard.specs.Relation.{Rises, RisesFrom}
use Rattle.reduce_core.specs.declared.lines.Line.{Line}
use Rattle.reduce_core.specs.Lines.{lines_of, numbered, numbered_lines}
use Rattle.lexer.specs.declared.token.Token.{Token}
use Rattle.lexer.specs.Tokens.{token_of}
use Rattle.line_guard.specs.declared.wish.Wish.{Wish}
use Rattle.line_guard.specs.Lines.{line_at, line_ends}
use Rattle.line_guard.specs.Protected.{is_protected, is_token_protected, is_within, numbers_where}
use Rattle.line_guard.specs.inner.Held.{any_within}
use Rattle.line_guard.proofs.EndsLemmas.{few-ends, length-ends, rises-lower}

-- the line of this number with these bytes
abbrev numbered_line : ℕ → List ℕ → Line
numbered_line number bytes = record { number = number; bytes = bytes }

get-numbered : (number : ℕ) (lines : List (List ℕ)) (at : ℕ) (bytes : List ℕ) → slice_get lines at ≡ Some bytes
    → slice_get (numbered number lines) at ≡ Some (numbered_line (number + at) bytes)
get-numbered number [] at bytes is = absurd (cc is)
get-numbered number (line ∷ lines) zero bytes is =
    let same : line ≡ bytes = ap (λ (o : Option (List ℕ)). unwrap_or o []) is in
    let from : number ≡ number + 0 = omega arith in
    ap (λ (b : List ℕ). Some (numbered_line number b)) same ∙ ap (λ n. Some (numbered_line n bytes)) from
get-numbered number (line ∷ lines) (suc at) bytes is =
    let next : (number + 1) + at ≡ number + suc at = omega arith in
    get-numbered (number + 1) lines at bytes is ∙ ap (λ n. Some (numbered_line n bytes)) next

-- one line's flag more
pub flag-more : (P : Line → Bool) (text : List ℕ) (flags : List Bool) (at : ℕ) (bytes : List ℕ) (flag : Bool)
    → flags ≡ map P (take at (numbered_lines text)) → slice_get (lines_of text) at ≡ Some bytes → flag ≡ P (record { number = at; bytes = bytes })
    → flags ++ flag ∷ [] ≡ map P (take (at + 1) (numbered_lines text))
flag-more P text flags at bytes flag before there is =
    let lines : List Line = numbered_lines text in
    let none : 0 + at ≡ at = omega arith in
    let got : slice_get lines at ≡ Some (numbered_line at bytes) =
    get-numbered 0 (lines_of text) at bytes there ∙ ap (λ n. Some (numbered_line n bytes)) none in
    let inside = slice_get_within lines at (numbered_line at bytes) got in
    let read = get_or_from_slice_get lines at (numbered_line at bytes) (numbered_line at bytes) got in
    ap (λ (f : List Bool). f ++ flag ∷ []) before
    ∙ ap (λ (f : Bool). map P (take at lines) ++ f ∷ []) (is ∙ ap P (sym read))
    ∙ sym (map_more P lines at (numbered_line at bytes) inside)

pub length-numbered : (number : ℕ) (lines : List (List ℕ)) → length (numbered number lines) ≡ length lines
length-numbered number [] = refl
length-numbered number (line ∷ lines) = ap (λ n. suc n) (length-numbered (number + 1) lines)

-- the numbers of the elements whose flags are set rise
where-rises : {X : Type 0} (test : X → Bool) (number : ℕ) (xs : List X) → RisesFrom number (numbers_where test number xs)
where-rises test number [] = tt
where-rises test number (x ∷ xs) =
    let rest = where-rises test (number + 1) xs in
    cond_both (test x) (number ∷ numbers_where test (number + 1) xs) (numbers_where test (number + 1) xs) (RisesFrom number)
    (λ _. (omega arith, rest)) (λ _. rises-lower (number + 1) number (numbers_where test (number + 1) xs) (omega arith) rest)

pub flags-rise : (flags : List Bool) → Rises (numbers_where (λ flag. flag) 0 flags)
flags-rise flags = where-rises (λ (flag : Bool). flag) 0 flags

abbrev set_from : ℕ → List Bool → List ℕ
set_from number flags = numbers_where (λ (flag : Bool). flag) number flags

-- one flag less to be looked at
at-flag : (flags : List Bool) (at : ℕ) (flag : Bool) → at < length flags → get_or flags at false ≡ flag
    → set_from at (drop at flags) ≡ cond flag (at ∷ set_from (at + 1) (drop (at + 1) flags)) (set_from (at + 1) (drop (at + 1) flags))
at-flag flags at flag inside is =
    ap (λ (l : List Bool). set_from at l) (drop-cons flags at false inside)
    ∙ ap (λ (b : Bool). cond b (at ∷ set_from (at + 1) (drop (suc at) flags)) (set_from (at + 1) (drop (suc at) flags))) is
    ∙ ap (λ (n : ℕ). cond flag (at ∷ set_from (at + 1) (drop n flags)) (set_from (at + 1) (drop n flags))) (sym (add-one at))

pub set-flag : (flags : List Bool) (at : ℕ) → at < length flags → get_or flags at false ≡ true
    → numbers_where (λ flag. flag) at (drop at flags) ≡ at ∷ numbers_where (λ flag. flag) (at + 1) (drop (at + 1) flags)
set-flag flags at inside is = at-flag flags at true inside is

pub unset-flag : (flags : List Bool) (at : ℕ) → at < length flags → get_or flags at false ≡ false
    → numbers_where (λ flag. flag) at (drop at flags) ≡ numbers_where (λ flag. flag) (at + 1) (drop (at + 1) flags)
unset-flag flags at inside is = at-flag flags at false inside is

-- all flags were looked at
pub flags-whole : (flags : List Bool) (at : ℕ) (items : List ℕ) → length flags ≤ at
    → items ++ numbers_where (λ flag. flag) at (drop at flags) ≡ numbers_where (λ flag. flag) 0 flags → items ≡ numbers_where (λ flag. flag) 0 flags
flags-whole flags at items over is =
    sym (append-nil items) ∙ ap (λ (l : List Bool). items ++ set_from at l) (sym (drop_all at flags over)) ∙ is

-- flags that are set where a test passes
pub where-map : {X : Type 0} (f : X → Bool) (number : ℕ) (xs : List X)
    → numbers_where (λ (flag : Bool). flag) number (map f xs) ≡ numbers_where f number xs
where-map f number [] = refl
where-map {X} f number (x ∷ xs) = ap (λ (rest : List ℕ). cond (f x) (number ∷ rest) rest) (where-map f (number + 1) xs)

-- the same where the test is of another form of the elements
pub where-same : {X Y : Type 0} (f : X → Bool) (g : Y → Bool) (h : X → Y) → ((x : X) → f x ≡ g (h x)) → (number : ℕ) (xs : List X)
    → numbers_where (λ (flag : Bool). flag) number (map f xs) ≡ numbers_where g number (map h xs)
where-same f g h same number [] = refl
where-same {X} {Y} f g h same number (x ∷ xs) =
    ap (λ (b : Bool). cond b (number ∷ set_from (number + 1) (map f xs)) (set_from (number + 1) (map f xs))) (same x)
    ∙ ap (λ (rest : List ℕ). cond (g (h x)) (number ∷ rest) rest) (where-same f g h same (number + 1) xs)

within-true : (first last number : ℕ) → is_within first last number ≡ true → (first ≤ number) × (number ≤ last)
within-true first last number is =
    let parts = and_parts _ _ is in (leb-true first number parts.0, leb-true number last parts.1)

true-within : (first last number : ℕ) → first ≤ number → number ≤ last → is_within first last number ≡ true
true-within first last number low high = and_from _ _ (le-leb first number low) (le-leb number last high)

-- no flag is set of those within the bounds
pub absent : (first last number : ℕ) (flags : List Bool)
    → ((k : ℕ) → k < length flags → first ≤ number + k → number + k ≤ last → get_or flags k false ≡ false) → any_within first last number flags ≡ false
absent first last number [] none = refl
absent first last number (flag ∷ flags) none =
    or_from _ _
    (⊎_elim (λ here. let bounds = within-true first last number here in
    and_right _ _ (none zero (omega arith) (let low = bounds.0 in omega arith) (let high = bounds.1 in omega arith)))
    (λ away. and_left _ _ away) (cases_Bool (is_within first last number)))
    (absent first last (number + 1) flags (λ k inside low high. none (suc k) (omega arith) (omega arith) (omega arith)))

-- one is
pub present : (first last number : ℕ) (flags : List Bool) (k : ℕ) → k < length flags → first ≤ number + k → number + k ≤ last
    → get_or flags k false ≡ true → any_within first last number flags ≡ true
present first last number [] k inside low high is = absurd (omega arith)
present first last number (flag ∷ flags) zero inside low high is =
    or_left _ _ (and_from _ _ (true-within first last number (omega arith) (omega arith)) is)
present first last number (flag ∷ flags) (suc k) inside low high is =
    or_right _ _ (present first last (number + 1) flags k (omega arith) (omega arith) (omega arith) is)

any-is : (P : Line → Bool) (first last number : ℕ) (lines : List (List ℕ))
    → any_within first last (number + 1) (map P (numbered number lines))
    ≡ list_any (λ (line : Line). is_within first last (line.number + 1) && P line) (numbered number lines)
any-is P first last number [] = refl
any-is P first last number (bytes ∷ lines) =
    ap (λ (rest : Bool). (is_within first last (number + 1) && P (numbered_line number bytes)) || rest) (any-is P first last (number + 1) lines)

-- a flag is set of some lines where a line is one of them and passes the test
pub any-flagged : (P : Line → Bool) (first last : ℕ) (text : List ℕ)
    → any_within first last 1 (map P (numbered_lines text))
    ≡ list_any (λ (line : Line). is_within first last (line.number + 1) && P line) (numbered_lines text)
any-flagged P first last text = any-is P first last 0 (lines_of text)

-- a token's lines have a flag that is set where the token must stay
pub on-line : (wishes : List Wish) (start ends : List ℕ) (lines : List Bool) (token : Token) → ends ≡ line_ends start
    → lines ≡ map (is_protected wishes) (numbered_lines start)
    → any_within (line_at ends token.start) (line_at ends (token.end - 1)) 1 lines ≡ is_token_protected wishes start (token_of token)
on-line wishes start ends lines token indexed flagged =
    ap (λ (l : List ℕ). any_within (line_at l token.start) (line_at l (token.end - 1)) 1 lines) indexed
    ∙ ap (λ (l : List Bool). any_within (line_at (line_ends start) token.start) (line_at (line_ends start) (token.end - 1)) 1 l) flagged
    ∙ any-flagged (is_protected wishes) (line_at (line_ends start) token.start) (line_at (line_ends start) (token.end - 1)) start

-- there are no more flags of lines than bytes
pub few-flags : (P : Line → Bool) (text : List ℕ) (flags : List Bool) → flags ≡ map P (numbered_lines text) → length flags ≤ length text
few-flags P text flags is =
    let long = ap (λ (l : List Bool). length l) is ∙ length-map (numbered_lines text) P in
    omega (arith, long, length-numbered 0 (lines_of text), length-ends 0 (lines_of text), few-ends 0 text)
