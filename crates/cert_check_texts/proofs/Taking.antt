-- Lines that are taken, one after another, as soon as a text begins with them.
use Rattle.std.proofs.Common.{◌≡◌, ◌≢◌, ◌⊎◌, inl, inr, ◌++◌, ◌+◌, ◌-◌, ◌<◌, ◌≤◌, ℕ, zero, suc, List, [], ◌∷◌, Bool, true, false, cond, take, drop}
use Rattle.std.proofs.Common.{arith, refl, sym, ap, ◌∙◌, subst, append-nil, length, map}
use Rattle.std.specs.Prelude.{◌↔◌, ◌==◌}
use Rattle.std.proofs.lemmas.Bool.Decides.{Decides-eqb}
use Rattle.std.proofs.lemmas.Bool.{cases_lt}
use Rattle.std.proofs.lemmas.List.{drop_all, drop_more, length-drop, nil_from_length, take-append-drop}
use Rattle.reduce_core.specs.declared.lines.Line.{Line}
use Rattle.keep_guard.specs.Keep.{holds_all, keeps_admit}
use Rattle.reduce_core.specs.Candidates.{IsLineCandidate, IsSubsequence}
use Rattle.reduce_core.specs.Candidates.IsSubsequence.{nothing, keeps, leaves}
use Rattle.reduce_core.specs.Lines.{at_front_of, lines_of, numbered, numbered_lines, text_of}
use Rattle.cert_check_texts.specs.inner.Numbers.{line_at}
use Rattle.cert_check_texts.proofs.Conses.{head_of, nothing_is, tail_of}

-- some of these lines, in their order, are the text
abbrev pub Takes : List (List ℕ) → List ℕ → Type 0
Takes [] text = text ≡ []
Takes (line ∷ lines) text = Takes lines text ⊎ ((rest : List ℕ) × (text ≡ line ++ rest) × Takes lines rest)

-- ---- lines that are taken, as numbered lines

subsequence_of : (number : ℕ) (lines : List (List ℕ)) (text : List ℕ) → Takes lines text → (some : List Line) × IsSubsequence some (numbered number lines)
    × (text ≡ text_of some)
subsequence_of number [] text is = ([], nothing, is)
subsequence_of number (line ∷ lines) text (inl left) =
    let it = subsequence_of (number + 1) lines text left in
    (it.0, leaves (record { number = number; bytes = line }) it.0 (numbered (number + 1) lines) it.1, it.2)
subsequence_of number (line ∷ lines) text (inr (rest, is, taken)) =
    let one : Line = record { number = number; bytes = line } in
    let it = subsequence_of (number + 1) lines rest taken in
    (one ∷ it.0, keeps one it.0 (numbered (number + 1) lines) it.1, is ∙ ap (λ (t : List ℕ). line ++ t) it.2)

-- the bytes of lines, one by one
abbrev bytes_of : List Line → List (List ℕ)
bytes_of lines = map (λ (line : Line). line.bytes) lines

takes_some : (all some : List Line) → IsSubsequence some all → Takes (bytes_of all) (text_of some)
takes_some [] [] nothing = refl
takes_some [] (line ∷ some) of_none = elim of_none [ ]
takes_some (line ∷ all) (same ∷ some) (keeps _ _ _ later) = inr (text_of some, refl, takes_some all some later)
takes_some (line ∷ all) some (leaves _ _ _ later) = inl (takes_some all some later)

numbered_bytes : (number : ℕ) (lines : List (List ℕ)) → bytes_of (numbered number lines) ≡ lines
numbered_bytes number [] = refl
numbered_bytes number (line ∷ lines) = ap (λ (later : List (List ℕ)). line ∷ later) (numbered_bytes (number + 1) lines)

takes_subsequence : (number : ℕ) (lines : List (List ℕ)) (some : List Line) → IsSubsequence some (numbered number lines) → Takes lines (text_of some)
takes_subsequence number lines some are =
    subst (λ (ls : List (List ℕ)). Takes ls (text_of some)) (numbered_bytes number lines) (takes_some (numbered number lines) some are)

pub takes_where_some : (start text : List ℕ) → Takes (lines_of start) text
    ↔ ((some : List Line) × IsSubsequence some (numbered_lines start) × (text ≡ text_of some))
takes_where_some start text = (subsequence_of 0 (lines_of start) text, back)
  where
    back : (some : List Line) × IsSubsequence some (numbered_lines start) × (text ≡ text_of some) → Takes (lines_of start) text
    back (some, are, is) = subst (Takes (lines_of start)) (sym is) (takes_subsequence 0 (lines_of start) some are)

-- ---- what lines are

abbrev is_nothing : List ℕ → Bool
is_nothing [] = true
is_nothing (byte ∷ line) = false

-- the first newline is the last byte
abbrev is_whole : List ℕ → Bool
is_whole [] = false
is_whole (byte ∷ line) = cond (byte == 10) (is_nothing line) (is_whole line)

-- there is no newline
abbrev is_plain : List ℕ → Bool
is_plain [] = true
is_plain (byte ∷ line) = cond (byte == 10) false (is_plain line)

-- A line is whole, or it is the last one and has no newline. None is empty.
abbrev IsLine : List ℕ → List (List ℕ) → Type 0
IsLine line later = (is_nothing line ≡ false) × ((is_whole line ≡ true) ⊎ ((is_plain line ≡ true) × (later ≡ [])))

abbrev pub AreLines : List (List ℕ) → Type 0
AreLines [] = Unit {0}
AreLines (line ∷ lines) = IsLine line lines × AreLines lines

front : (byte : ℕ) → (byte == 10) ≡ false → (lines : List (List ℕ)) → AreLines lines → AreLines (at_front_of byte lines)
front byte other [] are = ((refl, inr (ap (λ (b : Bool). cond b false true) other, refl)), tt)
front byte other (line ∷ lines) ((some, inl whole), later) = ((refl, inl (ap (λ (b : Bool). cond b (is_nothing line) (is_whole line)) other ∙ whole)), later)
front byte other (line ∷ lines) ((some, inr (plain, last)), later) = ((refl, inr (ap (λ (b : Bool). cond b false (is_plain line)) other ∙ plain, last)), later)

pub lines_are : (text : List ℕ) → AreLines (lines_of text)
lines_are [] = tt
lines_are (byte ∷ text) = by (byte == 10) refl (lines_are text)
  where
    by : (b : Bool) → (byte == 10) ≡ b → AreLines (lines_of text) → AreLines (cond b ((byte ∷ []) ∷ lines_of text) (at_front_of byte (lines_of text)))
    by true is later = ((refl, inl (ap (λ (b : Bool). cond b true false) is)), later)
    by false other later = front byte other (lines_of text) later

-- ---- lines as beginnings

no_more : (line other rest rest' : List ℕ) → is_nothing line ≡ true → is_nothing other ≡ true → line ++ rest ≡ other ++ rest' → rest ≡ rest'
no_more [] [] rest rest' none none' e = e
no_more [] (c ∷ other) rest rest' none none' e = absurd (cc none')
no_more (b ∷ line) other rest rest' none none' e = absurd (cc none)

-- a text begins with one whole line at most
one_line : (line other rest rest' : List ℕ) → is_whole line ≡ true → is_whole other ≡ true → line ++ rest ≡ other ++ rest' → rest ≡ rest'
one_line [] other rest rest' whole whole' e = absurd (cc whole)
one_line (b ∷ line) [] rest rest' whole whole' e = absurd (cc whole')
one_line (b ∷ line) (c ∷ other) rest rest' whole whole' e =
    by (b == 10) (λ more more'. one_line line other rest rest' more more' (tail_of e)) whole
    (subst (λ (x : ℕ). cond (x == 10) (is_nothing other) (is_whole other) ≡ true) (sym (head_of e)) whole')
  where
    by : (newline : Bool) → (is_whole line ≡ true → is_whole other ≡ true → rest ≡ rest') → cond newline (is_nothing line) (is_whole line) ≡ true
        → cond newline (is_nothing other) (is_whole other) ≡ true → rest ≡ rest'
    by true later none none' = no_more line other rest rest' none none' (tail_of e)
    by false later more more' = later more more'

-- a line without a newline has no whole line at its front
none_in_plain : (line other rest : List ℕ) → is_whole line ≡ true → is_plain other ≡ true → line ++ rest ≡ other → ⊥
none_in_plain [] other rest whole plain e = absurd (cc whole)
none_in_plain (b ∷ line) [] rest whole plain e = nothing_is (sym e)
none_in_plain (b ∷ line) (c ∷ other) rest whole plain e =
    by (b == 10) (λ more more'. none_in_plain line other rest more more' (tail_of e)) whole
    (subst (λ (x : ℕ). cond (x == 10) false (is_plain other) ≡ true) (sym (head_of e)) plain)
  where
    by : (newline : Bool) → (is_whole line ≡ true → is_plain other ≡ true → ⊥) → cond newline (is_nothing line) (is_whole line) ≡ true
        → cond newline false (is_plain other) ≡ true → ⊥
    by true later none never = absurd (cc never)
    by false later more more' = later more more'

cancel : (line rest rest' : List ℕ) → line ++ rest ≡ line ++ rest' → rest ≡ rest'
cancel [] rest rest' e = e
cancel (b ∷ line) rest rest' e = cancel line rest rest' (tail_of e)

some_byte : (line rest : List ℕ) → is_nothing line ≡ false → line ++ rest ≡ [] → ⊥
some_byte [] rest some e = absurd (cc some)
some_byte (b ∷ line) rest some e = nothing_is (sym e)

-- what later lines take with a line at the front, they take without it
without : (line rest : List ℕ) (later : List (List ℕ)) → IsLine line later → AreLines later → Takes later (line ++ rest) → Takes later rest
without line rest [] (some, kind) are is = absurd (some_byte line rest some is)
without line rest (next ∷ later) (some, inr (plain, last)) are is = absurd (nothing_is (sym last))
without line rest (next ∷ later) (some, inl whole) are (inl left) = inl (without line rest later (some, inl whole) are.1 left)
without line rest (next ∷ later) (some, inl whole) ((some', inl whole'), are) (inr (rest', e, taken)) =
    inl (subst (Takes later) (sym (one_line line next rest rest' whole whole' e)) taken)
without line rest (next ∷ later) (some, inl whole) ((some', inr (plain, last)), are) (inr (rest', e, taken)) =
    let ends : rest' ≡ [] = subst (λ (lines : List (List ℕ)). Takes lines rest') last taken in
    absurd (none_in_plain line next rest whole plain (e ∙ ap (λ (t : List ℕ). next ++ t) ends ∙ append-nil next))

-- A line that the text begins with is taken: no other choice gives more.
pub taken_line : (line rest : List ℕ) (later : List (List ℕ)) → AreLines (line ∷ later) → Takes (line ∷ later) (line ++ rest) ↔ Takes later rest
taken_line line rest later are = (forward, λ taken. inr (rest, refl, taken))
  where
    forward : Takes (line ∷ later) (line ++ rest) → Takes later rest
    forward (inl left) = without line rest later are.0 are.1 left
    forward (inr (rest', e, taken)) = subst (Takes later) (sym (cancel line rest rest' e)) taken

-- the first line and what is after it
pub split_lines : (lines line later : List ℕ) (n : ℕ) → lines_of lines ≡ take n lines ∷ lines_of (drop n lines) → line ≡ take n lines → later ≡ drop n lines
    → lines_of lines ≡ line ∷ lines_of later
split_lines lines line later n is front back = is ∙ (λ i. sym front i ∷ lines_of (sym back i))

pub joined_lines : (rest line later : List ℕ) (n : ℕ) → line ≡ take n rest → later ≡ drop n rest → rest ≡ line ++ later
joined_lines rest line later n front back = sym (take-append-drop n rest) ∙ (λ i. sym front i ++ sym back i)

-- texts that begin with whole lines begin with the same one
nothing_same : (line other : List ℕ) → is_nothing line ≡ true → is_nothing other ≡ true → line ≡ other
nothing_same [] [] none none' = refl
nothing_same [] (c ∷ other) none none' = absurd (cc none')
nothing_same (b ∷ line) other none none' = absurd (cc none)

same_line : (line other rest rest' : List ℕ) → is_whole line ≡ true → is_whole other ≡ true → line ++ rest ≡ other ++ rest' → line ≡ other
same_line [] other rest rest' whole whole' e = absurd (cc whole)
same_line (b ∷ line) [] rest rest' whole whole' e = absurd (cc whole')
same_line (b ∷ line) (c ∷ other) rest rest' whole whole' e =
    by (b == 10) (λ more more'. same_line line other rest rest' more more' (tail_of e)) whole
    (subst (λ (x : ℕ). cond (x == 10) (is_nothing other) (is_whole other) ≡ true) (sym (head_of e)) whole')
  where
    by : (newline : Bool) → (is_whole line ≡ true → is_whole other ≡ true → line ≡ other) → cond newline (is_nothing line) (is_whole line) ≡ true
        → cond newline (is_nothing other) (is_whole other) ≡ true → (b ∷ line) ≡ (c ∷ other)
    by true later none none' = λ i. head_of e i ∷ nothing_same line other none none' i
    by false later more more' = λ i. head_of e i ∷ later more more' i

-- A line that isn't the text's first one is left.
other_line : (first rest line : List ℕ) (more later : List (List ℕ)) → IsLine first more → (more ≡ [] → rest ≡ []) → IsLine line later → line ≢ first
    → Takes (line ∷ later) (first ++ rest) ↔ Takes later (first ++ rest)
other_line first rest line more later is_first last is_line other = (forward, λ taken. inl taken)
  where
    alone : more ≡ [] → first ++ rest ≡ first
    alone none = ap (λ (t : List ℕ). first ++ t) (last none) ∙ append-nil first

    all_of : (rest' : List ℕ) → later ≡ [] → Takes later rest' → line ++ rest' ≡ line
    all_of rest' none taken =
        let ends : rest' ≡ [] = subst (λ (lines : List (List ℕ)). Takes lines rest') none taken in
        ap (λ (t : List ℕ). line ++ t) ends ∙ append-nil line

    apart : (is_whole first ≡ true) ⊎ ((is_plain first ≡ true) × (more ≡ [])) → (is_whole line ≡ true) ⊎ ((is_plain line ≡ true) × (later ≡ []))
        → (rest' : List ℕ) → first ++ rest ≡ line ++ rest' → Takes later rest' → ⊥
    apart (inl whole) (inl whole') rest' e taken = other (sym (same_line first line rest rest' whole whole' e))
    apart (inr (plain, none)) (inl whole') rest' e taken = none_in_plain line first rest' whole' plain (sym e ∙ alone none)
    apart (inl whole) (inr (plain', none')) rest' e taken = none_in_plain first line rest whole plain' (e ∙ all_of rest' none' taken)
    apart (inr (plain, none)) (inr (plain', none')) rest' e taken = other (sym (sym (alone none) ∙ e ∙ all_of rest' none' taken))

    forward : Takes (line ∷ later) (first ++ rest) → Takes later (first ++ rest)
    forward (inl left) = left
    forward (inr (rest', e, taken)) = absurd (apart is_first.1 is_line.1 rest' e taken)

-- a text without lines is empty
no_lines : (text : List ℕ) → lines_of text ≡ [] → text ≡ []
no_lines [] e = refl
no_lines (byte ∷ text) e = absurd (by (byte == 10) e)
  where
    some : (lines : List (List ℕ)) → at_front_of byte lines ≡ [] → ⊥
    some [] none = nothing_is (sym none)
    some (line ∷ lines) none = nothing_is (sym none)

    by : (newline : Bool) → cond newline ((byte ∷ []) ∷ lines_of text) (at_front_of byte (lines_of text)) ≡ [] → ⊥
    by true none = nothing_is (sym none)
    by false none = some (lines_of text) none

are_from : (n : ℕ) (lines : List (List ℕ)) → AreLines lines → AreLines (drop n lines)
are_from zero lines are = are
are_from (suc n) [] are = tt
are_from (suc n) (line ∷ lines) are = are_from n lines are.1

pub both_ways : {P Q R : Type 0} → P ↔ Q → Q ↔ R → P ↔ R
both_ways one two = (λ p. two.0 (one.0 p), λ r. one.1 (two.1 r))

-- ---- the lines of a start from a number on

module _ (start : List ℕ) where
  -- the line with a number, where the lines from there on begin with it
  pub line_there : (line later : List ℕ) (number : ℕ) → drop number (lines_of start) ≡ line ∷ lines_of later → (number < length (lines_of start))
      × (line_at start number ≡ line)
  line_there line later number is =
      let below : number < length (lines_of start) =
      omega (arith, length-drop number (lines_of start), ap (λ (l : List (List ℕ)). length l) is) in
      (below, head_of (sym (drop_more (lines_of start) number [] below) ∙ is))

  pub lines_after : (line later : List ℕ) (number : ℕ) → drop number (lines_of start) ≡ line ∷ lines_of later
      → drop (number + 1) (lines_of start) ≡ lines_of later
  lines_after line later number is = tail_of (sym (drop_more (lines_of start) number [] (line_there line later number is).0) ∙ is)

  pub all_read : (lines : List ℕ) (number : ℕ) → lines ≡ [] → drop number (lines_of start) ≡ lines_of lines → number ≤ length (lines_of start)
      → number ≡ length (lines_of start)
  all_read lines number none is within =
      omega (
        arith,
        within,
        length-drop number (lines_of start),
        ap (λ (l : List (List ℕ)). length l) is,
        ap (λ (t : List ℕ). length (lines_of t)) none,
      )

  module _ (line later : List ℕ) (is : lines_of (line ++ later) ≡ line ∷ lines_of later) where
    abbrev Rest : List ℕ
    Rest = line ++ later

    -- of the lines that aren't the text's first one, none is taken
    passed_over : (count next : ℕ) → next + count ≤ length (lines_of start) → ((j : ℕ) → next ≤ j → j < next + count → line_at start j ≢ line)
        → Takes (drop next (lines_of start)) Rest ↔ Takes (drop (next + count) (lines_of start)) Rest
    passed_over zero next within others =
        let same : next ≡ next + 0 = omega arith in
        subst (λ (n : ℕ). Takes (drop next (lines_of start)) Rest ↔ Takes (drop n (lines_of start)) Rest) same ((λ t. t), (λ t. t))
    passed_over (suc count) next within others =
        let more = drop_more (lines_of start) next [] (omega (arith, within)) in
        let first_is : IsLine line (lines_of later) = (subst AreLines is (lines_are Rest)).0 in
        let next_is : IsLine (line_at start next) (drop (next + 1) (lines_of start)) =
        (subst AreLines more (are_from next (lines_of start) (lines_are start))).0 in
        let one =
        other_line line later (line_at start next) (lines_of later) (drop (next + 1) (lines_of start)) first_is (no_lines later) next_is
        (others next (omega arith) (omega arith)) in
        let further : next + 1 + count ≡ next + suc count = omega arith in
        both_ways (subst (λ (lines : List (List ℕ)). Takes lines Rest ↔ Takes (drop (next + 1) (lines_of start)) Rest) (sym more) one)
        (subst (λ (n : ℕ). Takes (drop (next + 1) (lines_of start)) Rest ↔ Takes (drop n (lines_of start)) Rest) further
        (passed_over count (next + 1) (omega (arith, within)) (λ j from below. others j (omega (arith, from)) (omega (arith, below)))))

    -- the first one that is it is taken
    pub next_taken : (whole : Type 0) (next number : ℕ) → next ≤ number → number < length (lines_of start) → line_at start number ≡ line
        → ((j : ℕ) → next ≤ j → j < number → line_at start j ≢ line) → whole ↔ Takes (drop next (lines_of start)) Rest
        → whole ↔ Takes (drop (number + 1) (lines_of start)) later
    next_taken whole next number from below same others before =
        let count : next + (number - next) ≡ number = omega (arith, from) in
        let over =
        subst (λ (n : ℕ). Takes (drop next (lines_of start)) Rest ↔ Takes (drop n (lines_of start)) Rest) count
        (passed_over (number - next) next (omega (arith, count, below)) (λ j from' below'. others j from' (omega (arith, below', count)))) in
        let more : drop number (lines_of start) ≡ line ∷ drop (number + 1) (lines_of start) =
        drop_more (lines_of start) number [] below ∙ ap (λ (l : List ℕ). l ∷ drop (number + 1) (lines_of start)) same in
        let taken =
        taken_line line later (drop (number + 1) (lines_of start)) (subst AreLines more (are_from number (lines_of start) (lines_are start))) in
        both_ways before
        (both_ways over
        (subst (λ (lines : List (List ℕ)). Takes lines Rest ↔ Takes (drop (number + 1) (lines_of start)) later) (sym more) taken))

    -- where none is it, some of the text is left
    pub none_taken : (whole : Type 0) (next : ℕ) → Rest ≢ [] → ((j : ℕ) → next ≤ j → j < length (lines_of start) → line_at start j ≢ line)
        → whole ↔ Takes (drop next (lines_of start)) Rest → whole → ⊥
    none_taken whole next some others before w = by (cases_lt next (length (lines_of start)))
      where
        at_end : (n : ℕ) → length (lines_of start) ≤ n → Takes (drop n (lines_of start)) Rest → ⊥
        at_end n past taken = some (subst (λ (lines : List (List ℕ)). Takes lines Rest) (drop_all n (lines_of start) past) taken)

        by : (next < length (lines_of start)) ⊎ (length (lines_of start) ≤ next) → ⊥
        by (inl below) =
            let count : next + (length (lines_of start) - next) ≡ length (lines_of start) = omega (arith, below) in
            at_end (next + (length (lines_of start) - next)) (omega (arith, count))
            ((passed_over (length (lines_of start) - next) next (omega (arith, count))
            (λ j from below'. others j from (omega (arith, below', count)))).0 (before.0 w))
        by (inr past) = at_end next past (before.0 w)

-- nothing is left
pub nothing_left : (whole : Type 0) (lines : List (List ℕ)) (rest : List ℕ) → rest ≡ [] → whole ↔ Takes lines rest → whole
nothing_left whole lines rest none before = before.1 (subst (Takes lines) (sym none) (takes_nothing lines))
  where
    takes_nothing : (lines : List (List ℕ)) → Takes lines []
    takes_nothing [] = refl
    takes_nothing (line ∷ lines) = inl (takes_nothing lines)

-- a test for a list without elements
pub empty_is : {A : Type 0} (rest : List A) (count : ℕ) (b : Bool) → count ≡ length rest → b ≡ (count == 0) → (b ≡ true) ↔ (rest ≡ [])
empty_is {A = A} rest count b long is =
    let d = Decides-eqb count 0 in (λ t. nil_from_length rest (sym long ∙ d.0 (sym is ∙ t)), λ e. is ∙ d.1 (long ∙ ap (λ (l : List A). length l) e))

-- such lines may be asked exactly where each text that stays occurs in them
pub listed_lines : (stay : List (List ℕ)) (start text : List ℕ) → (some : List Line) × IsSubsequence some (numbered_lines start) × (text ≡ text_of some)
    → (holds_all stay text ≡ true) ↔ IsLineCandidate (keeps_admit stay) start text
listed_lines stay start text (some, are, is) =
    (λ held. record { lines = some; some = are; listed = ap (holds_all stay) (sym is) ∙ held; joined = is }, λ one. ap (holds_all stay) one.joined ∙ one.listed)
