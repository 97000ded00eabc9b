-- The answers of a round: what one more makes of them, and how many can be missing.
use Rattle.std.proofs.Common.{◌≡◌, ◌≢◌, ◌+◌, ◌<◌, ◌≤◌, ◌⊎◌, ℕ, suc, zero, Bool, true, false, ◌||◌, ◌&&◌, List, [], ◌∷◌, ◌++◌, Option, Some, None, refl}
use Rattle.std.proofs.Common.{sym, ap, ◌∙◌, append_assoc, cond, length, map, get_or, arith, inl, inr, ⊎_elim, subst}
use Rattle.std.specs.Prelude.{unwrap_or}
use Rattle.std.specs.Option.{option_map_or}
use Rattle.std.specs.Cmp.Lexicographic.{pointwise}
use Rattle.std.specs.List.{AllByRecursion}
use Rattle.std.proofs.lemmas.List.{append-nil}
use Rattle.list_ddmin.specs.ListStep.{Outcome, kept_of, list_step}
use Rattle.list_ddmin.specs.Machine.{AgreeingMaps, QuestionsFit}
use Rattle.reduce_core.specs.declared.lines.Line.{Line}
use Rattle.reduce_rounds.specs.Reduction.{Recursion, Reduction, RoundEnd, after_opening, asks_first, end_at}
use Rattle.reduce_rounds.specs.Reduction.{ends_with, next_rounds, reduction, rounds_of, rounds_within}
use Rattle.reduce_core.specs.Lines.{numbered_lines, text_of}
use Rattle.reduce_core.specs.Reduction.{Admits, is_listed, line_recursion, line_round, line_step}
use Rattle.reduce_core.proofs.LineRounds.{fewer-after-yes, rounds-step, same-without-yes}
use Rattle.reduce_core.proofs.LinesLemmas.{text-numbered_lines}
use Rattle.std.proofs.lemmas.Bool.{cond_both}
use Rattle.std.specs.Bool.{beq}
use Rattle.reduce_core.specs.inner.Plain.{is_among, first_other, texts_asked, with_yes}

either : (b : Bool) → (b ≡ true) ⊎ (b ≡ false)
either true = inl refl
either false = inr refl

same-is : (xs ys : List Bool) → pointwise beq xs ys ≡ true → xs ≡ ys
same-is [] [] same = refl
same-is [] (y ∷ ys) same = absurd (cc same)
same-is (x ∷ xs) [] same = absurd (cc same)
same-is (true ∷ xs) (true ∷ ys) same = ap (λ l. true ∷ l) (same-is xs ys same)
same-is (false ∷ xs) (false ∷ ys) same = ap (λ l. false ∷ l) (same-is xs ys same)
same-is (true ∷ xs) (false ∷ ys) same = absurd (cc same)
same-is (false ∷ xs) (true ∷ ys) same = absurd (cc same)

same-itself : (xs : List Bool) → pointwise beq xs xs ≡ true
same-itself [] = refl
same-itself (true ∷ xs) = same-itself xs
same-itself (false ∷ xs) = same-itself xs

or-assoc : (a b c : Bool) → ((a || b) || c) ≡ (a || (b || c))
or-assoc true b c = refl
or-assoc false b c = refl

or-none : (a : Bool) → (a || false) ≡ a
or-none true = refl
or-none false = refl

or-true : (a : Bool) → (a || true) ≡ true
or-true true = refl
or-true false = refl

pub among-more : (keeps : List (List Bool)) (more keep : List Bool) → is_among (keeps ++ more ∷ []) keep ≡ (is_among keeps keep || pointwise beq more keep)
among-more [] more keep = or-none (pointwise beq more keep)
among-more (one ∷ keeps) more keep =
    ap (λ b. pointwise beq one keep || b) (among-more keeps more keep)
    ∙ sym (or-assoc (pointwise beq one keep) (is_among keeps keep) (pointwise beq more keep))

-- the lists with a yes are those asked that are a yes
abbrev pub IsAnswered : (List Bool → Bool) → List (List Bool) → List (List Bool) → Type 0
IsAnswered verdict asked passed = (keep : List Bool) → is_among passed keep ≡ (is_among asked keep && verdict keep)

-- Below, of one keep list: y, it is among those with a yes; a, among those asked; s, it is the one that is added; v, its verdict.
the-same : (y a s v : Bool) → s ≡ true → v ≡ true → (y || s) ≡ ((a || s) && v)
the-same true true true true is passed = refl
the-same true false true true is passed = refl
the-same false true true true is passed = refl
the-same false false true true is passed = refl
the-same y a false v is passed = absurd (cc is)
the-same y a true false is passed = absurd (cc passed)

another : (y a s v : Bool) → s ≡ false → y ≡ (a && v) → (y || s) ≡ ((a || s) && v)
another y a true v is so_far = absurd (cc is)
another y true false v is so_far = or-none y ∙ so_far
another y false false v is so_far = or-none y ∙ so_far

the-same-no : (y a s v : Bool) → v ≡ false → y ≡ (a && v) → y ≡ ((a || s) && v)
the-same-no y a s true refuses so_far = absurd (cc refuses)
the-same-no y true s false refuses so_far = so_far
the-same-no y false true false refuses so_far = so_far
the-same-no y false false false refuses so_far = so_far

another-no : (y a s v : Bool) → s ≡ false → y ≡ (a && v) → y ≡ ((a || s) && v)
another-no y a true v is so_far = absurd (cc is)
another-no y true false v is so_far = so_far
another-no y false false v is so_far = so_far

module _ (verdict : List Bool → Bool) (asked passed : List (List Bool)) (more keep : List Bool)
    (so_far : is_among passed keep ≡ (is_among asked keep && verdict keep)) where
  at-keep : pointwise beq more keep ≡ true → verdict keep ≡ verdict more
  at-keep same = ap verdict (sym (same-is more keep same))

  more-asked : (is_among (asked ++ more ∷ []) keep && verdict keep) ≡ ((is_among asked keep || pointwise beq more keep) && verdict keep)
  more-asked = ap (λ b. b && verdict keep) (among-more asked more keep)

  by-answer : (answer : Bool) → verdict more ≡ answer
      → is_among (with_yes answer passed more) keep ≡ ((is_among asked keep || pointwise beq more keep) && verdict keep)
  by-answer true is =
      among-more passed more keep
      ∙ ⊎_elim (λ same. the-same (is_among passed keep) (is_among asked keep) (pointwise beq more keep) (verdict keep) same (at-keep same ∙ is))
      (λ other. another (is_among passed keep) (is_among asked keep) (pointwise beq more keep) (verdict keep) other so_far)
      (either (pointwise beq more keep))
  by-answer false is =
      ⊎_elim (λ same. the-same-no (is_among passed keep) (is_among asked keep) (pointwise beq more keep) (verdict keep) (at-keep same ∙ is) so_far)
      (λ other. another-no (is_among passed keep) (is_among asked keep) (pointwise beq more keep) (verdict keep) other so_far)
      (either (pointwise beq more keep))

answered-more : (verdict : List Bool → Bool) (asked passed : List (List Bool)) (more : List Bool)
    → IsAnswered verdict asked passed → IsAnswered verdict (asked ++ more ∷ []) (with_yes (verdict more) passed more)
answered-more verdict asked passed more answered keep =
    by-answer verdict asked passed more keep (answered keep) (verdict more) refl ∙ sym (more-asked verdict asked passed more keep (answered keep))

pub answered-next : (verdict : List Bool → Bool) (asked passed asked' passed' : List (List Bool)) (more : List Bool)
    → asked' ≡ asked ++ more ∷ [] → passed' ≡ with_yes (verdict more) passed more → IsAnswered verdict asked passed → IsAnswered verdict asked' passed'
answered-next verdict asked passed asked' passed' more asked_is passed_is answered keep =
    ap (λ keeps. is_among keeps keep) passed_is
    ∙ answered-more verdict asked passed more answered keep
    ∙ ap (λ keeps. is_among keeps keep && verdict keep) (sym asked_is)

-- how many keep lists of a length a test refuses
pub missing : (List Bool → Bool) → ℕ → ℕ
missing test zero = cond (test []) 0 1
missing test (suc n) = missing (λ keep. test (true ∷ keep)) n + missing (λ keep. test (false ∷ keep)) n

fewer-at : (a b : Bool) → (a ≡ true → b ≡ true) → cond b 0 1 ≤ cond a 0 1
fewer-at true b wider = rw (wider refl) (omega arith)
fewer-at false true wider = omega arith
fewer-at false false wider = omega arith

pub missing-fewer : (n : ℕ) (test more : List Bool → Bool) → ((keep : List Bool) → test keep ≡ true → more keep ≡ true) → missing more n ≤ missing test n
unfolding missing
missing-fewer zero test more wider = fewer-at (test []) (more []) (wider [])
missing-fewer (suc n) test more wider =
    let kept = missing-fewer n (λ keep. test (true ∷ keep)) (λ keep. more (true ∷ keep)) (λ keep. wider (true ∷ keep)) in
    let left = missing-fewer n (λ keep. test (false ∷ keep)) (λ keep. more (false ∷ keep)) (λ keep. wider (false ∷ keep)) in
    omega arith

one-less : (a b : Bool) → a ≡ false → b ≡ true → cond b 0 1 < cond a 0 1
one-less true b refuses passed = absurd (cc refuses)
one-less false false refuses passed = absurd (cc passed)
one-less false true refuses passed = omega arith

-- a test that is true of one more refuses fewer
pub missing-less : (n : ℕ) (test more : List Bool → Bool) → ((keep : List Bool) → test keep ≡ true → more keep ≡ true)
    → (one : List Bool) → length one ≡ n → test one ≡ false → more one ≡ true → missing more n < missing test n
unfolding missing
missing-less zero test more wider [] len refuses passed = one-less (test []) (more []) refuses passed
missing-less zero test more wider (x ∷ one) len refuses passed = absurd (omega arith)
missing-less (suc n) test more wider [] len refuses passed = absurd (omega arith)
missing-less (suc n) test more wider (true ∷ one) len refuses passed =
    let kept = missing-less n (λ keep. test (true ∷ keep)) (λ keep. more (true ∷ keep)) (λ keep. wider (true ∷ keep)) one (omega arith) refuses passed in
    let left = missing-fewer n (λ keep. test (false ∷ keep)) (λ keep. more (false ∷ keep)) (λ keep. wider (false ∷ keep)) in
    omega arith
missing-less (suc n) test more wider (false ∷ one) len refuses passed =
    let kept = missing-fewer n (λ keep. test (true ∷ keep)) (λ keep. more (true ∷ keep)) (λ keep. wider (true ∷ keep)) in
    let left = missing-less n (λ keep. test (false ∷ keep)) (λ keep. more (false ∷ keep)) (λ keep. wider (false ∷ keep)) one (omega arith) refuses passed in
    omega arith

or-of : (a b : Bool) → a ≡ true → (a || b) ≡ true
or-of true b is = refl
or-of false b is = absurd (cc is)

-- with one answer more, to a keep list that was not asked, fewer are missing
pub missing-asked : (n : ℕ) (asked : List (List Bool)) (more : List Bool) → length more ≡ n → is_among asked more ≡ false
    → missing (λ keep. is_among (asked ++ more ∷ []) keep) n < missing (λ keep. is_among asked keep) n
missing-asked n asked more len new =
    missing-less n (λ keep. is_among asked keep) (λ keep. is_among (asked ++ more ∷ []) keep)
    (λ keep is. among-more asked more keep ∙ or-of (is_among asked keep) (pointwise beq more keep) is)
    more len new
    (among-more asked more more ∙ ap (λ b. is_among asked more || b) (same-itself more) ∙ or-true (is_among asked more))

-- where no other is asked, each was answered
pub none-other : (asked keeps : List (List Bool)) → first_other asked keeps ≡ None → AllByRecursion (λ keep. is_among asked keep ≡ true) keeps
none-other asked [] none = tt
none-other asked (keep ∷ keeps) none = ⊎_elim
    (λ is. (is, none-other asked keeps (sym (ap (λ b. cond b (first_other asked keeps) (Some keep)) is) ∙ none)))
    (λ not_asked. absurd (cc (sym (ap (λ b. cond b (first_other asked keeps) (Some keep)) not_asked) ∙ none)))
    (either (is_among asked keep))

-- the first other one was not asked, and it is one of the keep lists
pub one-other : (P : List Bool → Type 0) (asked keeps : List (List Bool)) (found : List Bool) → first_other asked keeps ≡ Some found → AllByRecursion P keeps
    → (is_among asked found ≡ false) × P found
one-other P asked [] found is all = absurd (cc is)
one-other P asked (keep ∷ keeps) found is all = ⊎_elim
    (λ was. one-other P asked keeps found (sym (ap (λ b. cond b (first_other asked keeps) (Some keep)) was) ∙ is) all.1)
    (λ not_asked.
    let same : keep ≡ found = ap (λ o. unwrap_or o keep) (sym (ap (λ b. cond b (first_other asked keeps) (Some keep)) not_asked) ∙ is) in
    (subst (λ k. is_among asked k ≡ false) same not_asked, subst P same all.0))
    (either (is_among asked keep))

-- a map that is right at each question gives the list step
agree : (verdict : List Bool → Bool) (asked passed : List (List Bool)) → IsAnswered verdict asked passed → (keeps : List (List Bool))
    → AllByRecursion (λ keep. is_among asked keep ≡ true) keeps → AllByRecursion (λ keep. is_among passed keep ≡ verdict keep) keeps
agree verdict asked passed answered [] all = tt
agree verdict asked passed answered (keep ∷ keeps) all = (answered keep ∙ ap (λ b. b && verdict keep) all.0, agree verdict asked passed answered keeps all.1)

pub whole-step : AgreeingMaps → (verdict : List Bool → Bool) (len : ℕ) (asked passed : List (List Bool)) → IsAnswered verdict asked passed
    → first_other asked (list_step (λ keep. is_among passed keep) len true).questions ≡ None
    → list_step (λ keep. is_among passed keep) len true ≡ list_step verdict len true
whole-step agreeing verdict len asked passed answered none =
    agreeing (λ keep. is_among passed keep) verdict len true
    (agree verdict asked passed answered (list_step (λ keep. is_among passed keep) len true).questions
    (none-other asked (list_step (λ keep. is_among passed keep) len true).questions none))

-- the first other keep list is new, and has a flag for each line
pub found-other : QuestionsFit → (len : ℕ) (asked passed : List (List Bool)) (found : List Bool)
    → first_other asked (list_step (λ keep. is_among passed keep) len true).questions ≡ Some found
    → (is_among asked found ≡ false) × (length found ≡ len)
found-other fit len asked passed found is =
    one-other (λ keep. length keep ≡ len) asked (list_step (λ keep. is_among passed keep) len true).questions found is
    (fit (λ keep. is_among passed keep) len true).questions

-- at first nothing is known
pub answered-none : (verdict : List Bool → Bool) → IsAnswered verdict [] []
answered-none verdict keep = refl

-- the rounds of the next phase, if there is one, are at most so many
phase-few : {T : Type 0} (go : T → Reduction T) (state : T) (n : ℕ) (o : Option T) → ((next : T) → (go next).rounds ≤ n)
    → (option_map_or go o (ends_with state false)).rounds ≤ n
phase-few go state n None each = omega arith
phase-few go state n (Some next) each = each next

-- each round adds one to the count, and there are at most so many
rounds-within-few : {T : Type 0} (recursion : Recursion T) (verdict : List ℕ → Bool) (n : ℕ) (state : T) → (rounds_within n recursion verdict state).rounds ≤ n
unfolding rounds_within
rounds-within-few recursion verdict zero state = omega arith
rounds-within-few {T = T} recursion verdict (suc n) state =
    let last : RoundEnd T = recursion.round verdict state in
    let few : (next_rounds recursion.next_phase (λ remaining. rounds_within n recursion verdict remaining) last).rounds ≤ n =
    cond_both last.changed (rounds_within n recursion verdict last.state)
    (option_map_or (λ remaining. rounds_within n recursion verdict remaining) (recursion.next_phase last.state) (ends_with last.state false))
    (λ (r : Reduction T). r.rounds ≤ n)
    (λ _. rounds-within-few recursion verdict n last.state)
    (λ _. phase-few (λ remaining. rounds_within n recursion verdict remaining) last.state n (recursion.next_phase last.state)
    (λ next. rounds-within-few recursion verdict n next)) in
    omega arith

pub rounds-few : (admits : Admits) (verdict : List ℕ → Bool) (start : List ℕ) (lines : List Line)
    → (rounds_of (line_recursion admits start) verdict lines).rounds ≤ suc (length lines)
unfolding rounds_of
rounds-few admits verdict start lines = rounds-within-few (line_recursion admits start) verdict (suc (length lines)) lines

module _ (admits : Admits) (verdict : List ℕ → Bool) (start : List ℕ) (lines : List Line) (o : Outcome) (texts : List (List ℕ)) (left : List Line)
    (round_is : o ≡ line_step admits verdict lines) (texts_are : texts ≡ texts_asked admits lines o.questions) (left_is : left ≡ kept_of o.result lines) where
  abbrev go : List Line → Reduction (List Line)
  go l = rounds_of (line_recursion admits start) verdict l

  abbrev end : RoundEnd (List Line)
  end = line_round admits verdict lines

  asked : texts ≡ end.questions
  asked =
      texts_are
      ∙ ap (λ (p : Outcome). texts_asked admits lines p.questions) round_is
      ∙ sym (append-nil (texts_asked admits lines (line_step admits verdict lines).questions))

  remains : left ≡ end.state
  remains = left_is ∙ ap (λ (p : Outcome). kept_of p.result lines) round_is

  by-parts : (later : Reduction (List Line)) → later ≡ next_rounds (line_recursion admits start).next_phase go end
      → record later { questions = texts ++ later.questions; rounds = later.rounds + 1 } ≡ go lines
  by-parts later later_is =
      (λ i. record (later_is i) { questions = asked i ++ (later_is i).questions; rounds = (later_is i).rounds + 1 })
      ∙ sym (rounds-step admits start verdict lines)

  -- a round that left as many was the last one
  pub last-round : length left ≡ length lines → record (ends_with lines false) { questions = texts ++ []; rounds = 0 + 1 } ≡ go lines
  last-round same = ⊎_elim
      (λ is. absurd (let less : length end.state < length lines = fewer-after-yes admits start verdict lines is in
      let as_left : length left ≡ length end.state = ap (λ (l : List Line). length l) remains in omega (arith, less, as_left, same)))
      (λ is. by-parts (ends_with lines false)
      (ap (λ (l : List Line). ends_with l false) (sym (same-without-yes admits start verdict lines is))
      ∙ sym (ap (λ b. cond b (go end.state) (ends_with end.state false)) is)))
      (either end.changed)

  -- after any other the rounds go on with what is left
  pub next-rounds : length left ≢ length lines → record (go left) { questions = texts ++ (go left).questions; rounds = (go left).rounds + 1 } ≡ go lines
  next-rounds other = ⊎_elim
      (λ is. by-parts (go left) (ap go remains ∙ sym (ap (λ b. cond b (go end.state) (ends_with end.state false)) is)))
      (λ is. absurd (other (ap (λ (l : List Line). length l) (remains ∙ same-without-yes admits start verdict lines is))))
      (either end.changed)

module _ (admits : Admits) (verdict : List ℕ → Bool) (start : List ℕ) where
  abbrev first : List Line
  first = numbered_lines start

  abbrev rounds_first : Reduction (List Line)
  rounds_first = rounds_of (line_recursion admits start) verdict first

  -- the reduction asks the lines' text, which is the start
  asks-start : asks_first start (cond (verdict start) (after_opening (end_at first) rounds_first) (ends_with first true)) ≡ reduction
      (line_recursion admits start) verdict
  unfolding reduction
  asks-start = λ i.
      asks_first (sym (text-numbered_lines start) i)
      (cond (verdict (sym (text-numbered_lines start) i)) (after_opening (end_at first) rounds_first) (ends_with first true))

  pub reduction-no : verdict start ≡ false → asks_first start (ends_with first true) ≡ reduction (line_recursion admits start) verdict
  reduction-no is = ap (λ b. asks_first start (cond b (after_opening (end_at first) rounds_first) (ends_with first true))) (sym is) ∙ asks-start

  pub reduction-yes : verdict start ≡ true → asks_first start rounds_first ≡ reduction (line_recursion admits start) verdict
  reduction-yes is = ap (λ b. asks_first start (cond b (after_opening (end_at first) rounds_first) (ends_with first true))) (sym is) ∙ asks-start

-- one keep list more before those that follow
pub asked-more : (admits : Admits) (lines : List Line) (texts texts' : List (List ℕ)) (keep : List Bool) (keeps : List (List Bool)) (whole : List (List ℕ))
    → is_listed admits (kept_of keep lines) ≡ true → texts' ≡ texts ++ text_of (kept_of keep lines) ∷ []
    → texts ++ texts_asked admits lines (keep ∷ keeps) ≡ whole → texts' ++ texts_asked admits lines keeps ≡ whole
asked-more admits lines texts texts' keep keeps whole listed more before =
    ap (λ ts. ts ++ texts_asked admits lines keeps) more
    ∙ append_assoc texts (text_of (kept_of keep lines) ∷ []) (texts_asked admits lines keeps)
    ∙ ap (λ b. texts ++ cond b (text_of (kept_of keep lines) ∷ texts_asked admits lines keeps) (texts_asked admits lines keeps)) (sym listed)
    ∙ before

pub asked-same : (admits : Admits) (lines : List Line) (texts : List (List ℕ)) (keep : List Bool) (keeps : List (List Bool)) (whole : List (List ℕ))
    → is_listed admits (kept_of keep lines) ≡ false → texts ++ texts_asked admits lines (keep ∷ keeps) ≡ whole → texts ++ texts_asked admits lines keeps ≡ whole
asked-same admits lines texts keep keeps whole unlisted before =
    ap (λ b. texts ++ cond b (text_of (kept_of keep lines) ∷ texts_asked admits lines keeps) (texts_asked admits lines keeps)) (sym unlisted) ∙ before

-- what holds of all holds of the one at an index
pub all-at : {X Y : Type 0} (P : X → Type 0) (f : Y → X) (ys : List Y) (k : ℕ) (y : Y) → AllByRecursion P (map f ys) → k < length ys → P (f (get_or ys k y))
all-at P f [] k y all within = absurd (omega arith)
all-at P f (x ∷ ys) zero y all within = all.0
all-at P f (x ∷ ys) (suc k) y all within = all-at P f ys k y all.1 (omega arith)
