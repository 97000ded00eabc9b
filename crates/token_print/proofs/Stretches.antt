-- A printed text is its runs, with what is printed between them.
use Rattle.std.proofs.Common.{◌≡◌, ◌≢◌, ◌<◌, ◌≤◌, ◌⊎◌, inl, inr, ℕ, suc, Bool, true, false, cond, nat_eq, List, [], ◌∷◌}
use Rattle.std.proofs.Common.{◌++◌, Some, None, drop, length, refl, sym, ap, ap₂, ◌∙◌, subst, arith, append_assoc}
use Rattle.std.specs.List.{between}
use Rattle.std.specs.Bool.{⊤}
use Rattle.std.proofs.lemmas.Bool.{cases_lt}
use Rattle.std.proofs.lemmas.List.{append-nil, append_cancel_right}
use Rattle.grammar_tree.specs.Lexes.{PlacedToken}
use Rattle.token_print.specs.Spelling.{gap_end, gap_start, gap_text, spelling_at}
use Rattle.token_print.proofs.Gaps.{join}
use Rattle.token_print.specs.declared.style.Skips.{Skips}
use Rattle.token_print.specs.declared.style.Style.{Style}
use Rattle.token_print.specs.Printed.{final_newline, printed_after, separator}
use Rattle.token_print.specs.Runs.{run_from, run_to, stretches, with_token}
use Rattle.token_print.specs.inner.RunTexts.{later_text, runs_text, text_after}

-- two parts of a text that follow each other
pub joined : (a b c : ℕ) (text : List ℕ) → a ≤ b → b ≤ c → between a b text ++ between b c text ≡ between a c text
joined a b c text h k =
    append_cancel_right (between a b text ++ between b c text) (between a c text) (drop c text)
    (append_assoc (between a b text) (between b c text) (drop c text)
    ∙ ap (λ l. between a b text ++ l) (join b c text (drop c text) k refl)
    ∙ join a b text (drop b text) h refl
    ∙ sym (join a c text (drop c text) (omega (arith, h, k)) refl))

eq_true : (m n : ℕ) → m ≡ n → nat_eq m n ≡ true
eq_true m n e = grind (arith)

pub eq_false : (m n : ℕ) → m ≢ n → nat_eq m n ≡ false
eq_false m n d = grind (arith)

-- an equation of numbers, decided
pub decided : (m n : ℕ) → ((m ≡ n) × (nat_eq m n ≡ true)) ⊎ ((m ≢ n) × (nat_eq m n ≡ false))
decided m n = pick (cases_lt m n) (cases_lt n m)
  where
    apart : m ≢ n → ((m ≡ n) × (nat_eq m n ≡ true)) ⊎ ((m ≢ n) × (nat_eq m n ≡ false))
    apart d = inr (d, eq_false m n d)

    pick : (m < n) ⊎ (n ≤ m) → (n < m) ⊎ (m ≤ n) → ((m ≡ n) × (nat_eq m n ≡ true)) ⊎ ((m ≢ n) × (nat_eq m n ≡ false))
    pick (inl h) other = apart (λ e. omega (arith, h, e))
    pick (inr h) (inl k) = apart (λ e. omega (arith, k, e))
    pick (inr h) (inr k) = let e : m ≡ n = omega (arith, h, k) in inl (e, eq_true m n e)

-- Where the gaps and the tokens of a start are.
pub record HasOffsets (start : List ℕ) (tokens : List PlacedToken) : Type 0 where
  pub gap : (i : ℕ) → i ≤ length tokens → gap_start start tokens i ≤ gap_end start tokens i
  pub word : (i j : ℕ) → i ≤ j → j < length tokens → gap_end start tokens i < gap_start start tokens (suc j)
  pub inside : (i : ℕ) → i ≤ length tokens → gap_end start tokens i ≤ length start
  pub last : gap_end start tokens (length tokens) ≡ length start
  pub spelled : (i : ℕ) → i < length tokens → spelling_at start tokens i ≡ between (gap_end start tokens i) (gap_start start tokens (suc i)) start

-- numbers of tokens that rise from the one number on
pub data AreRising (n : ℕ) : ℕ → List ℕ → Type 0 where
  by_none : (low : ℕ) → AreRising n low []
  by_token : (low i : ℕ) (kept : List ℕ) → low ≤ i → i < n → AreRising n (suc i) kept → AreRising n low (i ∷ kept)

-- Stretches of numbers that rise so.
abbrev pub AreStretches : ℕ → ℕ → List (ℕ × ℕ) → Type 0
AreStretches n low [] = ⊤
AreStretches n low (s ∷ rest) = (low ≤ s.0) × (s.0 ≤ s.1) × (s.1 < n) × AreStretches n (suc s.1) rest

-- the first number is that of the first stretch
pub head_is : (i : ℕ) (ss : List (ℕ × ℕ)) → (b : ℕ) × (rest : List (ℕ × ℕ)) × (with_token i ss ≡ (i, b) ∷ rest)
head_is i [] = (i, [], refl)
head_is i (s ∷ rest) = pick (nat_eq s.0 (suc i)) refl
  where
    pick : (x : Bool) → nat_eq s.0 (suc i) ≡ x → (b : ℕ) × (r : List (ℕ × ℕ)) × (with_token i (s ∷ rest) ≡ (i, b) ∷ r)
    pick true e = (s.1, rest, ap (λ y. cond y ((i, s.1) ∷ rest) ((i, i) ∷ s ∷ rest)) e)
    pick false e = (i, s ∷ rest, ap (λ y. cond y ((i, s.1) ∷ rest) ((i, i) ∷ s ∷ rest)) e)

with_rising : (n low i : ℕ) (ss : List (ℕ × ℕ)) → low ≤ i → i < n → AreStretches n (suc i) ss → AreStretches n low (with_token i ss)
with_rising n low i [] h l are = (h, omega arith, l, tt)
with_rising n low i (s ∷ rest) h l are = pick (nat_eq s.0 (suc i))
  where
    pick : (x : Bool) → AreStretches n low (cond x ((i, s.1) ∷ rest) ((i, i) ∷ s ∷ rest))
    pick true = (h, omega (arith, are.0, are.1), are.2, are.3)
    pick false = (h, omega arith, l, are)

pub stretches_rise : (n low : ℕ) (kept : List ℕ) (style : Style) → AreRising n low kept → AreStretches n low (stretches style kept)
stretches_rise n low [] style (AreRising.by_none below) = tt
stretches_rise n low (i ∷ kept) Style.AsWas (AreRising.by_token below first others h l more) =
    with_rising n low i (stretches Style.AsWas kept) h l (stretches_rise n (suc i) kept Style.AsWas more)
stretches_rise n low (i ∷ kept) Style.Squeezed (AreRising.by_token below first others h l more) =
    (h, omega arith, l, stretches_rise n (suc i) kept Style.Squeezed more)

module _ (skips : Skips) (start : List ℕ) (tokens : List PlacedToken) where
  module _ (o : HasOffsets start tokens) where
    -- a token and what is printed after it
    abbrev body : Style → ℕ → List ℕ → List ℕ
    body style i kept = spelling_at start tokens i ++ printed_after skips start tokens style (Some i) kept

    -- the text from the first token of the first stretch on
    abbrev from_word : Style → List (ℕ × ℕ) → List ℕ
    from_word style [] = []
    from_word style (s ∷ rest) = between (gap_end start tokens s.0) (run_to skips start tokens style s.1) start ++ later_text skips start tokens style s.1 rest

    abbrev gs : ℕ → ℕ
    gs i = gap_start start tokens i

    abbrev ge : ℕ → ℕ
    ge i = gap_end start tokens i

    -- a stretch that ends with the last token ends where the start does
    to_last : (b : ℕ) → suc b ≡ length tokens → run_to skips start tokens Style.AsWas b ≡ length start
    to_last b e = ap (λ x. cond x (length start) (gs (suc b))) (eq_true (suc b) (length tokens) e)

    to_other : (b : ℕ) → suc b ≢ length tokens → run_to skips start tokens Style.AsWas b ≡ gs (suc b)
    to_other b d = ap (λ x. cond x (length start) (gs (suc b))) (eq_false (suc b) (length tokens) d)

    pub reaches : (style : Style) (j b : ℕ) → j ≤ b → b < length tokens → ge j < run_to skips start tokens style b
    reaches Style.Squeezed j b h l = o.word j b h l
    reaches Style.AsWas j b h l = pick (decided (suc b) (length tokens))
      where
        pick : ((suc b ≡ length tokens) × (nat_eq (suc b) (length tokens) ≡ true)) ⊎ ((suc b ≢ length tokens) × (nat_eq (suc b) (length tokens) ≡ false))
            → ge j < run_to skips start tokens Style.AsWas b
        pick (inl (e, t)) =
            omega (arith, to_last b e, o.word j b h l, o.gap (suc b) (omega (arith, l)), o.inside (suc b) (omega (arith, l)))
        pick (inr (d, f)) = omega (arith, to_other b d, o.word j b h l)

    from_below : (style : Style) (a : ℕ) → run_from skips start tokens style a ≤ ge a
    from_below Style.Squeezed a = omega arith
    from_below Style.AsWas a = pick (nat_eq a 0)
      where
        pick : (x : Bool) → cond x 0 (ge a) ≤ ge a
        pick true = omega arith
        pick false = omega arith

    -- a run has some bytes
    pub run_rises : (style : Style) (a b : ℕ) → a ≤ b → b < length tokens → run_from skips start tokens style a < run_to skips start tokens style b
    run_rises style a b h l = omega (arith, from_below style a, reaches style a b h l)

    before_end : (b : ℕ) → b < length tokens → gs (suc b) ≤ length start
    before_end b l = omega (arith, o.gap (suc b) (omega (arith, l)), o.inside (suc b) (omega (arith, l)))

    -- it ends in the start
    pub run_within : (style : Style) (b : ℕ) → b < length tokens → run_to skips start tokens style b ≤ length start
    run_within Style.Squeezed b l = before_end b l
    run_within Style.AsWas b l = pick (nat_eq (suc b) (length tokens))
      where
        pick : (x : Bool) → cond x (length start) (gs (suc b)) ≤ length start
        pick true = omega arith
        pick false = before_end b l

    gs_reaches : (j b : ℕ) → j ≤ b → b < length tokens → gs j ≤ run_to skips start tokens Style.AsWas b
    gs_reaches j b h l = omega (arith, o.gap j (omega (arith, h, l)), reaches Style.AsWas j b h l)

    abbrev spelled_as : ℕ → List ℕ
    spelled_as i = between (ge i) (gs (suc i)) start

    as_was : (i : ℕ) (kept : List ℕ) → i < length tokens → AreRising (length tokens) (suc i) kept
        → body Style.AsWas i kept ≡ from_word Style.AsWas (stretches Style.AsWas (i ∷ kept))
    as_was i [] l rising = pick (decided (suc i) (length tokens))
      where
        n : ℕ
        n = length tokens

        last_gap : suc i ≡ n → gap_text start tokens n ≡ between (gs (suc i)) (length start) start
        last_gap e = ap₂ (λ x y. between x y start) (ap gs (sym e)) o.last

        pick : ((suc i ≡ n) × (nat_eq (suc i) n ≡ true)) ⊎ ((suc i ≢ n) × (nat_eq (suc i) n ≡ false))
            → body Style.AsWas i [] ≡ between (ge i) (run_to skips start tokens Style.AsWas i) start ++ text_after skips start tokens Style.AsWas i
        pick (inl (e, t)) =
            ap₂ (λ w x. w ++ cond x (gap_text start tokens n) (final_newline skips)) (o.spelled i l) t
            ∙ ap (λ g. spelled_as i ++ g) (last_gap e)
            ∙ joined (ge i) (gs (suc i)) (length start) start (omega (arith, o.word i i (omega arith) l))
            (omega (arith, o.gap (suc i) (omega (arith, l)), o.inside (suc i) (omega (arith, l))))
            ∙ sym (append-nil (between (ge i) (length start) start))
            ∙ ap₂ (λ x y. between (ge i) x start ++ cond y [] (final_newline skips)) (sym (to_last i e)) (sym t)
        pick (inr (d, f)) =
            ap₂ (λ w x. w ++ cond x (gap_text start tokens n) (final_newline skips)) (o.spelled i l) f
            ∙ ap₂ (λ x y. between (ge i) x start ++ cond y [] (final_newline skips)) (sym (to_other i d)) (sym f)
    as_was i (j ∷ kept) l (AreRising.by_token low next others h k more) =
        pick (as_was j kept k more) (decided j (suc i)) (head_is j (stretches Style.AsWas kept))
      where
        n : ℕ
        n = length tokens

        gap : List ℕ
        gap = gap_text start tokens j

        rises : AreStretches n (suc i) (stretches Style.AsWas (j ∷ kept))
        rises = with_rising n (suc i) j (stretches Style.AsWas kept) h k (stretches_rise n (suc j) kept Style.AsWas more)

        pick : body Style.AsWas j kept ≡ from_word Style.AsWas (stretches Style.AsWas (j ∷ kept)) → ((j ≡ suc i) × (nat_eq j (suc i) ≡ true))
            ⊎ ((j ≢ suc i) × (nat_eq j (suc i) ≡ false)) → (b : ℕ) × (rest : List (ℕ × ℕ)) × (stretches Style.AsWas (j ∷ kept) ≡ (j, b) ∷ rest)
            → body Style.AsWas i (j ∷ kept) ≡ from_word Style.AsWas (with_token i (stretches Style.AsWas (j ∷ kept)))
        pick later (inl (e, t)) (b, rest, is) =
            let R : List (ℕ × ℕ) → Type 0 = λ ss. AreStretches n (suc i) ss in
            let (low, up, below, others) = subst R is rises in
            let to = run_to skips start tokens Style.AsWas b in
            let tail = later_text skips start tokens Style.AsWas b rest in
            ap₂ (λ w x. w ++ (cond x gap (separator skips gap) ++ body Style.AsWas j kept)) (o.spelled i l) t
            ∙ ap (λ x. spelled_as i ++ (gap ++ x)) (later ∙ ap (from_word Style.AsWas) is)
            ∙ ap (λ g. spelled_as i ++ (between (gs g) (ge j) start ++ (between (ge j) to start ++ tail))) e
            ∙ ap (λ x. spelled_as i ++ x) (sym (append_assoc (between (gs (suc i)) (ge j) start) (between (ge j) to start) tail)
            ∙ ap (λ x. x ++ tail) (joined (gs (suc i)) (ge j) to start (let Q : ℕ → Type 0 = λ m. gs m ≤ ge j in subst Q e (o.gap j (omega (arith, k))))
            (omega (arith, reaches Style.AsWas j b up below))))
            ∙ sym (append_assoc (spelled_as i) (between (gs (suc i)) to start) tail)
            ∙ ap (λ x. x ++ tail) (joined (ge i) (gs (suc i)) to start (omega (arith, o.word i i (omega arith) l))
            (let Q : ℕ → Type 0 = λ m. gs m ≤ to in omega (arith, subst Q e (gs_reaches j b up below))))
            ∙ ap (from_word Style.AsWas) (sym (ap (λ ss. with_token i ss) is ∙ ap (λ x. cond x ((i, b) ∷ rest) ((i, i) ∷ (j, b) ∷ rest)) t))
        pick later (inr (d, f)) (b, rest, is) =
            let sep = separator skips gap in
            let to = run_to skips start tokens Style.AsWas b in
            let tail = later_text skips start tokens Style.AsWas b rest in
            let begin : ge j ≡ run_from skips start tokens Style.AsWas j = sym (ap (λ x. cond x 0 (ge j)) (eq_false j 0 (λ z. omega (arith, z, h)))) in
            ap₂ (λ w x. w ++ (cond x gap sep ++ body Style.AsWas j kept)) (o.spelled i l) f
            ∙ ap (λ x. spelled_as i ++ (sep ++ x)) (later ∙ ap (from_word Style.AsWas) is)
            ∙ ap₂ (λ x y. between (ge i) x start ++ (sep ++ (between y to start ++ tail))) (sym (to_other i (λ e. omega (arith, e, h, k)))) begin
            ∙ ap (from_word Style.AsWas) (sym (ap (λ ss. with_token i ss) is ∙ ap (λ x. cond x ((i, b) ∷ rest) ((i, i) ∷ (j, b) ∷ rest)) f))

    squeezed : (i : ℕ) (kept : List ℕ) → i < length tokens → AreRising (length tokens) (suc i) kept
        → body Style.Squeezed i kept ≡ from_word Style.Squeezed (stretches Style.Squeezed (i ∷ kept))
    squeezed i [] l rising = ap (λ w. w ++ final_newline skips) (o.spelled i l)
    squeezed i (j ∷ kept) l (AreRising.by_token low next others h k more) =
        ap₂ (λ w x. w ++ (separator skips (gap_text start tokens j) ++ x)) (o.spelled i l) (squeezed j kept k more)

    -- the text of kept tokens, if there are some
    pub text_is : (style : Style) (kept : List ℕ) → AreRising (length tokens) 0 kept
        → printed_after skips start tokens style None kept ≡ runs_text skips start tokens style (stretches style kept)
    text_is Style.AsWas [] rising = refl
    text_is Style.Squeezed [] rising = refl
    text_is Style.Squeezed (i ∷ kept) (AreRising.by_token low first others h l more) = squeezed i kept l more
    text_is Style.AsWas (i ∷ kept) (AreRising.by_token low first others h l more) = pick (decided i 0) (head_is i (stretches Style.AsWas kept))
      where
        n : ℕ
        n = length tokens

        rises : AreStretches n 0 (stretches Style.AsWas (i ∷ kept))
        rises = with_rising n 0 i (stretches Style.AsWas kept) h l (stretches_rise n (suc i) kept Style.AsWas more)

        pick : ((i ≡ 0) × (nat_eq i 0 ≡ true)) ⊎ ((i ≢ 0) × (nat_eq i 0 ≡ false)) → (b : ℕ) × (rest : List (ℕ × ℕ))
            × (stretches Style.AsWas (i ∷ kept) ≡ (i, b) ∷ rest)
            → printed_after skips start tokens Style.AsWas None (i ∷ kept) ≡ runs_text skips start tokens Style.AsWas (stretches Style.AsWas (i ∷ kept))
        pick (inl (e, t)) (b, rest, is) =
            let R : List (ℕ × ℕ) → Type 0 = λ ss. AreStretches n 0 ss in
            let (low, up, below, others) = subst R is rises in
            let to = run_to skips start tokens Style.AsWas b in
            let tail = later_text skips start tokens Style.AsWas b rest in
            ap₂ (λ x y. cond x (gap_text start tokens i) [] ++ y) t (as_was i kept l more ∙ ap (from_word Style.AsWas) is)
            ∙ ap (λ g. between g (ge i) start ++ (between (ge i) to start ++ tail)) (ap gs e)
            ∙ sym (append_assoc (between 0 (ge i) start) (between (ge i) to start) tail)
            ∙ ap (λ x. x ++ tail) (joined 0 (ge i) to start (omega arith) (omega (arith, reaches Style.AsWas i b up below)))
            ∙ ap (λ x. between (cond x 0 (ge i)) to start ++ tail) (sym t)
            ∙ ap (runs_text skips start tokens Style.AsWas) (sym is)
        pick (inr (d, f)) (b, rest, is) =
            let to = run_to skips start tokens Style.AsWas b in
            let tail = later_text skips start tokens Style.AsWas b rest in
            ap₂ (λ x y. cond x (gap_text start tokens i) [] ++ y) f (as_was i kept l more ∙ ap (from_word Style.AsWas) is)
            ∙ ap (λ x. between (cond x 0 (ge i)) to start ++ tail) (sym f)
            ∙ ap (runs_text skips start tokens Style.AsWas) (sym is)
