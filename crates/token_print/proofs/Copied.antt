-- The runs of a printed text are copies of the start.
use Rattle.std.proofs.Common.{◌≡◌, ◌≢◌, ◌<◌, ◌≤◌, ◌+◌, ◌-◌, ◌⊎◌, inl, inr, ℕ, suc, Bool, true, false, cond, nat_eq, List, [], ◌∷◌, ◌++◌}
use Rattle.std.proofs.Common.{take, drop, length, refl, sym, ap, ap₂, ◌∙◌, subst, arith, append_assoc, length-append}
use Rattle.std.specs.List.{between}
use Rattle.std.specs.Str.{IsCharBoundary, IsUtf8}
use Rattle.std.proofs.lemmas.List.{drop_at, length-drop, take_at}
use Rattle.std.proofs.lemmas.Str.{IsCharBoundary-at_seam, IsCharBoundary-end, IsCharBoundary-start, IsUtf8-append, IsUtf8-between}
use Rattle.grammar_tree.specs.Lexes.{PlacedToken}
use Rattle.token_print.specs.Spelling.{gap_end, gap_start, gap_text}
use Rattle.token_print.proofs.Gaps.{join}
use Rattle.token_print.specs.declared.style.Skips.{Skips}
use Rattle.token_print.specs.declared.style.Style.{Style}
use Rattle.token_print.specs.Printed.{final_newline, separator}
use Rattle.token_print.specs.Runs.{run_at, run_from, run_limit, run_to, runs_at}
use Rattle.token_print.specs.inner.Copies.{AreCopied, IsCopy}
use Rattle.token_print.specs.inner.RunTexts.{later_text, run_text, runs_text, text_after}
use Rattle.token_print.proofs.Stretches.{AreStretches, HasOffsets, decided, run_rises}

pub length_between : (a b : ℕ) (text : List ℕ) → a ≤ b → b ≤ length text → length (between a b text) ≡ b - a
length_between a b text h k =
    omega (arith, h, k, ap length (join a b text (drop b text) h refl), length-append (between a b text) (drop b text), length-drop b text, length-drop a text)

-- Where the gaps of a start begin and end is between characters.
pub record HasBounds (start : List ℕ) (tokens : List PlacedToken) : Type 0 where
  pub utf8 : IsUtf8 start
  pub starts : (i : ℕ) → i ≤ length tokens → IsCharBoundary start (gap_start start tokens i)
  pub ends : (i : ℕ) → i ≤ length tokens → IsCharBoundary start (gap_end start tokens i)

module _ (skips : Skips) (start : List ℕ) (tokens : List PlacedToken) (o : HasOffsets start tokens) (bounds : HasBounds start tokens) where
  abbrev from : Style → ℕ → ℕ
  from style a = run_from skips start tokens style a

  abbrev to : Style → ℕ → ℕ
  to style b = run_to skips start tokens style b

  from_boundary : (style : Style) (a : ℕ) → a ≤ length tokens → IsCharBoundary start (from style a)
  from_boundary Style.Squeezed a h = bounds.ends a h
  from_boundary Style.AsWas a h = pick (nat_eq a 0)
    where
      pick : (x : Bool) → IsCharBoundary start (cond x 0 (gap_end start tokens a))
      pick true = IsCharBoundary-start start bounds.utf8
      pick false = bounds.ends a h

  to_boundary : (style : Style) (b : ℕ) → b < length tokens → IsCharBoundary start (to style b)
  to_boundary Style.Squeezed b h = bounds.starts (suc b) (omega (arith, h))
  to_boundary Style.AsWas b h = pick (nat_eq (suc b) (length tokens))
    where
      pick : (x : Bool) → IsCharBoundary start (cond x (length start) (gap_start start tokens (suc b)))
      pick true = IsCharBoundary-end start
      pick false = bounds.starts (suc b) (omega (arith, h))

  run_utf8 : (style : Style) (a b : ℕ) → a ≤ b → b < length tokens → IsUtf8 (run_text skips start tokens style (a, b))
  run_utf8 style a b h l =
      IsUtf8-between start (from style a) (to style b) bounds.utf8 (omega (arith, run_rises skips start tokens o style a b h l))
      (from_boundary style a (omega (arith, h, l))) (to_boundary style b l)

  -- what separates is UTF-8
  newline_utf8 : IsUtf8 (10 ∷ [])
  unfolding lib.Utf8.encode
  newline_utf8 = (10 ∷ [], (refl, refl))

  space_utf8 : IsUtf8 (32 ∷ [])
  unfolding lib.Utf8.encode
  space_utf8 = (32 ∷ [], (refl, refl))

  none_utf8 : IsUtf8 []
  none_utf8 = ([], (refl, refl))

  newline_or : (x : Bool) (other : List ℕ) → IsUtf8 other → IsUtf8 (cond x (10 ∷ []) other)
  newline_or true other h = newline_utf8
  newline_or false other h = h

  space_or : (x : Bool) → IsUtf8 (cond x (32 ∷ []) [])
  space_or true = space_utf8
  space_or false = none_utf8

  end_utf8 : (style : Style) (b : ℕ) → IsUtf8 (text_after skips start tokens style b)
  end_utf8 Style.Squeezed b = newline_or skips.newline [] none_utf8
  end_utf8 Style.AsWas b = pick (nat_eq (suc b) (length tokens))
    where
      pick : (x : Bool) → IsUtf8 (cond x [] (final_newline skips))
      pick true = none_utf8
      pick false = newline_or skips.newline [] none_utf8

  separator_utf8 : (gap : List ℕ) → IsUtf8 (separator skips gap)
  separator_utf8 gap = newline_or _ (cond skips.space (32 ∷ []) []) (space_or skips.space)

  later_utf8 : (style : Style) (b : ℕ) (rest : List (ℕ × ℕ)) → AreStretches (length tokens) (suc b) rest → IsUtf8 (later_text skips start tokens style b rest)
  later_utf8 style b [] are = end_utf8 style b
  later_utf8 style b (s ∷ rest) (low, up, below, others) =
      IsUtf8-append (separator skips (gap_text start tokens s.0)) (run_text skips start tokens style s ++ later_text skips start tokens style s.1 rest)
      (separator_utf8 (gap_text start tokens s.0))
      (IsUtf8-append (run_text skips start tokens style s) (later_text skips start tokens style s.1 rest) (run_utf8 style s.0 s.1 up below)
      (later_utf8 style s.1 rest others))

  -- the text of the runs is UTF-8
  pub runs_utf8 : (style : Style) (ss : List (ℕ × ℕ)) → AreStretches (length tokens) 0 ss → IsUtf8 (runs_text skips start tokens style ss)
  runs_utf8 style [] are = none_utf8
  runs_utf8 style (s ∷ rest) (low, up, below, others) =
      IsUtf8-append (run_text skips start tokens style s) (later_text skips start tokens style s.1 rest) (run_utf8 style s.0 s.1 up below)
      (later_utf8 style s.1 rest others)

  module _ (text : List ℕ) where
    no_more : (b : ℕ) (rest : List (ℕ × ℕ)) → AreStretches (length tokens) (suc b) rest → suc b ≡ length tokens → rest ≡ []
    no_more b [] are last = refl
    no_more b (t ∷ rest) (low, high, under, others) last = absurd (omega (arith, low, high, under, last))

    -- up to where a run carries: its end, or beyond that of the start where the text ends with it
    limit_is : (style : Style) (b size : ℕ) (rest : List (ℕ × ℕ)) → AreStretches (length tokens) (suc b) rest
        → length text ≡ size + length (later_text skips start tokens style b rest) →
        (run_limit skips start tokens style b ≡ to style b)
        ⊎ ((run_limit skips start tokens style b ≡ suc (length start)) × (to style b ≡ length start) × (size ≡ length text))
    limit_is Style.Squeezed b size rest are sizes = inl refl
    limit_is Style.AsWas b size rest are sizes = pick (decided (suc b) (length tokens))
      where
        pick : ((suc b ≡ length tokens) × (nat_eq (suc b) (length tokens) ≡ true)) ⊎ ((suc b ≢ length tokens) × (nat_eq (suc b) (length tokens) ≡ false)) →
            (run_limit skips start tokens Style.AsWas b ≡ to Style.AsWas b)
            ⊎ ((run_limit skips start tokens Style.AsWas b ≡ suc (length start)) × (to Style.AsWas b ≡ length start) × (size ≡ length text))
        pick (inr (d, f)) =
            inl (ap (λ x. cond x (suc (length start)) (gap_start start tokens (suc b))) f
            ∙ sym (ap (λ x. cond x (length start) (gap_start start tokens (suc b))) f))
        pick (inl (e, t)) =
            let nothing : later_text skips start tokens Style.AsWas b rest ≡ [] =
            ap (later_text skips start tokens Style.AsWas b) (no_more b rest are e) ∙ ap (λ x. cond x [] (final_newline skips)) t in
            inr (
              ap (λ x. cond x (suc (length start)) (gap_start start tokens (suc b))) t,
              ap (λ x. cond x (length start) (gap_start start tokens (suc b))) t,
              omega (arith, sizes, ap length nothing),
            )

    one : (style : Style) (pre : List ℕ) (at : ℕ) (s : ℕ × ℕ) (rest : List (ℕ × ℕ)) → s.0 ≤ s.1 → s.1 < length tokens
        → AreStretches (length tokens) (suc s.1) rest → text ≡ pre ++ (run_text skips start tokens style s ++ later_text skips start tokens style s.1 rest)
        → length pre ≡ at →
        IsCopy start text (run_at skips start tokens style at s)
    one style pre at s rest up below others e size =
        let a = from style s.0 in
        let b = to style s.1 in
        let word = run_text skips start tokens style s in
        let later = later_text skips start tokens style s.1 rest in
        let less = run_rises skips start tokens o style s.0 s.1 up below in
        let inside = (to_boundary style s.1 below).0 in
        let long : length word ≡ b - a = length_between a b start (omega (arith, less)) inside in
        let whole : text ≡ (pre ++ word) ++ later = e ∙ sym (append_assoc pre word later) in
        let dropped : drop at text ≡ word ++ later = ap (drop at) e ∙ drop_at pre (word ++ later) at size in
        let taken : (at + (b - a)) - at ≡ b - a = omega arith in
        let seam : length (pre ++ word) ≡ at + (b - a) = omega (arith, length-append pre word, size, long) in
        let Q : ℕ → Type 0 = λ n. IsCharBoundary text n in
        record {
          rises = omega (arith, less);
          within = inside;
          fits = omega (arith, ap length whole, length-append (pre ++ word) later, seam);
          same = ap₂ (λ n l. take n l) taken dropped ∙ take_at word later (b - a) long;
          begins = from_boundary style s.0 (omega (arith, up, below));
          ends = to_boundary style s.1 below;
          text_begins =
              subst Q size (IsCharBoundary-at_seam text pre (word ++ later) e
              (IsUtf8-append word later (run_utf8 style s.0 s.1 up below) (later_utf8 style s.1 rest others)));
          text_ends = subst Q seam (IsCharBoundary-at_seam text (pre ++ word) later whole (later_utf8 style s.1 rest others));
          limit = limit_is style s.1 (at + (b - a)) rest others (omega (arith, ap length whole, length-append (pre ++ word) later, seam));
        }

    -- The runs are copies, wherever the first of them begins.
    pub copied : (style : Style) (low offset at : ℕ) (ss : List (ℕ × ℕ)) (pre : List ℕ) → AreStretches (length tokens) low ss
        → text ≡ pre ++ runs_text skips start tokens style ss → length pre ≡ at → offset ≤ at
        → AreCopied start text offset (runs_at skips start tokens style at ss)
    copied style low offset at [] pre are e size h = tt
    copied style low offset at (s ∷ []) pre (below_low, up, below, others) e size h = (one style pre at s [] up below others e size, h, tt)
    copied style low offset at (s ∷ t ∷ rest) pre (below_low, up, below, others) e size h =
        let word = run_text skips start tokens style s in
        let sep = separator skips (gap_text start tokens t.0) in
        let tail = runs_text skips start tokens style (t ∷ rest) in
        let less = run_rises skips start tokens o style s.0 s.1 up below in
        let long : length word ≡ to style s.1 - from style s.0 =
        length_between (from style s.0) (to style s.1) start (omega (arith, less)) (to_boundary style s.1 below).0 in
        let next : text ≡ ((pre ++ word) ++ sep) ++ tail = e ∙ sym (append_assoc pre word (sep ++ tail)) ∙ sym (append_assoc (pre ++ word) sep tail) in
        let size_next : length ((pre ++ word) ++ sep) ≡ at + (to style s.1 - from style s.0) + length sep =
        omega (arith, length-append (pre ++ word) sep, length-append pre word, size, long) in (
          one style pre at s (t ∷ rest) up below others e size,
          h,
          copied style (suc s.1) (at + (to style s.1 - from style s.0)) (at + (to style s.1 - from style s.0) + length sep) (t ∷ rest)
              ((pre ++ word) ++ sep) others next size_next (omega arith),
        )
