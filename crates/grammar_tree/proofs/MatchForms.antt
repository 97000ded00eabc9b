-- How lexer terms match, by their form.
use Rattle.std.proofs.Common.{◌≡◌, ◌⊎◌, inl, inr, ℕ, Bool, true, false, ◌||◌, List, [], ◌∷◌, ◌++◌, refl, sym, ◌∙◌, subst, true≢false}
use Rattle.std.specs.List.{Contains}
use Rattle.grammar_tree.specs.Chars.{has}
use Rattle.grammar_tree.specs.Written.{LexerTerm, LexerSeq, LexerAlts, LexerRule}
use Rattle.grammar_tree.specs.Matches.{Matches, MatchesAlternative, MatchesMany, MatchesSeq, MatchesAlts, MatchesRule, is_short, any_is_short}
use Rattle.grammar_tree.specs.Laws.{CutsInto, MatchesByForm, ShortestIsMatched, RulesMatchByForm, RulesMatchGreedily}

neither : (x y : Bool) → (x || y) ≡ false → (x ≡ false) × (y ≡ false)
neither false y e = (refl, e)
neither true y e = absurd (true≢false e)

module _ {G : List LexerRule} where
  literal_in : (t w : List ℕ) → Matches G (LexerTerm.literal t) w → w ≡ t
  literal_in t w (Matches.by_literal t') = refl

  literal_of : (t w : List ℕ) → w ≡ t → Matches G (LexerTerm.literal t) w
  literal_of t w e = let P : List ℕ → Type 0 = λ x. Matches G (LexerTerm.literal t) x in subst P (sym e) (Matches.by_literal t)

  set_in : (s : List (ℕ × ℕ)) (w : List ℕ) → Matches G (LexerTerm.set s) w → (c : ℕ) × (w ≡ c ∷ []) × (has s c ≡ true)
  set_in s w (Matches.by_set s' c h) = (c, refl, h)

  set_of : (s : List (ℕ × ℕ)) (w : List ℕ) → (c : ℕ) × (w ≡ c ∷ []) × (has s c ≡ true) → Matches G (LexerTerm.set s) w
  set_of s w (c, e, h) = let P : List ℕ → Type 0 = λ x. Matches G (LexerTerm.set s) x in subst P (sym e) (Matches.by_set s c h)

  name_in : (n w : List ℕ) → Matches G (LexerTerm.name n) w → (rule : LexerRule) × Contains G rule × (rule.name ≡ n) × MatchesAlts G rule.alts w
  name_in n w (Matches.by_name n' rule w' c e m) = (rule, c, e, m)

  name_of : (n w : List ℕ) → (rule : LexerRule) × Contains G rule × (rule.name ≡ n) × MatchesAlts G rule.alts w → Matches G (LexerTerm.name n) w
  name_of n w (rule, c, e, m) = Matches.by_name n rule w c e m

  block_in : (a : LexerAlts) (w : List ℕ) → Matches G (LexerTerm.block a) w → MatchesAlts G a w
  block_in a w (Matches.by_block a' w' m) = m

  opt_in : (t : LexerTerm) (w : List ℕ) → Matches G (LexerTerm.opt t) w → (w ≡ []) ⊎ Matches G t w
  opt_in t w (Matches.by_absent t') = inl refl
  opt_in t w (Matches.by_present t' w' m) = inr m

  opt_of : (t : LexerTerm) (w : List ℕ) → (w ≡ []) ⊎ Matches G t w → Matches G (LexerTerm.opt t) w
  opt_of t w (inl e) = let P : List ℕ → Type 0 = λ x. Matches G (LexerTerm.opt t) x in subst P (sym e) (Matches.by_absent t)
  opt_of t w (inr m) = Matches.by_present t w m

  many_in : (t : LexerTerm) (w : List ℕ) → MatchesMany G t w → (w ≡ []) ⊎ CutsInto (Matches G t) (Matches G (LexerTerm.star t)) w
  many_in t w (MatchesMany.by_end t') = inl refl
  many_in t w (MatchesMany.by_more t' u v m more) = inr (u, v, refl, m, Matches.by_star t v more)

  star_in : (t : LexerTerm) (w : List ℕ) → Matches G (LexerTerm.star t) w → (w ≡ []) ⊎ CutsInto (Matches G t) (Matches G (LexerTerm.star t)) w
  star_in t w (Matches.by_star t' w' m) = many_in t w m

  many_of : (t : LexerTerm) (w : List ℕ) → Matches G (LexerTerm.star t) w → MatchesMany G t w
  many_of t w (Matches.by_star t' w' m) = m

  star_of : (t : LexerTerm) (w : List ℕ) → (w ≡ []) ⊎ CutsInto (Matches G t) (Matches G (LexerTerm.star t)) w → Matches G (LexerTerm.star t) w
  star_of t w (inl e) = let P : List ℕ → Type 0 = λ x. Matches G (LexerTerm.star t) x in subst P (sym e) (Matches.by_star t [] (MatchesMany.by_end t))
  star_of t w (inr (u, v, e, m, more)) =
      let P : List ℕ → Type 0 = λ x. Matches G (LexerTerm.star t) x in
      subst P (sym e) (Matches.by_star t (u ++ v) (MatchesMany.by_more t u v m (many_of t v more)))

  plus_in : (t : LexerTerm) (w : List ℕ) → Matches G (LexerTerm.plus t) w → CutsInto (Matches G t) (Matches G (LexerTerm.star t)) w
  plus_in t w (Matches.by_plus t' u v m more) = (u, v, refl, m, Matches.by_star t v more)

  plus_of : (t : LexerTerm) (w : List ℕ) → CutsInto (Matches G t) (Matches G (LexerTerm.star t)) w → Matches G (LexerTerm.plus t) w
  plus_of t w (u, v, e, m, more) =
      let P : List ℕ → Type 0 = λ x. Matches G (LexerTerm.plus t) x in
      subst P (sym e) (Matches.by_plus t u v m (many_of t v more))

  short_in : (s : List (ℕ × ℕ)) (w : List ℕ) → Matches G (LexerTerm.short s) w → Matches G (LexerTerm.star (LexerTerm.set s)) w
  short_in s w (Matches.by_short s' w' m) = Matches.by_star (LexerTerm.set s) w m

  done_in : (w : List ℕ) → MatchesSeq G LexerSeq.done w → w ≡ []
  done_in w MatchesSeq.by_done = refl

  done_of : (w : List ℕ) → w ≡ [] → MatchesSeq G LexerSeq.done w
  done_of w e = let P : List ℕ → Type 0 = λ x. MatchesSeq G LexerSeq.done x in subst P (sym e) MatchesSeq.by_done

  next_in : (t : LexerTerm) (s : LexerSeq) (w : List ℕ) → MatchesSeq G (LexerSeq.next t s) w → CutsInto (Matches G t) (MatchesSeq G s) w
  next_in t s w (MatchesSeq.by_next t' s' u v m more) = (u, v, refl, m, more)

  next_of : (t : LexerTerm) (s : LexerSeq) (w : List ℕ) → CutsInto (Matches G t) (MatchesSeq G s) w → MatchesSeq G (LexerSeq.next t s) w
  next_of t s w (u, v, e, m, more) =
      let P : List ℕ → Type 0 = λ x. MatchesSeq G (LexerSeq.next t s) x in
      subst P (sym e) (MatchesSeq.by_next t s u v m more)

  none_in : (a : LexerAlts) (w : List ℕ) → MatchesAlts G a w → a ≡ LexerAlts.none → ⊥
  none_in a w (MatchesAlts.by_first s b w' m) e = absurd cc
  none_in a w (MatchesAlts.by_later s b w' m) e = absurd cc

  or_in : (s : LexerSeq) (a : LexerAlts) (w : List ℕ) → MatchesAlts G (LexerAlts.or s a) w → MatchesSeq G s w ⊎ MatchesAlts G a w
  or_in s a w (MatchesAlts.by_first s' a' w' m) = inl m
  or_in s a w (MatchesAlts.by_later s' a' w' m) = inr m

  or_of : (s : LexerSeq) (a : LexerAlts) (w : List ℕ) → MatchesSeq G s w ⊎ MatchesAlts G a w → MatchesAlts G (LexerAlts.or s a) w
  or_of s a w (inl m) = MatchesAlts.by_first s a w m
  or_of s a w (inr m) = MatchesAlts.by_later s a w m

  rule_in : {a : LexerAlts} {w : List ℕ} → MatchesRule G a w → MatchesAlts G a w
  rule_in (MatchesRule.by_first s a w m) = MatchesAlts.by_first s a w m.greedily
  rule_in (MatchesRule.by_later s a w m) = MatchesAlts.by_later s a w (rule_in m)

  rule_of : {a : LexerAlts} {w : List ℕ} → MatchesAlts G a w → any_is_short a ≡ false → MatchesRule G a w
  rule_of (MatchesAlts.by_first s a w m) e =
      MatchesRule.by_first s a w (record { greedily = m; shortest = λ short. absurd (true≢false (sym short ∙ (neither (is_short s) (any_is_short a) e).0)) })
  rule_of (MatchesAlts.by_later s a w m) e = MatchesRule.by_later s a w (rule_of m (neither (is_short s) (any_is_short a) e).1)

  rule_none : (a : LexerAlts) (w : List ℕ) → MatchesRule G a w → a ≡ LexerAlts.none → ⊥
  rule_none a w (MatchesRule.by_first s b w' m) e = absurd cc
  rule_none a w (MatchesRule.by_later s b w' m) e = absurd cc

  rule_or_in : (s : LexerSeq) (a : LexerAlts) (w : List ℕ) → MatchesRule G (LexerAlts.or s a) w → MatchesAlternative G s w ⊎ MatchesRule G a w
  rule_or_in s a w (MatchesRule.by_first s' a' w' m) = inl m
  rule_or_in s a w (MatchesRule.by_later s' a' w' m) = inr m

  rule_or_of : (s : LexerSeq) (a : LexerAlts) (w : List ℕ) → MatchesAlternative G s w ⊎ MatchesRule G a w → MatchesRule G (LexerAlts.or s a) w
  rule_or_of s a w (inl m) = MatchesRule.by_first s a w m
  rule_or_of s a w (inr m) = MatchesRule.by_later s a w m

pub rule_by_form : (G : List LexerRule) → RulesMatchByForm G
rule_by_form G = record { none = λ w m. rule_none LexerAlts.none w m refl; or = λ s a w. (rule_or_in s a w, rule_or_of s a w) }

pub by_form : (G : List LexerRule) → MatchesByForm G
by_form G =
    record {
      literal = λ t w. (literal_in t w, literal_of t w);
      set = λ s w. (set_in s w, set_of s w);
      name = λ n w. (name_in n w, name_of n w);
      block = λ a w. (block_in a w, Matches.by_block a w);
      opt = λ t w. (opt_in t w, opt_of t w);
      star = λ t w. (star_in t w, star_of t w);
      plus = λ t w. (plus_in t w, plus_of t w);
      short = λ s w. (short_in s w, λ m. Matches.by_short s w (many_of (LexerTerm.set s) w m));
      done = λ w. (done_in w, done_of w);
      next = λ t s w. (next_in t s w, next_of t s w);
      none = λ w m. none_in LexerAlts.none w m refl;
      or = λ s a w. (or_in s a w, or_of s a w);
    }

pub shortest : ShortestIsMatched
shortest G s u v e m n = n.shortest e u v refl m.greedily

pub greedily : (G : List LexerRule) → RulesMatchGreedily G
greedily G = record { within = λ a w m. rule_in m; all = λ a w e m. rule_of m e }
