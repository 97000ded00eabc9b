-- The pattern of a lexer term spans exactly where the term matches.
use Rattle.std.proofs.Common.{◌≡◌, ◌≤◌, ◌+◌, ◌⊎◌, ◌↔◌, inl, inr, ℕ, zero, suc, Bool, true, false, List, [], ◌∷◌, ◌++◌}
use Rattle.std.proofs.Common.{Option, Some, None, slice_get, length, refl, sym, ap, ◌∙◌, subst, arith}
use Rattle.std.specs.List.{Contains}
use Rattle.std.specs.Option.{option_map}
use Rattle.std.proofs.lemmas.Option.{slice_get-map}
use Rattle.std.proofs.lemmas.Slice.Eq.{bytes_eq-Decides}
use Rattle.grammar_tree.specs.Written.{LexerTerm, LexerSeq, LexerAlts, LexerRule, WrittenRule}
use Rattle.grammar_tree.specs.Kinds.{lexer_rules, same_text}
use Rattle.grammar_tree.specs.Matches.{Matches, MatchesMany, MatchesSeq, MatchesAlts}
use Rattle.grammar_tree.proofs.Lent.{at_of_contains, contains_later, lexer_place}
use Rattle.cases_languages.specs.Patterns.{Pattern, Spans}
use Rattle.cases_languages.specs.Positions.{IsExact, Known as rows_known, Many, SpansBy}
use Rattle.cases_languages.specs.declared.chart.Row.{Row}
use Rattle.cases_languages.specs.Spelled.{named_from, or_rule, spelled, spelled_alts, spelled_rule, spelled_rules, spelled_seq, spelled_text}
use Rattle.cases_languages.proofs.Reading.{Reads, join, cut}
use Rattle.cases_languages.proofs.Spanned.{spans_of, exact_ends}
use Rattle.cases_languages.proofs.Ones.{one_only, one_itself}

-- a lexer rule at a position among all rules is a lexer rule
contains_at : (rules : List WrittenRule) (r : ℕ) (rule : LexerRule) → slice_get rules r ≡ Some (WrittenRule.lexer_rule rule) → Contains (lexer_rules rules) rule
contains_at [] r rule e = absurd (cc)
contains_at (WrittenRule.parser_rule x ∷ rules) zero rule e = absurd (cc)
contains_at (WrittenRule.parser_rule x ∷ rules) (suc r) rule e = contains_at rules r rule e
contains_at (WrittenRule.lexer_rule x ∷ rules) zero rule e = (0, omega arith, cc)
contains_at (WrittenRule.lexer_rule x ∷ rules) (suc r) rule e = contains_later x (lexer_rules rules) rule (contains_at rules r rule e)

module _ (rules : List WrittenRule) (K : List ℕ) where
  abbrev G : List LexerRule
  G = lexer_rules rules

  abbrev B : List Pattern
  B = spelled_rules rules

  -- the rule at the index matches that part
  abbrev Known : ℕ → ℕ → ℕ → Type 0
  Known r i j = (w : List ℕ) × Reads K i j w × ((rule : LexerRule) × (slice_get rules r ≡ Some (WrittenRule.lexer_rule rule)) × MatchesAlts G rule.alts w)

  text_sound : (t : List ℕ) (i j : ℕ) → SpansBy Known K (spelled_text t) i j → Reads K i j t
  text_sound [] i j h = h
  text_sound (c ∷ t) i j (m, (k, g, h, e), s) =
      let P : ℕ → Type 0 = λ n. Reads K n j t in (g ∙ ap Some (one_only c k h), subst P (sym e) (text_sound t m j s))

  text_complete : (t : List ℕ) (i j : ℕ) → Reads K i j t → Spans B K (spelled_text t) i j
  text_complete [] i j e = let P : ℕ → Type 0 = λ n. Spans B K Pattern.empty i n in subst P e (Spans.by_empty i)
  text_complete (c ∷ t) i j (g, h) =
      Spans.by_seq (Pattern.one ((c, c) ∷ [])) (spelled_text t) i (suc i) j (Spans.by_one ((c, c) ∷ []) c i g (one_itself c)) (text_complete t (suc i) j h)

  -- a rule of the name is known to span that part
  abbrev Named : List WrittenRule → ℕ → List ℕ → ℕ → ℕ → Type 0
  Named rest p n i j = (q : ℕ) × (rule : LexerRule) × (slice_get rest q ≡ Some (WrittenRule.lexer_rule rule)) × (rule.name ≡ n) × Known (p + q) i j

  in_either : (b : Bool) (p q : Pattern) (i j : ℕ) → SpansBy Known K (or_rule b p q) i j → ((b ≡ true) × SpansBy Known K p i j) ⊎ SpansBy Known K q i j
  in_either true p q i j (inl h) = inl (refl, h)
  in_either true p q i j (inr h) = inr h
  in_either false p q i j h = inr h

  later : (x : WrittenRule) (rest : List WrittenRule) (p : ℕ) (n : List ℕ) (i j : ℕ) → Named rest (suc p) n i j → Named (x ∷ rest) p n i j
  later x rest p n i j y = let P : ℕ → Type 0 = λ k. Known k i j in (suc y.0, y.1, y.2, y.3, subst P (omega arith) y.4)

  named_sound : (rest : List WrittenRule) (p : ℕ) (n : List ℕ) (i j : ℕ) → SpansBy Known K (named_from p rest n) i j → Named rest p n i j
  named_sound [] p n i j h = absurd h
  named_sound (WrittenRule.parser_rule x ∷ rest) p n i j h = later (WrittenRule.parser_rule x) rest p n i j (named_sound rest (suc p) n i j h)
  named_sound (WrittenRule.lexer_rule x ∷ rest) p n i j h =
      go (in_either (same_text x.name n) (Pattern.rule p) (named_from (suc p) rest n) i j h) (λ s. named_sound rest (suc p) n i j s)
    where
      go : ((same_text x.name n ≡ true) × Known p i j) ⊎ SpansBy Known K (named_from (suc p) rest n) i j
          → (SpansBy Known K (named_from (suc p) rest n) i j → Named rest (suc p) n i j) → Named (WrittenRule.lexer_rule x ∷ rest) p n i j
      go (inl (e, k)) f = let P : ℕ → Type 0 = λ m. Known m i j in (0, x, refl, (bytes_eq-Decides x.name n).0 e, subst P (omega arith) k)
      go (inr s) f = later (WrittenRule.lexer_rule x) rest p n i j (f s)

  of_either : (b : Bool) (p q : Pattern) (i j : ℕ) → Spans B K q i j → Spans B K (or_rule b p q) i j
  of_either true p q i j h = Spans.by_right p q i j h
  of_either false p q i j h = h

  of_first : (b : Bool) (p q : Pattern) (i j : ℕ) → b ≡ true → Spans B K p i j → Spans B K (or_rule b p q) i j
  of_first true p q i j e h = Spans.by_left p q i j h
  of_first false p q i j e h = absurd (cc)

  named_complete : (rest : List WrittenRule) (p : ℕ) (n : List ℕ) (i j q : ℕ) (rule : LexerRule) → slice_get rest q ≡ Some (WrittenRule.lexer_rule rule)
      → rule.name ≡ n →
      Spans B K (Pattern.rule (p + q)) i j → Spans B K (named_from p rest n) i j
  named_complete [] p n i j q rule e d h = absurd (cc)
  named_complete (WrittenRule.parser_rule x ∷ rest) p n i j zero rule e d h = absurd (cc)
  named_complete (WrittenRule.parser_rule x ∷ rest) p n i j (suc q) rule e d h =
      let P : ℕ → Type 0 = λ k. Spans B K (Pattern.rule k) i j in named_complete rest (suc p) n i j q rule e d (subst P (omega arith) h)
  named_complete (WrittenRule.lexer_rule x ∷ rest) p n i j zero rule e d h =
      let same : x ≡ rule = cc in
      let P : ℕ → Type 0 = λ k. Spans B K (Pattern.rule k) i j in
      of_first (same_text x.name n) (Pattern.rule p) (named_from (suc p) rest n) i j ((bytes_eq-Decides x.name n).1 (ap (λ (r : LexerRule). r.name) same ∙ d))
      (subst P (omega arith) h)
  named_complete (WrittenRule.lexer_rule x ∷ rest) p n i j (suc q) rule e d h =
      let P : ℕ → Type 0 = λ k. Spans B K (Pattern.rule k) i j in
      of_either (same_text x.name n) (Pattern.rule p) (named_from (suc p) rest n) i j (named_complete rest (suc p) n i j q rule e d (subst P (omega arith) h))

  abbrev Matched : LexerTerm → ℕ → ℕ → Type 0
  Matched t i j = (w : List ℕ) × Reads K i j w × Matches G t w

  -- the term once, and then any number of times
  abbrev Repeated : LexerTerm → ℕ → ℕ → Type 0
  Repeated t i j = (u : List ℕ) × (v : List ℕ) × Reads K i j (u ++ v) × Matches G t u × MatchesMany G t v

  repeated : (t : LexerTerm) (R : ℕ → ℕ → Type 0) → ((i j : ℕ) → R i j → Matched t i j) → (i j : ℕ) → Many R i j → Repeated t i j
  repeated t R f i j (Many.last a b r) = let x = f i j r in (x.0, [], join K i j j x.0 [] x.1 refl, x.2, MatchesMany.by_end t)
  repeated t R f i j (Many.more a m b r rest) =
      let x = f i m r in let y = repeated t R f m j rest in (x.0, y.0 ++ y.1, join K i m j x.0 (y.0 ++ y.1) x.1 y.2, x.2, MatchesMany.by_more t y.0 y.1 y.3 y.4)

  any_number : (t : LexerTerm) (i j : ℕ) → (i ≡ j) ⊎ Repeated t i j → (w : List ℕ) × Reads K i j w × MatchesMany G t w
  any_number t i j (inl e) = ([], e, MatchesMany.by_end t)
  any_number t i j (inr (u, v, h, m, more)) = (u ++ v, h, MatchesMany.by_more t u v m more)

  set_sound : (s : List (ℕ × ℕ)) (i j : ℕ) → SpansBy Known K (Pattern.one s) i j → Matched (LexerTerm.set s) i j
  set_sound s i j (k, g, h, e) = (k ∷ [], (g, e), Matches.by_set s k h)

  named_matched : (n : List ℕ) (i j : ℕ) → Named rules 0 n i j → Matched (LexerTerm.name n) i j
  named_matched n i j (q, rule, at, e, (w, r, (other, at', m))) =
      let zero : 0 + q ≡ q = omega arith in
      let at'' : slice_get rules q ≡ Some (WrittenRule.lexer_rule other) = ap (slice_get rules) (sym zero) ∙ at' in
      let same : other ≡ rule = cc in
      (w, r, Matches.by_name n other w (contains_at rules q other at'') (ap (λ (r : LexerRule). r.name) same ∙ e) m)

  mutual
    pub sound : (t : LexerTerm) (i j : ℕ) → SpansBy Known K (spelled rules t) i j → Matched t i j
    sound (LexerTerm.literal t) i j h = (t, text_sound t i j h, Matches.by_literal t)
    sound (LexerTerm.set s) i j h = set_sound s i j h
    sound (LexerTerm.name n) i j h = named_matched n i j (named_sound rules 0 n i j h)
    sound (LexerTerm.block a) i j h = let x = sound_alts a i j h in (x.0, x.1, Matches.by_block a x.0 x.2)
    sound (LexerTerm.opt t) i j (inl e) = ([], e, Matches.by_absent t)
    sound (LexerTerm.opt t) i j (inr h) = let x = sound t i j h in (x.0, x.1, Matches.by_present t x.0 x.2)
    sound (LexerTerm.star t) i j (inl e) = ([], e, Matches.by_star t [] (MatchesMany.by_end t))
    sound (LexerTerm.star t) i j (inr h) =
        let x = any_number t i j (inr (repeated t (SpansBy Known K (spelled rules t)) (λ a b. sound t a b) i j h)) in (x.0, x.1, Matches.by_star t x.0 x.2)
    sound (LexerTerm.plus t) i j h =
        let x = repeated t (SpansBy Known K (spelled rules t)) (λ a b. sound t a b) i j h in (x.0 ++ x.1, x.2, Matches.by_plus t x.0 x.1 x.3 x.4)
    sound (LexerTerm.short s) i j (inl e) = ([], e, Matches.by_short s [] (MatchesMany.by_end (LexerTerm.set s)))
    sound (LexerTerm.short s) i j (inr h) =
        let x =
        any_number (LexerTerm.set s) i j (inr (repeated (LexerTerm.set s) (SpansBy Known K (Pattern.one s)) (set_sound s) i j h)) in
        (x.0, x.1, Matches.by_short s x.0 x.2)

    pub sound_seq : (s : LexerSeq) (i j : ℕ) → SpansBy Known K (spelled_seq rules s) i j → (w : List ℕ) × Reads K i j w × MatchesSeq G s w
    sound_seq LexerSeq.done i j e = ([], e, MatchesSeq.by_done)
    sound_seq (LexerSeq.next t s) i j (m, h, k) =
        let x = sound t i m h in let y = sound_seq s m j k in (x.0 ++ y.0, join K i m j x.0 y.0 x.1 y.1, MatchesSeq.by_next t s x.0 y.0 x.2 y.2)

    pub sound_alts : (a : LexerAlts) (i j : ℕ) → SpansBy Known K (spelled_alts rules a) i j → (w : List ℕ) × Reads K i j w × MatchesAlts G a w
    sound_alts LexerAlts.none i j h = absurd h
    sound_alts (LexerAlts.or s a) i j (inl h) = let x = sound_seq s i j h in (x.0, x.1, MatchesAlts.by_first s a x.0 x.2)
    sound_alts (LexerAlts.or s a) i j (inr h) = let x = sound_alts a i j h in (x.0, x.1, MatchesAlts.by_later s a x.0 x.2)

  body_at : (r : ℕ) (rule : LexerRule) → slice_get rules r ≡ Some (WrittenRule.lexer_rule rule) → slice_get B r ≡ Some (spelled_alts rules rule.alts)
  body_at r rule e = slice_get-map (spelled_rule rules) rules r ∙ ap (option_map (spelled_rule rules)) e

  closed : (r : ℕ) (p : Pattern) (i j : ℕ) → i ≤ length K → slice_get B r ≡ Some p → SpansBy Known K p i j → Known r i j
  closed r p i j within at h = go (slice_get rules r) refl
    where
      go : (o : Option WrittenRule) → slice_get rules r ≡ o → Known r i j
      go None e = let none : slice_get B r ≡ None = slice_get-map (spelled_rule rules) rules r ∙ ap (option_map (spelled_rule rules)) e in absurd (cc)
      go (Some (WrittenRule.parser_rule x)) e =
          let is : slice_get B r ≡ Some Pattern.never = slice_get-map (spelled_rule rules) rules r ∙ ap (option_map (spelled_rule rules)) e in
          let same : p ≡ Pattern.never = cc in
          let P : Pattern → Type 0 = λ q. SpansBy Known K q i j in absurd (subst P same h)
      go (Some (WrittenRule.lexer_rule x)) e =
          let is = body_at r x e in
          let same : p ≡ spelled_alts rules x.alts = cc in
          let P : Pattern → Type 0 = λ q. SpansBy Known K q i j in
          let y = sound_alts x.alts i j (subst P same h) in (y.0, y.1, (x, e, y.2))

  empty_spans : (i j : ℕ) → i ≡ j → Spans B K Pattern.empty i j
  empty_spans i j e = let P : ℕ → Type 0 = λ n. Spans B K Pattern.empty i n in subst P e (Spans.by_empty i)

  maybe : (p : Pattern) (i j : ℕ) → (i ≡ j) ⊎ Spans B K p i j → Spans B K (Pattern.alt Pattern.empty p) i j
  maybe p i j (inl e) = Spans.by_left Pattern.empty p i j (empty_spans i j e)
  maybe p i j (inr h) = Spans.by_right Pattern.empty p i j h

  and_more : (p : Pattern) (i m j : ℕ) → Spans B K p i m → (m ≡ j) ⊎ Spans B K (Pattern.plus p) m j → Spans B K (Pattern.plus p) i j
  and_more p i m j h (inl e) = let P : ℕ → Type 0 = λ n. Spans B K p i n in Spans.by_last p i j (subst P e h)
  and_more p i m j h (inr k) = Spans.by_more p i m j h k

  mutual
    pub complete : {t : LexerTerm} {w : List ℕ} → Matches G t w → (i j : ℕ) → Reads K i j w → Spans B K (spelled rules t) i j
    complete (Matches.by_literal text) i j r = text_complete text i j r
    complete (Matches.by_set s c h) i j (g, e) = let P : ℕ → Type 0 = λ n. Spans B K (Pattern.one s) i n in subst P e (Spans.by_one s c i g h)
    complete (Matches.by_name n rule w c e m) i j r =
        let x = at_of_contains G rule c in
        let y = lexer_place rules x.0 rule x.1 in
        let P : ℕ → Type 0 = λ k. Spans B K (Pattern.rule k) i j in
        named_complete rules 0 n i j y.0 rule y.1 e
        (subst P (omega arith) (Spans.by_rule y.0 (spelled_alts rules rule.alts) i j (body_at y.0 rule y.1) (complete_alts m i j r)))
    complete (Matches.by_block a w m) i j r = complete_alts m i j r
    complete (Matches.by_absent t) i j e = maybe (spelled rules t) i j (inl e)
    complete (Matches.by_present t w m) i j r = maybe (spelled rules t) i j (inr (complete m i j r))
    complete (Matches.by_star t w m) i j r = maybe (Pattern.plus (spelled rules t)) i j (complete_many m i j r)
    complete (Matches.by_plus t u v m more) i j r =
        let x = cut K i j u v r in and_more (spelled rules t) i x.0 j (complete m i x.0 x.1) (complete_many more x.0 j x.2)
    complete (Matches.by_short s w m) i j r = maybe (Pattern.plus (Pattern.one s)) i j (complete_many m i j r)

    complete_many : {t : LexerTerm} {w : List ℕ} → MatchesMany G t w → (i j : ℕ) → Reads K i j w → (i ≡ j) ⊎ Spans B K (Pattern.plus (spelled rules t)) i j
    complete_many (MatchesMany.by_end t) i j e = inl e
    complete_many (MatchesMany.by_more t u v m more) i j r =
        let x = cut K i j u v r in inr (and_more (spelled rules t) i x.0 j (complete m i x.0 x.1) (complete_many more x.0 j x.2))

    pub complete_seq : {s : LexerSeq} {w : List ℕ} → MatchesSeq G s w → (i j : ℕ) → Reads K i j w → Spans B K (spelled_seq rules s) i j
    complete_seq MatchesSeq.by_done i j e = empty_spans i j e
    complete_seq (MatchesSeq.by_next t s u v m more) i j r =
        let x = cut K i j u v r in Spans.by_seq (spelled rules t) (spelled_seq rules s) i x.0 j (complete m i x.0 x.1) (complete_seq more x.0 j x.2)

    pub complete_alts : {a : LexerAlts} {w : List ℕ} → MatchesAlts G a w → (i j : ℕ) → Reads K i j w → Spans B K (spelled_alts rules a) i j
    complete_alts (MatchesAlts.by_first s a w m) i j r = Spans.by_left (spelled_seq rules s) (spelled_alts rules a) i j (complete_seq m i j r)
    complete_alts (MatchesAlts.by_later s a w m) i j r = Spans.by_right (spelled_seq rules s) (spelled_alts rules a) i j (complete_alts m i j r)

  -- where the rows are exact, a term spans what it matches, and a sequence too
  module _ (rows : List Row) (exact : IsExact rows B K (length K + 1)) where
    pub term_meaning : (t : LexerTerm) (j : ℕ) → SpansBy (rows_known rows) K (spelled rules t) 0 j ↔ Matched t 0 j
    term_meaning t j = (
      λ h. sound t 0 j (spans_of B K Known closed ((exact_ends B K rows exact (spelled rules t) 0 j (omega arith)).0 h) (omega arith)).1,
      λ (w, r, m). (exact_ends B K rows exact (spelled rules t) 0 j (omega arith)).1 (complete m 0 j r),
    )

    pub seq_meaning : (s : LexerSeq) (j : ℕ) → SpansBy (rows_known rows) K (spelled_seq rules s) 0 j ↔ ((w : List ℕ) × Reads K 0 j w × MatchesSeq G s w)
    seq_meaning s j = (
      λ h. sound_seq s 0 j (spans_of B K Known closed ((exact_ends B K rows exact (spelled_seq rules s) 0 j (omega arith)).0 h) (omega arith)).1,
      λ (w, r, m). (exact_ends B K rows exact (spelled_seq rules s) 0 j (omega arith)).1 (complete_seq m 0 j r),
    )
