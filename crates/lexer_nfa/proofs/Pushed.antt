-- One more alternative of an NFA.
use Rattle.std.proofs.Common.{◌≡◌, ◌<◌, ◌≤◌, ◌+◌, ◌⊎◌, inl, inr, ◌↔◌, ℕ, zero, suc, Bool, true, false, map, take, List, [], ◌∷◌, ◌++◌, Some}
use Rattle.std.proofs.Common.{None, slice_get, slice_index_or, length, refl, sym, ap, ◌∙◌, subst, arith, true≢false}
use Rattle.std.specs.List.{Contains}
use Rattle.std.proofs.lemmas.List.{append-nil}
use Rattle.std.proofs.lemmas.List.Elements.{Contains-push, Contains-push_cases, Contains-append_left}
use Rattle.grammar_tree.specs.Written.{LexerTerm, LexerSeq, LexerAlts, LexerRule, WrittenRule, WrittenGrammar, lexer_seq, lexer_alts}
use Rattle.grammar_tree.specs.Matches.{MatchesSeq, MatchesAlternative, MatchesRule, is_short}
use Rattle.grammar_tree.proofs.Lent as forms
use Rattle.grammar_tree.specs.View.{lex_terms, lex_alts}
use Rattle.grammar_tree.specs.declared.lex_term.LexAlts.{LexAlts, out-LexAlts}
use Rattle.grammar_tree.specs.declared.lex_term.LexTerms.{LexTerms}
use Rattle.lexer_match.specs.declared.nfa.State.{State}
use Rattle.lexer_match.specs.declared.alternative.Alternative.{Alternative}
use Rattle.lexer_match.specs.Nfa.{Reads, GoesBelow, IsClosed, after}
use Rattle.lexer_match.specs.Reading.{IsRead}
use Rattle.lexer_nfa.specs.inner.Compile.{HaveSame, IsCompiled}
use Rattle.lexer_match.specs.Alternatives.{HasAlternative, IsNfa}
use Rattle.grammar_tree.specs.Written.{TokenKind}
use Rattle.grammar_tree.specs.Kinds.{kinds_of, lexer_rules}
use Rattle.grammar_tree.specs.Lexes.{KindMatches, SourceMatches}
use Rattle.grammar_tree.specs.GrammarView.{kind_of, source_of}
use Rattle.grammar_tree.specs.declared.rule.KindSource.{KindSource}
use Rattle.grammar_tree.specs.declared.rule.Kind.{Kind}
use Rattle.std.specs.Option.{option_map}
use Rattle.std.proofs.lemmas.Bool.{cases_lt}
use Rattle.std.proofs.lemmas.Option.{slice_get-map, slice_get_read}
use Rattle.lexer_match.proofs.Lent.{get_within, after_inside}
use Rattle.lexer_nfa.proofs.Terms.{alts_out, take_all, take_at}

-- what a closed NFA reads stays the same where states come after it
reads_more : (P Q : List State) → HaveSame Q P 0 (length P) → {n : ℕ} {w : List ℕ} → Reads P n w → Reads Q n w
reads_more P Q same Reads.at_end = Reads.at_end
reads_more P Q same (Reads.by_char n next state c w at step more) =
    Reads.by_char n next state c w (same n (omega arith) (get_within P state n at) ∙ at) step (reads_more P Q same more)
reads_more P Q same (Reads.by_split n first second next w at which more) =
    Reads.by_split n first second next w (same n (omega arith) (get_within P (State.Split first second) n at) ∙ at) which (reads_more P Q same more)

reads_less : (P Q : List State) → IsClosed P → HaveSame Q P 0 (length P) → {n : ℕ} {w : List ℕ} → Reads Q n w → n < length P → Reads P n w
reads_less P Q closed same Reads.at_end h = Reads.at_end
reads_less P Q closed same (Reads.by_char n next state c w at step more) h =
    let here : slice_get P n ≡ Some state = sym (same n (omega arith) h) ∙ at in
    Reads.by_char n next state c w here step (reads_less P Q closed same more (after_inside (length P) state c next (closed n state here) step))
reads_less P Q closed same (Reads.by_split n first second next w at which more) h =
    let here : slice_get P n ≡ Some (State.Split first second) = sym (same n (omega arith) h) ∙ at in
    let below = closed n (State.Split first second) here in
    Reads.by_split n first second next w here which (reads_less P Q closed same more (pick below which))
  where
    pick : (first < length P) × (second < length P) → (next ≡ first) ⊎ (next ≡ second) → next < length P
    pick b (inl e) = omega (arith, b.0, e)
    pick b (inr e) = omega (arith, b.1, e)

-- from the end nothing more is read
end_only : (P : List State) → slice_get P 0 ≡ Some State.Never → {n : ℕ} {w : List ℕ} → Reads P n w → n ≡ 0 → w ≡ []
end_only P e Reads.at_end z = refl
end_only P e (Reads.by_char n next state c w at step more) z =
    let k : Some State.Never ≡ Some state = sym e ∙ ap (λ x. slice_get P x) (sym z) ∙ at in
    let is : State.Never ≡ state = cc in
    let bad : None ≡ Some next = ap (λ x. after x c) is ∙ step in absurd (cc)
end_only P e (Reads.by_split n first second next w at which more) z =
    let k : Some State.Never ≡ Some (State.Split first second) = sym e ∙ ap (λ x. slice_get P x) (sym z) ∙ at in absurd (cc)

pub some_state : (P : List State) (before : List Alternative) → IsNfa P before → 0 < length P
some_state P before nfa = get_within P State.Never 0 nfa.ends

module _ (Language : List ℕ → Type 0) (P Q : List State) (before : List Alternative) (nfa : IsNfa P before) (entry : ℕ)
    (added : IsCompiled Language P Q entry 0) (kind : ℕ) (short : Bool) where
  abbrev pub pushed : Alternative
  pushed = record { kind = kind; short = short; start = entry }

  some : 0 < length P
  some = get_within P State.Never 0 nfa.ends

  ends : slice_get Q 0 ≡ Some State.Never
  ends = added.kept 0 (omega arith) some ∙ nfa.ends

  entry_reads : (w : List ℕ) → Reads Q entry w ↔ Language w
  entry_reads w =
      let same = added.means Q (λ n low high. refl) w in
      let R : List ℕ → Type 0 = Language in (
        λ r. let (u, v, e, l, q) = same.0 r in subst R (sym (append-nil u) ∙ ap (λ x. u ++ x) (sym (end_only Q ends q refl)) ∙ sym e) l,
        λ l. same.1 (w, [], sym (append-nil w), l, Reads.at_end),
      )

  -- what the new alternative matches
  abbrev pub Shortest : List ℕ → Type 0
  Shortest w = Language w × (short ≡ true → (u v : List ℕ) → w ≡ u ++ v → Language u → v ≡ [])

  new_read : (w : List ℕ) → IsRead Q pushed w ↔ Shortest w
  new_read w = (
    λ r. ((entry_reads w).0 r.reads, λ s u v e l. r.shortest s u v e ((entry_reads u).1 l)),
    λ (l, k). record { reads = (entry_reads w).1 l; shortest = λ s u v e r. k s u v e ((entry_reads u).0 r) },
  )

  old_read : (a : Alternative) (w : List ℕ) → a.start < length P → IsRead Q a w ↔ IsRead P a w
  old_read a w h = (
    λ r. record {
      reads = reads_less P Q nfa.closed added.kept r.reads h;
      shortest = λ s u v e q. r.shortest s u v e (reads_more P Q added.kept q);
    },
    λ r. record {
      reads = reads_more P Q added.kept r.reads;
      shortest = λ s u v e q. r.shortest s u v e (reads_less P Q nfa.closed added.kept q h);
    },
  )

  pub pushed_nfa : (after : List Alternative) → after ≡ before ++ pushed ∷ [] → IsNfa Q after
  pushed_nfa all e =
      record {
        closed = added.closed;
        ends = ends;
        inside = λ a c. let R : List Alternative → Type 0 = λ x. Contains x a in pick a (Contains-push_cases before pushed a (subst R e c));
      }
    where
      pick : (a : Alternative) → Contains before a ⊎ (pushed ≡ a) → a.start < length Q
      pick a (inl c) = omega (arith, nfa.inside a c, added.longer)
      pick a (inr same) = omega (arith, added.inside, ap (λ (x : Alternative). x.start) same)

  pub pushed_exact : (after : List Alternative) → after ≡ before ++ pushed ∷ [] → (k : ℕ) (w : List ℕ) → HasAlternative Q after k w
      ↔ (HasAlternative P before k w ⊎ ((k ≡ kind) × Shortest w))
  pushed_exact all e k w = (
    λ (a, c, n, r). let R : List Alternative → Type 0 = λ x. Contains x a in to a n r (Contains-push_cases before pushed a (subst R e c)),
    from,
  )
    where
      to : (a : Alternative) → a.kind ≡ k → IsRead Q a w → Contains before a ⊎ (pushed ≡ a) → HasAlternative P before k w ⊎ ((k ≡ kind) × Shortest w)
      to a n r (inl c) = inl (a, c, n, (old_read a w (nfa.inside a c)).0 r)
      to a n r (inr same) =
          let R : Alternative → Type 0 = λ x. IsRead Q x w in
          inr (sym n ∙ ap (λ (x : Alternative). x.kind) (sym same), (new_read w).0 (subst R (sym same) r))

      from : HasAlternative P before k w ⊎ ((k ≡ kind) × Shortest w) → HasAlternative Q all k w
      from (inl (a, c, n, r)) =
          let R : List Alternative → Type 0 = λ x. Contains x a in
          (a, subst R (sym e) (Contains-append_left before (pushed ∷ []) a c), n, (old_read a w (nfa.inside a c)).1 r)
      from (inr (n, s)) =
          let R : List Alternative → Type 0 = λ x. Contains x pushed in
          (pushed, subst R (sym e) (Contains-push before pushed), sym n, (new_read w).1 s)

-- what an alternative of a rule matches, and an implicit token
pub as_alternative : (G : List LexerRule) (s : LexerSeq) (kind k : ℕ) (short : Bool) (w : List ℕ) → short ≡ is_short s →
    ((k ≡ kind) × (MatchesSeq G s w × (short ≡ true → (u v : List ℕ) → w ≡ u ++ v → MatchesSeq G s u → v ≡ []))) ↔ ((k ≡ kind) × MatchesAlternative G s w)
as_alternative G s kind k short w e = (
  λ (n, (m, h)). (n, record { greedily = m; shortest = λ t. h (e ∙ t) }),
  λ (n, m). (n, (m.greedily, λ t. m.shortest (sym e ∙ t))),
)

pub as_literal : (cs text : List ℕ) (kind k : ℕ) (w : List ℕ) → cs ≡ text
    → ((k ≡ kind) × ((w ≡ cs) × (false ≡ true → (u v : List ℕ) → w ≡ u ++ v → u ≡ cs → v ≡ []))) ↔ ((k ≡ kind) × (w ≡ text))
as_literal cs text kind k w e = (λ (n, (m, h)). (n, m ∙ e), λ (n, m). (n, (m ∙ sym e, λ bad. absurd (true≢false (sym bad)))))

pub sum_right : {A B C D : Type 0} → A ↔ (B ⊎ C) → C ↔ D → A ↔ (B ⊎ D)
sum_right {A} {B} {C} {D} f g = (λ a. to (f.0 a), λ s. f.1 (from s))
  where
    to : B ⊎ C → B ⊎ D
    to (inl b) = inl b
    to (inr c) = inr (g.0 c)

    from : B ⊎ D → B ⊎ C
    from (inl b) = inl b
    from (inr d) = inr (g.1 d)

-- a rule with one alternative more after the others
rule_snoc : (G : List LexerRule) (ss : List (List LexerTerm)) (s : List LexerTerm) (w : List ℕ) → MatchesRule G (lexer_alts (ss ++ s ∷ [])) w
    ↔ (MatchesRule G (lexer_alts ss) w ⊎ MatchesAlternative G (lexer_seq s) w)
rule_snoc G [] s w = let same = (forms.rule_by_form G).or (lexer_seq s) LexerAlts.none w in (λ m. flip (same.0 m), λ m. same.1 (back m))
  where
    flip : MatchesAlternative G (lexer_seq s) w ⊎ MatchesRule G LexerAlts.none w → MatchesRule G LexerAlts.none w ⊎ MatchesAlternative G (lexer_seq s) w
    flip (inl m) = inr m
    flip (inr m) = inl m

    back : MatchesRule G LexerAlts.none w ⊎ MatchesAlternative G (lexer_seq s) w → MatchesAlternative G (lexer_seq s) w ⊎ MatchesRule G LexerAlts.none w
    back (inl m) = inr m
    back (inr m) = inl m
rule_snoc G (u ∷ ss) s w =
    let more = rule_snoc G ss s w in
    let whole = (forms.rule_by_form G).or (lexer_seq u) (lexer_alts (ss ++ s ∷ [])) w in
    let part = (forms.rule_by_form G).or (lexer_seq u) (lexer_alts ss) w in
    (λ m. to more.0 part.1 (whole.0 m), λ m. whole.1 (from more.1 part.0 m))
  where
    to : (MatchesRule G (lexer_alts (ss ++ s ∷ [])) w → MatchesRule G (lexer_alts ss) w ⊎ MatchesAlternative G (lexer_seq s) w)
        → (MatchesAlternative G (lexer_seq u) w ⊎ MatchesRule G (lexer_alts ss) w → MatchesRule G (lexer_alts (u ∷ ss)) w) →
        MatchesAlternative G (lexer_seq u) w ⊎ MatchesRule G (lexer_alts (ss ++ s ∷ [])) w → MatchesRule G (lexer_alts (u ∷ ss)) w
        ⊎ MatchesAlternative G (lexer_seq s) w
    to f g (inl m) = inl (g (inl m))
    to f g (inr m) = elim (f m) [ inl k ↦ inl (g (inr k)) | inr k ↦ inr k ]

    from : (MatchesRule G (lexer_alts ss) w ⊎ MatchesAlternative G (lexer_seq s) w → MatchesRule G (lexer_alts (ss ++ s ∷ [])) w)
        → (MatchesRule G (lexer_alts (u ∷ ss)) w → MatchesAlternative G (lexer_seq u) w ⊎ MatchesRule G (lexer_alts ss) w) →
        MatchesRule G (lexer_alts (u ∷ ss)) w ⊎ MatchesAlternative G (lexer_seq s) w → MatchesAlternative G (lexer_seq u) w
        ⊎ MatchesRule G (lexer_alts (ss ++ s ∷ [])) w
    from f g (inr m) = inr (f (inr m))
    from f g (inl m) = elim (g m) [ inl k ↦ inl k | inr k ↦ inr (f (inl k)) ]

pub rule_more : (G : List LexerRule) (A B C : Type 0) (xs : List LexTerms) (i kind k : ℕ) (x : LexTerms) (w : List ℕ) → i < length xs
    → x ≡ slice_index_or xs i x →
    B ↔ (A ⊎ ((k ≡ kind) × MatchesRule G (lexer_alts (map lex_terms (take i xs))) w)) →
    C ↔ (B ⊎ ((k ≡ kind) × MatchesAlternative G (lexer_seq (lex_terms x)) w)) →
    C ↔ (A ⊎ ((k ≡ kind) × MatchesRule G (lexer_alts (map lex_terms (take (i + 1) xs))) w))
rule_more G A B C xs i kind k x w h e f g =
    let Q : List (List LexerTerm) → Type 0 = λ l. C ↔ (A ⊎ ((k ≡ kind) × MatchesRule G (lexer_alts l) w)) in
    let R : ℕ → Type 0 = λ n. C ↔ (A ⊎ ((k ≡ kind) × MatchesRule G (lexer_alts (map lex_terms (take n xs))) w)) in
    let more : suc i ≡ i + 1 = omega arith in
    let joined = rule_snoc G (map lex_terms (take i xs)) (lex_terms x) w in
    subst R more (subst Q (sym (take_at G xs i x h (sym e))) (λ c. to joined.1 (g.0 c), λ s. g.1 (from joined.0 s)))
  where
    to : (MatchesRule G (lexer_alts (map lex_terms (take i xs))) w ⊎ MatchesAlternative G (lexer_seq (lex_terms x)) w
        → MatchesRule G (lexer_alts (map lex_terms (take i xs) ++ lex_terms x ∷ [])) w) →
        B ⊎ ((k ≡ kind) × MatchesAlternative G (lexer_seq (lex_terms x)) w) → A
        ⊎ ((k ≡ kind) × MatchesRule G (lexer_alts (map lex_terms (take i xs) ++ lex_terms x ∷ [])) w)
    to j (inr (n, m)) = inr (n, j (inr m))
    to j (inl b) = elim (f.0 b) [ inl a ↦ inl a | inr m ↦ inr (m.0, j (inl m.1)) ]

    from : (MatchesRule G (lexer_alts (map lex_terms (take i xs) ++ lex_terms x ∷ [])) w → MatchesRule G (lexer_alts (map lex_terms (take i xs))) w
        ⊎ MatchesAlternative G (lexer_seq (lex_terms x)) w) →
        A ⊎ ((k ≡ kind) × MatchesRule G (lexer_alts (map lex_terms (take i xs) ++ lex_terms x ∷ [])) w) → B
        ⊎ ((k ≡ kind) × MatchesAlternative G (lexer_seq (lex_terms x)) w)
    from j (inl a) = inl (f.1 (inl a))
    from j (inr (n, m)) = elim (j m) [ inl r ↦ inl (f.1 (inr (n, r))) | inr r ↦ inr (n, r) ]

pub rule_all : (G : List LexerRule) (A C : Type 0) (a : LexAlts) (i kind k : ℕ) (w : List ℕ) → length (out-LexAlts a).items.items ≤ i → C
    ↔ (A ⊎ ((k ≡ kind) × MatchesRule G (lexer_alts (map lex_terms (take i (out-LexAlts a).items.items))) w)) →
    C ↔ (A ⊎ ((k ≡ kind) × MatchesRule G (lexer_alts (lex_alts a)) w))
rule_all G A C a i kind k w h f =
    let Q : List (List LexerTerm) → Type 0 = λ l. C ↔ (A ⊎ ((k ≡ kind) × MatchesRule G (lexer_alts l) w)) in
    subst Q (ap (λ l. map lex_terms l) (take_all G (out-LexAlts a).items.items i h) ∙ sym (alts_out a)) f

-- what a source matches, by its form
pub source_implicit : (G : WrittenGrammar) (source : KindSource) (name w : List ℕ) → source ≡ KindSource.Implicit → (w ≡ name)
    ↔ SourceMatches G (source_of source) name w
source_implicit G source name w e = let Q : KindSource → Type 0 = λ x. (w ≡ name) ↔ SourceMatches G (source_of x) name w in subst Q (sym e) (λ h. h, λ h. h)

pub source_declared : (G : WrittenGrammar) (source : KindSource) (name w : List ℕ) → source ≡ KindSource.Declared → ¬ SourceMatches G (source_of source) name w
source_declared G source name w e = let Q : KindSource → Type 0 = λ x. ¬ SourceMatches G (source_of x) name w in subst Q (sym e) (λ h. h)

pub source_found : (G : WrittenGrammar) (source : KindSource) (place : ℕ) (name w : List ℕ) (alts : LexerAlts) → source ≡ KindSource.Written place
    → (rule : LexerRule) × (slice_get G.rules place ≡ Some (WrittenRule.lexer_rule rule)) × (rule.alts ≡ alts) →
    MatchesRule (lexer_rules G.rules) alts w ↔ SourceMatches G (source_of source) name w
source_found G source place name w alts e (rule, at, same) =
    let Q : KindSource → Type 0 = λ x. MatchesRule (lexer_rules G.rules) alts w ↔ SourceMatches G (source_of x) name w in
    let R : LexerAlts → Type 0 = λ x. MatchesRule (lexer_rules G.rules) x w in
    subst Q (sym e) (
      λ m. (rule, at, subst R (sym same) m),
      λ (other, there, m).
          let k : Some (WrittenRule.lexer_rule other) ≡ Some (WrittenRule.lexer_rule rule) = sym there ∙ at in
          let is : other ≡ rule = cc in subst R (ap (λ (r : LexerRule). r.alts) is ∙ same) m,
    )

pub source_missing : (G : WrittenGrammar) (source : KindSource) (place : ℕ) (name w : List ℕ) → source ≡ KindSource.Written place
    → ((rule : LexerRule) → ¬ (slice_get G.rules place ≡ Some (WrittenRule.lexer_rule rule))) → ¬ SourceMatches G (source_of source) name w
source_missing G source place name w e none =
    let Q : KindSource → Type 0 = λ x. ¬ SourceMatches G (source_of x) name w in subst Q (sym e) (λ (rule, at, m). none rule at)

pub with_none : {A B : Type 0} (k kind : ℕ) → ¬ B → A ↔ (A ⊎ ((k ≡ kind) × B))
with_none {A} {B} k kind none = (λ a. inl a, pick)
  where
    pick : A ⊎ ((k ≡ kind) × B) → A
    pick (inl a) = a
    pick (inr (e, b)) = absurd (none b)

pub with_same : {B C : Type 0} (k kind : ℕ) → B ↔ C → ((k ≡ kind) × B) ↔ ((k ≡ kind) × C)
with_same k kind f = (λ (e, b). (e, f.0 b), λ (e, c). (e, f.1 c))

-- no kind is there yet, and the next one is
pub start_nfa : (P : List State) (before : List Alternative) → P ≡ State.Never ∷ [] → before ≡ [] → IsNfa P before
start_nfa P before e f =
    let Q : List State → Type 0 = λ x. IsNfa x before in
    subst Q (sym e) (record { closed = one; ends = refl; inside = λ a (k, h, g). absurd (omega (arith, h, ap length f)) })
  where
    one : (n : ℕ) (state : State) → slice_get (State.Never ∷ []) n ≡ Some state → GoesBelow (length (State.Never ∷ [])) state
    one zero state e = let is : State.Never ≡ state = cc in let Q : State → Type 0 = λ x. GoesBelow (length (State.Never ∷ [])) x in subst Q is tt
    one (suc n) state e = absurd (cc)

pub kinds_none : (G : WrittenGrammar) (P : List State) (before : List Alternative) (k : ℕ) (w : List ℕ) → before ≡ [] → HasAlternative P before k w
    ↔ ((k < 0) × KindMatches G k w)
kinds_none G P before k w e = (λ (a, (j, h, g), n, r). absurd (omega (arith, h, ap length e)), λ (h, m). absurd (omega (arith, h)))

kind_at : (G : WrittenGrammar) (kinds : List Kind) (i : ℕ) (kind : Kind) (w : List ℕ) → kinds_of G ≡ map kind_of kinds → i < length kinds
    → kind ≡ slice_index_or kinds i kind → KindMatches G i w ↔ SourceMatches G (source_of kind.source) kind.name w
kind_at G kinds i kind w e h g = (
  λ (other, there, m).
      let k : Some other ≡ Some (kind_of kind) = sym there ∙ at in
      let is : other ≡ kind_of kind = cc in
      let Q : TokenKind → Type 0 = λ x. SourceMatches G x.source x.name w in subst Q is m,
  λ m. (kind_of kind, at, m),
)
  where
    at : slice_get (kinds_of G) i ≡ Some (kind_of kind)
    at = ap (λ l. slice_get l i) e ∙ slice_get-map kind_of kinds i ∙ ap (λ x. option_map kind_of x) (slice_get_read kinds (length kinds) i kind refl h g)

pub kinds_more : (G : WrittenGrammar) (B C : Type 0) (kinds : List Kind) (i k : ℕ) (kind : Kind) (w : List ℕ) → kinds_of G ≡ map kind_of kinds
    → i < length kinds → kind ≡ slice_index_or kinds i kind →
    B ↔ ((k < i) × KindMatches G k w) → C ↔ (B ⊎ ((k ≡ i) × SourceMatches G (source_of kind.source) kind.name w)) → C ↔ ((k < i + 1) × KindMatches G k w)
kinds_more G B C kinds i k kind w e h g f more = (λ c. to (more.0 c), λ (l, m). more.1 (from l m (cases_lt k i)))
  where
    at : KindMatches G i w ↔ SourceMatches G (source_of kind.source) kind.name w
    at = kind_at G kinds i kind w e h g

    to : B ⊎ ((k ≡ i) × SourceMatches G (source_of kind.source) kind.name w) → (k < i + 1) × KindMatches G k w
    to (inl b) = let (l, m) = f.0 b in (omega (arith, l), m)
    to (inr (n, m)) = let Q : ℕ → Type 0 = λ x. KindMatches G x w in (omega (arith, n), subst Q (sym n) (at.1 m))

    from : k < i + 1 → KindMatches G k w → (k < i) ⊎ (i ≤ k) → B ⊎ ((k ≡ i) × SourceMatches G (source_of kind.source) kind.name w)
    from l m (inl below) = inl (f.1 (below, m))
    from l m (inr above) =
        let n : k ≡ i = omega (arith, l, above) in
        let Q : ℕ → Type 0 = λ x. KindMatches G x w in inr (n, at.0 (subst Q n m))

pub kinds_all : (G : WrittenGrammar) (C : Type 0) (kinds : List Kind) (i k : ℕ) (w : List ℕ) → kinds_of G ≡ map kind_of kinds → length kinds ≤ i → C
    ↔ ((k < i) × KindMatches G k w) → C ↔ KindMatches G k w
kinds_all G C kinds i k w e h f = (λ c. (f.0 c).1, λ m. f.1 (within m, m))
  where
    size : (xs : List Kind) → length (map kind_of xs) ≡ length xs
    size [] = refl
    size (x ∷ xs) = omega (arith, size xs)

    within : KindMatches G k w → k < i
    within (kind, at, m) = omega (arith, get_within (kinds_of G) kind k at, ap length e, size kinds, h)

-- the rule at an index of a grammar with these rules
pub moved_rule : (G : WrittenGrammar) (R : List WrittenRule) (source : KindSource) (index : ℕ) (name w : List ℕ) (alts : LexerAlts)
    → source ≡ KindSource.Written index → G.rules ≡ R →
    (rule : LexerRule) × (slice_get R index ≡ Some (WrittenRule.lexer_rule rule)) × (rule.alts ≡ alts) → MatchesRule (lexer_rules R) alts w
    ↔ SourceMatches G (source_of source) name w
moved_rule G R source index name w alts e f (rule, at, same) =
    let P : List WrittenRule → Type 0 = λ x. MatchesRule (lexer_rules x) alts w ↔ SourceMatches G (source_of source) name w in
    subst P f (source_found G source index name w alts e (rule, ap (λ x. slice_get x index) f ∙ at, same))

pub moved_missing : (G : WrittenGrammar) (R : List WrittenRule) (source : KindSource) (index : ℕ) (name w : List ℕ) → source ≡ KindSource.Written index
    → G.rules ≡ R → ((rule : LexerRule) → ¬ (slice_get R index ≡ Some (WrittenRule.lexer_rule rule))) → ¬ SourceMatches G (source_of source) name w
moved_missing G R source index name w e f none = source_missing G source index name w e (λ rule at. none rule (ap (λ x. slice_get x index) (sym f) ∙ at))

pub mapped_len : {X Y : Type 0} (f : X → Y) (xs : List X) → length (map f xs) ≡ length xs
mapped_len f [] = refl
mapped_len f (x ∷ xs) = omega (arith, mapped_len f xs)
