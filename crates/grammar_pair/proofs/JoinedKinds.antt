-- The kinds of a joined grammar, and how it lexes.
use Rattle.std.proofs.Common.{◌≡◌, ◌≢◌, ◌⊎◌, inl, inr, ℕ, zero, suc, ◌+◌, Bool, false, not, cond, List, [], ◌∷◌, ◌++◌}
use Rattle.std.proofs.Common.{Option, Some, None, length, refl, ap, sym, subst, ◌∙◌, arith, append-nil}
use Rattle.std.specs.Prelude.{map, filter, find, is_none, slice_get}
use Rattle.std.specs.List.{Contains, filter_map, flat_map}
use Rattle.std.specs.Option.{option_map_or}
use Rattle.std.proofs.lemmas.Bool.{cases_Bool}
use Rattle.std.proofs.lemmas.List.Elements.{filter_map-append, Contains-append_cases}
use Rattle.std.proofs.lemmas.Option.{same_Some}
use Rattle.grammar_tree.proofs.Lent.{contains_cases, contains_none}
use Rattle.grammar_tree.specs.Written.{LexerRule, ParserRule, Source, TokenKind, WrittenGrammar, WrittenRule}
use Rattle.grammar_tree.specs.Kinds.{as_lexer_rule, as_literal, as_parser_rule, declared_kind, declared_names, distinct, implicit_kind}
use Rattle.grammar_tree.specs.Kinds.{implicit_literals, is_named_by, kinds_of, lexer_rules, parser_rules, references, same_text, written_kinds}
use Rattle.grammar_tree.specs.Lexes.{IsNext, KindMatches, LexesTo, Piece, SourceMatches, StopsAt, is_gap_kind, tokens_of}
use Rattle.grammar_tree.specs.Matches.{MatchesRule}
use Rattle.grammar_pair.specs.Joined.{HasNoImplicitKind, LexesAs, first_implicit, joined, literals, token_rules, wrong_rules}

-- Lists.

pub nil_left : {A : Type 0} (xs ys : List A) → xs ++ ys ≡ [] → xs ≡ []
nil_left [] ys e = refl
nil_left (x ∷ xs) ys e = cc e

pub nil_right : {A : Type 0} (xs ys : List A) → xs ++ ys ≡ [] → ys ≡ []
nil_right [] ys e = e
nil_right (x ∷ xs) ys e = cc e

pub map_nil : {A B : Type 0} (f : A → B) (xs : List A) → map f xs ≡ [] → xs ≡ []
map_nil f [] e = refl
map_nil f (x ∷ xs) e = cc e

none_kept : {A : Type 0} (p q : A → Bool) (xs : List A) → filter p xs ≡ [] → filter p (filter q xs) ≡ []
none_kept p q [] e = refl
none_kept {A} p q (x ∷ xs) e = elim (cases_Bool (p x)) [
  | inl h ↦ let f : ◌≡◌ {A = List A} (x ∷ filter p xs) [] = sym (ap (λ b. cond b (x ∷ filter p xs) (filter p xs)) h) ∙ e in cc f
  | inr h ↦ let f : filter p xs ≡ [] = sym (ap (λ b. cond b (x ∷ filter p xs) (filter p xs)) h) ∙ e in
      elim (cases_Bool (q x)) [
        | inl k ↦ ap (λ b. filter p (cond b (x ∷ filter q xs) (filter q xs))) k ∙ ap (λ b. cond b (x ∷ filter p (filter q xs)) (filter p (filter q xs))) h
            ∙ none_kept p q xs f
        | inr k ↦ ap (λ b. filter p (cond b (x ∷ filter q xs) (filter q xs))) k ∙ none_kept p q xs f
      ]
]

-- none of the texts passes, so none of them, each once, does
pub none_distinct : (p : List ℕ → Bool) (ts : List (List ℕ)) → find p ts ≡ None → filter p (distinct ts) ≡ []
none_distinct p [] e = refl
none_distinct p (t ∷ ts) e = elim (cases_Bool (p t)) [
  | inl h ↦ let f : ◌≡◌ {A = Option (List ℕ)} (Some t) None = sym (ap (λ b. cond b (Some t) (find p ts)) h) ∙ e in cc f
  | inr h ↦ let f : find p ts ≡ None = sym (ap (λ b. cond b (Some t) (find p ts)) h) ∙ e in
      ap (λ b. cond b (t ∷ filter p (filter (λ u. not (same_text t u)) (distinct ts))) (filter p (filter (λ u. not (same_text t u)) (distinct ts)))) h
      ∙ none_kept p (λ u. not (same_text t u)) (distinct ts) (none_distinct p ts f)
]

-- A kind at another place.

abbrev pub moved_source : ℕ → Source → Source
moved_source n Source.implicit = Source.implicit
moved_source n (Source.written place) = Source.written (n + place)
moved_source n Source.declared = Source.declared

abbrev pub moved : ℕ → TokenKind → TokenKind
moved n kind = record { name = kind.name; gap = kind.gap; source = moved_source n kind.source }

kinds_moved : (n place : ℕ) (rules : List WrittenRule) → written_kinds (n + place) rules ≡ map (moved n) (written_kinds place rules)
kinds_moved n place [] = refl
kinds_moved n place (WrittenRule.parser_rule r ∷ rules) = let next : suc (n + place) ≡ n + suc place =
    omega arith in ap (λ k. written_kinds k rules) next ∙ kinds_moved n (suc place) rules
kinds_moved n place (WrittenRule.lexer_rule r ∷ rules) =
    let up : suc (n + place) ≡ n + suc place = omega arith in
    let next : written_kinds (suc (n + place)) rules ≡ map (moved n) (written_kinds (suc place) rules) =
    ap (λ k. written_kinds k rules) up ∙ kinds_moved n (suc place) rules in
    elim (cases_Bool r.fragment) [
      | inl f ↦ rw f next
      | inr f ↦ rw f (ap (λ ks. record { name = r.name; gap = r.gap; source = Source.written (n + place) } ∷ ks) next)
    ]

-- Parser rules make no kinds.
after_parser : (place : ℕ) (xs ys : List WrittenRule) → lexer_rules xs ≡ [] → written_kinds place (xs ++ ys) ≡ written_kinds (length xs + place) ys
after_parser place [] ys e = ap (λ k. written_kinds k ys) (omega arith)
after_parser place (WrittenRule.parser_rule r ∷ xs) ys e = after_parser (suc place) xs ys e ∙ ap (λ k. written_kinds k ys) (omega arith)
after_parser place (WrittenRule.lexer_rule r ∷ xs) ys e = cc e

past_front : (xs ys : List WrittenRule) (i : ℕ) → slice_get (xs ++ ys) (length xs + i) ≡ slice_get ys i
past_front [] ys i = let e : 0 + i ≡ i = omega arith in ap (slice_get ys) e
past_front (x ∷ xs) ys i = let e : suc (length xs) + i ≡ suc (length xs + i) = omega arith in ap (slice_get (x ∷ (xs ++ ys))) e ∙ past_front xs ys i

written_some : (n place : ℕ) (rules : List WrittenRule) (kind : TokenKind) → Contains (map (moved n) (written_kinds place rules)) kind
    → kind.source ≢ Source.implicit
written_some n place [] kind c e = contains_none kind c
written_some n place (WrittenRule.parser_rule r ∷ rules) kind c e = written_some n (suc place) rules kind c e
written_some n place (WrittenRule.lexer_rule r ∷ rules) kind c e = elim (cases_Bool r.fragment) [
  | inl f ↦ written_some n (suc place) rules kind (rw f at c) e
  | inr f ↦ elim (contains_cases (record { name = r.name; gap = r.gap; source = Source.written (n + place) })
      (map (moved n) (written_kinds (suc place) rules)) kind (rw f at c)) [
        | inl same ↦ let source : Source.written (n + place) ≡ Source.implicit = ap (λ (k : TokenKind). k.source) same ∙ e in cc source
        | inr later ↦ written_some n (suc place) rules kind later e
      ]
]

declared_some : (names : List (List ℕ)) (kind : TokenKind) → Contains (map declared_kind names) kind → kind.source ≢ Source.implicit
declared_some [] kind c e = contains_none kind c
declared_some (n ∷ names) kind c e = elim (contains_cases (declared_kind n) (map declared_kind names) kind c) [
  | inl same ↦ let source : Source.declared ≡ Source.implicit = ap (λ (k : TokenKind). k.source) same ∙ e in cc source
  | inr later ↦ declared_some names kind later e
]

declared_same : (names : List (List ℕ)) → map (λ (k : TokenKind). k.name) (map declared_kind names) ≡ names
declared_same [] = refl
declared_same (n ∷ names) = ap (λ ns. n ∷ ns) (declared_same names)

written_names : (place : ℕ) (rules : List WrittenRule)
    → map (λ (k : TokenKind). k.name) (written_kinds place rules) ≡ map (λ (r : LexerRule). r.name)
    (filter (λ (r : LexerRule). not r.fragment) (lexer_rules rules))
written_names place [] = refl
written_names place (WrittenRule.parser_rule r ∷ rules) = written_names (suc place) rules
written_names place (WrittenRule.lexer_rule r ∷ rules) = elim (cases_Bool r.fragment) [
  | inl f ↦ rw f (written_names (suc place) rules)
  | inr f ↦ rw f (ap (λ ns. r.name ∷ ns) (written_names (suc place) rules))
]

-- Two grammars whose kinds match the same lex the same.
module _ (G H : WrittenGrammar) (to : (k : ℕ) (w : List ℕ) → KindMatches G k w → KindMatches H k w)
    (from : (k : ℕ) (w : List ℕ) → KindMatches H k w → KindMatches G k w) where
  is_next : (text : List ℕ) (kind : ℕ) (piece rest : List ℕ) → IsNext G text kind piece rest → IsNext H text kind piece rest
  is_next text kind piece rest n = record {
    cut = n.cut;
    some = n.some;
    matched = to kind piece n.matched;
    longest = λ other front back e m. n.longest other front back e (from other front m);
    least = λ other m. n.least other (from other piece m);
  }

  pub lexes_to : {text : List ℕ} {pieces : List Piece} {left : List ℕ} → LexesTo G text pieces left → LexesTo H text pieces left
  lexes_to (LexesTo.by_end text) = LexesTo.by_end text
  lexes_to (LexesTo.by_piece text kind piece rest left pieces n l) =
      LexesTo.by_piece text kind piece rest left pieces (is_next text kind piece rest n) (lexes_to l)

  pub stops_at : (text : List ℕ) (offset : ℕ) → StopsAt G text offset → StopsAt H text offset
  stops_at text offset s = record {
    pieces = s.pieces;
    before = s.before;
    left = s.left;
    lexed = lexes_to s.lexed;
    cut = s.cut;
    at = s.at;
    more = s.more;
    stuck = λ kind front back e some m. s.stuck kind front back e some (from kind front m);
  }

-- The two grammars, of which each has only rules of its own.
module _ (L P : WrittenGrammar) (own : wrong_rules L P ≡ []) where
  pub no_parser_rules : parser_rules L.rules ≡ []
  no_parser_rules =
      map_nil (λ (r : ParserRule). r.name) (parser_rules L.rules)
      (nil_left (map (λ (r : ParserRule). r.name) (parser_rules L.rules)) (map (λ (r : LexerRule). r.name) (lexer_rules P.rules)) own)

  pub no_lexer_rules : lexer_rules P.rules ≡ []
  no_lexer_rules =
      map_nil (λ (r : LexerRule). r.name) (lexer_rules P.rules)
      (nil_right (map (λ (r : ParserRule). r.name) (parser_rules L.rules)) (map (λ (r : LexerRule). r.name) (lexer_rules P.rules)) own)

  pub parser_rules_same : parser_rules (joined L P).rules ≡ parser_rules P.rules
  parser_rules_same =
      filter_map-append as_parser_rule P.rules L.rules ∙ ap (λ rs. parser_rules P.rules ++ rs) no_parser_rules ∙ append-nil (parser_rules P.rules)

  pub lexer_rules_same : lexer_rules (joined L P).rules ≡ lexer_rules L.rules
  lexer_rules_same = filter_map-append as_lexer_rule P.rules L.rules ∙ ap (λ rs. rs ++ lexer_rules L.rules) no_lexer_rules

  -- a lexer text has no literals of parser rules
  lexer_implicit : implicit_literals L.rules ≡ []
  lexer_implicit =
      ap (λ rs. filter (λ t. is_none (find (is_named_by t) L.rules)) (distinct (filter_map as_literal (flat_map (λ (r : ParserRule). references r.alts) rs))))
      no_parser_rules

  pub lexer_kinds : kinds_of L ≡ written_kinds 0 L.rules ++ map declared_kind (declared_names L)
  unfolding kinds_of
  lexer_kinds = ap (λ ts. map implicit_kind ts ++ (written_kinds 0 L.rules ++ map declared_kind (declared_names L))) lexer_implicit

  module _ (named : first_implicit (joined L P).rules ≡ None) where
    no_implicit : implicit_literals (joined L P).rules ≡ []
    no_implicit = none_distinct (λ t. is_none (find (is_named_by t) (joined L P).rules)) (literals (joined L P).rules) named

    pub joined_kinds : kinds_of (joined L P) ≡ map (moved (length P.rules)) (written_kinds 0 L.rules) ++ map declared_kind (declared_names (joined L P))
    unfolding kinds_of
    joined_kinds =
        ap (λ ts. map implicit_kind ts ++ (written_kinds 0 (P.rules ++ L.rules) ++ map declared_kind (declared_names (joined L P)))) no_implicit
        ∙ ap (λ ks. ks ++ map declared_kind (declared_names (joined L P)))
        (after_parser 0 P.rules L.rules no_lexer_rules ∙ kinds_moved (length P.rules) 0 L.rules)

    pub has_no_implicit_kind : HasNoImplicitKind (joined L P)
    has_no_implicit_kind kind c =
        of_cases (Contains-append_cases (map (moved (length P.rules)) (written_kinds 0 L.rules)) (map declared_kind (declared_names (joined L P))) kind
        (subst (λ ks. Contains ks kind) joined_kinds c)) where
          of_cases : Contains (map (moved (length P.rules)) (written_kinds 0 L.rules)) kind ⊎ Contains (map declared_kind (declared_names (joined L P))) kind
              → kind.source ≢ Source.implicit
          of_cases (inl c) e = written_some (length P.rules) 0 L.rules kind c e
          of_cases (inr c) e = declared_some (declared_names (joined L P)) kind c e

    -- Lexing.

    source_matches : (s : Source) (name w : List ℕ) → SourceMatches (joined L P) (moved_source (length P.rules) s) name w → SourceMatches L s name w
    source_matches Source.implicit name w h = h
    source_matches (Source.written place) name w (rule, at, m) =
        (rule, sym (past_front P.rules L.rules place) ∙ at, subst (λ rs. MatchesRule rs rule.alts w) lexer_rules_same m)
    source_matches Source.declared name w h = h

    source_matched : (s : Source) (name w : List ℕ) → SourceMatches L s name w → SourceMatches (joined L P) (moved_source (length P.rules) s) name w
    source_matched Source.implicit name w h = h
    source_matched (Source.written place) name w (rule, at, m) =
        (rule, past_front P.rules L.rules place ∙ at, subst (λ rs. MatchesRule rs rule.alts w) (sym lexer_rules_same) m)
    source_matched Source.declared name w h = h

    -- the kind with this number matches, of kinds that a grammar has
    abbrev MatchesIn : WrittenGrammar → List TokenKind → ℕ → List ℕ → Type 0
    MatchesIn H kinds k w = (kind : TokenKind) × (slice_get kinds k ≡ Some kind) × SourceMatches H kind.source kind.name w

    same_source : {a b : TokenKind} → a ≡ b → (H : WrittenGrammar) (w : List ℕ) → SourceMatches H a.source a.name w → SourceMatches H b.source b.name w
    same_source e H w h = subst (λ (k : TokenKind). SourceMatches H k.source k.name w) e h

    declared_never : (names : List (List ℕ)) (H : WrittenGrammar) (k : ℕ) (w : List ℕ) → MatchesIn H (map declared_kind names) k w → ⊥
    declared_never [] H k w (kind, at, m) = cc at
    declared_never (n ∷ names) H zero w (kind, at, m) = let same : declared_kind n ≡ kind = same_Some (declared_kind n) kind at in same_source (sym same) H w m
    declared_never (n ∷ names) H (suc k) w (kind, at, m) = declared_never names H k w (kind, at, m)

    matches_front : (ks : List TokenKind) (more less : List (List ℕ)) (k : ℕ) (w : List ℕ)
        → MatchesIn (joined L P) (map (moved (length P.rules)) ks ++ map declared_kind more) k w → MatchesIn L (ks ++ map declared_kind less) k w
    matches_front [] more less k w m = absurd (declared_never more (joined L P) k w m)
    matches_front (kind ∷ ks) more less zero w (found, at, m) =
        let same : moved (length P.rules) kind ≡ found = same_Some (moved (length P.rules) kind) found at in
        (kind, refl, source_matches kind.source kind.name w (same_source (sym same) (joined L P) w m))
    matches_front (kind ∷ ks) more less (suc k) w (found, at, m) = matches_front ks more less k w (found, at, m)

    matched_front : (ks : List TokenKind) (more less : List (List ℕ)) (k : ℕ) (w : List ℕ) → MatchesIn L (ks ++ map declared_kind less) k w
        → MatchesIn (joined L P) (map (moved (length P.rules)) ks ++ map declared_kind more) k w
    matched_front [] more less k w m = absurd (declared_never less L k w m)
    matched_front (kind ∷ ks) more less zero w (found, at, m) =
        let same : kind ≡ found = same_Some kind found at in
        (moved (length P.rules) kind, refl, source_matched kind.source kind.name w (same_source (sym same) L w m))
    matched_front (kind ∷ ks) more less (suc k) w (found, at, m) = matched_front ks more less k w (found, at, m)

    kind_matches : (k : ℕ) (w : List ℕ) → KindMatches (joined L P) k w → KindMatches L k w
    kind_matches k w m =
        subst (λ ks. MatchesIn L ks k w) (sym lexer_kinds)
        (matches_front (written_kinds 0 L.rules) (declared_names (joined L P)) (declared_names L) k w
        (subst (λ ks. MatchesIn (joined L P) ks k w) joined_kinds m))

    kind_matched : (k : ℕ) (w : List ℕ) → KindMatches L k w → KindMatches (joined L P) k w
    kind_matched k w m =
        subst (λ ks. MatchesIn (joined L P) ks k w) (sym joined_kinds)
        (matched_front (written_kinds 0 L.rules) (declared_names (joined L P)) (declared_names L) k w (subst (λ ks. MatchesIn L ks k w) lexer_kinds m))

    gap_none : (names : List (List ℕ)) (k : ℕ) → option_map_or (λ (kind : TokenKind). kind.gap) (slice_get (map declared_kind names) k) false ≡ false
    gap_none [] k = refl
    gap_none (n ∷ names) zero = refl
    gap_none (n ∷ names) (suc k) = gap_none names k

    gap_front : (ks : List TokenKind) (more less : List (List ℕ)) (k : ℕ) →
        option_map_or (λ (kind : TokenKind). kind.gap) (slice_get (map (moved (length P.rules)) ks ++ map declared_kind more) k) false ≡ option_map_or
        (λ (kind : TokenKind). kind.gap) (slice_get (ks ++ map declared_kind less) k) false
    gap_front [] more less k = gap_none more k ∙ sym (gap_none less k)
    gap_front (kind ∷ ks) more less zero = refl
    gap_front (kind ∷ ks) more less (suc k) = gap_front ks more less k

    gap_same : (k : ℕ) → is_gap_kind (joined L P) k ≡ is_gap_kind L k
    gap_same k =
        ap (λ ks. option_map_or (λ (kind : TokenKind). kind.gap) (slice_get ks k) false) joined_kinds
        ∙ gap_front (written_kinds 0 L.rules) (declared_names (joined L P)) (declared_names L) k
        ∙ sym (ap (λ ks. option_map_or (λ (kind : TokenKind). kind.gap) (slice_get ks k) false) lexer_kinds)

    tokens_same : (pieces : List Piece) → tokens_of (joined L P) pieces ≡ tokens_of L pieces
    tokens_same [] = refl
    tokens_same (p ∷ pieces) =
        ap (λ b. cond (not b) (p ∷ tokens_of (joined L P) pieces) (tokens_of (joined L P) pieces)) (gap_same p.kind)
        ∙ ap (λ ps. cond (not (is_gap_kind L p.kind)) (p ∷ ps) ps) (tokens_same pieces)

    pub lexes_as_lexer : LexesAs L (joined L P)
    lexes_as_lexer = record {
      pieces = λ text pieces. ((λ l. lexes_to (joined L P) L kind_matches kind_matched l), (λ l. lexes_to L (joined L P) kind_matched kind_matches l));
      stops = λ text offset. (stops_at (joined L P) L kind_matches kind_matched text offset, stops_at L (joined L P) kind_matched kind_matches text offset);
      tokens = tokens_same;
    }

    names_same : (ks : List TokenKind) (more : List (List ℕ))
        → map (λ (k : TokenKind). k.name) (map (moved (length P.rules)) ks ++ map declared_kind more) ≡ map (λ (k : TokenKind). k.name) ks ++ more
    names_same [] more = declared_same more
    names_same (kind ∷ ks) more = ap (λ ns. kind.name ∷ ns) (names_same ks more)

    pub token_names : map (λ (k : TokenKind). k.name) (kinds_of (joined L P)) ≡ map (λ (r : LexerRule). r.name) (token_rules L) ++ declared_names (joined L P)
    token_names =
        ap (map (λ (k : TokenKind). k.name)) joined_kinds ∙ names_same (written_kinds 0 L.rules) (declared_names (joined L P))
        ∙ ap (λ ns. ns ++ declared_names (joined L P)) (written_names 0 L.rules)
