-- In a well-formed grammar each text is cut into pieces, or its reading stops, as the plain function says.
use Rattle.std.proofs.Common.{◌≡◌, ◌≢◌, ◌⊎◌, inl, inr, ℕ, zero, suc, ◌<◌, ◌≤◌, List, [], ◌∷◌, ◌++◌, Option, Some, None}
use Rattle.std.proofs.Common.{slice_get, length, refl, sym, ap, ◌∙◌, subst, arith, append_assoc, length-append}
use Rattle.std.specs.Prelude.{encode_utf8_all, option_map}
use Rattle.std.specs.Bool.{Decides}
use Rattle.std.proofs.lemmas.Option.{none-some, same_Some, slice_get_within}
use Rattle.std.proofs.lemmas.Slice.Eq.{bytes_eq-Decides}
use Rattle.grammar_tree.specs.Written.{LexerRule, WrittenRule, WrittenGrammar, Source, TokenKind}
use Rattle.grammar_tree.specs.Kinds.{as_lexer_rule, kinds_of, lexer_rules}
use Rattle.grammar_tree.specs.Matches.{MatchesRule}
use Rattle.grammar_tree.specs.Faults.{AtLexerRule, IsWellFormed}
use Rattle.grammar_tree.specs.Lexes.{IsNext, KindMatches, Lexes, LexesTo, Piece, PlacedToken, SourceMatches, StopsAt, placed_tokens}
use Rattle.lexer.specs.Tokens.{HasTokens}
use Rattle.grammar_tree.proofs.Lent.{contains_filter_map, contains_at}
use Rattle.token_print.specs.LexingLaws.{EachTextIsRead}
use Rattle.token_print.specs.Reading.{Front, kind_matches, least_kind, lexer_rule_matches, longest_front, next_piece}
use Rattle.token_print.specs.Reading.{pieces_from, pieces_within, source_matches, tokens_in, with_first}
use Rattle.token_print.proofs.Decided as decided
use Rattle.token_print.proofs.Decided.{IsFront, IsLeast, IsLongestFront, IsValue, decides_by, never}
use Rattle.token_print.proofs.Matching.{matching}
use Rattle.token_print.proofs.Pieces.{filled}

module _ (G : WrittenGrammar) where
  -- the lexer rule at the index matches the text
  abbrev RuleMatches : ℕ → List ℕ → Type 0
  RuleMatches i w = AtLexerRule G i (λ rule. MatchesRule (lexer_rules G.rules) rule.alts w)

  -- it is the least kind that matches the text
  abbrev IsLeastKind : List ℕ → ℕ → Type 0
  IsLeastKind w k = KindMatches G k w × ((other : ℕ) → KindMatches G other w → k ≤ other)

  -- no kind matches a beginning of at least one character
  abbrev IsStuck : List ℕ → Type 0
  IsStuck text = (kind : ℕ) (front back : List ℕ) → text ≡ front ++ back → front ≢ [] → ¬ KindMatches G kind front

  -- it is the next piece; or there is none
  abbrev IsNextOf : List ℕ → Option Front → Type 0
  IsNextOf text (Some front) = IsNext G text front.kind front.piece front.rest
  IsNextOf text None = IsStuck text

  -- the text is cut into these pieces; or its reading stops
  abbrev AreRead : List ℕ → Option (List Piece) → Type 0
  AreRead text (Some pieces) = Lexes G text pieces
  AreRead text None = (offset : ℕ) × StopsAt G text offset

  -- it has these tokens; or its reading stops
  abbrev pub AreTokens : List ℕ → Option (List PlacedToken) → Type 0
  AreTokens text (Some tokens) = HasTokens G text tokens
  AreTokens text None = (offset : ℕ) × StopsAt G text offset

module _ (G : WrittenGrammar) (start : ℕ) (W : IsWellFormed G start) where
  -- the lexer rule at an index
  at_index : (i : ℕ) (w : List ℕ) → Decides (lexer_rule_matches (lexer_rules G.rules) w (slice_get G.rules i)) (RuleMatches G i w)
  at_index i w = step (slice_get G.rules i) refl
    where
      other : (r : LexerRule) → slice_get G.rules i ≡ Some (WrittenRule.lexer_rule r) → RuleMatches G i w → MatchesRule (lexer_rules G.rules) r.alts w
      other r e (s, f, m) =
          let same : Some (WrittenRule.lexer_rule s) ≡ Some (WrittenRule.lexer_rule r) = sym f ∙ e in
          let one : s ≡ r = cc in
          let P : LexerRule → Type 0 = λ x. MatchesRule (lexer_rules G.rules) x.alts w in subst P one m

      step : (o : Option WrittenRule) → slice_get G.rules i ≡ o → Decides (lexer_rule_matches (lexer_rules G.rules) w o) (RuleMatches G i w)
      step None e = never (λ (s, f, m). none-some (WrittenRule.lexer_rule s) (sym e ∙ f))
      step (Some (WrittenRule.parser_rule p)) e =
          never (λ (s, f, m). let bad : Some (WrittenRule.parser_rule p) ≡ Some (WrittenRule.lexer_rule s) = sym e ∙ f in cc)
      step (Some (WrittenRule.lexer_rule r)) e =
          let among = contains_filter_map as_lexer_rule G.rules (WrittenRule.lexer_rule r) r refl (contains_at G.rules i (WrittenRule.lexer_rule r) e) in
          decides_by (λ m. (r, e, m), other r e) (matching G start W r among w)

  by_source : (s : Source) (name w : List ℕ) → Decides (source_matches G s name w) (SourceMatches G s name w)
  by_source Source.implicit name w = bytes_eq-Decides w name
  by_source (Source.written i) name w = at_index i w
  by_source Source.declared name w = never (λ m. m)

  by_kind : (w : List ℕ) (k : ℕ) → Decides (kind_matches G w (slice_get (kinds_of G) k)) (KindMatches G k w)
  by_kind w k = step (slice_get (kinds_of G) k) refl
    where
      other : (kind : TokenKind) → slice_get (kinds_of G) k ≡ Some kind → KindMatches G k w → SourceMatches G kind.source kind.name w
      other kind e (found, f, m) =
          let same : found ≡ kind = same_Some found kind (sym f ∙ e) in
          let P : TokenKind → Type 0 = λ x. SourceMatches G x.source x.name w in subst P same m

      step : (o : Option TokenKind) → slice_get (kinds_of G) k ≡ o → Decides (kind_matches G w o) (KindMatches G k w)
      step None e = never (λ (found, f, m). none-some found (sym e ∙ f))
      step (Some kind) e = decides_by (λ m. (kind, e, m), other kind e) (by_source kind.source kind.name w)

  is_least : (w : List ℕ) → IsLeast (λ k. KindMatches G k w) (length (kinds_of G)) (least_kind G w)
  is_least w = decided.least (λ k. KindMatches G k w) (λ k. kind_matches G w (slice_get (kinds_of G) k)) (by_kind w) (length (kinds_of G))

  is_value : (w : List ℕ) → IsValue (IsLeastKind G) w (least_kind G w)
  is_value w = step (least_kind G w) (is_least w)
    where
      step : (o : Option ℕ) → IsLeast (λ k. KindMatches G k w) (length (kinds_of G)) o → IsValue (IsLeastKind G) w o
      step (Some k) least = least
      step None none = λ k v. none k (slice_get_within (kinds_of G) k v.0.0 v.0.1) v.0

  -- a text that a kind matches has a least kind that does
  least_of : (w : List ℕ) (k : ℕ) → KindMatches G k w → (j : ℕ) × IsLeastKind G w j
  least_of w k m = step (least_kind G w) (is_least w)
    where
      step : (o : Option ℕ) → IsLeast (λ k. KindMatches G k w) (length (kinds_of G)) o → (j : ℕ) × IsLeastKind G w j
      step (Some j) least = (j, least)
      step None none = absurd (none k (slice_get_within (kinds_of G) k m.0 m.1) m)

  next_or_stuck : (c : ℕ) (text : List ℕ) → IsNextOf G (c ∷ text) (next_piece G c text)
  next_or_stuck c text =
      step (longest_front (λ u. least_kind G (c ∷ u)) text)
      (decided.longest (λ u. IsLeastKind G (c ∷ u)) (λ u. least_kind G (c ∷ u)) (λ u. is_value (c ∷ u)) text)
    where
      -- a beginning of at least one character goes on from the first one
      no_longer : (front back : List ℕ) → IsLongestFront (λ u. IsLeastKind G (c ∷ u)) text front back → (other : ℕ) (f b : List ℕ) → c ∷ text ≡ f ++ b
          → KindMatches G other f → length f ≤ length (c ∷ front)
      no_longer front back best other [] b e m = omega arith
      no_longer front back best other (d ∷ f) b e m =
          let first : d ≡ c = cc in
          let rest : text ≡ f ++ b = cc in
          let P : ℕ → Type 0 = λ x. KindMatches G other (x ∷ f) in
          let (j, least) = least_of (c ∷ f) other (subst P first m) in omega (arith, best.longest f b j rest least)

      stuck : ((front back : List ℕ) (k : ℕ) → text ≡ front ++ back → ¬ IsLeastKind G (c ∷ front) k) → (kind : ℕ) (f b : List ℕ) → c ∷ text ≡ f ++ b → f ≢ []
          → ¬ KindMatches G kind f
      stuck none kind [] b e some m = some refl
      stuck none kind (d ∷ f) b e some m =
          let first : d ≡ c = cc in
          let rest : text ≡ f ++ b = cc in
          let P : ℕ → Type 0 = λ x. KindMatches G kind (x ∷ f) in
          let (j, least) = least_of (c ∷ f) kind (subst P first m) in none f b j rest least

      step : (o : Option Front) → IsFront (λ u. IsLeastKind G (c ∷ u)) text o → IsNextOf G (c ∷ text) (option_map (with_first c) o)
      step (Some front) (least, best) =
          record {
            cut = ap (λ l. c ∷ l) best.cut;
            some = λ e. cc;
            matched = least.0;
            longest = no_longer front.piece front.rest best;
            least = least.1;
          }
      step None none = stuck none

  more_read : (text : List ℕ) (kind : ℕ) (piece rest : List ℕ) → IsNext G text kind piece rest → (o : Option (List Piece)) → AreRead G rest o
      → AreRead G text (option_map (λ pieces. record { kind = kind; text = piece } ∷ pieces) o)
  more_read text kind piece rest next (Some pieces) lexed = LexesTo.by_piece text kind piece rest [] pieces next lexed
  more_read text kind piece rest next None (offset, stop) = (
    length (encode_utf8_all (piece ++ stop.before)),
    record {
      pieces = record { kind = kind; text = piece } ∷ stop.pieces;
      before = piece ++ stop.before;
      left = stop.left;
      lexed = LexesTo.by_piece text kind piece rest stop.left stop.pieces next stop.lexed;
      cut = next.cut ∙ ap (λ l. piece ++ l) stop.cut ∙ sym (append_assoc piece stop.before stop.left);
      at = refl;
      more = stop.more;
      stuck = stop.stuck;
    },
  )

  stops_here : (c : ℕ) (text : List ℕ) → IsStuck G (c ∷ text) → (offset : ℕ) × StopsAt G (c ∷ text) offset
  stops_here c text stuck =
      (0, record { pieces = []; before = []; left = c ∷ text; lexed = LexesTo.by_end (c ∷ text); cut = refl; at = refl; more = λ e. cc; stuck = stuck })

  shorter : (text : List ℕ) (kind : ℕ) (piece rest : List ℕ) → IsNext G text kind piece rest → length rest < length text
  shorter text kind piece rest next = omega (arith, ap length next.cut, length-append piece rest, filled piece next.some)

  read_within : (n : ℕ) (text : List ℕ) → length text ≤ n → AreRead G text (pieces_within n G text)
  read_within n [] h = LexesTo.by_end []
  read_within zero (c ∷ text) h = absurd (omega (arith, h))
  read_within (suc n) (c ∷ text) h = step (next_piece G c text) (next_or_stuck c text) (λ rest less. read_within n rest (omega (arith, h, less)))
    where
      step : (o : Option Front) → IsNextOf G (c ∷ text) o → ((rest : List ℕ) → length rest < length (c ∷ text) → AreRead G rest (pieces_within n G rest))
          → AreRead G (c ∷ text) (pieces_from o (pieces_within n G))
      step (Some front) next more =
          more_read (c ∷ text) front.kind front.piece front.rest next (pieces_within n G front.rest)
          (more front.rest (shorter (c ∷ text) front.kind front.piece front.rest next))
      step None stuck more = stops_here c text stuck

  pub are_tokens : (text : List ℕ) → AreTokens G text (tokens_in G text)
  unfolding tokens_in
  are_tokens text = step (pieces_within (length text) G text) (read_within (length text) text (omega arith))
    where
      step : (o : Option (List Piece)) → AreRead G text o → AreTokens G text (option_map (placed_tokens G 0) o)
      step (Some pieces) lexed = (pieces, lexed, refl)
      step None stop = stop

pub each_is_read : EachTextIsRead
each_is_read G start text W = step (tokens_in G text) (are_tokens G start W text)
  where
    step : (o : Option (List PlacedToken)) → AreTokens G text o → ((tokens : List PlacedToken) × HasTokens G text tokens)
        ⊎ ((offset : ℕ) × StopsAt G text offset)
    step (Some tokens) has = inl (tokens, has)
    step None stop = inr stop
