-- What the plain function reads of a text is what it has.
use Rattle.std.proofs.Common.{◌≡◌, ◌↔◌, ℕ, ◌+◌, Bool, true, false, ◌&&◌, cond, List, [], ◌∷◌, ◌++◌, map, length, Option}
use Rattle.std.proofs.Common.{Some, None, refl, sym, ap, ap₂, ◌∙◌, subst, true≢false, eq-eqb}
use Rattle.std.specs.Prelude.{encode_utf8_all}
use Rattle.std.specs.Str.{chars, is_utf8}
use Rattle.std.proofs.lemmas.Bool.{and_parts, and_from, eqb-true}
use Rattle.std.proofs.lemmas.Option.{none-some, same_Some}
use Rattle.std.proofs.lemmas.Slice.Eq.{bytes_eq-Decides}
use Rattle.std.proofs.lemmas.Str.{IsUtf8-from_is_utf8, is_utf8-from_IsUtf8}
use Rattle.grammar_tree.specs.Written.{WrittenGrammar}
use Rattle.grammar_tree.specs.Lexes.{LexesTo, Piece, PlacedToken, is_gap_kind, placed_tokens}
use Rattle.lexer.specs.Tokens.{HasTokens, IsGapText}
use Rattle.token_print.specs.Spelling.{kind_and_spelling}
use Rattle.token_print.specs.Spells.{SpellsTokens}
use Rattle.token_print.specs.Reading.{tokens_in}
use Rattle.token_print.specs.Readings.{GapsAreFound, SpelledAreFound, TokensAreFound, are_none, are_spelled, same_pieces}
use Rattle.token_print.proofs.Once.{no_stop, unique}
use Rattle.token_print.proofs.TextReading.{AreTokens, are_tokens}

pub tokens_are : TokensAreFound
tokens_are G start formed characters tokens = of (tokens_in G characters) (are_tokens G start formed characters)
  where
    of : (o : Option (List PlacedToken)) → AreTokens G characters o → (o ≡ Some tokens) ↔ HasTokens G characters tokens
    of (Some found) has = (λ e. subst (HasTokens G characters) (same_Some found tokens e) has, λ also. ap Some (unique G characters found tokens has also))
    of None (offset, stop) = (λ e. absurd (none-some tokens e), λ has. absurd (no_stop G characters tokens offset has stop))

module _ (G : WrittenGrammar) where
  -- a text of one character is read as one piece
  no_more : {text left : List ℕ} {pieces : List Piece} → LexesTo G text pieces left → text ≡ [] → left ≡ [] → pieces ≡ []
  no_more (LexesTo.by_end text) e none = refl
  no_more (LexesTo.by_piece text kind [] rest left pieces next more) e none = absurd (next.some refl)
  no_more (LexesTo.by_piece text kind (d ∷ piece) rest left pieces next more) e none = let bad : [] ≡ (d ∷ piece) ++ rest = sym e ∙ next.cut in absurd cc

  -- where the only piece isn't a token, its kind is a gap kind
  is_gap : (kind size : ℕ) (later : List PlacedToken) → cond (is_gap_kind G kind) later (record { kind = kind; start = 0; end = size } ∷ later) ≡ []
      → (gap : Bool) → is_gap_kind G kind ≡ gap → is_gap_kind G kind ≡ true
  is_gap kind size later e true is = is
  is_gap kind size later e false is =
      let P : Bool → Type 0 = λ b. cond b later (record { kind = kind; start = 0; end = size } ∷ later) ≡ [] in
      let bad : record { kind = kind; start = 0; end = size } ∷ later ≡ [] = subst P is e in absurd cc

  gap_from : {text left : List ℕ} {pieces : List Piece} → LexesTo G text pieces left → (c : ℕ) → text ≡ c ∷ [] → left ≡ [] → placed_tokens G 0 pieces ≡ []
      → IsGapText G c
  gap_from (LexesTo.by_end text) c e none placed = let bad : c ∷ [] ≡ [] = sym e ∙ none in absurd cc
  gap_from (LexesTo.by_piece text kind [] rest left pieces next more) c e none placed = absurd (next.some refl)
  gap_from (LexesTo.by_piece text kind (d ∷ []) rest left pieces next more) c e none placed =
      let cut : c ∷ [] ≡ d ∷ rest = sym e ∙ next.cut in
      let one : d ≡ c = cc in
      let over : rest ≡ [] = cc in
      let end = 0 + length (encode_utf8_all (d ∷ [])) in
      let P : List Piece → Type 0 = λ ps. LexesTo G text (record { kind = kind; text = d ∷ [] } ∷ ps) left in
      let Q : ℕ → Type 0 = λ x. LexesTo G text (record { kind = kind; text = x ∷ [] } ∷ []) left in
      let R : List ℕ → Type 0 = λ x. LexesTo G x (record { kind = kind; text = c ∷ [] } ∷ []) left in
      let S : List ℕ → Type 0 = λ x. LexesTo G (c ∷ []) (record { kind = kind; text = c ∷ [] } ∷ []) x in (
        kind,
        subst S none (subst R e (subst Q one (subst P (no_more more over none) (LexesTo.by_piece text kind (d ∷ []) rest left pieces next more)))),
        is_gap kind end (placed_tokens G end pieces) placed (is_gap_kind G kind) refl,
      )
  gap_from (LexesTo.by_piece text kind (d ∷ (b ∷ piece)) rest left pieces next more) c e none placed = let bad : c ∷ [] ≡ d ∷ (b ∷ (piece ++ rest)) =
      sym e ∙ next.cut in absurd cc

  gap_none : (c : ℕ) → IsGapText G c → HasTokens G (c ∷ []) []
  gap_none c (kind, lexed, gap) = (
    record { kind = kind; text = c ∷ [] } ∷ [],
    lexed,
    sym (ap (λ b. cond b [] (record { kind = kind; start = 0; end = 0 + length (encode_utf8_all (c ∷ [])) } ∷ [])) gap),
  )

none_there : (o : Option (List PlacedToken)) → are_none o ≡ true → o ≡ Some []
none_there None e = absurd (true≢false (sym e))
none_there (Some []) e = refl
none_there (Some (t ∷ tokens)) e = absurd (true≢false (sym e))

pub gaps_are : GapsAreFound
gaps_are G start formed c = (there, back)
  where
    there : are_none (tokens_in G (c ∷ [])) ≡ true → IsGapText G c
    there e =
        let (pieces, lexed, are) = (tokens_are G start formed (c ∷ []) []).0 (none_there (tokens_in G (c ∷ [])) e) in
        gap_from G lexed c refl refl (sym are)

    back : IsGapText G c → are_none (tokens_in G (c ∷ [])) ≡ true
    back gap = ap are_none ((tokens_are G start formed (c ∷ []) []).1 (gap_none G c gap))

same_there : (pieces others : List Piece) → same_pieces pieces others ≡ true → pieces ≡ others
same_there [] [] e = refl
same_there [] (q ∷ others) e = absurd (true≢false (sym e))
same_there (p ∷ pieces) [] e = absurd (true≢false (sym e))
same_there (p ∷ pieces) (q ∷ others) e =
    let (kind, more) = and_parts _ _ e in
    let (text, later) = and_parts _ _ more in
    let one : p ≡ q = ap₂ (λ k t. record { kind = k; text = t }) (eqb-true p.kind q.kind kind) ((bytes_eq-Decides p.text q.text).0 text) in
    ap₂ ◌∷◌ one (same_there pieces others later)

same_self : (pieces : List Piece) → same_pieces pieces pieces ≡ true
same_self [] = refl
same_self (p ∷ pieces) = and_from _ _ (eq-eqb p.kind p.kind refl) (and_from _ _ ((bytes_eq-Decides p.text p.text).1 refl) (same_self pieces))

-- what tokens there are, where they have the kinds and spellings
spelled_there : (text : List ℕ) (spelled : List Piece) (o : Option (List PlacedToken)) → are_spelled text spelled o ≡ true → (tokens : List PlacedToken)
    × (o ≡ Some tokens) × (map (kind_and_spelling text) tokens ≡ spelled)
spelled_there text spelled None e = absurd (true≢false (sym e))
spelled_there text spelled (Some tokens) e = (tokens, refl, same_there (map (kind_and_spelling text) tokens) spelled e)

pub spelled_are : SpelledAreFound
spelled_are G start formed text spelled = (λ e. there (and_parts _ _ e), back)
  where
    found : Option (List PlacedToken)
    found = tokens_in G (chars text)

    there : (is_utf8 text ≡ true) × (are_spelled text spelled found ≡ true) → SpellsTokens G text spelled
    there (utf8, spells) =
        let (tokens, is, same) = spelled_there text spelled found spells in
        record { utf8 = IsUtf8-from_is_utf8 text utf8; tokens = tokens; has = (tokens_are G start formed (chars text) tokens).0 is; same = same }

    back : SpellsTokens G text spelled → (is_utf8 text && are_spelled text spelled found) ≡ true
    back s =
        let is = (tokens_are G start formed (chars text) s.tokens).1 s.has in
        let P : List Piece → Type 0 = λ ps. same_pieces (map (kind_and_spelling text) s.tokens) ps ≡ true in
        and_from _ _ (is_utf8-from_IsUtf8 text s.utf8) (ap (are_spelled text spelled) is ∙ subst P s.same (same_self (map (kind_and_spelling text) s.tokens)))
