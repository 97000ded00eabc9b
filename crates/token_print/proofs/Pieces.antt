-- Each token is a piece of the text.
use Rattle.std.proofs.Common.{◌≡◌, ◌≢◌, ℕ, ◌+◌, ◌-◌, ◌<◌, ◌≤◌, Bool, true, false, not, cond, List, [], ◌∷◌, ◌++◌, map, take, drop}
use Rattle.std.proofs.Common.{length, refl, sym, ap, ap₂, ◌∙◌, subst, arith, append_assoc, length-append}
use Rattle.std.specs.Prelude.{encode_utf8_all}
use Rattle.std.specs.List.{All, between}
use Rattle.std.specs.Option.{option_map_or}
use Rattle.std.specs.Str.{all_scalars, chars, IsCharBoundary, IsUtf8}
use Rattle.std.proofs.lemmas.Bool.{and_parts, and_from}
use Rattle.std.proofs.lemmas.List.{drop_at, take_at}
use Rattle.std.proofs.lemmas.List.Elements.{All-nil, All-cons, All-weaker}
use Rattle.std.proofs.lemmas.Str.{IsCharBoundary-at_seam, IsUtf8-between, chars-encodes, encodes-append, encodes-chars, length-le-encodes, scalars-chars}
use Rattle.grammar_tree.specs.Written.{WrittenGrammar, Source, TokenKind}
use Rattle.grammar_tree.specs.Lexes.{IsNext, LexesTo, Piece, PlacedToken, SourceMatches, is_gap_kind, placed_tokens, tokens_of}
use Rattle.token_print.specs.Spelling.{kind_and_spelling, spelling}
use Rattle.token_print.specs.LexingLaws.{IsSlice, IsTokenKind, TokensAreInOrder, TokensArePieces, TokensAreLongestMatches, TokensHaveKinds}
use Rattle.token_print.proofs.Order.{Rise, apart, few, placed_rise}

-- The token is a piece of the characters, at its offsets.
pub record IsPlaced (G : WrittenGrammar) (cs : List ℕ) (t : PlacedToken) : Type 0 where
  pub front : List ℕ
  pub piece : List ℕ
  pub back : List ℕ
  pub cut : cs ≡ front ++ (piece ++ back)
  pub starts : t.start ≡ length (encode_utf8_all front)
  pub ends : t.end ≡ t.start + length (encode_utf8_all piece)
  pub next : IsNext G (piece ++ back) t.kind piece back
  pub visible : is_gap_kind G t.kind ≡ false

module _ (G : WrittenGrammar) (cs : List ℕ) where
  next_at : (text : List ℕ) (kind : ℕ) (piece rest : List ℕ) → IsNext G text kind piece rest → IsNext G (piece ++ rest) kind piece rest
  next_at text kind piece rest next = let P : List ℕ → Type 0 = λ x. IsNext G x kind piece rest in subst P next.cut next

  -- the characters are those before the next piece, the piece, and what comes after it
  pub cut_next : (front text : List ℕ) (kind : ℕ) (piece rest : List ℕ) → cs ≡ front ++ text → IsNext G text kind piece rest → cs ≡ front ++ (piece ++ rest)
  cut_next front text kind piece rest e next = e ∙ ap (λ l. front ++ l) next.cut

  pub cut_later : (front text : List ℕ) (kind : ℕ) (piece rest : List ℕ) → cs ≡ front ++ text → IsNext G text kind piece rest → cs ≡ (front ++ piece) ++ rest
  cut_later front text kind piece rest e next = cut_next front text kind piece rest e next ∙ sym (append_assoc front piece rest)

  pub size_later : (front piece : List ℕ) (at : ℕ) → at ≡ length (encode_utf8_all front)
      → at + length (encode_utf8_all piece) ≡ length (encode_utf8_all (front ++ piece))
  size_later front piece at e = omega (arith, e, ap length (encodes-append front piece), length-append (encode_utf8_all front) (encode_utf8_all piece))

  pub each_placed : {text left : List ℕ} {pieces : List Piece} → LexesTo G text pieces left → (front : List ℕ) (at : ℕ) → cs ≡ front ++ text
      → at ≡ length (encode_utf8_all front) → All (IsPlaced G cs) (placed_tokens G at pieces)
  each_placed (LexesTo.by_end text) front at e s = All-nil (IsPlaced G cs)
  each_placed (LexesTo.by_piece text kind piece rest left pieces next more) front at e s =
      step (is_gap_kind G kind) refl (each_placed more (front ++ piece) (at + length (encode_utf8_all piece)) (cut_later front text kind piece rest e next)
      (size_later front piece at s))
    where
      step : (gap : Bool) → is_gap_kind G kind ≡ gap → All (IsPlaced G cs) (placed_tokens G (at + length (encode_utf8_all piece)) pieces) →
          All (IsPlaced G cs) (cond gap (placed_tokens G (at + length (encode_utf8_all piece)) pieces)
          (record { kind = kind; start = at; end = at + length (encode_utf8_all piece) } ∷ placed_tokens G (at + length (encode_utf8_all piece)) pieces))
      step true is later = later
      step false is later =
          All-cons (IsPlaced G cs) (record { kind = kind; start = at; end = at + length (encode_utf8_all piece) })
          (placed_tokens G (at + length (encode_utf8_all piece)) pieces)
          (record {
            front = front;
            piece = piece;
            back = rest;
            cut = cut_next front text kind piece rest e next;
            starts = s;
            ends = refl;
            next = next_at text kind piece rest next;
            visible = is;
          })
          later

scalars_front : (f b : List ℕ) → all_scalars (f ++ b) ≡ true → all_scalars f ≡ true
scalars_front [] b e = refl
scalars_front (c ∷ f) b e = let (h, t) = and_parts _ _ e in and_from _ _ h (scalars_front f b t)

scalars_back : (f b : List ℕ) → all_scalars (f ++ b) ≡ true → all_scalars b ≡ true
scalars_back [] b e = e
scalars_back (c ∷ f) b e = scalars_back f b (and_parts _ _ e).1

-- a text whose characters are cut into three parts
module _ (text : List ℕ) (utf8 : IsUtf8 text) (front piece back : List ℕ) (cut : chars text ≡ front ++ (piece ++ back)) where
  bytes : text ≡ encode_utf8_all front ++ (encode_utf8_all piece ++ encode_utf8_all back)
  bytes =
      sym (encodes-chars text utf8) ∙ ap encode_utf8_all cut ∙ encodes-append front (piece ++ back)
      ∙ ap (λ l. encode_utf8_all front ++ l) (encodes-append piece back)

  from_piece : all_scalars (piece ++ back) ≡ true
  from_piece = scalars_back front (piece ++ back) (ap all_scalars (sym cut) ∙ scalars-chars text utf8)

  rest_utf8 : IsUtf8 (encode_utf8_all piece ++ encode_utf8_all back)
  rest_utf8 = (piece ++ back, (from_piece, encodes-append piece back))

  back_utf8 : IsUtf8 (encode_utf8_all back)
  back_utf8 = (back, (scalars_back piece back from_piece, refl))

  bytes_again : text ≡ (encode_utf8_all front ++ encode_utf8_all piece) ++ encode_utf8_all back
  bytes_again = bytes ∙ sym (append_assoc (encode_utf8_all front) (encode_utf8_all piece) (encode_utf8_all back))

  module _ (start end : ℕ) (starts : start ≡ length (encode_utf8_all front)) (ends : end ≡ start + length (encode_utf8_all piece)) where
    both : length (encode_utf8_all front ++ encode_utf8_all piece) ≡ end
    both = omega (arith, starts, ends, length-append (encode_utf8_all front) (encode_utf8_all piece))

    pub from_start : drop start text ≡ encode_utf8_all piece ++ encode_utf8_all back
    from_start = ap (drop start) bytes ∙ drop_at (encode_utf8_all front) (encode_utf8_all piece ++ encode_utf8_all back) start (sym starts)

    pub from_end : drop end text ≡ encode_utf8_all back
    from_end = ap (drop end) bytes_again ∙ drop_at (encode_utf8_all front ++ encode_utf8_all piece) (encode_utf8_all back) end both

    pub part : between start end text ≡ encode_utf8_all piece
    part = ap (take (end - start)) from_start ∙ take_at (encode_utf8_all piece) (encode_utf8_all back) (end - start) (omega (arith, ends))

    pub part_chars : chars (between start end text) ≡ piece
    part_chars = ap chars part ∙ chars-encodes piece (scalars_front piece back from_piece)

    pub start_chars : chars (drop start text) ≡ piece ++ back
    start_chars = ap chars (from_start ∙ sym (encodes-append piece back)) ∙ chars-encodes (piece ++ back) from_piece

    pub end_chars : chars (drop end text) ≡ back
    end_chars = ap chars from_end ∙ chars-encodes back (scalars_back piece back from_piece)

    pub start_boundary : IsCharBoundary text start
    start_boundary =
        let P : ℕ → Type 0 = λ n. IsCharBoundary text n in
        subst P (sym starts) (IsCharBoundary-at_seam text (encode_utf8_all front) (encode_utf8_all piece ++ encode_utf8_all back) bytes rest_utf8)

    pub end_boundary : IsCharBoundary text end
    end_boundary =
        let P : ℕ → Type 0 = λ n. IsCharBoundary text n in
        subst P both (IsCharBoundary-at_seam text (encode_utf8_all front ++ encode_utf8_all piece) (encode_utf8_all back) bytes_again back_utf8)

    pub within : end ≤ length text
    within = omega (arith, both, ap length bytes_again, length-append (encode_utf8_all front ++ encode_utf8_all piece) (encode_utf8_all back))

pub filled : (cs : List ℕ) → cs ≢ [] → 0 < length cs
filled [] h = absurd (h refl)
filled (c ∷ cs) h = omega arith

module _ (G : WrittenGrammar) (text : List ℕ) (utf8 : IsUtf8 text) (t : PlacedToken) (p : IsPlaced G (chars text) t) where
  pub some : t.start < t.end
  some = omega (arith, p.ends, filled p.piece p.next.some, length-le-encodes p.piece)

  pub is_slice : IsSlice text t.start t.end
  is_slice =
      let starts = start_boundary text utf8 p.front p.piece p.back p.cut t.start t.end p.starts p.ends in
      let ends = end_boundary text utf8 p.front p.piece p.back p.cut t.start t.end p.starts p.ends in
      let rises : t.start ≤ t.end = omega (arith, some) in
      record {
        rises = rises;
        within = within text utf8 p.front p.piece p.back p.cut t.start t.end p.starts p.ends;
        starts = starts;
        ends = ends;
        utf8 = IsUtf8-between text t.start t.end utf8 rises starts ends;
      }

  pub comes_next : IsNext G (chars (drop t.start text)) t.kind (chars (spelling text t)) (chars (drop t.end text))
  comes_next =
      let P : List ℕ → Type 0 = λ x. IsNext G x t.kind p.piece p.back in
      let Q : List ℕ → Type 0 = λ x. IsNext G (chars (drop t.start text)) t.kind x p.back in
      let R : List ℕ → Type 0 = λ x. IsNext G (chars (drop t.start text)) t.kind (chars (spelling text t)) x in
      subst R (sym (end_chars text utf8 p.front p.piece p.back p.cut t.start t.end p.starts p.ends))
      (subst Q (sym (part_chars text utf8 p.front p.piece p.back p.cut t.start t.end p.starts p.ends))
      (subst P (sym (start_chars text utf8 p.front p.piece p.back p.cut t.start t.end p.starts p.ends)) p.next))

placed : (G : WrittenGrammar) (cs : List ℕ) (pieces : List Piece) (tokens : List PlacedToken) → LexesTo G cs pieces [] → tokens ≡ placed_tokens G 0 pieces
    → All (IsPlaced G cs) tokens
placed G cs pieces tokens lexed are = let P : List PlacedToken → Type 0 =
    λ ts. All (IsPlaced G cs) ts in subst P (sym are) (each_placed G cs lexed [] 0 refl refl)

pub in_order : TokensAreInOrder
in_order G text tokens utf8 (pieces, lexed, are) =
    let P : List PlacedToken → Type 0 = λ ts. Rise 0 ts in
    let rise = subst P (sym are) (placed_rise G 0 pieces) in
    let each = placed G (chars text) pieces tokens lexed are in
    let within =
    All-weaker (IsPlaced G (chars text)) (λ t. (t.start < t.end) × (t.end ≤ length text))
    (λ t p. (some G text utf8 t p, (is_slice G text utf8 t p).within)) tokens each in
    record {
      slices = All-weaker (IsPlaced G (chars text)) (λ t. IsSlice text t.start t.end) (is_slice G text utf8) tokens each;
      not_empty = All-weaker (IsPlaced G (chars text)) (λ t. t.start < t.end) (some G text utf8) tokens each;
      apart = apart 0 tokens rise;
      few = omega (arith, few text 0 tokens rise within (omega arith));
    }

pub come_next : TokensAreLongestMatches
come_next G text tokens utf8 (pieces, lexed, are) =
    All-weaker (IsPlaced G (chars text)) (λ t. IsNext G (chars (drop t.start text)) t.kind (chars (spelling text t)) (chars (drop t.end text)))
    (comes_next G text utf8) tokens (placed G (chars text) pieces tokens lexed are)

token_kind : (G : WrittenGrammar) (cs : List ℕ) (t : PlacedToken) → IsPlaced G cs t → IsTokenKind G t.kind
token_kind G cs t p =
    let (kind, numbered, matches) = p.next.matched in
    record {
      kind = kind;
      numbered = numbered;
      visible = ap (λ o. option_map_or (λ (k : TokenKind). k.gap) o false) (sym numbered) ∙ p.visible;
      lexes = λ e. let P : Source → Type 0 = λ s. SourceMatches G s kind.name p.piece in subst P e matches;
    }

pub have_kinds : TokensHaveKinds
have_kinds G text tokens (pieces, lexed, are) =
    All-weaker (IsPlaced G text) (λ t. IsTokenKind G t.kind) (token_kind G text) tokens (placed G text pieces tokens lexed are)

-- the tokens, with their spellings, among the pieces of a rest of the text
module _ (G : WrittenGrammar) (text : List ℕ) (utf8 : IsUtf8 text) where
  pieces_from : {cs left : List ℕ} {pieces : List Piece} → LexesTo G cs pieces left → (front : List ℕ) (at : ℕ) → chars text ≡ front ++ cs
      → at ≡ length (encode_utf8_all front) → map (kind_and_spelling text) (placed_tokens G at pieces) ≡ tokens_of G pieces
  pieces_from (LexesTo.by_end cs) front at e s = refl
  pieces_from (LexesTo.by_piece cs kind piece rest left pieces next more) front at e s =
      step (is_gap_kind G kind) (pieces_from more (front ++ piece) (at + length (encode_utf8_all piece))
      (cut_later G (chars text) front cs kind piece rest e next) (size_later G (chars text) front piece at s))
    where
      same : kind_and_spelling text (record { kind = kind; start = at; end = at + length (encode_utf8_all piece) }) ≡ record { kind = kind; text = piece }
      same =
          ap (λ x. record { kind = kind; text = x })
          (part_chars text utf8 front piece rest (cut_next G (chars text) front cs kind piece rest e next) at (at + length (encode_utf8_all piece)) s refl)

      step : (gap : Bool) → map (kind_and_spelling text) (placed_tokens G (at + length (encode_utf8_all piece)) pieces) ≡ tokens_of G pieces →
          map (kind_and_spelling text) (cond gap (placed_tokens G (at + length (encode_utf8_all piece)) pieces)
          (record { kind = kind; start = at; end = at + length (encode_utf8_all piece) } ∷ placed_tokens G (at + length (encode_utf8_all piece)) pieces))
          ≡ cond (not gap) (record { kind = kind; text = piece } ∷ tokens_of G pieces) (tokens_of G pieces)
      step true later = later
      step false later = ap₂ ◌∷◌ same later

pub are_pieces : TokensArePieces
are_pieces G text tokens utf8 (pieces, lexed, are) = (pieces, lexed, ap (map (kind_and_spelling text)) are ∙ pieces_from G text utf8 lexed [] 0 refl refl)
