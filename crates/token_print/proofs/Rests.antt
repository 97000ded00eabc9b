-- The tokens of the rest of a text.
use Rattle.std.proofs.Common.{◌≡◌, ◌≢◌, ◌<◌, ◌≤◌, ◌+◌, ◌↔◌, ℕ, List, [], ◌++◌, drop, length, refl, sym, ap, ◌∙◌, subst, arith}
use Rattle.std.specs.Prelude.{encode_utf8_all}
use Rattle.std.specs.Str.{chars, IsCharBoundary, IsUtf8}
use Rattle.std.proofs.lemmas.List.{append_cancel_left, drop_all, length-drop}
use Rattle.std.proofs.lemmas.List.Elements.{filter-append}
use Rattle.std.proofs.lemmas.Str.{IsUtf8-drop, chars-nil, encodes-chars}
use Rattle.grammar_tree.specs.Written.{WrittenGrammar}
use Rattle.grammar_tree.specs.Lexes.{LexesTo, Piece, tokens_of}
use Rattle.lexer.specs.Pieces.{HasNoPieceAt}
use Rattle.token_print.specs.inner.Joins.{SpellsFrom}
use Rattle.token_print.proofs.Lexing.{lexes_append, none_at_end, none_read, through}

module _ (G : WrittenGrammar) (text : List ℕ) where
  abbrev rest_at : ℕ → List ℕ
  rest_at at = chars (drop at text)

  module _ (at to : ℕ) (middle : List Piece) (lexed : LexesTo G (rest_at at) middle (rest_at to)) (spelled : List Piece) where
    -- The tokens of a part that was read are the first ones that are wanted.
    pub spells_on : (later : List Piece) → spelled ≡ tokens_of G middle ++ later → SpellsFrom G text at spelled ↔ SpellsFrom G text to later
    spells_on later next = (
      λ (found, all, same).
          let (rest, is, more) = through G lexed all (none_at_end G) in (
            rest,
            more,
            append_cancel_left (tokens_of G middle) (tokens_of G rest) later
                (sym (filter-append _ middle rest) ∙ ap (tokens_of G) (sym is) ∙ same ∙ next),
          ),
      λ (rest, more, same). (middle ++ rest, lexes_append G lexed more, filter-append _ middle rest ∙ ap (λ l. tokens_of G middle ++ l) same ∙ sym next),
    )

    -- They aren't.
    pub spells_none : ((rest : List Piece) → ¬ (spelled ≡ tokens_of G middle ++ rest)) → ¬ SpellsFrom G text at spelled
    spells_none others (found, all, same) =
        let (rest, is, more) = through G lexed all (none_at_end G) in others (tokens_of G rest) (sym same ∙ ap (tokens_of G) is ∙ filter-append _ middle rest)

  module _ (utf8 : IsUtf8 text) (at : ℕ) (begins : IsCharBoundary text at) (inside : at < length text) where
    -- something is left before the end
    pub some_rest : rest_at at ≢ []
    some_rest e =
        let size : at + length (encode_utf8_all (rest_at at)) ≡ length text =
        omega (arith, begins.0, length-drop at text, ap length (encodes-chars (drop at text) (IsUtf8-drop text at utf8 begins))) in
        omega (arith, size, ap (λ l. length (encode_utf8_all l)) e, inside)

    -- where no rule matches, the rest has no tokens
    pub spells_nothing : (spelled : List Piece) → HasNoPieceAt G text at → ¬ SpellsFrom G text at spelled
    spells_nothing spelled none (found, lexed, same) = pick lexed refl refl
      where
        pick : {rest left : List ℕ} {found : List Piece} → LexesTo G rest found left → rest ≡ rest_at at → left ≡ [] → ⊥
        pick (LexesTo.by_end rest) e l = some_rest (sym e ∙ l)
        pick (LexesTo.by_piece rest k w r l found next more) e last = none k w r (sym e ∙ next.cut) next.some next.matched

  -- at the end nothing is left
  pub spells_at_end : (at : ℕ) (spelled : List Piece) → length text ≤ at → SpellsFrom G text at spelled ↔ (spelled ≡ [])
  spells_at_end at spelled end =
      let none : rest_at at ≡ [] = ap chars (drop_all at text end) ∙ chars-nil in
      let P : List ℕ → Type 0 = λ t. LexesTo G t [] [] in (
        λ (found, lexed, same). sym same ∙ ap (tokens_of G) (none_read G (rest_at at) lexed none),
        λ e. ([], subst P (sym none) (LexesTo.by_end []), sym e),
      )
