-- The texts of respellings, and which of them may be asked.
use Rattle.std.specs.Prelude.{◌≡◌, ◌&&◌, ℕ, Bool, List, [], ◌∷◌, ◌++◌, Option, Some, None, IsTrue, map}
use Rattle.std.specs.Str.{chars}
use Rattle.grammar_tree.specs.Lexes.{Piece, PlacedToken}
use Rattle.token_print.specs.Readings.{spells}
use Rattle.token_print.specs.Spells.{SpellsTokens}
use Rattle.token_print.specs.declared.style.Skips.{Skips}
use Rattle.token_print.specs.declared.style.Style.{Style}
use Rattle.token_print.specs.Printed.{after, before}
use Rattle.reduce_trees_mode.specs.Candidates.{InLanguage}
use Rattle.reduce_trees_mode.specs.Input.{TreeInput}
use Rattle.reduce_trees_mode.specs.Listed.{skips_of}
use Rattle.spell_shrink.specs.Respelling.{IsRespelling, Respelling, SpelledToken, kind_at, numbers_of}

module _ (skips : Skips) (start : List ℕ) (tokens : List PlacedToken) where
  -- what is printed of the tokens, and after them, where they come after the last one: what is printed of kept tokens, with these spellings for their own
  abbrev pub respelled_after : Style → Option ℕ → Respelling → List ℕ
  respelled_after style last [] = after skips start tokens style last
  respelled_after style last (p ∷ r) = before skips start tokens style last p.number ++ (p.word ++ respelled_after style (Some p.number) r)

-- The text of a respelling. As it was, a start without tokens is printed whole.
abbrev pub respelled_text : Skips → List ℕ → List PlacedToken → Style → Respelling → List ℕ
respelled_text skips start tokens Style.Squeezed r = respelled_after skips start tokens Style.Squeezed None r
respelled_text skips start [] Style.AsWas r = start
respelled_text skips start (t ∷ tokens) Style.AsWas r = respelled_after skips start (t ∷ tokens) Style.AsWas None r

-- the kinds of the tokens, with the characters of these spellings
abbrev pub respelled_pieces : List PlacedToken → Respelling → List Piece
respelled_pieces tokens r = map (λ (p : SpelledToken). record { kind = kind_at tokens p.number; text = chars p.word }) r

-- the text of a respelling of an input's tokens
abbrev pub text_of_respelling : TreeInput → Style → Respelling → List ℕ
text_of_respelling input style r = respelled_text (skips_of input) input.start input.tokens style r

-- The respelling may be asked: its text is cut into tokens of exactly these kinds and spellings, wherever they are in it, and it is admitted.
pub record IsListedRespelling (input : TreeInput) (style : Style) (r : Respelling) : Type 0 where
  pub spells_it : SpellsTokens input.grammar.grammar (text_of_respelling input style r) (respelled_pieces input.tokens r)
  pub admitted : IsTrue (input.admits (numbers_of r) (text_of_respelling input style r))

-- whether it may
abbrev pub is_listed_respelling : TreeInput → Style → Respelling → Bool
is_listed_respelling input style r =
    spells input.grammar.grammar (text_of_respelling input style r) (respelled_pieces input.tokens r)
    && input.admits (numbers_of r) (text_of_respelling input style r)

-- The text is that of a listed respelling, and it is in the grammar's language.
pub record IsRespelledText (input : TreeInput) (text : List ℕ) : Type 0 where
  pub style : Style
  pub respelling : Respelling
  pub is_respelling : IsRespelling input.start input.tokens respelling
  pub listed : IsListedRespelling input style respelling
  pub same : text ≡ text_of_respelling input style respelling
  pub in_language : InLanguage input.grammar text
