-- Kept tokens with their spellings and their text.
use Rattle.std.specs.Prelude.{◌≡◌, ◌≢◌, ℕ, All, Bool, true, List, [], length, string_bytes}
use Rattle.std.specs.Str.{IsUtf8}
use denote.Ref.{Bor}
use Rattle.grammar_tree.specs.Written.{WrittenGrammar}
use Rattle.grammar_tree.specs.Lexes.{PlacedToken}
use Rattle.token_print.specs.Spells.{SpellsTokens}
use Rattle.token_print.specs.declared.style.Skips.{Skips}
use Rattle.token_print.specs.declared.style.Style.{Style}
use Rattle.token_print.specs.Kept.{AreKept}
use Rattle.spell_shrink.specs.declared.spelled.Spelled.{Spelled}
use Rattle.spell_shrink.specs.Respelling.{Respelling}
use Rattle.spell_shrink.specs.Texts.{respelled_pieces, respelled_text}
use Rattle.spell_shrink.specs.inner.Changes.{IsCut, respelling_of_words, word_offsets}

-- its tokens with their spellings
abbrev pub respelling_of : Spelled → Respelling
respelling_of s = respelling_of_words s.kept.items s.words.items

module _ (G : WrittenGrammar) (skips : Skips) (start : List ℕ) (tokens : List PlacedToken) (style : Style) where
  -- Each kept token has a spelling, the text is that of the respelling, it is known where the spellings are in it, and where its pieces are marked it
  -- is cut into these tokens.
  pub record IsPrintOf (s : Spelled) : Type 0 where
    pub kept : AreKept tokens s.kept.items
    pub long : length s.words.items ≡ length s.kept.items
    pub utf8 : All (λ (w : Bor (List ℕ)). IsUtf8 w.now) s.words.items
    pub text_is : string_bytes s.text.text ≡ respelled_text skips start tokens style (respelling_of s)
    pub places_are : s.places.items ≡ word_offsets skips start tokens style (respelling_of s)
    pub cut : IsCut G s.text
    pub spells_it : s.text.marks.items ≢ [] → SpellsTokens G (string_bytes s.text.text) (respelled_pieces tokens (respelling_of s))

  -- The text is that of a respelling, and where this is said it is cut into its tokens.
  pub record IsTextOf (r : Respelling) (text : List ℕ) (keeps : Bool) : Type 0 where
    pub same : text ≡ respelled_text skips start tokens style r
    pub spells_it : keeps ≡ true → SpellsTokens G text (respelled_pieces tokens r)
