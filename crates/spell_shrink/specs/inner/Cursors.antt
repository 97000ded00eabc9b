-- Which spelling is tried, and for which token.
use Rattle.std.specs.Prelude.{◌≡◌, ◌≤◌, ◌<◌, ◌-◌, ℕ, suc, List, [], Option, Some, None, drop, length, map, slice_index_or}
use Rattle.std.specs.List.{between}
use Rattle.grammar_tree.specs.Lexes.{PlacedToken}
use Rattle.token_print.specs.Kept.{AreKept}
use Rattle.reduce_rounds.specs.Trials.{Trials, Done}
use Rattle.spell_shrink.specs.declared.cursor.Cursor.{Cursor}
use Rattle.spell_shrink.specs.declared.spelled.Spelled.{Spelled}
use Rattle.spell_shrink.specs.KindWords.{KindWord, bytes_of_kind, word_bytes_of}
use Rattle.spell_shrink.specs.Words.{shorter_than}
use Rattle.spell_shrink.specs.Respelling.{Respelling, kind_at, number_at, with_word_at, word_at}
use Rattle.spell_shrink.specs.Respelled.{spell_trials, word_trials}

-- each kept token is one of the tokens, and has a spelling
pub record AreChoices (tokens : List PlacedToken) (s : Spelled) : Type 0 where
  pub kept : AreKept tokens s.kept.items
  pub long : length s.words.items ≡ length s.kept.items

-- the spellings from the cursor on
abbrev pub words_at : List KindWord → Cursor → List (List ℕ)
words_at words cursor = map word_bytes_of (between cursor.next cursor.end words)

-- The cursor is at a token; the spellings from it on are the last ones of those that are shorter, of the token's kind.
pub record IsCursor (tokens : List PlacedToken) (words : List KindWord) (r : Respelling) (cursor : Cursor) : Type 0 where
  pub token : cursor.token < length r
  pub rises : cursor.next ≤ cursor.end
  pub within : cursor.end ≤ length words
  pub rest :
      let shorter = shorter_than (length (word_at r cursor.token)) (bytes_of_kind words (kind_at tokens (number_at r cursor.token))) in
      words_at words cursor ≡ drop (length shorter - length (words_at words cursor)) shorter

-- the respelling that is tried at the cursor
abbrev pub respelling_at : List KindWord → Respelling → Cursor → Respelling
respelling_at words r cursor = with_word_at r cursor.token (slice_index_or (map word_bytes_of words) cursor.next [])

module _ (start : List ℕ) (tokens : List PlacedToken) where
  -- what is tried from the cursor on; nothing where there is none
  abbrev pub trials_of : List KindWord → Respelling → Option Cursor → Trials Respelling
  trials_of words r None = Done
  trials_of words r (Some cursor) =
      word_trials (spell_trials start tokens (length r - suc cursor.token) (suc cursor.token)) r cursor.token (words_at words cursor)
