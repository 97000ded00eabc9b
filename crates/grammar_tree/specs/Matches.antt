-- Which texts the terms and rules of a lexer match (the lexer rules of ANTLR 4).
use Rattle.std.specs.Prelude.{◌≡◌, ℕ, Bool, true, false, ◌||◌, List, [], ◌∷◌, ◌++◌}
use Rattle.std.specs.List.{Contains}
use Rattle.grammar_tree.specs.Chars.{has}
use Rattle.grammar_tree.specs.Written.{LexerTerm, LexerSeq, LexerAlts, LexerRule}

mutual
  -- The text belongs to the regular language of the term, in a grammar with these lexer rules. A non-greedy
  -- loop is read here as a greedy one; `MatchesAlternative` says what being non-greedy takes away.
  pub data Matches (G : List LexerRule) : LexerTerm → List ℕ → Type 0 where
    -- a literal matches itself
    by_literal : (text : List ℕ) → Matches G (LexerTerm.literal text) text
    -- a set matches one of its characters
    by_set : (set : List (ℕ × ℕ)) (c : ℕ) → has set c ≡ true → Matches G (LexerTerm.set set) (c ∷ [])
    -- A name matches what the alternatives of its rule do, read greedily. In a well-formed grammar no
    -- rule that a name means is non-greedy, so that the name matches what its rule does.
    by_name : (name : List ℕ) (rule : LexerRule) (w : List ℕ) → Contains G rule → rule.name ≡ name → MatchesAlts G rule.alts w
        → Matches G (LexerTerm.name name) w
    -- a block matches what one of its alternatives does
    by_block : (a : LexerAlts) (w : List ℕ) → MatchesAlts G a w → Matches G (LexerTerm.block a) w
    -- `?` at most once
    by_absent : (t : LexerTerm) → Matches G (LexerTerm.opt t) []
    by_present : (t : LexerTerm) (w : List ℕ) → Matches G t w → Matches G (LexerTerm.opt t) w
    -- `*` any number of times
    by_star : (t : LexerTerm) (w : List ℕ) → MatchesMany G t w → Matches G (LexerTerm.star t) w
    -- `+` at least once
    by_plus : (t : LexerTerm) (u v : List ℕ) → Matches G t u → MatchesMany G t v → Matches G (LexerTerm.plus t) (u ++ v)
    -- `*?` any number of times
    by_short : (set : List (ℕ × ℕ)) (w : List ℕ) → MatchesMany G (LexerTerm.set set) w → Matches G (LexerTerm.short set) w

  -- The text is cut into any number of parts, each of which the term matches.
  pub data MatchesMany (G : List LexerRule) : LexerTerm → List ℕ → Type 0 where
    by_end : (t : LexerTerm) → MatchesMany G t []
    by_more : (t : LexerTerm) (u v : List ℕ) → Matches G t u → MatchesMany G t v → MatchesMany G t (u ++ v)

  -- The text is cut into parts that the terms match, in their order.
  pub data MatchesSeq (G : List LexerRule) : LexerSeq → List ℕ → Type 0 where
    by_done : MatchesSeq G LexerSeq.done []
    by_next : (t : LexerTerm) (s : LexerSeq) (u v : List ℕ) → Matches G t u → MatchesSeq G s v → MatchesSeq G (LexerSeq.next t s) (u ++ v)

  -- One of the alternatives matches the text.
  pub data MatchesAlts (G : List LexerRule) : LexerAlts → List ℕ → Type 0 where
    by_first : (s : LexerSeq) (a : LexerAlts) (w : List ℕ) → MatchesSeq G s w → MatchesAlts G (LexerAlts.or s a) w
    by_later : (s : LexerSeq) (a : LexerAlts) (w : List ℕ) → MatchesAlts G a w → MatchesAlts G (LexerAlts.or s a) w

-- there is a non-greedy loop in the term
abbrev mutual
  pub has_short : LexerTerm → Bool
  has_short (LexerTerm.literal t) = false
  has_short (LexerTerm.set s) = false
  has_short (LexerTerm.name n) = false
  has_short (LexerTerm.block a) = any_is_short a
  has_short (LexerTerm.opt t) = has_short t
  has_short (LexerTerm.star t) = has_short t
  has_short (LexerTerm.plus t) = has_short t
  has_short (LexerTerm.short s) = true

  -- the alternative is non-greedy: there is a non-greedy loop in it
  pub is_short : LexerSeq → Bool
  is_short LexerSeq.done = false
  is_short (LexerSeq.next t s) = has_short t || is_short s

  -- one of the alternatives is non-greedy
  pub any_is_short : LexerAlts → Bool
  any_is_short LexerAlts.none = false
  any_is_short (LexerAlts.or s a) = is_short s || any_is_short a

-- An alternative of a rule matches a text. A non-greedy one matches the texts that it would
-- match with a greedy loop, and that have no proper prefix which it would match so.
pub record MatchesAlternative (G : List LexerRule) (s : LexerSeq) (w : List ℕ) : Type 0 where
  pub greedily : MatchesSeq G s w
  pub shortest : is_short s ≡ true → (u v : List ℕ) → w ≡ u ++ v → MatchesSeq G s u → v ≡ []

-- A rule matches what one of its alternatives does.
pub data MatchesRule (G : List LexerRule) : LexerAlts → List ℕ → Type 0 where
  by_first : (s : LexerSeq) (a : LexerAlts) (w : List ℕ) → MatchesAlternative G s w → MatchesRule G (LexerAlts.or s a) w
  by_later : (s : LexerSeq) (a : LexerAlts) (w : List ℕ) → MatchesRule G a w → MatchesRule G (LexerAlts.or s a) w
