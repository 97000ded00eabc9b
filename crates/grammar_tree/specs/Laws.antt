-- What follows from the definitions, for the proofs of other crates.
use Rattle.std.specs.Prelude.{◌≡◌, ◌≢◌, ◌↔◌, ◌⊎◌, ℕ, true, false, not, ⊤, List, [], ◌∷◌, ◌++◌, Option, Some, slice_get}
use Rattle.std.specs.List.{Contains, flat_map}
use Rattle.grammar_tree.specs.Chars.{HasExactlyChars, IsCharSet, has}
use Rattle.grammar_tree.specs.Written.{LexerTerm, LexerSeq, LexerAlts, LexerRule, WrittenGrammar}
use Rattle.grammar_tree.specs.Matches.{Matches, MatchesAlternative, MatchesAlts, MatchesRule, MatchesSeq, any_is_short, is_short}
use Rattle.grammar_tree.specs.Kinds.{parser_rules}
use Rattle.grammar_tree.specs.Derives.{Term, Seq, Alts, Derives, DerivesSeq, DerivesAlts, bodies, resolved_alts}
use Rattle.grammar_tree.specs.Corners.{HasEmptyLoopAlts, IsLeftCorner, bases, rests}
use Rattle.grammar_tree.specs.Faults.{AtLexerRule, AtParserRule, EmptyLoop, EmptyToken, EofPlace, FragmentLoop, IsUnknown, IsWellFormed, LeftRecursion, NameUse}
use Rattle.grammar_tree.specs.Faults.{NoBase, NoStart, ShortUse, TooManyRules, TwoRules, is_misplaced, name_uses, number_at, start_of}
use Rattle.grammar_tree.specs.Lexes.{Lexes, LexesTo, Piece, StopsAt}

-- The text or list is cut in two, and each part is of its kind.
abbrev pub CutsInto : (List ℕ → Type 0) → (List ℕ → Type 0) → List ℕ → Type 0
CutsInto First Second w = (u : List ℕ) × (v : List ℕ) × (w ≡ u ++ v) × First u × Second v

-- Two sets with the same characters are equal.
abbrev pub SameCharsSameSet : Type 0
SameCharsSameSet = (s t : List (ℕ × ℕ)) → IsCharSet s → IsCharSet t → HasExactlyChars s (has t) → s ≡ t

-- The complement of the complement of a set is the set.
abbrev pub ComplementTwice : Type 0
ComplementTwice = (s t u : List (ℕ × ℕ)) → IsCharSet s → IsCharSet u →
    HasExactlyChars t (λ c. not (has s c)) → HasExactlyChars u (λ c. not (has t c)) → u ≡ s

-- How a lexer term matches, by its form. Each is an equivalence, so nothing else matches.
pub record MatchesByForm (G : List LexerRule) : Type 0 where
  -- a literal matches itself
  pub literal : (t w : List ℕ) → Matches G (LexerTerm.literal t) w ↔ (w ≡ t)
  -- a set matches one of its characters
  pub set : (s : List (ℕ × ℕ)) (w : List ℕ) → Matches G (LexerTerm.set s) w ↔ ((c : ℕ) × (w ≡ c ∷ []) × (has s c ≡ true))
  -- a name matches what the alternatives of its rule do
  pub name : (n w : List ℕ) → Matches G (LexerTerm.name n) w ↔ ((rule : LexerRule) × Contains G rule × (rule.name ≡ n) × MatchesAlts G rule.alts w)
  -- a block matches what its alternatives do
  pub block : (a : LexerAlts) (w : List ℕ) → Matches G (LexerTerm.block a) w ↔ MatchesAlts G a w
  -- `?` matches the empty text, and what its term does
  pub opt : (t : LexerTerm) (w : List ℕ) → Matches G (LexerTerm.opt t) w ↔ ((w ≡ []) ⊎ Matches G t w)
  -- a star matches the empty text, and its term with a star after it
  pub star : (t : LexerTerm) (w : List ℕ) → Matches G (LexerTerm.star t) w ↔ ((w ≡ []) ⊎ CutsInto (Matches G t) (Matches G (LexerTerm.star t)) w)
  -- a plus matches its term with a star after it
  pub plus : (t : LexerTerm) (w : List ℕ) → Matches G (LexerTerm.plus t) w ↔ CutsInto (Matches G t) (Matches G (LexerTerm.star t)) w
  -- greedily a non-greedy loop matches what the star of its set does
  pub short : (s : List (ℕ × ℕ)) (w : List ℕ) → Matches G (LexerTerm.short s) w ↔ Matches G (LexerTerm.star (LexerTerm.set s)) w
  -- nothing matches the empty text
  pub done : (w : List ℕ) → MatchesSeq G LexerSeq.done w ↔ (w ≡ [])
  -- a sequence matches what is cut into what its first term matches and what the rest does
  pub next : (t : LexerTerm) (s : LexerSeq) (w : List ℕ) → MatchesSeq G (LexerSeq.next t s) w ↔ CutsInto (Matches G t) (MatchesSeq G s) w
  -- no alternatives match nothing
  pub none : (w : List ℕ) → ¬ MatchesAlts G LexerAlts.none w
  -- alternatives match what the first does and what the others do
  pub or : (s : LexerSeq) (a : LexerAlts) (w : List ℕ) → MatchesAlts G (LexerAlts.or s a) w ↔ (MatchesSeq G s w ⊎ MatchesAlts G a w)

-- A non-greedy alternative matches no text that goes on from another text that it matches.
abbrev pub ShortestIsMatched : Type 0
ShortestIsMatched = (G : List LexerRule) (s : LexerSeq) (u v : List ℕ) → is_short s ≡ true →
    MatchesAlternative G s u → MatchesAlternative G s (u ++ v) → v ≡ []

-- What a rule matches, its alternatives match greedily; and where no alternative is non-greedy, that is all.
pub record RulesMatchGreedily (G : List LexerRule) : Type 0 where
  pub within : (a : LexerAlts) (w : List ℕ) → MatchesRule G a w → MatchesAlts G a w
  pub all : (a : LexerAlts) (w : List ℕ) → any_is_short a ≡ false → MatchesAlts G a w → MatchesRule G a w

-- How a rule matches: as one of its alternatives, each as itself.
pub record RulesMatchByForm (G : List LexerRule) : Type 0 where
  pub none : (w : List ℕ) → ¬ MatchesRule G LexerAlts.none w
  pub or : (s : LexerSeq) (a : LexerAlts) (w : List ℕ) → MatchesRule G (LexerAlts.or s a) w ↔ (MatchesAlternative G s w ⊎ MatchesRule G a w)

-- How a term of a parser rule derives, by its form. Each is an equivalence, so nothing else is derived.
pub record DerivesByForm (G : List Alts) : Type 0 where
  -- a kind derives itself
  pub kind : (k : ℕ) (w : List ℕ) → Derives G (Term.kind k) w ↔ (w ≡ k ∷ [])
  -- a set derives one of its kinds
  pub among : (ks w : List ℕ) → Derives G (Term.among ks) w ↔ ((k : ℕ) × (w ≡ k ∷ []) × Contains ks k)
  -- a rule derives what its alternatives do, and a number that no rule has derives nothing
  pub rule : (r : ℕ) (w : List ℕ) → Derives G (Term.rule r) w ↔ ((a : Alts) × (slice_get G r ≡ Some a) × DerivesAlts G a w)
  -- so does a block
  pub block : (a : Alts) (w : List ℕ) → Derives G (Term.block a) w ↔ DerivesAlts G a w
  -- `?` derives the empty list, and what its term does
  pub opt : (t : Term) (w : List ℕ) → Derives G (Term.opt t) w ↔ ((w ≡ []) ⊎ Derives G t w)
  -- a star derives the empty list, and its term with a star after it
  pub star : (t : Term) (w : List ℕ) → Derives G (Term.star t) w ↔ ((w ≡ []) ⊎ CutsInto (Derives G t) (Derives G (Term.star t)) w)
  -- a plus derives its term with a star after it
  pub plus : (t : Term) (w : List ℕ) → Derives G (Term.plus t) w ↔ CutsInto (Derives G t) (Derives G (Term.star t)) w
  -- `EOF` derives the empty list
  pub eof : (w : List ℕ) → Derives G Term.eof w ↔ (w ≡ [])
  -- nothing derives the empty list
  pub done : (w : List ℕ) → DerivesSeq G Seq.done w ↔ (w ≡ [])
  -- a sequence derives what is cut into what its first term derives and what the rest does
  pub next : (t : Term) (s : Seq) (w : List ℕ) → DerivesSeq G (Seq.next t s) w ↔ CutsInto (Derives G t) (DerivesSeq G s) w
  -- no alternatives derive nothing
  pub none : (w : List ℕ) → ¬ DerivesAlts G Alts.none w
  -- alternatives derive what the first does and what the others do
  pub or : (s : Seq) (a : Alts) (w : List ℕ) → DerivesAlts G (Alts.or s a) w ↔ (DerivesSeq G s w ⊎ DerivesAlts G a w)

-- A rule derives what one of its bases does, followed by any number of its rests.
abbrev pub BaseThenRests : Type 0
BaseThenRests = (G : List Alts) (r : ℕ) (a : Alts) (w : List ℕ) → slice_get G r ≡ Some a →
    Derives G (Term.rule r) w ↔ CutsInto (DerivesAlts G (bases r a)) (Derives G (Term.star (Term.block (rests r a)))) w

-- The pieces that a text is cut into, one after another, are the text.
abbrev pub PiecesCover : Type 0
PiecesCover = (G : WrittenGrammar) (text : List ℕ) (pieces : List Piece) → Lexes G text pieces → flat_map (λ (p : Piece). p.text) pieces ≡ text

-- A text is cut into pieces in one way at most.
abbrev pub LexesOneWay : Type 0
LexesOneWay = (G : WrittenGrammar) (text : List ℕ) (pieces others : List Piece) → Lexes G text pieces → Lexes G text others → pieces ≡ others

-- From a text to the same rest the pieces are read in one way at most.
abbrev pub ReadsOneWay : Type 0
ReadsOneWay = (G : WrittenGrammar) (text left : List ℕ) (pieces others : List Piece) → LexesTo G text pieces left → LexesTo G text others left → pieces ≡ others

-- A text that is cut into pieces has no offset where the reading stops.
abbrev pub LexedStopsNowhere : Type 0
LexedStopsNowhere = (G : WrittenGrammar) (text : List ℕ) (pieces : List Piece) (offset : ℕ) → Lexes G text pieces → ¬ StopsAt G text offset

-- The reading stops at one offset at most.
abbrev pub StopsOnce : Type 0
StopsOnce = (G : WrittenGrammar) (text : List ℕ) (offset other : ℕ) → StopsAt G text offset → StopsAt G text other → offset ≡ other

-- The place of the start rule has a parser rule, which has the wanted name.
abbrev pub StartIsThere : Type 0
StartIsThere = (G : WrittenGrammar) (wanted : Option (List ℕ)) (i : ℕ) → start_of G wanted ≡ Some i →
    AtParserRule G i (λ rule. (name : List ℕ) → wanted ≡ Some name → rule.name ≡ name)

-- Some grammar is well-formed.
abbrev pub SomeIsWellFormed : Type 0
SomeIsWellFormed = (G : WrittenGrammar) × (start : ℕ) × IsWellFormed G start

-- Each fault holds of some grammar, in each of its forms.
pub record EachFaultCanHold : Type 0 where
  pub two_rules : (G : WrittenGrammar) × (name : List ℕ) × TwoRules G name
  -- a name in a parser rule, and one in a lexer rule
  pub no_rule : (G : WrittenGrammar) × (name : List ℕ) × Contains (name_uses G) (NameUse.by_parser_rule name) × IsUnknown G (NameUse.by_parser_rule name)
  pub no_lexer_rule : (G : WrittenGrammar) × (name : List ℕ) × Contains (name_uses G) (NameUse.by_lexer_rule name) × IsUnknown G (NameUse.by_lexer_rule name)
  -- no parser rule at all, and none of the wanted name
  pub no_parser_rule : (G : WrittenGrammar) × (wanted : Option (List ℕ)) × (parser_rules G.rules ≡ []) × NoStart G wanted []
  pub no_start : (G : WrittenGrammar) × (name : List ℕ) × (parser_rules G.rules ≢ []) × NoStart G (Some name) name
  -- `EOF` before another part, and at the end of a rule that another rule uses
  pub eof_first : (G : WrittenGrammar) × (start : ℕ) × EofPlace G start start
  pub eof_within : (G : WrittenGrammar) × (start : ℕ) × (i : ℕ) × AtParserRule G i (λ rule. is_misplaced rule.alts ≡ false) × EofPlace G start i
  pub fragment_loop : (G : WrittenGrammar) × (i : ℕ) × FragmentLoop G i
  pub short_use : (G : WrittenGrammar) × (i : ℕ) × ShortUse G i
  pub empty_token : (G : WrittenGrammar) × (i : ℕ) × EmptyToken G i
  pub no_base : (G : WrittenGrammar) × (i : ℕ) × NoBase G i
  -- a star over what can be empty, a rest that can be empty, and a star in a lexer rule
  pub empty_star : (G : WrittenGrammar) × (i : ℕ) × AtParserRule G i (λ rule. rests (number_at G i) (resolved_alts G rule.alts) ≡ Alts.none) × EmptyLoop G i
  pub empty_rest : (G : WrittenGrammar) × (i : ℕ) × AtParserRule G i (λ rule. ¬ HasEmptyLoopAlts (bodies G) (resolved_alts G rule.alts)) × EmptyLoop G i
  pub empty_lexer_star : (G : WrittenGrammar) × (i : ℕ) × AtLexerRule G i (λ rule. ⊤) × EmptyLoop G i
  -- through another rule, and of a rule that is its own left corner: after a part that can be empty
  pub left_recursion : (G : WrittenGrammar) × (i : ℕ) × (¬ IsLeftCorner (bodies G) (number_at G i) (number_at G i)) × LeftRecursion G i
  pub hidden_left_recursion : (G : WrittenGrammar) × (i : ℕ) × IsLeftCorner (bodies G) (number_at G i) (number_at G i) × LeftRecursion G i
  pub too_many_rules : (G : WrittenGrammar) × (count : ℕ) × TooManyRules G count
