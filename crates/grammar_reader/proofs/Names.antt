-- Where the name of a rule may be.
use Rattle.std.proofs.Common.{ℕ, ◌≡◌, Bool, true, false, cond, List, [], ◌∷◌, ◌++◌, Some, None, refl, sym, ap, ◌∙◌}
use Rattle.grammar_tree.specs.Written.{Reference, WrittenTerm, LexerTerm}
use Rattle.grammar_reader_words.specs.Names.{is}
use Rattle.grammar_reader_words.specs.declared.word.Word.{Word}
use Rattle.grammar_reader_words.specs.declared.word.Word.TheVariants as w
use Rattle.grammar_reader_notation.specs.Sets.{outside}
use Rattle.grammar_reader_notation.specs.Notation.{is_eof, may_name_option}
use Rattle.grammar_reader_machine.specs.Machine as m
use Rattle.grammar_reader.specs.WordByWord.{and_then}
use Rattle.grammar_reader.specs.Positions.{after_name}
use Rattle.grammar_reader.proofs.Following.{reads, goes}
use Rattle.grammar_reader.proofs.Going.{no_end, stuck_at, Reads, tested, commanded}
use Rattle.grammar_reader.proofs.Known.{IsBetween, at_prequel, at_rule, at_fragment}

-- after a test
untested : (b : Bool) (t : m.State) (words : List Word) → goes t words ≡ false → Reads (cond b None (Some t)) words → ⊥
untested true t words h e = cc e
untested false t words h e = let x : false ≡ true = sym h ∙ e in cc x

-- `:` in an alternative
after_colon : (b : m.LexBody) (k : List ℕ) → goes (m.AfterLexAtom b (LexerTerm.name k)) (w.Colon ∷ []) ≡ false
after_colon b k = let c : m.LexBody = m.lex_add b (LexerTerm.name k) in ap (λ o. reads (and_then o (λ t. Some t))) (no_end c b.enclosing w.Colon refl)

pub lower_between : (s : m.State) (k : List ℕ) → goes s (w.Lower k ∷ w.Colon ∷ []) ≡ true → IsBetween s
lower_between (m.AtPrequel g) k e = at_prequel g
lower_between (m.AtRule g) k e = at_rule g
lower_between (m.AtFragmentName g) k e = at_fragment g
lower_between (m.AtEntry g o) k e = absurd (tested (may_name_option k) (m.AtEntryEquals g o) (w.Colon ∷ []) refl e)
lower_between (m.AtValue (m.InEntry g o)) k e = cc e
lower_between (m.AtValue (m.InOpening b)) k e = cc e
lower_between (m.InPath (m.InEntry g o)) k e = cc e
lower_between (m.InPath (m.InOpening b)) k e = cc e
lower_between (m.AtPathName (m.InEntry g o)) k e = cc e
lower_between (m.AtPathName (m.InOpening b)) k e = cc e
lower_between (m.AfterValue (m.InEntry g o)) k e = cc e
lower_between (m.AfterValue (m.InOpening b)) k e = cc e
lower_between (m.InLex b) k e = absurd (stuck_at b b.enclosing (w.Lower k) (w.Colon ∷ []) refl e)
lower_between (m.LexSuffixed b) k e = absurd (stuck_at b b.enclosing (w.Lower k) (w.Colon ∷ []) refl e)
lower_between (m.AfterLexAtom b t) k e = absurd (stuck_at (m.lex_add b t) b.enclosing (w.Lower k) (w.Colon ∷ []) refl e)
lower_between (m.AfterLiteral b t) k e = absurd (stuck_at (m.lex_add b (LexerTerm.literal t)) b.enclosing (w.Lower k) (w.Colon ∷ []) refl e)
lower_between (m.AfterSet b s) k e = absurd (stuck_at (m.lex_add b (LexerTerm.set s)) b.enclosing (w.Lower k) (w.Colon ∷ []) refl e)
lower_between (m.AfterSetStar b s) k e = absurd (stuck_at (m.lex_add b (LexerTerm.star (LexerTerm.set s))) b.enclosing (w.Lower k) (w.Colon ∷ []) refl e)
lower_between (m.AfterItemChar b m.Alone c) k e =
    absurd (stuck_at (m.lex_add b (LexerTerm.set (outside ((c, c) ∷ [])))) b.enclosing (w.Lower k) (w.Colon ∷ []) refl e)
lower_between (m.AfterItemChar b (m.Listed ranges) c) k e = cc e
lower_between (m.AtCommand b) k e = absurd (commanded k b (is k "skip") (w.Colon ∷ []) refl refl e)
lower_between _ k e = cc e

pub upper_between : (s : m.State) (k : List ℕ) → goes s (w.Upper k ∷ w.Colon ∷ []) ≡ true → IsBetween s
upper_between (m.AtPrequel g) k e = at_prequel g
upper_between (m.AtRule g) k e = at_rule g
upper_between (m.AtFragmentName g) k e = at_fragment g
upper_between (m.AtEntry g o) k e = absurd (tested (may_name_option k) (m.AtEntryEquals g o) (w.Colon ∷ []) refl e)
upper_between (m.AtValue (m.InEntry g o)) k e = cc e
upper_between (m.AtValue (m.InOpening b)) k e = cc e
upper_between (m.InPath (m.InEntry g o)) k e = cc e
upper_between (m.InPath (m.InOpening b)) k e = cc e
upper_between (m.AtPathName (m.InEntry g o)) k e = cc e
upper_between (m.AtPathName (m.InOpening b)) k e = cc e
upper_between (m.AfterValue (m.InEntry g o)) k e = cc e
upper_between (m.AfterValue (m.InOpening b)) k e = cc e
upper_between (m.AtRef b) k e = absurd (untested (is_eof k) (m.AfterAtom b (WrittenTerm.but (Reference.name k ∷ []))) (w.Colon ∷ []) refl e)
upper_between (m.AtRefIn b rs) k e = absurd (untested (is_eof k) (m.AfterRef b (rs ++ Reference.name k ∷ [])) (w.Colon ∷ []) refl e)
upper_between (m.InLex b) k e = absurd (untested (is_eof k) (m.AfterLexAtom b (LexerTerm.name k)) (w.Colon ∷ []) (after_colon b k) e)
upper_between (m.LexSuffixed b) k e = absurd (untested (is_eof k) (m.AfterLexAtom b (LexerTerm.name k)) (w.Colon ∷ []) (after_colon b k) e)
upper_between (m.AfterLexAtom b t) k e = let c : m.LexBody =
    m.lex_add b t in absurd (untested (is_eof k) (m.AfterLexAtom c (LexerTerm.name k)) (w.Colon ∷ []) (after_colon c k) e)
upper_between (m.AfterLiteral b t) k e = let c : m.LexBody =
    m.lex_add b (LexerTerm.literal t) in absurd (untested (is_eof k) (m.AfterLexAtom c (LexerTerm.name k)) (w.Colon ∷ []) (after_colon c k) e)
upper_between (m.AfterSet b s) k e = let c : m.LexBody =
    m.lex_add b (LexerTerm.set s) in absurd (untested (is_eof k) (m.AfterLexAtom c (LexerTerm.name k)) (w.Colon ∷ []) (after_colon c k) e)
upper_between (m.AfterSetStar b s) k e =
    let c : m.LexBody =
    m.lex_add b (LexerTerm.star (LexerTerm.set s)) in absurd (untested (is_eof k) (m.AfterLexAtom c (LexerTerm.name k)) (w.Colon ∷ []) (after_colon c k) e)
upper_between (m.AfterItemChar b m.Alone a) k e =
    let c : m.LexBody =
    m.lex_add b (LexerTerm.set (outside ((a, a) ∷ []))) in absurd (untested (is_eof k) (m.AfterLexAtom c (LexerTerm.name k)) (w.Colon ∷ []) (after_colon c k) e)
upper_between (m.AfterItemChar b (m.Listed ranges) c) k e = cc e
upper_between (m.AtChannelName b) k e = absurd (tested (is k "HIDDEN") (m.AtChannelClose b) (w.Colon ∷ []) refl e)
upper_between _ k e = cc e

same_after_name : {s t : m.State} → Some s ≡ Some t → after_name s ≡ true → after_name t ≡ true
same_after_name {s} {t} e h = let f : t ≡ s = cc e in ap after_name f ∙ h

pub lower_heads : (k : List ℕ) {s : m.State} (t : m.State) → IsBetween s → m.step 64 s (w.Lower k) ≡ Some t → after_name t ≡ true
lower_heads k t (at_prequel g) e = same_after_name e refl
lower_heads k t (at_rule g) e = same_after_name e refl
lower_heads k t (at_fragment g) e = cc e
