-- Which words may follow at each state of the reader.
use Rattle.std.proofs.Common.{ℕ, ◌≡◌, Bool, true, false, ◌&&◌, cond, List, [], ◌∷◌, Option, Some, None, refl, sym, ap, ◌∙◌}
use Rattle.std.specs.Str.{chars}
use Rattle.grammar_tree.specs.Written.{LexerTerm}
use Rattle.grammar_reader_words.specs.Names.{is}
use Rattle.grammar_reader_words.specs.declared.word.Word.{Word}
use Rattle.grammar_reader_words.specs.declared.word.Word.TheVariants as w
use Rattle.grammar_reader_notation.specs.Sets.{outside}
use Rattle.grammar_reader_notation.specs.Notation.{may_name_option}
use Rattle.grammar_reader_machine.specs.Machine as m
use Rattle.grammar_reader.specs.WordByWord.{run, and_then}
use Rattle.grammar_reader_notation.specs.Naming.{a_name, a_set}
use Rattle.grammar_reader.specs.Positions.{at_rule, at_colon, at_option, at_element, at_lex_element, no_block, may_command, at_arrow, after_loop, takes_action}
use Rattle.grammar_reader.proofs.Following.{reads, goes}

-- the words with which an alternative of a lexer rule may end
abbrev pub ends : Word → Bool
ends w.Bar = true
ends w.Semicolon = true
ends w.Close = true
ends w.Arrow = true
ends _ = false

pub no_end : (b : m.LexBody) (enclosing : List (m.Frame LexerTerm)) (word : Word) → ends word ≡ false → m.step_lex_end b enclosing word ≡ None
no_end b [] w.Bar e = cc e
no_end b [] w.Semicolon e = cc e
no_end b [] w.Close e = refl
no_end b [] w.Arrow e = cc e
no_end b [] _ e = refl
no_end b (f ∷ enclosing) w.Bar e = cc e
no_end b (f ∷ enclosing) w.Semicolon e = refl
no_end b (f ∷ enclosing) w.Close e = cc e
no_end b (f ∷ enclosing) w.Arrow e = refl
no_end b (f ∷ enclosing) _ e = refl

abbrev pub Read : m.LexBody → List (m.Frame LexerTerm) → Word → List Word → Type 0
Read b enclosing word words = reads (and_then (m.step_lex_end b enclosing word) (λ t. run 64 t words)) ≡ true

-- no other word does
pub stuck_at : (b : m.LexBody) (enclosing : List (m.Frame LexerTerm)) (word : Word) (words : List Word) → ends word ≡ false → Read b enclosing word words → ⊥
stuck_at b enclosing word words e h =
    let x : false ≡ true = sym (ap (λ o. reads (and_then o (λ t. run 64 t words))) (no_end b enclosing word e)) ∙ h in cc x

-- where a rule may begin

pub rule_goes : (s : m.State) → at_rule s ≡ true → goes s (w.Fragment ∷ []) ≡ true
rule_goes (m.AtPrequel g) e = refl
rule_goes (m.AtRule g) e = refl
rule_goes _ e = cc e

pub goes_rule : (s : m.State) → goes s (w.Fragment ∷ []) ≡ true → at_rule s ≡ true
goes_rule (m.InPath (m.InEntry g o)) e = cc e
goes_rule (m.InPath (m.InOpening b)) e = cc e
goes_rule (m.AfterValue (m.InEntry g o)) e = cc e
goes_rule (m.AfterValue (m.InOpening b)) e = cc e
goes_rule (m.InLex b) e = absurd (stuck_at b b.enclosing w.Fragment [] refl e)
goes_rule (m.LexSuffixed b) e = absurd (stuck_at b b.enclosing w.Fragment [] refl e)
goes_rule (m.AfterLexAtom b t) e = absurd (stuck_at (m.lex_add b t) b.enclosing w.Fragment [] refl e)
goes_rule (m.AfterLiteral b k) e = absurd (stuck_at (m.lex_add b (LexerTerm.literal k)) b.enclosing w.Fragment [] refl e)
goes_rule (m.AfterSet b s) e = absurd (stuck_at (m.lex_add b (LexerTerm.set s)) b.enclosing w.Fragment [] refl e)
goes_rule (m.AfterSetStar b s) e = absurd (stuck_at (m.lex_add b (LexerTerm.star (LexerTerm.set s))) b.enclosing w.Fragment [] refl e)
goes_rule (m.AfterItemChar b m.Alone c) e = absurd (stuck_at (m.lex_add b (LexerTerm.set (outside ((c, c) ∷ [])))) b.enclosing w.Fragment [] refl e)
goes_rule (m.AfterItemChar b (m.Listed ranges) c) e = cc e
goes_rule _ e = cc e

-- where a prequel may begin
pub goes_prequel : (s : m.State) → goes s (w.Tokens ∷ []) ≡ true → at_rule s ≡ true
goes_prequel (m.InPath (m.InEntry g o)) e = cc e
goes_prequel (m.InPath (m.InOpening b)) e = cc e
goes_prequel (m.AfterValue (m.InEntry g o)) e = cc e
goes_prequel (m.AfterValue (m.InOpening b)) e = cc e
goes_prequel (m.InLex b) e = absurd (stuck_at b b.enclosing w.Tokens [] refl e)
goes_prequel (m.LexSuffixed b) e = absurd (stuck_at b b.enclosing w.Tokens [] refl e)
goes_prequel (m.AfterLexAtom b t) e = absurd (stuck_at (m.lex_add b t) b.enclosing w.Tokens [] refl e)
goes_prequel (m.AfterLiteral b k) e = absurd (stuck_at (m.lex_add b (LexerTerm.literal k)) b.enclosing w.Tokens [] refl e)
goes_prequel (m.AfterSet b s) e = absurd (stuck_at (m.lex_add b (LexerTerm.set s)) b.enclosing w.Tokens [] refl e)
goes_prequel (m.AfterSetStar b s) e = absurd (stuck_at (m.lex_add b (LexerTerm.star (LexerTerm.set s))) b.enclosing w.Tokens [] refl e)
goes_prequel (m.AfterItemChar b m.Alone c) e = absurd (stuck_at (m.lex_add b (LexerTerm.set (outside ((c, c) ∷ [])))) b.enclosing w.Tokens [] refl e)
goes_prequel (m.AfterItemChar b (m.Listed ranges) c) e = cc e
goes_prequel _ e = cc e

-- where `:` may follow
pub colon_goes : (s : m.State) → at_colon s ≡ true → goes s (w.Colon ∷ []) ≡ true
colon_goes (m.AtHead g head) e = refl
colon_goes (m.AtColon g head) e = refl
colon_goes _ e = cc e

pub goes_colon : (s : m.State) → goes s (w.Colon ∷ []) ≡ true → at_colon s ≡ true
goes_colon (m.InPath (m.InEntry g o)) e = cc e
goes_colon (m.InPath (m.InOpening b)) e = cc e
goes_colon (m.AfterValue (m.InEntry g o)) e = cc e
goes_colon (m.AfterValue (m.InOpening b)) e = cc e
goes_colon (m.InLex b) e = absurd (stuck_at b b.enclosing w.Colon [] refl e)
goes_colon (m.LexSuffixed b) e = absurd (stuck_at b b.enclosing w.Colon [] refl e)
goes_colon (m.AfterLexAtom b t) e = absurd (stuck_at (m.lex_add b t) b.enclosing w.Colon [] refl e)
goes_colon (m.AfterLiteral b k) e = absurd (stuck_at (m.lex_add b (LexerTerm.literal k)) b.enclosing w.Colon [] refl e)
goes_colon (m.AfterSet b s) e = absurd (stuck_at (m.lex_add b (LexerTerm.set s)) b.enclosing w.Colon [] refl e)
goes_colon (m.AfterSetStar b s) e = absurd (stuck_at (m.lex_add b (LexerTerm.star (LexerTerm.set s))) b.enclosing w.Colon [] refl e)
goes_colon (m.AfterItemChar b m.Alone c) e = absurd (stuck_at (m.lex_add b (LexerTerm.set (outside ((c, c) ∷ [])))) b.enclosing w.Colon [] refl e)
goes_colon (m.AfterItemChar b (m.Listed ranges) c) e = cc e
goes_colon _ e = cc e

-- after a test
abbrev pub Reads : Option m.State → List Word → Type 0
Reads o words = reads (and_then o (λ t. run 64 t words)) ≡ true

pub tested : (b : Bool) (t : m.State) (words : List Word) → goes t words ≡ false → Reads (m.provided b t) words → ⊥
tested true t words h e = let x : false ≡ true = sym h ∙ e in cc x
tested false t words h e = cc e

pub commanded : (k : List ℕ) (b : m.LexBody) (t : Bool) (words : List Word) → goes (m.AfterCommand b) words ≡ false → goes (m.AtChannelOpen b) words ≡ false →
    Reads (cond t (Some (m.AfterCommand b)) (m.provided (is k "channel") (m.AtChannelOpen b))) words → ⊥
commanded k b true words h l e = let x : false ≡ true = sym h ∙ e in cc x
commanded k b false words h l e = tested (is k "channel") (m.AtChannelOpen b) words l e

-- where an option may be named
free_name : may_name_option a_name ≡ true
unfolding chars
free_name = refl

abbrev option_words : List Word
option_words = w.Equals ∷ w.Number ∷ w.Semicolon ∷ []

pub option_goes : (s : m.State) → at_option s ≡ true → goes s (w.Lower a_name ∷ option_words) ≡ true
option_goes (m.AtEntry g o) e = ap (λ b. reads (and_then (m.provided b (m.AtEntryEquals g o)) (λ t. run 64 t option_words))) free_name
option_goes _ e = cc e

pub goes_option : (s : m.State) → goes s (w.Lower a_name ∷ option_words) ≡ true → at_option s ≡ true
goes_option (m.AtEntry g o) e = refl
goes_option (m.AtValue (m.InEntry g o)) e = cc e
goes_option (m.AtValue (m.InOpening b)) e = cc e
goes_option (m.InPath (m.InEntry g o)) e = cc e
goes_option (m.InPath (m.InOpening b)) e = cc e
goes_option (m.AtPathName (m.InEntry g o)) e = cc e
goes_option (m.AtPathName (m.InOpening b)) e = cc e
goes_option (m.AfterValue (m.InEntry g o)) e = cc e
goes_option (m.AfterValue (m.InOpening b)) e = cc e
goes_option (m.InLex b) e = absurd (stuck_at b b.enclosing (w.Lower a_name) option_words refl e)
goes_option (m.LexSuffixed b) e = absurd (stuck_at b b.enclosing (w.Lower a_name) option_words refl e)
goes_option (m.AfterLexAtom b t) e = absurd (stuck_at (m.lex_add b t) b.enclosing (w.Lower a_name) option_words refl e)
goes_option (m.AfterLiteral b k) e = absurd (stuck_at (m.lex_add b (LexerTerm.literal k)) b.enclosing (w.Lower a_name) option_words refl e)
goes_option (m.AfterSet b s) e = absurd (stuck_at (m.lex_add b (LexerTerm.set s)) b.enclosing (w.Lower a_name) option_words refl e)
goes_option (m.AfterSetStar b s) e = absurd (stuck_at (m.lex_add b (LexerTerm.star (LexerTerm.set s))) b.enclosing (w.Lower a_name) option_words refl e)
goes_option (m.AfterItemChar b m.Alone c) e =
    absurd (stuck_at (m.lex_add b (LexerTerm.set (outside ((c, c) ∷ [])))) b.enclosing (w.Lower a_name) option_words refl e)
goes_option (m.AfterItemChar b (m.Listed ranges) c) e = cc e
goes_option (m.AtCommand b) e = absurd (commanded a_name b (is a_name "skip") option_words refl refl e)
goes_option _ e = cc e

-- where an element may begin
abbrev label_words : List Word
label_words = w.Equals ∷ w.Dot ∷ []

pub element_goes : (s : m.State) → at_element s ≡ true → goes s (w.Lower a_name ∷ label_words) ≡ true
element_goes (m.AtAlt b) e = refl
element_goes (m.InElements b) e = refl
element_goes (m.Suffixed b) e = refl
element_goes (m.AfterName b t) e = refl
element_goes (m.AfterAtom b t) e = refl
element_goes _ e = cc e

pub goes_element : (s : m.State) → goes s (w.Lower a_name ∷ label_words) ≡ true → at_element s ≡ true
goes_element (m.AtEntry g o) e = absurd (tested (may_name_option a_name) (m.AtEntryEquals g o) label_words refl e)
goes_element (m.AtValue (m.InEntry g o)) e = cc e
goes_element (m.AtValue (m.InOpening b)) e = cc e
goes_element (m.InPath (m.InEntry g o)) e = cc e
goes_element (m.InPath (m.InOpening b)) e = cc e
goes_element (m.AtPathName (m.InEntry g o)) e = cc e
goes_element (m.AtPathName (m.InOpening b)) e = cc e
goes_element (m.AfterValue (m.InEntry g o)) e = cc e
goes_element (m.AfterValue (m.InOpening b)) e = cc e
goes_element (m.InLex b) e = absurd (stuck_at b b.enclosing (w.Lower a_name) label_words refl e)
goes_element (m.LexSuffixed b) e = absurd (stuck_at b b.enclosing (w.Lower a_name) label_words refl e)
goes_element (m.AfterLexAtom b t) e = absurd (stuck_at (m.lex_add b t) b.enclosing (w.Lower a_name) label_words refl e)
goes_element (m.AfterLiteral b k) e = absurd (stuck_at (m.lex_add b (LexerTerm.literal k)) b.enclosing (w.Lower a_name) label_words refl e)
goes_element (m.AfterSet b s) e = absurd (stuck_at (m.lex_add b (LexerTerm.set s)) b.enclosing (w.Lower a_name) label_words refl e)
goes_element (m.AfterSetStar b s) e = absurd (stuck_at (m.lex_add b (LexerTerm.star (LexerTerm.set s))) b.enclosing (w.Lower a_name) label_words refl e)
goes_element (m.AfterItemChar b m.Alone c) e =
    absurd (stuck_at (m.lex_add b (LexerTerm.set (outside ((c, c) ∷ [])))) b.enclosing (w.Lower a_name) label_words refl e)
goes_element (m.AfterItemChar b (m.Listed ranges) c) e = cc e
goes_element (m.AtCommand b) e = absurd (commanded a_name b (is a_name "skip") label_words refl refl e)
goes_element _ e = cc e

abbrev set_words : List Word
set_words = w.Tilde ∷ w.Set a_set ∷ []

pub lex_element_goes : (s : m.State) → at_lex_element s ≡ true → goes s set_words ≡ true
lex_element_goes (m.InLex b) e = refl
lex_element_goes (m.LexSuffixed b) e = refl
lex_element_goes (m.AfterLexAtom b t) e = refl
lex_element_goes (m.AfterLiteral b k) e = refl
lex_element_goes (m.AfterSet b s) e = refl
lex_element_goes (m.AfterSetStar b s) e = refl
lex_element_goes (m.AfterItemChar b m.Alone c) e = refl
lex_element_goes (m.AfterItemChar b (m.Listed ranges) c) e = cc e
lex_element_goes _ e = cc e

pub goes_lex_element : (s : m.State) → goes s set_words ≡ true → at_lex_element s ≡ true
goes_lex_element (m.InPath (m.InEntry g o)) e = cc e
goes_lex_element (m.InPath (m.InOpening b)) e = cc e
goes_lex_element (m.AfterValue (m.InEntry g o)) e = cc e
goes_lex_element (m.AfterValue (m.InOpening b)) e = cc e
goes_lex_element (m.InLex b) e = refl
goes_lex_element (m.LexSuffixed b) e = refl
goes_lex_element (m.AfterLexAtom b t) e = refl
goes_lex_element (m.AfterLiteral b k) e = refl
goes_lex_element (m.AfterSet b s) e = refl
goes_lex_element (m.AfterSetStar b s) e = refl
goes_lex_element (m.AfterItemChar b m.Alone c) e = refl
goes_lex_element (m.AfterItemChar b (m.Listed ranges) c) e = cc e
goes_lex_element _ e = cc e

-- where `->` may follow
command_arrow : (t : m.State) (known : Option Bool) → reads (and_then (m.with_command known t) (λ u. Some u)) ≡ may_command known
command_arrow t None = refl
command_arrow t (Some true) = refl
command_arrow t (Some false) = refl

end_arrow : (b : m.LexBody) (enclosing : List (m.Frame LexerTerm))
    → reads (and_then (m.step_lex_end b enclosing w.Arrow) (λ u. Some u)) ≡ (no_block enclosing && may_command b.known)
end_arrow b [] = command_arrow (m.AtCommand b) b.known
end_arrow b (f ∷ enclosing) = refl

pub goes_arrow : (s : m.State) → goes s (w.Arrow ∷ []) ≡ at_arrow s
goes_arrow (m.InPath (m.InEntry g o)) = refl
goes_arrow (m.InPath (m.InOpening b)) = refl
goes_arrow (m.AfterValue (m.InEntry g o)) = refl
goes_arrow (m.AfterValue (m.InOpening b)) = refl
goes_arrow (m.InLex b) = end_arrow b b.enclosing
goes_arrow (m.LexSuffixed b) = end_arrow b b.enclosing
goes_arrow (m.AfterLexAtom b t) = end_arrow (m.lex_add b t) b.enclosing
goes_arrow (m.AfterLiteral b k) = end_arrow (m.lex_add b (LexerTerm.literal k)) b.enclosing
goes_arrow (m.AfterSet b s) = end_arrow (m.lex_add b (LexerTerm.set s)) b.enclosing
goes_arrow (m.AfterSetStar b s) = end_arrow (m.lex_add b (LexerTerm.star (LexerTerm.set s))) b.enclosing
goes_arrow (m.AfterItemChar b m.Alone c) = end_arrow (m.lex_add b (LexerTerm.set (outside ((c, c) ∷ [])))) b.enclosing
goes_arrow (m.AfterItemChar b (m.Listed ranges) c) = refl
goes_arrow (m.AltDone b) = command_arrow (m.AtCommand b) b.known
goes_arrow _ = refl

-- where an action may be
pub bar_acts : (s : m.State) → goes s (w.Bar ∷ []) ≡ true → takes_action s ≡ true
bar_acts (m.InPath (m.InEntry g o)) e = cc e
bar_acts (m.InPath (m.InOpening b)) e = cc e
bar_acts (m.AfterValue (m.InEntry g o)) e = cc e
bar_acts (m.AfterValue (m.InOpening b)) e = cc e
bar_acts _ e = cc e

pub semicolon_acts : (s : m.State) → goes s (w.Semicolon ∷ []) ≡ true → takes_action s ≡ true
semicolon_acts (m.InPath (m.InEntry g o)) e = cc e
semicolon_acts (m.InPath (m.InOpening b)) e = cc e
semicolon_acts (m.AfterValue (m.InEntry g o)) e = cc e
semicolon_acts (m.AfterValue (m.InOpening b)) e = cc e
semicolon_acts _ e = cc e

pub arrow_acts : (s : m.State) → goes s (w.Arrow ∷ []) ≡ true → takes_action s ≡ true
arrow_acts (m.InPath (m.InEntry g o)) e = cc e
arrow_acts (m.InPath (m.InOpening b)) e = cc e
arrow_acts (m.AfterValue (m.InEntry g o)) e = cc e
arrow_acts (m.AfterValue (m.InOpening b)) e = cc e
arrow_acts _ e = cc e

pub element_acts : (s : m.State) → at_element s ≡ true → takes_action s ≡ true
element_acts (m.AtAlt b) e = refl
element_acts _ e = cc e

pub lex_element_acts : (s : m.State) → at_lex_element s ≡ true → takes_action s ≡ true
lex_element_acts (m.InLex b) e = refl
lex_element_acts _ e = cc e

pub loop_acts : (s : m.State) → after_loop s ≡ true → takes_action s ≡ true
loop_acts (m.AfterLoop b s) e = refl
loop_acts _ e = cc e

pub data Acts (s : m.State) : Type 0 where
  by_element : at_element s ≡ true → Acts s
  by_lex_element : at_lex_element s ≡ true → Acts s
  by_loop : after_loop s ≡ true → Acts s
  by_bar : goes s (w.Bar ∷ []) ≡ true → Acts s
  by_semicolon : goes s (w.Semicolon ∷ []) ≡ true → Acts s
  by_arrow : goes s (w.Arrow ∷ []) ≡ true → Acts s

done_acts : (b : m.LexBody) (known : Option Bool) → b.known ≡ known → Acts (m.AltDone b)
done_acts b None e = by_bar (ap (λ k. reads (and_then (m.without_command k (m.next_top b false)) (λ t. Some t))) e)
done_acts b (Some true) e = by_arrow (ap (λ k. reads (and_then (m.with_command k (m.AtCommand b)) (λ t. Some t))) e)
done_acts b (Some false) e = by_bar (ap (λ k. reads (and_then (m.without_command k (m.next_top b false)) (λ t. Some t))) e)

pub acts : (s : m.State) → takes_action s ≡ true → Acts s
acts (m.AtSemicolon n) e = by_semicolon refl
acts (m.InPath (m.InEntry g o)) e = by_semicolon refl
acts (m.InPath (m.InOpening b)) e = cc e
acts (m.AfterValue (m.InEntry g o)) e = by_semicolon refl
acts (m.AfterValue (m.InOpening b)) e = cc e
acts (m.AtAlt b) e = by_element refl
acts (m.InElements b) e = by_element refl
acts (m.Suffixed b) e = by_element refl
acts (m.AfterName b t) e = by_element refl
acts (m.AfterAtom b t) e = by_element refl
acts (m.AfterRef b rs) e = by_bar refl
acts (m.AfterAltName b) e = by_bar refl
acts (m.InLex b) e = by_lex_element refl
acts (m.LexSuffixed b) e = by_lex_element refl
acts (m.AfterLexAtom b t) e = by_lex_element refl
acts (m.AfterLiteral b k) e = by_lex_element refl
acts (m.AfterSet b s) e = by_lex_element refl
acts (m.AfterSetStar b s) e = by_lex_element refl
acts (m.AfterLoop b s) e = by_loop refl
acts (m.AltDone b) e = done_acts b b.known refl
acts (m.AfterItemChar b m.Alone c) e = by_lex_element refl
acts (m.AfterItemChar b (m.Listed ranges) c) e = by_bar refl
acts (m.AfterItem b ranges) e = by_bar refl
acts (m.AfterCommand b) e = by_bar refl
acts _ e = cc e
