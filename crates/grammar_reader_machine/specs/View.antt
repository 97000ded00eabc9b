-- What is seen of the reader's state.
use Rattle.std.specs.Prelude.{◌≡◌, List, [], ◌∷◌, map, Vec, Option, Some, None, Result, Ok, Err}
use Rattle.std.specs.declared.alloc.Global.{Global}
use Rattle.grammar_tree.specs.Written.{Reference, WrittenTerm, LexerTerm}
use Rattle.grammar_tree.specs.View.{lex_alts, lex_term, lex_terms, parser_alts, parser_term, parser_terms, token_ref}
use Rattle.faults.specs.declared.Memory.{Memory}
use Rattle.grammar_tree.specs.declared.parser_term.TokenRef.{TokenRef}
use Rattle.grammar_tree.specs.GrammarView.{grammar_of}
use Rattle.grammar_reader_machine.specs.declared.frame.Frame.{Frame}
use Rattle.grammar_reader_machine.specs.declared.frame.LexFrame.{LexFrame}
use Rattle.grammar_reader_machine.specs.declared.state.Head.{Head}
use Rattle.grammar_reader_machine.specs.declared.state.Head.TheVariants as h
use Rattle.grammar_reader_machine.specs.declared.state.Owner.{Owner}
use Rattle.grammar_reader_machine.specs.declared.state.Owner.TheVariants as o
use Rattle.grammar_reader_machine.specs.declared.state.ValueOf.{ValueOf}
use Rattle.grammar_reader_machine.specs.declared.state.ValueOf.TheVariants as v
use Rattle.grammar_reader_machine.specs.declared.state.Body.{Body}
use Rattle.grammar_reader_machine.specs.declared.state.LexBody.{LexBody}
use Rattle.grammar_reader_machine.specs.declared.state.ParserPosition.{ParserPosition}
use Rattle.grammar_reader_machine.specs.declared.state.ParserPosition.TheVariants as p
use Rattle.grammar_reader_machine.specs.declared.state.ItemPosition.{ItemPosition}
use Rattle.grammar_reader_machine.specs.declared.state.ItemPosition.TheVariants as i
use Rattle.grammar_reader_machine.specs.declared.state.LexerPosition.{LexerPosition}
use Rattle.grammar_reader_machine.specs.declared.state.LexerPosition.TheVariants as l
use Rattle.grammar_reader_machine.specs.declared.state.TopBody.{TopBody}
use Rattle.grammar_reader_machine.specs.declared.state.EndPosition.{EndPosition}
use Rattle.grammar_reader_machine.specs.declared.state.EndPosition.TheVariants as q
use Rattle.grammar_reader_machine.specs.declared.state.State.{State}
use Rattle.grammar_reader_machine.specs.declared.state.State.TheVariants as s
use Rattle.grammar_reader_machine.specs.Machine as m

abbrev pub frame_of : Frame → m.Frame WrittenTerm
frame_of f = record { alts = parser_alts f.alts; terms = parser_terms f.terms }

abbrev pub lex_frame_of : LexFrame → m.Frame LexerTerm
lex_frame_of f = record { alts = lex_alts f.alts; terms = lex_terms f.terms }

-- the innermost first
abbrev pub frames_around : List (m.Frame WrittenTerm) → List Frame → List (m.Frame WrittenTerm)
frames_around inner [] = inner
frames_around inner (f ∷ fs) = frames_around (frame_of f ∷ inner) fs

abbrev pub lex_frames_around : List (m.Frame LexerTerm) → List LexFrame → List (m.Frame LexerTerm)
lex_frames_around inner [] = inner
lex_frames_around inner (f ∷ fs) = lex_frames_around (lex_frame_of f ∷ inner) fs

abbrev pub head_of : Head → m.Head
head_of (h.Parser name) = m.ParserHead name
head_of (h.Lexer name fragment) = m.LexerHead name fragment

abbrev pub owner_of : Owner → m.Owner
owner_of o.Text = m.OfText
owner_of (o.Rule head) = m.OfRule (head_of head)

abbrev pub body_of : Body → m.Body
body_of b =
    record {
      text = grammar_of b.grammar;
      name = b.name;
      blocks_left = b.blocks_left;
      enclosing = frames_around [] b.enclosing.items;
      current = frame_of b.current;
    }

abbrev pub lex_body_of : LexBody → m.LexBody
lex_body_of b =
    record {
      text = grammar_of b.grammar;
      name = b.name;
      fragment = b.fragment;
      known = b.known;
      blocks_left = b.blocks_left;
      enclosing = lex_frames_around [] b.enclosing.items;
      current = lex_frame_of b.current;
    }

abbrev pub value_of : ValueOf → m.ValueOf
value_of (v.Entry g owner) = m.InEntry (grammar_of g) (owner_of owner)
value_of (v.Opening b) = m.InOpening (body_of b)

abbrev pub refs_of : Vec TokenRef Global → List Reference
refs_of refs = map token_ref refs.items

abbrev pub parser_state : m.Body → ParserPosition → m.State
parser_state b p.Alt = m.AtAlt b
parser_state b p.OpeningName = m.AtOpeningName b
parser_state b p.OpeningEquals = m.AtOpeningEquals b
parser_state b p.Elements = m.InElements b
parser_state b p.Suffixed = m.Suffixed b
parser_state b (p.Name t) = m.AfterName b (parser_term t)
parser_state b p.Atom = m.AtAtom b
parser_state b (p.After t) = m.AfterAtom b (parser_term t)
parser_state b p.Ref = m.AtRef b
parser_state b (p.RefIn refs) = m.AtRefIn b (refs_of refs)
parser_state b (p.AfterRef refs) = m.AfterRef b (refs_of refs)
parser_state b p.AltName = m.AtAltName b
parser_state b p.AfterAltName = m.AfterAltName b

abbrev pub item_position_of : ItemPosition → m.ItemPosition
item_position_of i.Alone = m.Alone
item_position_of (i.Listed ranges) = m.Listed ranges.items

abbrev pub lexer_state : m.LexBody → LexerPosition → m.State
lexer_state b l.Elements = m.InLex b
lexer_state b l.Suffixed = m.LexSuffixed b
lexer_state b (l.After t) = m.AfterLexAtom b (lex_term t)
lexer_state b (l.Literal text) = m.AfterLiteral b text
lexer_state b (l.RangeEnd first) = m.AtRangeEnd b first
lexer_state b (l.Set set) = m.AfterSet b set
lexer_state b (l.SetStar set) = m.AfterSetStar b set
lexer_state b l.Item = m.AtItem b
lexer_state b (l.ItemIn position) = m.AtItemIn b (item_position_of position)
lexer_state b (l.ItemChar position char) = m.AfterItemChar b (item_position_of position) char
lexer_state b (l.ItemEnd position first) = m.AtItemEnd b (item_position_of position) first
lexer_state b (l.AfterItem ranges) = m.AfterItem b ranges.items

abbrev pub top_body_of : TopBody → m.LexBody
top_body_of b =
    record {
      text = grammar_of b.grammar;
      name = b.name;
      fragment = b.fragment;
      known = b.known;
      blocks_left = 64;
      enclosing = [];
      current = lex_frame_of b.current;
    }

abbrev pub top_state : m.LexBody → EndPosition → m.State
top_state b (q.Loop set) = m.AfterLoop b set
top_state b q.Done = m.AltDone b
top_state b q.Command = m.AtCommand b
top_state b q.ChannelOpen = m.AtChannelOpen b
top_state b q.ChannelName = m.AtChannelName b
top_state b q.ChannelClose = m.AtChannelClose b
top_state b q.AfterCommand = m.AfterCommand b

abbrev pub state_of : State → m.State
state_of s.Start = m.AtStart
state_of s.Name = m.AtName
state_of (s.Semicolon name) = m.AtSemicolon name
state_of (s.Prequel g) = m.AtPrequel (grammar_of g)
state_of (s.Rule g) = m.AtRule (grammar_of g)
state_of (s.OptionsBrace g owner) = m.AtOptionsBrace (grammar_of g) (owner_of owner)
state_of (s.Entry g owner) = m.AtEntry (grammar_of g) (owner_of owner)
state_of (s.EntryEquals g owner) = m.AtEntryEquals (grammar_of g) (owner_of owner)
state_of (s.Value value) = m.AtValue (value_of value)
state_of (s.Path value) = m.InPath (value_of value)
state_of (s.PathName value) = m.AtPathName (value_of value)
state_of (s.AfterValue value) = m.AfterValue (value_of value)
state_of (s.TokensBrace g) = m.AtTokensBrace (grammar_of g)
state_of (s.Token g) = m.AtToken (grammar_of g)
state_of (s.AfterToken g) = m.AfterToken (grammar_of g)
state_of (s.FragmentName g) = m.AtFragmentName (grammar_of g)
state_of (s.Head g head) = m.AtHead (grammar_of g) (head_of head)
state_of (s.Colon g head) = m.AtColon (grammar_of g) (head_of head)
state_of (s.Parser b position) = parser_state (body_of b) position
state_of (s.Lexer b position) = lexer_state (lex_body_of b) position
state_of (s.Top b position) = top_state (top_body_of b) position
state_of (s.End g) = m.AtEnd (grammar_of g)

-- the next state, or none, unless memory ran out
abbrev pub Gives : Result (Option State) Memory → Option m.State → Type 0
Gives (Ok (Some s)) o = o ≡ Some (state_of s)
Gives (Ok None) o = o ≡ None
Gives (Err e) o = Unit {0}
