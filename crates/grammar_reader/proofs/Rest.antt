-- The words that may still come at each state of the reader, and the grammar that the whole
-- text then gives. Each family goes on one step at a time, as the reader does.
use Rattle.std.proofs.Common.{ℕ, suc, ◌≡◌, ◌≤◌, Bool, true, false, List, [], ◌∷◌, ◌++◌, Option, Some, None}
use Rattle.grammar_tree.specs.Written.{Reference, WrittenTerm, LexerTerm, WrittenGrammar, written_alts, lexer_alts}
use Rattle.grammar_reader_words.specs.Names.{is}
use Rattle.grammar_reader_words.specs.declared.word.Word.{Word}
use Rattle.grammar_reader_words.specs.declared.word.Word.TheVariants as w
use Rattle.grammar_reader_notation.specs.Sets.{within, outside}
use Rattle.grammar_reader_notation.specs.Notation.{IsName, IsPath, IsValue, IsEntries, MayBeOptions, IsRef, IsSuffixed, IsLabel, IsOpening, IsAltName, IsAtom}
use Rattle.grammar_reader_notation.specs.Notation.{IsAlts, IsItem, IsCharSet, IsLexSuffixed, IsCommand, IsLast, top, IsLexAtom, IsLexAlts, parser_rule}
use Rattle.grammar_reader_notation.specs.Notation.{lexer_rule, IsTextOf}
use Rattle.grammar_reader_machine.specs.Machine.{Frame, with_term, whole, next_alt, fresh, Head, ParserHead, LexerHead, Owner, OfText, OfRule, Body}
use Rattle.grammar_reader_machine.specs.Machine.{LexBody, ValueOf, InEntry, InOpening, ItemPosition, Alone, Listed, with_rule, with_token}
use Rattle.grammar_reader_machine.specs.Machine as m

-- further rules, and the end
pub data RulesRest (d : ℕ) : WrittenGrammar → List Word → WrittenGrammar → Type 0 where
  rules_end : {g : WrittenGrammar} → RulesRest d g (w.End ∷ []) g
  parser : {g G : WrittenGrammar} {n : List ℕ} {words body next : List Word} {alts : List (List WrittenTerm)} →
      MayBeOptions words (w.Colon ∷ body) → IsAlts true d body alts (w.Semicolon ∷ next) → RulesRest d (with_rule g (parser_rule n alts)) next G →
      RulesRest d g (w.Lower n ∷ words) G
  lexer : {g G : WrittenGrammar} {n : List ℕ} {gap : Bool} {words body next : List Word} {alts : List (List LexerTerm)} →
      MayBeOptions words (w.Colon ∷ body) → IsLexAlts (top false gap) d body alts (w.Semicolon ∷ next)
      → RulesRest d (with_rule g (lexer_rule n false gap alts)) next G →
      RulesRest d g (w.Upper n ∷ words) G
  fragment : {g G : WrittenGrammar} {n : List ℕ} {words body next : List Word} {alts : List (List LexerTerm)} →
      MayBeOptions words (w.Colon ∷ body) → IsLexAlts (top true false) d body alts (w.Semicolon ∷ next)
      → RulesRest d (with_rule g (lexer_rule n true false alts)) next G →
      RulesRest d g (w.Fragment ∷ w.Upper n ∷ words) G

mutual
  -- prequels, and then rules
  pub data TextRest (d : ℕ) : WrittenGrammar → List Word → WrittenGrammar → Type 0 where
    no_more : {g G : WrittenGrammar} {words : List Word} → RulesRest d g words G → TextRest d g words G
    options : {g G : WrittenGrammar} {words next : List Word} → IsEntries words next → TextRest d g next G → TextRest d g (w.Options ∷ w.OpenBrace ∷ words) G
    tokens : {g G : WrittenGrammar} {words : List Word} → TokensRest d g words G → TextRest d g (w.Tokens ∷ w.OpenBrace ∷ words) G

  -- tokens, and what follows them
  pub data TokensRest (d : ℕ) : WrittenGrammar → List Word → WrittenGrammar → Type 0 where
    tokens_end : {g G : WrittenGrammar} {words : List Word} → TextRest d g words G → TokensRest d g (w.CloseBrace ∷ words) G
    token : {g G : WrittenGrammar} {n : List ℕ} {words : List Word} → AfterTokenRest d (with_token g n) words G → TokensRest d g (w.Upper n ∷ words) G

  pub data AfterTokenRest (d : ℕ) : WrittenGrammar → List Word → WrittenGrammar → Type 0 where
    last : {g G : WrittenGrammar} {words : List Word} → TextRest d g words G → AfterTokenRest d g (w.CloseBrace ∷ words) G
    comma : {g G : WrittenGrammar} {words : List Word} → TokensRest d g words G → AfterTokenRest d g (w.Comma ∷ words) G

abbrev pub is_top : {T : Type 0} → List (Frame T) → Bool
is_top [] = true
is_top (f ∷ enclosing) = false

-- in a parser rule
mutual
  -- the alternatives are whole
  pub data Closes (d : ℕ) (g : WrittenGrammar) (n : List ℕ) : ℕ → List (Frame WrittenTerm) → List (List WrittenTerm) → List Word → WrittenGrammar → Type 0 where
    rule_ends : {blocks_left : ℕ} {alts : List (List WrittenTerm)} {words : List Word} {G : WrittenGrammar} →
        RulesRest d (with_rule g (parser_rule n alts)) words G → Closes d g n blocks_left [] alts (w.Semicolon ∷ words) G
    block_ends : {blocks_left : ℕ} {f : Frame WrittenTerm} {enclosing : List (Frame WrittenTerm)} {alts : List (List WrittenTerm)} {words : List Word}
        {G : WrittenGrammar} →
        After d g n (suc blocks_left) enclosing f (WrittenTerm.block (written_alts alts)) words G
        → Closes d g n blocks_left (f ∷ enclosing) alts (w.Close ∷ words) G

  -- the current alternative is whole
  pub data AltEnd (d : ℕ) (g : WrittenGrammar) (n : List ℕ) : ℕ → List (Frame WrittenTerm) → Frame WrittenTerm → List Word → WrittenGrammar → Type 0 where
    alts_end : {blocks_left : ℕ} {enclosing : List (Frame WrittenTerm)} {f : Frame WrittenTerm} {words : List Word} {G : WrittenGrammar} →
        Closes d g n blocks_left enclosing (whole f) words G → AltEnd d g n blocks_left enclosing f words G
    alts_go_on : {blocks_left : ℕ} {enclosing : List (Frame WrittenTerm)} {f : Frame WrittenTerm} {words : List Word} {G : WrittenGrammar} →
        Opens d g n blocks_left enclosing (next_alt f) words G → AltEnd d g n blocks_left enclosing f (w.Bar ∷ words) G

  pub data Opens (d : ℕ) (g : WrittenGrammar) (n : List ℕ) : ℕ → List (Frame WrittenTerm) → Frame WrittenTerm → List Word → WrittenGrammar → Type 0 where
    opens : {blocks_left : ℕ} {enclosing : List (Frame WrittenTerm)} {f : Frame WrittenTerm} {words mid : List Word} {G : WrittenGrammar} →
        IsOpening words mid → Within d g n blocks_left enclosing f mid G → Opens d g n blocks_left enclosing f words G

  pub data Within (d : ℕ) (g : WrittenGrammar) (n : List ℕ) : ℕ → List (Frame WrittenTerm) → Frame WrittenTerm → List Word → WrittenGrammar → Type 0 where
    ends : {blocks_left : ℕ} {enclosing : List (Frame WrittenTerm)} {f : Frame WrittenTerm} {words mid : List Word} {G : WrittenGrammar} →
        IsAltName (is_top enclosing) words mid → AltEnd d g n blocks_left enclosing f mid G → Within d g n blocks_left enclosing f words G
    goes_on : {blocks_left : ℕ} {enclosing : List (Frame WrittenTerm)} {f : Frame WrittenTerm} {words labelled mid : List Word} {a : WrittenTerm}
        {G : WrittenGrammar} →
        IsLabel words labelled → IsAtom blocks_left labelled a mid → After d g n blocks_left enclosing f a mid G → Within d g n blocks_left enclosing f words G

  -- after an atom
  pub data After (d : ℕ) (g : WrittenGrammar) (n : List ℕ) : ℕ → List (Frame WrittenTerm) → Frame WrittenTerm → WrittenTerm → List Word → WrittenGrammar
      → Type 0 where
    after : {blocks_left : ℕ} {enclosing : List (Frame WrittenTerm)} {f : Frame WrittenTerm} {t u : WrittenTerm} {words mid : List Word} {G : WrittenGrammar} →
        IsSuffixed t words u mid → Within d g n blocks_left enclosing (with_term f u) mid G → After d g n blocks_left enclosing f t words G

-- at an atom
pub data AtomRest (d : ℕ) (b : Body) : List Word → WrittenGrammar → Type 0 where
  atom : {words mid : List Word} {a : WrittenTerm} {G : WrittenGrammar} →
      IsAtom b.blocks_left words a mid → After d b.text b.name b.blocks_left b.enclosing b.current a mid G → AtomRest d b words G

abbrev pub AfterRest : ℕ → Body → WrittenTerm → List Word → WrittenGrammar → Type 0
AfterRest d b t words G = After d b.text b.name b.blocks_left b.enclosing b.current t words G

abbrev pub WithinRest : ℕ → Body → List Word → WrittenGrammar → Type 0
WithinRest d b words G = Within d b.text b.name b.blocks_left b.enclosing b.current words G

abbrev pub AltEndRest : ℕ → Body → List Word → WrittenGrammar → Type 0
AltEndRest d b words G = AltEnd d b.text b.name b.blocks_left b.enclosing b.current words G

-- after a name, which may be a label
pub data NameRest (d : ℕ) (b : Body) (t : WrittenTerm) : List Word → WrittenGrammar → Type 0 where
  label : {words : List Word} {G : WrittenGrammar} → AtomRest d b words G → NameRest d b t (w.Equals ∷ words) G
  list_label : {words : List Word} {G : WrittenGrammar} → AtomRest d b words G → NameRest d b t (w.PlusEquals ∷ words) G
  no_label : {words : List Word} {G : WrittenGrammar} → AfterRest d b t words G → NameRest d b t words G

mutual
  -- a reference in brackets, and what follows one
  pub data RefInRest (d : ℕ) (b : Body) : List Reference → List Word → WrittenGrammar → Type 0 where
    ref_in : {rs : List Reference} {r : Reference} {word : Word} {words : List Word} {G : WrittenGrammar} →
        IsRef word r → RefsRest d b (rs ++ r ∷ []) words G → RefInRest d b rs (word ∷ words) G

  pub data RefsRest (d : ℕ) (b : Body) : List Reference → List Word → WrittenGrammar → Type 0 where
    refs_end : {rs : List Reference} {words : List Word} {G : WrittenGrammar} → AfterRest d b (WrittenTerm.but rs) words G → RefsRest d b rs (w.Close ∷ words) G
    refs_go_on : {rs : List Reference} {words : List Word} {G : WrittenGrammar} → RefInRest d b rs words G → RefsRest d b rs (w.Bar ∷ words) G

-- after `~`
pub data RefRest (d : ℕ) (b : Body) : List Word → WrittenGrammar → Type 0 where
  ref : {r : Reference} {word : Word} {words : List Word} {G : WrittenGrammar} → IsRef word r → AfterRest d b (WrittenTerm.but (r ∷ [])) words G
      → RefRest d b (word ∷ words) G
  refs : {words : List Word} {G : WrittenGrammar} → RefInRest d b [] words G → RefRest d b (w.Open ∷ words) G

pub data AltNameRest (d : ℕ) (b : Body) : List Word → WrittenGrammar → Type 0 where
  alt_name : {word : Word} {n : List ℕ} {words : List Word} {G : WrittenGrammar} → IsName word n → AltEndRest d b words G → AltNameRest d b (word ∷ words) G

-- in a lexer rule
abbrev pub Agrees : Option Bool → Bool → Type 0
Agrees None gap = Unit {0}
Agrees (Some known) gap = known ≡ gap

mutual
  pub data LexCloses (d : ℕ) (g : WrittenGrammar) (n : List ℕ) (frag : Bool) : Option Bool → ℕ → List (Frame LexerTerm) → List (List LexerTerm) → List Word
      → WrittenGrammar → Type 0 where
    rule_ends : {gap : Bool} {blocks_left : ℕ} {alts : List (List LexerTerm)} {words : List Word} {G : WrittenGrammar} →
        RulesRest d (with_rule g (lexer_rule n frag gap alts)) words G → LexCloses d g n frag (Some gap) blocks_left [] alts (w.Semicolon ∷ words) G
    block_ends : {known : Option Bool} {blocks_left : ℕ} {f : Frame LexerTerm} {enclosing : List (Frame LexerTerm)} {alts : List (List LexerTerm)}
        {words : List Word} {G : WrittenGrammar} →
        LexAfter d g n frag known (suc blocks_left) enclosing f (LexerTerm.block (lexer_alts alts)) words G
        → LexCloses d g n frag known blocks_left (f ∷ enclosing) alts (w.Close ∷ words) G

  pub data LexAltEnd (d : ℕ) (g : WrittenGrammar) (n : List ℕ) (frag : Bool) : Option Bool → ℕ → List (Frame LexerTerm) → Frame LexerTerm → List Word
      → WrittenGrammar → Type 0 where
    alts_end : {known : Option Bool} {blocks_left : ℕ} {enclosing : List (Frame LexerTerm)} {f : Frame LexerTerm} {words : List Word} {G : WrittenGrammar} →
        LexCloses d g n frag known blocks_left enclosing (whole f) words G → LexAltEnd d g n frag known blocks_left enclosing f words G
    alts_go_on : {known : Option Bool} {blocks_left : ℕ} {enclosing : List (Frame LexerTerm)} {f : Frame LexerTerm} {words : List Word} {G : WrittenGrammar} →
        LexWithin d g n frag known blocks_left enclosing (next_alt f) words G → LexAltEnd d g n frag known blocks_left enclosing f (w.Bar ∷ words) G

  pub data LexWithin (d : ℕ) (g : WrittenGrammar) (n : List ℕ) (frag : Bool) : Option Bool → ℕ → List (Frame LexerTerm) → Frame LexerTerm → List Word
      → WrittenGrammar → Type 0 where
    ends_inner : {known : Option Bool} {blocks_left : ℕ} {f' : Frame LexerTerm} {enclosing : List (Frame LexerTerm)} {f : Frame LexerTerm} {words : List Word}
        {G : WrittenGrammar} →
        LexAltEnd d g n frag known blocks_left (f' ∷ enclosing) f words G → LexWithin d g n frag known blocks_left (f' ∷ enclosing) f words G
    ends_plain : {known : Option Bool} {blocks_left : ℕ} {f : Frame LexerTerm} {words : List Word} {G : WrittenGrammar} →
        LexDone d g n frag known blocks_left f words G → LexWithin d g n frag known blocks_left [] f words G
    ends_loop : {known : Option Bool} {blocks_left : ℕ} {f : Frame LexerTerm} {s : List (ℕ × ℕ)} {words mid : List Word} {G : WrittenGrammar} →
        frag ≡ false → IsCharSet words s (w.Star ∷ w.Question ∷ mid) → LexLoop d g n frag known blocks_left f s mid G
        → LexWithin d g n frag known blocks_left [] f words G
    goes_on : {known : Option Bool} {blocks_left : ℕ} {enclosing : List (Frame LexerTerm)} {f : Frame LexerTerm} {words mid : List Word} {a : LexerTerm}
        {G : WrittenGrammar} →
        IsLexAtom blocks_left words a mid → LexAfter d g n frag known blocks_left enclosing f a mid G
        → LexWithin d g n frag known blocks_left enclosing f words G

  -- after a non-greedy loop
  pub data LexLoop (d : ℕ) (g : WrittenGrammar) (n : List ℕ) (frag : Bool) : Option Bool → ℕ → Frame LexerTerm → List (ℕ × ℕ) → List Word → WrittenGrammar
      → Type 0 where
    loop_rest : {known : Option Bool} {blocks_left : ℕ} {f : Frame LexerTerm} {s : List (ℕ × ℕ)} {t : LexerTerm} {words mid : List Word} {G : WrittenGrammar} →
        IsLast words t mid → LexDone d g n frag known blocks_left (with_term (with_term f (LexerTerm.short s)) t) mid G
        → LexLoop d g n frag known blocks_left f s words G

  -- after what an alternative of the rule itself consists of
  pub data LexDone (d : ℕ) (g : WrittenGrammar) (n : List ℕ) (frag : Bool) : Option Bool → ℕ → Frame LexerTerm → List Word → WrittenGrammar → Type 0 where
    done : {known : Option Bool} {gap : Bool} {blocks_left : ℕ} {f : Frame LexerTerm} {words mid : List Word} {G : WrittenGrammar} →
        Agrees known gap → IsCommand gap words mid → LexAltEnd d g n frag (Some gap) blocks_left [] f mid G → LexDone d g n frag known blocks_left f words G

  pub data LexAfter (d : ℕ) (g : WrittenGrammar) (n : List ℕ) (frag : Bool) : Option Bool → ℕ → List (Frame LexerTerm) → Frame LexerTerm → LexerTerm → List Word
      → WrittenGrammar → Type 0 where
    after : {known : Option Bool} {blocks_left : ℕ} {enclosing : List (Frame LexerTerm)} {f : Frame LexerTerm} {t u : LexerTerm} {words mid : List Word}
        {G : WrittenGrammar} →
        IsLexSuffixed t words u mid → LexWithin d g n frag known blocks_left enclosing (with_term f u) mid G
        → LexAfter d g n frag known blocks_left enclosing f t words G

abbrev pub LexRest : ℕ → LexBody → List Word → WrittenGrammar → Type 0
LexRest d b words G = LexWithin d b.text b.name b.fragment b.known b.blocks_left b.enclosing b.current words G

abbrev pub LexAfterRest : ℕ → LexBody → LexerTerm → List Word → WrittenGrammar → Type 0
LexAfterRest d b t words G = LexAfter d b.text b.name b.fragment b.known b.blocks_left b.enclosing b.current t words G

abbrev pub LexLoopRest : ℕ → LexBody → List (ℕ × ℕ) → List Word → WrittenGrammar → Type 0
LexLoopRest d b s words G = LexLoop d b.text b.name b.fragment b.known b.blocks_left b.current s words G

abbrev pub LexDoneRest : ℕ → LexBody → List Word → WrittenGrammar → Type 0
LexDoneRest d b words G = LexDone d b.text b.name b.fragment b.known b.blocks_left b.current words G

-- after a command
abbrev pub CommandedRest : ℕ → LexBody → List Word → WrittenGrammar → Type 0
CommandedRest d b words G = LexAltEnd d b.text b.name b.fragment (Some true) b.blocks_left [] b.current words G

-- after a literal, with which a range may begin
pub data LiteralRest (d : ℕ) (b : LexBody) : List ℕ → List Word → WrittenGrammar → Type 0 where
  no_range : {n : List ℕ} {words : List Word} {G : WrittenGrammar} → LexAfterRest d b (LexerTerm.literal n) words G → LiteralRest d b n words G
  range : {a c : ℕ} {words : List Word} {G : WrittenGrammar} → a ≤ c → LexAfterRest d b (LexerTerm.set (within ((a, c) ∷ []))) words G →
      LiteralRest d b (a ∷ []) (w.Dots ∷ w.Literal (c ∷ []) ∷ words) G

pub data RangeRest (d : ℕ) (b : LexBody) (a : ℕ) : List Word → WrittenGrammar → Type 0 where
  range_end : {c : ℕ} {words : List Word} {G : WrittenGrammar} → a ≤ c → LexAfterRest d b (LexerTerm.set (within ((a, c) ∷ []))) words G
      → RangeRest d b a (w.Literal (c ∷ []) ∷ words) G

abbrev pub IsTop : LexBody → Type 0
IsTop b = (is_top b.enclosing ≡ true) × (b.fragment ≡ false)

-- after a set, with which a non-greedy loop may begin
pub data SetRest (d : ℕ) (b : LexBody) (s : List (ℕ × ℕ)) : List Word → WrittenGrammar → Type 0 where
  no_loop : {words : List Word} {G : WrittenGrammar} → LexAfterRest d b (LexerTerm.set s) words G → SetRest d b s words G
  loop : {words : List Word} {G : WrittenGrammar} → IsTop b → LexLoopRest d b s words G → SetRest d b s (w.Star ∷ w.Question ∷ words) G

pub data StarRest (d : ℕ) (b : LexBody) (s : List (ℕ × ℕ)) : List Word → WrittenGrammar → Type 0 where
  greedy : {words : List Word} {G : WrittenGrammar} →
      LexWithin d b.text b.name b.fragment b.known b.blocks_left b.enclosing (with_term b.current (LexerTerm.star (LexerTerm.set s))) words G
      → StarRest d b s words G
  not_greedy : {words : List Word} {G : WrittenGrammar} → IsTop b → LexLoopRest d b s words G → StarRest d b s (w.Question ∷ words) G

mutual
  -- items in brackets
  pub data ItemInRest (d : ℕ) (b : LexBody) : List (ℕ × ℕ) → List Word → WrittenGrammar → Type 0 where
    item_in : {ranges i : List (ℕ × ℕ)} {words mid : List Word} {G : WrittenGrammar} → IsItem words i mid → ItemsRest d b (ranges ++ i) mid G
        → ItemInRest d b ranges words G

  pub data ItemsRest (d : ℕ) (b : LexBody) : List (ℕ × ℕ) → List Word → WrittenGrammar → Type 0 where
    items_end : {ranges : List (ℕ × ℕ)} {words : List Word} {G : WrittenGrammar} → SetRest d b (outside ranges) words G
        → ItemsRest d b ranges (w.Close ∷ words) G
    items_go_on : {ranges : List (ℕ × ℕ)} {words : List Word} {G : WrittenGrammar} → ItemInRest d b ranges words G → ItemsRest d b ranges (w.Bar ∷ words) G

-- after an item, alone or in brackets
abbrev pub AfterItemRest : ℕ → LexBody → ItemPosition → List (ℕ × ℕ) → List Word → WrittenGrammar → Type 0
AfterItemRest d b Alone i words G = SetRest d b (outside i) words G
AfterItemRest d b (Listed ranges) i words G = ItemsRest d b (ranges ++ i) words G

pub data PlacedItem (d : ℕ) (b : LexBody) (p : ItemPosition) : List Word → WrittenGrammar → Type 0 where
  item : {i : List (ℕ × ℕ)} {words mid : List Word} {G : WrittenGrammar} → IsItem words i mid → AfterItemRest d b p i mid G → PlacedItem d b p words G

-- after `~`
pub data ItemRest (d : ℕ) (b : LexBody) : List Word → WrittenGrammar → Type 0 where
  alone : {words : List Word} {G : WrittenGrammar} → PlacedItem d b Alone words G → ItemRest d b words G
  listed : {words : List Word} {G : WrittenGrammar} → PlacedItem d b (Listed []) words G → ItemRest d b (w.Open ∷ words) G

pub data ItemCharRest (d : ℕ) (b : LexBody) (p : ItemPosition) (a : ℕ) : List Word → WrittenGrammar → Type 0 where
  no_range : {words : List Word} {G : WrittenGrammar} → AfterItemRest d b p ((a, a) ∷ []) words G → ItemCharRest d b p a words G
  range : {c : ℕ} {words : List Word} {G : WrittenGrammar} → a ≤ c → AfterItemRest d b p ((a, c) ∷ []) words G
      → ItemCharRest d b p a (w.Dots ∷ w.Literal (c ∷ []) ∷ words) G

pub data ItemEndRest (d : ℕ) (b : LexBody) (p : ItemPosition) (a : ℕ) : List Word → WrittenGrammar → Type 0 where
  item_end : {c : ℕ} {words : List Word} {G : WrittenGrammar} → a ≤ c → AfterItemRest d b p ((a, c) ∷ []) words G
      → ItemEndRest d b p a (w.Literal (c ∷ []) ∷ words) G

pub data ChannelCloseRest (d : ℕ) (b : LexBody) : List Word → WrittenGrammar → Type 0 where
  channel_close : {words : List Word} {G : WrittenGrammar} → CommandedRest d b words G → ChannelCloseRest d b (w.Close ∷ words) G

pub data ChannelNameRest (d : ℕ) (b : LexBody) : List Word → WrittenGrammar → Type 0 where
  channel_name : {n : List ℕ} {words : List Word} {G : WrittenGrammar} → is n "HIDDEN" ≡ true → ChannelCloseRest d b words G
      → ChannelNameRest d b (w.Upper n ∷ words) G

pub data ChannelOpenRest (d : ℕ) (b : LexBody) : List Word → WrittenGrammar → Type 0 where
  channel_open : {words : List Word} {G : WrittenGrammar} → ChannelNameRest d b words G → ChannelOpenRest d b (w.Open ∷ words) G

pub data CommandRest (d : ℕ) (b : LexBody) : List Word → WrittenGrammar → Type 0 where
  skip : {n : List ℕ} {words : List Word} {G : WrittenGrammar} → is n "skip" ≡ true → CommandedRest d b words G → CommandRest d b (w.Lower n ∷ words) G
  channel : {n : List ℕ} {words : List Word} {G : WrittenGrammar} → is n "channel" ≡ true → ChannelOpenRest d b words G → CommandRest d b (w.Lower n ∷ words) G

-- Options, values

pub data ColonRest (d : ℕ) (g : WrittenGrammar) : Head → List Word → WrittenGrammar → Type 0 where
  parser_colon : {n : List ℕ} {words : List Word} {G : WrittenGrammar} → Opens d g n d [] fresh words G → ColonRest d g (ParserHead n) (w.Colon ∷ words) G
  lexer_colon : {n : List ℕ} {frag : Bool} {words : List Word} {G : WrittenGrammar} → LexWithin d g n frag (m.no_commands frag) d [] fresh words G
      → ColonRest d g (LexerHead n frag) (w.Colon ∷ words) G

abbrev pub AfterOptionsRest : ℕ → WrittenGrammar → Owner → List Word → WrittenGrammar → Type 0
AfterOptionsRest d g OfText words G = TextRest d g words G
AfterOptionsRest d g (OfRule head) words G = ColonRest d g head words G

pub data EntriesRest (d : ℕ) (g : WrittenGrammar) (o : Owner) : List Word → WrittenGrammar → Type 0 where
  entries : {words mid : List Word} {G : WrittenGrammar} → IsEntries words mid → AfterOptionsRest d g o mid G → EntriesRest d g o words G

pub data HeadRest (d : ℕ) (g : WrittenGrammar) (head : Head) : List Word → WrittenGrammar → Type 0 where
  no_options : {words : List Word} {G : WrittenGrammar} → ColonRest d g head words G → HeadRest d g head words G
  options : {words : List Word} {G : WrittenGrammar} → EntriesRest d g (OfRule head) words G → HeadRest d g head (w.Options ∷ w.OpenBrace ∷ words) G

-- after a value
pub data ValueEndRest (d : ℕ) : ValueOf → List Word → WrittenGrammar → Type 0 where
  entry_ends : {g : WrittenGrammar} {o : Owner} {words : List Word} {G : WrittenGrammar} → EntriesRest d g o words G
      → ValueEndRest d (InEntry g o) (w.Semicolon ∷ words) G
  opening_ends : {b : Body} {words : List Word} {G : WrittenGrammar} → WithinRest d b words G → ValueEndRest d (InOpening b) (w.Greater ∷ words) G

pub data ValueRest (d : ℕ) (v : ValueOf) : List Word → WrittenGrammar → Type 0 where
  value : {words mid : List Word} {G : WrittenGrammar} → IsValue words mid → ValueEndRest d v mid G → ValueRest d v words G

pub data PathRest (d : ℕ) (v : ValueOf) : List Word → WrittenGrammar → Type 0 where
  path : {words mid : List Word} {G : WrittenGrammar} → IsPath words mid → ValueEndRest d v mid G → PathRest d v words G

pub data PathNameRest (d : ℕ) (v : ValueOf) : List Word → WrittenGrammar → Type 0 where
  path_name : {word : Word} {n : List ℕ} {words : List Word} {G : WrittenGrammar} → IsName word n → PathRest d v words G → PathNameRest d v (word ∷ words) G

pub data EqualsRest (d : ℕ) (v : ValueOf) : List Word → WrittenGrammar → Type 0 where
  equals : {words : List Word} {G : WrittenGrammar} → ValueRest d v words G → EqualsRest d v (w.Equals ∷ words) G

pub data OpeningNameRest (d : ℕ) (b : Body) : List Word → WrittenGrammar → Type 0 where
  opening_name : {word : Word} {n : List ℕ} {words : List Word} {G : WrittenGrammar} → IsName word n → EqualsRest d (InOpening b) words G
      → OpeningNameRest d b (word ∷ words) G

pub data OptionsBraceRest (d : ℕ) (g : WrittenGrammar) (o : Owner) : List Word → WrittenGrammar → Type 0 where
  options_brace : {words : List Word} {G : WrittenGrammar} → EntriesRest d g o words G → OptionsBraceRest d g o (w.OpenBrace ∷ words) G

pub data TokensBraceRest (d : ℕ) (g : WrittenGrammar) : List Word → WrittenGrammar → Type 0 where
  tokens_brace : {words : List Word} {G : WrittenGrammar} → TokensRest d g words G → TokensBraceRest d g (w.OpenBrace ∷ words) G

pub data FragmentRest (d : ℕ) (g : WrittenGrammar) : List Word → WrittenGrammar → Type 0 where
  fragment_name : {n : List ℕ} {words : List Word} {G : WrittenGrammar} → HeadRest d g (LexerHead n true) words G → FragmentRest d g (w.Upper n ∷ words) G

abbrev pub Rest : ℕ → m.State → List Word → WrittenGrammar → Type 0
Rest d m.AtStart words G = IsTextOf d words G
Rest d m.AtName words G = IsTextOf d (w.Grammar ∷ words) G
Rest d (m.AtSemicolon n) words G = IsTextOf d (w.Grammar ∷ w.Upper n ∷ words) G
Rest d (m.AtPrequel g) words G = TextRest d g words G
Rest d (m.AtRule g) words G = RulesRest d g words G
Rest d (m.AtOptionsBrace g o) words G = OptionsBraceRest d g o words G
Rest d (m.AtEntry g o) words G = EntriesRest d g o words G
Rest d (m.AtEntryEquals g o) words G = EqualsRest d (InEntry g o) words G
Rest d (m.AtValue v) words G = ValueRest d v words G
Rest d (m.InPath v) words G = PathRest d v words G
Rest d (m.AtPathName v) words G = PathNameRest d v words G
Rest d (m.AfterValue v) words G = ValueEndRest d v words G
Rest d (m.AtTokensBrace g) words G = TokensBraceRest d g words G
Rest d (m.AtToken g) words G = TokensRest d g words G
Rest d (m.AfterToken g) words G = AfterTokenRest d g words G
Rest d (m.AtFragmentName g) words G = FragmentRest d g words G
Rest d (m.AtHead g head) words G = HeadRest d g head words G
Rest d (m.AtColon g head) words G = ColonRest d g head words G
Rest d (m.AtAlt b) words G = Opens d b.text b.name b.blocks_left b.enclosing b.current words G
Rest d (m.AtOpeningName b) words G = OpeningNameRest d b words G
Rest d (m.AtOpeningEquals b) words G = EqualsRest d (InOpening b) words G
Rest d (m.InElements b) words G = WithinRest d b words G
Rest d (m.Suffixed b) words G = WithinRest d b words G
Rest d (m.AfterName b t) words G = NameRest d b t words G
Rest d (m.AtAtom b) words G = AtomRest d b words G
Rest d (m.AfterAtom b t) words G = AfterRest d b t words G
Rest d (m.AtRef b) words G = RefRest d b words G
Rest d (m.AtRefIn b rs) words G = RefInRest d b rs words G
Rest d (m.AfterRef b rs) words G = RefsRest d b rs words G
Rest d (m.AtAltName b) words G = AltNameRest d b words G
Rest d (m.AfterAltName b) words G = AltEndRest d b words G
Rest d (m.InLex b) words G = LexRest d b words G
Rest d (m.LexSuffixed b) words G = LexRest d b words G
Rest d (m.AfterLexAtom b t) words G = LexAfterRest d b t words G
Rest d (m.AfterLiteral b n) words G = LiteralRest d b n words G
Rest d (m.AtRangeEnd b a) words G = RangeRest d b a words G
Rest d (m.AfterSet b s) words G = SetRest d b s words G
Rest d (m.AfterSetStar b s) words G = StarRest d b s words G
Rest d (m.AfterLoop b s) words G = LexLoopRest d b s words G
Rest d (m.AltDone b) words G = LexDoneRest d b words G
Rest d (m.AtItem b) words G = ItemRest d b words G
Rest d (m.AtItemIn b p) words G = PlacedItem d b p words G
Rest d (m.AfterItemChar b p a) words G = ItemCharRest d b p a words G
Rest d (m.AtItemEnd b p a) words G = ItemEndRest d b p a words G
Rest d (m.AfterItem b ranges) words G = ItemsRest d b ranges words G
Rest d (m.AtCommand b) words G = CommandRest d b words G
Rest d (m.AtChannelOpen b) words G = ChannelOpenRest d b words G
Rest d (m.AtChannelName b) words G = ChannelNameRest d b words G
Rest d (m.AtChannelClose b) words G = ChannelCloseRest d b words G
Rest d (m.AfterCommand b) words G = CommandedRest d b words G
Rest d (m.AtEnd g) words G = (words ≡ []) × (G ≡ g)

abbrev pub Goes : ℕ → Option m.State → List Word → WrittenGrammar → Type 0
Goes d None words G = ⊥
Goes d (Some s) words G = Rest d s words G
