-- The reader as a machine: what has been read so far, and what one more word makes of it.
use Rattle.std.specs.Prelude.{ℕ, zero, suc, Bool, true, false, cond, nat_le, List, [], ◌∷◌, ◌++◌, Option, Some, None}
use Rattle.grammar_tree.specs.Written.{Reference, WrittenTerm, LexerTerm, WrittenRule, WrittenGrammar, written_alts, lexer_alts}
use Rattle.grammar_reader_words.specs.Names.{is}
use Rattle.grammar_reader_words.specs.declared.word.Word.{Word}
use Rattle.grammar_reader_words.specs.declared.word.Word.TheVariants as w
use Rattle.grammar_reader_notation.specs.Sets.{within, outside}
use Rattle.grammar_reader_notation.specs.Notation.{is_eof, may_name_option, named, parser_rule, lexer_rule}

-- alternatives that are begun: the ones before, and the terms of the one at hand
pub record Frame (T : Type 0) : Type 0 where
  pub alts : List (List T)
  pub terms : List T

abbrev pub fresh : {T : Type 0} → Frame T
fresh = record { alts = []; terms = [] }

abbrev pub with_term : {T : Type 0} → Frame T → T → Frame T
with_term f t = record { alts = f.alts; terms = f.terms ++ t ∷ [] }

abbrev pub whole : {T : Type 0} → Frame T → List (List T)
whole f = f.alts ++ f.terms ∷ []

abbrev pub next_alt : {T : Type 0} → Frame T → Frame T
next_alt f = record { alts = whole f; terms = [] }

-- a rule's name, and of a lexer rule whether it is a fragment
pub data Head : Type 0 where
  ParserHead : (name : List ℕ) → Head
  LexerHead : (name : List ℕ) → (fragment : Bool) → Head

-- a parser rule that is begun: how many more blocks may be open, the enclosing alternatives, innermost first, and the current ones
pub record Body : Type 0 where
  pub text : WrittenGrammar
  pub name : List ℕ
  pub blocks_left : ℕ
  pub enclosing : List (Frame WrittenTerm)
  pub current : Frame WrittenTerm

-- a lexer rule that is begun; `known` says whether its alternatives have commands, once one has ended
pub record LexBody : Type 0 where
  pub text : WrittenGrammar
  pub name : List ℕ
  pub fragment : Bool
  pub known : Option Bool
  pub blocks_left : ℕ
  pub enclosing : List (Frame LexerTerm)
  pub current : Frame LexerTerm

-- what options belong to
pub data Owner : Type 0 where
  OfText : Owner
  OfRule : (head : Head) → Owner

-- what a value belongs to
pub data ValueOf : Type 0 where
  InEntry : (text : WrittenGrammar) → (owner : Owner) → ValueOf
  InOpening : (body : Body) → ValueOf

-- where an item is: alone after `~`, or in brackets after the ranges of the items before
pub data ItemPosition : Type 0 where
  Alone : ItemPosition
  Listed : (ranges : List (ℕ × ℕ)) → ItemPosition

pub data State : Type 0 where
  AtStart : State
  AtName : State
  AtSemicolon : (name : List ℕ) → State
  AtPrequel : (text : WrittenGrammar) → State
  AtRule : (text : WrittenGrammar) → State
  AtOptionsBrace : (text : WrittenGrammar) → (owner : Owner) → State
  AtEntry : (text : WrittenGrammar) → (owner : Owner) → State
  AtEntryEquals : (text : WrittenGrammar) → (owner : Owner) → State
  AtValue : (value : ValueOf) → State
  InPath : (value : ValueOf) → State
  AtPathName : (value : ValueOf) → State
  AfterValue : (value : ValueOf) → State
  AtTokensBrace : (text : WrittenGrammar) → State
  AtToken : (text : WrittenGrammar) → State
  AfterToken : (text : WrittenGrammar) → State
  AtFragmentName : (text : WrittenGrammar) → State
  AtHead : (text : WrittenGrammar) → (head : Head) → State
  AtColon : (text : WrittenGrammar) → (head : Head) → State
  AtAlt : (body : Body) → State
  AtOpeningName : (body : Body) → State
  AtOpeningEquals : (body : Body) → State
  InElements : (body : Body) → State
  Suffixed : (body : Body) → State
  AfterName : (body : Body) → (term : WrittenTerm) → State
  AtAtom : (body : Body) → State
  AfterAtom : (body : Body) → (term : WrittenTerm) → State
  AtRef : (body : Body) → State
  AtRefIn : (body : Body) → (refs : List Reference) → State
  AfterRef : (body : Body) → (refs : List Reference) → State
  AtAltName : (body : Body) → State
  AfterAltName : (body : Body) → State
  InLex : (body : LexBody) → State
  LexSuffixed : (body : LexBody) → State
  AfterLexAtom : (body : LexBody) → (term : LexerTerm) → State
  AfterLiteral : (body : LexBody) → (text : List ℕ) → State
  AtRangeEnd : (body : LexBody) → (first : ℕ) → State
  AfterSet : (body : LexBody) → (set : List (ℕ × ℕ)) → State
  AfterSetStar : (body : LexBody) → (set : List (ℕ × ℕ)) → State
  AfterLoop : (body : LexBody) → (set : List (ℕ × ℕ)) → State
  AltDone : (body : LexBody) → State
  AtItem : (body : LexBody) → State
  AtItemIn : (body : LexBody) → (position : ItemPosition) → State
  AfterItemChar : (body : LexBody) → (position : ItemPosition) → (char : ℕ) → State
  AtItemEnd : (body : LexBody) → (position : ItemPosition) → (first : ℕ) → State
  AfterItem : (body : LexBody) → (ranges : List (ℕ × ℕ)) → State
  AtCommand : (body : LexBody) → State
  AtChannelOpen : (body : LexBody) → State
  AtChannelName : (body : LexBody) → State
  AtChannelClose : (body : LexBody) → State
  AfterCommand : (body : LexBody) → State
  AtEnd : (text : WrittenGrammar) → State

-- a state, if the test holds
abbrev pub provided : Bool → State → Option State
provided true s = Some s
provided false s = None

abbrev pub with_rule : WrittenGrammar → WrittenRule → WrittenGrammar
with_rule g r = record { name = g.name; tokens = g.tokens; rules = g.rules ++ r ∷ [] }

abbrev pub with_token : WrittenGrammar → List ℕ → WrittenGrammar
with_token g n = record { name = g.name; tokens = g.tokens ++ n ∷ []; rules = g.rules }

-- Names, options and values

abbrev pub step_start : Word → Option State
step_start w.Grammar = Some AtName
step_start _ = None

abbrev pub step_name : Word → Option State
step_name (w.Upper n) = Some (AtSemicolon n)
step_name (w.Lower n) = Some (AtSemicolon n)
step_name _ = None

abbrev pub step_semicolon : List ℕ → Word → Option State
step_semicolon n w.Semicolon = Some (AtPrequel (record { name = n; tokens = []; rules = [] }))
step_semicolon n _ = None

abbrev pub step_rule : WrittenGrammar → Word → Option State
step_rule g (w.Lower n) = Some (AtHead g (ParserHead n))
step_rule g (w.Upper n) = Some (AtHead g (LexerHead n false))
step_rule g w.Fragment = Some (AtFragmentName g)
step_rule g w.End = Some (AtEnd g)
step_rule g _ = None

abbrev pub step_prequel : WrittenGrammar → Word → Option State
step_prequel g w.Options = Some (AtOptionsBrace g OfText)
step_prequel g w.Tokens = Some (AtTokensBrace g)
step_prequel g word = step_rule g word

abbrev pub step_options_brace : WrittenGrammar → Owner → Word → Option State
step_options_brace g o w.OpenBrace = Some (AtEntry g o)
step_options_brace g o _ = None

abbrev pub after_options : WrittenGrammar → Owner → State
after_options g OfText = AtPrequel g
after_options g (OfRule head) = AtColon g head

abbrev pub step_entry : WrittenGrammar → Owner → Word → Option State
step_entry g o (w.Upper n) = provided (may_name_option n) (AtEntryEquals g o)
step_entry g o (w.Lower n) = provided (may_name_option n) (AtEntryEquals g o)
step_entry g o w.CloseBrace = Some (after_options g o)
step_entry g o _ = None

abbrev pub step_entry_equals : WrittenGrammar → Owner → Word → Option State
step_entry_equals g o w.Equals = Some (AtValue (InEntry g o))
step_entry_equals g o _ = None

abbrev pub step_value : ValueOf → Word → Option State
step_value v (w.Upper n) = Some (InPath v)
step_value v (w.Lower n) = Some (InPath v)
step_value v (w.Literal n) = Some (AfterValue v)
step_value v w.Number = Some (AfterValue v)
step_value v _ = None

-- `;` ends an entry's value, `>` that of an alternative's option
abbrev pub step_after_value : ValueOf → Word → Option State
step_after_value (InEntry g o) w.Semicolon = Some (AtEntry g o)
step_after_value (InOpening b) w.Greater = Some (InElements b)
step_after_value v _ = None

abbrev pub step_path : ValueOf → Word → Option State
step_path v w.Dot = Some (AtPathName v)
step_path v word = step_after_value v word

abbrev pub step_path_name : ValueOf → Word → Option State
step_path_name v (w.Upper n) = Some (InPath v)
step_path_name v (w.Lower n) = Some (InPath v)
step_path_name v _ = None

abbrev pub step_tokens_brace : WrittenGrammar → Word → Option State
step_tokens_brace g w.OpenBrace = Some (AtToken g)
step_tokens_brace g _ = None

abbrev pub step_token : WrittenGrammar → Word → Option State
step_token g (w.Upper n) = Some (AfterToken (with_token g n))
step_token g w.CloseBrace = Some (AtPrequel g)
step_token g _ = None

abbrev pub step_after_token : WrittenGrammar → Word → Option State
step_after_token g w.Comma = Some (AtToken g)
step_after_token g w.CloseBrace = Some (AtPrequel g)
step_after_token g _ = None

abbrev pub step_fragment : WrittenGrammar → Word → Option State
step_fragment g (w.Upper n) = Some (AtHead g (LexerHead n true))
step_fragment g _ = None

-- Fragments have no commands.
abbrev pub no_commands : Bool → Option Bool
no_commands true = Some false
no_commands false = None

abbrev pub body_at : ℕ → WrittenGrammar → Head → State
body_at depth g (ParserHead n) = AtAlt (record { text = g; name = n; blocks_left = depth; enclosing = []; current = fresh })
body_at depth g (LexerHead n fragment) =
    InLex (record { text = g; name = n; fragment = fragment; known = no_commands fragment; blocks_left = depth; enclosing = []; current = fresh })

abbrev pub step_colon : ℕ → WrittenGrammar → Head → Word → Option State
step_colon depth g head w.Colon = Some (body_at depth g head)
step_colon depth g head _ = None

abbrev pub step_head : ℕ → WrittenGrammar → Head → Word → Option State
step_head depth g head w.Options = Some (AtOptionsBrace g (OfRule head))
step_head depth g head word = step_colon depth g head word

-- Parser rules

abbrev pub add : Body → WrittenTerm → Body
add b t = record { text = b.text; name = b.name; blocks_left = b.blocks_left; enclosing = b.enclosing; current = with_term b.current t }

abbrev pub with_block : Body → ℕ → Option State
with_block b zero = None
with_block b (suc blocks_left) =
    Some (AtAlt (record { text = b.text; name = b.name; blocks_left = blocks_left; enclosing = b.current ∷ b.enclosing; current = fresh }))

abbrev pub block_end : Body → List (Frame WrittenTerm) → Option State
block_end b [] = None
block_end b (f ∷ enclosing) =
    Some (AfterAtom (record { text = b.text; name = b.name; blocks_left = suc b.blocks_left; enclosing = enclosing; current = f })
    (WrittenTerm.block (written_alts (whole b.current))))

abbrev pub rule_end : Body → List (Frame WrittenTerm) → Option State
rule_end b [] = Some (AtRule (with_rule b.text (parser_rule b.name (whole b.current))))
rule_end b (f ∷ enclosing) = None

abbrev pub next_alternative : Body → State
next_alternative b = AtAlt (record { text = b.text; name = b.name; blocks_left = b.blocks_left; enclosing = b.enclosing; current = next_alt b.current })

-- after an alternative
abbrev pub step_alt_end : Body → Word → Option State
step_alt_end b w.Bar = Some (next_alternative b)
step_alt_end b w.Semicolon = rule_end b b.enclosing
step_alt_end b w.Close = block_end b b.enclosing
step_alt_end b _ = None

abbrev pub before_alternative_name : Body → List (Frame WrittenTerm) → Option State
before_alternative_name b [] = Some (AtAltName b)
before_alternative_name b (f ∷ enclosing) = None

abbrev pub step_atom : Body → Word → Option State
step_atom b (w.Literal n) = Some (AfterAtom b (WrittenTerm.literal n))
step_atom b (w.Upper n) = Some (AfterAtom b (named n))
step_atom b (w.Lower n) = Some (AfterAtom b (WrittenTerm.name n))
step_atom b w.Dot = Some (AfterAtom b WrittenTerm.any)
step_atom b w.Tilde = Some (AtRef b)
step_atom b w.Open = with_block b b.blocks_left
step_atom b _ = None

abbrev pub step_elements : Body → Word → Option State
step_elements b (w.Literal n) = Some (AfterAtom b (WrittenTerm.literal n))
step_elements b (w.Upper n) = Some (AfterName b (named n))
step_elements b (w.Lower n) = Some (AfterName b (WrittenTerm.name n))
step_elements b w.Dot = Some (AfterAtom b WrittenTerm.any)
step_elements b w.Tilde = Some (AtRef b)
step_elements b w.Open = with_block b b.blocks_left
step_elements b w.Hash = before_alternative_name b b.enclosing
step_elements b word = step_alt_end b word

abbrev pub step_after : Body → WrittenTerm → Word → Option State
step_after b t w.Question = Some (Suffixed (add b (WrittenTerm.opt t)))
step_after b t w.Star = Some (Suffixed (add b (WrittenTerm.star t)))
step_after b t w.Plus = Some (Suffixed (add b (WrittenTerm.plus t)))
step_after b t word = step_elements (add b t) word

abbrev pub step_after_name : Body → WrittenTerm → Word → Option State
step_after_name b t w.Equals = Some (AtAtom b)
step_after_name b t w.PlusEquals = Some (AtAtom b)
step_after_name b t word = step_after b t word

abbrev pub step_alt : Body → Word → Option State
step_alt b w.Less = Some (AtOpeningName b)
step_alt b word = step_elements b word

abbrev pub step_opening_name : Body → Word → Option State
step_opening_name b (w.Upper n) = Some (AtOpeningEquals b)
step_opening_name b (w.Lower n) = Some (AtOpeningEquals b)
step_opening_name b _ = None

abbrev pub step_opening_equals : Body → Word → Option State
step_opening_equals b w.Equals = Some (AtValue (InOpening b))
step_opening_equals b _ = None

abbrev pub step_ref : Body → Word → Option State
step_ref b (w.Literal n) = Some (AfterAtom b (WrittenTerm.but (Reference.literal n ∷ [])))
step_ref b (w.Upper n) = cond (is_eof n) None (Some (AfterAtom b (WrittenTerm.but (Reference.name n ∷ []))))
step_ref b w.Open = Some (AtRefIn b [])
step_ref b _ = None

abbrev pub step_ref_in : Body → List Reference → Word → Option State
step_ref_in b rs (w.Literal n) = Some (AfterRef b (rs ++ Reference.literal n ∷ []))
step_ref_in b rs (w.Upper n) = cond (is_eof n) None (Some (AfterRef b (rs ++ Reference.name n ∷ [])))
step_ref_in b rs _ = None

abbrev pub step_after_ref : Body → List Reference → Word → Option State
step_after_ref b rs w.Bar = Some (AtRefIn b rs)
step_after_ref b rs w.Close = Some (AfterAtom b (WrittenTerm.but rs))
step_after_ref b rs _ = None

-- An alternative in a block has no name.
abbrev pub step_alt_name : Body → Word → Option State
step_alt_name b (w.Upper n) = Some (AfterAltName b)
step_alt_name b (w.Lower n) = Some (AfterAltName b)
step_alt_name b _ = None

-- Lexer rules

abbrev pub lex_with : LexBody → Frame LexerTerm → LexBody
lex_with b f =
    record { text = b.text; name = b.name; fragment = b.fragment; known = b.known; blocks_left = b.blocks_left; enclosing = b.enclosing; current = f }

abbrev pub lex_add : LexBody → LexerTerm → LexBody
lex_add b t = lex_with b (with_term b.current t)

abbrev pub lex_with_block : LexBody → ℕ → Option State
lex_with_block b zero = None
lex_with_block b (suc blocks_left) =
    Some
    (InLex
    (record {
      text = b.text;
      name = b.name;
      fragment = b.fragment;
      known = b.known;
      blocks_left = blocks_left;
      enclosing = b.current ∷ b.enclosing;
      current = fresh;
    }))

abbrev pub lex_block_end : LexBody → List (Frame LexerTerm) → Option State
lex_block_end b [] = None
lex_block_end b (f ∷ enclosing) =
    Some
    (AfterLexAtom
    (record { text = b.text; name = b.name; fragment = b.fragment; known = b.known; blocks_left = suc b.blocks_left; enclosing = enclosing; current = f })
    (LexerTerm.block (lexer_alts (whole b.current))))

-- the next alternative of the rule itself
abbrev pub next_top : LexBody → Bool → State
next_top b gap =
    InLex
    (record {
      text = b.text;
      name = b.name;
      fragment = b.fragment;
      known = Some gap;
      blocks_left = b.blocks_left;
      enclosing = [];
      current = next_alt b.current;
    })

abbrev pub end_top : LexBody → Bool → State
end_top b gap = AtRule (with_rule b.text (lexer_rule b.name b.fragment gap (whole b.current)))

-- where no alternative has a command, and where one may have one
abbrev pub without_command : Option Bool → State → Option State
without_command (Some true) s = None
without_command _ s = Some s

abbrev pub with_command : Option Bool → State → Option State
with_command (Some false) s = None
with_command _ s = Some s

-- after what an alternative of the rule itself consists of
abbrev pub step_done : LexBody → Word → Option State
step_done b w.Bar = without_command b.known (next_top b false)
step_done b w.Semicolon = without_command b.known (end_top b false)
step_done b w.Arrow = with_command b.known (AtCommand b)
step_done b _ = None

-- after an alternative in a block
abbrev pub step_inner_end : LexBody → Word → Option State
step_inner_end b w.Bar = Some (InLex (lex_with b (next_alt b.current)))
step_inner_end b w.Close = lex_block_end b b.enclosing
step_inner_end b _ = None

abbrev pub step_lex_end : LexBody → List (Frame LexerTerm) → Word → Option State
step_lex_end b [] word = step_done b word
step_lex_end b (f ∷ enclosing) word = step_inner_end b word

abbrev pub step_lex : LexBody → Word → Option State
step_lex b (w.Literal n) = Some (AfterLiteral b n)
step_lex b (w.Upper n) = cond (is_eof n) None (Some (AfterLexAtom b (LexerTerm.name n)))
step_lex b (w.Set ranges) = Some (AfterSet b (within ranges))
step_lex b w.Dot = Some (AfterSet b (outside []))
step_lex b w.Tilde = Some (AtItem b)
step_lex b w.Open = lex_with_block b b.blocks_left
step_lex b word = step_lex_end b b.enclosing word

abbrev pub step_lex_after : LexBody → LexerTerm → Word → Option State
step_lex_after b t w.Question = Some (LexSuffixed (lex_add b (LexerTerm.opt t)))
step_lex_after b t w.Star = Some (LexSuffixed (lex_add b (LexerTerm.star t)))
step_lex_after b t w.Plus = Some (LexSuffixed (lex_add b (LexerTerm.plus t)))
step_lex_after b t word = step_lex (lex_add b t) word

-- a range's first literal has one character
abbrev pub start_of_range : LexBody → List ℕ → Option State
start_of_range b (c ∷ []) = Some (AtRangeEnd b c)
start_of_range b _ = None

abbrev pub step_after_literal : LexBody → List ℕ → Word → Option State
step_after_literal b n w.Dots = start_of_range b n
step_after_literal b n word = step_lex_after b (LexerTerm.literal n) word

-- The last literal has one character too, which isn't below the first.
abbrev pub end_of_range : (ℕ → State) → ℕ → List ℕ → Option State
end_of_range go first (c ∷ []) = provided (nat_le first c) (go c)
end_of_range go first _ = None

abbrev pub step_range_end : LexBody → ℕ → Word → Option State
step_range_end b first (w.Literal n) = end_of_range (λ c. AfterLexAtom b (LexerTerm.set (within ((first, c) ∷ [])))) first n
step_range_end b first _ = None

abbrev pub step_after_set : LexBody → List (ℕ × ℕ) → Word → Option State
step_after_set b s w.Star = Some (AfterSetStar b s)
step_after_set b s word = step_lex_after b (LexerTerm.set s) word

-- A non-greedy loop is in no block and in no fragment.
abbrev pub loop_end : LexBody → List (ℕ × ℕ) → List (Frame LexerTerm) → Bool → Option State
loop_end b s [] false = Some (AfterLoop b s)
loop_end b s _ _ = None

abbrev pub step_after_set_star : LexBody → List (ℕ × ℕ) → Word → Option State
step_after_set_star b s w.Question = loop_end b s b.enclosing b.fragment
step_after_set_star b s word = step_lex (lex_add b (LexerTerm.star (LexerTerm.set s))) word

abbrev pub with_loop : LexBody → List (ℕ × ℕ) → LexerTerm → LexBody
with_loop b s t = lex_add (lex_add b (LexerTerm.short s)) t

abbrev pub step_loop : LexBody → List (ℕ × ℕ) → Word → Option State
step_loop b s (w.Literal n) = Some (AltDone (with_loop b s (LexerTerm.literal n)))
step_loop b s (w.Set ranges) = Some (AltDone (with_loop b s (LexerTerm.set (within ranges))))
step_loop b s _ = None

abbrev pub after_item : LexBody → ItemPosition → List (ℕ × ℕ) → State
after_item b Alone i = AfterSet b (outside i)
after_item b (Listed ranges) i = AfterItem b (ranges ++ i)

abbrev pub one_char : LexBody → ItemPosition → List ℕ → Option State
one_char b p (c ∷ []) = Some (AfterItemChar b p c)
one_char b p _ = None

abbrev pub step_item_in : LexBody → ItemPosition → Word → Option State
step_item_in b p (w.Set ranges) = Some (after_item b p ranges)
step_item_in b p (w.Literal n) = one_char b p n
step_item_in b p _ = None

abbrev pub step_item : LexBody → Word → Option State
step_item b w.Open = Some (AtItemIn b (Listed []))
step_item b word = step_item_in b Alone word

abbrev pub step_after_item : LexBody → List (ℕ × ℕ) → Word → Option State
step_after_item b ranges w.Bar = Some (AtItemIn b (Listed ranges))
step_after_item b ranges w.Close = Some (AfterSet b (outside ranges))
step_after_item b ranges _ = None

abbrev pub step_after_one : LexBody → ItemPosition → List (ℕ × ℕ) → Word → Option State
step_after_one b Alone i word = step_after_set b (outside i) word
step_after_one b (Listed ranges) i word = step_after_item b (ranges ++ i) word

abbrev pub step_after_item_char : LexBody → ItemPosition → ℕ → Word → Option State
step_after_item_char b p c w.Dots = Some (AtItemEnd b p c)
step_after_item_char b p c word = step_after_one b p ((c, c) ∷ []) word

abbrev pub step_item_end : LexBody → ItemPosition → ℕ → Word → Option State
step_item_end b p first (w.Literal n) = end_of_range (λ c. after_item b p ((first, c) ∷ [])) first n
step_item_end b p first _ = None

abbrev pub step_command : LexBody → Word → Option State
step_command b (w.Lower n) = cond (is n "skip") (Some (AfterCommand b)) (provided (is n "channel") (AtChannelOpen b))
step_command b _ = None

abbrev pub step_channel_open : LexBody → Word → Option State
step_channel_open b w.Open = Some (AtChannelName b)
step_channel_open b _ = None

abbrev pub step_channel_name : LexBody → Word → Option State
step_channel_name b (w.Upper n) = provided (is n "HIDDEN") (AtChannelClose b)
step_channel_name b _ = None

abbrev pub step_channel_close : LexBody → Word → Option State
step_channel_close b w.Close = Some (AfterCommand b)
step_channel_close b _ = None

abbrev pub step_after_command : LexBody → Word → Option State
step_after_command b w.Bar = Some (next_top b true)
step_after_command b w.Semicolon = Some (end_top b true)
step_after_command b _ = None

-- The first number is how deep blocks may be nested.
abbrev pub step : ℕ → State → Word → Option State
step depth AtStart word = step_start word
step depth AtName word = step_name word
step depth (AtSemicolon n) word = step_semicolon n word
step depth (AtPrequel g) word = step_prequel g word
step depth (AtRule g) word = step_rule g word
step depth (AtOptionsBrace g o) word = step_options_brace g o word
step depth (AtEntry g o) word = step_entry g o word
step depth (AtEntryEquals g o) word = step_entry_equals g o word
step depth (AtValue v) word = step_value v word
step depth (InPath v) word = step_path v word
step depth (AtPathName v) word = step_path_name v word
step depth (AfterValue v) word = step_after_value v word
step depth (AtTokensBrace g) word = step_tokens_brace g word
step depth (AtToken g) word = step_token g word
step depth (AfterToken g) word = step_after_token g word
step depth (AtFragmentName g) word = step_fragment g word
step depth (AtHead g head) word = step_head depth g head word
step depth (AtColon g head) word = step_colon depth g head word
step depth (AtAlt b) word = step_alt b word
step depth (AtOpeningName b) word = step_opening_name b word
step depth (AtOpeningEquals b) word = step_opening_equals b word
step depth (InElements b) word = step_elements b word
step depth (Suffixed b) word = step_elements b word
step depth (AfterName b t) word = step_after_name b t word
step depth (AtAtom b) word = step_atom b word
step depth (AfterAtom b t) word = step_after b t word
step depth (AtRef b) word = step_ref b word
step depth (AtRefIn b rs) word = step_ref_in b rs word
step depth (AfterRef b rs) word = step_after_ref b rs word
step depth (AtAltName b) word = step_alt_name b word
step depth (AfterAltName b) word = step_alt_end b word
step depth (InLex b) word = step_lex b word
step depth (LexSuffixed b) word = step_lex b word
step depth (AfterLexAtom b t) word = step_lex_after b t word
step depth (AfterLiteral b n) word = step_after_literal b n word
step depth (AtRangeEnd b c) word = step_range_end b c word
step depth (AfterSet b s) word = step_after_set b s word
step depth (AfterSetStar b s) word = step_after_set_star b s word
step depth (AfterLoop b s) word = step_loop b s word
step depth (AltDone b) word = step_done b word
step depth (AtItem b) word = step_item b word
step depth (AtItemIn b p) word = step_item_in b p word
step depth (AfterItemChar b p c) word = step_after_item_char b p c word
step depth (AtItemEnd b p c) word = step_item_end b p c word
step depth (AfterItem b ranges) word = step_after_item b ranges word
step depth (AtCommand b) word = step_command b word
step depth (AtChannelOpen b) word = step_channel_open b word
step depth (AtChannelName b) word = step_channel_name b word
step depth (AtChannelClose b) word = step_channel_close b word
step depth (AfterCommand b) word = step_after_command b word
step depth (AtEnd g) word = None
