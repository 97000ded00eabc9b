-- The machine where one more block may be opened.
use Rattle.std.proofs.Common.{ℕ, zero, suc, ◌≡◌, Bool, true, false, cond, nat_le, List, [], ◌∷◌, ◌++◌, Option, Some, None, refl, ap, ◌∙◌}
use Rattle.grammar_tree.specs.Written.{Reference, WrittenTerm, LexerTerm, WrittenGrammar}
use Rattle.grammar_reader_words.specs.Names.{is}
use Rattle.grammar_reader_words.specs.declared.word.Word.{Word}
use Rattle.grammar_reader_words.specs.declared.word.Word.TheVariants as w
use Rattle.grammar_reader_notation.specs.Notation.{is_eof, may_name_option}
use Rattle.grammar_reader_notation.specs.Sets.{within, outside}
use Rattle.grammar_reader_machine.specs.Machine as m
use Rattle.grammar_reader.specs.WordByWord.{run, and_then}

abbrev pub deeper_body : m.Body → m.Body
deeper_body b = record { text = b.text; name = b.name; blocks_left = suc b.blocks_left; enclosing = b.enclosing; current = b.current }

abbrev pub deeper_lex : m.LexBody → m.LexBody
deeper_lex b =
    record {
      text = b.text;
      name = b.name;
      fragment = b.fragment;
      known = b.known;
      blocks_left = suc b.blocks_left;
      enclosing = b.enclosing;
      current = b.current;
    }

abbrev pub deeper_value : m.ValueOf → m.ValueOf
deeper_value (m.InEntry g o) = m.InEntry g o
deeper_value (m.InOpening b) = m.InOpening (deeper_body b)

abbrev pub deeper : m.State → m.State
deeper m.AtStart = m.AtStart
deeper m.AtName = m.AtName
deeper (m.AtSemicolon n) = m.AtSemicolon n
deeper (m.AtPrequel g) = m.AtPrequel g
deeper (m.AtRule g) = m.AtRule g
deeper (m.AtOptionsBrace g o) = m.AtOptionsBrace g o
deeper (m.AtEntry g o) = m.AtEntry g o
deeper (m.AtEntryEquals g o) = m.AtEntryEquals g o
deeper (m.AtValue v) = m.AtValue (deeper_value v)
deeper (m.InPath v) = m.InPath (deeper_value v)
deeper (m.AtPathName v) = m.AtPathName (deeper_value v)
deeper (m.AfterValue v) = m.AfterValue (deeper_value v)
deeper (m.AtTokensBrace g) = m.AtTokensBrace g
deeper (m.AtToken g) = m.AtToken g
deeper (m.AfterToken g) = m.AfterToken g
deeper (m.AtFragmentName g) = m.AtFragmentName g
deeper (m.AtHead g head) = m.AtHead g head
deeper (m.AtColon g head) = m.AtColon g head
deeper (m.AtAlt b) = m.AtAlt (deeper_body b)
deeper (m.AtOpeningName b) = m.AtOpeningName (deeper_body b)
deeper (m.AtOpeningEquals b) = m.AtOpeningEquals (deeper_body b)
deeper (m.InElements b) = m.InElements (deeper_body b)
deeper (m.Suffixed b) = m.Suffixed (deeper_body b)
deeper (m.AfterName b t) = m.AfterName (deeper_body b) t
deeper (m.AtAtom b) = m.AtAtom (deeper_body b)
deeper (m.AfterAtom b t) = m.AfterAtom (deeper_body b) t
deeper (m.AtRef b) = m.AtRef (deeper_body b)
deeper (m.AtRefIn b rs) = m.AtRefIn (deeper_body b) rs
deeper (m.AfterRef b rs) = m.AfterRef (deeper_body b) rs
deeper (m.AtAltName b) = m.AtAltName (deeper_body b)
deeper (m.AfterAltName b) = m.AfterAltName (deeper_body b)
deeper (m.InLex b) = m.InLex (deeper_lex b)
deeper (m.LexSuffixed b) = m.LexSuffixed (deeper_lex b)
deeper (m.AfterLexAtom b t) = m.AfterLexAtom (deeper_lex b) t
deeper (m.AfterLiteral b k) = m.AfterLiteral (deeper_lex b) k
deeper (m.AtRangeEnd b c) = m.AtRangeEnd (deeper_lex b) c
deeper (m.AfterSet b s) = m.AfterSet (deeper_lex b) s
deeper (m.AfterSetStar b s) = m.AfterSetStar (deeper_lex b) s
deeper (m.AfterLoop b s) = m.AfterLoop (deeper_lex b) s
deeper (m.AltDone b) = m.AltDone (deeper_lex b)
deeper (m.AtItem b) = m.AtItem (deeper_lex b)
deeper (m.AtItemIn b p) = m.AtItemIn (deeper_lex b) p
deeper (m.AfterItemChar b p c) = m.AfterItemChar (deeper_lex b) p c
deeper (m.AtItemEnd b p c) = m.AtItemEnd (deeper_lex b) p c
deeper (m.AfterItem b rs) = m.AfterItem (deeper_lex b) rs
deeper (m.AtCommand b) = m.AtCommand (deeper_lex b)
deeper (m.AtChannelOpen b) = m.AtChannelOpen (deeper_lex b)
deeper (m.AtChannelName b) = m.AtChannelName (deeper_lex b)
deeper (m.AtChannelClose b) = m.AtChannelClose (deeper_lex b)
deeper (m.AfterCommand b) = m.AfterCommand (deeper_lex b)
deeper (m.AtEnd g) = m.AtEnd g

-- what can be read, can be read there too
abbrev pub Deepens : Option m.State → Option m.State → Type 0
Deepens None p = Unit {0}
Deepens (Some t) p = p ≡ Some (deeper t)

if_not : (b : Bool) (t u : m.State) → u ≡ deeper t → Deepens (cond b None (Some t)) (cond b None (Some u))
if_not true t u e = tt
if_not false t u e = ap (λ v. Some v) e

provided_deep : (b : Bool) (t u : m.State) → u ≡ deeper t → Deepens (m.provided b t) (m.provided b u)
provided_deep true t u e = ap (λ v. Some v) e
provided_deep false t u e = tt

deep_rule : (g : WrittenGrammar) (word : Word) → Deepens (m.step_rule g word) (m.step_rule g word)
deep_rule g (w.Lower k) = refl
deep_rule g (w.Upper k) = refl
deep_rule g w.Fragment = refl
deep_rule g w.End = refl
deep_rule g _ = tt

deep_prequel : (g : WrittenGrammar) (word : Word) → Deepens (m.step_prequel g word) (m.step_prequel g word)
deep_prequel g w.Options = refl
deep_prequel g w.Tokens = refl
deep_prequel g word = deep_rule g word

deep_name : (word : Word) → Deepens (m.step_name word) (m.step_name word)
deep_name (w.Upper k) = refl
deep_name (w.Lower k) = refl
deep_name _ = tt

deep_start : (word : Word) → Deepens (m.step_start word) (m.step_start word)
deep_start w.Grammar = refl
deep_start _ = tt

deep_semicolon : (k : List ℕ) (word : Word) → Deepens (m.step_semicolon k word) (m.step_semicolon k word)
deep_semicolon k w.Semicolon = refl
deep_semicolon k _ = tt

deep_options_brace : (g : WrittenGrammar) (o : m.Owner) (word : Word) → Deepens (m.step_options_brace g o word) (m.step_options_brace g o word)
deep_options_brace g o w.OpenBrace = refl
deep_options_brace g o _ = tt

owned : (g : WrittenGrammar) (o : m.Owner) → Deepens (Some (m.after_options g o)) (Some (m.after_options g o))
owned g m.OfText = refl
owned g (m.OfRule head) = refl

deep_entry : (g : WrittenGrammar) (o : m.Owner) (word : Word) → Deepens (m.step_entry g o word) (m.step_entry g o word)
deep_entry g o (w.Upper k) = provided_deep (may_name_option k) (m.AtEntryEquals g o) (m.AtEntryEquals g o) refl
deep_entry g o (w.Lower k) = provided_deep (may_name_option k) (m.AtEntryEquals g o) (m.AtEntryEquals g o) refl
deep_entry g o w.CloseBrace = owned g o
deep_entry g o _ = tt

deep_entry_equals : (g : WrittenGrammar) (o : m.Owner) (word : Word) → Deepens (m.step_entry_equals g o word) (m.step_entry_equals g o word)
deep_entry_equals g o w.Equals = refl
deep_entry_equals g o _ = tt

deep_value : (v : m.ValueOf) (word : Word) → Deepens (m.step_value v word) (m.step_value (deeper_value v) word)
deep_value v (w.Upper k) = refl
deep_value v (w.Lower k) = refl
deep_value v (w.Literal k) = refl
deep_value v w.Number = refl
deep_value v _ = tt

deep_value_end : (v : m.ValueOf) (word : Word) → Deepens (m.step_after_value v word) (m.step_after_value (deeper_value v) word)
deep_value_end (m.InEntry g o) w.Semicolon = refl
deep_value_end (m.InOpening b) w.Greater = refl
deep_value_end (m.InEntry g o) _ = tt
deep_value_end (m.InOpening b) _ = tt

deep_path : (v : m.ValueOf) (word : Word) → Deepens (m.step_path v word) (m.step_path (deeper_value v) word)
deep_path v w.Dot = refl
deep_path v word = deep_value_end v word

deep_path_name : (v : m.ValueOf) (word : Word) → Deepens (m.step_path_name v word) (m.step_path_name (deeper_value v) word)
deep_path_name v (w.Upper k) = refl
deep_path_name v (w.Lower k) = refl
deep_path_name v _ = tt

deep_tokens_brace : (g : WrittenGrammar) (word : Word) → Deepens (m.step_tokens_brace g word) (m.step_tokens_brace g word)
deep_tokens_brace g w.OpenBrace = refl
deep_tokens_brace g _ = tt

deep_token : (g : WrittenGrammar) (word : Word) → Deepens (m.step_token g word) (m.step_token g word)
deep_token g (w.Upper k) = refl
deep_token g w.CloseBrace = refl
deep_token g _ = tt

deep_after_token : (g : WrittenGrammar) (word : Word) → Deepens (m.step_after_token g word) (m.step_after_token g word)
deep_after_token g w.Comma = refl
deep_after_token g w.CloseBrace = refl
deep_after_token g _ = tt

deep_fragment : (g : WrittenGrammar) (word : Word) → Deepens (m.step_fragment g word) (m.step_fragment g word)
deep_fragment g (w.Upper k) = refl
deep_fragment g _ = tt

deep_colon : (d : ℕ) (g : WrittenGrammar) (head : m.Head) (word : Word) → Deepens (m.step_colon d g head word) (m.step_colon (suc d) g head word)
deep_colon d g (m.ParserHead k) w.Colon = refl
deep_colon d g (m.LexerHead k f) w.Colon = refl
deep_colon d g head _ = tt

deep_head : (d : ℕ) (g : WrittenGrammar) (head : m.Head) (word : Word) → Deepens (m.step_head d g head word) (m.step_head (suc d) g head word)
deep_head d g head w.Options = refl
deep_head d g head word = deep_colon d g head word

-- parser rules
deep_opened : (b : m.Body) (blocks_left : ℕ) → Deepens (m.with_block b blocks_left) (m.with_block (deeper_body b) (suc blocks_left))
deep_opened b zero = tt
deep_opened b (suc blocks_left) = refl

deep_closed : (b : m.Body) (enclosing : List (m.Frame WrittenTerm)) → Deepens (m.block_end b enclosing) (m.block_end (deeper_body b) enclosing)
deep_closed b [] = tt
deep_closed b (f ∷ enclosing) = refl

deep_finished : (b : m.Body) (enclosing : List (m.Frame WrittenTerm)) → Deepens (m.rule_end b enclosing) (m.rule_end (deeper_body b) enclosing)
deep_finished b [] = refl
deep_finished b (f ∷ enclosing) = tt

deep_hashed : (b : m.Body) (enclosing : List (m.Frame WrittenTerm))
    → Deepens (m.before_alternative_name b enclosing) (m.before_alternative_name (deeper_body b) enclosing)
deep_hashed b [] = refl
deep_hashed b (f ∷ enclosing) = tt

deep_alt_end : (b : m.Body) (word : Word) → Deepens (m.step_alt_end b word) (m.step_alt_end (deeper_body b) word)
deep_alt_end b w.Bar = refl
deep_alt_end b w.Semicolon = deep_finished b b.enclosing
deep_alt_end b w.Close = deep_closed b b.enclosing
deep_alt_end b _ = tt

deep_elements : (b : m.Body) (word : Word) → Deepens (m.step_elements b word) (m.step_elements (deeper_body b) word)
deep_elements b (w.Literal k) = refl
deep_elements b (w.Upper k) = refl
deep_elements b (w.Lower k) = refl
deep_elements b w.Dot = refl
deep_elements b w.Tilde = refl
deep_elements b w.Open = deep_opened b b.blocks_left
deep_elements b w.Hash = deep_hashed b b.enclosing
deep_elements b word = deep_alt_end b word

deep_atom : (b : m.Body) (word : Word) → Deepens (m.step_atom b word) (m.step_atom (deeper_body b) word)
deep_atom b (w.Literal k) = refl
deep_atom b (w.Upper k) = refl
deep_atom b (w.Lower k) = refl
deep_atom b w.Dot = refl
deep_atom b w.Tilde = refl
deep_atom b w.Open = deep_opened b b.blocks_left
deep_atom b _ = tt

deep_after : (b : m.Body) (t : WrittenTerm) (word : Word) → Deepens (m.step_after b t word) (m.step_after (deeper_body b) t word)
deep_after b t w.Question = refl
deep_after b t w.Star = refl
deep_after b t w.Plus = refl
deep_after b t word = deep_elements (m.add b t) word

deep_after_name : (b : m.Body) (t : WrittenTerm) (word : Word) → Deepens (m.step_after_name b t word) (m.step_after_name (deeper_body b) t word)
deep_after_name b t w.Equals = refl
deep_after_name b t w.PlusEquals = refl
deep_after_name b t word = deep_after b t word

deep_alt : (b : m.Body) (word : Word) → Deepens (m.step_alt b word) (m.step_alt (deeper_body b) word)
deep_alt b w.Less = refl
deep_alt b word = deep_elements b word

deep_opening_name : (b : m.Body) (word : Word) → Deepens (m.step_opening_name b word) (m.step_opening_name (deeper_body b) word)
deep_opening_name b (w.Upper k) = refl
deep_opening_name b (w.Lower k) = refl
deep_opening_name b _ = tt

deep_opening_equals : (b : m.Body) (word : Word) → Deepens (m.step_opening_equals b word) (m.step_opening_equals (deeper_body b) word)
deep_opening_equals b w.Equals = refl
deep_opening_equals b _ = tt

deep_ref : (b : m.Body) (word : Word) → Deepens (m.step_ref b word) (m.step_ref (deeper_body b) word)
deep_ref b (w.Literal k) = refl
deep_ref b (w.Upper k) =
    if_not (is_eof k) (m.AfterAtom b (WrittenTerm.but (Reference.name k ∷ []))) (m.AfterAtom (deeper_body b) (WrittenTerm.but (Reference.name k ∷ []))) refl
deep_ref b w.Open = refl
deep_ref b _ = tt

deep_ref_in : (b : m.Body) (rs : List Reference) (word : Word) → Deepens (m.step_ref_in b rs word) (m.step_ref_in (deeper_body b) rs word)
deep_ref_in b rs (w.Literal k) = refl
deep_ref_in b rs (w.Upper k) = if_not (is_eof k) (m.AfterRef b (rs ++ Reference.name k ∷ [])) (m.AfterRef (deeper_body b) (rs ++ Reference.name k ∷ [])) refl
deep_ref_in b rs _ = tt

deep_after_ref : (b : m.Body) (rs : List Reference) (word : Word) → Deepens (m.step_after_ref b rs word) (m.step_after_ref (deeper_body b) rs word)
deep_after_ref b rs w.Bar = refl
deep_after_ref b rs w.Close = refl
deep_after_ref b rs _ = tt

deep_alt_name : (b : m.Body) (word : Word) → Deepens (m.step_alt_name b word) (m.step_alt_name (deeper_body b) word)
deep_alt_name b (w.Upper k) = refl
deep_alt_name b (w.Lower k) = refl
deep_alt_name b _ = tt

-- lexer rules
deep_lex_opened : (b : m.LexBody) (blocks_left : ℕ) → Deepens (m.lex_with_block b blocks_left) (m.lex_with_block (deeper_lex b) (suc blocks_left))
deep_lex_opened b zero = tt
deep_lex_opened b (suc blocks_left) = refl

deep_lex_closed : (b : m.LexBody) (enclosing : List (m.Frame LexerTerm)) → Deepens (m.lex_block_end b enclosing) (m.lex_block_end (deeper_lex b) enclosing)
deep_lex_closed b [] = tt
deep_lex_closed b (f ∷ enclosing) = refl

plain_deep : (known : Option Bool) (t u : m.State) → u ≡ deeper t → Deepens (m.without_command known t) (m.without_command known u)
plain_deep None t u e = ap (λ v. Some v) e
plain_deep (Some true) t u e = tt
plain_deep (Some false) t u e = ap (λ v. Some v) e

command_deep : (known : Option Bool) (t u : m.State) → u ≡ deeper t → Deepens (m.with_command known t) (m.with_command known u)
command_deep None t u e = ap (λ v. Some v) e
command_deep (Some true) t u e = ap (λ v. Some v) e
command_deep (Some false) t u e = tt

deep_done : (b : m.LexBody) (word : Word) → Deepens (m.step_done b word) (m.step_done (deeper_lex b) word)
deep_done b w.Bar = plain_deep b.known (m.next_top b false) (m.next_top (deeper_lex b) false) refl
deep_done b w.Semicolon = plain_deep b.known (m.end_top b false) (m.end_top (deeper_lex b) false) refl
deep_done b w.Arrow = command_deep b.known (m.AtCommand b) (m.AtCommand (deeper_lex b)) refl
deep_done b _ = tt

deep_inner_end : (b : m.LexBody) (word : Word) → Deepens (m.step_inner_end b word) (m.step_inner_end (deeper_lex b) word)
deep_inner_end b w.Bar = refl
deep_inner_end b w.Close = deep_lex_closed b b.enclosing
deep_inner_end b _ = tt

deep_lex_end : (b : m.LexBody) (enclosing : List (m.Frame LexerTerm)) (word : Word)
    → Deepens (m.step_lex_end b enclosing word) (m.step_lex_end (deeper_lex b) enclosing word)
deep_lex_end b [] word = deep_done b word
deep_lex_end b (f ∷ enclosing) word = deep_inner_end b word

deep_lex : (b : m.LexBody) (word : Word) → Deepens (m.step_lex b word) (m.step_lex (deeper_lex b) word)
deep_lex b (w.Literal k) = refl
deep_lex b (w.Upper k) = if_not (is_eof k) (m.AfterLexAtom b (LexerTerm.name k)) (m.AfterLexAtom (deeper_lex b) (LexerTerm.name k)) refl
deep_lex b (w.Set ranges) = refl
deep_lex b w.Dot = refl
deep_lex b w.Tilde = refl
deep_lex b w.Open = deep_lex_opened b b.blocks_left
deep_lex b word = deep_lex_end b b.enclosing word

deep_lex_after : (b : m.LexBody) (t : LexerTerm) (word : Word) → Deepens (m.step_lex_after b t word) (m.step_lex_after (deeper_lex b) t word)
deep_lex_after b t w.Question = refl
deep_lex_after b t w.Star = refl
deep_lex_after b t w.Plus = refl
deep_lex_after b t word = deep_lex (m.lex_add b t) word

deep_range_begun : (b : m.LexBody) (k : List ℕ) → Deepens (m.start_of_range b k) (m.start_of_range (deeper_lex b) k)
deep_range_begun b [] = tt
deep_range_begun b (c ∷ []) = refl
deep_range_begun b (c ∷ (e ∷ es)) = tt

deep_literal : (b : m.LexBody) (k : List ℕ) (word : Word) → Deepens (m.step_after_literal b k word) (m.step_after_literal (deeper_lex b) k word)
deep_literal b k w.Dots = deep_range_begun b k
deep_literal b k word = deep_lex_after b (LexerTerm.literal k) word

deep_range_end : (b : m.LexBody) (a : ℕ) (word : Word) → Deepens (m.step_range_end b a word) (m.step_range_end (deeper_lex b) a word)
deep_range_end b a (w.Literal []) = tt
deep_range_end b a (w.Literal (c ∷ [])) =
    provided_deep (nat_le a c) (m.AfterLexAtom b (LexerTerm.set (within ((a, c) ∷ []))))
    (m.AfterLexAtom (deeper_lex b) (LexerTerm.set (within ((a, c) ∷ [])))) refl
deep_range_end b a (w.Literal (c ∷ (e ∷ es))) = tt
deep_range_end b a _ = tt

deep_set : (b : m.LexBody) (s : List (ℕ × ℕ)) (word : Word) → Deepens (m.step_after_set b s word) (m.step_after_set (deeper_lex b) s word)
deep_set b s w.Star = refl
deep_set b s word = deep_lex_after b (LexerTerm.set s) word

deep_looped : (b : m.LexBody) (s : List (ℕ × ℕ)) (enclosing : List (m.Frame LexerTerm)) (f : Bool)
    → Deepens (m.loop_end b s enclosing f) (m.loop_end (deeper_lex b) s enclosing f)
deep_looped b s [] true = tt
deep_looped b s [] false = refl
deep_looped b s (f' ∷ enclosing) f = tt

deep_star : (b : m.LexBody) (s : List (ℕ × ℕ)) (word : Word) → Deepens (m.step_after_set_star b s word) (m.step_after_set_star (deeper_lex b) s word)
deep_star b s w.Question = deep_looped b s b.enclosing b.fragment
deep_star b s word = deep_lex (m.lex_add b (LexerTerm.star (LexerTerm.set s))) word

deep_loop : (b : m.LexBody) (s : List (ℕ × ℕ)) (word : Word) → Deepens (m.step_loop b s word) (m.step_loop (deeper_lex b) s word)
deep_loop b s (w.Literal k) = refl
deep_loop b s (w.Set ranges) = refl
deep_loop b s _ = tt

deep_placed : (b : m.LexBody) (p : m.ItemPosition) (i : List (ℕ × ℕ)) → m.after_item (deeper_lex b) p i ≡ deeper (m.after_item b p i)
deep_placed b m.Alone i = refl
deep_placed b (m.Listed ranges) i = refl

deep_one_char : (b : m.LexBody) (p : m.ItemPosition) (k : List ℕ) → Deepens (m.one_char b p k) (m.one_char (deeper_lex b) p k)
deep_one_char b p [] = tt
deep_one_char b p (c ∷ []) = refl
deep_one_char b p (c ∷ (e ∷ es)) = tt

deep_item_in : (b : m.LexBody) (p : m.ItemPosition) (word : Word) → Deepens (m.step_item_in b p word) (m.step_item_in (deeper_lex b) p word)
deep_item_in b p (w.Set ranges) = ap (λ v. Some v) (deep_placed b p ranges)
deep_item_in b p (w.Literal k) = deep_one_char b p k
deep_item_in b p _ = tt

deep_item : (b : m.LexBody) (word : Word) → Deepens (m.step_item b word) (m.step_item (deeper_lex b) word)
deep_item b w.Open = refl
deep_item b word = deep_item_in b m.Alone word

deep_after_item : (b : m.LexBody) (ranges : List (ℕ × ℕ)) (word : Word)
    → Deepens (m.step_after_item b ranges word) (m.step_after_item (deeper_lex b) ranges word)
deep_after_item b ranges w.Bar = refl
deep_after_item b ranges w.Close = refl
deep_after_item b ranges _ = tt

deep_one : (b : m.LexBody) (p : m.ItemPosition) (i : List (ℕ × ℕ)) (word : Word)
    → Deepens (m.step_after_one b p i word) (m.step_after_one (deeper_lex b) p i word)
deep_one b m.Alone i word = deep_set b (outside i) word
deep_one b (m.Listed ranges) i word = deep_after_item b (ranges ++ i) word

deep_item_char : (b : m.LexBody) (p : m.ItemPosition) (c : ℕ) (word : Word)
    → Deepens (m.step_after_item_char b p c word) (m.step_after_item_char (deeper_lex b) p c word)
deep_item_char b p c w.Dots = refl
deep_item_char b p c word = deep_one b p ((c, c) ∷ []) word

deep_item_end : (b : m.LexBody) (p : m.ItemPosition) (a : ℕ) (word : Word) → Deepens (m.step_item_end b p a word) (m.step_item_end (deeper_lex b) p a word)
deep_item_end b p a (w.Literal []) = tt
deep_item_end b p a (w.Literal (c ∷ [])) =
    provided_deep (nat_le a c) (m.after_item b p ((a, c) ∷ [])) (m.after_item (deeper_lex b) p ((a, c) ∷ [])) (deep_placed b p ((a, c) ∷ []))
deep_item_end b p a (w.Literal (c ∷ (e ∷ es))) = tt
deep_item_end b p a _ = tt

deep_either : (k : List ℕ) (b : m.LexBody) (t : Bool) →
    Deepens (cond t (Some (m.AfterCommand b)) (m.provided (is k "channel") (m.AtChannelOpen b)))
    (cond t (Some (m.AfterCommand (deeper_lex b))) (m.provided (is k "channel") (m.AtChannelOpen (deeper_lex b))))
deep_either k b true = refl
deep_either k b false = provided_deep (is k "channel") (m.AtChannelOpen b) (m.AtChannelOpen (deeper_lex b)) refl

deep_command : (b : m.LexBody) (word : Word) → Deepens (m.step_command b word) (m.step_command (deeper_lex b) word)
deep_command b (w.Lower k) = deep_either k b (is k "skip")
deep_command b _ = tt

deep_channel_open : (b : m.LexBody) (word : Word) → Deepens (m.step_channel_open b word) (m.step_channel_open (deeper_lex b) word)
deep_channel_open b w.Open = refl
deep_channel_open b _ = tt

deep_channel_name : (b : m.LexBody) (word : Word) → Deepens (m.step_channel_name b word) (m.step_channel_name (deeper_lex b) word)
deep_channel_name b (w.Upper k) = provided_deep (is k "HIDDEN") (m.AtChannelClose b) (m.AtChannelClose (deeper_lex b)) refl
deep_channel_name b _ = tt

deep_channel_close : (b : m.LexBody) (word : Word) → Deepens (m.step_channel_close b word) (m.step_channel_close (deeper_lex b) word)
deep_channel_close b w.Close = refl
deep_channel_close b _ = tt

deep_after_command : (b : m.LexBody) (word : Word) → Deepens (m.step_after_command b word) (m.step_after_command (deeper_lex b) word)
deep_after_command b w.Bar = refl
deep_after_command b w.Semicolon = refl
deep_after_command b _ = tt

pub deep_step : (d : ℕ) (s : m.State) (word : Word) → Deepens (m.step d s word) (m.step (suc d) (deeper s) word)
deep_step d m.AtStart word = deep_start word
deep_step d m.AtName word = deep_name word
deep_step d (m.AtSemicolon k) word = deep_semicolon k word
deep_step d (m.AtPrequel g) word = deep_prequel g word
deep_step d (m.AtRule g) word = deep_rule g word
deep_step d (m.AtOptionsBrace g o) word = deep_options_brace g o word
deep_step d (m.AtEntry g o) word = deep_entry g o word
deep_step d (m.AtEntryEquals g o) word = deep_entry_equals g o word
deep_step d (m.AtValue v) word = deep_value v word
deep_step d (m.InPath v) word = deep_path v word
deep_step d (m.AtPathName v) word = deep_path_name v word
deep_step d (m.AfterValue v) word = deep_value_end v word
deep_step d (m.AtTokensBrace g) word = deep_tokens_brace g word
deep_step d (m.AtToken g) word = deep_token g word
deep_step d (m.AfterToken g) word = deep_after_token g word
deep_step d (m.AtFragmentName g) word = deep_fragment g word
deep_step d (m.AtHead g head) word = deep_head d g head word
deep_step d (m.AtColon g head) word = deep_colon d g head word
deep_step d (m.AtAlt b) word = deep_alt b word
deep_step d (m.AtOpeningName b) word = deep_opening_name b word
deep_step d (m.AtOpeningEquals b) word = deep_opening_equals b word
deep_step d (m.InElements b) word = deep_elements b word
deep_step d (m.Suffixed b) word = deep_elements b word
deep_step d (m.AfterName b t) word = deep_after_name b t word
deep_step d (m.AtAtom b) word = deep_atom b word
deep_step d (m.AfterAtom b t) word = deep_after b t word
deep_step d (m.AtRef b) word = deep_ref b word
deep_step d (m.AtRefIn b rs) word = deep_ref_in b rs word
deep_step d (m.AfterRef b rs) word = deep_after_ref b rs word
deep_step d (m.AtAltName b) word = deep_alt_name b word
deep_step d (m.AfterAltName b) word = deep_alt_end b word
deep_step d (m.InLex b) word = deep_lex b word
deep_step d (m.LexSuffixed b) word = deep_lex b word
deep_step d (m.AfterLexAtom b t) word = deep_lex_after b t word
deep_step d (m.AfterLiteral b k) word = deep_literal b k word
deep_step d (m.AtRangeEnd b a) word = deep_range_end b a word
deep_step d (m.AfterSet b s) word = deep_set b s word
deep_step d (m.AfterSetStar b s) word = deep_star b s word
deep_step d (m.AfterLoop b s) word = deep_loop b s word
deep_step d (m.AltDone b) word = deep_done b word
deep_step d (m.AtItem b) word = deep_item b word
deep_step d (m.AtItemIn b p) word = deep_item_in b p word
deep_step d (m.AfterItemChar b p c) word = deep_item_char b p c word
deep_step d (m.AtItemEnd b p a) word = deep_item_end b p a word
deep_step d (m.AfterItem b ranges) word = deep_after_item b ranges word
deep_step d (m.AtCommand b) word = deep_command b word
deep_step d (m.AtChannelOpen b) word = deep_channel_open b word
deep_step d (m.AtChannelName b) word = deep_channel_name b word
deep_step d (m.AtChannelClose b) word = deep_channel_close b word
deep_step d (m.AfterCommand b) word = deep_after_command b word
deep_step d (m.AtEnd g) word = tt

after : (d : ℕ) (words : List Word) (t : m.State) (o p : Option m.State) → Deepens o p
    → ((s : m.State) → run d s words ≡ Some t → run (suc d) (deeper s) words ≡ Some (deeper t)) →
    and_then o (λ s. run d s words) ≡ Some t → and_then p (λ s. run (suc d) s words) ≡ Some (deeper t)
after d words t None p h k e = cc e
after d words t (Some s) p h k e = ap (λ q. and_then q (λ s. run (suc d) s words)) h ∙ k s e

pub deep_run : (d : ℕ) (s : m.State) (words : List Word) (t : m.State) → run d s words ≡ Some t → run (suc d) (deeper s) words ≡ Some (deeper t)
deep_run d s [] t e = let f : s ≡ t = cc e in ap (λ u. Some (deeper u)) f
deep_run d s (word ∷ words) t e = after d words t (m.step d s word) (m.step (suc d) (deeper s) word) (deep_step d s word) (λ u e. deep_run d u words t e) e
