-- The region of each state, which each word changes as it does in the text.
use Rattle.std.proofs.Common.{ℕ, zero, suc, ◌≡◌, Bool, true, false, cond, nat_le, List, [], ◌∷◌, ◌++◌, Option, Some, None, refl, ap, ◌∙◌}
use Rattle.grammar_tree.specs.Written.{Reference, WrittenTerm, LexerTerm, WrittenGrammar}
use Rattle.grammar_reader_words.specs.Names.{is}
use Rattle.grammar_reader_words.specs.declared.word.Word.{Word}
use Rattle.grammar_reader_words.specs.declared.word.Word.TheVariants as w
use Rattle.grammar_reader_notation.specs.Notation.{is_eof, may_name_option}
use Rattle.grammar_reader_notation.specs.Sets.{within, outside}
use Rattle.grammar_reader_machine.specs.Machine as m
use Rattle.grammar_reader.specs.WordByWord.{run, and_then}
use Rattle.grammar_reader.proofs.Regions.{Side, parsing, lexing, Region, starting, heading, between, prequel, named, opening}
use Rattle.grammar_reader.proofs.Regions.{body, suffixed, looped, last, command, finished, next, region_from}

abbrev side_of : m.Head → Side
side_of (m.ParserHead name) = parsing
side_of (m.LexerHead name fragment) = lexing

abbrev pub region_of_owner : m.Owner → Region
region_of_owner m.OfText = prequel
region_of_owner (m.OfRule head) = opening (side_of head)

abbrev pub region_of_value : m.ValueOf → Region
region_of_value (m.InEntry g o) = region_of_owner o
region_of_value (m.InOpening b) = body parsing

abbrev pub region_of : m.State → Region
region_of m.AtStart = starting
region_of m.AtName = heading
region_of (m.AtSemicolon n) = heading
region_of (m.AtPrequel g) = between
region_of (m.AtRule g) = between
region_of (m.AtOptionsBrace g o) = region_of_owner o
region_of (m.AtEntry g o) = region_of_owner o
region_of (m.AtEntryEquals g o) = region_of_owner o
region_of (m.AtValue v) = region_of_value v
region_of (m.InPath v) = region_of_value v
region_of (m.AtPathName v) = region_of_value v
region_of (m.AfterValue v) = region_of_value v
region_of (m.AtTokensBrace g) = prequel
region_of (m.AtToken g) = prequel
region_of (m.AfterToken g) = prequel
region_of (m.AtFragmentName g) = between
region_of (m.AtHead g head) = named (side_of head)
region_of (m.AtColon g head) = opening (side_of head)
region_of (m.AtAlt b) = body parsing
region_of (m.AtOpeningName b) = body parsing
region_of (m.AtOpeningEquals b) = body parsing
region_of (m.InElements b) = body parsing
region_of (m.Suffixed b) = suffixed parsing
region_of (m.AfterName b t) = body parsing
region_of (m.AtAtom b) = body parsing
region_of (m.AfterAtom b t) = body parsing
region_of (m.AtRef b) = body parsing
region_of (m.AtRefIn b rs) = body parsing
region_of (m.AfterRef b rs) = body parsing
region_of (m.AtAltName b) = body parsing
region_of (m.AfterAltName b) = body parsing
region_of (m.InLex b) = body lexing
region_of (m.LexSuffixed b) = suffixed lexing
region_of (m.AfterLexAtom b t) = body lexing
region_of (m.AfterLiteral b k) = body lexing
region_of (m.AtRangeEnd b c) = body lexing
region_of (m.AfterSet b s) = body lexing
region_of (m.AfterSetStar b s) = suffixed lexing
region_of (m.AfterLoop b s) = looped lexing
region_of (m.AltDone b) = last lexing
region_of (m.AtItem b) = body lexing
region_of (m.AtItemIn b p) = body lexing
region_of (m.AfterItemChar b p c) = body lexing
region_of (m.AtItemEnd b p c) = body lexing
region_of (m.AfterItem b rs) = body lexing
region_of (m.AtCommand b) = command lexing
region_of (m.AtChannelOpen b) = command lexing
region_of (m.AtChannelName b) = command lexing
region_of (m.AtChannelClose b) = command lexing
region_of (m.AfterCommand b) = command lexing
region_of (m.AtEnd g) = finished

abbrev pub Keeps : Region → Word → Option m.State → Type 0
Keeps s word None = Unit {0}
Keeps s word (Some t) = next s word ≡ region_of t

-- a test before
if_not : (s : Region) (word : Word) (b : Bool) (t : m.State) → next s word ≡ region_of t → Keeps s word (cond b None (Some t))
if_not s word true t e = tt
if_not s word false t e = e

provided_keeps : (s : Region) (word : Word) (b : Bool) (t : m.State) → next s word ≡ region_of t → Keeps s word (m.provided b t)
provided_keeps s word true t e = e
provided_keeps s word false t e = tt

keeps_rule : (g : WrittenGrammar) (word : Word) → Keeps between word (m.step_rule g word)
keeps_rule g (w.Lower k) = refl
keeps_rule g (w.Upper k) = refl
keeps_rule g w.Fragment = refl
keeps_rule g w.End = refl
keeps_rule g _ = tt

keeps_prequel : (g : WrittenGrammar) (word : Word) → Keeps between word (m.step_prequel g word)
keeps_prequel g w.Options = refl
keeps_prequel g w.Tokens = refl
keeps_prequel g word = keeps_rule g word

keeps_name : (word : Word) → Keeps heading word (m.step_name word)
keeps_name (w.Upper k) = refl
keeps_name (w.Lower k) = refl
keeps_name _ = tt

keeps_start : (word : Word) → Keeps starting word (m.step_start word)
keeps_start w.Grammar = refl
keeps_start _ = tt

keeps_semicolon : (k : List ℕ) (word : Word) → Keeps heading word (m.step_semicolon k word)
keeps_semicolon k w.Semicolon = refl
keeps_semicolon k _ = tt

keeps_options_brace : (g : WrittenGrammar) (o : m.Owner) (word : Word) → Keeps (region_of_owner o) word (m.step_options_brace g o word)
keeps_options_brace g m.OfText w.OpenBrace = refl
keeps_options_brace g (m.OfRule head) w.OpenBrace = refl
keeps_options_brace g m.OfText _ = tt
keeps_options_brace g (m.OfRule head) _ = tt

keeps_entry : (g : WrittenGrammar) (o : m.Owner) (word : Word) → Keeps (region_of_owner o) word (m.step_entry g o word)
keeps_entry g m.OfText (w.Upper k) = provided_keeps prequel (w.Upper k) (may_name_option k) (m.AtEntryEquals g m.OfText) refl
keeps_entry g (m.OfRule head) (w.Upper k) = provided_keeps (opening (side_of head)) (w.Upper k) (may_name_option k) (m.AtEntryEquals g (m.OfRule head)) refl
keeps_entry g m.OfText (w.Lower k) = provided_keeps prequel (w.Lower k) (may_name_option k) (m.AtEntryEquals g m.OfText) refl
keeps_entry g (m.OfRule head) (w.Lower k) = provided_keeps (opening (side_of head)) (w.Lower k) (may_name_option k) (m.AtEntryEquals g (m.OfRule head)) refl
keeps_entry g m.OfText w.CloseBrace = refl
keeps_entry g (m.OfRule head) w.CloseBrace = refl
keeps_entry g m.OfText _ = tt
keeps_entry g (m.OfRule head) _ = tt

keeps_entry_equals : (g : WrittenGrammar) (o : m.Owner) (word : Word) → Keeps (region_of_owner o) word (m.step_entry_equals g o word)
keeps_entry_equals g m.OfText w.Equals = refl
keeps_entry_equals g (m.OfRule head) w.Equals = refl
keeps_entry_equals g m.OfText _ = tt
keeps_entry_equals g (m.OfRule head) _ = tt

keeps_value : (v : m.ValueOf) (word : Word) → Keeps (region_of_value v) word (m.step_value v word)
keeps_value (m.InEntry g m.OfText) (w.Upper k) = refl
keeps_value (m.InEntry g (m.OfRule head)) (w.Upper k) = refl
keeps_value (m.InOpening b) (w.Upper k) = refl
keeps_value (m.InEntry g m.OfText) (w.Lower k) = refl
keeps_value (m.InEntry g (m.OfRule head)) (w.Lower k) = refl
keeps_value (m.InOpening b) (w.Lower k) = refl
keeps_value (m.InEntry g m.OfText) (w.Literal k) = refl
keeps_value (m.InEntry g (m.OfRule head)) (w.Literal k) = refl
keeps_value (m.InOpening b) (w.Literal k) = refl
keeps_value (m.InEntry g m.OfText) w.Number = refl
keeps_value (m.InEntry g (m.OfRule head)) w.Number = refl
keeps_value (m.InOpening b) w.Number = refl
keeps_value v _ = tt

keeps_value_end : (v : m.ValueOf) (word : Word) → Keeps (region_of_value v) word (m.step_after_value v word)
keeps_value_end (m.InEntry g m.OfText) w.Semicolon = refl
keeps_value_end (m.InEntry g (m.OfRule head)) w.Semicolon = refl
keeps_value_end (m.InOpening b) w.Greater = refl
keeps_value_end (m.InEntry g o) _ = tt
keeps_value_end (m.InOpening b) _ = tt

keeps_path : (v : m.ValueOf) (word : Word) → Keeps (region_of_value v) word (m.step_path v word)
keeps_path (m.InEntry g m.OfText) w.Dot = refl
keeps_path (m.InEntry g (m.OfRule head)) w.Dot = refl
keeps_path (m.InOpening b) w.Dot = refl
keeps_path v word = keeps_value_end v word

keeps_path_name : (v : m.ValueOf) (word : Word) → Keeps (region_of_value v) word (m.step_path_name v word)
keeps_path_name (m.InEntry g m.OfText) (w.Upper k) = refl
keeps_path_name (m.InEntry g (m.OfRule head)) (w.Upper k) = refl
keeps_path_name (m.InOpening b) (w.Upper k) = refl
keeps_path_name (m.InEntry g m.OfText) (w.Lower k) = refl
keeps_path_name (m.InEntry g (m.OfRule head)) (w.Lower k) = refl
keeps_path_name (m.InOpening b) (w.Lower k) = refl
keeps_path_name v _ = tt

keeps_tokens_brace : (g : WrittenGrammar) (word : Word) → Keeps prequel word (m.step_tokens_brace g word)
keeps_tokens_brace g w.OpenBrace = refl
keeps_tokens_brace g _ = tt

keeps_token : (g : WrittenGrammar) (word : Word) → Keeps prequel word (m.step_token g word)
keeps_token g (w.Upper k) = refl
keeps_token g w.CloseBrace = refl
keeps_token g _ = tt

keeps_after_token : (g : WrittenGrammar) (word : Word) → Keeps prequel word (m.step_after_token g word)
keeps_after_token g w.Comma = refl
keeps_after_token g w.CloseBrace = refl
keeps_after_token g _ = tt

keeps_fragment : (g : WrittenGrammar) (word : Word) → Keeps between word (m.step_fragment g word)
keeps_fragment g (w.Upper k) = refl
keeps_fragment g _ = tt

keeps_colon : (d : ℕ) (g : WrittenGrammar) (head : m.Head) (word : Word) → Keeps (opening (side_of head)) word (m.step_colon d g head word)
keeps_colon d g (m.ParserHead k) w.Colon = refl
keeps_colon d g (m.LexerHead k f) w.Colon = refl
keeps_colon d g head _ = tt

keeps_head : (d : ℕ) (g : WrittenGrammar) (head : m.Head) (word : Word) → Keeps (named (side_of head)) word (m.step_head d g head word)
keeps_head d g head w.Options = refl
keeps_head d g (m.ParserHead k) w.Colon = refl
keeps_head d g (m.LexerHead k f) w.Colon = refl
keeps_head d g head _ = tt

-- parser rules; the region is that of the body or that after a suffix
pub data InBody (side : Side) : Region → Type 0 where
  plain : InBody side (body side)
  with_a_suffix : InBody side (suffixed side)

keeps_with_block : (s : Region) → InBody parsing s → (b : m.Body) (blocks_left : ℕ) → Keeps s w.Open (m.with_block b blocks_left)
keeps_with_block s plain b zero = tt
keeps_with_block s plain b (suc blocks_left) = refl
keeps_with_block s with_a_suffix b zero = tt
keeps_with_block s with_a_suffix b (suc blocks_left) = refl

keeps_block_end : (s : Region) → InBody parsing s → (b : m.Body) (enclosing : List (m.Frame WrittenTerm)) → Keeps s w.Close (m.block_end b enclosing)
keeps_block_end s i b [] = tt
keeps_block_end s plain b (f ∷ enclosing) = refl
keeps_block_end s with_a_suffix b (f ∷ enclosing) = refl

keeps_rule_end : (s : Region) → InBody parsing s → (b : m.Body) (enclosing : List (m.Frame WrittenTerm)) → Keeps s w.Semicolon (m.rule_end b enclosing)
keeps_rule_end s plain b [] = refl
keeps_rule_end s with_a_suffix b [] = refl
keeps_rule_end s i b (f ∷ enclosing) = tt

keeps_before_alternative_name : (s : Region) → InBody parsing s → (b : m.Body) (enclosing : List (m.Frame WrittenTerm))
    → Keeps s w.Hash (m.before_alternative_name b enclosing)
keeps_before_alternative_name s plain b [] = refl
keeps_before_alternative_name s with_a_suffix b [] = refl
keeps_before_alternative_name s i b (f ∷ enclosing) = tt

keeps_alt_end : (s : Region) → InBody parsing s → (b : m.Body) (word : Word) → Keeps s word (m.step_alt_end b word)
keeps_alt_end s plain b w.Bar = refl
keeps_alt_end s with_a_suffix b w.Bar = refl
keeps_alt_end s i b w.Semicolon = keeps_rule_end s i b b.enclosing
keeps_alt_end s i b w.Close = keeps_block_end s i b b.enclosing
keeps_alt_end s i b _ = tt

keeps_elements : (s : Region) → InBody parsing s → (b : m.Body) (word : Word) → Keeps s word (m.step_elements b word)
keeps_elements s plain b (w.Literal k) = refl
keeps_elements s plain b (w.Upper k) = refl
keeps_elements s plain b (w.Lower k) = refl
keeps_elements s plain b w.Dot = refl
keeps_elements s plain b w.Tilde = refl
keeps_elements s with_a_suffix b (w.Literal k) = refl
keeps_elements s with_a_suffix b (w.Upper k) = refl
keeps_elements s with_a_suffix b (w.Lower k) = refl
keeps_elements s with_a_suffix b w.Dot = refl
keeps_elements s with_a_suffix b w.Tilde = refl
keeps_elements s i b w.Open = keeps_with_block s i b b.blocks_left
keeps_elements s i b w.Hash = keeps_before_alternative_name s i b b.enclosing
keeps_elements s i b word = keeps_alt_end s i b word

keeps_atom : (b : m.Body) (word : Word) → Keeps (body parsing) word (m.step_atom b word)
keeps_atom b (w.Literal k) = refl
keeps_atom b (w.Upper k) = refl
keeps_atom b (w.Lower k) = refl
keeps_atom b w.Dot = refl
keeps_atom b w.Tilde = refl
keeps_atom b w.Open = keeps_with_block (body parsing) plain b b.blocks_left
keeps_atom b _ = tt

keeps_after : (b : m.Body) (t : WrittenTerm) (word : Word) → Keeps (body parsing) word (m.step_after b t word)
keeps_after b t w.Question = refl
keeps_after b t w.Star = refl
keeps_after b t w.Plus = refl
keeps_after b t word = keeps_elements (body parsing) plain (m.add b t) word

keeps_after_name : (b : m.Body) (t : WrittenTerm) (word : Word) → Keeps (body parsing) word (m.step_after_name b t word)
keeps_after_name b t w.Equals = refl
keeps_after_name b t w.PlusEquals = refl
keeps_after_name b t word = keeps_after b t word

keeps_alt : (b : m.Body) (word : Word) → Keeps (body parsing) word (m.step_alt b word)
keeps_alt b w.Less = refl
keeps_alt b word = keeps_elements (body parsing) plain b word

keeps_opening_name : (b : m.Body) (word : Word) → Keeps (body parsing) word (m.step_opening_name b word)
keeps_opening_name b (w.Upper k) = refl
keeps_opening_name b (w.Lower k) = refl
keeps_opening_name b _ = tt

keeps_opening_equals : (b : m.Body) (word : Word) → Keeps (body parsing) word (m.step_opening_equals b word)
keeps_opening_equals b w.Equals = refl
keeps_opening_equals b _ = tt

keeps_ref : (b : m.Body) (word : Word) → Keeps (body parsing) word (m.step_ref b word)
keeps_ref b (w.Literal k) = refl
keeps_ref b (w.Upper k) = if_not (body parsing) (w.Upper k) (is_eof k) (m.AfterAtom b (WrittenTerm.but (Reference.name k ∷ []))) refl
keeps_ref b w.Open = refl
keeps_ref b _ = tt

keeps_ref_in : (b : m.Body) (rs : List Reference) (word : Word) → Keeps (body parsing) word (m.step_ref_in b rs word)
keeps_ref_in b rs (w.Literal k) = refl
keeps_ref_in b rs (w.Upper k) = if_not (body parsing) (w.Upper k) (is_eof k) (m.AfterRef b (rs ++ Reference.name k ∷ [])) refl
keeps_ref_in b rs _ = tt

keeps_after_ref : (b : m.Body) (rs : List Reference) (word : Word) → Keeps (body parsing) word (m.step_after_ref b rs word)
keeps_after_ref b rs w.Bar = refl
keeps_after_ref b rs w.Close = refl
keeps_after_ref b rs _ = tt

keeps_alt_name : (b : m.Body) (word : Word) → Keeps (body parsing) word (m.step_alt_name b word)
keeps_alt_name b (w.Upper k) = refl
keeps_alt_name b (w.Lower k) = refl
keeps_alt_name b _ = tt

-- lexer rules
keeps_lex_opened : (s : Region) → InBody lexing s → (b : m.LexBody) (blocks_left : ℕ) → Keeps s w.Open (m.lex_with_block b blocks_left)
keeps_lex_opened s plain b zero = tt
keeps_lex_opened s plain b (suc blocks_left) = refl
keeps_lex_opened s with_a_suffix b zero = tt
keeps_lex_opened s with_a_suffix b (suc blocks_left) = refl

keeps_lex_closed : (s : Region) → InBody lexing s → (b : m.LexBody) (enclosing : List (m.Frame LexerTerm)) → Keeps s w.Close (m.lex_block_end b enclosing)
keeps_lex_closed s i b [] = tt
keeps_lex_closed s plain b (f ∷ enclosing) = refl
keeps_lex_closed s with_a_suffix b (f ∷ enclosing) = refl

plain_keeps : (s : Region) (word : Word) (known : Option Bool) (t : m.State) → next s word ≡ region_of t → Keeps s word (m.without_command known t)
plain_keeps s word None t e = e
plain_keeps s word (Some true) t e = tt
plain_keeps s word (Some false) t e = e

command_keeps : (s : Region) (word : Word) (known : Option Bool) (t : m.State) → next s word ≡ region_of t → Keeps s word (m.with_command known t)
command_keeps s word None t e = e
command_keeps s word (Some true) t e = e
command_keeps s word (Some false) t e = tt

pub data AtEndOfAlt : Region → Type 0 where
  in_body : AtEndOfAlt (body lexing)
  after_suffix : AtEndOfAlt (suffixed lexing)
  after_loop : AtEndOfAlt (last lexing)

keeps_done : (s : Region) → AtEndOfAlt s → (b : m.LexBody) (word : Word) → Keeps s word (m.step_done b word)
keeps_done s in_body b w.Bar = plain_keeps (body lexing) w.Bar b.known (m.next_top b false) refl
keeps_done s in_body b w.Semicolon = plain_keeps (body lexing) w.Semicolon b.known (m.end_top b false) refl
keeps_done s in_body b w.Arrow = command_keeps (body lexing) w.Arrow b.known (m.AtCommand b) refl
keeps_done s after_suffix b w.Bar = plain_keeps (suffixed lexing) w.Bar b.known (m.next_top b false) refl
keeps_done s after_suffix b w.Semicolon = plain_keeps (suffixed lexing) w.Semicolon b.known (m.end_top b false) refl
keeps_done s after_suffix b w.Arrow = command_keeps (suffixed lexing) w.Arrow b.known (m.AtCommand b) refl
keeps_done s after_loop b w.Bar = plain_keeps (last lexing) w.Bar b.known (m.next_top b false) refl
keeps_done s after_loop b w.Semicolon = plain_keeps (last lexing) w.Semicolon b.known (m.end_top b false) refl
keeps_done s after_loop b w.Arrow = command_keeps (last lexing) w.Arrow b.known (m.AtCommand b) refl
keeps_done s i b _ = tt

keeps_inner_end : (s : Region) → InBody lexing s → (b : m.LexBody) (word : Word) → Keeps s word (m.step_inner_end b word)
keeps_inner_end s plain b w.Bar = refl
keeps_inner_end s with_a_suffix b w.Bar = refl
keeps_inner_end s i b w.Close = keeps_lex_closed s i b b.enclosing
keeps_inner_end s i b _ = tt

keeps_lex_end : (s : Region) → InBody lexing s → (b : m.LexBody) (enclosing : List (m.Frame LexerTerm)) (word : Word)
    → Keeps s word (m.step_lex_end b enclosing word)
keeps_lex_end s plain b [] word = keeps_done (body lexing) in_body b word
keeps_lex_end s with_a_suffix b [] word = keeps_done (suffixed lexing) after_suffix b word
keeps_lex_end s i b (f ∷ enclosing) word = keeps_inner_end s i b word

keeps_lex : (s : Region) → InBody lexing s → (b : m.LexBody) (word : Word) → Keeps s word (m.step_lex b word)
keeps_lex s plain b (w.Literal k) = refl
keeps_lex s plain b (w.Upper k) = if_not (body lexing) (w.Upper k) (is_eof k) (m.AfterLexAtom b (LexerTerm.name k)) refl
keeps_lex s plain b (w.Set ranges) = refl
keeps_lex s plain b w.Dot = refl
keeps_lex s plain b w.Tilde = refl
keeps_lex s with_a_suffix b (w.Literal k) = refl
keeps_lex s with_a_suffix b (w.Upper k) = if_not (suffixed lexing) (w.Upper k) (is_eof k) (m.AfterLexAtom b (LexerTerm.name k)) refl
keeps_lex s with_a_suffix b (w.Set ranges) = refl
keeps_lex s with_a_suffix b w.Dot = refl
keeps_lex s with_a_suffix b w.Tilde = refl
keeps_lex s i b w.Open = keeps_lex_opened s i b b.blocks_left
keeps_lex s i b word = keeps_lex_end s i b b.enclosing word

keeps_lex_after : (b : m.LexBody) (t : LexerTerm) (word : Word) → Keeps (body lexing) word (m.step_lex_after b t word)
keeps_lex_after b t w.Question = refl
keeps_lex_after b t w.Star = refl
keeps_lex_after b t w.Plus = refl
keeps_lex_after b t word = keeps_lex (body lexing) plain (m.lex_add b t) word

keeps_range_begun : (b : m.LexBody) (k : List ℕ) → Keeps (body lexing) w.Dots (m.start_of_range b k)
keeps_range_begun b [] = tt
keeps_range_begun b (c ∷ []) = refl
keeps_range_begun b (c ∷ (e ∷ es)) = tt

keeps_literal : (b : m.LexBody) (k : List ℕ) (word : Word) → Keeps (body lexing) word (m.step_after_literal b k word)
keeps_literal b k w.Dots = keeps_range_begun b k
keeps_literal b k word = keeps_lex_after b (LexerTerm.literal k) word

keeps_range_end : (b : m.LexBody) (a : ℕ) (word : Word) → Keeps (body lexing) word (m.step_range_end b a word)
keeps_range_end b a (w.Literal []) = tt
keeps_range_end b a (w.Literal (c ∷ [])) =
    provided_keeps (body lexing) (w.Literal (c ∷ [])) (nat_le a c) (m.AfterLexAtom b (LexerTerm.set (within ((a, c) ∷ [])))) refl
keeps_range_end b a (w.Literal (c ∷ (e ∷ es))) = tt
keeps_range_end b a _ = tt

keeps_set : (b : m.LexBody) (s : List (ℕ × ℕ)) (word : Word) → Keeps (body lexing) word (m.step_after_set b s word)
keeps_set b s w.Star = refl
keeps_set b s word = keeps_lex_after b (LexerTerm.set s) word

keeps_looped : (b : m.LexBody) (s : List (ℕ × ℕ)) (enclosing : List (m.Frame LexerTerm)) (f : Bool)
    → Keeps (suffixed lexing) w.Question (m.loop_end b s enclosing f)
keeps_looped b s [] true = tt
keeps_looped b s [] false = refl
keeps_looped b s (f' ∷ enclosing) f = tt

keeps_star : (b : m.LexBody) (s : List (ℕ × ℕ)) (word : Word) → Keeps (suffixed lexing) word (m.step_after_set_star b s word)
keeps_star b s w.Question = keeps_looped b s b.enclosing b.fragment
keeps_star b s word = keeps_lex (suffixed lexing) with_a_suffix (m.lex_add b (LexerTerm.star (LexerTerm.set s))) word

keeps_loop : (b : m.LexBody) (s : List (ℕ × ℕ)) (word : Word) → Keeps (looped lexing) word (m.step_loop b s word)
keeps_loop b s (w.Literal k) = refl
keeps_loop b s (w.Set ranges) = refl
keeps_loop b s _ = tt

placed_body : (b : m.LexBody) (p : m.ItemPosition) (i : List (ℕ × ℕ)) → body lexing ≡ region_of (m.after_item b p i)
placed_body b m.Alone i = refl
placed_body b (m.Listed ranges) i = refl

keeps_one_char : (b : m.LexBody) (p : m.ItemPosition) (k : List ℕ) → Keeps (body lexing) (w.Literal k) (m.one_char b p k)
keeps_one_char b p [] = tt
keeps_one_char b p (c ∷ []) = refl
keeps_one_char b p (c ∷ (e ∷ es)) = tt

keeps_item_in : (b : m.LexBody) (p : m.ItemPosition) (word : Word) → Keeps (body lexing) word (m.step_item_in b p word)
keeps_item_in b p (w.Set ranges) = placed_body b p ranges
keeps_item_in b p (w.Literal k) = keeps_one_char b p k
keeps_item_in b p _ = tt

keeps_item : (b : m.LexBody) (word : Word) → Keeps (body lexing) word (m.step_item b word)
keeps_item b w.Open = refl
keeps_item b word = keeps_item_in b m.Alone word

keeps_after_item : (b : m.LexBody) (ranges : List (ℕ × ℕ)) (word : Word) → Keeps (body lexing) word (m.step_after_item b ranges word)
keeps_after_item b ranges w.Bar = refl
keeps_after_item b ranges w.Close = refl
keeps_after_item b ranges _ = tt

keeps_one : (b : m.LexBody) (p : m.ItemPosition) (i : List (ℕ × ℕ)) (word : Word) → Keeps (body lexing) word (m.step_after_one b p i word)
keeps_one b m.Alone i word = keeps_set b (outside i) word
keeps_one b (m.Listed ranges) i word = keeps_after_item b (ranges ++ i) word

keeps_item_char : (b : m.LexBody) (p : m.ItemPosition) (c : ℕ) (word : Word) → Keeps (body lexing) word (m.step_after_item_char b p c word)
keeps_item_char b p c w.Dots = refl
keeps_item_char b p c word = keeps_one b p ((c, c) ∷ []) word

keeps_item_end : (b : m.LexBody) (p : m.ItemPosition) (a : ℕ) (word : Word) → Keeps (body lexing) word (m.step_item_end b p a word)
keeps_item_end b p a (w.Literal []) = tt
keeps_item_end b p a (w.Literal (c ∷ [])) =
    provided_keeps (body lexing) (w.Literal (c ∷ [])) (nat_le a c) (m.after_item b p ((a, c) ∷ [])) (placed_body b p ((a, c) ∷ []))
keeps_item_end b p a (w.Literal (c ∷ (e ∷ es))) = tt
keeps_item_end b p a _ = tt

keeps_either : (k : List ℕ) (b : m.LexBody) (t : Bool)
    → Keeps (command lexing) (w.Lower k) (cond t (Some (m.AfterCommand b)) (m.provided (is k "channel") (m.AtChannelOpen b)))
keeps_either k b true = refl
keeps_either k b false = provided_keeps (command lexing) (w.Lower k) (is k "channel") (m.AtChannelOpen b) refl

keeps_command : (b : m.LexBody) (word : Word) → Keeps (command lexing) word (m.step_command b word)
keeps_command b (w.Lower k) = keeps_either k b (is k "skip")
keeps_command b _ = tt

keeps_channel_open : (b : m.LexBody) (word : Word) → Keeps (command lexing) word (m.step_channel_open b word)
keeps_channel_open b w.Open = refl
keeps_channel_open b _ = tt

keeps_channel_name : (b : m.LexBody) (word : Word) → Keeps (command lexing) word (m.step_channel_name b word)
keeps_channel_name b (w.Upper k) = provided_keeps (command lexing) (w.Upper k) (is k "HIDDEN") (m.AtChannelClose b) refl
keeps_channel_name b _ = tt

keeps_channel_close : (b : m.LexBody) (word : Word) → Keeps (command lexing) word (m.step_channel_close b word)
keeps_channel_close b w.Close = refl
keeps_channel_close b _ = tt

keeps_after_command : (b : m.LexBody) (word : Word) → Keeps (command lexing) word (m.step_after_command b word)
keeps_after_command b w.Bar = refl
keeps_after_command b w.Semicolon = refl
keeps_after_command b _ = tt

pub keeps_step : (d : ℕ) (s : m.State) (word : Word) → Keeps (region_of s) word (m.step d s word)
keeps_step d m.AtStart word = keeps_start word
keeps_step d m.AtName word = keeps_name word
keeps_step d (m.AtSemicolon k) word = keeps_semicolon k word
keeps_step d (m.AtPrequel g) word = keeps_prequel g word
keeps_step d (m.AtRule g) word = keeps_rule g word
keeps_step d (m.AtOptionsBrace g o) word = keeps_options_brace g o word
keeps_step d (m.AtEntry g o) word = keeps_entry g o word
keeps_step d (m.AtEntryEquals g o) word = keeps_entry_equals g o word
keeps_step d (m.AtValue v) word = keeps_value v word
keeps_step d (m.InPath v) word = keeps_path v word
keeps_step d (m.AtPathName v) word = keeps_path_name v word
keeps_step d (m.AfterValue v) word = keeps_value_end v word
keeps_step d (m.AtTokensBrace g) word = keeps_tokens_brace g word
keeps_step d (m.AtToken g) word = keeps_token g word
keeps_step d (m.AfterToken g) word = keeps_after_token g word
keeps_step d (m.AtFragmentName g) word = keeps_fragment g word
keeps_step d (m.AtHead g head) word = keeps_head d g head word
keeps_step d (m.AtColon g head) word = keeps_colon d g head word
keeps_step d (m.AtAlt b) word = keeps_alt b word
keeps_step d (m.AtOpeningName b) word = keeps_opening_name b word
keeps_step d (m.AtOpeningEquals b) word = keeps_opening_equals b word
keeps_step d (m.InElements b) word = keeps_elements (body parsing) plain b word
keeps_step d (m.Suffixed b) word = keeps_elements (suffixed parsing) with_a_suffix b word
keeps_step d (m.AfterName b t) word = keeps_after_name b t word
keeps_step d (m.AtAtom b) word = keeps_atom b word
keeps_step d (m.AfterAtom b t) word = keeps_after b t word
keeps_step d (m.AtRef b) word = keeps_ref b word
keeps_step d (m.AtRefIn b rs) word = keeps_ref_in b rs word
keeps_step d (m.AfterRef b rs) word = keeps_after_ref b rs word
keeps_step d (m.AtAltName b) word = keeps_alt_name b word
keeps_step d (m.AfterAltName b) word = keeps_alt_end (body parsing) plain b word
keeps_step d (m.InLex b) word = keeps_lex (body lexing) plain b word
keeps_step d (m.LexSuffixed b) word = keeps_lex (suffixed lexing) with_a_suffix b word
keeps_step d (m.AfterLexAtom b t) word = keeps_lex_after b t word
keeps_step d (m.AfterLiteral b k) word = keeps_literal b k word
keeps_step d (m.AtRangeEnd b a) word = keeps_range_end b a word
keeps_step d (m.AfterSet b s) word = keeps_set b s word
keeps_step d (m.AfterSetStar b s) word = keeps_star b s word
keeps_step d (m.AfterLoop b s) word = keeps_loop b s word
keeps_step d (m.AltDone b) word = keeps_done (last lexing) after_loop b word
keeps_step d (m.AtItem b) word = keeps_item b word
keeps_step d (m.AtItemIn b p) word = keeps_item_in b p word
keeps_step d (m.AfterItemChar b p c) word = keeps_item_char b p c word
keeps_step d (m.AtItemEnd b p a) word = keeps_item_end b p a word
keeps_step d (m.AfterItem b ranges) word = keeps_after_item b ranges word
keeps_step d (m.AtCommand b) word = keeps_command b word
keeps_step d (m.AtChannelOpen b) word = keeps_channel_open b word
keeps_step d (m.AtChannelName b) word = keeps_channel_name b word
keeps_step d (m.AtChannelClose b) word = keeps_channel_close b word
keeps_step d (m.AfterCommand b) word = keeps_after_command b word
keeps_step d (m.AtEnd g) word = tt

-- the words that were read lead to the region of the state
abbrev Leads : Region → List Word → Option m.State → Type 0
Leads s words None = Unit {0}
Leads s words (Some t) = region_from s words ≡ region_of t

leads_after : (d : ℕ) (s : Region) (word : Word) (words : List Word) (o : Option m.State) → Keeps s word o
    → ((t : m.State) → Leads (region_of t) words (run d t words)) →
    Leads s (word ∷ words) (and_then o (λ t. run d t words))
leads_after d s word words None k h = tt
leads_after d s word words (Some t) k h = shown (run d t words) (h t) where
  shown : (o : Option m.State) → Leads (region_of t) words o → Leads s (word ∷ words) o
  shown None x = tt
  shown (Some u) x = ap (λ p. region_from p words) k ∙ x

leads_run : (d : ℕ) (s : m.State) (words : List Word) → Leads (region_of s) words (run d s words)
leads_run d s [] = refl
leads_run d s (word ∷ words) = leads_after d (region_of s) word words (m.step d s word) (keeps_step d s word) (λ t. leads_run d t words)

pub region_after : (d : ℕ) (s t : m.State) (words : List Word) → run d s words ≡ Some t → region_from (region_of s) words ≡ region_of t
region_after d s t words e = shown (run d s words) (leads_run d s words) e where
  shown : (o : Option m.State) → Leads (region_of s) words o → o ≡ Some t → region_from (region_of s) words ≡ region_of t
  shown None x e = cc e
  shown (Some u) x e = let f : u ≡ t = cc e in x ∙ ap region_of f

pub region_read : (d : ℕ) (words : List Word) (s : m.State) → run d m.AtStart words ≡ Some s → region_from starting words ≡ region_of s
region_read d words s e = region_after d m.AtStart s words e
