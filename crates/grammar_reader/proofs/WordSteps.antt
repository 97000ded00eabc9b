-- Each word goes one step on in what may still come, both ways; and every state can be completed.
use Rattle.std.proofs.Common.{ℕ, ◌≡◌, Bool, true, false, List, [], ◌∷◌, ◌++◌, Some, None, refl, sym, subst}
use Rattle.grammar_tree.specs.Written.{Reference, WrittenTerm, LexerTerm, WrittenGrammar}
use Rattle.grammar_reader_words.specs.declared.word.Word.{Word}
use Rattle.grammar_reader_words.specs.declared.word.Word.TheVariants as w
use Rattle.grammar_reader_notation.specs.Notation.{IsName, may_name_option, IsEntries, MayBeOptions, IsAlts, IsLexAlts}
use Rattle.grammar_reader_notation.specs.Notation.{top, parser_rule, lexer_rule, IsTextOf, text}
use Rattle.grammar_reader_notation.specs.Notation as n
use Rattle.grammar_reader_machine.specs.Machine.{fresh, Head, ParserHead, LexerHead, Owner, OfText, OfRule, Body, ValueOf, InEntry, InOpening, State, with_rule}
use Rattle.grammar_reader_machine.specs.Machine.{no_commands, step_start, step_name, step_semicolon, step_rule, step_prequel, step_options_brace, after_options}
use Rattle.grammar_reader_machine.specs.Machine.{step_entry, step_entry_equals, step_value, step_after_value, step_path, step_path_name, step_tokens_brace}
use Rattle.grammar_reader_machine.specs.Machine.{step_token, step_after_token, step_fragment, step_colon, step_head, step_opening_name, step_opening_equals}
use Rattle.grammar_reader_machine.specs.Machine.{step}
use Rattle.grammar_reader_machine.specs.Machine as m
use Rattle.grammar_reader.proofs.Rest.{RulesRest, TextRest, TokensRest, AfterTokenRest, Closes, Agrees, LexCloses, LexWithin, ColonRest, parser_colon}
use Rattle.grammar_reader.proofs.Rest.{lexer_colon, AfterOptionsRest, EntriesRest, entries, HeadRest, ValueEndRest, entry_ends, opening_ends, ValueRest}
use Rattle.grammar_reader.proofs.Rest.{value, PathRest, path, PathNameRest, path_name, EqualsRest, equals, OpeningNameRest, opening_name, OptionsBraceRest}
use Rattle.grammar_reader.proofs.Rest.{options_brace, TokensBraceRest, tokens_brace, FragmentRest, fragment_name, WithinRest, Rest, Goes}
use Rattle.grammar_reader.proofs.Rest as r
use Rattle.grammar_reader.proofs.Unroll.{alts_in, alts_back, top_in, top_back, text_in, TextBack, text_back}
use Rattle.grammar_reader.proofs.ParserSteps as p
use Rattle.grammar_reader.proofs.LexerSteps as l
use Rattle.grammar_reader.proofs.LexerSteps.{Alive, provided_on, from_provided}

module _ (d : ℕ) where
  -- The first alternatives of a rule, and the rest of the text
  colon_parser : (g : WrittenGrammar) (name : List ℕ) {body next : List Word} {alts : List (List WrittenTerm)} {G : WrittenGrammar} →
      IsAlts true d body alts (w.Semicolon ∷ next) → RulesRest d (with_rule g (parser_rule name alts)) next G
      → ColonRest d g (ParserHead name) (w.Colon ∷ body) G
  colon_parser g name alts x = parser_colon (alts_in d g name [] alts refl (r.rule_ends x))

  colon_lexer : (g : WrittenGrammar) (name : List ℕ) {gap : Bool} {body next : List Word} {alts : List (List LexerTerm)} {G : WrittenGrammar} →
      IsLexAlts (top false gap) d body alts (w.Semicolon ∷ next) → RulesRest d (with_rule g (lexer_rule name false gap alts)) next G
      → ColonRest d g (LexerHead name false) (w.Colon ∷ body) G
  colon_lexer g name alts x = lexer_colon (top_in d g name false [] refl tt alts (r.rule_ends x))

  colon_fragment : (g : WrittenGrammar) (name : List ℕ) {body next : List Word} {alts : List (List LexerTerm)} {G : WrittenGrammar} →
      IsLexAlts (top true false) d body alts (w.Semicolon ∷ next) → RulesRest d (with_rule g (lexer_rule name true false alts)) next G
      → ColonRest d g (LexerHead name true) (w.Colon ∷ body) G
  colon_fragment g name alts x = lexer_colon (top_in d g name true [] refl refl alts (r.rule_ends x))

  headed : (g : WrittenGrammar) (head : Head) {words body : List Word} {G : WrittenGrammar} → MayBeOptions words (w.Colon ∷ body)
      → ColonRest d g head (w.Colon ∷ body) G → HeadRest d g head words G
  headed g head n.no_options x = r.HeadRest.no_options x
  headed g head (n.some_options (n.options e)) x = r.HeadRest.options (entries e x)

  pub complete_rule : (g : WrittenGrammar) {word : Word} {words : List Word} {G : WrittenGrammar} → RulesRest d g (word ∷ words) G
      → Goes d (step_rule g word) words G
  complete_rule g r.rules_end = (refl, refl)
  complete_rule g (r.parser {n = k} o a x) = headed g (ParserHead k) o (colon_parser g k a x)
  complete_rule g (r.lexer {n = k} o a x) = headed g (LexerHead k false) o (colon_lexer g k a x)
  complete_rule g (r.fragment {n = k} o a x) = fragment_name (headed g (LexerHead k true) o (colon_fragment g k a x))

  rule_on : (g : WrittenGrammar) (word : Word) (words : List Word) (G : WrittenGrammar) → Goes d (step_rule g word) words G
      → Goes d (step_prequel g word) words G
  rule_on g w.Options words G h = absurd h
  rule_on g w.Tokens words G h = absurd h
  rule_on g _ words G h = h

  complete_prequel : (g : WrittenGrammar) {word : Word} {words : List Word} {G : WrittenGrammar} → TextRest d g (word ∷ words) G
      → Goes d (step_prequel g word) words G
  complete_prequel g {word} {words} {G} (r.no_more x) = rule_on g word words G (complete_rule g x)
  complete_prequel g (r.TextRest.options e x) = options_brace (entries e x)
  complete_prequel g (r.tokens x) = tokens_brace x

  owned_on : (g : WrittenGrammar) (o : Owner) (words : List Word) (G : WrittenGrammar) → AfterOptionsRest d g o words G → Rest d (after_options g o) words G
  owned_on g OfText words G x = x
  owned_on g (OfRule head) words G x = x

  owned_off : (g : WrittenGrammar) (o : Owner) (words : List Word) (G : WrittenGrammar) → Rest d (after_options g o) words G → AfterOptionsRest d g o words G
  owned_off g OfText words G x = x
  owned_off g (OfRule head) words G x = x

  complete_entry : (g : WrittenGrammar) (o : Owner) {word : Word} {words : List Word} {G : WrittenGrammar} → EntriesRest d g o (word ∷ words) G
      → Goes d (step_entry g o word) words G
  complete_entry g o {words = words} {G = G} (entries n.entries_end x) = owned_on g o words G x
  complete_entry g o {words = words} {G = G} (entries (n.entry {n = k} n.upper h v e) x) =
      provided_on d words G (may_name_option k) (m.AtEntryEquals g o) h (equals (value v (entry_ends (entries e x))))
  complete_entry g o {words = words} {G = G} (entries (n.entry {n = k} n.lower h v e) x) =
      provided_on d words G (may_name_option k) (m.AtEntryEquals g o) h (equals (value v (entry_ends (entries e x))))

  complete_value : (v : ValueOf) {word : Word} {words : List Word} {G : WrittenGrammar} → ValueRest d v (word ∷ words) G → Goes d (step_value v word) words G
  complete_value v (value (n.names n.upper q) x) = path q x
  complete_value v (value (n.names n.lower q) x) = path q x
  complete_value v (value n.literal x) = x
  complete_value v (value n.number x) = x

  complete_after_value : (v : ValueOf) {word : Word} {words : List Word} {G : WrittenGrammar} → ValueEndRest d v (word ∷ words) G
      → Goes d (step_after_value v word) words G
  complete_after_value v (entry_ends x) = x
  complete_after_value v (opening_ends x) = x

  path_on : (v : ValueOf) (word : Word) (words : List Word) (G : WrittenGrammar) → Goes d (step_after_value v word) words G → Goes d (step_path v word) words G
  path_on (InEntry g o) w.Dot words G h = absurd h
  path_on (InOpening b) w.Dot words G h = absurd h
  path_on v _ words G h = h

  complete_path : (v : ValueOf) {word : Word} {words : List Word} {G : WrittenGrammar} → PathRest d v (word ∷ words) G → Goes d (step_path v word) words G
  complete_path v {word} {words} {G} (path n.path_ends x) = path_on v word words G (complete_after_value v x)
  complete_path v (path (n.path_goes_on i q) x) = path_name i (path q x)

  complete_path_name : (v : ValueOf) {word : Word} {words : List Word} {G : WrittenGrammar} → PathNameRest d v (word ∷ words) G
      → Goes d (step_path_name v word) words G
  complete_path_name v (path_name n.upper x) = x
  complete_path_name v (path_name n.lower x) = x

  complete_colon : (g : WrittenGrammar) (head : Head) {word : Word} {words : List Word} {G : WrittenGrammar} → ColonRest d g head (word ∷ words) G
      → Goes d (step_colon d g head word) words G
  complete_colon g head (parser_colon x) = x
  complete_colon g head (lexer_colon x) = x

  colon_on : (g : WrittenGrammar) (head : Head) (word : Word) (words : List Word) (G : WrittenGrammar) → Goes d (step_colon d g head word) words G
      → Goes d (step_head d g head word) words G
  colon_on g head w.Options words G h = absurd h
  colon_on g head _ words G h = h

  complete_head : (g : WrittenGrammar) (head : Head) {word : Word} {words : List Word} {G : WrittenGrammar} → HeadRest d g head (word ∷ words) G
      → Goes d (step_head d g head word) words G
  complete_head g head {word} {words} {G} (r.HeadRest.no_options x) = colon_on g head word words G (complete_colon g head x)
  complete_head g head (r.HeadRest.options x) = options_brace x

  complete_start : {word : Word} {words : List Word} {G : WrittenGrammar} → IsTextOf d (word ∷ words) G → Goes d (step_start word) words G
  complete_start (text i q x) = text i q x

  complete_text_name : {word : Word} {words : List Word} {G : WrittenGrammar} → IsTextOf d (w.Grammar ∷ word ∷ words) G → Goes d (step_name word) words G
  complete_text_name (text n.upper q x) = text n.upper q x
  complete_text_name (text n.lower q x) = text n.upper q x

  complete_semicolon : (k : List ℕ) {word : Word} {words : List Word} {G : WrittenGrammar} → IsTextOf d (w.Grammar ∷ w.Upper k ∷ word ∷ words) G
      → Goes d (step_semicolon k word) words G
  complete_semicolon k (text n.upper q x) = text_in d k [] [] q x

  pub complete : (s : State) (word : Word) (words : List Word) (G : WrittenGrammar) → Rest d s (word ∷ words) G → Goes d (step d s word) words G
  complete m.AtStart word words G h = complete_start h
  complete m.AtName word words G h = complete_text_name h
  complete (m.AtSemicolon k) word words G h = complete_semicolon k h
  complete (m.AtPrequel g) word words G h = complete_prequel g h
  complete (m.AtRule g) word words G h = complete_rule g h
  complete (m.AtOptionsBrace g o) word words G (options_brace x) = x
  complete (m.AtEntry g o) word words G h = complete_entry g o h
  complete (m.AtEntryEquals g o) word words G (equals x) = x
  complete (m.AtValue v) word words G h = complete_value v h
  complete (m.InPath v) word words G h = complete_path v h
  complete (m.AtPathName v) word words G h = complete_path_name v h
  complete (m.AfterValue v) word words G h = complete_after_value v h
  complete (m.AtTokensBrace g) word words G (tokens_brace x) = x
  complete (m.AtToken g) word words G (r.tokens_end x) = x
  complete (m.AtToken g) word words G (r.token x) = x
  complete (m.AfterToken g) word words G (r.last x) = x
  complete (m.AfterToken g) word words G (r.comma x) = x
  complete (m.AtFragmentName g) word words G (fragment_name x) = x
  complete (m.AtHead g head) word words G h = complete_head g head h
  complete (m.AtColon g head) word words G h = complete_colon g head h
  complete (m.AtAlt b) word words G h = p.complete_alt d b.text b.name b.blocks_left b.enclosing b.current h
  complete (m.AtOpeningName b) word words G (opening_name n.upper x) = x
  complete (m.AtOpeningName b) word words G (opening_name n.lower x) = x
  complete (m.AtOpeningEquals b) word words G (equals x) = x
  complete (m.InElements b) word words G h = p.complete_elements d b.text b.name b.blocks_left b.enclosing b.current h
  complete (m.Suffixed b) word words G h = p.complete_elements d b.text b.name b.blocks_left b.enclosing b.current h
  complete (m.AfterName b t) word words G h = p.complete_name d b.text b.name b.blocks_left b.enclosing b.current t h
  complete (m.AtAtom b) word words G h = p.complete_atom d b.text b.name b.blocks_left b.enclosing b.current h
  complete (m.AfterAtom b t) word words G h = p.complete_after d b.text b.name b.blocks_left b.enclosing b.current t h
  complete (m.AtRef b) word words G h = p.complete_ref d b h
  complete (m.AtRefIn b rs) word words G h = p.complete_ref_in d b rs h
  complete (m.AfterRef b rs) word words G h = p.complete_after_ref d b rs h
  complete (m.AtAltName b) word words G h = p.complete_alt_name d b h
  complete (m.AfterAltName b) word words G h = p.complete_alt_end d b.text b.name b.blocks_left b.enclosing b.current h
  complete (m.InLex b) word words G h = l.complete_lex d b.text b.name b.fragment b.known b.blocks_left b.enclosing b.current h
  complete (m.LexSuffixed b) word words G h = l.complete_lex d b.text b.name b.fragment b.known b.blocks_left b.enclosing b.current h
  complete (m.AfterLexAtom b t) word words G h = l.complete_lex_after d b.text b.name b.fragment b.known b.blocks_left b.enclosing b.current t h
  complete (m.AfterLiteral b k) word words G h = l.complete_literal d b.text b.name b.fragment b.known b.blocks_left b.enclosing b.current k h
  complete (m.AtRangeEnd b a) word words G h = l.complete_range_end d b a h
  complete (m.AfterSet b s) word words G h = l.complete_set d b.text b.name b.fragment b.known b.blocks_left b.enclosing b.current s h
  complete (m.AfterSetStar b s) word words G h = l.complete_star d b.text b.name b.fragment b.known b.blocks_left b.enclosing b.current s h
  complete (m.AfterLoop b s) word words G h = l.complete_loop d b.text b.name b.fragment b.known b.blocks_left b.enclosing b.current s h
  complete (m.AltDone b) word words G h = l.complete_done d b.text b.name b.fragment b.known b.blocks_left b.enclosing b.current h
  complete (m.AtItem b) word words G h = l.complete_item d b h
  complete (m.AtItemIn b q) word words G h = l.complete_item_in d b q h
  complete (m.AfterItemChar b q a) word words G h = l.complete_item_char d b.text b.name b.fragment b.known b.blocks_left b.enclosing b.current q a h
  complete (m.AtItemEnd b q a) word words G h = l.complete_item_end d b q a h
  complete (m.AfterItem b ranges) word words G h = l.complete_after_item d b ranges h
  complete (m.AtCommand b) word words G h = l.complete_command d b h
  complete (m.AtChannelOpen b) word words G h = l.complete_channel_open d b h
  complete (m.AtChannelName b) word words G h = l.complete_channel_name d b h
  complete (m.AtChannelClose b) word words G h = l.complete_channel_close d b h
  complete (m.AfterCommand b) word words G h = l.complete_after_command d b h
  complete (m.AtEnd g) word words G h = cc (h.0)

  -- back
  head_options : (g : WrittenGrammar) (head : Head) {words : List Word} {G : WrittenGrammar} → EntriesRest d g (OfRule head) words G →
      (body : List Word) × (IsEntries words (w.Colon ∷ body) × ColonRest d g head (w.Colon ∷ body) G)
  head_options g head (entries e (parser_colon {words = body} x)) = (body, (e, parser_colon x))
  head_options g head (entries e (lexer_colon {words = body} x)) = (body, (e, lexer_colon x))

  parser_back : (g : WrittenGrammar) (name : List ℕ) {words body : List Word} {G : WrittenGrammar} → MayBeOptions words (w.Colon ∷ body)
      → ColonRest d g (ParserHead name) (w.Colon ∷ body) G → RulesRest d g (w.Lower name ∷ words) G
  parser_back g name {words} {body} {G} o (parser_colon x) =
      let back : (alts : List (List WrittenTerm)) × (mid : List Word) × IsAlts true d body alts mid × Closes d g name d [] alts mid G = alts_back d g name x in
      closed back.2 back.3 where
        closed : {alts : List (List WrittenTerm)} {mid : List Word} → IsAlts true d body alts mid → Closes d g name d [] alts mid G
            → RulesRest d g (w.Lower name ∷ words) G
        closed a (r.rule_ends y) = r.parser o a y

  lexer_back : (g : WrittenGrammar) (name : List ℕ) {words body : List Word} {G : WrittenGrammar} → MayBeOptions words (w.Colon ∷ body)
      → ColonRest d g (LexerHead name false) (w.Colon ∷ body) G → RulesRest d g (w.Upper name ∷ words) G
  lexer_back g name {words} {body} {G} o (lexer_colon x) =
      let back : (gap : Bool) × (alts : List (List LexerTerm)) × (mid : List Word) × Agrees None gap × IsLexAlts (top false gap) d body alts mid
      × LexCloses d g name false (Some gap) d [] alts mid G = top_back d g name false x in
      closed back.4 back.5 where
        closed : {gap : Bool} {alts : List (List LexerTerm)} {mid : List Word} → IsLexAlts (top false gap) d body alts mid
            → LexCloses d g name false (Some gap) d [] alts mid G → RulesRest d g (w.Upper name ∷ words) G
        closed a (r.rule_ends y) = r.lexer o a y

  fragment_back : (g : WrittenGrammar) (name : List ℕ) {words body : List Word} {G : WrittenGrammar} → MayBeOptions words (w.Colon ∷ body)
      → ColonRest d g (LexerHead name true) (w.Colon ∷ body) G → RulesRest d g (w.Fragment ∷ w.Upper name ∷ words) G
  fragment_back g name {words} {body} {G} o (lexer_colon x) =
      let back : (gap : Bool) × (alts : List (List LexerTerm)) × (mid : List Word) × Agrees (Some false) gap × IsLexAlts (top true gap) d body alts mid
      × LexCloses d g name true (Some gap) d [] alts mid G = top_back d g name true x in
      let plain : LexCloses d g name true (Some false) d [] back.1 back.2 G =
      subst (λ k. LexCloses d g name true (Some k) d [] back.1 back.2 G) (sym back.3) back.5 in
      closed (subst (λ k. IsLexAlts (top true k) d body back.1 back.2) (sym back.3) back.4) plain where
        closed : {alts : List (List LexerTerm)} {mid : List Word} → IsLexAlts (top true false) d body alts mid
            → LexCloses d g name true (Some false) d [] alts mid G → RulesRest d g (w.Fragment ∷ w.Upper name ∷ words) G
        closed a (r.rule_ends y) = r.fragment o a y

  -- with and without options
  opened_head : (g : WrittenGrammar) (head : Head) {words : List Word} {G : WrittenGrammar} → HeadRest d g head words G → (body : List Word)
      × (MayBeOptions words (w.Colon ∷ body) × ColonRest d g head (w.Colon ∷ body) G)
  opened_head g head (r.HeadRest.no_options (parser_colon {words = body} x)) = (body, (n.no_options, parser_colon x))
  opened_head g head (r.HeadRest.no_options (lexer_colon {words = body} x)) = (body, (n.no_options, lexer_colon x))
  opened_head g head {G = G} (r.HeadRest.options {words = words} e) =
      let o : (body : List Word) × (IsEntries words (w.Colon ∷ body) × ColonRest d g head (w.Colon ∷ body) G) = head_options g head e in
      (o.0, (n.some_options (n.options o.1.0), o.1.1))

  from_fragment : (g : WrittenGrammar) {words : List Word} {G : WrittenGrammar} → FragmentRest d g words G → RulesRest d g (w.Fragment ∷ words) G
  from_fragment g {G = G} (fragment_name {n = k} {words = words} x) =
      let o : (body : List Word) × (MayBeOptions words (w.Colon ∷ body) × ColonRest d g (LexerHead k true) (w.Colon ∷ body) G) =
      opened_head g (LexerHead k true) x in
      fragment_back g k o.1.0 o.1.1

  from_end : (g : WrittenGrammar) (words : List Word) (G : WrittenGrammar) → words ≡ [] → G ≡ g → RulesRest d g (w.End ∷ words) G
  from_end g words G e f = subst (λ ws. RulesRest d g (w.End ∷ ws) G) (sym e) (subst (λ h. RulesRest d g (w.End ∷ []) h) (sym f) r.rules_end)

  sound_rule : (g : WrittenGrammar) (word : Word) (words : List Word) (G : WrittenGrammar) → Goes d (step_rule g word) words G → RulesRest d g (word ∷ words) G
  sound_rule g (w.Lower k) words G h =
      let o : (body : List Word) × (MayBeOptions words (w.Colon ∷ body) × ColonRest d g (ParserHead k) (w.Colon ∷ body) G) =
      opened_head g (ParserHead k) h in parser_back g k o.1.0 o.1.1
  sound_rule g (w.Upper k) words G h =
      let o : (body : List Word) × (MayBeOptions words (w.Colon ∷ body) × ColonRest d g (LexerHead k false) (w.Colon ∷ body) G) =
      opened_head g (LexerHead k false) h in lexer_back g k o.1.0 o.1.1
  sound_rule g w.Fragment words G h = from_fragment g h
  sound_rule g w.End words G h = from_end g words G h.0 h.1
  sound_rule g _ words G h = absurd h

  from_options : (g : WrittenGrammar) {words : List Word} {G : WrittenGrammar} → OptionsBraceRest d g OfText words G → TextRest d g (w.Options ∷ words) G
  from_options g (options_brace (entries e x)) = r.TextRest.options e x

  from_tokens : (g : WrittenGrammar) {words : List Word} {G : WrittenGrammar} → TokensBraceRest d g words G → TextRest d g (w.Tokens ∷ words) G
  from_tokens g (tokens_brace x) = r.tokens x

  sound_prequel : (g : WrittenGrammar) (word : Word) (words : List Word) (G : WrittenGrammar) → Goes d (step_prequel g word) words G
      → TextRest d g (word ∷ words) G
  sound_prequel g w.Options words G h = from_options g h
  sound_prequel g w.Tokens words G h = from_tokens g h
  sound_prequel g word words G h = r.no_more (sound_rule g word words G h)

  from_entry : (g : WrittenGrammar) (o : Owner) {word : Word} {k : List ℕ} {words : List Word} {G : WrittenGrammar} → IsName word k → may_name_option k ≡ true
      → EqualsRest d (InEntry g o) words G → EntriesRest d g o (word ∷ words) G
  from_entry g o i h (equals (value v (entry_ends (entries e x)))) = entries (n.entry i h v e) x

  sound_entry : (g : WrittenGrammar) (o : Owner) (word : Word) (words : List Word) (G : WrittenGrammar) → Goes d (step_entry g o word) words G
      → EntriesRest d g o (word ∷ words) G
  sound_entry g o (w.Upper k) words G h =
      from_provided d words G (may_name_option k) (m.AtEntryEquals g o) (EntriesRest d g o (w.Upper k ∷ words) G) (λ e x. from_entry g o n.upper e x) h
  sound_entry g o (w.Lower k) words G h =
      from_provided d words G (may_name_option k) (m.AtEntryEquals g o) (EntriesRest d g o (w.Lower k ∷ words) G) (λ e x. from_entry g o n.lower e x) h
  sound_entry g o w.CloseBrace words G h = entries n.entries_end (owned_off g o words G h)
  sound_entry g o _ words G h = absurd h

  from_path : (v : ValueOf) {word : Word} {k : List ℕ} {words : List Word} {G : WrittenGrammar} → IsName word k → PathRest d v words G
      → ValueRest d v (word ∷ words) G
  from_path v i (path q x) = value (n.names i q) x

  sound_value : (v : ValueOf) (word : Word) (words : List Word) (G : WrittenGrammar) → Goes d (step_value v word) words G → ValueRest d v (word ∷ words) G
  sound_value v (w.Upper k) words G h = from_path v n.upper h
  sound_value v (w.Lower k) words G h = from_path v n.lower h
  sound_value v (w.Literal k) words G h = value n.literal h
  sound_value v w.Number words G h = value n.number h
  sound_value v _ words G h = absurd h

  sound_after_value : (v : ValueOf) (word : Word) (words : List Word) (G : WrittenGrammar) → Goes d (step_after_value v word) words G
      → ValueEndRest d v (word ∷ words) G
  sound_after_value (InEntry g o) w.Semicolon words G h = entry_ends h
  sound_after_value (InOpening b) w.Greater words G h = opening_ends h
  sound_after_value (InEntry g o) _ words G h = absurd h
  sound_after_value (InOpening b) _ words G h = absurd h

  more_path : (v : ValueOf) {words : List Word} {G : WrittenGrammar} → PathNameRest d v words G → PathRest d v (w.Dot ∷ words) G
  more_path v (path_name i (path q x)) = path (n.path_goes_on i q) x

  sound_path : (v : ValueOf) (word : Word) (words : List Word) (G : WrittenGrammar) → Goes d (step_path v word) words G → PathRest d v (word ∷ words) G
  sound_path v w.Dot words G h = more_path v h
  sound_path v word words G h = path n.path_ends (sound_after_value v word words G h)

  sound_path_name : (v : ValueOf) (word : Word) (words : List Word) (G : WrittenGrammar) → Goes d (step_path_name v word) words G
      → PathNameRest d v (word ∷ words) G
  sound_path_name v (w.Upper k) words G h = path_name n.upper h
  sound_path_name v (w.Lower k) words G h = path_name n.lower h
  sound_path_name v _ words G h = absurd h

  sound_colon : (g : WrittenGrammar) (head : Head) (word : Word) (words : List Word) (G : WrittenGrammar) → Goes d (step_colon d g head word) words G
      → ColonRest d g head (word ∷ words) G
  sound_colon g (ParserHead k) w.Colon words G h = parser_colon h
  sound_colon g (LexerHead k f) w.Colon words G h = lexer_colon h
  sound_colon g (ParserHead k) _ words G h = absurd h
  sound_colon g (LexerHead k f) _ words G h = absurd h

  more_head : (g : WrittenGrammar) (head : Head) {words : List Word} {G : WrittenGrammar} → OptionsBraceRest d g (OfRule head) words G
      → HeadRest d g head (w.Options ∷ words) G
  more_head g head (options_brace x) = r.HeadRest.options x

  sound_head : (g : WrittenGrammar) (head : Head) (word : Word) (words : List Word) (G : WrittenGrammar) → Goes d (step_head d g head word) words G
      → HeadRest d g head (word ∷ words) G
  sound_head g head w.Options words G h = more_head g head h
  sound_head g head word words G h = r.HeadRest.no_options (sound_colon g head word words G h)

  sound_start : (word : Word) (words : List Word) (G : WrittenGrammar) → Goes d (step_start word) words G → IsTextOf d (word ∷ words) G
  sound_start w.Grammar words G h = h
  sound_start _ words G h = absurd h

  as_lower : (k : List ℕ) {words : List Word} {G : WrittenGrammar} → IsTextOf d (w.Grammar ∷ w.Upper k ∷ words) G → IsTextOf d (w.Grammar ∷ w.Lower k ∷ words) G
  as_lower k (text n.upper q x) = text n.lower q x

  sound_text_name : (word : Word) (words : List Word) (G : WrittenGrammar) → Goes d (step_name word) words G → IsTextOf d (w.Grammar ∷ word ∷ words) G
  sound_text_name (w.Upper k) words G h = h
  sound_text_name (w.Lower k) words G h = as_lower k h
  sound_text_name _ words G h = absurd h

  sound_semicolon : (k : List ℕ) (word : Word) (words : List Word) (G : WrittenGrammar) → Goes d (step_semicolon k word) words G
      → IsTextOf d (w.Grammar ∷ w.Upper k ∷ word ∷ words) G
  sound_semicolon k w.Semicolon words G h =
      let b : TextBack d (record { name = k; tokens = []; rules = [] }) words G = text_back d h in
      subst (λ g. IsTextOf d (w.Grammar ∷ w.Upper k ∷ w.Semicolon ∷ words) g) (sym b.same) (text n.upper b.prequels b.read)
  sound_semicolon k _ words G h = absurd h

  sound_options_brace : (g : WrittenGrammar) (o : Owner) (word : Word) (words : List Word) (G : WrittenGrammar) → Goes d (step_options_brace g o word) words G
      → OptionsBraceRest d g o (word ∷ words) G
  sound_options_brace g o w.OpenBrace words G h = options_brace h
  sound_options_brace g o _ words G h = absurd h

  sound_entry_equals : (g : WrittenGrammar) (o : Owner) (word : Word) (words : List Word) (G : WrittenGrammar) → Goes d (step_entry_equals g o word) words G
      → EqualsRest d (InEntry g o) (word ∷ words) G
  sound_entry_equals g o w.Equals words G h = equals h
  sound_entry_equals g o _ words G h = absurd h

  sound_opening_equals : (b : Body) (word : Word) (words : List Word) (G : WrittenGrammar) → Goes d (step_opening_equals b word) words G
      → EqualsRest d (InOpening b) (word ∷ words) G
  sound_opening_equals b w.Equals words G h = equals h
  sound_opening_equals b _ words G h = absurd h

  sound_opening_name : (b : Body) (word : Word) (words : List Word) (G : WrittenGrammar) → Goes d (step_opening_name b word) words G
      → OpeningNameRest d b (word ∷ words) G
  sound_opening_name b (w.Upper k) words G h = opening_name n.upper h
  sound_opening_name b (w.Lower k) words G h = opening_name n.lower h
  sound_opening_name b _ words G h = absurd h

  sound_tokens_brace : (g : WrittenGrammar) (word : Word) (words : List Word) (G : WrittenGrammar) → Goes d (step_tokens_brace g word) words G
      → TokensBraceRest d g (word ∷ words) G
  sound_tokens_brace g w.OpenBrace words G h = tokens_brace h
  sound_tokens_brace g _ words G h = absurd h

  sound_token : (g : WrittenGrammar) (word : Word) (words : List Word) (G : WrittenGrammar) → Goes d (step_token g word) words G
      → TokensRest d g (word ∷ words) G
  sound_token g (w.Upper k) words G h = r.token h
  sound_token g w.CloseBrace words G h = r.tokens_end h
  sound_token g _ words G h = absurd h

  sound_after_token : (g : WrittenGrammar) (word : Word) (words : List Word) (G : WrittenGrammar) → Goes d (step_after_token g word) words G
      → AfterTokenRest d g (word ∷ words) G
  sound_after_token g w.Comma words G h = r.comma h
  sound_after_token g w.CloseBrace words G h = r.last h
  sound_after_token g _ words G h = absurd h

  sound_fragment : (g : WrittenGrammar) (word : Word) (words : List Word) (G : WrittenGrammar) → Goes d (step_fragment g word) words G
      → FragmentRest d g (word ∷ words) G
  sound_fragment g (w.Upper k) words G h = fragment_name h
  sound_fragment g _ words G h = absurd h

  pub sound : (s : State) (word : Word) (words : List Word) (G : WrittenGrammar) → Goes d (step d s word) words G → Rest d s (word ∷ words) G
  sound m.AtStart word words G h = sound_start word words G h
  sound m.AtName word words G h = sound_text_name word words G h
  sound (m.AtSemicolon k) word words G h = sound_semicolon k word words G h
  sound (m.AtPrequel g) word words G h = sound_prequel g word words G h
  sound (m.AtRule g) word words G h = sound_rule g word words G h
  sound (m.AtOptionsBrace g o) word words G h = sound_options_brace g o word words G h
  sound (m.AtEntry g o) word words G h = sound_entry g o word words G h
  sound (m.AtEntryEquals g o) word words G h = sound_entry_equals g o word words G h
  sound (m.AtValue v) word words G h = sound_value v word words G h
  sound (m.InPath v) word words G h = sound_path v word words G h
  sound (m.AtPathName v) word words G h = sound_path_name v word words G h
  sound (m.AfterValue v) word words G h = sound_after_value v word words G h
  sound (m.AtTokensBrace g) word words G h = sound_tokens_brace g word words G h
  sound (m.AtToken g) word words G h = sound_token g word words G h
  sound (m.AfterToken g) word words G h = sound_after_token g word words G h
  sound (m.AtFragmentName g) word words G h = sound_fragment g word words G h
  sound (m.AtHead g head) word words G h = sound_head g head word words G h
  sound (m.AtColon g head) word words G h = sound_colon g head word words G h
  sound (m.AtAlt b) word words G h = p.sound_alt d b.text b.name b.blocks_left b.enclosing b.current word words G h
  sound (m.AtOpeningName b) word words G h = sound_opening_name b word words G h
  sound (m.AtOpeningEquals b) word words G h = sound_opening_equals b word words G h
  sound (m.InElements b) word words G h = p.sound_elements d b.text b.name b.blocks_left b.enclosing b.current word words G h
  sound (m.Suffixed b) word words G h = p.sound_elements d b.text b.name b.blocks_left b.enclosing b.current word words G h
  sound (m.AfterName b t) word words G h = p.sound_name d b.text b.name b.blocks_left b.enclosing b.current t word words G h
  sound (m.AtAtom b) word words G h = p.sound_atom d b.text b.name b.blocks_left b.enclosing b.current word words G h
  sound (m.AfterAtom b t) word words G h = p.sound_after d b.text b.name b.blocks_left b.enclosing b.current t word words G h
  sound (m.AtRef b) word words G h = p.sound_ref d b word words G h
  sound (m.AtRefIn b rs) word words G h = p.sound_ref_in d b rs word words G h
  sound (m.AfterRef b rs) word words G h = p.sound_after_ref d b rs word words G h
  sound (m.AtAltName b) word words G h = p.sound_alt_name d b word words G h
  sound (m.AfterAltName b) word words G h = p.sound_alt_end d b.text b.name b.blocks_left b.enclosing b.current word words G h
  sound (m.InLex b) word words G h = l.sound_lex d b.text b.name b.fragment b.known b.blocks_left b.enclosing b.current word words G h
  sound (m.LexSuffixed b) word words G h = l.sound_lex d b.text b.name b.fragment b.known b.blocks_left b.enclosing b.current word words G h
  sound (m.AfterLexAtom b t) word words G h = l.sound_lex_after d b.text b.name b.fragment b.known b.blocks_left b.enclosing b.current t word words G h
  sound (m.AfterLiteral b k) word words G h = l.sound_literal d b.text b.name b.fragment b.known b.blocks_left b.enclosing b.current k word words G h
  sound (m.AtRangeEnd b a) word words G h = l.sound_range_end d b a word words G h
  sound (m.AfterSet b s) word words G h = l.sound_set d b.text b.name b.fragment b.known b.blocks_left b.enclosing b.current s word words G h
  sound (m.AfterSetStar b s) word words G h = l.sound_star d b.text b.name b.fragment b.known b.blocks_left b.enclosing b.current s word words G h
  sound (m.AfterLoop b s) word words G h = l.sound_loop d b.text b.name b.fragment b.known b.blocks_left b.enclosing b.current s word words G h
  sound (m.AltDone b) word words G h = l.sound_done d b.text b.name b.fragment b.known b.blocks_left b.enclosing b.current word words G h
  sound (m.AtItem b) word words G h = l.sound_item d b word words G h
  sound (m.AtItemIn b q) word words G h = l.sound_item_in d b q word words G h
  sound (m.AfterItemChar b q a) word words G h = l.sound_item_char d b.text b.name b.fragment b.known b.blocks_left b.enclosing b.current q a word words G h
  sound (m.AtItemEnd b q a) word words G h = l.sound_item_end d b q a word words G h
  sound (m.AfterItem b ranges) word words G h = l.sound_after_item d b ranges word words G h
  sound (m.AtCommand b) word words G h = l.sound_command d b word words G h
  sound (m.AtChannelOpen b) word words G h = l.sound_channel_open d b word words G h
  sound (m.AtChannelName b) word words G h = l.sound_channel_name d b word words G h
  sound (m.AtChannelClose b) word words G h = l.sound_channel_close d b word words G h
  sound (m.AfterCommand b) word words G h = l.sound_after_command d b word words G h
  sound (m.AtEnd g) word words G h = absurd h

  -- the completion
  alive_rules : (g : WrittenGrammar) → Alive (RulesRest d g)
  alive_rules g = (w.End ∷ [], g, r.rules_end)

  alive_text : (g : WrittenGrammar) → Alive (TextRest d g)
  alive_text g = (w.End ∷ [], g, r.no_more r.rules_end)

  alive_colon : (g : WrittenGrammar) (head : Head) → Alive (ColonRest d g head)
  alive_colon g (ParserHead k) =
      let rest : Alive (r.Within d g k d [] fresh) = p.alive_within d g k d [] fresh in (w.Colon ∷ rest.0, rest.1, parser_colon (r.opens n.no_opening rest.2))
  alive_colon g (LexerHead k f) =
      let rest : Alive (LexWithin d g k f (no_commands f) d [] fresh) =
      l.alive_lex d g k f (no_commands f) d [] fresh in (w.Colon ∷ rest.0, rest.1, lexer_colon rest.2)

  alive_head : (g : WrittenGrammar) (head : Head) → Alive (HeadRest d g head)
  alive_head g head = let rest : Alive (ColonRest d g head) = alive_colon g head in (rest.0, rest.1, r.HeadRest.no_options rest.2)

  alive_owner : (g : WrittenGrammar) (o : Owner) → Alive (AfterOptionsRest d g o)
  alive_owner g OfText = alive_text g
  alive_owner g (OfRule head) = alive_colon g head

  alive_entries : (g : WrittenGrammar) (o : Owner) → Alive (EntriesRest d g o)
  alive_entries g o = let rest : Alive (AfterOptionsRest d g o) = alive_owner g o in (w.CloseBrace ∷ rest.0, rest.1, entries n.entries_end rest.2)

  alive_body : (b : Body) → Alive (WithinRest d b)
  alive_body b = p.alive_within d b.text b.name b.blocks_left b.enclosing b.current

  alive_value_end : (v : ValueOf) → Alive (ValueEndRest d v)
  alive_value_end (InEntry g o) = let rest : Alive (EntriesRest d g o) = alive_entries g o in (w.Semicolon ∷ rest.0, rest.1, entry_ends rest.2)
  alive_value_end (InOpening b) = let rest : Alive (WithinRest d b) = alive_body b in (w.Greater ∷ rest.0, rest.1, opening_ends rest.2)

  alive_path : (v : ValueOf) → Alive (PathRest d v)
  alive_path v = let rest : Alive (ValueEndRest d v) = alive_value_end v in (rest.0, rest.1, path n.path_ends rest.2)

  alive_equals : (v : ValueOf) → Alive (EqualsRest d v)
  alive_equals v = let rest : Alive (ValueEndRest d v) = alive_value_end v in (w.Equals ∷ w.Number ∷ rest.0, rest.1, equals (value n.number rest.2))

  pub alive : (s : State) → Alive (Rest d s)
  alive m.AtStart =
      (w.Grammar ∷ w.Upper (65 ∷ []) ∷ w.Semicolon ∷ w.End ∷ [], record { name = 65 ∷ []; tokens = []; rules = [] }, text n.upper n.no_prequel n.end)
  alive m.AtName = (w.Upper (65 ∷ []) ∷ w.Semicolon ∷ w.End ∷ [], record { name = 65 ∷ []; tokens = []; rules = [] }, text n.upper n.no_prequel n.end)
  alive (m.AtSemicolon k) = (w.Semicolon ∷ w.End ∷ [], record { name = k; tokens = []; rules = [] }, text n.upper n.no_prequel n.end)
  alive (m.AtPrequel g) = alive_text g
  alive (m.AtRule g) = alive_rules g
  alive (m.AtOptionsBrace g o) = let rest : Alive (EntriesRest d g o) = alive_entries g o in (w.OpenBrace ∷ rest.0, rest.1, options_brace rest.2)
  alive (m.AtEntry g o) = alive_entries g o
  alive (m.AtEntryEquals g o) = alive_equals (InEntry g o)
  alive (m.AtValue v) = let rest : Alive (ValueEndRest d v) = alive_value_end v in (w.Number ∷ rest.0, rest.1, value n.number rest.2)
  alive (m.InPath v) = alive_path v
  alive (m.AtPathName v) = let rest : Alive (PathRest d v) = alive_path v in (w.Lower (97 ∷ []) ∷ rest.0, rest.1, path_name n.lower rest.2)
  alive (m.AfterValue v) = alive_value_end v
  alive (m.AtTokensBrace g) = (w.OpenBrace ∷ w.CloseBrace ∷ w.End ∷ [], g, tokens_brace (r.tokens_end (r.no_more r.rules_end)))
  alive (m.AtToken g) = (w.CloseBrace ∷ w.End ∷ [], g, r.tokens_end (r.no_more r.rules_end))
  alive (m.AfterToken g) = (w.CloseBrace ∷ w.End ∷ [], g, r.last (r.no_more r.rules_end))
  alive (m.AtFragmentName g) = let rest : Alive (HeadRest d g (LexerHead (65 ∷ []) true)) =
      alive_head g (LexerHead (65 ∷ []) true) in (w.Upper (65 ∷ []) ∷ rest.0, rest.1, fragment_name rest.2)
  alive (m.AtHead g head) = alive_head g head
  alive (m.AtColon g head) = alive_colon g head
  alive (m.AtAlt b) = let rest : Alive (WithinRest d b) = alive_body b in (rest.0, rest.1, r.opens n.no_opening rest.2)
  alive (m.AtOpeningName b) = let rest : Alive (EqualsRest d (InOpening b)) =
      alive_equals (InOpening b) in (w.Lower (97 ∷ []) ∷ rest.0, rest.1, opening_name n.lower rest.2)
  alive (m.AtOpeningEquals b) = alive_equals (InOpening b)
  alive (m.InElements b) = alive_body b
  alive (m.Suffixed b) = alive_body b
  alive (m.AfterName b t) = let rest : Alive (r.AfterRest d b t) =
      p.alive_after d b.text b.name b.blocks_left b.enclosing b.current t in (rest.0, rest.1, r.NameRest.no_label rest.2)
  alive (m.AtAtom b) =
      let rest : Alive (r.AfterRest d b WrittenTerm.any) =
      p.alive_after d b.text b.name b.blocks_left b.enclosing b.current WrittenTerm.any in (w.Dot ∷ rest.0, rest.1, r.atom (n.simple n.dot) rest.2)
  alive (m.AfterAtom b t) = p.alive_after d b.text b.name b.blocks_left b.enclosing b.current t
  alive (m.AtRef b) =
      let t : WrittenTerm = WrittenTerm.but (Reference.literal (120 ∷ []) ∷ []) in
      let rest : Alive (r.AfterRest d b t) =
      p.alive_after d b.text b.name b.blocks_left b.enclosing b.current t in (w.Literal (120 ∷ []) ∷ rest.0, rest.1, r.ref n.ref_literal rest.2)
  alive (m.AtRefIn b rs) =
      let t : WrittenTerm = WrittenTerm.but (rs ++ Reference.literal (120 ∷ []) ∷ []) in
      let rest : Alive (r.AfterRest d b t) =
      p.alive_after d b.text b.name b.blocks_left b.enclosing b.current t in
      (w.Literal (120 ∷ []) ∷ w.Close ∷ rest.0, rest.1, r.ref_in n.ref_literal (r.refs_end rest.2))
  alive (m.AfterRef b rs) =
      let rest : Alive (r.AfterRest d b (WrittenTerm.but rs)) =
      p.alive_after d b.text b.name b.blocks_left b.enclosing b.current (WrittenTerm.but rs) in (w.Close ∷ rest.0, rest.1, r.refs_end rest.2)
  alive (m.AtAltName b) = let rest : Alive (r.AltEndRest d b) =
      p.alive_alt_end d b.text b.name b.blocks_left b.enclosing b.current in (w.Lower (97 ∷ []) ∷ rest.0, rest.1, r.alt_name n.lower rest.2)
  alive (m.AfterAltName b) = p.alive_alt_end d b.text b.name b.blocks_left b.enclosing b.current
  alive (m.InLex b) = l.alive_lex d b.text b.name b.fragment b.known b.blocks_left b.enclosing b.current
  alive (m.LexSuffixed b) = l.alive_lex d b.text b.name b.fragment b.known b.blocks_left b.enclosing b.current
  alive (m.AfterLexAtom b t) = l.alive_lex_after d b.text b.name b.fragment b.known b.blocks_left b.enclosing b.current t
  alive (m.AfterLiteral b k) = l.alive_literal d b k
  alive (m.AtRangeEnd b a) = l.alive_range d b a
  alive (m.AfterSet b s) = l.alive_set d b s
  alive (m.AfterSetStar b s) = l.alive_star d b s
  alive (m.AfterLoop b s) = l.alive_loop d b.text b.name b.fragment b.known b.blocks_left b.current s
  alive (m.AltDone b) = l.alive_done d b.text b.name b.fragment b.known b.blocks_left b.current
  alive (m.AtItem b) = l.alive_item d b
  alive (m.AtItemIn b q) = l.alive_item_in d b q
  alive (m.AfterItemChar b q a) = l.alive_item_char d b q a
  alive (m.AtItemEnd b q a) = l.alive_item_end d b q a
  alive (m.AfterItem b ranges) = l.alive_items d b ranges
  alive (m.AtCommand b) = l.alive_command d b
  alive (m.AtChannelOpen b) = l.alive_channel_open d b
  alive (m.AtChannelName b) = l.alive_channel_name d b
  alive (m.AtChannelClose b) = l.alive_channel_close d b
  alive (m.AfterCommand b) = l.alive_commanded d b
  alive (m.AtEnd g) = ([], g, (refl, refl))
