-- Which rows fit a word, by the state that it can't follow.
use Rattle.std.proofs.Common.{◌≡◌, Bool, true, false, ◌||◌, ◌&&◌, List, [], ◌∷◌, Some, refl, sym, ◌∙◌}
use Rattle.grammar_reader_words.specs.Names.{is}
use Rattle.grammar_reader_words.specs.declared.word.Word.{Word}
use Rattle.grammar_reader_words.specs.declared.word.Word.TheVariants as w
use Rattle.grammar_reader_words.specs.declared.word.Reserved.TheVariants as r
use Rattle.grammar_reader_notation.specs.Notation.{is_eof}
use Rattle.grammar_reader_machine.specs.Machine as m
use Rattle.grammar_reader.specs.WordByWord.{run}
use Rattle.grammar_reader.specs.Positions.{at_start, at_rule, at_colon, at_option, after_name, within_parser_rule, within_lexer_rule, after_suffix}
use Rattle.grammar_reader.specs.Positions.{after_loop, after_last, after_arrow, at_lex_element, ends_lex_alt, at_arrow, takes_action}
use Rattle.grammar_reader.specs.Rows.{breaks_command, of_loop}
use Rattle.grammar_reader_notation.specs.declared.fault.What.{What}
use Rattle.grammar_reader_notation.specs.declared.fault.What.TheVariants as x
use Rattle.grammar_reader_notation.specs.Naming.{Fits, IsOutside, TakesAction, TakesNamedAction, TakesArgument, EndsLexAlt, FitsFirst, this, later, table}
use Rattle.grammar_reader_notation.specs.Naming as n
use Rattle.grammar_reader.proofs.Following.{goes, may_follow, follows_as}
use Rattle.grammar_reader.proofs.Going as g
use Rattle.grammar_reader.proofs.Seen as seen

abbrev pub fits : What → m.State → Word → Bool
fits x.LexerGrammar s (w.Reserved r.Lexer) = at_start s
fits x.ParserGrammar s (w.Reserved r.Parser) = at_start s
fits x.Import s (w.Reserved r.Import) = at_rule s
fits x.Mode s (w.Reserved r.Mode) = at_rule s
fits x.Channels s (w.Reserved r.Channels) = at_rule s
fits x.Modifier s (w.Reserved r.Public) = at_rule s
fits x.Modifier s (w.Reserved r.Private) = at_rule s
fits x.Modifier s (w.Reserved r.Protected) = at_rule s
fits x.Action s w.OpenBrace = takes_action s
fits x.Action s w.At = at_rule s || at_colon s
fits x.Argument s (w.Set ranges) = after_name s || within_parser_rule s
fits x.Returns s (w.Reserved r.Returns) = after_name s
fits x.Locals s (w.Reserved r.Locals) = after_name s
fits x.Throws s (w.Reserved r.Throws) = after_name s
fits x.Catch s (w.Reserved r.Catch) = at_rule s
fits x.Finally s (w.Reserved r.Finally) = at_rule s
fits x.Command s word = breaks_command s word
fits x.Property s w.Property = true
fits x.CaseInsensitive s (w.Lower k) = at_option s && is k "caseInsensitive"
fits x.TokenVocab s (w.Lower k) = at_option s && is k "tokenVocab"
fits x.NonGreedy s w.Question = of_loop s || after_suffix s
fits x.NonGreedy s _ = of_loop s
fits x.Eof s (w.Upper k) = within_lexer_rule s && is_eof k
fits _ s word = false

or_left : (a b : Bool) → a ≡ true → (a || b) ≡ true
or_left true b e = refl
or_left false b e = cc e

or_right : (a b : Bool) → b ≡ true → (a || b) ≡ true
or_right true b e = refl
or_right false b e = e

and_both : (a b : Bool) → a ≡ true → b ≡ true → (a && b) ≡ true
and_both true b e f = f
and_both false b e f = cc e

-- the first of two tests that holds
or_by : (P : Type 0) (a b : Bool) → (a || b) ≡ true → (a ≡ true → P) → (b ≡ true → P) → P
or_by P true b e f h = f refl
or_by P false b e f h = h e

and_by : (P : Type 0) (a b : Bool) → (a && b) ≡ true → (a ≡ true → b ≡ true → P) → P
and_by P true b e f = f refl e
and_by P false b e f = cc e

arrow_breaks : (s : m.State) (word : Word) → after_arrow s ≡ true → breaks_command s word ≡ true
arrow_breaks s w.Arrow e = or_left (after_arrow s) (ends_lex_alt s) e
arrow_breaks s w.Bar e = or_left (after_arrow s) (at_arrow s) e
arrow_breaks s w.Semicolon e = or_left (after_arrow s) (at_arrow s) e
arrow_breaks s _ e = e

loop_breaks : (s : m.State) (word : Word) → of_loop s ≡ true → fits x.NonGreedy s word ≡ true
loop_breaks s w.Question e = or_left (of_loop s) (after_suffix s) e
loop_breaks s _ e = e

suffix_breaks : (s : m.State) → (after_suffix s || after_loop s) ≡ true → (of_loop s || after_suffix s) ≡ true
suffix_breaks s e =
    or_by ((of_loop s || after_suffix s) ≡ true) (after_suffix s) (after_loop s) e (λ f. or_right (of_loop s) (after_suffix s) f)
    (λ f. or_left (of_loop s) (after_suffix s) (or_left (after_loop s) (after_last s) f))

module _ (before : List Word) (s : m.State) (read : run 64 m.AtStart before ≡ Some s) where
  -- from the words
  rule_out : n.MayBeginRule before → at_rule s ≡ true
  rule_out h = g.goes_rule s (follows_as before s read (w.Fragment ∷ []) (goes s (w.Fragment ∷ [])) refl h)

  outside_out : IsOutside before → at_rule s ≡ true
  outside_out (n.at_prequel h) = g.goes_prequel s (follows_as before s read (w.Tokens ∷ []) (goes s (w.Tokens ∷ [])) refl h)
  outside_out (n.at_rule h) = rule_out h

  follows : (words : List Word) → n.MayFollow before words → goes s words ≡ true
  follows words h = follows_as before s read words (goes s words) refl h

  action_out : TakesAction before → takes_action s ≡ true
  action_out (n.at_element h) = g.element_acts s (g.goes_element s (follows (w.Lower n.a_name ∷ w.Equals ∷ w.Dot ∷ []) h))
  action_out (n.at_lex_element h) = g.lex_element_acts s (g.goes_lex_element s (follows (w.Tilde ∷ w.Set n.a_set ∷ []) h))
  action_out (n.at_last h) = g.loop_acts s (seen.loop_out before s read h)
  action_out (n.at_bar h) = g.bar_acts s (follows (w.Bar ∷ []) h)
  action_out (n.at_semicolon h) = g.semicolon_acts s (follows (w.Semicolon ∷ []) h)
  action_out (n.at_arrow h) = g.arrow_acts s (follows (w.Arrow ∷ []) h)

  named_out : TakesNamedAction before → (at_rule s || at_colon s) ≡ true
  named_out (n.at_outside h) = or_left (at_rule s) (at_colon s) (outside_out h)
  named_out (n.at_colon h) = or_right (at_rule s) (at_colon s) (g.goes_colon s (follows (w.Colon ∷ []) h))

  argument_out : TakesArgument before → (after_name s || within_parser_rule s) ≡ true
  argument_out (n.after_name h) = or_left (after_name s) (within_parser_rule s) (seen.name_out before s read h)
  argument_out (n.in_rule h) = or_right (after_name s) (within_parser_rule s) (seen.parser_out before s read h)

  alt_out : EndsLexAlt before → ends_lex_alt s ≡ true
  alt_out (n.after_elements h) = or_left (at_lex_element s) (after_last s) (g.goes_lex_element s (follows (w.Tilde ∷ w.Set n.a_set ∷ []) h))
  alt_out (n.after_last h) = or_right (at_lex_element s) (after_last s) (seen.last_out before s read h)

  arrow_out : n.MayFollow before (w.Arrow ∷ []) → at_arrow s ≡ true
  arrow_out h = sym (g.goes_arrow s) ∙ follows (w.Arrow ∷ []) h

  option_out : n.MayNameOption before → at_option s ≡ true
  option_out h = g.goes_option s (follows (w.Lower n.a_name ∷ w.Equals ∷ w.Number ∷ w.Semicolon ∷ []) h)

  pub fits_out : (word : Word) (what : What) → Fits before word what → fits what s word ≡ true
  fits_out _ _ (n.lexer_grammar h) = seen.start_out before s read h
  fits_out _ _ (n.parser_grammar h) = seen.start_out before s read h
  fits_out _ _ (n.imported h) = outside_out h
  fits_out _ _ (n.mode h) = outside_out h
  fits_out _ _ (n.channels h) = outside_out h
  fits_out _ _ (n.public h) = rule_out h
  fits_out _ _ (n.private h) = rule_out h
  fits_out _ _ (n.protected h) = rule_out h
  fits_out _ _ (n.action h) = action_out h
  fits_out _ _ (n.named_action h) = named_out h
  fits_out _ _ (n.argument h) = argument_out h
  fits_out _ _ (n.returns h) = seen.name_out before s read h
  fits_out _ _ (n.locals h) = seen.name_out before s read h
  fits_out _ _ (n.throws h) = seen.name_out before s read h
  fits_out _ _ (n.catch h) = rule_out h
  fits_out _ _ (n.finally h) = rule_out h
  fits_out word _ (n.command h) = arrow_breaks s word (seen.arrow_out before s read h)
  fits_out _ _ (n.no_command h) = or_right (after_arrow s) (ends_lex_alt s) (alt_out h)
  fits_out _ _ (n.lacks_before_bar h) = or_right (after_arrow s) (at_arrow s) (arrow_out h)
  fits_out _ _ (n.lacks_at_end h) = or_right (after_arrow s) (at_arrow s) (arrow_out h)
  fits_out _ _ n.property = refl
  fits_out _ _ (n.case_insensitive {n = k} h e) = and_both (at_option s) (is k "caseInsensitive") (option_out h) e
  fits_out _ _ (n.token_vocab {n = k} h e) = and_both (at_option s) (is k "tokenVocab") (option_out h) e
  fits_out _ _ (n.second_suffix h) = suffix_breaks s (seen.suffix_out before s read h)
  fits_out word _ (n.after_loop h) = loop_breaks s word (or_left (after_loop s) (after_last s) (seen.loop_out before s read h))
  fits_out word _ (n.after_last h) = loop_breaks s word (or_right (after_loop s) (after_last s) (seen.last_out before s read h))
  fits_out _ _ (n.eof {n = k} h e) = and_both (within_lexer_rule s) (is_eof k) (seen.lexer_out before s read h) e

  -- back to them
  rule_in : at_rule s ≡ true → n.MayBeginRule before
  rule_in e = may_follow before s read (w.Fragment ∷ []) (g.rule_goes s e)

  outside_in : at_rule s ≡ true → IsOutside before
  outside_in e = n.at_rule (rule_in e)

  element_in : at_lex_element s ≡ true → n.MayBeginLexElement before
  element_in e = may_follow before s read (w.Tilde ∷ w.Set n.a_set ∷ []) (g.lex_element_goes s e)

  from_acts : g.Acts s → TakesAction before
  from_acts (g.by_element e) = n.at_element (may_follow before s read (w.Lower n.a_name ∷ w.Equals ∷ w.Dot ∷ []) (g.element_goes s e))
  from_acts (g.by_lex_element e) = n.at_lex_element (element_in e)
  from_acts (g.by_loop e) = n.at_last (seen.loop_in before s read e)
  from_acts (g.by_bar e) = n.at_bar (may_follow before s read (w.Bar ∷ []) e)
  from_acts (g.by_semicolon e) = n.at_semicolon (may_follow before s read (w.Semicolon ∷ []) e)
  from_acts (g.by_arrow e) = n.at_arrow (may_follow before s read (w.Arrow ∷ []) e)

  action_in : takes_action s ≡ true → TakesAction before
  action_in e = from_acts (g.acts s e)

  named_in : (at_rule s || at_colon s) ≡ true → TakesNamedAction before
  named_in e =
      or_by (TakesNamedAction before) (at_rule s) (at_colon s) e (λ f. n.at_outside (outside_in f))
      (λ f. n.at_colon (may_follow before s read (w.Colon ∷ []) (g.colon_goes s f)))

  argument_in : (after_name s || within_parser_rule s) ≡ true → TakesArgument before
  argument_in e =
      or_by (TakesArgument before) (after_name s) (within_parser_rule s) e (λ f. n.after_name (seen.name_in before s read f))
      (λ f. n.in_rule (seen.parser_in before s read f))

  alt_in : ends_lex_alt s ≡ true → EndsLexAlt before
  alt_in e =
      or_by (EndsLexAlt before) (at_lex_element s) (after_last s) e (λ f. n.after_elements (element_in f)) (λ f. n.after_last (seen.last_in before s read f))

  arrow_in : at_arrow s ≡ true → n.MayFollow before (w.Arrow ∷ [])
  arrow_in e = may_follow before s read (w.Arrow ∷ []) (g.goes_arrow s ∙ e)

  option_in : at_option s ≡ true → n.MayNameOption before
  option_in e = may_follow before s read (w.Lower n.a_name ∷ w.Equals ∷ w.Number ∷ w.Semicolon ∷ []) (g.option_goes s e)

  after_in : {word : Word} → after_arrow s ≡ true → Fits before word x.Command
  after_in e = n.command (seen.arrow_in before s read e)

  command_in : (word : Word) → breaks_command s word ≡ true → Fits before word x.Command
  command_in w.Arrow e = or_by (Fits before w.Arrow x.Command) (after_arrow s) (ends_lex_alt s) e (λ f. after_in f) (λ f. n.no_command (alt_in f))
  command_in w.Bar e = or_by (Fits before w.Bar x.Command) (after_arrow s) (at_arrow s) e (λ f. after_in f) (λ f. n.lacks_before_bar (arrow_in f))
  command_in w.Semicolon e = or_by (Fits before w.Semicolon x.Command) (after_arrow s) (at_arrow s) e (λ f. after_in f) (λ f. n.lacks_at_end (arrow_in f))
  command_in _ e = after_in e

  loop_in : {word : Word} → of_loop s ≡ true → Fits before word x.NonGreedy
  loop_in {word} e =
      or_by (Fits before word x.NonGreedy) (after_loop s) (after_last s) e (λ f. n.Fits.after_loop (seen.loop_in before s read f))
      (λ f. n.Fits.after_last (seen.last_in before s read f))

  greedy_in : (word : Word) → fits x.NonGreedy s word ≡ true → Fits before word x.NonGreedy
  greedy_in w.Question e =
      or_by (Fits before w.Question x.NonGreedy) (of_loop s) (after_suffix s) e (λ f. loop_in f) (λ f. n.second_suffix (seen.suffix_in before s read f))
  greedy_in _ e = loop_in e

  pub fits_in : (word : Word) (what : What) → fits what s word ≡ true → Fits before word what
  fits_in (w.Reserved r.Lexer) x.LexerGrammar e = n.lexer_grammar (seen.start_in before s read e)
  fits_in (w.Reserved r.Parser) x.ParserGrammar e = n.parser_grammar (seen.start_in before s read e)
  fits_in (w.Reserved r.Import) x.Import e = n.imported (outside_in e)
  fits_in (w.Reserved r.Mode) x.Mode e = n.mode (outside_in e)
  fits_in (w.Reserved r.Channels) x.Channels e = n.channels (outside_in e)
  fits_in (w.Reserved r.Public) x.Modifier e = n.public (rule_in e)
  fits_in (w.Reserved r.Private) x.Modifier e = n.private (rule_in e)
  fits_in (w.Reserved r.Protected) x.Modifier e = n.protected (rule_in e)
  fits_in w.OpenBrace x.Action e = n.action (action_in e)
  fits_in w.At x.Action e = n.named_action (named_in e)
  fits_in (w.Set ranges) x.Argument e = n.argument (argument_in e)
  fits_in (w.Reserved r.Returns) x.Returns e = n.returns (seen.name_in before s read e)
  fits_in (w.Reserved r.Locals) x.Locals e = n.locals (seen.name_in before s read e)
  fits_in (w.Reserved r.Throws) x.Throws e = n.throws (seen.name_in before s read e)
  fits_in (w.Reserved r.Catch) x.Catch e = n.catch (rule_in e)
  fits_in (w.Reserved r.Finally) x.Finally e = n.finally (rule_in e)
  fits_in word x.Command e = command_in word e
  fits_in w.Property x.Property e = n.property
  fits_in (w.Lower k) x.CaseInsensitive e =
      and_by (Fits before (w.Lower k) x.CaseInsensitive) (at_option s) (is k "caseInsensitive") e (λ a b. n.case_insensitive (option_in a) b)
  fits_in (w.Lower k) x.TokenVocab e = and_by (Fits before (w.Lower k) x.TokenVocab) (at_option s) (is k "tokenVocab") e (λ a b. n.token_vocab (option_in a) b)
  fits_in word x.NonGreedy e = greedy_in word e
  fits_in (w.Upper k) x.Eof e = and_by (Fits before (w.Upper k) x.Eof) (within_lexer_rule s) (is_eof k) e (λ a b. n.eof (seen.lexer_in before s read a) b)
  fits_in _ _ e = cc e
