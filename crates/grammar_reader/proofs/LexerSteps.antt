-- In lexer rules, each word goes one step on in what may still come, both ways; and every state can be completed.
use Rattle.std.proofs.Common.{ℕ, zero, suc, ◌≡◌, Bool, true, false, cond, nat_le, List, [], ◌∷◌, ◌++◌, Option, Some, None, codes, refl, sym, ◌∙◌, arith}
use Rattle.std.specs.Str.{chars, bytes_eq}
use Rattle.std.proofs.lemmas.Bool.{le-leb, leb-true}
use Rattle.std.proofs.lemmas.Slice.Eq.{bytes_eq-Decides}
use Rattle.grammar_tree.specs.Written.{LexerTerm, WrittenGrammar, lexer_alts}
use Rattle.grammar_reader_words.specs.Names.{is}
use Rattle.grammar_reader_words.specs.declared.word.Word.{Word}
use Rattle.grammar_reader_words.specs.declared.word.Word.TheVariants as w
use Rattle.grammar_reader_notation.specs.Sets.{within, outside}
use Rattle.grammar_reader_notation.specs.Notation.{is_eof, IsItem, item_set, item_char, item_range, IsItems, IsCharSet, IsLexSuffixed, IsCommand, no_command}
use Rattle.grammar_reader_notation.specs.Notation.{IsLast, last_literal, last_set, Level, inner, top, IsLexAtom, IsLexAlts, lexer_rule}
use Rattle.grammar_reader_notation.specs.Notation as n
use Rattle.grammar_reader_machine.specs.Machine.{Frame, with_term, whole, next_alt, fresh, LexBody, ItemPosition, Alone, Listed, State, provided, with_rule}
use Rattle.grammar_reader_machine.specs.Machine.{lex_with, lex_add, lex_with_block, lex_block_end, next_top, end_top, without_command, with_command, step_done}
use Rattle.grammar_reader_machine.specs.Machine.{step_inner_end, step_lex_end, step_lex, step_lex_after, start_of_range, step_after_literal, end_of_range}
use Rattle.grammar_reader_machine.specs.Machine.{step_range_end, step_after_set, loop_end, step_after_set_star, with_loop, step_loop, after_item, one_char}
use Rattle.grammar_reader_machine.specs.Machine.{step_item_in, step_item, step_after_item, step_after_one, step_after_item_char, step_item_end, step_command}
use Rattle.grammar_reader_machine.specs.Machine.{step_channel_open, step_channel_name, step_channel_close, step_after_command}
use Rattle.grammar_reader_machine.specs.Machine as m
use Rattle.grammar_reader.proofs.Rest.{RulesRest, is_top, Agrees, LexCloses, LexAltEnd, LexWithin, LexLoop, loop_rest, LexDone, done, LexAfter, LexRest}
use Rattle.grammar_reader.proofs.Rest.{LexAfterRest, LexLoopRest, LexDoneRest, CommandedRest, LiteralRest, RangeRest, range_end, IsTop, SetRest, StarRest}
use Rattle.grammar_reader.proofs.Rest.{greedy, not_greedy, ItemInRest, item_in, ItemsRest, AfterItemRest, PlacedItem, item, ItemRest, alone, listed}
use Rattle.grammar_reader.proofs.Rest.{ItemCharRest, ItemEndRest, item_end, ChannelCloseRest, channel_close, ChannelNameRest, channel_name}
use Rattle.grammar_reader.proofs.Rest.{ChannelOpenRest, channel_open, CommandRest, Rest, Goes}
use Rattle.grammar_reader.proofs.Rest as r
use Rattle.grammar_reader.proofs.Unroll.{inner_in, inner_back, items_in, items_back}
use Rattle.grammar_reader.proofs.ParserSteps.{not_eof, with_no_eof}

pub provided_on : (d : ℕ) (words : List Word) (G : WrittenGrammar) (b : Bool) (s : State) → b ≡ true → Rest d s words G → Goes d (provided b s) words G
provided_on d words G true s e x = x
provided_on d words G false s e x = cc e

pub from_provided : (d : ℕ) (words : List Word) (G : WrittenGrammar) (b : Bool) (s : State) (P : Type 0) → (b ≡ true → Rest d s words G → P)
    → Goes d (provided b s) words G → P
from_provided d words G true s P k h = k refl h
from_provided d words G false s P k h = absurd h

-- the two commands differ
skip_or_channel : chars (codes "skip") ≡ chars (codes "channel") → ⊥
unfolding chars
skip_or_channel e = cc e

not_both : (k : List ℕ) → is k "skip" ≡ true → is k "channel" ≡ true → ⊥
not_both k s c =
    let p = bytes_eq-Decides k (chars (codes "skip")) in
    let q = bytes_eq-Decides k (chars (codes "channel")) in
    skip_or_channel (sym (p.0 s) ∙ q.0 c)

is_itself : (text : List ℕ) → bytes_eq text text ≡ true
is_itself text = let p = bytes_eq-Decides text text in p.1 refl

module _ (d : ℕ) (g : WrittenGrammar) (name : List ℕ) (frag : Bool) where
  abbrev lex_body : Option Bool → ℕ → List (Frame LexerTerm) → Frame LexerTerm → LexBody
  lex_body known blocks_left enclosing f =
      record { text = g; name = name; fragment = frag; known = known; blocks_left = blocks_left; enclosing = enclosing; current = f }

  plain_on : (words : List Word) (G : WrittenGrammar) (known : Option Bool) (s : State) → Agrees known false → Rest d s words G
      → Goes d (without_command known s) words G
  plain_on words G None s a x = x
  plain_on words G (Some true) s a x = cc a
  plain_on words G (Some false) s a x = x

  command_on : (words : List Word) (G : WrittenGrammar) (known : Option Bool) (s : State) → Agrees known true → Rest d s words G
      → Goes d (with_command known s) words G
  command_on words G None s a x = x
  command_on words G (Some true) s a x = x
  command_on words G (Some false) s a x = cc a

  pub complete_done : (known : Option Bool) (blocks_left : ℕ) (enclosing : List (Frame LexerTerm)) (f : Frame LexerTerm) {word : Word} {words : List Word}
      {G : WrittenGrammar} →
      LexDone d g name frag known blocks_left f (word ∷ words) G → Goes d (step_done (lex_body known blocks_left enclosing f) word) words G
  complete_done known blocks_left enclosing f {words = words} {G = G} (done a no_command (r.alts_end (r.rule_ends x))) =
      plain_on words G known (end_top (lex_body known blocks_left enclosing f) false) a x
  complete_done known blocks_left enclosing f {words = words} {G = G} (done a no_command (r.alts_go_on x)) =
      plain_on words G known (next_top (lex_body known blocks_left enclosing f) false) a x
  complete_done known blocks_left enclosing f {words = words} {G = G} (done a (n.skip h) x) =
      command_on words G known (m.AtCommand (lex_body known blocks_left enclosing f)) a (r.skip h x)
  complete_done known blocks_left enclosing f {words = words} {G = G} (done a (n.channel h k) x) =
      command_on words G known (m.AtCommand (lex_body known blocks_left enclosing f)) a (r.channel h (channel_open (channel_name k (channel_close x))))

  complete_inner_end : (known : Option Bool) (blocks_left : ℕ) (f' : Frame LexerTerm) (enclosing : List (Frame LexerTerm)) (f : Frame LexerTerm) {word : Word}
      {words : List Word} {G : WrittenGrammar} →
      LexAltEnd d g name frag known blocks_left (f' ∷ enclosing) f (word ∷ words) G
      → Goes d (step_inner_end (lex_body known blocks_left (f' ∷ enclosing) f) word) words G
  complete_inner_end known blocks_left f' enclosing f (r.alts_end (r.block_ends x)) = x
  complete_inner_end known blocks_left f' enclosing f (r.alts_go_on x) = x

  -- an end is no element
  end_in_lex : (known : Option Bool) (blocks_left : ℕ) (enclosing : List (Frame LexerTerm)) (f : Frame LexerTerm) (word : Word) (words : List Word)
      (G : WrittenGrammar) →
      Goes d (step_lex_end (lex_body known blocks_left enclosing f) enclosing word) words G
      → Goes d (step_lex (lex_body known blocks_left enclosing f) word) words G
  end_in_lex known blocks_left [] f (w.Literal k) words G h = absurd h
  end_in_lex known blocks_left [] f (w.Upper k) words G h = absurd h
  end_in_lex known blocks_left [] f (w.Set k) words G h = absurd h
  end_in_lex known blocks_left [] f w.Dot words G h = absurd h
  end_in_lex known blocks_left [] f w.Tilde words G h = absurd h
  end_in_lex known blocks_left [] f w.Open words G h = absurd h
  end_in_lex known blocks_left (f' ∷ enclosing) f (w.Literal k) words G h = absurd h
  end_in_lex known blocks_left (f' ∷ enclosing) f (w.Upper k) words G h = absurd h
  end_in_lex known blocks_left (f' ∷ enclosing) f (w.Set k) words G h = absurd h
  end_in_lex known blocks_left (f' ∷ enclosing) f w.Dot words G h = absurd h
  end_in_lex known blocks_left (f' ∷ enclosing) f w.Tilde words G h = absurd h
  end_in_lex known blocks_left (f' ∷ enclosing) f w.Open words G h = absurd h
  end_in_lex known blocks_left enclosing f _ words G h = h

  set_on : (known : Option Bool) (blocks_left : ℕ) (enclosing : List (Frame LexerTerm)) (f : Frame LexerTerm) {word : Word} {words mid : List Word}
      {s : List (ℕ × ℕ)} {G : WrittenGrammar} →
      IsCharSet (word ∷ words) s mid → SetRest d (lex_body known blocks_left enclosing f) s mid G
      → Goes d (step_lex (lex_body known blocks_left enclosing f) word) words G
  set_on known blocks_left enclosing f n.any x = x
  set_on known blocks_left enclosing f n.set x = x
  set_on known blocks_left enclosing f (n.but i) x = alone (item i x)
  set_on known blocks_left enclosing f (n.but_these {i = i} h is') x = listed (item h (items_in d (lex_body known blocks_left enclosing f) i is' x))

  simple_on : (known : Option Bool) (blocks_left : ℕ) (enclosing : List (Frame LexerTerm)) (f : Frame LexerTerm) {word : Word} {words mid : List Word}
      {a : LexerTerm} {G : WrittenGrammar} →
      n.IsLexSimple (word ∷ words) a mid → LexAfter d g name frag known blocks_left enclosing f a mid G
      → Goes d (step_lex (lex_body known blocks_left enclosing f) word) words G
  simple_on known blocks_left enclosing f n.literal x = r.LiteralRest.no_range x
  simple_on known blocks_left enclosing f (n.range h) x = r.LiteralRest.range h x
  simple_on known blocks_left enclosing f (n.char_set s) x = set_on known blocks_left enclosing f s (r.no_loop x)
  simple_on known blocks_left enclosing f {words = words} {G = G} (n.name {n = k} h) x =
      not_eof d words G (is_eof k) (Some (m.AfterLexAtom (lex_body known blocks_left enclosing f) (LexerTerm.name k))) h x

  atom_on : (known : Option Bool) (blocks_left : ℕ) (enclosing : List (Frame LexerTerm)) (f : Frame LexerTerm) {word : Word} {words mid : List Word}
      {a : LexerTerm} {G : WrittenGrammar} →
      IsLexAtom blocks_left (word ∷ words) a mid → LexAfter d g name frag known blocks_left enclosing f a mid G
      → Goes d (step_lex (lex_body known blocks_left enclosing f) word) words G
  atom_on known blocks_left enclosing f (n.simple s) x = simple_on known blocks_left enclosing f s x
  atom_on known blocks_left enclosing f (n.block alts) x = inner_in d g name frag [] alts (r.block_ends x)

  pub complete_lex : (known : Option Bool) (blocks_left : ℕ) (enclosing : List (Frame LexerTerm)) (f : Frame LexerTerm) {word : Word} {words : List Word}
      {G : WrittenGrammar} →
      LexWithin d g name frag known blocks_left enclosing f (word ∷ words) G → Goes d (step_lex (lex_body known blocks_left enclosing f) word) words G
  complete_lex known blocks_left enclosing f (r.goes_on a x) = atom_on known blocks_left enclosing f a x
  complete_lex known blocks_left (f' ∷ enclosing) f {word} {words} {G} (r.ends_inner e) =
      end_in_lex known blocks_left (f' ∷ enclosing) f word words G (complete_inner_end known blocks_left f' enclosing f e)
  complete_lex known blocks_left [] f {word} {words} {G} (r.ends_plain x) =
      end_in_lex known blocks_left [] f word words G (complete_done known blocks_left [] f x)
  complete_lex known blocks_left [] f (r.ends_loop h chars x) = set_on known blocks_left [] f chars (r.loop (refl, h) x)

  -- words that are in no alternative
  no_question : (known : Option Bool) (blocks_left : ℕ) (enclosing : List (Frame LexerTerm)) (f : Frame LexerTerm) (words : List Word) (G : WrittenGrammar)
      → Goes d (step_lex (lex_body known blocks_left enclosing f) w.Question) words G → ⊥
  no_question known blocks_left [] f words G h = h
  no_question known blocks_left (f' ∷ enclosing) f words G h = h

  no_star : (known : Option Bool) (blocks_left : ℕ) (enclosing : List (Frame LexerTerm)) (f : Frame LexerTerm) (words : List Word) (G : WrittenGrammar)
      → Goes d (step_lex (lex_body known blocks_left enclosing f) w.Star) words G → ⊥
  no_star known blocks_left [] f words G h = h
  no_star known blocks_left (f' ∷ enclosing) f words G h = h

  no_plus : (known : Option Bool) (blocks_left : ℕ) (enclosing : List (Frame LexerTerm)) (f : Frame LexerTerm) (words : List Word) (G : WrittenGrammar)
      → Goes d (step_lex (lex_body known blocks_left enclosing f) w.Plus) words G → ⊥
  no_plus known blocks_left [] f words G h = h
  no_plus known blocks_left (f' ∷ enclosing) f words G h = h

  no_dots : (known : Option Bool) (blocks_left : ℕ) (enclosing : List (Frame LexerTerm)) (f : Frame LexerTerm) (words : List Word) (G : WrittenGrammar)
      → Goes d (step_lex (lex_body known blocks_left enclosing f) w.Dots) words G → ⊥
  no_dots known blocks_left [] f words G h = h
  no_dots known blocks_left (f' ∷ enclosing) f words G h = h

  bare_on : (known : Option Bool) (blocks_left : ℕ) (enclosing : List (Frame LexerTerm)) (f : Frame LexerTerm) (t : LexerTerm) (word : Word) (words : List Word)
      (G : WrittenGrammar) →
      Goes d (step_lex (lex_body known blocks_left enclosing (with_term f t)) word) words G
      → Goes d (step_lex_after (lex_body known blocks_left enclosing f) t word) words G
  bare_on known blocks_left enclosing f t w.Question words G h = absurd (no_question known blocks_left enclosing (with_term f t) words G h)
  bare_on known blocks_left enclosing f t w.Star words G h = absurd (no_star known blocks_left enclosing (with_term f t) words G h)
  bare_on known blocks_left enclosing f t w.Plus words G h = absurd (no_plus known blocks_left enclosing (with_term f t) words G h)
  bare_on known blocks_left enclosing f t _ words G h = h

  pub complete_lex_after : (known : Option Bool) (blocks_left : ℕ) (enclosing : List (Frame LexerTerm)) (f : Frame LexerTerm) (t : LexerTerm) {word : Word}
      {words : List Word} {G : WrittenGrammar} →
      LexAfter d g name frag known blocks_left enclosing f t (word ∷ words) G → Goes d (step_lex_after (lex_body known blocks_left enclosing f) t word) words G
  complete_lex_after known blocks_left enclosing f t {word} {words} {G} (r.after n.bare x) =
      bare_on known blocks_left enclosing f t word words G (complete_lex known blocks_left enclosing (with_term f t) x)
  complete_lex_after known blocks_left enclosing f t (r.after n.question x) = x
  complete_lex_after known blocks_left enclosing f t (r.after n.star x) = x
  complete_lex_after known blocks_left enclosing f t (r.after n.plus x) = x

  no_range_on : (known : Option Bool) (blocks_left : ℕ) (enclosing : List (Frame LexerTerm)) (f : Frame LexerTerm) (k : List ℕ) (word : Word)
      (words : List Word) (G : WrittenGrammar) →
      Goes d (step_lex_after (lex_body known blocks_left enclosing f) (LexerTerm.literal k) word) words G
      → Goes d (step_after_literal (lex_body known blocks_left enclosing f) k word) words G
  no_range_on known blocks_left enclosing f k w.Dots words G h = absurd (no_dots known blocks_left enclosing (with_term f (LexerTerm.literal k)) words G h)
  no_range_on known blocks_left enclosing f k _ words G h = h

  pub complete_literal : (known : Option Bool) (blocks_left : ℕ) (enclosing : List (Frame LexerTerm)) (f : Frame LexerTerm) (k : List ℕ) {word : Word}
      {words : List Word} {G : WrittenGrammar} →
      LiteralRest d (lex_body known blocks_left enclosing f) k (word ∷ words) G
      → Goes d (step_after_literal (lex_body known blocks_left enclosing f) k word) words G
  complete_literal known blocks_left enclosing f k {word} {words} {G} (r.LiteralRest.no_range x) =
      no_range_on known blocks_left enclosing f k word words G (complete_lex_after known blocks_left enclosing f (LexerTerm.literal k) x)
  complete_literal known blocks_left enclosing f k (r.LiteralRest.range h x) = range_end h x

  no_loop_on : (known : Option Bool) (blocks_left : ℕ) (enclosing : List (Frame LexerTerm)) (f : Frame LexerTerm) (s : List (ℕ × ℕ)) (word : Word)
      (words : List Word) (G : WrittenGrammar) →
      Goes d (step_lex (lex_body known blocks_left enclosing (with_term f (LexerTerm.set s))) word) words G
      → Goes d (step_after_set (lex_body known blocks_left enclosing f) s word) words G
  no_loop_on known blocks_left enclosing f s w.Question words G h = absurd (no_question known blocks_left enclosing (with_term f (LexerTerm.set s)) words G h)
  no_loop_on known blocks_left enclosing f s w.Star words G h = absurd (no_star known blocks_left enclosing (with_term f (LexerTerm.set s)) words G h)
  no_loop_on known blocks_left enclosing f s w.Plus words G h = absurd (no_plus known blocks_left enclosing (with_term f (LexerTerm.set s)) words G h)
  no_loop_on known blocks_left enclosing f s _ words G h = h

  pub complete_set : (known : Option Bool) (blocks_left : ℕ) (enclosing : List (Frame LexerTerm)) (f : Frame LexerTerm) (s : List (ℕ × ℕ)) {word : Word}
      {words : List Word} {G : WrittenGrammar} →
      SetRest d (lex_body known blocks_left enclosing f) s (word ∷ words) G → Goes d (step_after_set (lex_body known blocks_left enclosing f) s word) words G
  complete_set known blocks_left enclosing f s {word} {words} {G} (r.no_loop (r.after n.bare x)) =
      no_loop_on known blocks_left enclosing f s word words G (complete_lex known blocks_left enclosing (with_term f (LexerTerm.set s)) x)
  complete_set known blocks_left enclosing f s (r.no_loop (r.after n.question x)) = x
  complete_set known blocks_left enclosing f s (r.no_loop (r.after n.star x)) = greedy x
  complete_set known blocks_left enclosing f s (r.no_loop (r.after n.plus x)) = x
  complete_set known blocks_left enclosing f s (r.loop t x) = not_greedy t x

  looped_on : (known : Option Bool) (blocks_left : ℕ) (enclosing : List (Frame LexerTerm)) (f : Frame LexerTerm) (s : List (ℕ × ℕ)) (words : List Word)
      (G : WrittenGrammar) (b : LexBody) (fr : Bool) →
      is_top enclosing ≡ true → fr ≡ false → LexLoopRest d b s words G → Goes d (loop_end b s enclosing fr) words G
  looped_on known blocks_left [] f s words G b true t h x = cc h
  looped_on known blocks_left [] f s words G b false t h x = x
  looped_on known blocks_left (f' ∷ enclosing) f s words G b fr t h x = cc t

  greedy_on : (known : Option Bool) (blocks_left : ℕ) (enclosing : List (Frame LexerTerm)) (f : Frame LexerTerm) (s : List (ℕ × ℕ)) (word : Word)
      (words : List Word) (G : WrittenGrammar) →
      Goes d (step_lex (lex_body known blocks_left enclosing (with_term f (LexerTerm.star (LexerTerm.set s)))) word) words G
      → Goes d (step_after_set_star (lex_body known blocks_left enclosing f) s word) words G
  greedy_on known blocks_left enclosing f s w.Question words G h =
      absurd (no_question known blocks_left enclosing (with_term f (LexerTerm.star (LexerTerm.set s))) words G h)
  greedy_on known blocks_left enclosing f s _ words G h = h

  pub complete_star : (known : Option Bool) (blocks_left : ℕ) (enclosing : List (Frame LexerTerm)) (f : Frame LexerTerm) (s : List (ℕ × ℕ)) {word : Word}
      {words : List Word} {G : WrittenGrammar} →
      StarRest d (lex_body known blocks_left enclosing f) s (word ∷ words) G
      → Goes d (step_after_set_star (lex_body known blocks_left enclosing f) s word) words G
  complete_star known blocks_left enclosing f s {word} {words} {G} (greedy x) =
      greedy_on known blocks_left enclosing f s word words G (complete_lex known blocks_left enclosing (with_term f (LexerTerm.star (LexerTerm.set s))) x)
  complete_star known blocks_left enclosing f s {words = words} {G = G} (not_greedy t x) =
      looped_on known blocks_left enclosing f s words G (lex_body known blocks_left enclosing f) frag t.0 t.1 x

  pub complete_loop : (known : Option Bool) (blocks_left : ℕ) (enclosing : List (Frame LexerTerm)) (f : Frame LexerTerm) (s : List (ℕ × ℕ)) {word : Word}
      {words : List Word} {G : WrittenGrammar} →
      LexLoop d g name frag known blocks_left f s (word ∷ words) G → Goes d (step_loop (lex_body known blocks_left enclosing f) s word) words G
  complete_loop known blocks_left enclosing f s (loop_rest last_literal x) = x
  complete_loop known blocks_left enclosing f s (loop_rest last_set x) = x

  -- back
  from_plain : (words : List Word) (G : WrittenGrammar) (known : Option Bool) (s : State) (P : Type 0) → (Agrees known false → Rest d s words G → P)
      → Goes d (without_command known s) words G → P
  from_plain words G None s P k h = k tt h
  from_plain words G (Some true) s P k h = absurd h
  from_plain words G (Some false) s P k h = k refl h

  from_command : (words : List Word) (G : WrittenGrammar) (known : Option Bool) (s : State) (P : Type 0) → (Agrees known true → Rest d s words G → P)
      → Goes d (with_command known s) words G → P
  from_command words G None s P k h = k tt h
  from_command words G (Some true) s P k h = k refl h
  from_command words G (Some false) s P k h = absurd h

  commanded : (known : Option Bool) (blocks_left : ℕ) (enclosing : List (Frame LexerTerm)) (f : Frame LexerTerm) {words : List Word} {G : WrittenGrammar} →
      Agrees known true → CommandRest d (lex_body known blocks_left enclosing f) words G → LexDone d g name frag known blocks_left f (w.Arrow ∷ words) G
  commanded known blocks_left enclosing f a (r.skip h x) = done a (n.skip h) x
  commanded known blocks_left enclosing f a (r.channel h (channel_open (channel_name k (channel_close x)))) = done a (n.channel h k) x

  pub sound_done : (known : Option Bool) (blocks_left : ℕ) (enclosing : List (Frame LexerTerm)) (f : Frame LexerTerm) (word : Word) (words : List Word)
      (G : WrittenGrammar) →
      Goes d (step_done (lex_body known blocks_left enclosing f) word) words G → LexDone d g name frag known blocks_left f (word ∷ words) G
  sound_done known blocks_left enclosing f w.Bar words G h =
      from_plain words G known (next_top (lex_body known blocks_left enclosing f) false) (LexDone d g name frag known blocks_left f (w.Bar ∷ words) G)
      (λ a x. done a no_command (r.alts_go_on x)) h
  sound_done known blocks_left enclosing f w.Semicolon words G h =
      from_plain words G known (end_top (lex_body known blocks_left enclosing f) false) (LexDone d g name frag known blocks_left f (w.Semicolon ∷ words) G)
      (λ a x. done a no_command (r.alts_end (r.rule_ends x))) h
  sound_done known blocks_left enclosing f w.Arrow words G h =
      from_command words G known (m.AtCommand (lex_body known blocks_left enclosing f)) (LexDone d g name frag known blocks_left f (w.Arrow ∷ words) G)
      (λ a x. commanded known blocks_left enclosing f a x) h
  sound_done known blocks_left enclosing f _ words G h = absurd h

  sound_inner_end : (known : Option Bool) (blocks_left : ℕ) (f' : Frame LexerTerm) (enclosing : List (Frame LexerTerm)) (f : Frame LexerTerm) (word : Word)
      (words : List Word) (G : WrittenGrammar) →
      Goes d (step_inner_end (lex_body known blocks_left (f' ∷ enclosing) f) word) words G
      → LexAltEnd d g name frag known blocks_left (f' ∷ enclosing) f (word ∷ words) G
  sound_inner_end known blocks_left f' enclosing f w.Bar words G h = r.alts_go_on h
  sound_inner_end known blocks_left f' enclosing f w.Close words G h = r.alts_end (r.block_ends h)
  sound_inner_end known blocks_left f' enclosing f _ words G h = absurd h

  sound_lex_end : (known : Option Bool) (blocks_left : ℕ) (enclosing : List (Frame LexerTerm)) (f : Frame LexerTerm) (word : Word) (words : List Word)
      (G : WrittenGrammar) →
      Goes d (step_lex_end (lex_body known blocks_left enclosing f) enclosing word) words G
      → LexWithin d g name frag known blocks_left enclosing f (word ∷ words) G
  sound_lex_end known blocks_left [] f word words G h = r.ends_plain (sound_done known blocks_left [] f word words G h)
  sound_lex_end known blocks_left (f' ∷ enclosing) f word words G h = r.ends_inner (sound_inner_end known blocks_left f' enclosing f word words G h)

  from_loop : (known : Option Bool) (blocks_left : ℕ) (enclosing : List (Frame LexerTerm)) (f : Frame LexerTerm) {words mid : List Word} {s : List (ℕ × ℕ)}
      {G : WrittenGrammar} →
      is_top enclosing ≡ true → frag ≡ false → IsCharSet words s (w.Star ∷ w.Question ∷ mid) → LexLoop d g name frag known blocks_left f s mid G
      → LexWithin d g name frag known blocks_left enclosing f words G
  from_loop known blocks_left [] f t h chars x = r.ends_loop h chars x
  from_loop known blocks_left (f' ∷ enclosing) f t h chars x = cc t

  from_set : (known : Option Bool) (blocks_left : ℕ) (enclosing : List (Frame LexerTerm)) (f : Frame LexerTerm) {words mid : List Word} {s : List (ℕ × ℕ)}
      {G : WrittenGrammar} →
      IsCharSet words s mid → SetRest d (lex_body known blocks_left enclosing f) s mid G → LexWithin d g name frag known blocks_left enclosing f words G
  from_set known blocks_left enclosing f chars (r.no_loop x) = r.goes_on (n.simple (n.char_set chars)) x
  from_set known blocks_left enclosing f chars (r.loop t x) = from_loop known blocks_left enclosing f t.0 t.1 chars x

  from_item : (known : Option Bool) (blocks_left : ℕ) (enclosing : List (Frame LexerTerm)) (f : Frame LexerTerm) {words : List Word} {G : WrittenGrammar} →
      ItemRest d (lex_body known blocks_left enclosing f) words G → LexWithin d g name frag known blocks_left enclosing f (w.Tilde ∷ words) G
  from_item known blocks_left enclosing f (alone (item i x)) = from_set known blocks_left enclosing f (n.but i) x
  from_item known blocks_left enclosing f {G = G} (listed (item {i = i} {mid = mid} h x)) =
      let back : (more : List (ℕ × ℕ)) × (end : List Word) × IsItems mid more end
      × SetRest d (lex_body known blocks_left enclosing f) (outside (i ++ more)) end G = items_back d (lex_body known blocks_left enclosing f) i x in
      from_set known blocks_left enclosing f (n.but_these h back.2) back.3

  from_literal : (known : Option Bool) (blocks_left : ℕ) (enclosing : List (Frame LexerTerm)) (f : Frame LexerTerm) {k : List ℕ} {words : List Word}
      {G : WrittenGrammar} →
      LiteralRest d (lex_body known blocks_left enclosing f) k words G → LexWithin d g name frag known blocks_left enclosing f (w.Literal k ∷ words) G
  from_literal known blocks_left enclosing f (r.LiteralRest.no_range x) = r.goes_on (n.simple n.literal) x
  from_literal known blocks_left enclosing f (r.LiteralRest.range h x) = r.goes_on (n.simple (n.range h)) x

  from_closed : (known : Option Bool) (blocks_left : ℕ) (enclosing : List (Frame LexerTerm)) (f : Frame LexerTerm) {words mid : List Word}
      {alts : List (List LexerTerm)} {G : WrittenGrammar} →
      IsLexAlts inner blocks_left words alts mid → LexCloses d g name frag known blocks_left (f ∷ enclosing) alts mid G
      → LexWithin d g name frag known (suc blocks_left) enclosing f (w.Open ∷ words) G
  from_closed known blocks_left enclosing f alts (r.block_ends x) = r.goes_on (n.block alts) x

  from_opened : (known : Option Bool) (blocks_left : ℕ) (enclosing : List (Frame LexerTerm)) (f : Frame LexerTerm) (words : List Word) (G : WrittenGrammar) →
      Goes d (lex_with_block (lex_body known blocks_left enclosing f) blocks_left) words G
      → LexWithin d g name frag known blocks_left enclosing f (w.Open ∷ words) G
  from_opened known zero enclosing f words G h = absurd h
  from_opened known (suc blocks_left) enclosing f words G h =
      let back : (alts : List (List LexerTerm)) × (mid : List Word) × IsLexAlts inner blocks_left words alts mid
      × LexCloses d g name frag known blocks_left (f ∷ enclosing) alts mid G = inner_back d g name frag h in
      from_closed known blocks_left enclosing f back.2 back.3

  pub sound_lex : (known : Option Bool) (blocks_left : ℕ) (enclosing : List (Frame LexerTerm)) (f : Frame LexerTerm) (word : Word) (words : List Word)
      (G : WrittenGrammar) →
      Goes d (step_lex (lex_body known blocks_left enclosing f) word) words G → LexWithin d g name frag known blocks_left enclosing f (word ∷ words) G
  sound_lex known blocks_left enclosing f (w.Literal k) words G h = from_literal known blocks_left enclosing f h
  sound_lex known blocks_left enclosing f (w.Upper k) words G h =
      with_no_eof d words G (is_eof k) (Some (m.AfterLexAtom (lex_body known blocks_left enclosing f) (LexerTerm.name k)))
      (LexWithin d g name frag known blocks_left enclosing f (w.Upper k ∷ words) G) (λ e x. r.goes_on (n.simple (n.name e)) x) h
  sound_lex known blocks_left enclosing f (w.Set ranges) words G h = from_set known blocks_left enclosing f n.set h
  sound_lex known blocks_left enclosing f w.Dot words G h = from_set known blocks_left enclosing f n.any h
  sound_lex known blocks_left enclosing f w.Tilde words G h = from_item known blocks_left enclosing f h
  sound_lex known blocks_left enclosing f w.Open words G h = from_opened known blocks_left enclosing f words G h
  sound_lex known blocks_left enclosing f word words G h = sound_lex_end known blocks_left enclosing f word words G h

  pub sound_lex_after : (known : Option Bool) (blocks_left : ℕ) (enclosing : List (Frame LexerTerm)) (f : Frame LexerTerm) (t : LexerTerm) (word : Word)
      (words : List Word) (G : WrittenGrammar) →
      Goes d (step_lex_after (lex_body known blocks_left enclosing f) t word) words G → LexAfter d g name frag known blocks_left enclosing f t (word ∷ words) G
  sound_lex_after known blocks_left enclosing f t w.Question words G h = r.after n.question h
  sound_lex_after known blocks_left enclosing f t w.Star words G h = r.after n.star h
  sound_lex_after known blocks_left enclosing f t w.Plus words G h = r.after n.plus h
  sound_lex_after known blocks_left enclosing f t word words G h = r.after n.bare (sound_lex known blocks_left enclosing (with_term f t) word words G h)

  from_range : (known : Option Bool) (blocks_left : ℕ) (enclosing : List (Frame LexerTerm)) (f : Frame LexerTerm) (k : List ℕ) (words : List Word)
      (G : WrittenGrammar) →
      Goes d (start_of_range (lex_body known blocks_left enclosing f) k) words G → LiteralRest d (lex_body known blocks_left enclosing f) k (w.Dots ∷ words) G
  from_range known blocks_left enclosing f [] words G h = absurd h
  from_range known blocks_left enclosing f (a ∷ []) words G (range_end h x) = r.LiteralRest.range h x
  from_range known blocks_left enclosing f (a ∷ (c ∷ cs)) words G h = absurd h

  pub sound_literal : (known : Option Bool) (blocks_left : ℕ) (enclosing : List (Frame LexerTerm)) (f : Frame LexerTerm) (k : List ℕ) (word : Word)
      (words : List Word) (G : WrittenGrammar) →
      Goes d (step_after_literal (lex_body known blocks_left enclosing f) k word) words G
      → LiteralRest d (lex_body known blocks_left enclosing f) k (word ∷ words) G
  sound_literal known blocks_left enclosing f k w.Dots words G h = from_range known blocks_left enclosing f k words G h
  sound_literal known blocks_left enclosing f k word words G h =
      r.LiteralRest.no_range (sound_lex_after known blocks_left enclosing f (LexerTerm.literal k) word words G h)

  from_star : (known : Option Bool) (blocks_left : ℕ) (enclosing : List (Frame LexerTerm)) (f : Frame LexerTerm) (s : List (ℕ × ℕ)) {words : List Word}
      {G : WrittenGrammar} →
      StarRest d (lex_body known blocks_left enclosing f) s words G → SetRest d (lex_body known blocks_left enclosing f) s (w.Star ∷ words) G
  from_star known blocks_left enclosing f s (greedy x) = r.no_loop (r.after n.star x)
  from_star known blocks_left enclosing f s (not_greedy t x) = r.loop t x

  pub sound_set : (known : Option Bool) (blocks_left : ℕ) (enclosing : List (Frame LexerTerm)) (f : Frame LexerTerm) (s : List (ℕ × ℕ)) (word : Word)
      (words : List Word) (G : WrittenGrammar) →
      Goes d (step_after_set (lex_body known blocks_left enclosing f) s word) words G → SetRest d (lex_body known blocks_left enclosing f) s (word ∷ words) G
  sound_set known blocks_left enclosing f s w.Star words G h = from_star known blocks_left enclosing f s h
  sound_set known blocks_left enclosing f s w.Question words G h = r.no_loop (r.after n.question h)
  sound_set known blocks_left enclosing f s w.Plus words G h = r.no_loop (r.after n.plus h)
  sound_set known blocks_left enclosing f s word words G h =
      r.no_loop (r.after n.bare (sound_lex known blocks_left enclosing (with_term f (LexerTerm.set s)) word words G h))

  from_looped : (known : Option Bool) (blocks_left : ℕ) (enclosing : List (Frame LexerTerm)) (f : Frame LexerTerm) (s : List (ℕ × ℕ)) (words : List Word)
      (G : WrittenGrammar) (b : LexBody) (fr : Bool) (P : Type 0) →
      (is_top enclosing ≡ true → fr ≡ false → LexLoopRest d b s words G → P) → Goes d (loop_end b s enclosing fr) words G → P
  from_looped known blocks_left [] f s words G b true P k h = absurd h
  from_looped known blocks_left [] f s words G b false P k h = k refl refl h
  from_looped known blocks_left (f' ∷ enclosing) f s words G b fr P k h = absurd h

  pub sound_star : (known : Option Bool) (blocks_left : ℕ) (enclosing : List (Frame LexerTerm)) (f : Frame LexerTerm) (s : List (ℕ × ℕ)) (word : Word)
      (words : List Word) (G : WrittenGrammar) →
      Goes d (step_after_set_star (lex_body known blocks_left enclosing f) s word) words G
      → StarRest d (lex_body known blocks_left enclosing f) s (word ∷ words) G
  sound_star known blocks_left enclosing f s w.Question words G h =
      from_looped known blocks_left enclosing f s words G (lex_body known blocks_left enclosing f) frag
      (StarRest d (lex_body known blocks_left enclosing f) s (w.Question ∷ words) G) (λ t e x. not_greedy (t, e) x) h
  sound_star known blocks_left enclosing f s word words G h =
      greedy (sound_lex known blocks_left enclosing (with_term f (LexerTerm.star (LexerTerm.set s))) word words G h)

  pub sound_loop : (known : Option Bool) (blocks_left : ℕ) (enclosing : List (Frame LexerTerm)) (f : Frame LexerTerm) (s : List (ℕ × ℕ)) (word : Word)
      (words : List Word) (G : WrittenGrammar) →
      Goes d (step_loop (lex_body known blocks_left enclosing f) s word) words G → LexLoop d g name frag known blocks_left f s (word ∷ words) G
  sound_loop known blocks_left enclosing f s (w.Literal k) words G h = loop_rest last_literal h
  sound_loop known blocks_left enclosing f s (w.Set ranges) words G h = loop_rest last_set h
  sound_loop known blocks_left enclosing f s _ words G h = absurd h

  -- what closes it
  pub alive_done : (known : Option Bool) (blocks_left : ℕ) (f : Frame LexerTerm) → (words : List Word) × (G : WrittenGrammar)
      × LexDone d g name frag known blocks_left f words G
  alive_done None blocks_left f =
      (w.Semicolon ∷ w.End ∷ [], with_rule g (lexer_rule name frag false (whole f)), done tt no_command (r.alts_end (r.rule_ends r.rules_end)))
  alive_done (Some false) blocks_left f =
      (w.Semicolon ∷ w.End ∷ [], with_rule g (lexer_rule name frag false (whole f)), done refl no_command (r.alts_end (r.rule_ends r.rules_end)))
  alive_done (Some true) blocks_left f = (
    w.Arrow ∷ w.Lower (chars (codes "skip")) ∷ w.Semicolon ∷ w.End ∷ [],
    with_rule g (lexer_rule name frag true (whole f)),
    done refl (n.skip (is_itself (chars (codes "skip")))) (r.alts_end (r.rule_ends r.rules_end)),
  )

  pub alive_lex : (known : Option Bool) (blocks_left : ℕ) (enclosing : List (Frame LexerTerm)) (f : Frame LexerTerm) → (words : List Word)
      × (G : WrittenGrammar) × LexWithin d g name frag known blocks_left enclosing f words G
  alive_lex known blocks_left [] f =
      let rest : (words : List Word) × (G : WrittenGrammar) × LexDone d g name frag known blocks_left f words G = alive_done known blocks_left f in
      (rest.0, rest.1, r.ends_plain rest.2)
  alive_lex known blocks_left (f' ∷ enclosing) f =
      let rest : (words : List Word) × (G : WrittenGrammar)
      × LexWithin d g name frag known (suc blocks_left) enclosing (with_term f' (LexerTerm.block (lexer_alts (whole f)))) words G =
      alive_lex known (suc blocks_left) enclosing (with_term f' (LexerTerm.block (lexer_alts (whole f)))) in
      (w.Close ∷ rest.0, rest.1, r.ends_inner (r.alts_end (r.block_ends (r.after n.bare rest.2))))

  pub alive_lex_after : (known : Option Bool) (blocks_left : ℕ) (enclosing : List (Frame LexerTerm)) (f : Frame LexerTerm) (t : LexerTerm) → (words : List Word)
      × (G : WrittenGrammar) × LexAfter d g name frag known blocks_left enclosing f t words G
  alive_lex_after known blocks_left enclosing f t =
      let rest : (words : List Word) × (G : WrittenGrammar) × LexWithin d g name frag known blocks_left enclosing (with_term f t) words G =
      alive_lex known blocks_left enclosing (with_term f t) in
      (rest.0, rest.1, r.after n.bare rest.2)

  pub alive_loop : (known : Option Bool) (blocks_left : ℕ) (f : Frame LexerTerm) (s : List (ℕ × ℕ)) → (words : List Word) × (G : WrittenGrammar)
      × LexLoop d g name frag known blocks_left f s words G
  alive_loop known blocks_left f s =
      let rest : (words : List Word) × (G : WrittenGrammar)
      × LexDone d g name frag known blocks_left (with_term (with_term f (LexerTerm.short s)) (LexerTerm.literal (120 ∷ []))) words G =
      alive_done known blocks_left (with_term (with_term f (LexerTerm.short s)) (LexerTerm.literal (120 ∷ []))) in
      (w.Literal (120 ∷ []) ∷ rest.0, rest.1, loop_rest last_literal rest.2)

abbrev pub Alive : (List Word → WrittenGrammar → Type 0) → Type 0
Alive P = (words : List Word) × (G : WrittenGrammar) × P words G

module _ (d : ℕ) (b : LexBody) where
  pub complete_range_end : (a : ℕ) {word : Word} {words : List Word} {G : WrittenGrammar} → RangeRest d b a (word ∷ words) G
      → Goes d (step_range_end b a word) words G
  complete_range_end a {words = words} {G = G} (range_end {c = c} h x) =
      provided_on d words G (nat_le a c) (m.AfterLexAtom b (LexerTerm.set (within ((a, c) ∷ [])))) (le-leb a c h) x

  ended_range : (a : ℕ) (k : List ℕ) (words : List Word) (G : WrittenGrammar)
      → Goes d (end_of_range (λ c. m.AfterLexAtom b (LexerTerm.set (within ((a, c) ∷ [])))) a k) words G → RangeRest d b a (w.Literal k ∷ words) G
  ended_range a [] words G h = absurd h
  ended_range a (c ∷ []) words G h =
      from_provided d words G (nat_le a c) (m.AfterLexAtom b (LexerTerm.set (within ((a, c) ∷ [])))) (RangeRest d b a (w.Literal (c ∷ []) ∷ words) G)
      (λ e x. range_end (leb-true a c e) x) h
  ended_range a (c ∷ (e ∷ es)) words G h = absurd h

  pub sound_range_end : (a : ℕ) (word : Word) (words : List Word) (G : WrittenGrammar) → Goes d (step_range_end b a word) words G
      → RangeRest d b a (word ∷ words) G
  sound_range_end a (w.Literal k) words G h = ended_range a k words G h
  sound_range_end a _ words G h = absurd h

  placed_on : (p : ItemPosition) (i : List (ℕ × ℕ)) (words : List Word) (G : WrittenGrammar) → AfterItemRest d b p i words G → Rest d (after_item b p i) words G
  placed_on Alone i words G x = x
  placed_on (Listed ranges) i words G x = x

  placed_off : (p : ItemPosition) (i : List (ℕ × ℕ)) (words : List Word) (G : WrittenGrammar) → Rest d (after_item b p i) words G
      → AfterItemRest d b p i words G
  placed_off Alone i words G x = x
  placed_off (Listed ranges) i words G x = x

  pub complete_item_in : (p : ItemPosition) {word : Word} {words : List Word} {G : WrittenGrammar} → PlacedItem d b p (word ∷ words) G
      → Goes d (step_item_in b p word) words G
  complete_item_in p {words = words} {G = G} (item {i = i} item_set x) = placed_on p i words G x
  complete_item_in p (item item_char x) = r.ItemCharRest.no_range x
  complete_item_in p (item (item_range h) x) = r.ItemCharRest.range h x

  alone_on : (word : Word) (words : List Word) (G : WrittenGrammar) → Goes d (step_item_in b Alone word) words G → Goes d (step_item b word) words G
  alone_on w.Open words G h = absurd h
  alone_on _ words G h = h

  pub complete_item : {word : Word} {words : List Word} {G : WrittenGrammar} → ItemRest d b (word ∷ words) G → Goes d (step_item b word) words G
  complete_item {word} {words} {G} (alone x) = alone_on word words G (complete_item_in Alone x)
  complete_item (listed x) = x

  pub complete_after_item : (ranges : List (ℕ × ℕ)) {word : Word} {words : List Word} {G : WrittenGrammar} → ItemsRest d b ranges (word ∷ words) G
      → Goes d (step_after_item b ranges word) words G
  complete_after_item ranges (r.items_end x) = x
  complete_after_item ranges (r.items_go_on (item_in i x)) = item i x

  pub complete_item_end : (p : ItemPosition) (a : ℕ) {word : Word} {words : List Word} {G : WrittenGrammar} → ItemEndRest d b p a (word ∷ words) G
      → Goes d (step_item_end b p a word) words G
  complete_item_end p a {words = words} {G = G} (item_end {c = c} h x) =
      provided_on d words G (nat_le a c) (after_item b p ((a, c) ∷ [])) (le-leb a c h) (placed_on p ((a, c) ∷ []) words G x)

  begun_item : (p : ItemPosition) (k : List ℕ) (words : List Word) (G : WrittenGrammar) → Goes d (one_char b p k) words G
      → PlacedItem d b p (w.Literal k ∷ words) G
  begun_item p [] words G h = absurd h
  begun_item p (c ∷ []) words G (r.ItemCharRest.no_range x) = item item_char x
  begun_item p (c ∷ []) words G (r.ItemCharRest.range h x) = item (item_range h) x
  begun_item p (c ∷ (e ∷ es)) words G h = absurd h

  pub sound_item_in : (p : ItemPosition) (word : Word) (words : List Word) (G : WrittenGrammar) → Goes d (step_item_in b p word) words G
      → PlacedItem d b p (word ∷ words) G
  sound_item_in p (w.Set ranges) words G h = item item_set (placed_off p ranges words G h)
  sound_item_in p (w.Literal k) words G h = begun_item p k words G h
  sound_item_in p _ words G h = absurd h

  pub sound_item : (word : Word) (words : List Word) (G : WrittenGrammar) → Goes d (step_item b word) words G → ItemRest d b (word ∷ words) G
  sound_item w.Open words G h = listed h
  sound_item word words G h = alone (sound_item_in Alone word words G h)

  next_item : (ranges : List (ℕ × ℕ)) {words : List Word} {G : WrittenGrammar} → PlacedItem d b (Listed ranges) words G → ItemInRest d b ranges words G
  next_item ranges (item i x) = item_in i x

  pub sound_after_item : (ranges : List (ℕ × ℕ)) (word : Word) (words : List Word) (G : WrittenGrammar) → Goes d (step_after_item b ranges word) words G
      → ItemsRest d b ranges (word ∷ words) G
  sound_after_item ranges w.Bar words G h = r.items_go_on (next_item ranges h)
  sound_after_item ranges w.Close words G h = r.items_end h
  sound_after_item ranges _ words G h = absurd h

  ended_item : (p : ItemPosition) (a : ℕ) (k : List ℕ) (words : List Word) (G : WrittenGrammar)
      → Goes d (end_of_range (λ c. after_item b p ((a, c) ∷ [])) a k) words G → ItemEndRest d b p a (w.Literal k ∷ words) G
  ended_item p a [] words G h = absurd h
  ended_item p a (c ∷ []) words G h =
      from_provided d words G (nat_le a c) (after_item b p ((a, c) ∷ [])) (ItemEndRest d b p a (w.Literal (c ∷ []) ∷ words) G)
      (λ e x. item_end (leb-true a c e) (placed_off p ((a, c) ∷ []) words G x)) h
  ended_item p a (c ∷ (e ∷ es)) words G h = absurd h

  pub sound_item_end : (p : ItemPosition) (a : ℕ) (word : Word) (words : List Word) (G : WrittenGrammar) → Goes d (step_item_end b p a word) words G
      → ItemEndRest d b p a (word ∷ words) G
  sound_item_end p a (w.Literal k) words G h = ended_item p a k words G h
  sound_item_end p a _ words G h = absurd h

  -- commands
  skipped : (k : List ℕ) (words : List Word) (G : WrittenGrammar) (t : Bool) → t ≡ true → CommandedRest d b words G
      → Goes d (cond t (Some (m.AfterCommand b)) (provided (is k "channel") (m.AtChannelOpen b))) words G
  skipped k words G true e x = x
  skipped k words G false e x = cc e

  channelled : (k : List ℕ) (words : List Word) (G : WrittenGrammar) (t : Bool) → is k "skip" ≡ t → is k "channel" ≡ true → ChannelOpenRest d b words G →
      Goes d (cond t (Some (m.AfterCommand b)) (provided (is k "channel") (m.AtChannelOpen b))) words G
  channelled k words G true e h x = absurd (not_both k e h)
  channelled k words G false e h x = provided_on d words G (is k "channel") (m.AtChannelOpen b) h x

  pub complete_command : {word : Word} {words : List Word} {G : WrittenGrammar} → CommandRest d b (word ∷ words) G → Goes d (step_command b word) words G
  complete_command {words = words} {G = G} (r.skip {n = k} h x) = skipped k words G (is k "skip") h x
  complete_command {words = words} {G = G} (r.channel {n = k} h x) = channelled k words G (is k "skip") refl h x

  command_read : (k : List ℕ) (words : List Word) (G : WrittenGrammar) (t : Bool) → is k "skip" ≡ t
      → Goes d (cond t (Some (m.AfterCommand b)) (provided (is k "channel") (m.AtChannelOpen b))) words G → CommandRest d b (w.Lower k ∷ words) G
  command_read k words G true e h = r.skip e h
  command_read k words G false e h =
      from_provided d words G (is k "channel") (m.AtChannelOpen b) (CommandRest d b (w.Lower k ∷ words) G) (λ c x. r.channel c x) h

  pub sound_command : (word : Word) (words : List Word) (G : WrittenGrammar) → Goes d (step_command b word) words G → CommandRest d b (word ∷ words) G
  sound_command (w.Lower k) words G h = command_read k words G (is k "skip") refl h
  sound_command _ words G h = absurd h

  pub complete_channel_open : {word : Word} {words : List Word} {G : WrittenGrammar} → ChannelOpenRest d b (word ∷ words) G
      → Goes d (step_channel_open b word) words G
  complete_channel_open (channel_open x) = x

  pub complete_channel_name : {word : Word} {words : List Word} {G : WrittenGrammar} → ChannelNameRest d b (word ∷ words) G
      → Goes d (step_channel_name b word) words G
  complete_channel_name {words = words} {G = G} (channel_name {n = k} h x) = provided_on d words G (is k "HIDDEN") (m.AtChannelClose b) h x

  pub complete_channel_close : {word : Word} {words : List Word} {G : WrittenGrammar} → ChannelCloseRest d b (word ∷ words) G
      → Goes d (step_channel_close b word) words G
  complete_channel_close (channel_close x) = x

  pub sound_channel_open : (word : Word) (words : List Word) (G : WrittenGrammar) → Goes d (step_channel_open b word) words G
      → ChannelOpenRest d b (word ∷ words) G
  sound_channel_open w.Open words G h = channel_open h
  sound_channel_open _ words G h = absurd h

  pub sound_channel_name : (word : Word) (words : List Word) (G : WrittenGrammar) → Goes d (step_channel_name b word) words G
      → ChannelNameRest d b (word ∷ words) G
  sound_channel_name (w.Upper k) words G h =
      from_provided d words G (is k "HIDDEN") (m.AtChannelClose b) (ChannelNameRest d b (w.Upper k ∷ words) G) (λ e x. channel_name e x) h
  sound_channel_name _ words G h = absurd h

  pub sound_channel_close : (word : Word) (words : List Word) (G : WrittenGrammar) → Goes d (step_channel_close b word) words G
      → ChannelCloseRest d b (word ∷ words) G
  sound_channel_close w.Close words G h = channel_close h
  sound_channel_close _ words G h = absurd h

  pub complete_after_command : {word : Word} {words : List Word} {G : WrittenGrammar} → CommandedRest d b (word ∷ words) G
      → Goes d (step_after_command b word) words G
  complete_after_command (r.alts_end (r.rule_ends x)) = x
  complete_after_command (r.alts_go_on x) = x

  pub sound_after_command : (word : Word) (words : List Word) (G : WrittenGrammar) → Goes d (step_after_command b word) words G
      → CommandedRest d b (word ∷ words) G
  sound_after_command w.Bar words G h = r.alts_go_on h
  sound_after_command w.Semicolon words G h = r.alts_end (r.rule_ends h)
  sound_after_command _ words G h = absurd h

  pub alive_commanded : Alive (CommandedRest d b)
  alive_commanded = (w.Semicolon ∷ w.End ∷ [], with_rule b.text (lexer_rule b.name b.fragment true (whole b.current)), r.alts_end (r.rule_ends r.rules_end))

  pub alive_channel_close : Alive (ChannelCloseRest d b)
  alive_channel_close = (w.Close ∷ alive_commanded.0, alive_commanded.1, channel_close alive_commanded.2)

  pub alive_channel_name : Alive (ChannelNameRest d b)
  alive_channel_name =
      (w.Upper (chars (codes "HIDDEN")) ∷ alive_channel_close.0, alive_channel_close.1, channel_name (is_itself (chars (codes "HIDDEN"))) alive_channel_close.2)

  pub alive_channel_open : Alive (ChannelOpenRest d b)
  alive_channel_open = (w.Open ∷ alive_channel_name.0, alive_channel_name.1, channel_open alive_channel_name.2)

  pub alive_command : Alive (CommandRest d b)
  alive_command = (w.Lower (chars (codes "skip")) ∷ alive_commanded.0, alive_commanded.1, r.skip (is_itself (chars (codes "skip"))) alive_commanded.2)

  after_alive : (t : LexerTerm) → Alive (LexAfterRest d b t)
  after_alive t = alive_lex_after d b.text b.name b.fragment b.known b.blocks_left b.enclosing b.current t

  pub alive_literal : (k : List ℕ) → Alive (LiteralRest d b k)
  alive_literal k = let rest : Alive (LexAfterRest d b (LexerTerm.literal k)) =
      after_alive (LexerTerm.literal k) in (rest.0, rest.1, r.LiteralRest.no_range rest.2)

  pub alive_range : (a : ℕ) → Alive (RangeRest d b a)
  alive_range a =
      let rest : Alive (LexAfterRest d b (LexerTerm.set (within ((a, a) ∷ [])))) = after_alive (LexerTerm.set (within ((a, a) ∷ []))) in
      (w.Literal (a ∷ []) ∷ rest.0, rest.1, range_end (omega arith) rest.2)

  pub alive_set : (s : List (ℕ × ℕ)) → Alive (SetRest d b s)
  alive_set s = let rest : Alive (LexAfterRest d b (LexerTerm.set s)) = after_alive (LexerTerm.set s) in (rest.0, rest.1, r.no_loop rest.2)

  pub alive_star : (s : List (ℕ × ℕ)) → Alive (StarRest d b s)
  alive_star s =
      let f : Frame LexerTerm = with_term b.current (LexerTerm.star (LexerTerm.set s)) in
      let rest : Alive (LexWithin d b.text b.name b.fragment b.known b.blocks_left b.enclosing f) =
      alive_lex d b.text b.name b.fragment b.known b.blocks_left b.enclosing f in
      (rest.0, rest.1, greedy rest.2)

  pub alive_items : (ranges : List (ℕ × ℕ)) → Alive (ItemsRest d b ranges)
  alive_items ranges = let rest : Alive (SetRest d b (outside ranges)) = alive_set (outside ranges) in (w.Close ∷ rest.0, rest.1, r.items_end rest.2)

  alive_after_item : (p : ItemPosition) (i : List (ℕ × ℕ)) → Alive (AfterItemRest d b p i)
  alive_after_item Alone i = alive_set (outside i)
  alive_after_item (Listed ranges) i = alive_items (ranges ++ i)

  pub alive_item_in : (p : ItemPosition) → Alive (PlacedItem d b p)
  alive_item_in p = let rest : Alive (AfterItemRest d b p ((120, 120) ∷ [])) =
      alive_after_item p ((120, 120) ∷ []) in (w.Literal (120 ∷ []) ∷ rest.0, rest.1, item item_char rest.2)

  pub alive_item : Alive (ItemRest d b)
  alive_item = let rest : Alive (PlacedItem d b Alone) = alive_item_in Alone in (rest.0, rest.1, alone rest.2)

  pub alive_item_char : (p : ItemPosition) (a : ℕ) → Alive (ItemCharRest d b p a)
  alive_item_char p a = let rest : Alive (AfterItemRest d b p ((a, a) ∷ [])) =
      alive_after_item p ((a, a) ∷ []) in (rest.0, rest.1, r.ItemCharRest.no_range rest.2)

  pub alive_item_end : (p : ItemPosition) (a : ℕ) → Alive (ItemEndRest d b p a)
  alive_item_end p a =
      let rest : Alive (AfterItemRest d b p ((a, a) ∷ [])) = alive_after_item p ((a, a) ∷ []) in
      (w.Literal (a ∷ []) ∷ rest.0, rest.1, item_end (omega arith) rest.2)

module _ (d : ℕ) (g : WrittenGrammar) (name : List ℕ) (frag : Bool) where
  one_on : (known : Option Bool) (blocks_left : ℕ) (enclosing : List (Frame LexerTerm)) (f : Frame LexerTerm) (p : ItemPosition) (c : ℕ) (word : Word)
      (words : List Word) (G : WrittenGrammar) →
      Goes d (step_after_one (lex_body d g name frag known blocks_left enclosing f) p ((c, c) ∷ []) word) words G
      → Goes d (step_after_item_char (lex_body d g name frag known blocks_left enclosing f) p c word) words G
  one_on known blocks_left enclosing f Alone c w.Dots words G h =
      absurd (no_dots d g name frag known blocks_left enclosing (with_term f (LexerTerm.set (outside ((c, c) ∷ [])))) words G h)
  one_on known blocks_left enclosing f (Listed ranges) c w.Dots words G h = absurd h
  one_on known blocks_left enclosing f p c _ words G h = h

  complete_one : (known : Option Bool) (blocks_left : ℕ) (enclosing : List (Frame LexerTerm)) (f : Frame LexerTerm) (p : ItemPosition) (i : List (ℕ × ℕ))
      (word : Word) (words : List Word) (G : WrittenGrammar) →
      AfterItemRest d (lex_body d g name frag known blocks_left enclosing f) p i (word ∷ words) G
      → Goes d (step_after_one (lex_body d g name frag known blocks_left enclosing f) p i word) words G
  complete_one known blocks_left enclosing f Alone i word words G x = complete_set d g name frag known blocks_left enclosing f (outside i) x
  complete_one known blocks_left enclosing f (Listed ranges) i word words G x =
      complete_after_item d (lex_body d g name frag known blocks_left enclosing f) (ranges ++ i) x

  pub complete_item_char : (known : Option Bool) (blocks_left : ℕ) (enclosing : List (Frame LexerTerm)) (f : Frame LexerTerm) (p : ItemPosition) (a : ℕ)
      {word : Word} {words : List Word} {G : WrittenGrammar} →
      ItemCharRest d (lex_body d g name frag known blocks_left enclosing f) p a (word ∷ words) G
      → Goes d (step_after_item_char (lex_body d g name frag known blocks_left enclosing f) p a word) words G
  complete_item_char known blocks_left enclosing f p a {word} {words} {G} (r.ItemCharRest.no_range x) =
      one_on known blocks_left enclosing f p a word words G (complete_one known blocks_left enclosing f p ((a, a) ∷ []) word words G x)
  complete_item_char known blocks_left enclosing f p a (r.ItemCharRest.range h x) = item_end h x

  sound_one : (known : Option Bool) (blocks_left : ℕ) (enclosing : List (Frame LexerTerm)) (f : Frame LexerTerm) (p : ItemPosition) (i : List (ℕ × ℕ))
      (word : Word) (words : List Word) (G : WrittenGrammar) →
      Goes d (step_after_one (lex_body d g name frag known blocks_left enclosing f) p i word) words G
      → AfterItemRest d (lex_body d g name frag known blocks_left enclosing f) p i (word ∷ words) G
  sound_one known blocks_left enclosing f Alone i word words G h = sound_set d g name frag known blocks_left enclosing f (outside i) word words G h
  sound_one known blocks_left enclosing f (Listed ranges) i word words G h =
      sound_after_item d (lex_body d g name frag known blocks_left enclosing f) (ranges ++ i) word words G h

  from_item_end : (b : LexBody) (p : ItemPosition) (a : ℕ) {words : List Word} {G : WrittenGrammar} → ItemEndRest d b p a words G
      → ItemCharRest d b p a (w.Dots ∷ words) G
  from_item_end b p a (item_end h x) = r.ItemCharRest.range h x

  pub sound_item_char : (known : Option Bool) (blocks_left : ℕ) (enclosing : List (Frame LexerTerm)) (f : Frame LexerTerm) (p : ItemPosition) (a : ℕ)
      (word : Word) (words : List Word) (G : WrittenGrammar) →
      Goes d (step_after_item_char (lex_body d g name frag known blocks_left enclosing f) p a word) words G
      → ItemCharRest d (lex_body d g name frag known blocks_left enclosing f) p a (word ∷ words) G
  sound_item_char known blocks_left enclosing f p a w.Dots words G h = from_item_end (lex_body d g name frag known blocks_left enclosing f) p a h
  sound_item_char known blocks_left enclosing f p a word words G h =
      r.ItemCharRest.no_range (sound_one known blocks_left enclosing f p ((a, a) ∷ []) word words G h)
