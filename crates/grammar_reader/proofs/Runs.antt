-- From single words to texts.
use Rattle.std.proofs.Common.{ℕ, List, [], ◌∷◌, ◌++◌, ◌≡◌, Option, Some, None, refl, sym, ap, subst, ◌∙◌, append-nil}
use Rattle.grammar_tree.specs.Written.{WrittenGrammar, LexerTerm}
use Rattle.grammar_reader_words.specs.declared.word.Word.{Word}
use Rattle.grammar_reader_words.specs.declared.word.Word.TheVariants as w
use Rattle.grammar_reader_notation.specs.Sets.{outside}
use Rattle.grammar_reader_machine.specs.Machine as m
use Rattle.grammar_reader_notation.specs.Notation.{IsTextOf, BeginsOf}
use Rattle.grammar_reader_machine.specs.Machine.{State, AtStart, AtEnd, step}
use Rattle.grammar_reader.specs.WordByWord.{run, and_then}
use Rattle.grammar_reader.proofs.Rest.{Rest, Goes}
use Rattle.grammar_reader.proofs.LexerSteps.{Alive}
use Rattle.grammar_reader.proofs.WordSteps.{sound, complete, alive}

module _ (d : ℕ) where
  over : (words more : List Word) {G : WrittenGrammar} (o : Option State) → ((s : State) → Goes d (run d s words) more G → Rest d s (words ++ more) G)
      → Goes d (and_then o (λ s. run d s words)) more G → Goes d o (words ++ more) G
  over words more None k h = absurd h
  over words more (Some s) k h = k s h

  under : (words more : List Word) {G : WrittenGrammar} (o : Option State) → ((s : State) → Rest d s (words ++ more) G → Goes d (run d s words) more G)
      → Goes d o (words ++ more) G → Goes d (and_then o (λ s. run d s words)) more G
  under words more None k h = absurd h
  under words more (Some s) k h = k s h

  pub run_sound : (s : State) (words more : List Word) (G : WrittenGrammar) → Goes d (run d s words) more G → Rest d s (words ++ more) G
  run_sound s [] more G h = h
  run_sound s (w ∷ words) more G h = sound d s w (words ++ more) G (over words more (step d s w) (λ t. run_sound t words more G) h)

  pub run_complete : (s : State) (words more : List Word) (G : WrittenGrammar) → Rest d s (words ++ more) G → Goes d (run d s words) more G
  run_complete s [] more G h = h
  run_complete s (w ∷ words) more G h = under words more (step d s w) (λ t. run_complete t words more G) (complete d s w (words ++ more) G h)

  alive_some : (o : Option State) (s : State) → o ≡ Some s → Alive (Goes d o)
  alive_some None s e = cc
  alive_some (Some t) s e = alive d t

  -- what the machine has read begins a text
  pub reached : (s : State) (words : List Word) → run d AtStart words ≡ Some s → BeginsOf d words
  reached s words e =
      let rest : Alive (Goes d (run d AtStart words)) = alive_some (run d AtStart words) s e in
      (rest.0, rest.1, run_sound AtStart words rest.0 rest.1 rest.2)

  -- what it stops at doesn't
  pub stuck : (words : List Word) → run d AtStart words ≡ None → BeginsOf d words → ⊥
  stuck words e b = subst (λ o. Goes d o b.0 b.1) e (run_complete AtStart words b.0 b.1 b.2)

  -- a text that is read to its end, and a text
  pub accepts : (words : List Word) (G : WrittenGrammar) → run d AtStart words ≡ Some (AtEnd G) → IsTextOf d words G
  accepts words G e =
      subst (λ ws. IsTextOf d ws G) (append-nil words) (run_sound AtStart words [] G (subst (λ o. Goes d o [] G) (sym e) (refl, refl)))

  -- at the end of the text only a text's end can follow
  abbrev pub EndsText : Option State → Type 0
  EndsText None = Unit {0}
  EndsText (Some t) = (G : WrittenGrammar) × (t ≡ AtEnd G)

  end_at_value : (v : m.ValueOf) → EndsText (m.step_after_value v w.End)
  end_at_value (m.InEntry g o) = tt
  end_at_value (m.InOpening b) = tt

  end_in_lex : (b : m.LexBody) (enclosing : List (m.Frame LexerTerm)) → EndsText (m.step_lex_end b enclosing w.End)
  end_in_lex b [] = tt
  end_in_lex b (f ∷ enclosing) = tt

  end_after_one : (b : m.LexBody) (p : m.ItemPosition) (i : List (ℕ × ℕ)) → EndsText (m.step_after_one b p i w.End)
  end_after_one b m.Alone i = end_in_lex (m.lex_add b (LexerTerm.set (outside i))) b.enclosing
  end_after_one b (m.Listed ranges) i = tt

  pub end_step : (s : State) → EndsText (step d s w.End)
  end_step (m.AtPrequel g) = (g, refl)
  end_step (m.AtRule g) = (g, refl)
  end_step (m.InPath v) = end_at_value v
  end_step (m.AfterValue v) = end_at_value v
  end_step (m.InLex b) = end_in_lex b b.enclosing
  end_step (m.LexSuffixed b) = end_in_lex b b.enclosing
  end_step (m.AfterLexAtom b t) = end_in_lex (m.lex_add b t) b.enclosing
  end_step (m.AfterLiteral b k) = end_in_lex (m.lex_add b (LexerTerm.literal k)) b.enclosing
  end_step (m.AfterSet b s) = end_in_lex (m.lex_add b (LexerTerm.set s)) b.enclosing
  end_step (m.AfterSetStar b s) = end_in_lex (m.lex_add b (LexerTerm.star (LexerTerm.set s))) b.enclosing
  end_step (m.AfterItemChar b p c) = end_after_one b p ((c, c) ∷ [])
  end_step _ = tt

  ended : (G : WrittenGrammar) (o : Option State) → EndsText o → Goes d o [] G → o ≡ Some (AtEnd G)
  ended G None e h = absurd h
  ended G (Some t) e h =
      let rest : Rest d (AtEnd e.0) [] G = subst (λ s. Rest d s [] G) e.1 h in
      ap (λ s. Some s) (e.1 ∙ ap (λ g. AtEnd g) (sym rest.1))

  one_more : (s : State) (words : List Word) (word : Word) → run d s (words ++ word ∷ []) ≡ and_then (run d s words) (λ t. step d t word)
  one_more s [] word = last (step d s word) where
    last : (o : Option State) → and_then o (λ t. Some t) ≡ o
    last None = refl
    last (Some t) = refl
  one_more s (x ∷ words) word = spread (step d s x) (λ t. one_more t words word) where
    spread : (o : Option State) → ((t : State) → run d t (words ++ word ∷ []) ≡ and_then (run d t words) (λ t. step d t word)) →
        and_then o (λ t. run d t (words ++ word ∷ [])) ≡ and_then (and_then o (λ t. run d t words)) (λ t. step d t word)
    spread None k = refl
    spread (Some t) k = k t

  -- one word further
  pub further : (before : List Word) (word : Word) (s : State) (o : Option State) → run d AtStart before ≡ Some s → step d s word ≡ o
      → run d AtStart (before ++ word ∷ []) ≡ o
  further before word s o e f = one_more AtStart before word ∙ ap (λ o. and_then o (λ t. step d t word)) e ∙ f

  -- a text gives the grammar that the reader ends with
  pub accepted : (before : List Word) (s : State) (G : WrittenGrammar) → run d AtStart before ≡ Some s → IsTextOf d (before ++ w.End ∷ []) G
      → step d s w.End ≡ Some (AtEnd G)
  accepted before s G e t =
      let whole : List Word = before ++ w.End ∷ [] in
      let rest : Goes d (run d AtStart whole) [] G = run_complete AtStart whole [] G (subst (λ ws. IsTextOf d ws G) (sym (append-nil whole)) t) in
      let same : run d AtStart whole ≡ step d s w.End = further before w.End s (step d s w.End) e refl in
      ended G (step d s w.End) (end_step s) (subst (λ o. Goes d o [] G) same rest)
