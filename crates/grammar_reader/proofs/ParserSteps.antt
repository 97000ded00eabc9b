-- In parser rules, each word goes one step on in what may still come, both ways; and every state can be completed.
use Rattle.std.proofs.Common.{ℕ, zero, suc, ◌≡◌, Bool, true, false, cond, List, [], ◌∷◌, ◌++◌, Option, Some, None, refl}
use Rattle.grammar_tree.specs.Written.{Reference, WrittenTerm, WrittenGrammar, written_alts}
use Rattle.grammar_reader_words.specs.declared.word.Word.{Word}
use Rattle.grammar_reader_words.specs.declared.word.Word.TheVariants as w
use Rattle.grammar_reader_notation.specs.Notation.{IsName, is_eof, IsRef, ref_literal, ref_name, IsRefs, IsSuffixed, IsLabel}
use Rattle.grammar_reader_notation.specs.Notation.{IsOpening, IsAltName, IsAtom, IsAlts, parser_rule}
use Rattle.grammar_reader_notation.specs.Notation as n
use Rattle.grammar_reader_machine.specs.Machine.{Frame, with_term, whole, next_alt, fresh, Body, ValueOf, InOpening, State, with_rule, add, with_block}
use Rattle.grammar_reader_machine.specs.Machine.{block_end, rule_end, before_alternative_name, step_alt_end, step_atom, step_elements, step_after}
use Rattle.grammar_reader_machine.specs.Machine.{step_after_name, step_alt, step_opening_name, step_opening_equals, step_ref, step_ref_in, step_after_ref}
use Rattle.grammar_reader_machine.specs.Machine.{step_alt_name}
use Rattle.grammar_reader_machine.specs.Machine as m
use Rattle.grammar_reader.proofs.Rest.{RulesRest, is_top, Closes, AltEnd, Opens, opens, Within, After, AtomRest, atom, AfterRest, WithinRest, AltEndRest}
use Rattle.grammar_reader.proofs.Rest.{NameRest, RefInRest, ref_in, RefsRest, RefRest, AltNameRest, OpeningNameRest, EqualsRest, Goes}
use Rattle.grammar_reader.proofs.Rest as r
use Rattle.grammar_reader.proofs.Unroll.{alts_in, alts_back, refs_in, refs_back}

-- where a name isn't `EOF`
pub not_eof : (d : ℕ) (words : List Word) (G : WrittenGrammar) (b : Bool) (o : Option State) → b ≡ false → Goes d o words G → Goes d (cond b None o) words G
not_eof d words G true o e h = cc e
not_eof d words G false o e h = h

pub with_no_eof : (d : ℕ) (words : List Word) (G : WrittenGrammar) (b : Bool) (o : Option State) (P : Type 0) → (b ≡ false → Goes d o words G → P)
    → Goes d (cond b None o) words G → P
with_no_eof d words G true o P k h = absurd h
with_no_eof d words G false o P k h = k refl h

module _ (d : ℕ) (g : WrittenGrammar) (name : List ℕ) where
  abbrev body : ℕ → List (Frame WrittenTerm) → Frame WrittenTerm → Body
  body blocks_left enclosing f = record { text = g; name = name; blocks_left = blocks_left; enclosing = enclosing; current = f }

  pub complete_alt_end : (blocks_left : ℕ) (enclosing : List (Frame WrittenTerm)) (f : Frame WrittenTerm) {word : Word} {words : List Word} {G : WrittenGrammar}
      →
      AltEnd d g name blocks_left enclosing f (word ∷ words) G → Goes d (step_alt_end (body blocks_left enclosing f) word) words G
  complete_alt_end blocks_left enclosing f (r.alts_end (r.rule_ends x)) = x
  complete_alt_end blocks_left enclosing f (r.alts_end (r.block_ends x)) = x
  complete_alt_end blocks_left enclosing f (r.alts_go_on x) = x

  end_in_elements : (blocks_left : ℕ) (enclosing : List (Frame WrittenTerm)) (f : Frame WrittenTerm) (word : Word) (words : List Word) (G : WrittenGrammar) →
      Goes d (step_alt_end (body blocks_left enclosing f) word) words G → Goes d (step_elements (body blocks_left enclosing f) word) words G
  end_in_elements blocks_left enclosing f (w.Literal n) words G h = absurd h
  end_in_elements blocks_left enclosing f (w.Upper n) words G h = absurd h
  end_in_elements blocks_left enclosing f (w.Lower n) words G h = absurd h
  end_in_elements blocks_left enclosing f w.Dot words G h = absurd h
  end_in_elements blocks_left enclosing f w.Tilde words G h = absurd h
  end_in_elements blocks_left enclosing f w.Open words G h = absurd h
  end_in_elements blocks_left enclosing f w.Hash words G h = absurd h
  end_in_elements blocks_left enclosing f _ words G h = h

  simple_on : (blocks_left : ℕ) (enclosing : List (Frame WrittenTerm)) (f : Frame WrittenTerm) {word : Word} {words mid : List Word} {a : WrittenTerm}
      {G : WrittenGrammar} →
      n.IsSimple (word ∷ words) a mid → After d g name blocks_left enclosing f a mid G → Goes d (step_elements (body blocks_left enclosing f) word) words G
  simple_on blocks_left enclosing f n.literal x = x
  simple_on blocks_left enclosing f n.upper x = r.no_label x
  simple_on blocks_left enclosing f n.lower x = r.no_label x
  simple_on blocks_left enclosing f n.dot x = x
  simple_on blocks_left enclosing f (n.but h) x = r.ref h x
  simple_on blocks_left enclosing f (n.but_these {r = q} h i) x = r.refs (ref_in h (refs_in d (body blocks_left enclosing f) (q ∷ []) i x))

  atom_on : (blocks_left : ℕ) (enclosing : List (Frame WrittenTerm)) (f : Frame WrittenTerm) {word : Word} {words mid : List Word} {a : WrittenTerm}
      {G : WrittenGrammar} →
      IsAtom blocks_left (word ∷ words) a mid → After d g name blocks_left enclosing f a mid G
      → Goes d (step_elements (body blocks_left enclosing f) word) words G
  atom_on blocks_left enclosing f (n.simple s) x = simple_on blocks_left enclosing f s x
  atom_on blocks_left enclosing f (n.block alts) x = alts_in d g name [] alts refl (r.block_ends x)

  labelled_on : (blocks_left : ℕ) (enclosing : List (Frame WrittenTerm)) (f : Frame WrittenTerm) {word : Word} {words labelled mid : List Word}
      {a : WrittenTerm} {G : WrittenGrammar} →
      IsLabel (word ∷ words) labelled → IsAtom blocks_left labelled a mid → After d g name blocks_left enclosing f a mid G
      → Goes d (step_elements (body blocks_left enclosing f) word) words G
  labelled_on blocks_left enclosing f n.no_label a x = atom_on blocks_left enclosing f a x
  labelled_on blocks_left enclosing f (n.label n.upper) a x = r.label (atom a x)
  labelled_on blocks_left enclosing f (n.label n.lower) a x = r.label (atom a x)
  labelled_on blocks_left enclosing f (n.list_label n.upper) a x = r.list_label (atom a x)
  labelled_on blocks_left enclosing f (n.list_label n.lower) a x = r.list_label (atom a x)

  pub complete_elements : (blocks_left : ℕ) (enclosing : List (Frame WrittenTerm)) (f : Frame WrittenTerm) {word : Word} {words : List Word}
      {G : WrittenGrammar} →
      Within d g name blocks_left enclosing f (word ∷ words) G → Goes d (step_elements (body blocks_left enclosing f) word) words G
  complete_elements blocks_left enclosing f (r.goes_on l a x) = labelled_on blocks_left enclosing f l a x
  complete_elements blocks_left [] f {word} {words} {G} (r.ends n.no_name e) =
      end_in_elements blocks_left [] f word words G (complete_alt_end blocks_left [] f e)
  complete_elements blocks_left [] f (r.ends (n.alt_name i) e) = r.alt_name i e
  complete_elements blocks_left (f' ∷ enclosing) f {word} {words} {G} (r.ends n.no_name e) =
      end_in_elements blocks_left (f' ∷ enclosing) f word words G (complete_alt_end blocks_left (f' ∷ enclosing) f e)

  simple_at : (blocks_left : ℕ) (enclosing : List (Frame WrittenTerm)) (f : Frame WrittenTerm) {word : Word} {words mid : List Word} {a : WrittenTerm}
      {G : WrittenGrammar} →
      n.IsSimple (word ∷ words) a mid → After d g name blocks_left enclosing f a mid G → Goes d (step_atom (body blocks_left enclosing f) word) words G
  simple_at blocks_left enclosing f n.literal x = x
  simple_at blocks_left enclosing f n.upper x = x
  simple_at blocks_left enclosing f n.lower x = x
  simple_at blocks_left enclosing f n.dot x = x
  simple_at blocks_left enclosing f (n.but h) x = r.ref h x
  simple_at blocks_left enclosing f (n.but_these {r = q} h i) x = r.refs (ref_in h (refs_in d (body blocks_left enclosing f) (q ∷ []) i x))

  atom_at : (blocks_left : ℕ) (enclosing : List (Frame WrittenTerm)) (f : Frame WrittenTerm) {word : Word} {words mid : List Word} {a : WrittenTerm}
      {G : WrittenGrammar} →
      IsAtom blocks_left (word ∷ words) a mid → After d g name blocks_left enclosing f a mid G → Goes d (step_atom (body blocks_left enclosing f) word) words G
  atom_at blocks_left enclosing f (n.simple s) x = simple_at blocks_left enclosing f s x
  atom_at blocks_left enclosing f (n.block alts) x = alts_in d g name [] alts refl (r.block_ends x)

  pub complete_atom : (blocks_left : ℕ) (enclosing : List (Frame WrittenTerm)) (f : Frame WrittenTerm) {word : Word} {words : List Word} {G : WrittenGrammar} →
      AtomRest d (body blocks_left enclosing f) (word ∷ words) G → Goes d (step_atom (body blocks_left enclosing f) word) words G
  complete_atom blocks_left enclosing f (atom a x) = atom_at blocks_left enclosing f a x

  bare_on : (blocks_left : ℕ) (enclosing : List (Frame WrittenTerm)) (f : Frame WrittenTerm) (t : WrittenTerm) (word : Word) (words : List Word)
      (G : WrittenGrammar) →
      Goes d (step_elements (body blocks_left enclosing (with_term f t)) word) words G → Goes d (step_after (body blocks_left enclosing f) t word) words G
  bare_on blocks_left enclosing f t w.Question words G h = absurd h
  bare_on blocks_left enclosing f t w.Star words G h = absurd h
  bare_on blocks_left enclosing f t w.Plus words G h = absurd h
  bare_on blocks_left enclosing f t _ words G h = h

  pub complete_after : (blocks_left : ℕ) (enclosing : List (Frame WrittenTerm)) (f : Frame WrittenTerm) (t : WrittenTerm) {word : Word} {words : List Word}
      {G : WrittenGrammar} →
      After d g name blocks_left enclosing f t (word ∷ words) G → Goes d (step_after (body blocks_left enclosing f) t word) words G
  complete_after blocks_left enclosing f t {word} {words} {G} (r.after n.bare x) =
      bare_on blocks_left enclosing f t word words G (complete_elements blocks_left enclosing (with_term f t) x)
  complete_after blocks_left enclosing f t (r.after n.question x) = x
  complete_after blocks_left enclosing f t (r.after n.star x) = x
  complete_after blocks_left enclosing f t (r.after n.plus x) = x

  no_label_on : (blocks_left : ℕ) (enclosing : List (Frame WrittenTerm)) (f : Frame WrittenTerm) (t : WrittenTerm) (word : Word) (words : List Word)
      (G : WrittenGrammar) →
      Goes d (step_after (body blocks_left enclosing f) t word) words G → Goes d (step_after_name (body blocks_left enclosing f) t word) words G
  no_label_on blocks_left enclosing f t w.Equals words G h = absurd h
  no_label_on blocks_left enclosing f t w.PlusEquals words G h = absurd h
  no_label_on blocks_left enclosing f t _ words G h = h

  pub complete_name : (blocks_left : ℕ) (enclosing : List (Frame WrittenTerm)) (f : Frame WrittenTerm) (t : WrittenTerm) {word : Word} {words : List Word}
      {G : WrittenGrammar} →
      NameRest d (body blocks_left enclosing f) t (word ∷ words) G → Goes d (step_after_name (body blocks_left enclosing f) t word) words G
  complete_name blocks_left enclosing f t (r.label x) = x
  complete_name blocks_left enclosing f t (r.list_label x) = x
  complete_name blocks_left enclosing f t {word} {words} {G} (r.no_label x) =
      no_label_on blocks_left enclosing f t word words G (complete_after blocks_left enclosing f t x)

  no_opening_on : (blocks_left : ℕ) (enclosing : List (Frame WrittenTerm)) (f : Frame WrittenTerm) (word : Word) (words : List Word) (G : WrittenGrammar) →
      Goes d (step_elements (body blocks_left enclosing f) word) words G → Goes d (step_alt (body blocks_left enclosing f) word) words G
  no_opening_on blocks_left enclosing f w.Less words G h = absurd h
  no_opening_on blocks_left enclosing f _ words G h = h

  pub complete_alt : (blocks_left : ℕ) (enclosing : List (Frame WrittenTerm)) (f : Frame WrittenTerm) {word : Word} {words : List Word} {G : WrittenGrammar} →
      Opens d g name blocks_left enclosing f (word ∷ words) G → Goes d (step_alt (body blocks_left enclosing f) word) words G
  complete_alt blocks_left enclosing f {word} {words} {G} (opens n.no_opening x) =
      no_opening_on blocks_left enclosing f word words G (complete_elements blocks_left enclosing f x)
  complete_alt blocks_left enclosing f (opens (n.opening i v) x) = r.opening_name i (r.equals (r.value v (r.opening_ends x)))

  -- back
  pub sound_alt_end : (blocks_left : ℕ) (enclosing : List (Frame WrittenTerm)) (f : Frame WrittenTerm) (word : Word) (words : List Word) (G : WrittenGrammar) →
      Goes d (step_alt_end (body blocks_left enclosing f) word) words G → AltEnd d g name blocks_left enclosing f (word ∷ words) G
  sound_alt_end blocks_left enclosing f w.Bar words G h = r.alts_go_on h
  sound_alt_end blocks_left [] f w.Semicolon words G h = r.alts_end (r.rule_ends h)
  sound_alt_end blocks_left (f' ∷ enclosing) f w.Semicolon words G h = absurd h
  sound_alt_end blocks_left [] f w.Close words G h = absurd h
  sound_alt_end blocks_left (f' ∷ enclosing) f w.Close words G h = r.alts_end (r.block_ends h)
  sound_alt_end blocks_left enclosing f _ words G h = absurd h

  from_closed : (blocks_left : ℕ) (enclosing : List (Frame WrittenTerm)) (f : Frame WrittenTerm) {words mid : List Word} {alts : List (List WrittenTerm)}
      {G : WrittenGrammar} →
      IsAlts false blocks_left words alts mid → Closes d g name blocks_left (f ∷ enclosing) alts mid G
      → AtomRest d (body (suc blocks_left) enclosing f) (w.Open ∷ words) G
  from_closed blocks_left enclosing f alts (r.block_ends x) = atom (n.block alts) x

  from_opened : (blocks_left : ℕ) (enclosing : List (Frame WrittenTerm)) (f : Frame WrittenTerm) (words : List Word) (G : WrittenGrammar) →
      Goes d (with_block (body blocks_left enclosing f) blocks_left) words G → AtomRest d (body blocks_left enclosing f) (w.Open ∷ words) G
  from_opened zero enclosing f words G h = absurd h
  from_opened (suc blocks_left) enclosing f words G h =
      let back : (alts : List (List WrittenTerm)) × (mid : List Word) × IsAlts false blocks_left words alts mid
      × Closes d g name blocks_left (f ∷ enclosing) alts mid G = alts_back d g name h in
      from_closed blocks_left enclosing f back.2 back.3

  from_ref : (blocks_left : ℕ) (enclosing : List (Frame WrittenTerm)) (f : Frame WrittenTerm) {words : List Word} {G : WrittenGrammar} →
      RefRest d (body blocks_left enclosing f) words G → AtomRest d (body blocks_left enclosing f) (w.Tilde ∷ words) G
  from_ref blocks_left enclosing f (r.ref h x) = atom (n.simple (n.but h)) x
  from_ref blocks_left enclosing f {G = G} (r.refs (ref_in {r = q} {words = words} h x)) =
      let back : (more : List Reference) × (mid : List Word) × IsRefs words more mid
      × AfterRest d (body blocks_left enclosing f) (WrittenTerm.but ((q ∷ []) ++ more)) mid G = refs_back d (body blocks_left enclosing f) (q ∷ []) x in
      atom (n.simple (n.but_these h back.2)) back.3

  from_atom : (blocks_left : ℕ) (enclosing : List (Frame WrittenTerm)) (f : Frame WrittenTerm) {words : List Word} {G : WrittenGrammar}
      → AtomRest d (body blocks_left enclosing f) words G → Within d g name blocks_left enclosing f words G
  from_atom blocks_left enclosing f (atom a x) = r.goes_on n.no_label a x

  from_name : (blocks_left : ℕ) (enclosing : List (Frame WrittenTerm)) (f : Frame WrittenTerm) {word : Word} {m : List ℕ} {words : List Word} {t : WrittenTerm}
      {G : WrittenGrammar} →
      IsName word m → ((rest : List Word) → IsAtom blocks_left (word ∷ rest) t rest) → NameRest d (body blocks_left enclosing f) t words G
      → Within d g name blocks_left enclosing f (word ∷ words) G
  from_name blocks_left enclosing f i a (r.label (atom b x)) = r.goes_on (n.label i) b x
  from_name blocks_left enclosing f i a (r.list_label (atom b x)) = r.goes_on (n.list_label i) b x
  from_name blocks_left enclosing f {words = words} i a (r.no_label x) = r.goes_on n.no_label (a words) x

  from_hash : (blocks_left : ℕ) (enclosing : List (Frame WrittenTerm)) (f : Frame WrittenTerm) (words : List Word) (G : WrittenGrammar)
      → Goes d (before_alternative_name (body blocks_left enclosing f) enclosing) words G → Within d g name blocks_left enclosing f (w.Hash ∷ words) G
  from_hash blocks_left [] f words G (r.alt_name i e) = r.ends (n.alt_name i) e
  from_hash blocks_left (f' ∷ enclosing) f words G h = absurd h

  pub sound_elements : (blocks_left : ℕ) (enclosing : List (Frame WrittenTerm)) (f : Frame WrittenTerm) (word : Word) (words : List Word) (G : WrittenGrammar) →
      Goes d (step_elements (body blocks_left enclosing f) word) words G → Within d g name blocks_left enclosing f (word ∷ words) G
  sound_elements blocks_left enclosing f (w.Literal k) words G h = r.goes_on n.no_label (n.simple n.literal) h
  sound_elements blocks_left enclosing f (w.Upper k) words G h = from_name blocks_left enclosing f n.upper (λ rest. n.simple n.upper) h
  sound_elements blocks_left enclosing f (w.Lower k) words G h = from_name blocks_left enclosing f n.lower (λ rest. n.simple n.lower) h
  sound_elements blocks_left enclosing f w.Dot words G h = r.goes_on n.no_label (n.simple n.dot) h
  sound_elements blocks_left enclosing f w.Tilde words G h = from_atom blocks_left enclosing f (from_ref blocks_left enclosing f h)
  sound_elements blocks_left enclosing f w.Open words G h = from_atom blocks_left enclosing f (from_opened blocks_left enclosing f words G h)
  sound_elements blocks_left enclosing f w.Hash words G h = from_hash blocks_left enclosing f words G h
  sound_elements blocks_left enclosing f word words G h = r.ends n.no_name (sound_alt_end blocks_left enclosing f word words G h)

  pub sound_atom : (blocks_left : ℕ) (enclosing : List (Frame WrittenTerm)) (f : Frame WrittenTerm) (word : Word) (words : List Word) (G : WrittenGrammar) →
      Goes d (step_atom (body blocks_left enclosing f) word) words G → AtomRest d (body blocks_left enclosing f) (word ∷ words) G
  sound_atom blocks_left enclosing f (w.Literal k) words G h = atom (n.simple n.literal) h
  sound_atom blocks_left enclosing f (w.Upper k) words G h = atom (n.simple n.upper) h
  sound_atom blocks_left enclosing f (w.Lower k) words G h = atom (n.simple n.lower) h
  sound_atom blocks_left enclosing f w.Dot words G h = atom (n.simple n.dot) h
  sound_atom blocks_left enclosing f w.Tilde words G h = from_ref blocks_left enclosing f h
  sound_atom blocks_left enclosing f w.Open words G h = from_opened blocks_left enclosing f words G h
  sound_atom blocks_left enclosing f _ words G h = absurd h

  pub sound_after : (blocks_left : ℕ) (enclosing : List (Frame WrittenTerm)) (f : Frame WrittenTerm) (t : WrittenTerm) (word : Word) (words : List Word)
      (G : WrittenGrammar) →
      Goes d (step_after (body blocks_left enclosing f) t word) words G → After d g name blocks_left enclosing f t (word ∷ words) G
  sound_after blocks_left enclosing f t w.Question words G h = r.after n.question h
  sound_after blocks_left enclosing f t w.Star words G h = r.after n.star h
  sound_after blocks_left enclosing f t w.Plus words G h = r.after n.plus h
  sound_after blocks_left enclosing f t word words G h = r.after n.bare (sound_elements blocks_left enclosing (with_term f t) word words G h)

  pub sound_name : (blocks_left : ℕ) (enclosing : List (Frame WrittenTerm)) (f : Frame WrittenTerm) (t : WrittenTerm) (word : Word) (words : List Word)
      (G : WrittenGrammar) →
      Goes d (step_after_name (body blocks_left enclosing f) t word) words G → NameRest d (body blocks_left enclosing f) t (word ∷ words) G
  sound_name blocks_left enclosing f t w.Equals words G h = r.label h
  sound_name blocks_left enclosing f t w.PlusEquals words G h = r.list_label h
  sound_name blocks_left enclosing f t word words G h = r.no_label (sound_after blocks_left enclosing f t word words G h)

  from_opening : (blocks_left : ℕ) (enclosing : List (Frame WrittenTerm)) (f : Frame WrittenTerm) {words : List Word} {G : WrittenGrammar}
      → OpeningNameRest d (body blocks_left enclosing f) words G → Opens d g name blocks_left enclosing f (w.Less ∷ words) G
  from_opening blocks_left enclosing f (r.opening_name i (r.equals (r.value v (r.opening_ends x)))) = opens (n.opening i v) x

  pub sound_alt : (blocks_left : ℕ) (enclosing : List (Frame WrittenTerm)) (f : Frame WrittenTerm) (word : Word) (words : List Word) (G : WrittenGrammar) →
      Goes d (step_alt (body blocks_left enclosing f) word) words G → Opens d g name blocks_left enclosing f (word ∷ words) G
  sound_alt blocks_left enclosing f w.Less words G h = from_opening blocks_left enclosing f h
  sound_alt blocks_left enclosing f word words G h = opens n.no_opening (sound_elements blocks_left enclosing f word words G h)

  -- what closes it
  pub alive_closes : (blocks_left : ℕ) (enclosing : List (Frame WrittenTerm)) (alts : List (List WrittenTerm)) → (words : List Word) × (G : WrittenGrammar)
      × Closes d g name blocks_left enclosing alts words G
  alive_closes blocks_left [] alts = (w.Semicolon ∷ w.End ∷ [], with_rule g (parser_rule name alts), r.rule_ends r.rules_end)
  alive_closes blocks_left (f ∷ enclosing) alts =
      let f' : Frame WrittenTerm = with_term f (WrittenTerm.block (written_alts alts)) in
      let rest : (words : List Word) × (G : WrittenGrammar) × Closes d g name (suc blocks_left) enclosing (whole f') words G =
      alive_closes (suc blocks_left) enclosing (whole f') in
      (w.Close ∷ rest.0, rest.1, r.block_ends (r.after n.bare (r.ends n.no_name (r.alts_end rest.2))))

  pub alive_within : (blocks_left : ℕ) (enclosing : List (Frame WrittenTerm)) (f : Frame WrittenTerm) → (words : List Word) × (G : WrittenGrammar)
      × Within d g name blocks_left enclosing f words G
  alive_within blocks_left enclosing f =
      let rest : (words : List Word) × (G : WrittenGrammar) × Closes d g name blocks_left enclosing (whole f) words G =
      alive_closes blocks_left enclosing (whole f) in
      (rest.0, rest.1, r.ends n.no_name (r.alts_end rest.2))

  pub alive_after : (blocks_left : ℕ) (enclosing : List (Frame WrittenTerm)) (f : Frame WrittenTerm) (t : WrittenTerm) → (words : List Word)
      × (G : WrittenGrammar) × After d g name blocks_left enclosing f t words G
  alive_after blocks_left enclosing f t =
      let rest : (words : List Word) × (G : WrittenGrammar) × Within d g name blocks_left enclosing (with_term f t) words G =
      alive_within blocks_left enclosing (with_term f t) in
      (rest.0, rest.1, r.after n.bare rest.2)

  pub alive_alt_end : (blocks_left : ℕ) (enclosing : List (Frame WrittenTerm)) (f : Frame WrittenTerm) → (words : List Word) × (G : WrittenGrammar)
      × AltEnd d g name blocks_left enclosing f words G
  alive_alt_end blocks_left enclosing f =
      let rest : (words : List Word) × (G : WrittenGrammar)
      × Closes d g name blocks_left enclosing (whole f) words G = alive_closes blocks_left enclosing (whole f) in
      (rest.0, rest.1, r.alts_end rest.2)

-- References
module _ (d : ℕ) (b : Body) where
  pub complete_ref : {word : Word} {words : List Word} {G : WrittenGrammar} → RefRest d b (word ∷ words) G → Goes d (step_ref b word) words G
  complete_ref (r.ref ref_literal x) = x
  complete_ref {words = words} {G = G} (r.ref (ref_name {n = k} h) x) =
      not_eof d words G (is_eof k) (Some (m.AfterAtom b (WrittenTerm.but (Reference.name k ∷ [])))) h x
  complete_ref (r.refs x) = x

  pub complete_ref_in : (rs : List Reference) {word : Word} {words : List Word} {G : WrittenGrammar} → RefInRest d b rs (word ∷ words) G
      → Goes d (step_ref_in b rs word) words G
  complete_ref_in rs (ref_in ref_literal x) = x
  complete_ref_in rs {words = words} {G = G} (ref_in (ref_name {n = k} h) x) =
      not_eof d words G (is_eof k) (Some (m.AfterRef b (rs ++ Reference.name k ∷ []))) h x

  pub complete_after_ref : (rs : List Reference) {word : Word} {words : List Word} {G : WrittenGrammar} → RefsRest d b rs (word ∷ words) G
      → Goes d (step_after_ref b rs word) words G
  complete_after_ref rs (r.refs_end x) = x
  complete_after_ref rs (r.refs_go_on x) = x

  pub complete_alt_name : {word : Word} {words : List Word} {G : WrittenGrammar} → AltNameRest d b (word ∷ words) G → Goes d (step_alt_name b word) words G
  complete_alt_name (r.alt_name n.upper x) = x
  complete_alt_name (r.alt_name n.lower x) = x

  pub sound_ref : (word : Word) (words : List Word) (G : WrittenGrammar) → Goes d (step_ref b word) words G → RefRest d b (word ∷ words) G
  sound_ref (w.Literal k) words G h = r.ref ref_literal h
  sound_ref (w.Upper k) words G h =
      with_no_eof d words G (is_eof k) (Some (m.AfterAtom b (WrittenTerm.but (Reference.name k ∷ [])))) (RefRest d b (w.Upper k ∷ words) G)
      (λ e x. r.ref (ref_name e) x) h
  sound_ref w.Open words G h = r.refs h
  sound_ref _ words G h = absurd h

  pub sound_ref_in : (rs : List Reference) (word : Word) (words : List Word) (G : WrittenGrammar) → Goes d (step_ref_in b rs word) words G
      → RefInRest d b rs (word ∷ words) G
  sound_ref_in rs (w.Literal k) words G h = ref_in ref_literal h
  sound_ref_in rs (w.Upper k) words G h =
      with_no_eof d words G (is_eof k) (Some (m.AfterRef b (rs ++ Reference.name k ∷ []))) (RefInRest d b rs (w.Upper k ∷ words) G)
      (λ e x. ref_in (ref_name e) x) h
  sound_ref_in rs _ words G h = absurd h

  pub sound_after_ref : (rs : List Reference) (word : Word) (words : List Word) (G : WrittenGrammar) → Goes d (step_after_ref b rs word) words G
      → RefsRest d b rs (word ∷ words) G
  sound_after_ref rs w.Bar words G h = r.refs_go_on h
  sound_after_ref rs w.Close words G h = r.refs_end h
  sound_after_ref rs _ words G h = absurd h

  pub sound_alt_name : (word : Word) (words : List Word) (G : WrittenGrammar) → Goes d (step_alt_name b word) words G → AltNameRest d b (word ∷ words) G
  sound_alt_name (w.Upper k) words G h = r.alt_name n.upper h
  sound_alt_name (w.Lower k) words G h = r.alt_name n.lower h
  sound_alt_name _ words G h = absurd h
