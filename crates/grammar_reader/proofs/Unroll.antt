-- The rows of the notation, gone on one step at a time and back.
use Rattle.std.proofs.Common.{ℕ, ◌≡◌, Bool, true, false, List, [], ◌∷◌, ◌++◌, Option, Some, refl, sym, ap, subst, ◌∙◌, append_assoc, append-nil}
use Rattle.grammar_tree.specs.Written.{Reference, WrittenTerm, LexerTerm, WrittenRule, WrittenGrammar}
use Rattle.grammar_reader_words.specs.declared.word.Word.{Word}
use Rattle.grammar_reader_words.specs.declared.word.Word.TheVariants as w
use Rattle.grammar_reader_notation.specs.Sets.{outside}
use Rattle.grammar_reader_notation.specs.Notation.{IsTokens, IsPrequels, IsRefs, IsSuffixed, IsLabel, IsOpening, IsAltName, IsAtom, IsElements, IsAlts, IsItem}
use Rattle.grammar_reader_notation.specs.Notation.{IsItems, IsCharSet, IsLexSuffixed, IsCommand, IsLast, IsLoop, no_loop, loop, Level, inner, top, IsEnding}
use Rattle.grammar_reader_notation.specs.Notation.{in_block, at_top, IsLexAtom, IsLexElements, IsLexAlts, parser_rule, lexer_rule, IsRules, IsOptions}
use Rattle.grammar_reader_notation.specs.Notation as n
use Rattle.grammar_reader_machine.specs.Machine.{Frame, with_term, next_alt, fresh, Body, LexBody, with_token}
use Rattle.grammar_reader.proofs.Rest.{RulesRest, TextRest, TokensRest, AfterTokenRest, is_top, Closes, AltEnd, Opens, opens, Within, After, AtomRest}
use Rattle.grammar_reader.proofs.Rest.{AfterRest, RefInRest, RefsRest, Agrees, LexCloses, LexAltEnd, LexWithin, LexLoop, LexDone, LexAfter, SetRest}
use Rattle.grammar_reader.proofs.Rest.{ItemInRest, ItemsRest}
use Rattle.grammar_reader.proofs.Rest as r

abbrev frame : {T : Type 0} → List (List T) → List T → Frame T
frame alts terms = record { alts = alts; terms = terms }

-- Parser rules

module _ (d : ℕ) (g : WrittenGrammar) (name : List ℕ) where
  -- elements, once what follows them is known
  elements_in : {blocks_left : ℕ} {enclosing : List (Frame WrittenTerm)} {words mid : List Word} {ts : List WrittenTerm} {G : WrittenGrammar}
      (alts : List (List WrittenTerm)) (terms : List WrittenTerm) →
      IsElements blocks_left words ts mid → Within d g name blocks_left enclosing (frame alts (terms ++ ts)) mid G
      → Within d g name blocks_left enclosing (frame alts terms) words G
  elements_in {blocks_left} {enclosing} {words} {G = G} alts terms n.no_element x =
      subst (λ ts. Within d g name blocks_left enclosing (frame alts ts) words G) (append-nil terms) x
  elements_in {blocks_left} {enclosing} {mid = mid} {G = G} alts terms (n.element {t = t} {ts = ts} l a s more) x =
      r.goes_on l a
      (r.after s (elements_in alts (terms ++ t ∷ []) more
      (subst (λ us. Within d g name blocks_left enclosing (frame alts us) mid G) (sym (append_assoc terms (t ∷ []) ts)) x)))

  pub alts_in : {current : Bool} {blocks_left : ℕ} {enclosing : List (Frame WrittenTerm)} {words mid : List Word} {alts : List (List WrittenTerm)}
      {G : WrittenGrammar} (before : List (List WrittenTerm)) →
      IsAlts current blocks_left words alts mid → current ≡ is_top enclosing → Closes d g name blocks_left enclosing (before ++ alts) mid G
      → Opens d g name blocks_left enclosing (frame before []) words G
  alts_in before (n.last_alt {after = after} {rest = rest} {ts = ts} o e an) h c =
      opens o (elements_in before [] e (r.ends (subst (λ b. IsAltName b after rest) h an) (r.alts_end c)))
  alts_in {blocks_left = blocks_left} {enclosing = enclosing} {mid = mid} {G = G} before
      (n.alt {after = after} {next = next} {ts = ts} {alts = alts} o e an more) h c =
      opens o (elements_in before [] e (r.ends (subst (λ b. IsAltName b after (w.Bar ∷ next)) h an)
      (r.alts_go_on (alts_in (before ++ ts ∷ []) more h
      (subst (λ as'. Closes d g name blocks_left enclosing as' mid G) (sym (append_assoc before (ts ∷ []) alts)) c)))))

-- the current alternative, without its opening, and those after it
data From (current : Bool) (blocks_left : ℕ) : List Word → List WrittenTerm → List (List WrittenTerm) → List Word → Type 0 where
  from_last : {words after rest : List Word} {ts : List WrittenTerm} → IsElements blocks_left words ts after → IsAltName current after rest
      → From current blocks_left words ts [] rest
  from_more : {words after next rest : List Word} {ts : List WrittenTerm} {alts : List (List WrittenTerm)} →
      IsElements blocks_left words ts after → IsAltName current after (w.Bar ∷ next) → IsAlts current blocks_left next alts rest
      → From current blocks_left words ts alts rest

from_opened : {current : Bool} {blocks_left : ℕ} {words opened rest : List Word} {ts : List WrittenTerm} {alts : List (List WrittenTerm)} →
    IsOpening words opened → From current blocks_left opened ts alts rest → IsAlts current blocks_left words (ts ∷ alts) rest
from_opened o (from_last e name) = n.last_alt o e name
from_opened o (from_more e name more) = n.alt o e name more

from_element : {current : Bool} {blocks_left : ℕ} {words labelled after next rest : List Word} {a t : WrittenTerm} {ts : List WrittenTerm}
    {alts : List (List WrittenTerm)} →
    IsLabel words labelled → IsAtom blocks_left labelled a after → IsSuffixed a after t next → From current blocks_left next ts alts rest
    → From current blocks_left words (t ∷ ts) alts rest
from_element l a s (from_last e name) = from_last (n.element l a s e) name
from_element l a s (from_more e name more) = from_more (n.element l a s e) name more

module _ (d : ℕ) (g : WrittenGrammar) (name : List ℕ) where
  record Back (blocks_left : ℕ) (enclosing : List (Frame WrittenTerm)) (alts : List (List WrittenTerm)) (terms : List WrittenTerm) (words : List Word)
      (G : WrittenGrammar) : Type 0 where
    ts : List WrittenTerm
    more : List (List WrittenTerm)
    mid : List Word
    made : From (is_top enclosing) blocks_left words ts more mid
    closes : Closes d g name blocks_left enclosing (alts ++ ((terms ++ ts) ∷ more)) mid G

  within_back : {blocks_left : ℕ} {enclosing : List (Frame WrittenTerm)} {words : List Word} {G : WrittenGrammar} (f : Frame WrittenTerm)
      → Within d g name blocks_left enclosing f words G → Back blocks_left enclosing f.alts f.terms words G
  within_back {blocks_left} {enclosing} {words} {G} f (r.ends {mid = mid} name' (r.alts_end c)) = record {
    ts = [];
    more = [];
    mid = mid;
    made = from_last n.no_element name';
    closes = subst (λ ts. Closes d g name blocks_left enclosing (f.alts ++ ts ∷ []) mid G) (sym (append-nil f.terms)) c;
  }
  within_back {blocks_left} {enclosing} {words} {G} f (r.ends name' (r.alts_go_on (opens o x))) =
      let b : Back blocks_left enclosing (f.alts ++ f.terms ∷ []) [] _ G = within_back (next_alt f) x in
      record {
        ts = [];
        more = b.ts ∷ b.more;
        mid = b.mid;
        made = from_more n.no_element name' (from_opened o b.made);
        closes =
            subst (λ ts. Closes d g name blocks_left enclosing (f.alts ++ (ts ∷ (b.ts ∷ b.more))) b.mid G) (sym (append-nil f.terms))
            (subst (λ as'. Closes d g name blocks_left enclosing as' b.mid G) (append_assoc f.alts (f.terms ∷ []) (b.ts ∷ b.more)) b.closes);
      }
  within_back {blocks_left} {enclosing} {words} {G} f (r.goes_on l a (r.after {u = u} s x)) =
      let b : Back blocks_left enclosing f.alts (f.terms ++ u ∷ []) _ G = within_back (with_term f u) x in
      record {
        ts = u ∷ b.ts;
        more = b.more;
        mid = b.mid;
        made = from_element l a s b.made;
        closes = subst (λ ts. Closes d g name blocks_left enclosing (f.alts ++ (ts ∷ b.more)) b.mid G) (append_assoc f.terms (u ∷ []) b.ts) b.closes;
      }

  pub alts_back : {blocks_left : ℕ} {enclosing : List (Frame WrittenTerm)} {words : List Word} {G : WrittenGrammar}
      → Opens d g name blocks_left enclosing fresh words G →
      (alts : List (List WrittenTerm)) × (mid : List Word) × IsAlts (is_top enclosing) blocks_left words alts mid
      × Closes d g name blocks_left enclosing alts mid G
  alts_back {blocks_left} {enclosing} {words} {G} (opens o x) =
      let b : Back blocks_left enclosing [] [] _ G = within_back fresh x in
      (b.ts ∷ b.more, b.mid, from_opened o b.made, b.closes)

-- Lexer rules

module _ (d : ℕ) (g : WrittenGrammar) (name : List ℕ) (frag : Bool) where
  lex_elements_in : {known : Option Bool} {blocks_left : ℕ} {enclosing : List (Frame LexerTerm)} {words mid : List Word} {ts : List LexerTerm}
      {G : WrittenGrammar} (alts : List (List LexerTerm)) (terms : List LexerTerm) →
      IsLexElements blocks_left words ts mid → LexWithin d g name frag known blocks_left enclosing (frame alts (terms ++ ts)) mid G
      → LexWithin d g name frag known blocks_left enclosing (frame alts terms) words G
  lex_elements_in {known} {blocks_left} {enclosing} {words} {G = G} alts terms n.no_element x =
      subst (λ ts. LexWithin d g name frag known blocks_left enclosing (frame alts ts) words G) (append-nil terms) x
  lex_elements_in {known} {blocks_left} {enclosing} {mid = mid} {G = G} alts terms (n.element {t = t} {ts = ts} a s more) x =
      r.goes_on a
      (r.after s (lex_elements_in alts (terms ++ t ∷ []) more
      (subst (λ us. LexWithin d g name frag known blocks_left enclosing (frame alts us) mid G) (sym (append_assoc terms (t ∷ []) ts)) x)))

  -- in a block
  pub inner_in : {known : Option Bool} {blocks_left : ℕ} {f : Frame LexerTerm} {enclosing : List (Frame LexerTerm)} {words mid : List Word}
      {alts : List (List LexerTerm)} {G : WrittenGrammar} (before : List (List LexerTerm)) →
      IsLexAlts inner blocks_left words alts mid → LexCloses d g name frag known blocks_left (f ∷ enclosing) (before ++ alts) mid G
      → LexWithin d g name frag known blocks_left (f ∷ enclosing) (frame before []) words G
  inner_in {known} {blocks_left} {f} {enclosing} {mid = mid} {G = G} before (n.last_alt {ts = ts} e in_block) c =
      lex_elements_in before [] e (r.ends_inner
      (r.alts_end (subst (λ us. LexCloses d g name frag known blocks_left (f ∷ enclosing) (before ++ us ∷ []) mid G) (append-nil ts) c)))
  inner_in {known} {blocks_left} {f} {enclosing} {mid = mid} {G = G} before (n.alt {ts = ts} {alts = alts} e in_block more) c =
      lex_elements_in before [] e (r.ends_inner (r.alts_go_on (inner_in (before ++ ts ∷ []) more
      (subst (λ as'. LexCloses d g name frag known blocks_left (f ∷ enclosing) as' mid G) (sym (append_assoc before (ts ∷ []) alts))
      (subst (λ us. LexCloses d g name frag known blocks_left (f ∷ enclosing) (before ++ (us ∷ alts)) mid G) (append-nil ts) c)))))

  -- the end of an alternative of the rule itself
  ending_in : {frag' gap : Bool} {known : Option Bool} {blocks_left : ℕ} {words mid : List Word} {more : List LexerTerm} {G : WrittenGrammar}
      (alts : List (List LexerTerm)) (terms : List LexerTerm) →
      frag' ≡ frag → Agrees known gap → IsEnding (top frag' gap) words more mid
      → LexAltEnd d g name frag (Some gap) blocks_left [] (frame alts (terms ++ more)) mid G →
      LexWithin d g name frag known blocks_left [] (frame alts terms) words G
  ending_in {gap = gap} {blocks_left = blocks_left} {mid = mid} {G = G} alts terms h a (at_top no_loop c) x =
      r.ends_plain (r.done a c (subst (λ us. LexAltEnd d g name frag (Some gap) blocks_left [] (frame alts us) mid G) (append-nil terms) x))
  ending_in {gap = gap} {blocks_left = blocks_left} {mid = mid} {G = G} alts terms h a (at_top (loop {s = s} {t = t} chars last) c) x =
      r.ends_loop (sym h) chars (r.loop_rest last (r.done a c
      (subst (λ us. LexAltEnd d g name frag (Some gap) blocks_left [] (frame alts us) mid G) (sym (append_assoc terms (LexerTerm.short s ∷ []) (t ∷ []))) x)))

  pub top_in : {frag' gap : Bool} {known : Option Bool} {blocks_left : ℕ} {words mid : List Word} {alts : List (List LexerTerm)} {G : WrittenGrammar}
      (before : List (List LexerTerm)) →
      frag' ≡ frag → Agrees known gap → IsLexAlts (top frag' gap) blocks_left words alts mid
      → LexCloses d g name frag (Some gap) blocks_left [] (before ++ alts) mid G →
      LexWithin d g name frag known blocks_left [] (frame before []) words G
  top_in before h a (n.last_alt {ts = ts} e end) c = lex_elements_in before [] e (ending_in before ts h a end (r.alts_end c))
  top_in {gap = gap} {blocks_left = blocks_left} {mid = mid} {G = G} before h a (n.alt {ts = ts} {more = more} {alts = alts} e end others) c =
      lex_elements_in before [] e (ending_in before ts h a end (r.alts_go_on (top_in (before ++ (ts ++ more) ∷ []) h refl others
      (subst (λ as'. LexCloses d g name frag (Some gap) blocks_left [] as' mid G) (sym (append_assoc before ((ts ++ more) ∷ []) alts)) c))))

-- an alternative and those after it
data LexFrom (level : Level) (blocks_left : ℕ) : List Word → List LexerTerm → List (List LexerTerm) → List Word → Type 0 where
  lex_from_last : {words after rest : List Word} {ts more : List LexerTerm} → IsLexElements blocks_left words ts after → IsEnding level after more rest
      → LexFrom level blocks_left words (ts ++ more) [] rest
  lex_from_more : {words after next rest : List Word} {ts more : List LexerTerm} {alts : List (List LexerTerm)} →
      IsLexElements blocks_left words ts after → IsEnding level after more (w.Bar ∷ next) → IsLexAlts level blocks_left next alts rest
      → LexFrom level blocks_left words (ts ++ more) alts rest

lex_from_alts : {level : Level} {blocks_left : ℕ} {words rest : List Word} {ts : List LexerTerm} {alts : List (List LexerTerm)}
    → LexFrom level blocks_left words ts alts rest → IsLexAlts level blocks_left words (ts ∷ alts) rest
lex_from_alts (lex_from_last e end) = n.last_alt e end
lex_from_alts (lex_from_more e end more) = n.alt e end more

lex_from_element : {level : Level} {blocks_left : ℕ} {words after next rest : List Word} {a t : LexerTerm} {ts : List LexerTerm} {alts : List (List LexerTerm)}
    →
    IsLexAtom blocks_left words a after → IsLexSuffixed a after t next → LexFrom level blocks_left next ts alts rest
    → LexFrom level blocks_left words (t ∷ ts) alts rest
lex_from_element a s (lex_from_last e end) = lex_from_last (n.element a s e) end
lex_from_element a s (lex_from_more e end more) = lex_from_more (n.element a s e) end more

module _ (d : ℕ) (g : WrittenGrammar) (name : List ℕ) (frag : Bool) where
  record InnerBack (known : Option Bool) (blocks_left : ℕ) (enclosing : List (Frame LexerTerm)) (alts : List (List LexerTerm)) (terms : List LexerTerm)
      (words : List Word) (G : WrittenGrammar) : Type 0 where
    ts : List LexerTerm
    more : List (List LexerTerm)
    mid : List Word
    made : LexFrom inner blocks_left words ts more mid
    closes : LexCloses d g name frag known blocks_left enclosing (alts ++ ((terms ++ ts) ∷ more)) mid G

  inner_within_back : {known : Option Bool} {blocks_left : ℕ} {f' : Frame LexerTerm} {enclosing : List (Frame LexerTerm)} {words : List Word}
      {G : WrittenGrammar} (f : Frame LexerTerm) →
      LexWithin d g name frag known blocks_left (f' ∷ enclosing) f words G → InnerBack known blocks_left (f' ∷ enclosing) f.alts f.terms words G
  inner_within_back {known} {blocks_left} {f'} {enclosing} {words} {G} f (r.ends_inner (r.alts_end c)) = record {
    ts = [];
    more = [];
    mid = words;
    made = lex_from_last n.no_element in_block;
    closes = subst (λ ts. LexCloses d g name frag known blocks_left (f' ∷ enclosing) (f.alts ++ ts ∷ []) words G) (sym (append-nil f.terms)) c;
  }
  inner_within_back {known} {blocks_left} {f'} {enclosing} {words} {G} f (r.ends_inner (r.alts_go_on x)) =
      let b : InnerBack known blocks_left (f' ∷ enclosing) (f.alts ++ f.terms ∷ []) [] _ G = inner_within_back (next_alt f) x in
      record {
        ts = [];
        more = b.ts ∷ b.more;
        mid = b.mid;
        made = lex_from_more n.no_element in_block (lex_from_alts b.made);
        closes =
            subst (λ ts. LexCloses d g name frag known blocks_left (f' ∷ enclosing) (f.alts ++ (ts ∷ (b.ts ∷ b.more))) b.mid G) (sym (append-nil f.terms))
            (subst (λ as'. LexCloses d g name frag known blocks_left (f' ∷ enclosing) as' b.mid G)
            (append_assoc f.alts (f.terms ∷ []) (b.ts ∷ b.more)) b.closes);
      }
  inner_within_back {known} {blocks_left} {f'} {enclosing} {words} {G} f (r.goes_on a (r.after {u = u} s x)) =
      let b : InnerBack known blocks_left (f' ∷ enclosing) f.alts (f.terms ++ u ∷ []) _ G = inner_within_back (with_term f u) x in
      record {
        ts = u ∷ b.ts;
        more = b.more;
        mid = b.mid;
        made = lex_from_element a s b.made;
        closes =
            subst (λ ts. LexCloses d g name frag known blocks_left (f' ∷ enclosing) (f.alts ++ (ts ∷ b.more)) b.mid G)
            (append_assoc f.terms (u ∷ []) b.ts) b.closes;
      }

  pub inner_back : {known : Option Bool} {blocks_left : ℕ} {f' : Frame LexerTerm} {enclosing : List (Frame LexerTerm)} {words : List Word} {G : WrittenGrammar}
      → LexWithin d g name frag known blocks_left (f' ∷ enclosing) fresh words G →
      (alts : List (List LexerTerm)) × (mid : List Word) × IsLexAlts inner blocks_left words alts mid
      × LexCloses d g name frag known blocks_left (f' ∷ enclosing) alts mid G
  inner_back {known} {blocks_left} {f'} {enclosing} {words} {G} x =
      let b : InnerBack known blocks_left (f' ∷ enclosing) [] [] words G = inner_within_back fresh x in
      (b.ts ∷ b.more, b.mid, lex_from_alts b.made, b.closes)

  record TopBack (known : Option Bool) (blocks_left : ℕ) (alts : List (List LexerTerm)) (terms : List LexerTerm) (words : List Word)
      (G : WrittenGrammar) : Type 0 where
    gap : Bool
    agrees : Agrees known gap
    ts : List LexerTerm
    more : List (List LexerTerm)
    mid : List Word
    made : LexFrom (top frag gap) blocks_left words ts more mid
    closes : LexCloses d g name frag (Some gap) blocks_left [] (alts ++ ((terms ++ ts) ∷ more)) mid G

  end_last : {known : Option Bool} {blocks_left : ℕ} {words mid : List Word} {more : List LexerTerm} {G : WrittenGrammar} (alts : List (List LexerTerm))
      (terms : List LexerTerm) (gap : Bool) →
      Agrees known gap → IsEnding (top frag gap) words more mid → LexCloses d g name frag (Some gap) blocks_left [] (alts ++ (terms ++ more) ∷ []) mid G
      → TopBack known blocks_left alts terms words G
  end_last {mid = mid} {more = more} alts terms gap a end x = record {
    gap = gap;
    agrees = a;
    ts = more;
    more = [];
    mid = mid;
    made = lex_from_last n.no_element end;
    closes = x;
  }

  end_more : {known : Option Bool} {blocks_left : ℕ} {words next : List Word} {more : List LexerTerm} {G : WrittenGrammar} (alts : List (List LexerTerm))
      (terms : List LexerTerm) (gap : Bool) →
      Agrees known gap → IsEnding (top frag gap) words more (w.Bar ∷ next) → TopBack (Some gap) blocks_left (alts ++ (terms ++ more) ∷ []) [] next G
      → TopBack known blocks_left alts terms words G
  end_more {blocks_left = blocks_left} {next = next} {more = more} {G = G} alts terms gap a end b = record {
    gap = gap;
    agrees = a;
    ts = more;
    more = b.ts ∷ b.more;
    mid = b.mid;
    made = lex_from_more n.no_element end (subst (λ k. IsLexAlts (top frag k) blocks_left next (b.ts ∷ b.more) b.mid) (sym b.agrees) (lex_from_alts b.made));
    closes =
        subst (λ as'. LexCloses d g name frag (Some gap) blocks_left [] as' b.mid G) (append_assoc alts ((terms ++ more) ∷ []) (b.ts ∷ b.more))
        (subst (λ k. LexCloses d g name frag (Some k) blocks_left [] ((alts ++ (terms ++ more) ∷ []) ++ (b.ts ∷ b.more)) b.mid G) (sym b.agrees) b.closes);
  }

  plain_end : {gap : Bool} {words mid : List Word} → IsCommand gap words mid → IsEnding (top frag gap) words [] mid
  plain_end c = at_top no_loop c

  loop_end : {gap : Bool} {words next after mid : List Word} {s : List (ℕ × ℕ)} {t : LexerTerm} → frag ≡ false → IsCharSet words s (w.Star ∷ w.Question ∷ next)
      → IsLast next t after → IsCommand gap after mid →
      IsEnding (top frag gap) words (LexerTerm.short s ∷ t ∷ []) mid
  loop_end {gap} {words} {mid = mid} {s = s} {t = t} h set' last c =
      subst (λ k. IsEnding (top k gap) words (LexerTerm.short s ∷ t ∷ []) mid) (sym h) (at_top (loop set' last) c)

  top_within_back : {known : Option Bool} {blocks_left : ℕ} {words : List Word} {G : WrittenGrammar} (f : Frame LexerTerm)
      → LexWithin d g name frag known blocks_left [] f words G → TopBack known blocks_left f.alts f.terms words G
  top_within_back {known} {blocks_left} {words} {G} f (r.ends_plain (r.done {gap = gap} {mid = mid} a c (r.alts_end x))) =
      end_last f.alts f.terms gap a (plain_end c)
      (subst (λ ts. LexCloses d g name frag (Some gap) blocks_left [] (f.alts ++ ts ∷ []) mid G) (sym (append-nil f.terms)) x)
  top_within_back {known} {blocks_left} {words} {G} f (r.ends_plain (r.done {gap = gap} a c (r.alts_go_on {words = next} x))) =
      end_more f.alts f.terms gap a (plain_end c)
      (subst (λ ts. TopBack (Some gap) blocks_left (f.alts ++ ts ∷ []) [] next G) (sym (append-nil f.terms)) (top_within_back (next_alt f) x))
  top_within_back {known} {blocks_left} {words} {G} f
      (r.ends_loop h set' (r.loop_rest {s = s} {t = t} last (r.done {gap = gap} {mid = mid} a c (r.alts_end x)))) =
      end_last f.alts f.terms gap a (loop_end h set' last c)
      (subst (λ ts. LexCloses d g name frag (Some gap) blocks_left [] (f.alts ++ ts ∷ []) mid G) (append_assoc f.terms (LexerTerm.short s ∷ []) (t ∷ [])) x)
  top_within_back {known} {blocks_left} {words} {G} f
      (r.ends_loop h set' (r.loop_rest {s = s} {t = t} last (r.done {gap = gap} a c (r.alts_go_on {words = next} x)))) =
      end_more f.alts f.terms gap a (loop_end h set' last c)
      (subst (λ ts. TopBack (Some gap) blocks_left (f.alts ++ ts ∷ []) [] next G) (append_assoc f.terms (LexerTerm.short s ∷ []) (t ∷ []))
      (top_within_back (next_alt (with_term (with_term f (LexerTerm.short s)) t)) x))
  top_within_back {known} {blocks_left} {words} {G} f (r.goes_on a (r.after {u = u} s x)) =
      let b : TopBack known blocks_left f.alts (f.terms ++ u ∷ []) _ G = top_within_back (with_term f u) x in
      record {
        gap = b.gap;
        agrees = b.agrees;
        ts = u ∷ b.ts;
        more = b.more;
        mid = b.mid;
        made = lex_from_element a s b.made;
        closes =
            subst (λ ts. LexCloses d g name frag (Some b.gap) blocks_left [] (f.alts ++ (ts ∷ b.more)) b.mid G) (append_assoc f.terms (u ∷ []) b.ts) b.closes;
      }

  pub top_back : {known : Option Bool} {blocks_left : ℕ} {words : List Word} {G : WrittenGrammar} → LexWithin d g name frag known blocks_left [] fresh words G →
      (gap : Bool) × (alts : List (List LexerTerm)) × (mid : List Word) × Agrees known gap × IsLexAlts (top frag gap) blocks_left words alts mid
      × LexCloses d g name frag (Some gap) blocks_left [] alts mid G
  top_back {known} {blocks_left} {words} {G} x =
      let b : TopBack known blocks_left [] [] words G = top_within_back fresh x in
      (b.gap, b.ts ∷ b.more, b.mid, b.agrees, lex_from_alts b.made, b.closes)

-- References and items in brackets

module _ (d : ℕ) (b : Body) where
  pub refs_in : {words mid : List Word} {more : List Reference} {G : WrittenGrammar} (rs : List Reference) → IsRefs words more mid
      → AfterRest d b (WrittenTerm.but (rs ++ more)) mid G → RefsRest d b rs words G
  refs_in {mid = mid} {G = G} rs n.refs_end x = r.refs_end (subst (λ l. AfterRest d b (WrittenTerm.but l) mid G) (append-nil rs) x)
  refs_in {mid = mid} {G = G} rs (n.refs_go_on {r = q} {rs = more} h i) x =
      r.refs_go_on (r.ref_in h (refs_in (rs ++ q ∷ []) i (subst (λ l. AfterRest d b (WrittenTerm.but l) mid G) (sym (append_assoc rs (q ∷ []) more)) x)))

  pub refs_back : {words : List Word} {G : WrittenGrammar} (rs : List Reference) → RefsRest d b rs words G →
      (more : List Reference) × (mid : List Word) × IsRefs words more mid × AfterRest d b (WrittenTerm.but (rs ++ more)) mid G
  refs_back {G = G} rs (r.refs_end {words = words} x) = ([], words, n.refs_end, subst (λ l. AfterRest d b (WrittenTerm.but l) words G) (sym (append-nil rs)) x)
  refs_back {G = G} rs (r.refs_go_on (r.ref_in {r = q} {words = words} h x)) =
      let back : (more : List Reference) × (mid : List Word) × IsRefs words more mid × AfterRest d b (WrittenTerm.but ((rs ++ q ∷ []) ++ more)) mid G =
      refs_back (rs ++ q ∷ []) x in
      (q ∷ back.0, back.1, n.refs_go_on h back.2, subst (λ l. AfterRest d b (WrittenTerm.but l) back.1 G) (append_assoc rs (q ∷ []) back.0) back.3)

module _ (d : ℕ) (b : LexBody) where
  pub items_in : {words mid : List Word} {more : List (ℕ × ℕ)} {G : WrittenGrammar} (ranges : List (ℕ × ℕ)) → IsItems words more mid
      → SetRest d b (outside (ranges ++ more)) mid G → ItemsRest d b ranges words G
  items_in {mid = mid} {G = G} ranges n.items_end x = r.items_end (subst (λ l. SetRest d b (outside l) mid G) (append-nil ranges) x)
  items_in {mid = mid} {G = G} ranges (n.items_go_on {i = i} {is' = more} h is') x =
      r.items_go_on (r.item_in h (items_in (ranges ++ i) is' (subst (λ l. SetRest d b (outside l) mid G) (sym (append_assoc ranges i more)) x)))

  pub items_back : {words : List Word} {G : WrittenGrammar} (ranges : List (ℕ × ℕ)) → ItemsRest d b ranges words G →
      (more : List (ℕ × ℕ)) × (mid : List Word) × IsItems words more mid × SetRest d b (outside (ranges ++ more)) mid G
  items_back {G = G} ranges (r.items_end {words = words} x) = ([], words, n.items_end, subst (λ l. SetRest d b (outside l) words G) (sym (append-nil ranges)) x)
  items_back {G = G} ranges (r.items_go_on (r.item_in {i = i} {mid = mid} h x)) =
      let back : (more : List (ℕ × ℕ)) × (end : List Word) × IsItems mid more end × SetRest d b (outside ((ranges ++ i) ++ more)) end G =
      items_back (ranges ++ i) x in
      (i ++ back.0, back.1, n.items_go_on h back.2, subst (λ l. SetRest d b (outside l) back.1 G) (append_assoc ranges i back.0) back.3)

-- Whole texts

abbrev grown : WrittenGrammar → List (List ℕ) → List WrittenRule → WrittenGrammar
grown g ns rules = record { name = g.name; tokens = g.tokens ++ ns; rules = g.rules ++ rules }

module _ (d : ℕ) where
  rules_in : {words : List Word} {rules : List WrittenRule} (name : List ℕ) (tokens : List (List ℕ)) (before : List WrittenRule) → IsRules d words rules →
      RulesRest d (record { name = name; tokens = tokens; rules = before }) words (record { name = name; tokens = tokens; rules = before ++ rules })
  rules_in name tokens before n.end =
      subst (λ l. RulesRest d (record { name = name; tokens = tokens; rules = before }) (w.End ∷ []) (record { name = name; tokens = tokens; rules = l }))
      (sym (append-nil before)) r.rules_end
  rules_in name tokens before (n.parser {n = m} {next = next} {alts = alts} {rules = rules} o a more) =
      r.parser o a
      (subst (λ l. RulesRest d (record { name = name; tokens = tokens; rules = before ++ parser_rule m alts ∷ [] }) next
      (record { name = name; tokens = tokens; rules = l })) (append_assoc before (parser_rule m alts ∷ []) rules)
      (rules_in name tokens (before ++ parser_rule m alts ∷ []) more))
  rules_in name tokens before (n.lexer {n = m} {gap = gap} {next = next} {alts = alts} {rules = rules} o a more) =
      r.lexer o a
      (subst (λ l. RulesRest d (record { name = name; tokens = tokens; rules = before ++ lexer_rule m false gap alts ∷ [] }) next
      (record { name = name; tokens = tokens; rules = l })) (append_assoc before (lexer_rule m false gap alts ∷ []) rules)
      (rules_in name tokens (before ++ lexer_rule m false gap alts ∷ []) more))
  rules_in name tokens before (n.fragment {n = m} {next = next} {alts = alts} {rules = rules} o a more) =
      r.fragment o a
      (subst (λ l. RulesRest d (record { name = name; tokens = tokens; rules = before ++ lexer_rule m true false alts ∷ [] }) next
      (record { name = name; tokens = tokens; rules = l })) (append_assoc before (lexer_rule m true false alts ∷ []) rules)
      (rules_in name tokens (before ++ lexer_rule m true false alts ∷ []) more))

  tokens_in : {words next : List Word} {ms : List (List ℕ)} {G : WrittenGrammar} (name : List ℕ) (tokens : List (List ℕ)) (rules : List WrittenRule)
      → IsTokens words ms next →
      TextRest d (record { name = name; tokens = tokens ++ ms; rules = rules }) next G
      → TokensRest d (record { name = name; tokens = tokens; rules = rules }) words G
  tokens_in {next = next} {G = G} name tokens rules n.tokens_end x =
      r.tokens_end (subst (λ l. TextRest d (record { name = name; tokens = l; rules = rules }) next G) (append-nil tokens) x)
  tokens_in name tokens rules n.last_token x = r.token (r.last x)
  tokens_in {next = next} {G = G} name tokens rules (n.token {n = m} {ns = ms} more) x =
      r.token
      (r.comma (tokens_in name (tokens ++ m ∷ []) rules more
      (subst (λ l. TextRest d (record { name = name; tokens = l; rules = rules }) next G) (sym (append_assoc tokens (m ∷ []) ms)) x)))

  pub text_in : {words next : List Word} {ns : List (List ℕ)} {more : List WrittenRule} (name : List ℕ) (tokens : List (List ℕ)) (rules : List WrittenRule)
      → IsPrequels words ns next → IsRules d next more →
      TextRest d (record { name = name; tokens = tokens; rules = rules }) words (record { name = name; tokens = tokens ++ ns; rules = rules ++ more })
  text_in {words} {more = more} name tokens rules n.no_prequel x =
      subst (λ l. TextRest d (record { name = name; tokens = tokens; rules = rules }) words (record { name = name; tokens = l; rules = rules ++ more }))
      (sym (append-nil tokens)) (r.no_more (rules_in name tokens rules x))
  text_in name tokens rules (n.options_first (n.options e) p) x = r.options e (text_in name tokens rules p x)
  text_in {more = more} name tokens rules (n.tokens_first {next = next} {ms = ms} {ns = ns} t p) x =
      r.tokens
      (tokens_in name tokens rules t
      (subst (λ l. TextRest d (record { name = name; tokens = tokens ++ ms; rules = rules }) next (record { name = name; tokens = l; rules = rules ++ more }))
      (append_assoc tokens ms ns)
      (text_in name (tokens ++ ms) rules p x)))

  rules_back : {g G : WrittenGrammar} {words : List Word} → RulesRest d g words G → (rules : List WrittenRule) × IsRules d words rules
      × (G ≡ record { name = g.name; tokens = g.tokens; rules = g.rules ++ rules })
  rules_back {g} r.rules_end = ([], n.end, ap (λ l. record { name = g.name; tokens = g.tokens; rules = l }) (sym (append-nil g.rules)))
  rules_back {g} {G} (r.parser {n = m} {next = next} {alts = alts} o a x) =
      let b : (rules : List WrittenRule) × IsRules d next rules
      × (G ≡ record { name = g.name; tokens = g.tokens; rules = (g.rules ++ parser_rule m alts ∷ []) ++ rules }) = rules_back x in (
        parser_rule m alts ∷ b.0,
        n.parser o a b.1,
        b.2
            ∙ ap (λ l. record { name = g.name; tokens = g.tokens; rules = l }) (append_assoc g.rules (parser_rule m alts ∷ []) b.0),
      )
  rules_back {g} {G} (r.lexer {n = m} {gap = gap} {next = next} {alts = alts} o a x) =
      let b : (rules : List WrittenRule) × IsRules d next rules
      × (G ≡ record { name = g.name; tokens = g.tokens; rules = (g.rules ++ lexer_rule m false gap alts ∷ []) ++ rules }) = rules_back x in (
        lexer_rule m false gap alts ∷ b.0,
        n.lexer o a b.1,
        b.2
            ∙ ap (λ l. record { name = g.name; tokens = g.tokens; rules = l }) (append_assoc g.rules (lexer_rule m false gap alts ∷ []) b.0),
      )
  rules_back {g} {G} (r.fragment {n = m} {next = next} {alts = alts} o a x) =
      let b : (rules : List WrittenRule) × IsRules d next rules
      × (G ≡ record { name = g.name; tokens = g.tokens; rules = (g.rules ++ lexer_rule m true false alts ∷ []) ++ rules }) = rules_back x in (
        lexer_rule m true false alts ∷ b.0,
        n.fragment o a b.1,
        b.2
            ∙ ap (λ l. record { name = g.name; tokens = g.tokens; rules = l }) (append_assoc g.rules (lexer_rule m true false alts ∷ []) b.0),
      )

  pub record TextBack (g : WrittenGrammar) (words : List Word) (G : WrittenGrammar) : Type 0 where
    pub ns : List (List ℕ)
    pub next : List Word
    pub rules : List WrittenRule
    pub prequels : IsPrequels words ns next
    pub read : IsRules d next rules
    pub same : G ≡ grown g ns rules

  record TokensBack (g : WrittenGrammar) (words : List Word) (G : WrittenGrammar) : Type 0 where
    ms : List (List ℕ)
    after : List Word
    ns : List (List ℕ)
    next : List Word
    rules : List WrittenRule
    declared : IsTokens words ms after
    prequels : IsPrequels after ns next
    read : IsRules d next rules
    same : G ≡ grown g (ms ++ ns) rules

  mutual
    pub text_back : {g G : WrittenGrammar} {words : List Word} → TextRest d g words G → TextBack g words G
    text_back {g} {G} {words} (r.no_more x) =
        let b : (rules : List WrittenRule) × IsRules d words rules × (G ≡ record { name = g.name; tokens = g.tokens; rules = g.rules ++ rules }) =
        rules_back x in
        record {
          ns = [];
          next = words;
          rules = b.0;
          prequels = n.no_prequel;
          read = b.1;
          same = b.2 ∙ ap (λ l. record { name = g.name; tokens = l; rules = g.rules ++ b.0 }) (sym (append-nil g.tokens));
        }
    text_back {g} {G} (r.options e x) =
        let b : TextBack g _ G = text_back x in
        record { ns = b.ns; next = b.next; rules = b.rules; prequels = n.options_first (n.options e) b.prequels; read = b.read; same = b.same }
    text_back {g} {G} (r.tokens x) =
        let b : TokensBack g _ G = tokens_back x in
        record { ns = b.ms ++ b.ns; next = b.next; rules = b.rules; prequels = n.tokens_first b.declared b.prequels; read = b.read; same = b.same }

    tokens_back : {g G : WrittenGrammar} {words : List Word} → TokensRest d g words G → TokensBack g words G
    tokens_back {g} {G} (r.tokens_end {words = words} x) =
        let b : TextBack g words G = text_back x in
        record {
          ms = [];
          after = words;
          ns = b.ns;
          next = b.next;
          rules = b.rules;
          declared = n.tokens_end;
          prequels = b.prequels;
          read = b.read;
          same = b.same;
        }
    tokens_back {g} {G} (r.token {n = m} (r.last {words = words} x)) =
        let b : TextBack (with_token g m) words G = text_back x in
        record {
          ms = m ∷ [];
          after = words;
          ns = b.ns;
          next = b.next;
          rules = b.rules;
          declared = n.last_token;
          prequels = b.prequels;
          read = b.read;
          same = b.same ∙ ap (λ l. record { name = g.name; tokens = l; rules = g.rules ++ b.rules }) (append_assoc g.tokens (m ∷ []) b.ns);
        }
    tokens_back {g} {G} (r.token {n = m} (r.comma {words = words} x)) =
        let b : TokensBack (with_token g m) words G = tokens_back x in
        record {
          ms = m ∷ b.ms;
          after = b.after;
          ns = b.ns;
          next = b.next;
          rules = b.rules;
          declared = n.token b.declared;
          prequels = b.prequels;
          read = b.read;
          same = b.same ∙ ap (λ l. record { name = g.name; tokens = l; rules = g.rules ++ b.rules }) (append_assoc g.tokens (m ∷ []) (b.ms ++ b.ns));
        }
