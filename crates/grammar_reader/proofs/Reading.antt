-- Reading a text, a word at a time.
use Rattle.std.proofs.Common.{ℕ, ◌≡◌, true, false, List, [], ◌∷◌, ◌++◌, Option, Some, None, Err, refl, sym, ap, subst, ◌∙◌, append_assoc}
use Rattle.grammar_tree.specs.Written.{WrittenGrammar, LexerTerm}
use Rattle.grammar_reader_words.specs.Words.{words_of, is_last}
use Rattle.grammar_reader_words.specs.declared.word.Word.{Word}
use Rattle.grammar_reader_words.specs.declared.word.Word.TheVariants as w
use Rattle.grammar_reader_words.specs.declared.word.Placed.{Placed}
use Rattle.grammar_reader_notation.specs.Sets.{outside}
use Rattle.grammar_reader_machine.specs.Machine as m
use Rattle.grammar_reader_machine.specs.Machine.{State, AtStart, AtEnd, step}
use Rattle.grammar_reader.specs.WordByWord.{run}
use Rattle.grammar_reader_notation.specs.Notation.{IsTextOf, BeginsOf, IsText}
use Rattle.grammar_reader.proofs.Regions.{Region, starting, heading, between, prequel, named, opening, body, suffixed, looped, last, command, finished, next}
use Rattle.grammar_reader.proofs.RegionSteps.{Keeps, region_of, region_of_owner, region_of_value, keeps_step}
use Rattle.grammar_reader.proofs.Runs.{reached, stuck, accepts, further, accepted, EndsText, end_step}
use Rattle.std.specs.Str.{IsUtf8}
use Rattle.grammar_reader_notation.specs.declared.fault.ReadFault.{ReadFault}
use Rattle.grammar_reader_notation.specs.declared.fault.ReadFault.TheVariants as f
use Rattle.grammar_reader_notation.specs.Naming.{IsNamed}
use Rattle.grammar_reader_notation.specs.Reads.{only_words, IsFirstFault, IsFaultOf}
use Rattle.grammar_reader.specs.Rows.{fault_at}
use Rattle.grammar_reader.proofs.Called as called

-- No bad word can follow, and no set with a property.

none_in_lex : (b : m.LexBody) (enclosing : List (m.Frame LexerTerm)) → m.step_lex_end b enclosing w.Bad ≡ None
none_in_lex b [] = refl
none_in_lex b (f ∷ enclosing) = refl

none_at_value : (v : m.ValueOf) → m.step_after_value v w.Bad ≡ None
none_at_value (m.InEntry g o) = refl
none_at_value (m.InOpening b) = refl

none_after_one : (b : m.LexBody) (p : m.ItemPosition) (i : List (ℕ × ℕ)) → m.step_after_one b p i w.Bad ≡ None
none_after_one b m.Alone i = none_in_lex (m.lex_add b (LexerTerm.set (outside i))) b.enclosing
none_after_one b (m.Listed ranges) i = refl

bad_step : (d : ℕ) (s : State) → step d s w.Bad ≡ None
bad_step d (m.InPath v) = none_at_value v
bad_step d (m.AfterValue v) = none_at_value v
bad_step d (m.InLex b) = none_in_lex b b.enclosing
bad_step d (m.LexSuffixed b) = none_in_lex b b.enclosing
bad_step d (m.AfterLexAtom b t) = none_in_lex (m.lex_add b t) b.enclosing
bad_step d (m.AfterLiteral b k) = none_in_lex (m.lex_add b (LexerTerm.literal k)) b.enclosing
bad_step d (m.AfterSet b s) = none_in_lex (m.lex_add b (LexerTerm.set s)) b.enclosing
bad_step d (m.AfterSetStar b s) = none_in_lex (m.lex_add b (LexerTerm.star (LexerTerm.set s))) b.enclosing
bad_step d (m.AfterItemChar b p c) = none_after_one b p ((c, c) ∷ [])
bad_step d _ = refl

no_lex : (b : m.LexBody) (enclosing : List (m.Frame LexerTerm)) → m.step_lex_end b enclosing w.Property ≡ None
no_lex b [] = refl
no_lex b (f ∷ enclosing) = refl

no_value : (v : m.ValueOf) → m.step_after_value v w.Property ≡ None
no_value (m.InEntry g o) = refl
no_value (m.InOpening b) = refl

no_one : (b : m.LexBody) (p : m.ItemPosition) (i : List (ℕ × ℕ)) → m.step_after_one b p i w.Property ≡ None
no_one b m.Alone i = no_lex (m.lex_add b (LexerTerm.set (outside i))) b.enclosing
no_one b (m.Listed ranges) i = refl

property_step : (d : ℕ) (s : State) → step d s w.Property ≡ None
property_step d (m.InPath v) = no_value v
property_step d (m.AfterValue v) = no_value v
property_step d (m.InLex b) = no_lex b b.enclosing
property_step d (m.LexSuffixed b) = no_lex b b.enclosing
property_step d (m.AfterLexAtom b t) = no_lex (m.lex_add b t) b.enclosing
property_step d (m.AfterLiteral b k) = no_lex (m.lex_add b (LexerTerm.literal k)) b.enclosing
property_step d (m.AfterSet b s) = no_lex (m.lex_add b (LexerTerm.set s)) b.enclosing
property_step d (m.AfterSetStar b s) = no_lex (m.lex_add b (LexerTerm.star (LexerTerm.set s))) b.enclosing
property_step d (m.AfterItemChar b p c) = no_one b p ((c, c) ∷ [])
property_step d _ = refl

-- where more can follow, the word wasn't the last
not_last : (s t : State) (word : Word) → step 64 s word ≡ Some t → ((G : WrittenGrammar) → t ≡ AtEnd G → ⊥) → is_last word ≡ false
not_last s t w.End e k = let x : EndsText 64 (Some t) = subst (EndsText 64) e (end_step 64 s) in absurd (k x.0 x.1)
not_last s t w.Bad e k = let x : None ≡ Some t = sym (bad_step 64 s) ∙ e in cc x
not_last s t w.Property e k = let x : None ≡ Some t = sym (property_step 64 s) ∙ e in cc x
not_last s t _ e k = refl

-- a text ends with the word that is its end
only_end : (s : Region) (word : Word) → next s word ≡ finished → (s ≡ finished → ⊥) → is_last word ≡ true
only_end starting _ e k = cc e
only_end heading w.Semicolon e k = cc e
only_end heading _ e k = cc e
only_end between w.End e k = refl
only_end between (w.Lower n) e k = cc e
only_end between (w.Upper n) e k = cc e
only_end between w.Options e k = cc e
only_end between w.Tokens e k = cc e
only_end between _ e k = cc e
only_end prequel w.CloseBrace e k = cc e
only_end prequel _ e k = cc e
only_end (named side) w.Colon e k = cc e
only_end (named side) _ e k = cc e
only_end (opening side) w.Colon e k = cc e
only_end (opening side) _ e k = cc e
only_end (body side) w.Semicolon e k = cc e
only_end (body side) w.Arrow e k = cc e
only_end (body side) w.Question e k = cc e
only_end (body side) w.Star e k = cc e
only_end (body side) w.Plus e k = cc e
only_end (body side) _ e k = cc e
only_end (suffixed side) w.Semicolon e k = cc e
only_end (suffixed side) w.Arrow e k = cc e
only_end (suffixed side) w.Question e k = cc e
only_end (suffixed side) _ e k = cc e
only_end (looped side) w.Semicolon e k = cc e
only_end (looped side) _ e k = cc e
only_end (last side) w.Semicolon e k = cc e
only_end (last side) w.Bar e k = cc e
only_end (last side) w.Arrow e k = cc e
only_end (last side) _ e k = cc e
only_end (command side) w.Semicolon e k = cc e
only_end (command side) w.Bar e k = cc e
only_end (command side) _ e k = cc e
only_end finished _ e k = absurd (k refl)

open_owner : (o : m.Owner) → region_of_owner o ≡ finished → ⊥
open_owner m.OfText f = cc f
open_owner (m.OfRule head) f = cc f

open_value : (v : m.ValueOf) → region_of_value v ≡ finished → ⊥
open_value (m.InEntry g o) f = open_owner o f
open_value (m.InOpening b) f = cc f

open_still : (s : State) (t : State) (word : Word) → step 64 s word ≡ Some t → region_of s ≡ finished → ⊥
open_still (m.AtEnd g) t word e f = cc e
open_still (m.AtOptionsBrace g o) t word e f = open_owner o f
open_still (m.AtEntry g o) t word e f = open_owner o f
open_still (m.AtEntryEquals g o) t word e f = open_owner o f
open_still (m.AtValue v) t word e f = open_value v f
open_still (m.InPath v) t word e f = open_value v f
open_still (m.AtPathName v) t word e f = open_value v f
open_still (m.AfterValue v) t word e f = open_value v f
open_still _ t word e f = cc f

at_last : (s : State) (word : Word) (G : WrittenGrammar) → step 64 s word ≡ Some (AtEnd G) → is_last word ≡ true
at_last s word G e = only_end (region_of s) word (subst (Keeps (region_of s) word) e (keeps_step 64 s word)) (open_still s (AtEnd G) word e)

is_end : (s : State) (word : Word) (G : WrittenGrammar) → step 64 s word ≡ Some (AtEnd G) → word ≡ w.End
is_end s word G e = shown word (at_last s word G e) e where
  shown : (word : Word) → is_last word ≡ true → step 64 s word ≡ Some (AtEnd G) → word ≡ w.End
  shown w.End a e = refl
  shown w.Bad a e = let x : None ≡ Some (AtEnd G) = sym (bad_step 64 s) ∙ e in cc x
  shown w.Property a e = let x : None ≡ Some (AtEnd G) = sym (property_step 64 s) ∙ e in cc x
  shown _ a e = cc a

pub record IsReading (bytes : List ℕ) (remaining : List Placed) (s : State) : Type 0 where
  pub before : List Placed
  pub cut : words_of bytes ≡ before ++ remaining
  pub read : run 64 AtStart (only_words before) ≡ Some s
  pub some : remaining ≡ [] → ⊥

parted : (before : List Placed) (p : Placed) (remaining : List Placed)
    → only_words (before ++ p ∷ remaining) ≡ (only_words before ++ p.word ∷ []) ++ only_words remaining
parted [] p remaining = refl
parted (x ∷ before) p remaining = ap (λ ws. x.word ∷ ws) (parted before p remaining)

snoc : (before : List Placed) (p : Placed) → only_words (before ++ p ∷ []) ≡ only_words before ++ p.word ∷ []
snoc [] p = refl
snoc (x ∷ before) p = ap (λ ws. x.word ∷ ws) (snoc before p)

module _ (bytes : List ℕ) (remaining more : List Placed) (p : Placed) (s : State) (r : IsReading bytes remaining s) (e : remaining ≡ p ∷ more) where
  whole : words_of bytes ≡ r.before ++ p ∷ more
  whole = r.cut ∙ ap (λ ps. r.before ++ ps) e

  now : (o : Option State) → step 64 s p.word ≡ o → run 64 AtStart (only_words r.before ++ p.word ∷ []) ≡ o
  now o f = further 64 (only_words r.before) p.word s o r.read f

  pub goes_on : (t : State) → step 64 s p.word ≡ Some t → ((G : WrittenGrammar) → t ≡ AtEnd G → ⊥) → (is_last p.word ≡ false → more ≡ [] → ⊥)
      → IsReading bytes more t
  goes_on t f k goes = record {
    before = r.before ++ p ∷ [];
    cut = whole ∙ sym (append_assoc r.before (p ∷ []) more);
    read = subst (λ ws. run 64 AtStart ws ≡ Some t) (sym (snoc r.before p)) (now (Some t) f);
    some = goes (not_last s t p.word f k);
  }

  pub stops : step 64 s p.word ≡ None → IsFirstFault bytes (fault_at s p.word p.offset)
  stops f = record {
    before = r.before;
    current = p;
    after = more;
    cut = whole;
    begun = reached 64 s (only_words r.before) r.read;
    stuck = λ b. stuck 64 (only_words r.before ++ p.word ∷ []) (now None f) (subst (BeginsOf 64) (snoc r.before p) b);
    named = called.named (only_words r.before) s r.read p f;
  }

  pub no_text : (G : WrittenGrammar) → step 64 s p.word ≡ None → IsText (only_words (words_of bytes)) G → ⊥
  no_text G f t =
      stuck 64 (only_words r.before ++ p.word ∷ []) (now None f)
      (only_words more, G, subst (λ ws. IsTextOf 64 ws G) (ap (λ ps. only_words ps) whole ∙ parted r.before p more) t)

  ends : (G : WrittenGrammar) → step 64 s p.word ≡ Some (AtEnd G) → (is_last p.word ≡ true → more ≡ [])
      → only_words (words_of bytes) ≡ only_words r.before ++ p.word ∷ []
  ends G f over = ap (λ ps. only_words ps) (whole ∙ ap (λ ps. r.before ++ p ∷ ps) (over (at_last s p.word G f))) ∙ snoc r.before p

  pub is_text : (G : WrittenGrammar) → step 64 s p.word ≡ Some (AtEnd G) → (is_last p.word ≡ true → more ≡ []) → IsText (only_words (words_of bytes)) G
  is_text G f over = subst (λ ws. IsTextOf 64 ws G) (sym (ends G f over)) (accepts 64 (only_words r.before ++ p.word ∷ []) G (now (Some (AtEnd G)) f))

  pub same_text : (G H : WrittenGrammar) → step 64 s p.word ≡ Some (AtEnd G) → (is_last p.word ≡ true → more ≡ []) → IsText (only_words (words_of bytes)) H
      → G ≡ H
  same_text G H f over t =
      let last : p.word ≡ w.End = is_end s p.word G f in
      let shown : IsTextOf 64 (only_words r.before ++ w.End ∷ []) H =
      subst (λ ws. IsTextOf 64 ws H) (ends G f over ∙ ap (λ word. only_words r.before ++ word ∷ []) last) t in
      let current : step 64 s w.End ≡ Some (AtEnd H) = accepted 64 (only_words r.before) s H r.read shown in
      let there : step 64 s w.End ≡ Some (AtEnd G) = subst (λ word. step 64 s word ≡ Some (AtEnd G)) last f in
      cc (sym there ∙ current)

-- no other fault is a name
pub is_fault : (bytes : List ℕ) (fault : ReadFault) → IsUtf8 bytes → IsFirstFault bytes fault → IsFaultOf bytes (Err fault)
is_fault bytes (f.NotUtf8 offset) u h = absurd (none h.named) where
  none : {before : List Word} {current : Placed} → IsNamed before current (f.NotUtf8 offset) → ⊥
  none n = elim n [ ]
is_fault bytes (f.Syntax offset) u h = (u, h)
is_fault bytes (f.Unsupported what offset) u h = (u, h)
is_fault bytes (f.NestedTooDeep offset) u h = (u, h)
is_fault bytes (f.Memory _) u h = tt
