-- The fault that is answered is the name of the first word that can't follow.
use Rattle.std.proofs.Common.{◌≡◌, Bool, true, false, cond, List, [], ◌∷◌, ◌++◌, Option, Some, None, refl, sym, ap, ◌∙◌}
use Rattle.grammar_reader_words.specs.declared.word.Word.{Word}
use Rattle.grammar_reader_words.specs.declared.word.Word.TheVariants as w
use Rattle.grammar_reader_words.specs.declared.word.Placed.{Placed}
use Rattle.grammar_reader_machine.specs.Machine as m
use Rattle.grammar_reader.specs.WordByWord.{run}
use Rattle.grammar_reader_notation.specs.Naming.{IsTooDeep, too_deep, IsNamed, nested_too_deep, unsupported, syntax}
use Rattle.grammar_reader.specs.Positions.{at_block}
use Rattle.grammar_reader.specs.Rows.{row, is_deep, fault_of, fault_at}
use Rattle.grammar_reader_notation.specs.declared.fault.What.{What}
use Rattle.grammar_reader_notation.specs.declared.fault.ReadFault.TheVariants as f
use Rattle.grammar_reader.proofs.Following.{reads, after, some_read, none_read, stepped}
use Rattle.grammar_reader.proofs.Deeper.{deeper, deep_run}
use Rattle.grammar_reader.proofs.Firsts.{fits_first, none_fits}

-- where a block may begin, its bracket can follow if one more block is allowed
opens : (s : m.State) → at_block s ≡ true → reads (m.step 65 (deeper s) w.Open) ≡ true
opens (m.AtAlt b) e = refl
opens (m.InElements b) e = refl
opens (m.Suffixed b) e = refl
opens (m.AfterName b t) e = refl
opens (m.AfterAtom b t) e = refl
opens (m.AtAtom b) e = refl
opens (m.InLex b) e = refl
opens (m.LexSuffixed b) e = refl
opens (m.AfterLexAtom b t) e = refl
opens (m.AfterLiteral b k) e = refl
opens (m.AfterSet b k) e = refl
opens (m.AfterSetStar b k) e = refl
opens (m.AfterItemChar b m.Alone c) e = refl
opens (m.AfterItemChar b (m.Listed ranges) c) e = cc e
opens _ e = cc e

-- elsewhere that changes nothing
shut : (s : m.State) → at_block s ≡ false → m.step 64 s w.Open ≡ None → m.step 65 (deeper s) w.Open ≡ None
shut (m.InPath (m.InEntry g o)) h e = refl
shut (m.InPath (m.InOpening b)) h e = refl
shut (m.AfterValue (m.InEntry g o)) h e = refl
shut (m.AfterValue (m.InOpening b)) h e = refl
shut (m.AtValue v) h e = refl
shut (m.AtPathName v) h e = refl
shut (m.AfterItemChar b m.Alone c) h e = cc h
shut (m.AfterItemChar b (m.Listed ranges) c) h e = refl
shut _ h e = cc (h, e)

module _ (before : List Word) (s : m.State) (read : run 64 m.AtStart before ≡ Some s) where
  there : run 65 m.AtStart (before ++ w.Open ∷ []) ≡ m.step 65 (deeper s) w.Open
  there = after 65 before (w.Open ∷ []) (deeper s) (deep_run 64 m.AtStart before s read) ∙ stepped (m.step 65 (deeper s) w.Open)

  deep_in : (word : Word) → is_deep s word ≡ true → IsTooDeep before word
  deep_in w.Open e = too_deep (some_read 65 (before ++ w.Open ∷ []) (m.step 65 (deeper s) w.Open) there (opens s e))
  deep_in _ e = cc e

  deep_out : (word : Word) → m.step 64 s word ≡ None → IsTooDeep before word → is_deep s word ≡ true
  deep_out _ e (too_deep h) = tried (at_block s) refl where
    tried : (b : Bool) → at_block s ≡ b → at_block s ≡ true
    tried true k = k
    tried false k = absurd (none_read 65 (before ++ w.Open ∷ []) (m.step 65 (deeper s) w.Open) there (ap reads (shut s k e)) h)

  named_row : (current : Placed) → (IsTooDeep before current.word → ⊥) → (o : Option What) → row s current.word ≡ o
      → IsNamed before current (fault_of o current.offset)
  named_row current h (Some what) e = unsupported h (fits_first before s read current.word what e)
  named_row current h None e = syntax h (none_fits before s read current.word e)

  -- the word can't follow
  pub named : (current : Placed) → m.step 64 s current.word ≡ None → IsNamed before current (fault_at s current.word current.offset)
  named current e = tried (is_deep s current.word) refl where
    tried : (b : Bool) → is_deep s current.word ≡ b
        → IsNamed before current (cond b (f.NestedTooDeep current.offset) (fault_of (row s current.word) current.offset))
    tried true k = nested_too_deep (deep_in current.word k)
    tried false k = named_row current (λ h. let x : false ≡ true = sym k ∙ deep_out current.word e h in cc x) (row s current.word) refl
