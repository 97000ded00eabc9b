-- Bytes have one fault at most, other than out of memory.
use Rattle.std.proofs.Common.{◌≡◌, ◌≢◌, ◌⊎◌, inl, inr, ℕ, List, [], ◌∷◌, ◌++◌, Option, Err, refl, sym, ap, ◌∙◌, subst, append_assoc}
use Rattle.std.specs.Str.{IsUtf8}
use Rattle.std.specs.Str.Lossy.{utf8_valid_len}
use Rattle.faults.specs.Memory.{ran_out}
use Rattle.grammar_tree.specs.Written.{CheckedGrammar, WrittenGrammar}
use Rattle.grammar_reader_words.specs.declared.word.Placed.{Placed}
use Rattle.grammar_reader_words.specs.Words.{words_of}
use Rattle.grammar_reader_notation.specs.Notation.{IsText}
use Rattle.grammar_reader_notation.specs.Reads.{IsFaultOf, IsFirstFault, IsProfile, only_words}
use Rattle.grammar_reader_notation.specs.declared.fault.ReadFault.{ReadFault}
use Rattle.grammar_reader_notation.specs.declared.fault.ReadFault.TheVariants as read
use Rattle.grammar_reader_notation.proofs.Lent.{faults_once}
use Rattle.grammar_check.specs.CheckFaults.{IsFirstInTable}
use Rattle.grammar_check.specs.declared.fault.CheckFault.{CheckFault}
use Rattle.grammar_check.proofs.Lent.{first_fault_once}
use Rattle.grammar_load.specs.Answer.{IsGrammarFault, Spells}
use Rattle.grammar_load.specs.Laws.{GrammarFaultOnce}
use Rattle.grammar_load.specs.declared.fault.GrammarFault.{GrammarFault}
use Rattle.grammar_load.specs.declared.fault.GrammarFault.TheVariants.{Read, Check, Memory}
use Rattle.grammar_load.proofs.AnswerLemmas.{no_text}

-- the words of two lists, one after the other
both_words : (xs ys : List Placed) → only_words (xs ++ ys) ≡ only_words xs ++ only_words ys
both_words [] ys = refl
both_words (x ∷ xs) ys = ap (λ ws. x.word ∷ ws) (both_words xs ys)

module _ (bytes : List ℕ) where
  -- A fault of the text is where its bytes aren't UTF-8, or at its first word that can't follow.
  abbrev Cause : ReadFault → Type 0
  Cause fault = ((IsUtf8 bytes → ⊥) × (fault ≡ read.NotUtf8 (utf8_valid_len bytes))) ⊎ (IsUtf8 bytes × IsFirstFault bytes fault)

  cause : (fault : ReadFault) → fault ≢ read.Memory ran_out → IsFaultOf bytes (Err fault) → Cause fault
  cause (read.NotUtf8 offset) some (invalid, e) = inl (invalid, ap read.NotUtf8 e)
  cause (read.Syntax offset) some (utf8, first) = inr (utf8, first)
  cause (read.Unsupported what offset) some (utf8, first) = inr (utf8, first)
  cause (read.NestedTooDeep offset) some (utf8, first) = inr (utf8, first)
  cause (read.Memory _) some it = absurd (some refl)

  same_cause : (a b : ReadFault) → Cause a → Cause b → a ≡ b
  same_cause a b (inl (invalid, e)) (inl (invalid', f)) = e ∙ sym f
  same_cause a b (inl (invalid, e)) (inr (utf8, first)) = absurd (invalid utf8)
  same_cause a b (inr (utf8, first)) (inl (invalid, e)) = absurd (invalid utf8)
  same_cause a b (inr (utf8, first)) (inr (same, other)) = faults_once bytes a b first other

  -- a text with such a fault spells no grammar
  no_profile : (fault : ReadFault) → Cause fault → (G : WrittenGrammar) → IsProfile bytes G → ⊥
  no_profile fault (inl (invalid, e)) G it = invalid it.utf8
  no_profile fault (inr (utf8, first)) G it =
      let begun = first.before ++ first.current ∷ [] in
      let cut : only_words (words_of bytes) ≡ only_words begun ++ only_words first.after =
      ap only_words (first.cut ∙ sym (append_assoc first.before (first.current ∷ []) first.after)) ∙ both_words begun first.after in
      first.stuck (only_words first.after, G, subst (λ ws. IsText ws G) cut it.text)

  module _ (wanted : Option (List ℕ)) where
    same_check : (G H : WrittenGrammar) (a b : CheckFault) → G ≡ H → IsFirstInTable G wanted a → IsFirstInTable H wanted b → a ≡ b
    same_check G H a b e first other = first_fault_once H wanted a b (subst (λ g. IsFirstInTable g wanted a) e first) other

    once : (one other : GrammarFault) → one ≢ Memory ran_out → other ≢ Memory ran_out → IsGrammarFault bytes wanted one → IsGrammarFault bytes wanted other
        → one ≡ other
    once (Read a) (Read b) s t (some, it) (some', that) = ap Read (same_cause a b (cause a some it) (cause b some' that))
    once (Read a) (Check b) s t (some, it) (H, spelled, that) = absurd (no_profile a (cause a some it) H spelled.text)
    once (Check a) (Read b) s t (G, spelled, it) (some, that) = absurd (no_profile b (cause b some that) G spelled.text)
    once (Check a) (Check b) s t (G, spelled, it) (H, other, that) = ap Check (same_check G H a b (spelled.only H other.text) it that)
    once (Memory _) other s t it that = absurd (s refl)
    once one (Memory _) s t it that = absurd (t refl)

    refused : (fault : GrammarFault) → fault ≢ Memory ran_out → IsGrammarFault bytes wanted fault → (it : CheckedGrammar) → Spells bytes wanted it → ⊥
    refused (Read a) s (some, it) c is = no_profile a (cause a some it) c.grammar is.text
    refused (Check a) s (G, spelled, it) c is = no_text bytes wanted G spelled.only a it c is
    refused (Memory _) s it c is = absurd (s refl)

pub grammar_fault_once : GrammarFaultOnce
grammar_fault_once bytes wanted = record { once = once bytes wanted; refused = refused bytes wanted }
