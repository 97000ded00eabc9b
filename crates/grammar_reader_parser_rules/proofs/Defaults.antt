-- Words that no clause of its own names, at each state in a parser rule, and references after `~`.
use Rattle.std.proofs.Common.{◌≡◌, refl, List, Bool, true, false, cond, Some, None, [], ◌∷◌, ◌++◌}
use Rattle.grammar_tree.specs.Written.{Reference, WrittenTerm}
use Rattle.grammar_reader_words.specs.declared.word.Word.{Word}
use Rattle.grammar_reader_words.specs.declared.word.Word.TheVariants as w
use Rattle.grammar_reader_notation.specs.Notation.{is_eof}
use Rattle.grammar_reader_machine.specs.Machine as m
use Rattle.grammar_reader_parser_rules.specs.inner.Terms.{is_name, reference}
use Rattle.grammar_reader_parser_rules.specs.inner.References.{after_reference, after_listed}

pub no_opening : (b : m.Body) (word : Word) → (word ≡ w.Less → ⊥) → m.step_alt b word ≡ m.step_elements b word
no_opening b w.Less h = absurd (h refl)
no_opening b _ h = refl

pub no_suffix : (b : m.Body) (t : WrittenTerm) (word : Word) → (word ≡ w.Question → ⊥) → (word ≡ w.Star → ⊥) → (word ≡ w.Plus → ⊥)
    → m.step_after b t word ≡ m.step_elements (m.add b t) word
no_suffix b t w.Question h k l = absurd (h refl)
no_suffix b t w.Star h k l = absurd (k refl)
no_suffix b t w.Plus h k l = absurd (l refl)
no_suffix b t _ h k l = refl

pub no_label : (b : m.Body) (t : WrittenTerm) (word : Word) → (word ≡ w.Equals → ⊥) → (word ≡ w.PlusEquals → ⊥)
    → m.step_after_name b t word ≡ m.step_after b t word
no_label b t w.Equals h k = absurd (h refl)
no_label b t w.PlusEquals h k = absurd (k refl)
no_label b t _ h k = refl

unless_end : (b : m.Body) (r : Reference) (t : Bool) → cond t None (Some (m.AfterAtom b (WrittenTerm.but (r ∷ [])))) ≡ after_reference b (cond t None (Some r))
unless_end b r true = refl
unless_end b r false = refl

pub no_bracket : (b : m.Body) (word : Word) → (word ≡ w.Open → ⊥) → m.step_ref b word ≡ after_reference b (reference word)
no_bracket b w.Open h = absurd (h refl)
no_bracket b (w.Upper n) h = unless_end b (Reference.name n) (is_eof n)
no_bracket b _ h = refl

unless_end_listed : (b : m.Body) (refs : List Reference) (r : Reference) (t : Bool)
    → cond t None (Some (m.AfterRef b (refs ++ r ∷ []))) ≡ after_listed b refs (cond t None (Some r))
unless_end_listed b refs r true = refl
unless_end_listed b refs r false = refl

pub listed : (b : m.Body) (refs : List Reference) (word : Word) → m.step_ref_in b refs word ≡ after_listed b refs (reference word)
listed b refs (w.Upper n) = unless_end_listed b refs (Reference.name n) (is_eof n)
listed b refs _ = refl

pub alternative_name : (b : m.Body) (word : Word) → m.provided (is_name word) (m.AfterAltName b) ≡ m.step_alt_name b word
alternative_name b (w.Upper n) = refl
alternative_name b (w.Lower n) = refl
alternative_name b _ = refl

pub opening_name : (b : m.Body) (word : Word) → m.provided (is_name word) (m.AtOpeningEquals b) ≡ m.step_opening_name b word
opening_name b (w.Upper n) = refl
opening_name b (w.Lower n) = refl
opening_name b _ = refl
