-- Words that no clause of its own names, at each state in a lexer rule.
use Rattle.std.proofs.Common.{ℕ, ◌≡◌, List, [], ◌∷◌, refl}
use Rattle.grammar_tree.specs.Written.{LexerTerm}
use Rattle.grammar_reader_words.specs.declared.word.Word.{Word}
use Rattle.grammar_reader_words.specs.declared.word.Word.TheVariants as w
use Rattle.grammar_reader_machine.specs.Machine as m

pub no_range : (b : m.LexBody) (text : List ℕ) (word : Word) → (word ≡ w.Dots → ⊥)
    → m.step_after_literal b text word ≡ m.step_lex_after b (LexerTerm.literal text) word
no_range b text w.Dots h = absurd (h refl)
no_range b text _ h = refl

pub no_star : (b : m.LexBody) (s : List (ℕ × ℕ)) (word : Word) → (word ≡ w.Star → ⊥) → m.step_after_set b s word ≡ m.step_lex_after b (LexerTerm.set s) word
no_star b s w.Star h = absurd (h refl)
no_star b s _ h = refl

pub no_loop : (b : m.LexBody) (s : List (ℕ × ℕ)) (word : Word) → (word ≡ w.Question → ⊥)
    → m.step_after_set_star b s word ≡ m.step_lex (m.lex_add b (LexerTerm.star (LexerTerm.set s))) word
no_loop b s w.Question h = absurd (h refl)
no_loop b s _ h = refl

pub no_item_range : (b : m.LexBody) (p : m.ItemPosition) (c : ℕ) (word : Word) → (word ≡ w.Dots → ⊥)
    → m.step_after_item_char b p c word ≡ m.step_after_one b p ((c, c) ∷ []) word
no_item_range b p c w.Dots h = absurd (h refl)
no_item_range b p c _ h = refl
