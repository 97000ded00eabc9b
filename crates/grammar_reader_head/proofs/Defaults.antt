-- Words that no clause of its own names, at each state in the text's head and in options.
use Rattle.std.proofs.Common.{ℕ, ◌≡◌, refl}
use Rattle.grammar_tree.specs.Written.{WrittenGrammar}
use Rattle.grammar_reader_words.specs.declared.word.Word.{Word}
use Rattle.grammar_reader_words.specs.declared.word.Word.TheVariants as w
use Rattle.grammar_reader_machine.specs.Machine as m

pub no_prequel : (g : WrittenGrammar) (word : Word) → (word ≡ w.Options → ⊥) → (word ≡ w.Tokens → ⊥) → m.step_prequel g word ≡ m.step_rule g word
no_prequel g w.Options h k = absurd (h refl)
no_prequel g w.Tokens h k = absurd (k refl)
no_prequel g _ h k = refl

pub no_path : (v : m.ValueOf) (word : Word) → (word ≡ w.Dot → ⊥) → m.step_path v word ≡ m.step_after_value v word
no_path v w.Dot h = absurd (h refl)
no_path v _ h = refl

pub no_options : (depth : ℕ) (g : WrittenGrammar) (head : m.Head) (word : Word) → (word ≡ w.Options → ⊥)
    → m.step_head depth g head word ≡ m.step_colon depth g head word
no_options depth g head w.Options h = absurd (h refl)
no_options depth g head _ h = refl
