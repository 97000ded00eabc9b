use Rattle.std.proofs.Common.{◌≡◌, refl, sym, ◌∙◌}
use Rattle.grammar_reader_words.specs.declared.word.Word.{Word}
use Rattle.grammar_reader_words.specs.declared.word.Word.TheVariants as w
use Rattle.grammar_reader_machine.specs.Machine as m
use Rattle.grammar_reader_machine.specs.View.{state_of}
use Rattle.grammar_reader.specs.Positions.{after_arrow}
use Rattle.grammar_reader.specs.Rows.{breaks_command}
use Rattle.grammar_reader.proofs.naming.breaks_command.Goals as goal

-- what breaks a command, for each word that hasn't its own line
of_others : (s : m.State) (word : Word) → (word ≡ w.Arrow → ⊥) → (word ≡ w.Bar → ⊥) → (word ≡ w.Semicolon → ⊥) → breaks_command s word ≡ after_arrow s
of_others s w.Arrow a b e = absurd (a refl)
of_others s w.Bar a b e = absurd (b refl)
of_others s w.Semicolon a b e = absurd (e refl)
of_others s _ a b e = refl

pub returns-in_default : goal.returns-in_default
returns-in_default c =
    c.after_arrow-in_default.ensures
    ∙ sym (of_others (state_of c.args.state.now) c.args.word.now c.in_default.not-Arrow c.in_default.not-Bar c.in_default.not-Semicolon)
