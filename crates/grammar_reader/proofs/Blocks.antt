-- Whether blocks are open in a lexer rule.
use Rattle.std.specs.Bool.{◌==◌}
use Rattle.std.proofs.Common.{◌≡◌, ℕ, suc, length, List, [], ◌∷◌, false, refl, sym, ◌∙◌, arith}
use Rattle.std.proofs.lemmas.Bool.Decides.{nat_tests}
use Rattle.grammar_tree.specs.Written.{LexerTerm}
use Rattle.grammar_reader_machine.specs.declared.frame.LexFrame.{LexFrame}
use Rattle.grammar_reader_machine.specs.View.{lex_frame_of, lex_frames_around}
use Rattle.grammar_reader_machine.specs.Machine as m
use Rattle.grammar_reader.specs.Positions.{no_block}

some_block : (inner : List (m.Frame LexerTerm)) (f : m.Frame LexerTerm) (fs : List LexFrame) → no_block (lex_frames_around (f ∷ inner) fs) ≡ false
some_block inner f [] = refl
some_block inner f (g ∷ fs) = some_block (f ∷ inner) (lex_frame_of g) fs

suc_not_zero : (n : ℕ) → (suc n == 0) ≡ false
suc_not_zero n = grind (arith, nat_tests)

pub no_block_as : (fs : List LexFrame) → no_block (lex_frames_around [] fs) ≡ (length fs == 0)
no_block_as [] = refl
no_block_as (f ∷ fs) = some_block [] (lex_frame_of f) fs ∙ sym (suc_not_zero (length fs))
