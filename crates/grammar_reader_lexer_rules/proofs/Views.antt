-- What is seen of terms and of the blocks around them, for the proofs of code that reads lexer rules.
use Rattle.std.proofs.Common.{◌≡◌, ◌-◌, ◌+◌, ℕ, zero, suc, length, List, [], ◌∷◌, ◌++◌, Bool, true, false, Some, None, refl, ap, sym, ◌∙◌}
use Rattle.std.proofs.Math.Numerals.{sub-one, add-one}
use Rattle.grammar_tree.specs.Written.{LexerTerm, lexer_alts}
use Rattle.grammar_tree.proofs.Lent.{lex_term-Literal, lex_term-Set, lex_term-Name, lex_term-Block}
use Rattle.grammar_reader_words.specs.declared.word.Word.{Word}
use Rattle.grammar_reader_machine.specs.declared.frame.LexFrame.{LexFrame}
use Rattle.grammar_reader_machine.specs.View.{lex_frame_of, lex_frames_around}
use Rattle.grammar_reader_machine.specs.Machine as m

pub lex_frames_push : (inner : List (m.Frame LexerTerm)) (fs : List LexFrame) (f : LexFrame)
    → lex_frames_around inner (fs ++ f ∷ []) ≡ lex_frame_of f ∷ lex_frames_around inner fs
lex_frames_push inner [] f = refl
lex_frames_push inner (g ∷ fs) f = lex_frames_push (lex_frame_of g ∷ inner) fs f

pub lex_with_block_as : (b : m.LexBody) (r : ℕ) (enclosing : List (m.Frame LexerTerm)) (current : m.Frame LexerTerm) → (r ≡ 0 → ⊥)
    → enclosing ≡ b.current ∷ b.enclosing → current ≡ m.fresh →
    m.lex_with_block b r ≡ Some
    (m.InLex (record { text = b.text; name = b.name; fragment = b.fragment; known = b.known; blocks_left = r - 1; enclosing = enclosing; current = current }))
lex_with_block_as b zero enclosing current h e f = absurd (h refl)
lex_with_block_as b (suc r) enclosing current h e f =
    ap
    (λ k. Some
    (m.InLex
    (record { text = b.text; name = b.name; fragment = b.fragment; known = b.known; blocks_left = k; enclosing = b.current ∷ b.enclosing; current = m.fresh })))
    (sym (sub-one (suc r)))
    ∙ ap
    (λ o. Some
    (m.InLex (record { text = b.text; name = b.name; fragment = b.fragment; known = b.known; blocks_left = suc r - 1; enclosing = o; current = m.fresh })))
    (sym e)
    ∙ ap
    (λ x. Some
    (m.InLex (record { text = b.text; name = b.name; fragment = b.fragment; known = b.known; blocks_left = suc r - 1; enclosing = enclosing; current = x })))
    (sym f)

pub lex_block_end_as : (b : m.LexBody) (after enclosing : List (m.Frame LexerTerm)) (f : m.Frame LexerTerm) (t : LexerTerm) → after ≡ f ∷ enclosing
    → t ≡ LexerTerm.block (lexer_alts (m.whole b.current)) →
    m.lex_block_end b after ≡ Some (m.AfterLexAtom
    (record { text = b.text; name = b.name; fragment = b.fragment; known = b.known; blocks_left = b.blocks_left + 1; enclosing = enclosing; current = f }) t)
lex_block_end_as b after enclosing f t e e' =
    ap (m.lex_block_end b) e
    ∙ ap
    (λ k. Some
    (m.AfterLexAtom (record { text = b.text; name = b.name; fragment = b.fragment; known = b.known; blocks_left = k; enclosing = enclosing; current = f })
    (LexerTerm.block (lexer_alts (m.whole b.current))))) (sym (add-one b.blocks_left))
    ∙ ap
    (λ t. Some
    (m.AfterLexAtom
    (record { text = b.text; name = b.name; fragment = b.fragment; known = b.known; blocks_left = b.blocks_left + 1; enclosing = enclosing; current = f }) t))
    (sym e')

no_top : (b : m.LexBody) (inner : List (m.Frame LexerTerm)) (f : m.Frame LexerTerm) (fs : List LexFrame) (word : Word)
    → m.step_lex_end b (lex_frames_around (f ∷ inner) fs) word ≡ m.step_inner_end b word
no_top b inner f [] word = refl
no_top b inner f (g ∷ fs) word = no_top b (f ∷ inner) (lex_frame_of g) fs word

pub inner_as : (b : m.LexBody) (fs : List LexFrame) (word : Word) → (length fs ≡ 0 → ⊥)
    → m.step_lex_end b (lex_frames_around [] fs) word ≡ m.step_inner_end b word
inner_as b [] word h = absurd (h refl)
inner_as b (f ∷ fs) word h = no_top b [] (lex_frame_of f) fs word

no_loop : (b : m.LexBody) (s : List (ℕ × ℕ)) (inner : List (m.Frame LexerTerm)) (f : m.Frame LexerTerm) (fs : List LexFrame) (fragment : Bool)
    → m.loop_end b s (lex_frames_around (f ∷ inner) fs) fragment ≡ None
no_loop b s inner f [] fragment = refl
no_loop b s inner f (g ∷ fs) fragment = no_loop b s (f ∷ inner) (lex_frame_of g) fs fragment

pub no_loop_end : (b : m.LexBody) (s : List (ℕ × ℕ)) (fs : List LexFrame) (fragment : Bool) → (length fs ≡ 0 → ⊥)
    → m.loop_end b s (lex_frames_around [] fs) fragment ≡ None
no_loop_end b s [] fragment h = absurd (h refl)
no_loop_end b s (f ∷ fs) fragment h = no_loop b s [] (lex_frame_of f) fs fragment

pub loop_end_as : (b : m.LexBody) (s : List (ℕ × ℕ)) (fs : List LexFrame) (fragment : Bool) → length fs ≡ 0 → fragment ≡ false
    → m.loop_end b s (lex_frames_around [] fs) fragment ≡ Some (m.AfterLoop b s)
loop_end_as b s [] false h k = refl
loop_end_as b s [] true h k = cc k
loop_end_as b s (f ∷ fs) fragment h k = cc h

pub ruleset views = (lex_term-Literal, lex_term-Set, lex_term-Name, lex_term-Block, lex_frames_push, lex_with_block_as, lex_block_end_as)
