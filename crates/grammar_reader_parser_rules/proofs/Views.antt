-- What is seen of terms and of the blocks around them, for the proofs of code that reads parser rules.
use Rattle.std.proofs.Common.{◌≡◌, ◌-◌, ◌+◌, ℕ, zero, suc, length, List, [], ◌∷◌, ◌++◌, Some, None, refl, ap, sym, ◌∙◌}
use Rattle.std.proofs.Math.Numerals.{sub-one, add-one}
use Rattle.grammar_tree.specs.Written.{WrittenTerm, written_alts}
use Rattle.grammar_tree.proofs.Lent.{parser_term-Literal, parser_term-Name, parser_term-Not, parser_term-Any, parser_term-Block}
use Rattle.grammar_reader_machine.specs.declared.frame.Frame.{Frame}
use Rattle.grammar_reader_machine.specs.View.{frame_of, frames_around}
use Rattle.grammar_reader_machine.specs.Machine as m

pub frames_push : (inner : List (m.Frame WrittenTerm)) (fs : List Frame) (f : Frame) → frames_around inner (fs ++ f ∷ []) ≡ frame_of f ∷ frames_around inner fs
frames_push inner [] f = refl
frames_push inner (g ∷ fs) f = frames_push (frame_of g ∷ inner) fs f

pub with_block_as : (b : m.Body) (r : ℕ) (enclosing : List (m.Frame WrittenTerm)) (current : m.Frame WrittenTerm) → (r ≡ 0 → ⊥)
    → enclosing ≡ b.current ∷ b.enclosing → current ≡ m.fresh →
    m.with_block b r ≡ Some (m.AtAlt (record { text = b.text; name = b.name; blocks_left = r - 1; enclosing = enclosing; current = current }))
with_block_as b zero enclosing current h e f = absurd (h refl)
with_block_as b (suc r) enclosing current h e f =
    ap (λ k. Some (m.AtAlt (record { text = b.text; name = b.name; blocks_left = k; enclosing = b.current ∷ b.enclosing; current = m.fresh })))
    (sym (sub-one (suc r)))
    ∙ ap (λ o. Some (m.AtAlt (record { text = b.text; name = b.name; blocks_left = suc r - 1; enclosing = o; current = m.fresh }))) (sym e)
    ∙ ap (λ x. Some (m.AtAlt (record { text = b.text; name = b.name; blocks_left = suc r - 1; enclosing = enclosing; current = x }))) (sym f)

pub block_end_as : (b : m.Body) (after enclosing : List (m.Frame WrittenTerm)) (f : m.Frame WrittenTerm) (t : WrittenTerm) → after ≡ f ∷ enclosing
    → t ≡ WrittenTerm.block (written_alts (m.whole b.current)) →
    m.block_end b after ≡ Some (m.AfterAtom (record { text = b.text; name = b.name; blocks_left = b.blocks_left + 1; enclosing = enclosing; current = f }) t)
block_end_as b after enclosing f t e e' =
    ap (m.block_end b) e
    ∙ ap
    (λ k. Some (m.AfterAtom (record { text = b.text; name = b.name; blocks_left = k; enclosing = enclosing; current = f })
    (WrittenTerm.block (written_alts (m.whole b.current))))) (sym (add-one b.blocks_left))
    ∙ ap (λ t. Some (m.AfterAtom (record { text = b.text; name = b.name; blocks_left = b.blocks_left + 1; enclosing = enclosing; current = f }) t)) (sym e')

no_finish : (b : m.Body) (inner : List (m.Frame WrittenTerm)) (f : m.Frame WrittenTerm) (fs : List Frame) → m.rule_end b (frames_around (f ∷ inner) fs) ≡ None
no_finish b inner f [] = refl
no_finish b inner f (g ∷ fs) = no_finish b (f ∷ inner) (frame_of g) fs

pub rule_end_not : (b : m.Body) (fs : List Frame) → (length fs ≡ 0 → ⊥) → m.rule_end b (frames_around [] fs) ≡ None
rule_end_not b [] h = absurd (h refl)
rule_end_not b (f ∷ fs) h = no_finish b [] (frame_of f) fs

pub rule_end_as : (b : m.Body) (fs : List Frame) → length fs ≡ 0 → m.rule_end b (frames_around [] fs) ≡ m.rule_end b []
rule_end_as b [] h = refl
rule_end_as b (f ∷ fs) h = cc h

no_hash : (b : m.Body) (inner : List (m.Frame WrittenTerm)) (f : m.Frame WrittenTerm) (fs : List Frame)
    → m.before_alternative_name b (frames_around (f ∷ inner) fs) ≡ None
no_hash b inner f [] = refl
no_hash b inner f (g ∷ fs) = no_hash b (f ∷ inner) (frame_of g) fs

pub before_alternative_name_not : (b : m.Body) (fs : List Frame) → (length fs ≡ 0 → ⊥) → m.before_alternative_name b (frames_around [] fs) ≡ None
before_alternative_name_not b [] h = absurd (h refl)
before_alternative_name_not b (f ∷ fs) h = no_hash b [] (frame_of f) fs

pub before_alternative_name_as : (b : m.Body) (fs : List Frame) → length fs ≡ 0 → m.before_alternative_name b (frames_around [] fs) ≡ Some (m.AtAltName b)
before_alternative_name_as b [] h = refl
before_alternative_name_as b (f ∷ fs) h = cc h

pub ruleset views = (
  parser_term-Literal,
  parser_term-Name,
  parser_term-Not,
  parser_term-Any,
  parser_term-Block,
  frames_push,
  with_block_as,
  block_end_as,
  rule_end_not,
  rule_end_as,
  before_alternative_name_not,
  before_alternative_name_as,
)
