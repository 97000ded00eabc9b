-- A rule that is begun in memory, and what the machine has there.
use Rattle.std.proofs.Common.{◌≡◌, ℕ, Bool, List, [], Option, Some, ap, ◌∙◌}
use Rattle.grammar_tree.specs.Written.{WrittenTerm, LexerTerm, WrittenGrammar}
use Rattle.grammar_reader_machine.specs.declared.frame.Frame.{Frame}
use Rattle.grammar_reader_machine.specs.declared.frame.LexFrame.{LexFrame}
use Rattle.grammar_reader_machine.specs.View.{frames_around, lex_frames_around}
use Rattle.grammar_reader_machine.specs.Machine as m

pub parser_rule_begun : (g : WrittenGrammar) (n : List ℕ) (fs : List Frame) (f : m.Frame WrittenTerm) → fs ≡ [] → f ≡ m.fresh →
    Some (m.AtAlt (record { text = g; name = n; blocks_left = 64; enclosing = frames_around [] fs; current = f })) ≡ Some (m.body_at 64 g (m.ParserHead n))
parser_rule_begun g n fs f e h =
    ap (λ gs. Some (m.AtAlt (record { text = g; name = n; blocks_left = 64; enclosing = frames_around [] gs; current = f }))) e
    ∙ ap (λ x. Some (m.AtAlt (record { text = g; name = n; blocks_left = 64; enclosing = []; current = x }))) h

pub lexer_rule_begun : (g : WrittenGrammar) (n : List ℕ) (fragment : Bool) (known : Option Bool) (fs : List LexFrame) (f : m.Frame LexerTerm)
    → known ≡ m.no_commands fragment → fs ≡ [] → f ≡ m.fresh →
    Some (m.InLex (record { text = g; name = n; fragment = fragment; known = known; blocks_left = 64; enclosing = lex_frames_around [] fs; current = f }))
    ≡ Some (m.body_at 64 g (m.LexerHead n fragment))
lexer_rule_begun g n fragment known fs f k e h =
    ap (λ o. Some (m.InLex (record { text = g; name = n; fragment = fragment; known = o; blocks_left = 64; enclosing = lex_frames_around [] fs; current = f })))
    k
    ∙ ap
    (λ gs. Some
    (m.InLex
    (record { text = g; name = n; fragment = fragment; known = m.no_commands fragment; blocks_left = 64; enclosing = lex_frames_around [] gs; current = f }))) e
    ∙ ap
    (λ x. Some (m.InLex (record { text = g; name = n; fragment = fragment; known = m.no_commands fragment; blocks_left = 64; enclosing = []; current = x }))) h
