-- Beside `../Grammar.antt`: what private functions and proofs need.
use Rattle.std.specs.Prelude.{◌≡◌, ℕ, List, [], ◌∷◌, string_bytes}
use Rattle.edge_io.specs.Files.{IsLonger}
use Rattle.command_ends.specs.declared.status.NamedFile.TheVariants as read
use Rattle.command_ends.specs.declared.status.Refusal.{Refusal}
use Rattle.command_ends.specs.declared.status.Refusal.TheVariants.{Memory, CannotRead, Grammar, TooLong}
use Rattle.command_ends.specs.Status.{fault_line}
use Rattle.command_ends.specs.World.{CallFailed, IsQuiet, SeenCalls, SeenFiles, SomeRead, UnreadAfter, WasRead, WereRead, grammar_limit}
use Rattle.command_words.specs.Commands.{GrammarSource}
use Rattle.command_grammar.specs.Grammar.{IsFaultIn}
use Rattle.command_grammar.specs.Texts.{GrammarTexts}

-- why texts give no grammar
abbrev pub IsFaultRefusal : GrammarSource → GrammarTexts → Refusal → Type 0
IsFaultRefusal named texts (Memory _) = Unit {0}
IsFaultRefusal named texts (Grammar line) = (text : List ℕ) × IsFaultIn named texts text × (string_bytes line ≡ fault_line text)
IsFaultRefusal named texts _ = ⊥

-- why the file of a lexer gives none, with this text of its parser grammar
abbrev pub LexerFails : GrammarSource → List ℕ → List ℕ → SeenFiles → SeenFiles → Refusal → Type 0
LexerFails named path parser files files' (Memory _) = IsQuiet files files'
LexerFails named path parser files files' (CannotRead file) = (file ≡ read.Lexer) × CallFailed files files'
LexerFails named path parser files files' (TooLong file) = (file ≡ read.Lexer) × IsLonger grammar_limit (files.shown path) × IsQuiet files files'
LexerFails named path parser files files' (Grammar line) =
    (text : List ℕ) × WasRead grammar_limit (files.shown path) (λ lexer. IsFaultIn named (GrammarTexts.pair lexer parser) text)
    × (string_bytes line ≡ fault_line text) × IsQuiet files files'
LexerFails named path parser files files' _ = ⊥

-- whether it was read then
abbrev pub LexerCalls : List ℕ → SeenCalls → SeenCalls → Refusal → Type 0
LexerCalls path old new (Memory _) = SomeRead (path ∷ []) old new
LexerCalls path old new (CannotRead file) = (file ≡ read.Lexer) × UnreadAfter [] path old new
LexerCalls path old new (TooLong file) = (file ≡ read.Lexer) × WereRead (path ∷ []) old new
LexerCalls path old new (Grammar line) = WereRead (path ∷ []) old new
LexerCalls path old new _ = ⊥
