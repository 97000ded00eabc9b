-- What was found in an input by a grammar, and why nothing was.
use Rattle.std.specs.Prelude.{◌≡◌, ℕ, List, [], ◌∷◌, ◌++◌, string_bytes}
use Rattle.edge_io.specs.Files.{IsLonger}
use Rattle.grammar_tree.specs.Written.{CheckedGrammar}
use Rattle.reduce_trees_input.specs.Parsed.{MakesInputOf}
use Rattle.reduce_trees_input.specs.Faults.{IsInputFault}
use Rattle.reduce_trees_input.specs.FaultText.{input_fault_text}
use Rattle.reduce_trees_input.specs.declared.fault.InputFault.{InputFault}
use Rattle.reduce_trees_input.specs.declared.fault.InputFault.TheVariants as input_fault
use Rattle.run_problem.specs.Read.{IsFoundIn}
use Rattle.command_ends.specs.declared.status.NamedFile.TheVariants as named
use Rattle.command_ends.specs.declared.status.Refusal.{Refusal}
use Rattle.command_ends.specs.declared.status.Refusal.TheVariants.{Memory, CannotRead, TooLong, Grammar, Uncut, NoParse}
use Rattle.command_ends.specs.Status.{IsUncut}
use Rattle.command_ends.specs.World.{CallFailed, IsQuiet, SeenCalls, SeenFiles, SomeRead, UnreadAfter, WasRead, WereRead, input_limit, line_of_text}
use Rattle.command_words.specs.Commands.{GrammarOptions, GrammarSource, ModeOptions}
use Rattle.command_grammar.specs.Grammar.{GrammarCalls, GrammarFails, GrammarRead}
use Rattle.command_grammar.specs.Texts.{grammar_paths}
use Rattle.command_problem.specs.Problem.{InputHas, IsReached, ProblemOptions, grammar_paths_in, limit_of, path_in, paths_before, problem_paths}
use Rattle.command_problem.specs.declared.read.ReadTree.{ReadTree}

-- The grammar was read, and the input, of whose text what was found makes the input of a reduction.
pub record GivesTree (named : GrammarSource) (input : List ℕ) (files : SeenFiles) (tree : ReadTree) : Type 0 where
  pub spelled : GrammarRead named files tree.checked
  pub read : WasRead input_limit (files.shown input) (λ text. MakesInputOf tree.checked text tree.found)
  pub ready : IsFoundIn tree.found

-- the grammar was read, and the input, which has this fault
abbrev pub InputIsFaulty : GrammarSource → List ℕ → SeenFiles → InputFault → Type 0
InputIsFaulty named input files fault =
    (c : CheckedGrammar) × GrammarRead named files c × WasRead input_limit (files.shown input) (λ bytes. IsInputFault c bytes fault)

-- why nothing is found: a file wasn't read, the grammar is faulty, or the input isn't in its language
abbrev pub TreeFails : GrammarSource → List ℕ → SeenFiles → SeenFiles → Refusal → Type 0
TreeFails grammar input files files' (Memory _) = IsQuiet files files'
TreeFails grammar input files files' (CannotRead named.Input) =
    ((c : CheckedGrammar) × GrammarRead grammar files c) × CallFailed files files'
TreeFails grammar input files files' (CannotRead named.Grammar) = GrammarFails grammar files files' (CannotRead named.Grammar)
TreeFails grammar input files files' (CannotRead named.Lexer) = GrammarFails grammar files files' (CannotRead named.Lexer)
TreeFails grammar input files files' (TooLong named.Input) =
    ((c : CheckedGrammar) × GrammarRead grammar files c) × IsLonger input_limit (files.shown input) × IsQuiet files files'
TreeFails grammar input files files' (TooLong named.Grammar) = GrammarFails grammar files files' (TooLong named.Grammar)
TreeFails grammar input files files' (TooLong named.Lexer) = GrammarFails grammar files files' (TooLong named.Lexer)
TreeFails grammar input files files' (Grammar line) = GrammarFails grammar files files' (Grammar line)
TreeFails grammar input files files' (Uncut line) =
    (fault : InputFault) × IsUncut fault × InputIsFaulty grammar input files fault
    × (string_bytes line ≡ line_of_text (input_fault_text fault)) × IsQuiet files files'
TreeFails grammar input files files' NoParse = InputIsFaulty grammar input files input_fault.NoParse × IsQuiet files files'
TreeFails grammar input files files' _ = ⊥

-- why there is no problem: a file wasn't read, the grammar is faulty, or the input isn't in its language
abbrev pub ProblemFails : ProblemOptions → SeenFiles → SeenFiles → Refusal → Type 0
ProblemFails options files files' (Memory _) = IsQuiet files files'
ProblemFails options files files' (CannotRead file) = IsReached options.mode file files × CallFailed files files'
ProblemFails options files files' (TooLong file) =
    IsReached options.mode file files × IsLonger (limit_of file) (files.shown (path_in options file)) × IsQuiet files files'
ProblemFails options files files' (Grammar line) =
    (trees : GrammarOptions) × (options.mode ≡ ModeOptions.by_grammar trees) × GrammarFails trees.grammar files files' (Grammar line)
ProblemFails options files files' (Uncut line) =
    (trees : GrammarOptions) × (fault : InputFault) × (options.mode ≡ ModeOptions.by_grammar trees) × IsUncut fault
    × InputHas trees.grammar (λ c bytes. IsInputFault c bytes fault) options files
    × (string_bytes line ≡ line_of_text (input_fault_text fault)) × IsQuiet files files'
ProblemFails options files files' NoParse =
    (trees : GrammarOptions) × (options.mode ≡ ModeOptions.by_grammar trees)
    × InputHas trees.grammar (λ c bytes. IsInputFault c bytes input_fault.NoParse) options files × IsQuiet files files'
ProblemFails options files files' _ = ⊥

-- Which files were read then, the grammar's and then the input's: those up to the one that the refusal names; the grammar's, where it is faulty; all, where
-- the input isn't in its language; or some, where memory ran out.
abbrev pub TreeCalls : GrammarSource → List ℕ → SeenCalls → SeenCalls → Refusal → Type 0
TreeCalls grammar input old new (Memory _) = SomeRead (grammar_paths grammar ++ input ∷ []) old new
TreeCalls grammar input old new (CannotRead named.Input) = UnreadAfter (grammar_paths grammar) input old new
TreeCalls grammar input old new (CannotRead named.Grammar) = GrammarCalls grammar old new (CannotRead named.Grammar)
TreeCalls grammar input old new (CannotRead named.Lexer) = GrammarCalls grammar old new (CannotRead named.Lexer)
TreeCalls grammar input old new (TooLong named.Input) = WereRead (grammar_paths grammar ++ input ∷ []) old new
TreeCalls grammar input old new (TooLong named.Grammar) = GrammarCalls grammar old new (TooLong named.Grammar)
TreeCalls grammar input old new (TooLong named.Lexer) = GrammarCalls grammar old new (TooLong named.Lexer)
TreeCalls grammar input old new (Grammar line) = WereRead (grammar_paths grammar) old new
TreeCalls grammar input old new (Uncut line) = WereRead (grammar_paths grammar ++ input ∷ []) old new
TreeCalls grammar input old new NoParse = WereRead (grammar_paths grammar ++ input ∷ []) old new
TreeCalls grammar input old new _ = ⊥

-- the same of a problem
abbrev pub ProblemCalls : ProblemOptions → SeenCalls → SeenCalls → Refusal → Type 0
ProblemCalls options old new (Memory _) = SomeRead (problem_paths options) old new
ProblemCalls options old new (CannotRead file) = UnreadAfter (paths_before options file) (path_in options file) old new
ProblemCalls options old new (TooLong file) = WereRead (paths_before options file ++ path_in options file ∷ []) old new
ProblemCalls options old new (Grammar line) = WereRead (grammar_paths_in options.mode) old new
ProblemCalls options old new (Uncut line) = WereRead (problem_paths options) old new
ProblemCalls options old new NoParse = WereRead (problem_paths options) old new
ProblemCalls options old new _ = ⊥
