-- What a command line names to be reduced: that it was read, and that it is visible.
use Rattle.std.specs.Prelude.{◌≡◌, ℕ, Bool, List, [], ◌∷◌, ◌++◌}
use Rattle.grammar_tree.specs.Written.{CheckedGrammar}
use Rattle.reduce_core.specs.Reduction.{Admits}
use Rattle.reduce_trees_mode.specs.Candidates.{InLanguage}
use Rattle.reduce_trees_mode.specs.Input.{TreeInput}
use Rattle.reduce_trees_input.specs.Parsed.{IsInputOf}
use Rattle.reduce_trees_input.specs.Faults.{IsInputFault}
use Rattle.reduce_trees_input.specs.declared.fault.InputFault.{InputFault}
use Rattle.run_problem.specs.Problem.{Problem, tree_problem}
use Rattle.command_ends.specs.declared.status.NamedFile.{NamedFile}
use Rattle.command_ends.specs.declared.status.NamedFile.TheVariants as named
use Rattle.command_ends.specs.World.{IsShownWithin, SeenFiles, WasRead, grammar_limit, input_limit, journal_limit, result_limit}
use Rattle.command_words.specs.Commands.{GrammarSource, ModeOptions}
use Rattle.command_grammar.specs.Grammar.{GrammarRead, IsGrammarText, start_name}
use Rattle.command_grammar.specs.Texts.{AreSpelled, GrammarIsShown, IsGrammarFile, grammar_paths, path_of, paths_before as grammar_before}

-- what a command line says of a problem: which states are tried, whether what is left of a tree is respelled, the path of the input, and what is admitted
-- of its tree
pub record ProblemOptions : Type 0 where
  pub mode : ModeOptions
  pub respell : Bool
  pub input : List ℕ
  pub admitted : TreeInput → Admits

-- The input is made of this text by this grammar, what is admitted is admitted of it, and the squeezed text of the whole is tried or not; no other is such.
pub record IsTreeProblem (options : ProblemOptions) (grammar : CheckedGrammar) (squeeze : Bool) (text : List ℕ) (input : TreeInput) : Type 0 where
  pub of_text : IsInputOf grammar text input
  pub admits : input.admits ≡ options.admitted input
  pub squeezes : input.squeezes ≡ squeeze
  pub only : (other : TreeInput) → IsInputOf grammar text other → other.admits ≡ options.admitted other → other.squeezes ≡ squeeze → input ≡ other

-- The files were read whole, each within its limit, and the fact holds of what they have to be reduced: the lines of the input; or, where the grammar's texts
-- spell a grammar that has the input in its language, its tree.
abbrev pub ReadIn : ModeOptions → ProblemOptions → SeenFiles → (Problem → Type 0) → Type 0
ReadIn ModeOptions.lines options files P = WasRead input_limit (files.shown options.input) (λ start. P (Problem.of_lines start))
ReadIn (ModeOptions.by_grammar trees) options files P =
    (c : CheckedGrammar) × GrammarRead trees.grammar files c
    × WasRead input_limit (files.shown options.input)
    (λ text. (input : TreeInput) × IsTreeProblem options c trees.squeeze text input × P (tree_problem options.respell trees.mode input))

abbrev pub ProblemRead : ProblemOptions → SeenFiles → (Problem → Type 0) → Type 0
ProblemRead options files P = ReadIn options.mode options files P

-- the input is read, in a mode with a grammar once that was read
abbrev pub IsInputReached : ModeOptions → SeenFiles → Type 0
IsInputReached ModeOptions.lines files = Unit {0}
IsInputReached (ModeOptions.by_grammar trees) files = (c : CheckedGrammar) × GrammarRead trees.grammar files c

-- a file of the grammar is read, where the mode has one
abbrev pub IsGrammarReached : ModeOptions → NamedFile → SeenFiles → Type 0
IsGrammarReached ModeOptions.lines file files = ⊥
IsGrammarReached (ModeOptions.by_grammar trees) file files = IsGrammarFile trees.grammar file files

-- the file is read
abbrev pub IsReached : ModeOptions → NamedFile → SeenFiles → Type 0
IsReached mode named.Input files = IsInputReached mode files
IsReached mode named.Grammar files = IsGrammarReached mode named.Grammar files
IsReached mode named.Lexer files = IsGrammarReached mode named.Lexer files
IsReached mode named.Result files = ⊥
IsReached mode named.Journal files = ⊥

-- the limit of a file, and its path; no path is asked for of a mode without a grammar, nor of another file
abbrev pub limit_of : NamedFile → ℕ
limit_of named.Input = input_limit
limit_of named.Grammar = grammar_limit
limit_of named.Lexer = grammar_limit
limit_of named.Result = result_limit
limit_of named.Journal = journal_limit

abbrev pub grammar_in : ModeOptions → NamedFile → List ℕ
grammar_in ModeOptions.lines file = []
grammar_in (ModeOptions.by_grammar trees) file = path_of trees.grammar file

abbrev pub path_in : ProblemOptions → NamedFile → List ℕ
path_in options named.Input = options.input
path_in options named.Grammar = grammar_in options.mode named.Grammar
path_in options named.Lexer = grammar_in options.mode named.Lexer
path_in options named.Result = []
path_in options named.Journal = []

-- the paths of the grammar's files, where the mode has one; and of all files, in the order in which they are read
abbrev pub grammar_paths_in : ModeOptions → List (List ℕ)
grammar_paths_in ModeOptions.lines = []
grammar_paths_in (ModeOptions.by_grammar trees) = grammar_paths trees.grammar

abbrev pub problem_paths : ProblemOptions → List (List ℕ)
problem_paths options = grammar_paths_in options.mode ++ options.input ∷ []

-- those of the files that are read before this one
abbrev pub grammar_before_in : ModeOptions → NamedFile → List (List ℕ)
grammar_before_in ModeOptions.lines file = []
grammar_before_in (ModeOptions.by_grammar trees) file = grammar_before trees.grammar file

abbrev pub paths_before : ProblemOptions → NamedFile → List (List ℕ)
paths_before options named.Input = grammar_paths_in options.mode
paths_before options named.Grammar = grammar_before_in options.mode named.Grammar
paths_before options named.Lexer = grammar_before_in options.mode named.Lexer
paths_before options named.Result = []
paths_before options named.Journal = []

-- the grammar's files spell a grammar, the input was read within its limit, and the fact holds of the two
abbrev pub InputHas : GrammarSource → (CheckedGrammar → List ℕ → Type 0) → ProblemOptions → SeenFiles → Type 0
InputHas grammar P options files =
    (c : CheckedGrammar) × GrammarRead grammar files c × WasRead input_limit (files.shown options.input) (λ bytes. P c bytes)

-- what is visible of the files has this fact of what is reduced: the input is within its limit; and by a grammar that is too, and spells a grammar that has
-- the input in its language
abbrev pub ShownIn : ModeOptions → ProblemOptions → SeenFiles → (List ℕ → Type 0) → Type 0
ShownIn ModeOptions.lines options files P = IsShownWithin input_limit (files.shown options.input) P
ShownIn (ModeOptions.by_grammar trees) options files P =
    GrammarIsShown trees.grammar files (λ texts. (c : CheckedGrammar) × AreSpelled texts (start_name trees.grammar) c
    × IsShownWithin input_limit (files.shown options.input) (λ text. InLanguage c text × P text))

abbrev pub IsShownProblem : ProblemOptions → SeenFiles → (List ℕ → Type 0) → Type 0
IsShownProblem options files P = ShownIn options.mode options files P

-- what is visible of the files is a grammar within its limit, and an input within its limit with such a fault
abbrev pub IsShownFault : GrammarSource → ProblemOptions → SeenFiles → (InputFault → Type 0) → Type 0
IsShownFault grammar options files P =
    GrammarIsShown grammar files (λ texts. (c : CheckedGrammar) × AreSpelled texts (start_name grammar) c
    × IsShownWithin input_limit (files.shown options.input) (λ text. (fault : InputFault) × IsInputFault c text fault × P fault))

-- where the mode has a grammar, it is visible, within its limit and well-formed
abbrev pub IsShownGrammar : ModeOptions → SeenFiles → Type 0
IsShownGrammar ModeOptions.lines files = Unit {0}
IsShownGrammar (ModeOptions.by_grammar trees) files = GrammarIsShown trees.grammar files (IsGrammarText trees.grammar)
