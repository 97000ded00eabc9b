-- Which files of a problem were read.
use Rattle.std.proofs.Common.{◌≡◌, ℕ, List, [], ◌∷◌, ◌++◌, Option, refl, sym, subst, append-nil}
use Rattle.edge_io.specs.Files.{FileContent}
use Rattle.edge_io.specs.FileCalls.{WereMade, failed_call}
use Rattle.edge_io.specs.declared.file_call.FileAction.TheVariants as action
use Rattle.reduce_trees_input.specs.declared.fault.InputFault.{InputFault}
use Rattle.command_ends.specs.declared.status.NamedFile.TheVariants as named
use Rattle.command_ends.specs.declared.status.Refusal.{Refusal}
use Rattle.command_ends.specs.declared.status.Refusal.TheVariants.{Memory, CannotRead, Grammar, NoParse, TooLong, Uncut}
use Rattle.command_ends.specs.Status.{IsInputRefusal, ReadFails, unread_makes}
use Rattle.command_ends.specs.World.{SeenCalls, SeenFiles, SomeRead, UnreadAfter, WereRead, input_limit}
use Rattle.command_ends.proofs.Lent.{all_some, read_then, read_then_made, read_then_none, some_more}
use Rattle.command_grammar.specs.Grammar.{GrammarCalls, GrammarFails}
use Rattle.command_grammar.specs.Texts.{grammar_paths}
use Rattle.command_problem.specs.Problem.{ProblemOptions, grammar_before_in, grammar_in, grammar_paths_in, problem_paths}
use Rattle.command_problem.specs.Read.{ProblemCalls, TreeCalls}
use Rattle.command_words.specs.Commands.{GrammarOptions, GrammarSource, ModeOptions}

-- the grammar wasn't read
pub grammar_calls : (grammar : GrammarSource) (input : List ℕ) (files files' : SeenFiles) (old new : SeenCalls) (refusal : Refusal)
    → GrammarFails grammar files files' refusal → GrammarCalls grammar old new refusal → TreeCalls grammar input old new refusal
grammar_calls grammar input files files' old new (Memory _) why calls = some_more (grammar_paths grammar) (input ∷ []) old new calls
grammar_calls grammar input files files' old new (CannotRead named.Input) why calls = absurd why.0
grammar_calls grammar input files files' old new (CannotRead named.Grammar) why calls = calls
grammar_calls grammar input files files' old new (CannotRead named.Lexer) why calls = calls
grammar_calls grammar input files files' old new (CannotRead named.Result) why calls = absurd why.0
grammar_calls grammar input files files' old new (CannotRead named.Journal) why calls = absurd why.0
grammar_calls grammar input files files' old new (TooLong named.Input) why calls = absurd why.0
grammar_calls grammar input files files' old new (TooLong named.Grammar) why calls = calls
grammar_calls grammar input files files' old new (TooLong named.Lexer) why calls = calls
grammar_calls grammar input files files' old new (TooLong named.Result) why calls = absurd why.0
grammar_calls grammar input files files' old new (TooLong named.Journal) why calls = absurd why.0
grammar_calls grammar input files files' old new (Grammar line) why calls = calls
grammar_calls grammar input files files' old new _ why calls = absurd why

module _ (grammar : GrammarSource) (input : List ℕ) (old mid new : SeenCalls) (read : WereRead (grammar_paths grammar) old mid) where
  -- the grammar was read, and then the input wasn't
  pub unread_input_calls : (content : Option FileContent) (files files' : SeenFiles) (refusal : Refusal)
      → ReadFails input_limit named.Input content files files' refusal → WereMade (unread_makes input refusal) mid new
      → TreeCalls grammar input old new refusal
  unread_input_calls content files files' (Memory _) why made =
      some_more (grammar_paths grammar) (input ∷ []) old new
      (all_some (grammar_paths grammar) old new (read_then_none (grammar_paths grammar) old mid new read made))
  unread_input_calls content files files' (CannotRead file) why made =
      subst (λ f. TreeCalls grammar input old new (CannotRead f)) (sym why.0)
      (subst (λ (paths : List (List ℕ)). UnreadAfter paths input old new) (append-nil (grammar_paths grammar))
      (read_then_made (grammar_paths grammar) old mid new read [] (failed_call action.Read input ∷ []) made))
  unread_input_calls content files files' (TooLong file) why made =
      subst (λ f. TreeCalls grammar input old new (TooLong f)) (sym why.0) (read_then (grammar_paths grammar) old mid new read (input ∷ []) made)
  unread_input_calls content files files' _ why made = absurd why

  -- both were
  pub all_read_calls : WereRead (input ∷ []) mid new → WereRead (grammar_paths grammar ++ input ∷ []) old new
  all_read_calls then = read_then (grammar_paths grammar) old mid new read (input ∷ []) then

  -- and the input has a fault
  pub input_fault_calls : (fault : InputFault) (refusal : Refusal) → IsInputRefusal fault refusal → WereRead (input ∷ []) mid new
      → TreeCalls grammar input old new refusal
  input_fault_calls fault (Memory _) why then = all_some (grammar_paths grammar ++ input ∷ []) old new (all_read_calls then)
  input_fault_calls fault (Uncut line) why then = all_read_calls then
  input_fault_calls fault NoParse why then = all_read_calls then
  input_fault_calls fault _ why then = absurd why

-- the calls of a tree are those of its problem
pub problem_calls : (options : ProblemOptions) (trees : GrammarOptions) → options.mode ≡ ModeOptions.by_grammar trees → (old new : SeenCalls)
    (refusal : Refusal)
    → TreeCalls trees.grammar options.input old new refusal → ProblemCalls options old new refusal
problem_calls options trees mode old new (Memory _) calls =
    subst (λ (m : ModeOptions). SomeRead (grammar_paths_in m ++ options.input ∷ []) old new) (sym mode) calls
problem_calls options trees mode old new (CannotRead named.Input) calls =
    subst (λ (m : ModeOptions). UnreadAfter (grammar_paths_in m) options.input old new) (sym mode) calls
problem_calls options trees mode old new (CannotRead named.Grammar) calls =
    subst (λ (m : ModeOptions). UnreadAfter (grammar_before_in m named.Grammar) (grammar_in m named.Grammar) old new) (sym mode) calls
problem_calls options trees mode old new (CannotRead named.Lexer) calls =
    subst (λ (m : ModeOptions). UnreadAfter (grammar_before_in m named.Lexer) (grammar_in m named.Lexer) old new) (sym mode) calls
problem_calls options trees mode old new (TooLong named.Input) calls =
    subst (λ (m : ModeOptions). WereRead (grammar_paths_in m ++ options.input ∷ []) old new) (sym mode) calls
problem_calls options trees mode old new (TooLong named.Grammar) calls =
    subst (λ (m : ModeOptions). WereRead (grammar_before_in m named.Grammar ++ grammar_in m named.Grammar ∷ []) old new) (sym mode) calls
problem_calls options trees mode old new (TooLong named.Lexer) calls =
    subst (λ (m : ModeOptions). WereRead (grammar_before_in m named.Lexer ++ grammar_in m named.Lexer ∷ []) old new) (sym mode) calls
problem_calls options trees mode old new (Grammar line) calls = subst (λ (m : ModeOptions). WereRead (grammar_paths_in m) old new) (sym mode) calls
problem_calls options trees mode old new (Uncut line) calls =
    subst (λ (m : ModeOptions). WereRead (grammar_paths_in m ++ options.input ∷ []) old new) (sym mode) calls
problem_calls options trees mode old new NoParse calls =
    subst (λ (m : ModeOptions). WereRead (grammar_paths_in m ++ options.input ∷ []) old new) (sym mode) calls
problem_calls options trees mode old new _ calls = absurd calls

-- all files of a tree are those of its problem
pub tree_reads : (options : ProblemOptions) (trees : GrammarOptions) → options.mode ≡ ModeOptions.by_grammar trees → (old new : SeenCalls)
    → WereRead (grammar_paths trees.grammar ++ options.input ∷ []) old new → WereRead (problem_paths options) old new
tree_reads options trees mode old new reads =
    subst (λ (m : ModeOptions). WereRead (grammar_paths_in m ++ options.input ∷ []) old new) (sym mode) reads

-- in a mode without a grammar the input is all that is read
pub lines_calls : (options : ProblemOptions) → options.mode ≡ ModeOptions.lines → (content : Option FileContent) (files files' : SeenFiles)
    (old new : SeenCalls) (refusal : Refusal)
    → ReadFails input_limit named.Input content files files' refusal → WereMade (unread_makes options.input refusal) old new
    → ProblemCalls options old new refusal
lines_calls options mode content files files' old new (Memory _) why made =
    subst (λ (m : ModeOptions). SomeRead (grammar_paths_in m ++ options.input ∷ []) old new) (sym mode) ([], options.input ∷ [], refl, made)
lines_calls options mode content files files' old new (CannotRead file) why made =
    subst (λ f. ProblemCalls options old new (CannotRead f)) (sym why.0)
    (subst (λ (m : ModeOptions). UnreadAfter (grammar_paths_in m) options.input old new) (sym mode) made)
lines_calls options mode content files files' old new (TooLong file) why made =
    subst (λ f. ProblemCalls options old new (TooLong f)) (sym why.0)
    (subst (λ (m : ModeOptions). WereRead (grammar_paths_in m ++ options.input ∷ []) old new) (sym mode) made)
lines_calls options mode content files files' old new _ why made = absurd why
