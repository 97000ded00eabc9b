-- The command `check`: how it ends, by its status.
use Rattle.std.specs.Prelude.{◌≡◌, ◌≢◌, ◌+◌, ℕ, List, [], ◌∷◌, ◌++◌, Some, None, false, true, codes}
use Rattle.edge_io.specs.Files.{IsLonger, SameFiles}
use Rattle.keep_guard.specs.Keep.{first_missing, holds_all, keeps_admit}
use Rattle.reduce_journal.specs.declared.head.Head.{Head}
use Rattle.reduce_journal.specs.History.{History, records_of}
use Rattle.reduce_journal.specs.Journal.{IsBadAt, IsJournalOf, LacksHead}
use Rattle.reduce_trees_input.specs.Faults.{IsInputFault}
use Rattle.reduce_trees_input.specs.FaultText.{input_fault_text}
use Rattle.reduce_trees_input.specs.declared.fault.InputFault.{InputFault}
use Rattle.reduce_trees_input.specs.declared.fault.InputFault.TheVariants as input_fault
use Rattle.run_problem.specs.Problem.{IsReductionOf, Problem, start_text}
use Rattle.verdict_table.specs.TableState.{verdict_in}
use Rattle.cert_check.specs.Findings.{IsConfirmed, IsFound}
use Rattle.cert_check.specs.WhyText.{why_text}
use Rattle.cert_check.specs.declared.finding.Finding.{Finding}
use Rattle.cert_check.specs.declared.finding.Finding.TheVariants.{Yes, No}
use Rattle.cert_check.specs.declared.finding.Why.{Why}
use Rattle.command_ends.specs.declared.status.NamedFile.{NamedFile}
use Rattle.command_ends.specs.declared.status.NamedFile.TheVariants as named
use Rattle.command_ends.specs.Status.{IsOneOf, IsUncut, bad_record_text, fault_line, keep_text, word_for}
use Rattle.command_ends.specs.World.{CallFailed, IsOver, IsQuiet, IsShownWithin, Puts, PutsLine, PutsMessage, PutsPrefix, SeenFiles, SeenOut, WasRead}
use Rattle.command_ends.specs.World.{SeenCalls, SomeRead, UnreadAfter, WereRead, grammar_limit, input_limit, journal_limit, result_limit}
use Rattle.command_grammar.specs.Grammar.{IsFaultIn, IsGrammarText}
use Rattle.command_grammar.specs.Texts.{GrammarIsShown, GrammarWasRead, grammar_paths}
use Rattle.command_problem.specs.Problem.{InputHas, IsReached, IsShownFault, IsShownGrammar, IsShownProblem, ProblemOptions, ProblemRead, limit_of, path_in}
use Rattle.command_problem.specs.Problem.{paths_before, problem_paths}
use Rattle.command_words.specs.Commands.{CheckOptions, GrammarOptions, ModeOptions}

-- what its command line says of the problem: what has each keep text is admitted
abbrev pub checked_problem : CheckOptions → ProblemOptions
checked_problem options = record { mode = options.mode; respell = false; input = options.input; admitted = λ input. keeps_admit options.keeps }

-- a problem was read in whose start each keep text occurs, and the fact holds of it
abbrev pub ProblemHeld : CheckOptions → SeenFiles → (Problem → Type 0) → Type 0
ProblemHeld options files P = ProblemRead (checked_problem options) files (λ problem. (holds_all options.keeps (start_text problem) ≡ true) × P problem)

-- The result was read whole, within its limit, and has this text; so was the journal, which has this head, this history and so many torn bytes.
pub record RunRead (options : CheckOptions) (files : SeenFiles) (text : List ℕ) (head : Head) (history : History) (torn : ℕ) : Type 0 where
  pub result : WasRead result_limit (files.shown options.output) (λ bytes. bytes ≡ text)
  pub journal : WasRead journal_limit (files.shown options.journal) (λ bytes. IsJournalOf bytes head history torn)

-- The problem, its result and its journal were read, and this is found of them.
abbrev pub FoundIn : CheckOptions → SeenFiles → Finding → Type 0
FoundIn options files finding = ProblemHeld options files (λ problem.
    (text : List ℕ) × (head : Head) × (history : History) × (torn : ℕ) × RunRead options files text head history torn
    × IsFound (keeps_admit options.keeps) problem text head history torn finding)

-- They were read, and are those of a finished run. So the result is what the problem is reduced to over the recorded verdicts, and minimal.
abbrev pub ConfirmedIn : CheckOptions → SeenFiles → Type 0
ConfirmedIn options files = ProblemHeld options files (λ problem.
    (text : List ℕ) × (head : Head) × (history : History) × (torn : ℕ) × RunRead options files text head history torn
    × IsConfirmed (keeps_admit options.keeps) problem text head history torn
    × IsReductionOf (keeps_admit options.keeps) (verdict_in (records_of history)) problem text)

-- the result is read, once the problem was; and the journal, once the result was
abbrev pub IsResultReached : CheckOptions → SeenFiles → Type 0
IsResultReached options files = ProblemHeld options files (λ problem. Unit {0})

abbrev pub IsJournalReached : CheckOptions → SeenFiles → Type 0
IsJournalReached options files = IsResultReached options files × WasRead result_limit (files.shown options.output) (λ bytes. Unit {0})

-- the file is read
abbrev pub IsFileReached : CheckOptions → NamedFile → SeenFiles → Type 0
IsFileReached options named.Result files = IsResultReached options files
IsFileReached options named.Journal files = IsJournalReached options files
IsFileReached options file files = IsReached options.mode file files

-- its path
abbrev pub path_of_file : CheckOptions → NamedFile → List ℕ
path_of_file options named.Result = options.output
path_of_file options named.Journal = options.journal
path_of_file options file = path_in (checked_problem options) file

-- the paths of all files that are read, in their order: the grammar's, the input's, the result's and the journal's; and of those before this one
abbrev pub read_paths : CheckOptions → List (List ℕ)
read_paths options = problem_paths (checked_problem options) ++ options.output ∷ options.journal ∷ []

abbrev pub read_before : CheckOptions → NamedFile → List (List ℕ)
read_before options named.Result = problem_paths (checked_problem options)
read_before options named.Journal = problem_paths (checked_problem options) ++ options.output ∷ []
read_before options file = paths_before (checked_problem options) file

-- bytes are the journal of no history
abbrev pub HaveNoHistory : List ℕ → Type 0
HaveNoHistory bytes = (head : Head) (history : History) (torn : ℕ) → ¬ IsJournalOf bytes head history torn

-- the journal was read within its limit, it is that of no history, and the fact holds of its bytes
abbrev pub JournalIsBad : (List ℕ → Type 0) → CheckOptions → SeenFiles → Type 0
JournalIsBad P options files = IsJournalReached options files × WasRead journal_limit (files.shown options.journal) (λ bytes. P bytes × HaveNoHistory bytes)

-- How `check` ends, by its status.
pub data CheckEnds (options : CheckOptions) (files files' : SeenFiles) (calls calls' : SeenCalls) (out out' : SeenOut) : ℕ → Type 0 where
  -- the files are those of a finished run, which was put, and no call failed
  confirmed : (found : ConfirmedIn options files)
      → (quiet : IsQuiet files files')
      → (reads : WereRead (read_paths options) calls calls')
      → (put : Puts (codes "check: yes\n") out out')
      → CheckEnds options files files' calls calls' out out' 0
  -- out of memory, for which there is no evidence
  memory : (quiet : IsQuiet files files')
      → (reads : SomeRead (read_paths options) calls calls')
      → (line : PutsMessage (codes "out of memory") out out')
      → CheckEnds options files files' calls calls' out out' 1
  -- a read failed of the file that the line names, after those of the files before it
  unread : (file : NamedFile)
      → (reached : IsFileReached options file files)
      → (failed : CallFailed files files')
      → (reads : UnreadAfter (read_before options file) (path_of_file options file) calls calls')
      → (line : PutsMessage (codes "cannot read " ++ word_for file) out out')
      → CheckEnds options files files' calls calls' out out' 3
  -- the files are those of a finished run, but the put of that failed: some prefix of it was put, and nothing more
  unput : (found : ConfirmedIn options files)
      → (quiet : IsQuiet files files')
      → (reads : WereRead (read_paths options) calls calls')
      → (put : PutsPrefix (codes "check: yes\n") out out')
      → CheckEnds options files files' calls calls' out out' 4
  -- the grammar's files have no well-formed grammar, and the line says why
  faulty : (trees : GrammarOptions) (text : List ℕ)
      → (mode : options.mode ≡ ModeOptions.by_grammar trees)
      → (read : GrammarWasRead trees.grammar files (λ texts. IsFaultIn trees.grammar texts text))
      → (quiet : IsQuiet files files')
      → (reads : WereRead (grammar_paths trees.grammar) calls calls')
      → (line : PutsLine (fault_line text) out out')
      → CheckEnds options files files' calls calls' out out' 5
  -- the grammar was read; the input isn't UTF-8, or isn't cut into tokens, and the line says from where on
  no_token : (trees : GrammarOptions) (fault : InputFault)
      → (mode : options.mode ≡ ModeOptions.by_grammar trees)
      → (uncut : IsUncut fault)
      → (read : InputHas trees.grammar (λ c bytes. IsInputFault c bytes fault) (checked_problem options) files)
      → (quiet : IsQuiet files files')
      → (reads : WereRead (problem_paths (checked_problem options)) calls calls')
      → (line : PutsMessage (input_fault_text fault) out out')
      → CheckEnds options files files' calls calls' out out' 6
  -- the grammar was read, and its start rule doesn't derive the input's tokens
  unparsed : (trees : GrammarOptions)
      → (mode : options.mode ≡ ModeOptions.by_grammar trees)
      → (read : InputHas trees.grammar (λ c bytes. IsInputFault c bytes input_fault.NoParse) (checked_problem options) files)
      → (quiet : IsQuiet files files')
      → (reads : WereRead (problem_paths (checked_problem options)) calls calls')
      → (line : PutsMessage (codes "input does not parse") out out')
      → CheckEnds options files files' calls calls' out out' 7
  -- the input was read, a keep text doesn't occur in it, and the line names the first such by its number from 1
  keep_missing : (index : ℕ)
      → (read : ProblemRead (checked_problem options) files (λ problem. first_missing options.keeps (start_text problem) ≡ Some index))
      → (quiet : IsQuiet files files')
      → (reads : WereRead (problem_paths (checked_problem options)) calls calls')
      → (line : PutsMessage (keep_text (index + 1)) out out')
      → CheckEnds options files files' calls calls' out out' 9
  -- a file that is read is longer than its limit, and the line names it
  too_long : (file : NamedFile)
      → (reached : IsFileReached options file files)
      → (longer : IsLonger (limit_of file) (files.shown (path_of_file options file)))
      → (quiet : IsQuiet files files')
      → (reads : WereRead (read_before options file ++ path_of_file options file ∷ []) calls calls')
      → (line : PutsMessage (word_for file ++ codes " is too long") out out')
      → CheckEnds options files files' calls calls' out out' 10
  -- the problem and the result were read, and the journal, which begins with no whole head
  no_head : (read : JournalIsBad LacksHead options files)
      → (quiet : IsQuiet files files')
      → (reads : WereRead (read_paths options) calls calls')
      → (line : PutsMessage (codes "bad journal head") out out')
      → CheckEnds options files files' calls calls' out out' 14
  -- the same of a journal that has neither an event, nor its end, nor a torn tail at the offset that the line names
  bad_event : (offset : ℕ)
      → (read : JournalIsBad (λ bytes. IsBadAt bytes offset) options files)
      → (quiet : IsQuiet files files')
      → (reads : WereRead (read_paths options) calls calls')
      → (line : PutsMessage (bad_record_text offset) out out')
      → CheckEnds options files files' calls calls' out out' 14
  -- the files aren't those of a finished run, and the line says the first cause
  not_confirmed : (why : Why)
      → (found : FoundIn options files (No why))
      → (quiet : IsQuiet files files')
      → (reads : WereRead (read_paths options) calls calls')
      → (line : PutsMessage (codes "check: " ++ why_text why) out out')
      → CheckEnds options files files' calls calls' out out' 15

-- What is visible is a problem in whose start each keep text occurs.
abbrev pub IsShownHeld : CheckOptions → SeenFiles → Type 0
IsShownHeld options files = IsShownProblem (checked_problem options) files (λ start. holds_all options.keeps start ≡ true)

-- What is visible of the files is a problem in whose start each keep text occurs, a result and a journal, each within its limit.
pub record IsShownRun (options : CheckOptions) (files : SeenFiles) : Type 0 where
  pub problem : IsShownHeld options files
  pub result : IsShownWithin result_limit (files.shown options.output) (λ bytes. Unit {0})
  pub journal : IsShownWithin journal_limit (files.shown options.journal)
      (λ bytes. (head : Head) × (history : History) × (torn : ℕ) × IsJournalOf bytes head history torn)

-- Which status the grammar, the input and the keep texts ask for. A failed read (3) and out of memory (1) are excepted.
pub record ProblemMustEnd (options : CheckOptions) (files : SeenFiles) (status : ℕ) : Type 0 where
  -- a grammar over its limit is refused
  pub grammar_over : (trees : GrammarOptions) → options.mode ≡ ModeOptions.by_grammar trees → IsOver grammar_limit (files.shown trees.grammar.path)
      → IsOneOf (10 ∷ 3 ∷ 1 ∷ []) status
  -- a grammar that isn't there can't be read
  pub grammar_missing : (trees : GrammarOptions) → options.mode ≡ ModeOptions.by_grammar trees → files.shown trees.grammar.path ≡ Some None
      → IsOneOf (3 ∷ 1 ∷ []) status
  -- so are a lexer over its limit, and one that isn't there, unless the other file was refused before
  pub lexer_over : (trees : GrammarOptions) (lexer : List ℕ) → options.mode ≡ ModeOptions.by_grammar trees → trees.grammar.lexer ≡ Some lexer
      → IsOver grammar_limit (files.shown lexer) → IsOneOf (10 ∷ 3 ∷ 1 ∷ []) status
  pub lexer_missing : (trees : GrammarOptions) (lexer : List ℕ) → options.mode ≡ ModeOptions.by_grammar trees → trees.grammar.lexer ≡ Some lexer
      → files.shown lexer ≡ Some None → IsOneOf (3 ∷ 10 ∷ 1 ∷ []) status
  -- a faulty grammar within its limit is refused
  pub faulty : (trees : GrammarOptions) → options.mode ≡ ModeOptions.by_grammar trees
      → GrammarIsShown trees.grammar files (λ texts. ¬ IsGrammarText trees.grammar texts) → IsOneOf (5 ∷ 3 ∷ 1 ∷ []) status
  -- an input over its limit is refused as such, where the mode has no grammar or a well-formed one
  pub input_over : IsShownGrammar options.mode files → IsOver input_limit (files.shown options.input) → IsOneOf (10 ∷ 3 ∷ 1 ∷ []) status
  -- an input that isn't there can't be read, where the mode has no grammar or a well-formed one
  pub input_missing : IsShownGrammar options.mode files → files.shown options.input ≡ Some None → IsOneOf (3 ∷ 1 ∷ []) status
  -- whatever the grammar is, an input over its limit is refused, unless the grammar was refused before
  pub over : IsOver input_limit (files.shown options.input) → IsOneOf (10 ∷ 3 ∷ 5 ∷ 1 ∷ []) status
  -- whatever the grammar is, an input that isn't there can't be read, unless the grammar was refused before
  pub missing : files.shown options.input ≡ Some None → IsOneOf (3 ∷ 5 ∷ 10 ∷ 1 ∷ []) status
  -- an input within its limit whose bytes aren't cut into tokens is refused, where the grammar is well-formed
  pub no_token : (trees : GrammarOptions) → options.mode ≡ ModeOptions.by_grammar trees
      → IsShownFault trees.grammar (checked_problem options) files (λ fault. IsUncut fault) → IsOneOf (6 ∷ 3 ∷ 1 ∷ []) status
  -- one whose tokens the start rule doesn't derive is refused, where the grammar is well-formed
  pub unparsed : (trees : GrammarOptions) → options.mode ≡ ModeOptions.by_grammar trees
      → IsShownFault trees.grammar (checked_problem options) files (λ fault. fault ≡ input_fault.NoParse) → IsOneOf (7 ∷ 3 ∷ 1 ∷ []) status
  -- an input in which a keep text doesn't occur is refused, where it is a problem of its mode
  pub keep_missing : IsShownProblem (checked_problem options) files (λ start. holds_all options.keeps start ≡ false) → IsOneOf (9 ∷ 3 ∷ 1 ∷ []) status

-- Which status the result and the journal ask for, once the problem is accepted. A failed read (3) and out of memory (1) are excepted.
pub record RunMustEnd (options : CheckOptions) (files : SeenFiles) (status : ℕ) : Type 0 where
  -- a result over its limit is refused, and one that isn't there can't be read
  pub result_over : IsShownHeld options files → IsOver result_limit (files.shown options.output) → IsOneOf (10 ∷ 3 ∷ 1 ∷ []) status
  pub result_missing : IsShownHeld options files → files.shown options.output ≡ Some None → IsOneOf (3 ∷ 1 ∷ []) status
  -- so is a journal, once the result was read
  pub journal_over : IsShownHeld options files → IsShownWithin result_limit (files.shown options.output) (λ bytes. Unit {0})
      → IsOver journal_limit (files.shown options.journal) → IsOneOf (10 ∷ 3 ∷ 1 ∷ []) status
  pub journal_missing : IsShownHeld options files → IsShownWithin result_limit (files.shown options.output) (λ bytes. Unit {0})
      → files.shown options.journal ≡ Some None → IsOneOf (3 ∷ 1 ∷ []) status
  -- bytes within the limit that are the journal of no history are refused
  pub bad_journal : IsShownHeld options files → IsShownWithin result_limit (files.shown options.output) (λ bytes. Unit {0})
      → IsShownWithin journal_limit (files.shown options.journal) HaveNoHistory → IsOneOf (14 ∷ 3 ∷ 1 ∷ []) status
  -- a run of which yes is found is confirmed, unless that can't be put
  pub confirmed : IsShownRun options files → FoundIn options files Yes → IsOneOf (0 ∷ 4 ∷ 3 ∷ 1 ∷ []) status
  -- one of which a cause is found isn't
  pub not_confirmed : IsShownRun options files → (why : Why) → FoundIn options files (No why) → IsOneOf (15 ∷ 3 ∷ 1 ∷ []) status

-- Which status it has to be. This follows from how `check` ends.
pub record CheckMustEnd (options : CheckOptions) (files files' : SeenFiles) (out out' : SeenOut) (status : ℕ) : Type 0 where
  pub problem : ProblemMustEnd options files status
  pub run : RunMustEnd options files status
  -- files that are visible and within their limits are confirmed or not, where no call failed
  pub complete : IsShownRun options files → ¬ CallFailed files files' → ¬ CallFailed out out' → IsOneOf (0 ∷ 15 ∷ 1 ∷ []) status
  -- where a call of the files failed, a file wasn't read
  pub files_failed : ¬ IsQuiet files files' → status ≡ 3
  -- where the put failed, it was that of the answer (4) or of another status's line
  pub out_failed : ¬ IsQuiet out out' → status ≢ 0

-- A run of `check` with these options. Every file is as before.
pub record Checks (options : CheckOptions) (files files' : SeenFiles) (calls calls' : SeenCalls) (out out' : SeenOut) (status : ℕ) : Type 0 where
  pub ends : CheckEnds options files files' calls calls' out out' status
  pub must_end : CheckMustEnd options files files' out out' status
  pub same : SameFiles files.shown files'.shown
