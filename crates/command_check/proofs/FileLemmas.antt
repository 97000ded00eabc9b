-- Why files weren't read, and what was found of them.
use Rattle.std.proofs.Common.{arith, ◌≡◌, ◌≤◌, ℕ, List, length, Option, Some, Err, true, string_bytes, ◌∙◌, ap, append_assoc, refl, sym, subst, [], ◌∷◌, ◌++◌}
use Rattle.std.specs.Global.{Vec}
use Rattle.std.specs.Prelude.{◌==◌, if◌then◌else◌}
use Rattle.faults.specs.Memory.{ran_out}
use Rattle.edge_io.specs.Files.{Holds, IsLonger}
use Rattle.edge_io.specs.FileCalls.{WereMade, failed_call}
use Rattle.edge_io.specs.declared.file_call.FileAction.TheVariants.{Read}
use Rattle.edge_io.proofs.Lent.{made_then, none_made}
use Rattle.grammar_tree.specs.Faults.{IsWellFormed}
use Rattle.keep_guard.specs.Keep.{holds_all, keeps_admit}
use Rattle.script_gate_trait.specs.declared.shared_bytes.Bytes.{Bytes}
use Rattle.reduce_core.specs.Reduction.{Admits}
use Rattle.reduce_step.specs.Limits.{text_limit}
use Rattle.reduce_trees_mode.specs.Candidates.{InLanguage}
use Rattle.reduce_trees_input.specs.Laws.{InputsAreInLanguage, InputsAreOne}
use Rattle.reduce_trees_input.specs.Parsed.{IsInputOf, tree_input}
use Rattle.reduce_journal.specs.History.{History, records_of}
use Rattle.reduce_journal.specs.Journal.{GivesJournal, IsBadAt, IsJournalOf, IsReadAs, IsReadOf, LacksHead}
use Rattle.reduce_journal.specs.declared.digest.Digest.{Digest}
use Rattle.reduce_journal.specs.declared.head.Head.{Head}
use Rattle.reduce_journal.specs.declared.head.Head.TheVariants.{Version1, Version2}
use Rattle.reduce_journal.specs.declared.read.Journal.{Journal}
use Rattle.reduce_journal.specs.declared.read.JournalFault.{JournalFault}
use Rattle.reduce_journal.specs.declared.read.JournalFault.TheVariants as journal_fault
use Rattle.cert_check.specs.Findings.{IsFound, digest_in, head_in}
use Rattle.cert_check.specs.Setup.{IsSetupOf, admits_in}
use Rattle.cert_check.specs.declared.setup.Setup.{Setup}
use Rattle.cert_check.specs.declared.setup.Setup.TheVariants as setup
use Rattle.cert_check.specs.declared.finding.Finding.{Finding}
use Rattle.cert_check.specs.declared.finding.Finding.TheVariants.{No, Yes}
use Rattle.cert_check.specs.declared.finding.Why.{Why}
use Rattle.command_ends.specs.declared.status.NamedFile.{NamedFile}
use Rattle.command_ends.specs.declared.status.NamedFile.TheVariants as named
use Rattle.command_ends.specs.declared.status.Refusal.{Refusal}
use Rattle.command_ends.specs.declared.status.Refusal.TheVariants.{Memory, CannotRead, TooLong, Grammar, Uncut, NoParse, KeepMissing}
use Rattle.command_ends.specs.declared.status.Refusal.TheVariants.{BadJournal, NotConfirmed}
use Rattle.command_ends.specs.Status.{IsJournalRefusal, KeepsFail, ReadFails, unread_makes}
use Rattle.command_ends.specs.World.{IsQuiet, PutsLine, SeenCalls, SeenFiles, SomeRead, UnreadAfter, WereRead, input_limit, journal_limit, reads_of}
use Rattle.command_ends.specs.World.{result_limit}
use Rattle.command_ends.proofs.Lent.{all_some, read_then, read_then_none, some_more}
use Rattle.command_problem.specs.Problem.{IsInputReached, IsReached, ProblemRead, ReadIn, grammar_paths_in, limit_of, path_in, paths_before, problem_paths}
use Rattle.command_problem.specs.Read.{GivesTree, ProblemCalls, ProblemFails}
use Rattle.command_problem.specs.declared.read.ReadTree.{ReadTree}
use Rattle.command_problem.proofs.Lent.{problem_map, tree_read}
use Rattle.run_problem.specs.Problem.{IsReductionOf, Problem, start_text}
use Rattle.verdict_table.specs.TableState.{verdict_in}
use Rattle.keep_guard.specs.Keep.{first_missing}
use Rattle.command_words.specs.Commands.{CheckOptions, GrammarOptions, ModeOptions}
use Rattle.command_check.specs.Check.{ConfirmedIn, FoundIn, IsFileReached, IsJournalReached}
use Rattle.command_check.specs.Check.{IsResultReached, RunRead, checked_problem, path_of_file, read_before}
use Rattle.command_check.specs.Check.{read_paths}
use Rattle.command_check.specs.Check.CheckEnds.{memory, unread, faulty, no_token, unparsed, keep_missing, too_long, no_head, bad_event, not_confirmed}
use Rattle.command_check.specs.inner.Check.{CheckFails, IsCauseRefusal, IsSetupRead}

module _ (options : CheckOptions) (files files' : SeenFiles) (calls calls' : SeenCalls) where
  -- the files of the problem are read as files of the run
  reached : (file : NamedFile) → IsReached options.mode file files → IsFileReached options file files
  reached named.Input is = is
  reached named.Grammar is = is
  reached named.Lexer is = is
  reached named.Result is = absurd is
  reached named.Journal is = absurd is

  longer : (file : NamedFile) → IsReached options.mode file files → IsLonger (limit_of file) (files.shown (path_in (checked_problem options) file))
      → IsLonger (limit_of file) (files.shown (path_of_file options file))
  longer named.Input is over = over
  longer named.Grammar is over = over
  longer named.Lexer is over = over
  longer named.Result is over = absurd is
  longer named.Journal is over = absurd is

  -- the calls of the problem's files are those of the run's
  unread_at : (file : NamedFile) → IsReached options.mode file files
      → UnreadAfter (paths_before (checked_problem options) file) (path_in (checked_problem options) file) calls calls'
      → UnreadAfter (read_before options file) (path_of_file options file) calls calls'
  unread_at named.Input is reads = reads
  unread_at named.Grammar is reads = reads
  unread_at named.Lexer is reads = reads
  unread_at named.Result is reads = absurd is
  unread_at named.Journal is reads = absurd is

  long_at : (file : NamedFile) → IsReached options.mode file files
      → WereRead (paths_before (checked_problem options) file ++ path_in (checked_problem options) file ∷ []) calls calls'
      → WereRead (read_before options file ++ path_of_file options file ∷ []) calls calls'
  long_at named.Input is reads = reads
  long_at named.Grammar is reads = reads
  long_at named.Lexer is reads = reads
  long_at named.Result is reads = absurd is
  long_at named.Journal is reads = absurd is

  -- some of the files of the problem, and of those up to the result, are some of all
  problem_some : SomeRead (problem_paths (checked_problem options)) calls calls' → SomeRead (read_paths options) calls calls'
  problem_some reads = some_more (problem_paths (checked_problem options)) (options.output ∷ options.journal ∷ []) calls calls' reads

  pub problem_all_some : WereRead (problem_paths (checked_problem options)) calls calls' → SomeRead (read_paths options) calls calls'
  problem_all_some reads = problem_some (all_some (problem_paths (checked_problem options)) calls calls' reads)

  input_some : SomeRead (read_before options named.Input) calls calls' → SomeRead (read_paths options) calls calls'
  input_some reads = problem_some (some_more (grammar_paths_in options.mode) (options.input ∷ []) calls calls' reads)

  result_some : SomeRead (read_before options named.Journal) calls calls' → SomeRead (read_paths options) calls calls'
  result_some reads =
      subst (λ (paths : List (List ℕ)). SomeRead paths calls calls')
      (append_assoc (problem_paths (checked_problem options)) (options.output ∷ []) (options.journal ∷ []))
      (some_more (problem_paths (checked_problem options) ++ options.output ∷ []) (options.journal ∷ []) calls calls' reads)

  -- why there is no problem
  pub problem_fails : (refusal : Refusal) → ProblemFails (checked_problem options) files files' refusal
      → ProblemCalls (checked_problem options) calls calls' refusal → CheckFails options files files' calls calls' refusal
  problem_fails (Memory _) why reads = λ out out' put. memory why (problem_some reads) put
  problem_fails (CannotRead file) why reads = λ out out' put. unread file (reached file why.0) why.1 (unread_at file why.0 reads) put
  problem_fails (TooLong file) why reads = λ out out' put.
      too_long file (reached file why.0) (longer file why.0 why.1) why.2 (long_at file why.0 reads) put
  problem_fails (Grammar line) why reads = λ out out' put.
      faulty why.0 why.2.0 why.1 why.2.1 why.2.3 (subst (λ (m : ModeOptions). WereRead (grammar_paths_in m) calls calls') why.1 reads)
      (subst (λ l. PutsLine l out out') why.2.2 put)
  problem_fails (Uncut line) why reads = λ out out' put. no_token why.0 why.1 why.2 why.3 why.4 why.6 reads (subst (λ l. PutsLine l out out') why.5 put)
  problem_fails NoParse why reads = λ out out' put. unparsed why.0 why.1 why.2 why.3 reads put
  problem_fails _ why reads = absurd why

  -- why a keep text isn't held by the start of the problem that was read
  pub keeps_fail : (start : List ℕ) (refusal : Refusal) → ProblemRead (checked_problem options) files (λ problem. start_text problem ≡ start)
      → IsQuiet files files' → KeepsFail options.keeps start refusal → WereRead (problem_paths (checked_problem options)) calls calls'
      → CheckFails options files files' calls calls' refusal
  keeps_fail start (Memory _) read quiet why reads = λ out out' put. memory quiet (problem_all_some reads) put
  keeps_fail start (KeepMissing line) read quiet why reads = λ out out' put.
      keep_missing why.0
      (problem_map (checked_problem options) files (λ problem. start_text problem ≡ start)
      (λ problem. first_missing options.keeps (start_text problem) ≡ Some why.0)
      (λ problem is. subst (λ text. first_missing options.keeps text ≡ Some why.0) (sym is) why.1) read)
      quiet reads (subst (λ l. PutsLine l out out') why.2 put)
  keeps_fail start _ read quiet why reads = absurd why

  -- where memory ran out after a file was read
  pub memory_fails : IsQuiet files files' → SomeRead (read_paths options) calls calls' → CheckFails options files files' calls calls' (Memory ran_out)
  memory_fails quiet reads = λ out out' put. memory quiet reads put

  -- the files aren't those of a finished run
  pub cause_fails : (why : Why) (refusal : Refusal) → FoundIn options files (No why) → IsQuiet files files' → IsCauseRefusal why refusal
      → WereRead (read_paths options) calls calls'
      → CheckFails options files files' calls calls' refusal
  cause_fails why (Memory _) found quiet is reads = λ out out' put. memory quiet (all_some (read_paths options) calls calls' reads) put
  cause_fails why (NotConfirmed line) found quiet is reads = λ out out' put. not_confirmed why found quiet reads (subst (λ l. PutsLine l out out') is put)
  cause_fails why _ found quiet is reads = absurd is

  -- why the input, the result or the journal wasn't read, once those before it were
  module _ (mid : SeenCalls) where
    file_fails : (file : NamedFile) → IsFileReached options file files → WereRead (read_before options file) calls mid
        → (SomeRead (read_before options file) calls calls' → SomeRead (read_paths options) calls calls') → (refusal : Refusal)
        → ReadFails (limit_of file) file (files.shown (path_of_file options file)) files files' refusal
        → WereMade (unread_makes (path_of_file options file) refusal) mid calls' → CheckFails options files files' calls calls' refusal
    file_fails file is before more (Memory _) why made = λ out out' put.
        memory why (more (all_some (read_before options file) calls calls' (read_then_none (read_before options file) calls mid calls' before made))) put
    file_fails file is before more (CannotRead other) why made = λ out out' put.
        unread other (subst (λ f. IsFileReached options f files) (sym why.0) is) why.1
        (subst (λ f. UnreadAfter (read_before options f) (path_of_file options f) calls calls') (sym why.0)
        (made_then (reads_of (read_before options file)) (failed_call Read (path_of_file options file) ∷ []) calls mid calls' before made)) put
    file_fails file is before more (TooLong other) why made = λ out out' put.
        too_long other (subst (λ f. IsFileReached options f files) (sym why.0) is)
        (subst (λ f. IsLonger (limit_of f) (files.shown (path_of_file options f))) (sym why.0) why.1) why.2
        (subst (λ f. WereRead (read_before options f ++ path_of_file options f ∷ []) calls calls') (sym why.0)
        (read_then (read_before options file) calls mid calls' before (path_of_file options file ∷ []) made)) put
    file_fails file is before more _ why made = absurd why

    pub input_fails : IsFileReached options named.Input files → WereRead (read_before options named.Input) calls mid → (refusal : Refusal)
        → ReadFails input_limit named.Input (files.shown options.input) files files' refusal
        → WereMade (unread_makes options.input refusal) mid calls' → CheckFails options files files' calls calls' refusal
    input_fails is before refusal why made = file_fails named.Input is before input_some refusal why made

    pub result_fails : IsResultReached options files → WereRead (problem_paths (checked_problem options)) calls mid → (refusal : Refusal)
        → ReadFails result_limit named.Result (files.shown options.output) files files' refusal
        → WereMade (unread_makes options.output refusal) mid calls' → CheckFails options files files' calls calls' refusal
    result_fails is before refusal why made = file_fails named.Result is before problem_some refusal why made

    pub journal_fails : IsJournalReached options files → WereRead (read_before options named.Journal) calls mid → (refusal : Refusal)
        → ReadFails journal_limit named.Journal (files.shown options.journal) files files' refusal
        → WereMade (unread_makes options.journal refusal) mid calls' → CheckFails options files files' calls calls' refusal
    journal_fails is before refusal why made = file_fails named.Journal is before result_some refusal why made

  -- the journal that was read is none
  module _ (is : IsJournalReached options files) (quiet : IsQuiet files files') (reads : WereRead (read_paths options) calls calls')
      (bytes : List ℕ) (here : Holds bytes (files.shown options.journal))
      (within : length bytes ≤ journal_limit) where
    pub journal_bad : (fault : JournalFault) (refusal : Refusal) → IsJournalRefusal fault refusal
        → ((head : Head) (events : History) (torn : ℕ) → IsJournalOf bytes head events torn → GivesJournal head events torn (Err fault))
        → (fault ≡ journal_fault.BadHead → LacksHead bytes) → ((offset : ℕ) → fault ≡ journal_fault.BadRecord offset → IsBadAt bytes offset)
        → CheckFails options files files' calls calls' refusal
    journal_bad fault (Memory _) answers each lacks event = λ out out' put. memory quiet (all_some (read_paths options) calls calls' reads) put
    journal_bad journal_fault.BadHead (BadJournal line) answers each lacks event = λ out out' put.
        no_head (
          is,
          record {
            bytes = bytes;
            read = here;
            within = within;
            holds =
                (lacks refl, λ head history torn of. each head history torn of);
          },
        ) quiet reads
        (subst (λ l. PutsLine l out out') answers put)
    journal_bad (journal_fault.BadRecord offset) (BadJournal line) answers each lacks event = λ out out' put.
        bad_event offset
        (is, record { bytes = bytes; read = here; within = within; holds = (event offset refl, λ head history torn of. each head history torn of) }) quiet reads
        (subst (λ l. PutsLine l out out') answers put)
    journal_bad (journal_fault.Memory _) (BadJournal line) answers each lacks event = absurd answers
    journal_bad fault _ answers each lacks event = absurd answers

module _ (options : CheckOptions) (files : SeenFiles) where
  -- the lines of an input
  lines_read : options.mode ≡ ModeOptions.lines → (P : Problem → Type 0) (start : List ℕ) → Holds start (files.shown options.input)
      → length start ≤ input_limit → P (Problem.of_lines start) → ProblemRead (checked_problem options) files P
  lines_read mode P start here within holds =
      subst (λ (m : ModeOptions). ReadIn m (checked_problem options) files P) (sym mode)
      (record { bytes = start; read = here; within = within; holds = holds })

  module _ (mode : options.mode ≡ ModeOptions.lines) (files' : SeenFiles) (calls calls' : SeenCalls) where
    -- in a mode without a grammar the input is all that is read
    pub lines_reads : WereRead (options.input ∷ []) calls calls' → WereRead (problem_paths (checked_problem options)) calls calls'
    lines_reads reads = subst (λ (m : ModeOptions). WereRead (grammar_paths_in m ++ options.input ∷ []) calls calls') (sym mode) reads

    -- why they weren't read
    pub lines_fail : (refusal : Refusal) → ReadFails input_limit named.Input (files.shown options.input) files files' refusal
        → WereMade (unread_makes options.input refusal) calls calls' → CheckFails options files files' calls calls' refusal
    lines_fail refusal why made =
        input_fails options files files' calls calls' calls (subst (λ (m : ModeOptions). IsInputReached m files) (sym mode) tt)
        (subst (λ (m : ModeOptions). WereRead (grammar_paths_in m) calls calls) (sym mode) (none_made calls)) refusal why made

    pub lines_keeps_fail : (start : List ℕ) → Holds start (files.shown options.input) → length start ≤ input_limit → (refusal : Refusal)
        → IsQuiet files files' → KeepsFail options.keeps start refusal → WereRead (options.input ∷ []) calls calls'
        → CheckFails options files files' calls calls' refusal
    lines_keeps_fail start here within refusal quiet why reads =
        keeps_fail options files files' calls calls' start refusal (lines_read mode (λ problem. start_text problem ≡ start) start here within refl) quiet why
        (lines_reads reads)

  -- the tree of an input
  module _ (one : InputsAreOne) (languages : InputsAreInLanguage) (trees : GrammarOptions) (mode : options.mode ≡ ModeOptions.by_grammar trees)
      (tree : ReadTree) (gives : GivesTree trees.grammar options.input files tree) where
    admits : Admits
    admits = keeps_admit options.keeps

    tree_is : ProblemRead (checked_problem options) files
        (λ problem. (formed : IsWellFormed tree.found.lexer.grammar tree.found.lexer.start)
        × (problem ≡ Problem.of_tree trees.mode (tree_input tree.found formed (keeps_admit options.keeps) trees.squeeze)))
    tree_is =
        tree_read (checked_problem options) files trees mode one (λ input other. refl) tree gives (keeps_admit options.keeps) (λ formed. refl)

    formed : IsWellFormed tree.found.lexer.grammar tree.found.lexer.start
    formed = gives.ready.checked.well_formed

    of_text : IsInputOf tree.checked gives.read.bytes (tree_input tree.found formed (keeps_admit options.keeps) trees.squeeze)
    of_text = gives.read.holds formed (keeps_admit options.keeps) trees.squeeze

    pub same_text : string_bytes tree.found.text ≡ gives.read.bytes
    same_text = of_text.same_text

    pub tree_keeps_fail : (files' : SeenFiles) (calls calls' : SeenCalls) (refusal : Refusal) → IsQuiet files files'
        → KeepsFail options.keeps (string_bytes tree.found.text) refusal → WereRead (problem_paths (checked_problem options)) calls calls'
        → CheckFails options files files' calls calls' refusal
    tree_keeps_fail files' calls calls' refusal quiet why reads =
        keeps_fail options files files' calls calls' (string_bytes tree.found.text) refusal
        (problem_map (checked_problem options) files _ (λ problem. start_text problem ≡ string_bytes tree.found.text)
        (λ problem is. ap start_text is.1) tree_is) quiet why reads

    pub tree_setup : (keeps : Vec Bytes) → keeps.items ≡ options.keeps → holds_all options.keeps (string_bytes tree.found.text) ≡ true
        → IsSetupRead options files (setup.Tree tree.checked tree.found.text trees.mode trees.squeeze keeps)
    tree_setup keeps are kept = record {
      can = record {
        short = subst (λ (text : List ℕ). length text ≤ text_limit) (sym same_text) (omega (arith, gives.read.within));
        kept = subst (λ (texts : List (List ℕ)). holds_all texts (string_bytes tree.found.text) ≡ true) (sym are) kept;
        language = subst (InLanguage tree.checked) (sym same_text) (languages tree.checked gives.read.bytes _ of_text);
      };
      keeps = are;
      problem =
          problem_map (checked_problem options) files _
          (λ problem. (holds_all options.keeps (start_text problem) ≡ true)
          × IsSetupOf (setup.Tree tree.checked tree.found.text trees.mode trees.squeeze keeps) problem)
          (λ problem is. (
            subst (λ (text : List ℕ). holds_all options.keeps text ≡ true) (sym (ap start_text is.1)) kept,
            (
              tree_input tree.found is.0 (keeps_admit options.keeps) trees.squeeze,
              subst (λ (text : List ℕ). IsInputOf tree.checked text (tree_input tree.found is.0 (keeps_admit options.keeps) trees.squeeze)) (sym same_text)
                  (gives.read.holds is.0 (keeps_admit options.keeps) trees.squeeze),
              record { admits = ap keeps_admit (sym are); squeezes = refl },
              is.1,
            ),
          )) tree_is;
    }

-- the problem was read, and then the result and the journal
pub both_read : (options : CheckOptions) (calls before mid calls' : SeenCalls) → WereRead (problem_paths (checked_problem options)) calls before
    → WereRead (options.output ∷ []) before mid → WereRead (options.journal ∷ []) mid calls' → WereRead (read_paths options) calls calls'
both_read options calls before mid calls' problem result journal =
    read_then (problem_paths (checked_problem options)) calls before calls' problem (options.output ∷ options.journal ∷ [])
    (read_then (options.output ∷ []) before mid calls' result (options.journal ∷ []) journal)

pub run_reads : (options : CheckOptions) (calls mid calls' : SeenCalls) → WereRead (problem_paths (checked_problem options)) calls mid
    → WereRead (options.output ∷ options.journal ∷ []) mid calls' → WereRead (read_paths options) calls calls'
run_reads options calls mid calls' problem run =
    read_then (problem_paths (checked_problem options)) calls mid calls' problem (options.output ∷ options.journal ∷ []) run

-- the head in a journal is the one that it was read of
head_read : (first : Head) (history : History) (torn : ℕ) (journal : Journal) → IsReadAs first history torn journal → head_in journal ≡ first
head_read Version1 history torn journal it =
    ap (λ (version : ℕ). if version == 2 then Version2 (digest_in journal.start) else Version1) it.version
head_read (Version2 digest) history torn journal it =
    ap (λ (version : ℕ). if version == 2 then Version2 (digest_in journal.start) else Version1) it.version
    ∙ ap (λ (start : Option Digest). Version2 (digest_in start)) it.start

-- the result and the journal, as they were read
pub run_read : (options : CheckOptions) (files : SeenFiles) (output bytes : List ℕ) → Holds output (files.shown options.output) → length output ≤ result_limit
    → Holds bytes (files.shown options.journal) → length bytes ≤ journal_limit → (journal : Journal) → IsReadOf bytes journal
    → RunRead options files output (head_in journal) journal.events.items journal.torn
run_read options files output bytes here within there below journal (first, events, torn, of, is) = record {
  result = record { bytes = output; read = here; within = within; holds = refl };
  journal = record {
    bytes = bytes;
    read = there;
    within = below;
    holds =
        subst (λ (first' : Head). IsJournalOf bytes first' journal.events.items journal.torn) (sym (head_read first events torn journal is))
        (subst (λ (history : History). IsJournalOf bytes first history journal.torn) (sym is.events)
        (subst (λ (tail : ℕ). IsJournalOf bytes first events tail) (sym is.torn) of));
  };
}

-- what is found of a setup's run is found of the command line's
pub found_of : (options : CheckOptions) (files : SeenFiles) (it : Setup) (text : List ℕ) (head : Head) (history : History) (torn : ℕ) (finding : Finding)
    → IsSetupRead options files it → RunRead options files text head history torn
    → ((problem : Problem) → IsSetupOf it problem → IsFound (admits_in it) problem text head history torn finding) → FoundIn options files finding
found_of options files it text head history torn finding setup_read run found =
    problem_map (checked_problem options) files (λ problem. (holds_all options.keeps (start_text problem) ≡ true) × IsSetupOf it problem)
    (λ problem. (holds_all options.keeps (start_text problem) ≡ true)
    × ((text : List ℕ) × (head : Head) × (history : History) × (torn : ℕ) × RunRead options files text head history torn
    × IsFound (keeps_admit options.keeps) problem text head history torn finding))
    (λ problem is. (
      is.0,
      (
        text,
        head,
        history,
        torn,
        run,
        subst (λ (keeps : List (List ℕ)). IsFound (keeps_admit keeps) problem text head history torn finding)
            setup_read.keeps (found problem is.1),
      ),
    )) setup_read.problem

-- so is that it is confirmed, with what that implies
pub confirmed_of : (options : CheckOptions) (files : SeenFiles) (it : Setup) (text : List ℕ) (head : Head) (history : History) (torn : ℕ)
    → IsSetupRead options files it → RunRead options files text head history torn
    → ((problem : Problem) → IsSetupOf it problem → IsFound (admits_in it) problem text head history torn Yes)
    → ((problem : Problem) → IsSetupOf it problem → IsReductionOf (admits_in it) (verdict_in (records_of history)) problem text) → ConfirmedIn options files
confirmed_of options files it text head history torn setup_read run found reduction =
    problem_map (checked_problem options) files (λ problem. (holds_all options.keeps (start_text problem) ≡ true) × IsSetupOf it problem)
    (λ problem. (holds_all options.keeps (start_text problem) ≡ true)
    × ((text : List ℕ) × (head : Head) × (history : History) × (torn : ℕ) × RunRead options files text head history torn
    × IsFound (keeps_admit options.keeps) problem text head history torn Yes
    × IsReductionOf (keeps_admit options.keeps) (verdict_in (records_of history)) problem text))
    (λ problem is. (
      is.0,
      (
        text,
        head,
        history,
        torn,
        run,
        subst (λ (keeps : List (List ℕ)). IsFound (keeps_admit keeps) problem text head history torn Yes) setup_read.keeps (found problem is.1),
        subst (λ (keeps : List (List ℕ)). IsReductionOf (keeps_admit keeps) (verdict_in (records_of history)) problem text) setup_read.keeps
            (reduction problem is.1),
      ),
    )) setup_read.problem

-- once the setup was read the result is reached
pub result_reached : (options : CheckOptions) (files : SeenFiles) (it : Setup) → IsSetupRead options files it → IsResultReached options files
result_reached options files it setup_read =
    problem_map (checked_problem options) files (λ problem. (holds_all options.keeps (start_text problem) ≡ true) × IsSetupOf it problem)
    (λ problem. (holds_all options.keeps (start_text problem) ≡ true) × Unit {0}) (λ problem is. (is.0, tt)) setup_read.problem
