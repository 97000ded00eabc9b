-- Which status the result and the journal ask for, from how `check` ends.
use Rattle.std.proofs.Common.{◌≡◌, ℕ, List, [], ◌∷◌, Option, Some, None, IsSome, true, refl, sym, ap, ◌∙◌, subst}
use Rattle.std.proofs.lemmas.Option.{same_Some}
use Rattle.edge_io.specs.Files.{FileContent, Holds, IsLonger}
use Rattle.grammar_tree.specs.Written.{CheckedGrammar}
use Rattle.keep_guard.specs.Keep.{holds_all, keeps_admit}
use Rattle.reduce_journal.specs.declared.head.Head.{Head}
use Rattle.reduce_journal.specs.History.{History}
use Rattle.reduce_journal.specs.Journal.{IsJournalOf}
use Rattle.reduce_trees_mode.specs.Candidates.{InLanguage}
use Rattle.reduce_trees_input.specs.Parsed.{IsInputOf}
use Rattle.run_problem.specs.Problem.{Problem, start_text}
use Rattle.cert_check.specs.Findings.{IsFound}
use Rattle.cert_check.specs.Laws.{OneIsFound}
use Rattle.cert_check.specs.declared.finding.Finding.{Finding}
use Rattle.cert_check.specs.declared.finding.Finding.TheVariants.{Yes, No}
use Rattle.cert_check.specs.declared.finding.Why.{Why}
use Rattle.command_ends.specs.Status.{IsOneOf}
use Rattle.command_ends.specs.World.{IsShownWithin, SeenFiles, grammar_limit, input_limit, journal_limit, result_limit}
use Rattle.command_ends.proofs.Lent.{longer_not_missing, not_longer, read_not_missing, read_not_over}
use Rattle.command_grammar.specs.Texts.{GrammarIsVisible, GrammarTexts, TextsShown, TextsVisible}
use Rattle.command_grammar.proofs.Lent.{of_grammar, one_grammar}
use Rattle.command_problem.specs.Problem.{ReadIn, ShownIn}
use Rattle.command_problem.proofs.Lent.{any_problem, problem_map, shown_holds}
use Rattle.command_words.specs.Commands.{CheckOptions, ModeOptions}
use Rattle.command_check.specs.Check.{ConfirmedIn, FoundIn, HaveNoHistory, IsJournalReached, IsShownHeld, IsShownRun, JournalIsBad}
use Rattle.command_check.specs.Check.{RunMustEnd, RunRead, checked_problem}

-- bytes are a journal of one head, one history and one length of a torn tail
abbrev pub JournalsAreOne : Type 0
JournalsAreOne = (bytes : List ℕ) (first first_other : Head) (one other : History) (torn torn_other : ℕ) → IsJournalOf bytes first one torn
    → IsJournalOf bytes first_other other torn_other → (first ≡ first_other) × (one ≡ other) × (torn ≡ torn_other)

-- ---- what is visible

is_some : (limit : ℕ) (P : List ℕ → Type 0) (content : Option FileContent) → IsShownWithin limit content P → IsSome content
is_some limit P None shown = absurd shown
is_some limit P (Some file) shown = refl

texts_visible : (path : List ℕ) (lexer : Option (List ℕ)) (shown : List ℕ → Option FileContent) (P : GrammarTexts → Type 0)
    → TextsShown path lexer shown P → TextsVisible path lexer shown
texts_visible path None shown P are = is_some grammar_limit _ (shown path) are
texts_visible path (Some lexer) shown P are = (is_some grammar_limit _ (shown path) are, within (shown path) are)
  where
    within : (content : Option FileContent)
        → IsShownWithin grammar_limit content (λ text. IsShownWithin grammar_limit (shown lexer) (λ before. P (GrammarTexts.pair before text)))
        → IsSome (shown lexer)
    within None it = absurd it
    within (Some None) it = absurd it
    within (Some (Some text)) it = is_some grammar_limit _ (shown lexer) it.1

-- a file that is visible holds one text
holds_once : (content : Option FileContent) (one other : List ℕ) → IsSome content → Holds one content → Holds other content → one ≡ other
holds_once None one other some here here' = absurd (cc some)
holds_once (Some file) one other some here here' = same_Some one other (sym here ∙ here')

module _ (options : CheckOptions) (files : SeenFiles) where
  -- ---- files that are visible have one problem

  known_in : (mode : ModeOptions) (P : Problem → Type 0) → ReadIn mode (checked_problem options) files P
      → (problem : Problem) × ReadIn mode (checked_problem options) files (λ one. one ≡ problem) × P problem
  known_in ModeOptions.lines P read =
      (Problem.of_lines read.bytes, record { bytes = read.bytes; read = read.read; within = read.within; holds = refl }, read.holds)
  known_in (ModeOptions.by_grammar trees) P read = (
    Problem.of_tree trees.mode read.2.holds.0,
    (read.0, read.1, record { bytes = read.2.bytes; read = read.2.read; within = read.2.within; holds = (read.2.holds.0, read.2.holds.1, refl) }),
    read.2.holds.2,
  )

  one_in : (mode : ModeOptions) (S : List ℕ → Type 0) (problem other : Problem) → ShownIn mode (checked_problem options) files S
      → ReadIn mode (checked_problem options) files (λ one. one ≡ problem) → ReadIn mode (checked_problem options) files (λ one. one ≡ other)
      → other ≡ problem
  one_in ModeOptions.lines S problem other shown read read' =
      sym read'.holds ∙ ap Problem.of_lines (holds_once (files.shown options.input) read'.bytes read.bytes
      (is_some input_limit S (files.shown options.input) shown) read'.read read.read) ∙ read.holds
  one_in (ModeOptions.by_grammar trees) S problem other shown read read' =
      let visible : GrammarIsVisible trees.grammar files = texts_visible trees.grammar.path trees.grammar.lexer files.shown _ shown in
      let same_grammar : read.0 ≡ read'.0 = one_grammar trees.grammar files read.0 read'.0 visible read.1 read'.1 in
      let content = files.shown options.input in
      let there : IsSome content =
      is_some input_limit (λ text. InLanguage read.0 text × S text) content
      (of_grammar trees.grammar files read.0 read.1 (λ c. IsShownWithin input_limit content (λ text. InLanguage c text × S text)) shown) in
      let same_text = holds_once content read'.2.bytes read.2.bytes there read'.2.read read.2.read in
      let input = read'.2.holds.0 in
      let of_text : IsInputOf read'.0 read.2.bytes input = subst (λ (text : List ℕ). IsInputOf read'.0 text input) same_text read'.2.holds.1.of_text in
      let of_both : IsInputOf read.0 read.2.bytes input = subst (λ (c : CheckedGrammar). IsInputOf c read.2.bytes input) (sym same_grammar) of_text in
      let same_input = read.2.holds.1.only input of_both read'.2.holds.1.admits read'.2.holds.1.squeezes in
      sym read'.2.holds.2 ∙ ap (Problem.of_tree trees.mode) (sym same_input) ∙ read.2.holds.2

  -- ---- of visible files one thing is found

  -- the files of a problem have this text, head, history and torn tail, of which this is found
  abbrev Has : Finding → Problem → Type 0
  Has finding problem =
      (holds_all options.keeps (start_text problem) ≡ true)
      × ((text : List ℕ) × (head : Head) × (history : History) × (torn : ℕ) × RunRead options files text head history torn
      × IsFound (keeps_admit options.keeps) problem text head history torn finding)

  module _ (journals : JournalsAreOne) (once : OneIsFound) (shown : IsShownRun options files) where
    -- so it is of one problem
    once_of : (problem : Problem) (one other : Finding) → Has one problem → Has other problem → one ≡ other
    once_of problem one other has has' =
        let run = has.1.4 in
        let run' = has'.1.4 in
        let output = files.shown options.output in
        let journal = files.shown options.journal in
        let same_bytes = holds_once output run'.result.bytes run.result.bytes (is_some result_limit _ output shown.result) run'.result.read run.result.read in
        let same_text : has'.1.0 ≡ has.1.0 = sym run'.result.holds ∙ same_bytes ∙ run.result.holds in
        let same_journal = holds_once journal run'.journal.bytes run.journal.bytes (is_some journal_limit _ journal shown.journal) run'.journal.read
        run.journal.read in
        let same = journals run.journal.bytes has'.1.1 has.1.1 has'.1.2 has.1.2 has'.1.3 has.1.3
        (subst (λ (bytes : List ℕ). IsJournalOf bytes has'.1.1 has'.1.2 has'.1.3) same_journal run'.journal.holds) run.journal.holds in
        let guard = keeps_admit options.keeps in
        once guard problem has.1.0 has.1.1 has.1.2 has.1.3 one other has.1.5
        (subst (λ (text : List ℕ). IsFound guard problem text has.1.1 has.1.2 has.1.3 other) same_text
        (subst (λ (head : Head). IsFound guard problem has'.1.0 head has.1.2 has.1.3 other) same.0
        (subst (λ (history : History). IsFound guard problem has'.1.0 has'.1.1 history has.1.3 other) same.1
        (subst (λ (torn : ℕ). IsFound guard problem has'.1.0 has'.1.1 has'.1.2 torn other) same.2 has'.1.5))))

    found_once : (one other : Finding) → FoundIn options files one → FoundIn options files other → one ≡ other
    found_once one other found found' =
        let a : (problem : Problem) × ReadIn options.mode (checked_problem options) files (λ it. it ≡ problem) × Has one problem =
        known_in options.mode (Has one) found in
        let b : (problem : Problem) × ReadIn options.mode (checked_problem options) files (λ it. it ≡ problem) × Has other problem =
        known_in options.mode (Has other) found' in
        let same : b.0 ≡ a.0 = one_in options.mode _ a.0 b.0 shown.problem a.1 b.1 in
        once_of a.0 one other a.2 (subst (Has other) same b.2)

  -- what is confirmed is found
  yes_found : ConfirmedIn options files → FoundIn options files Yes
  yes_found found =
      problem_map (checked_problem options) files _ (Has Yes)
      (λ problem it. (it.0, (it.1.0, it.1.1, it.1.2, it.1.3, it.1.4, it.1.5))) found

  -- ---- which status it has to be

  -- a file wasn't read, or memory ran out
  pub run_unread : RunMustEnd options files 3
  run_unread = record {
    result_over = λ shown over. refl;
    result_missing = λ shown none. refl;
    journal_over = λ shown result over. refl;
    journal_missing = λ shown result none. refl;
    bad_journal = λ shown result bad. refl;
    confirmed = λ shown found. refl;
    not_confirmed = λ shown why found. refl;
  }

  pub run_memory : RunMustEnd options files 1
  run_memory = record {
    result_over = λ shown over. refl;
    result_missing = λ shown none. refl;
    journal_over = λ shown result over. refl;
    journal_missing = λ shown result none. refl;
    bad_journal = λ shown result bad. refl;
    confirmed = λ shown found. refl;
    not_confirmed = λ shown why found. refl;
  }

  -- the problem isn't what is visible
  pub run_hidden : (status : ℕ) → (IsShownHeld options files → ⊥) → RunMustEnd options files status
  run_hidden status hidden = record {
    result_over = λ shown over. absurd (hidden shown);
    result_missing = λ shown none. absurd (hidden shown);
    journal_over = λ shown result over. absurd (hidden shown);
    journal_missing = λ shown result none. absurd (hidden shown);
    bad_journal = λ shown result bad. absurd (hidden shown);
    confirmed = λ shown found. absurd (hidden shown.problem);
    not_confirmed = λ shown why found. absurd (hidden shown.problem);
  }

  -- the result is too long
  pub long_result : IsLonger result_limit (files.shown options.output) → RunMustEnd options files 10
  long_result longer = record {
    result_over = λ shown over. refl;
    result_missing = λ shown none. absurd (longer_not_missing result_limit _ longer none);
    journal_over = λ shown result over. refl;
    journal_missing = λ shown result none. absurd (not_longer result_limit _ (files.shown options.output) result longer);
    bad_journal = λ shown result bad. absurd (not_longer result_limit _ (files.shown options.output) result longer);
    confirmed = λ shown found. absurd (not_longer result_limit _ (files.shown options.output) shown.result longer);
    not_confirmed = λ shown why found. absurd (not_longer result_limit _ (files.shown options.output) shown.result longer);
  }

  -- the journal is
  pub long_journal : IsJournalReached options files → IsLonger journal_limit (files.shown options.journal) → RunMustEnd options files 10
  long_journal reached longer = record {
    result_over = λ shown over. refl;
    result_missing = λ shown none. absurd (read_not_missing reached.1 none);
    journal_over = λ shown result over. refl;
    journal_missing = λ shown result none. absurd (longer_not_missing journal_limit _ longer none);
    bad_journal = λ shown result bad. absurd (not_longer journal_limit _ (files.shown options.journal) bad longer);
    confirmed = λ shown found. absurd (not_longer journal_limit _ (files.shown options.journal) shown.journal longer);
    not_confirmed = λ shown why found. absurd (not_longer journal_limit _ (files.shown options.journal) shown.journal longer);
  }

  -- the journal is that of no history
  pub bad_must_end : (P : List ℕ → Type 0) → JournalIsBad P options files → RunMustEnd options files 14
  bad_must_end P read =
      let hidden : IsShownRun options files → ⊥ =
      λ shown.
      let it : (head : Head) × (history : History) × (torn : ℕ) × IsJournalOf read.1.bytes head history torn =
      shown_holds journal_limit (λ bytes. (head : Head) × (history : History) × (torn : ℕ) × IsJournalOf bytes head history torn)
      (files.shown options.journal) shown.journal read.1.bytes read.1.read in
      read.1.holds.1 it.0 it.1 it.2 it.3 in
      record {
        result_over = λ shown over. absurd (read_not_over read.0.1 over);
        result_missing = λ shown none. absurd (read_not_missing read.0.1 none);
        journal_over = λ shown result over. absurd (read_not_over read.1 over);
        journal_missing = λ shown result none. absurd (read_not_missing read.1 none);
        bad_journal = λ shown result bad. refl;
        confirmed = λ shown found. absurd (hidden shown);
        not_confirmed = λ shown why found. absurd (hidden shown);
      }

  -- this was found
  found_must_end : (status : ℕ) (finding : Finding) → FoundIn options files finding
      → (IsShownRun options files → FoundIn options files Yes → IsOneOf (0 ∷ 4 ∷ 3 ∷ 1 ∷ []) status)
      → (IsShownRun options files → (why : Why) → FoundIn options files (No why) → IsOneOf (15 ∷ 3 ∷ 1 ∷ []) status) → RunMustEnd options files status
  found_must_end status finding found at_yes at_no =
      let it : (problem : Problem) × Has finding problem = any_problem (checked_problem options) files (Has finding) found in
      let run = it.1.1.4 in
      record {
        result_over = λ shown over. absurd (read_not_over run.result over);
        result_missing = λ shown none. absurd (read_not_missing run.result none);
        journal_over = λ shown result over. absurd (read_not_over run.journal over);
        journal_missing = λ shown result none. absurd (read_not_missing run.journal none);
        bad_journal =
            λ shown result bad.
            absurd (shown_holds journal_limit HaveNoHistory (files.shown options.journal) bad run.journal.bytes run.journal.read it.1.1.1 it.1.1.2
            it.1.1.3 run.journal.holds);
        confirmed = at_yes;
        not_confirmed = at_no;
      }

  module _ (journals : JournalsAreOne) (once : OneIsFound) where
    pub yes_must_end : (status : ℕ) → IsOneOf (0 ∷ 4 ∷ 3 ∷ 1 ∷ []) status → ConfirmedIn options files → RunMustEnd options files status
    yes_must_end status is found =
        found_must_end status Yes (yes_found found) (λ shown found'. is)
        (λ shown why found'. absurd (cc (found_once journals once shown Yes (No why) (yes_found found) found')))

    pub no_must_end : (why : Why) → FoundIn options files (No why) → RunMustEnd options files 15
    no_must_end why found =
        found_must_end 15 (No why) found (λ shown found'. absurd (cc (found_once journals once shown (No why) Yes found found')))
        (λ shown why' found'. refl)
