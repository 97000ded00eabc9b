-- Which status the grammar, the input and the keep texts ask for, from how `check` ends.
use Rattle.std.proofs.Common.{◌≡◌, ℕ, List, [], ◌∷◌, true, false, refl, sym, ap, ◌∙◌, subst}
use Rattle.std.proofs.lemmas.Bool.{false≢true}
use Rattle.edge_io.specs.Files.{IsLonger}
use Rattle.keep_guard.specs.Keep.{holds_all}
use Rattle.reduce_trees_input.specs.Faults.{IsInputFault}
use Rattle.reduce_trees_input.specs.Laws.{InputFaultOnce, InputsAreInLanguage}
use Rattle.reduce_trees_input.specs.declared.fault.InputFault.{InputFault}
use Rattle.reduce_trees_input.specs.declared.fault.InputFault.TheVariants as input_fault
use Rattle.run_problem.specs.Problem.{Problem, start_text}
use Rattle.command_ends.specs.declared.status.NamedFile.{NamedFile}
use Rattle.command_ends.specs.declared.status.NamedFile.TheVariants as named
use Rattle.command_ends.specs.Status.{IsOneOf, IsUncut}
use Rattle.command_ends.specs.World.{IsShownWithin, SeenFiles, grammar_limit, input_limit}
use Rattle.command_ends.proofs.Lent.{longer_not_missing, read_not_missing, read_not_over}
use Rattle.command_grammar.specs.Grammar.{IsFaultIn}
use Rattle.command_grammar.specs.Texts.{GrammarWasRead}
use Rattle.command_grammar.proofs.Lent.{grammar_not_missing as file_not_missing, grammar_not_over as file_not_over}
use Rattle.command_grammar.proofs.Lent.{lexer_not_missing, lexer_not_over, no_grammar, not_faulty}
use Rattle.command_problem.specs.Problem.{InputHas, IsGrammarReached, IsReached, IsShownFault, IsShownProblem, ProblemRead, grammar_in}
use Rattle.command_problem.proofs.Lent.{fault_is, fault_not_shown, faulty_not_shown, grammar_not_faulty, grammar_not_missing}
use Rattle.command_problem.proofs.Lent.{grammar_not_over, input_read, long_grammar_hidden, long_grammar_not_shown, long_grammar_there}
use Rattle.command_problem.proofs.Lent.{long_input_no_fault, long_input_not_shown, no_fault, no_lexer_missing, no_lexer_over, parse_caused}
use Rattle.command_problem.proofs.Lent.{reached_grammar, read_and_shown, shown_not_faulty, shown_not_long, uncut_caused}
use Rattle.command_words.specs.Commands.{CheckOptions, GrammarOptions, GrammarSource, ModeOptions}
use Rattle.command_check.specs.Check.{ProblemHeld, ProblemMustEnd, checked_problem}

-- the grammar of a mode, and of one without a grammar this one
abbrev named_in : GrammarSource → ModeOptions → GrammarSource
named_in other ModeOptions.lines = other
named_in other (ModeOptions.by_grammar trees) = trees.grammar

-- a mode has one grammar
same_grammar : {mode : ModeOptions} {one other : GrammarOptions} → mode ≡ ModeOptions.by_grammar one → mode ≡ ModeOptions.by_grammar other
    → one.grammar ≡ other.grammar
same_grammar {one = one} is is' = ap (named_in one.grammar) (sym is ∙ is')

module _ (options : CheckOptions) (files : SeenFiles) where
  -- a file wasn't read, or memory ran out
  pub unread_must_end : ProblemMustEnd options files 3
  unread_must_end = record {
    grammar_over = λ g is over. refl;
    grammar_missing = λ g is none. refl;
    lexer_over = λ g lexer is named over. refl;
    lexer_missing = λ g lexer is named none. refl;
    faulty = λ g is shown. refl;
    input_over = λ fine over. refl;
    input_missing = λ fine none. refl;
    over = λ over. refl;
    missing = λ none. refl;
    no_token = λ g is shown. refl;
    unparsed = λ g is shown. refl;
    keep_missing = λ shown. refl;
  }

  pub memory_must_end : ProblemMustEnd options files 1
  memory_must_end = record {
    grammar_over = λ g is over. refl;
    grammar_missing = λ g is none. refl;
    lexer_over = λ g lexer is named over. refl;
    lexer_missing = λ g lexer is named none. refl;
    faulty = λ g is shown. refl;
    input_over = λ fine over. refl;
    input_missing = λ fine none. refl;
    over = λ over. refl;
    missing = λ none. refl;
    no_token = λ g is shown. refl;
    unparsed = λ g is shown. refl;
    keep_missing = λ shown. refl;
  }

  -- a file of the grammar is too long
  pub long_must_end : (file : NamedFile) → IsGrammarReached options.mode file files → IsLonger grammar_limit (files.shown (grammar_in options.mode file))
      → ProblemMustEnd options files 10
  long_must_end file reached longer = record {
    grammar_over = λ g is over. refl;
    grammar_missing = λ g is none. absurd (long_grammar_there (checked_problem options) files g is file reached longer none);
    lexer_over = λ g lexer is named over. refl;
    lexer_missing = λ g lexer is named none. refl;
    faulty = λ g is shown. absurd (long_grammar_hidden (checked_problem options) files g is file reached longer _ shown);
    input_over = λ fine over. refl;
    input_missing = λ fine none. absurd (shown_not_long (checked_problem options) files file fine reached longer);
    over = λ over. refl;
    missing = λ none. refl;
    no_token = λ g is shown. absurd (long_grammar_hidden (checked_problem options) files g is file reached longer _ shown);
    unparsed = λ g is shown. absurd (long_grammar_hidden (checked_problem options) files g is file reached longer _ shown);
    keep_missing = λ shown. absurd (long_grammar_not_shown (checked_problem options) files file _ reached longer shown);
  }

  -- the input is
  pub input_must_end : IsReached options.mode named.Input files → IsLonger input_limit (files.shown options.input) → ProblemMustEnd options files 10
  input_must_end reached longer = record {
    grammar_over = λ g is over. refl;
    grammar_missing = λ g is none. absurd (file_not_missing g.grammar files _ (reached_grammar (checked_problem options) files g is reached).1 none);
    lexer_over = λ g lexer is named over. refl;
    lexer_missing = λ g lexer is named none. refl;
    faulty = λ g is shown. absurd (not_faulty g.grammar files _ (reached_grammar (checked_problem options) files g is reached).1 shown);
    input_over = λ fine over. refl;
    input_missing = λ fine none. absurd (longer_not_missing input_limit _ longer none);
    over = λ over. refl;
    missing = λ none. refl;
    no_token = λ g is shown. absurd (long_input_no_fault (checked_problem options) files g is IsUncut reached longer shown);
    unparsed = λ g is shown. absurd (long_input_no_fault (checked_problem options) files g is (λ fault. fault ≡ input_fault.NoParse) reached longer shown);
    keep_missing = λ shown. absurd (long_input_not_shown (checked_problem options) files _ reached longer shown);
  }

  module _ {trees g : GrammarOptions} (mode : options.mode ≡ ModeOptions.by_grammar trees) (is : options.mode ≡ ModeOptions.by_grammar g) where
    fault_at : (text : List ℕ) → GrammarWasRead trees.grammar files (λ texts. IsFaultIn trees.grammar texts text)
        → GrammarWasRead g.grammar files (λ texts. IsFaultIn g.grammar texts text)
    fault_at text read =
        subst (λ (named : GrammarSource). GrammarWasRead named files (λ texts. IsFaultIn named texts text)) (same_grammar mode is) read

    faulty_no_fault : (text : List ℕ) → GrammarWasRead trees.grammar files (λ texts. IsFaultIn trees.grammar texts text) → (Q : InputFault → Type 0)
        → IsShownFault g.grammar (checked_problem options) files Q → ⊥
    faulty_no_fault text read Q shown =
        no_grammar g.grammar files text (fault_at text read)
        (λ c. IsShownWithin input_limit (files.shown options.input) (λ bytes. (fault : InputFault) × IsInputFault c bytes fault × Q fault)) shown

    has_at : (fault : InputFault) → InputHas trees.grammar (λ c bytes. IsInputFault c bytes fault) (checked_problem options) files
        → InputHas g.grammar (λ c bytes. IsInputFault c bytes fault) (checked_problem options) files
    has_at fault read =
        subst (λ (named : GrammarSource). InputHas named (λ c bytes. IsInputFault c bytes fault) (checked_problem options) files) (same_grammar mode is) read

  -- the grammar has a fault
  pub faulty_must_end : (trees : GrammarOptions) (text : List ℕ) → options.mode ≡ ModeOptions.by_grammar trees
      → GrammarWasRead trees.grammar files (λ texts. IsFaultIn trees.grammar texts text) → ProblemMustEnd options files 5
  faulty_must_end trees text mode read = record {
    grammar_over = λ g is over. absurd (file_not_over g.grammar files _ (fault_at mode is text read) over);
    grammar_missing = λ g is none. absurd (file_not_missing g.grammar files _ (fault_at mode is text read) none);
    lexer_over = λ g lexer is named over. absurd (lexer_not_over g.grammar files lexer named _ (fault_at mode is text read) over);
    lexer_missing = λ g lexer is named none. absurd (lexer_not_missing g.grammar files lexer named _ (fault_at mode is text read) none);
    faulty = λ g is shown. refl;
    input_over = λ fine over. absurd (shown_not_faulty (checked_problem options) files text mode read fine);
    input_missing = λ fine none. absurd (shown_not_faulty (checked_problem options) files text mode read fine);
    over = λ over. refl;
    missing = λ none. refl;
    no_token = λ g is shown. absurd (faulty_no_fault mode is text read IsUncut shown);
    unparsed = λ g is shown. absurd (faulty_no_fault mode is text read (λ fault. fault ≡ input_fault.NoParse) shown);
    keep_missing = λ shown. absurd (faulty_not_shown (checked_problem options) files trees text _ mode read shown);
  }

  module _ (faults : InputFaultOnce) where
    -- the input isn't cut into tokens
    pub uncut_must_end : (trees : GrammarOptions) (fault : InputFault) → options.mode ≡ ModeOptions.by_grammar trees → IsUncut fault
        → InputHas trees.grammar (λ c bytes. IsInputFault c bytes fault) (checked_problem options) files → ProblemMustEnd options files 6
    uncut_must_end trees fault mode uncut read = record {
      grammar_over = λ g is over. absurd (file_not_over g.grammar files _ (has_at mode is fault read).1 over);
      grammar_missing = λ g is none. absurd (file_not_missing g.grammar files _ (has_at mode is fault read).1 none);
      lexer_over = λ g lexer is named over. absurd (lexer_not_over g.grammar files lexer named _ (has_at mode is fault read).1 over);
      lexer_missing = λ g lexer is named none. absurd (lexer_not_missing g.grammar files lexer named _ (has_at mode is fault read).1 none);
      faulty = λ g is shown. absurd (not_faulty g.grammar files _ (has_at mode is fault read).1 shown);
      input_over = λ fine over. absurd (read_not_over read.2 over);
      input_missing = λ fine none. absurd (read_not_missing read.2 none);
      over = λ over. absurd (read_not_over read.2 over);
      missing = λ none. absurd (read_not_missing read.2 none);
      no_token = λ g is shown. refl;
      unparsed =
          λ g is shown.
          absurd (subst IsUncut (fault_is (checked_problem options) files faults g fault (uncut_caused fault uncut) (has_at mode is fault read)
          (λ f. f ≡ input_fault.NoParse) parse_caused shown) uncut);
      keep_missing = λ shown. absurd (fault_not_shown (checked_problem options) files faults trees fault (uncut_caused fault uncut) read _ mode shown);
    }

    -- its tokens aren't derived
    pub unparsed_must_end : (trees : GrammarOptions) → options.mode ≡ ModeOptions.by_grammar trees
        → InputHas trees.grammar (λ c bytes. IsInputFault c bytes input_fault.NoParse) (checked_problem options) files → ProblemMustEnd options files 7
    unparsed_must_end trees mode read = record {
      grammar_over = λ g is over. absurd (file_not_over g.grammar files _ (has_at mode is input_fault.NoParse read).1 over);
      grammar_missing = λ g is none. absurd (file_not_missing g.grammar files _ (has_at mode is input_fault.NoParse read).1 none);
      lexer_over = λ g lexer is named over. absurd (lexer_not_over g.grammar files lexer named _ (has_at mode is input_fault.NoParse read).1 over);
      lexer_missing = λ g lexer is named none. absurd (lexer_not_missing g.grammar files lexer named _ (has_at mode is input_fault.NoParse read).1 none);
      faulty = λ g is shown. absurd (not_faulty g.grammar files _ (has_at mode is input_fault.NoParse read).1 shown);
      input_over = λ fine over. absurd (read_not_over read.2 over);
      input_missing = λ fine none. absurd (read_not_missing read.2 none);
      over = λ over. absurd (read_not_over read.2 over);
      missing = λ none. absurd (read_not_missing read.2 none);
      no_token =
          λ g is shown. absurd (fault_is (checked_problem options) files faults g input_fault.NoParse (parse_caused input_fault.NoParse refl)
          (has_at mode is input_fault.NoParse read) IsUncut uncut_caused shown);
      unparsed = λ g is shown. refl;
      keep_missing =
          λ shown.
          absurd (fault_not_shown (checked_problem options) files faults trees input_fault.NoParse (parse_caused input_fault.NoParse refl) read _ mode
          shown);
    }

    -- a problem was read
    pub read_must_end : InputsAreInLanguage → (status : ℕ) (P : Problem → Type 0) → ProblemRead (checked_problem options) files P
        → (IsShownProblem (checked_problem options) files (λ start. holds_all options.keeps start ≡ false) → IsOneOf (9 ∷ 3 ∷ 1 ∷ []) status)
        → ProblemMustEnd options files status
    read_must_end languages status P read keeps = record {
      grammar_over = λ g is over. absurd (grammar_not_over (checked_problem options) files _ read g is over);
      grammar_missing = λ g is none. absurd (grammar_not_missing (checked_problem options) files _ read g is none);
      lexer_over = λ g lexer is named over. absurd (no_lexer_over (checked_problem options) files _ read g is lexer named over);
      lexer_missing = λ g lexer is named none. absurd (no_lexer_missing (checked_problem options) files _ read g is lexer named none);
      faulty = λ g is shown. absurd (grammar_not_faulty (checked_problem options) files _ read g is shown);
      input_over = λ fine over. absurd (read_not_over (input_read (checked_problem options) files _ read) over);
      input_missing = λ fine none. absurd (read_not_missing (input_read (checked_problem options) files _ read) none);
      over = λ over. absurd (read_not_over (input_read (checked_problem options) files _ read) over);
      missing = λ none. absurd (read_not_missing (input_read (checked_problem options) files _ read) none);
      no_token = λ g is shown. absurd (no_fault (checked_problem options) files _ read g is faults languages IsUncut uncut_caused shown);
      unparsed =
          λ g is shown.
          absurd (no_fault (checked_problem options) files _ read g is faults languages (λ fault. fault ≡ input_fault.NoParse) parse_caused shown);
      keep_missing = keeps;
    }

    -- one in whose start each keep text occurs
    pub held_must_end : InputsAreInLanguage → (status : ℕ) (P : Problem → Type 0) → ProblemHeld options files P → ProblemMustEnd options files status
    held_must_end languages status P read =
        read_must_end languages status (λ problem. (holds_all options.keeps (start_text problem) ≡ true) × P problem) read
        (λ shown.
        let it : (problem : Problem) × ((holds_all options.keeps (start_text problem) ≡ true) × P problem)
        × (holds_all options.keeps (start_text problem) ≡ false) =
        read_and_shown (checked_problem options) files (λ problem. (holds_all options.keeps (start_text problem) ≡ true) × P problem)
        (λ start. holds_all options.keeps start ≡ false) read shown in
        absurd (false≢true (sym it.2 ∙ it.1.0)))
