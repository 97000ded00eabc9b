-- What the files had to be reduced isn't at odds with what is visible of them.
use Rattle.std.proofs.Common.{◌≡◌, ◌≢◌, List, ℕ, Option, Some, None, sym, ◌∙◌, subst}
use Rattle.std.proofs.lemmas.Option.{same_Some}
use Rattle.faults.specs.Memory.{ran_out}
use Rattle.edge_io.specs.Files.{FileContent, Holds, IsLonger}
use Rattle.grammar_tree.specs.Written.{CheckedGrammar}
use Rattle.reduce_trees_mode.specs.Candidates.{InLanguage}
use Rattle.reduce_trees_mode.specs.Input.{TreeInput}
use Rattle.reduce_trees_input.specs.Faults.{IsInputFault}
use Rattle.reduce_trees_input.specs.Laws.{InputFaultOnce, InputsAreInLanguage}
use Rattle.reduce_trees_input.specs.declared.fault.InputFault.{InputFault}
use Rattle.reduce_trees_input.specs.declared.fault.InputFault.TheVariants as input_fault
use Rattle.run_problem.specs.Problem.{Problem, start_text, tree_problem}
use Rattle.run_problem.proofs.Lent.{tree_start}
use Rattle.command_ends.specs.declared.status.NamedFile.{NamedFile}
use Rattle.command_ends.specs.declared.status.NamedFile.TheVariants as named
use Rattle.command_ends.specs.Status.{IsUncut}
use Rattle.command_ends.specs.World.{IsOver, IsShownWithin, SeenFiles, WasRead, grammar_limit, input_limit}
use Rattle.command_ends.proofs.Lent.{not_longer}
use Rattle.command_words.specs.Commands.{GrammarOptions, ModeOptions}
use Rattle.command_grammar.specs.Grammar.{GrammarRead, IsFaultIn, IsGrammarText}
use Rattle.command_grammar.specs.Texts.{GrammarIsShown, GrammarTexts, GrammarWasRead, IsGrammarFile, path_of}
use Rattle.command_grammar.proofs.Lent.{fault_not_shown as file_fault_not_shown, grammar_not_missing as file_not_missing, grammar_not_over as file_not_over}
use Rattle.command_grammar.proofs.Lent.{lexer_not_missing, lexer_not_over, long_not_missing, no_grammar, not_faulty, of_grammar, shown_not_longer}
use Rattle.command_problem.specs.Problem.{InputHas, IsGrammarReached, IsReached, IsShownFault, IsShownGrammar, IsTreeProblem}
use Rattle.command_problem.specs.Problem.{ProblemOptions, ProblemRead, ReadIn, ShownIn, grammar_in}

-- what is visible of a file holds of the bytes that were read
pub shown_holds : (limit : ℕ) (P : List ℕ → Type 0) (content : Option FileContent) → IsShownWithin limit content P → (bytes : List ℕ) → Holds bytes content
    → P bytes
shown_holds limit P None shown bytes here = absurd shown
shown_holds limit P (Some None) shown bytes here = absurd shown
shown_holds limit P (Some (Some held)) shown bytes here = subst P (same_Some held bytes here) shown.1

-- faults that bytes have aren't out of memory
pub uncut_caused : (fault : InputFault) → IsUncut fault → fault ≢ input_fault.Memory ran_out
uncut_caused fault uncut is = subst IsUncut is uncut

pub parse_caused : (fault : InputFault) → fault ≡ input_fault.NoParse → fault ≢ input_fault.Memory ran_out
parse_caused fault no_parse is = cc (sym no_parse ∙ is)

module _ (options : ProblemOptions) (files : SeenFiles) where
  -- what holds of a problem that was read also holds of another fact
  read_as : (mode : ModeOptions) (P Q : Problem → Type 0) → ((problem : Problem) → P problem → Q problem) → ReadIn mode options files P
      → ReadIn mode options files Q
  read_as ModeOptions.lines P Q then read = record { bytes = read.bytes; read = read.read; within = read.within; holds = then _ read.holds }
  read_as (ModeOptions.by_grammar trees) P Q then read = (
    read.0,
    read.1,
    record { bytes = read.2.bytes; read = read.2.read; within = read.2.within; holds = (read.2.holds.0, read.2.holds.1, then _ read.2.holds.2) },
  )

  pub problem_map : (P Q : Problem → Type 0) → ((problem : Problem) → P problem → Q problem) → ProblemRead options files P → ProblemRead options files Q
  problem_map P Q then read = read_as options.mode P Q then read

  any_in : (mode : ModeOptions) (P : Problem → Type 0) → ReadIn mode options files P → (problem : Problem) × P problem
  any_in ModeOptions.lines P read = (Problem.of_lines read.bytes, read.holds)
  any_in (ModeOptions.by_grammar trees) P read = (tree_problem options.respell trees.mode read.2.holds.0, read.2.holds.2)

  -- where there is a problem with a fact, some problem has it
  pub any_problem : (P : Problem → Type 0) → ProblemRead options files P → (problem : Problem) × P problem
  any_problem P read = any_in options.mode P read

  input_in : (mode : ModeOptions) (P : Problem → Type 0) → ReadIn mode options files P → WasRead input_limit (files.shown options.input) (λ bytes. Unit {0})
  input_in ModeOptions.lines P read = record { bytes = read.bytes; read = read.read; within = read.within; holds = tt }
  input_in (ModeOptions.by_grammar trees) P read = record { bytes = read.2.bytes; read = read.2.read; within = read.2.within; holds = tt }

  -- the input was read then
  pub input_read : (P : Problem → Type 0) → ProblemRead options files P → WasRead input_limit (files.shown options.input) (λ bytes. Unit {0})
  input_read P read = input_in options.mode P read

  both_in : (mode : ModeOptions) (P : Problem → Type 0) (S : List ℕ → Type 0) → ReadIn mode options files P → ShownIn mode options files S → (problem : Problem)
      × P problem × S (start_text problem)
  both_in ModeOptions.lines P S read shown =
      (Problem.of_lines read.bytes, read.holds, shown_holds input_limit S (files.shown options.input) shown read.bytes read.read)
  both_in (ModeOptions.by_grammar trees) P S read shown =
      let content = files.shown options.input in
      let visible : IsShownWithin input_limit content (λ text. InLanguage read.0 text × S text) =
      of_grammar trees.grammar files read.0 read.1 (λ c. IsShownWithin input_limit content (λ text. InLanguage c text × S text)) shown in
      let it : InLanguage read.0 read.2.bytes × S read.2.bytes =
      shown_holds input_limit (λ text. InLanguage read.0 text × S text) content visible read.2.bytes read.2.read in (
        tree_problem options.respell trees.mode read.2.holds.0,
        read.2.holds.2,
        subst S (sym (tree_start options.respell trees.mode read.2.holds.0 ∙ read.2.holds.1.of_text.same_text)) it.1,
      )

  -- what is visible of a problem holds of the one that was read
  pub read_and_shown : (P : Problem → Type 0) (S : List ℕ → Type 0) → ProblemRead options files P → ShownIn options.mode options files S → (problem : Problem)
      × P problem × S (start_text problem)
  read_and_shown P S read shown = both_in options.mode P S read shown

  -- the grammar was read too
  module _ (P : Problem → Type 0) (read : ProblemRead options files P) (trees : GrammarOptions) (mode : options.mode ≡ ModeOptions.by_grammar trees) where
    grammar_read : ReadIn (ModeOptions.by_grammar trees) options files P
    grammar_read = subst (λ m. ReadIn m options files P) mode read

    pub grammar_not_over : IsOver grammar_limit (files.shown trees.grammar.path) → ⊥
    grammar_not_over over = file_not_over trees.grammar files _ grammar_read.1 over

    pub grammar_not_missing : files.shown trees.grammar.path ≡ Some None → ⊥
    grammar_not_missing none = file_not_missing trees.grammar files _ grammar_read.1 none

    module _ (lexer : List ℕ) (is : trees.grammar.lexer ≡ Some lexer) where
      pub no_lexer_over : IsOver grammar_limit (files.shown lexer) → ⊥
      no_lexer_over over = lexer_not_over trees.grammar files lexer is _ grammar_read.1 over

      pub no_lexer_missing : files.shown lexer ≡ Some None → ⊥
      no_lexer_missing none = lexer_not_missing trees.grammar files lexer is _ grammar_read.1 none

    pub grammar_not_faulty : GrammarIsShown trees.grammar files (λ texts. ¬ IsGrammarText trees.grammar texts) → ⊥
    grammar_not_faulty shown = not_faulty trees.grammar files grammar_read.0 grammar_read.1 shown

    -- and the input has no fault
    pub no_fault : InputFaultOnce → InputsAreInLanguage → (Q : InputFault → Type 0) → ((fault : InputFault) → Q fault → fault ≢ input_fault.Memory ran_out)
        → IsShownFault trees.grammar options files Q → ⊥
    no_fault faults languages Q caused shown =
        let content = files.shown options.input in
        let c : CheckedGrammar = grammar_read.0 in
        let input : WasRead input_limit content (λ text. (input : TreeInput) × IsTreeProblem options c trees.squeeze text input
        × P (tree_problem options.respell trees.mode input)) = grammar_read.2 in
        let visible : IsShownWithin input_limit content (λ text. (fault : InputFault) × IsInputFault c text fault × Q fault) =
        of_grammar trees.grammar files c grammar_read.1
        (λ c. IsShownWithin input_limit content (λ text. (fault : InputFault) × IsInputFault c text fault × Q fault)) shown in
        let it : (fault : InputFault) × IsInputFault c input.bytes fault × Q fault =
        shown_holds input_limit (λ text. (fault : InputFault) × IsInputFault c text fault × Q fault) content visible input.bytes input.read in
        (faults c input.bytes).refused it.0 (caused it.0 it.2) it.1 (languages c input.bytes input.holds.0 input.holds.1.of_text)

  -- an input with a fault
  module _ (faults : InputFaultOnce) (trees : GrammarOptions) (fault : InputFault) (caused : fault ≢ input_fault.Memory ran_out)
      (read : InputHas trees.grammar (λ c bytes. IsInputFault c bytes fault) options files) where
    content : Option FileContent
    content = files.shown options.input

    -- isn't in the language
    fault_in : (mode : ModeOptions) (S : List ℕ → Type 0) → mode ≡ ModeOptions.by_grammar trees → ShownIn mode options files S → ⊥
    unfolding content
    fault_in mode S is shown =
        let visible : IsShownWithin input_limit content (λ text. InLanguage read.0 text × S text) =
        of_grammar trees.grammar files read.0 read.1 (λ c. IsShownWithin input_limit content (λ text. InLanguage c text × S text))
        (subst (λ m. ShownIn m options files S) is shown) in
        let it : InLanguage read.0 read.2.bytes × S read.2.bytes =
        shown_holds input_limit (λ text. InLanguage read.0 text × S text) content visible read.2.bytes read.2.read in
        (faults read.0 read.2.bytes).refused fault caused read.2.holds it.0

    pub fault_not_shown : (S : List ℕ → Type 0) → options.mode ≡ ModeOptions.by_grammar trees → ShownIn options.mode options files S → ⊥
    fault_not_shown S is shown = fault_in options.mode S is shown

    -- and has no other
    pub fault_is : (Q : InputFault → Type 0) → ((fault : InputFault) → Q fault → fault ≢ input_fault.Memory ran_out)
        → IsShownFault trees.grammar options files Q
        → Q fault
    unfolding content
    fault_is Q not_memory shown =
        let visible : IsShownWithin input_limit content (λ text. (fault : InputFault) × IsInputFault read.0 text fault × Q fault) =
        of_grammar trees.grammar files read.0 read.1
        (λ c. IsShownWithin input_limit content (λ text. (fault : InputFault) × IsInputFault c text fault × Q fault)) shown in
        let it : (fault : InputFault) × IsInputFault read.0 read.2.bytes fault × Q fault =
        shown_holds input_limit (λ text. (fault : InputFault) × IsInputFault read.0 text fault × Q fault) content visible read.2.bytes read.2.read in
        subst Q (sym ((faults read.0 read.2.bytes).once fault it.0 caused (not_memory it.0 it.2) read.2.holds it.1)) it.2

  -- a grammar that has a fault isn't that of a problem
  pub faulty_not_shown : (trees : GrammarOptions) (text : List ℕ) (S : List ℕ → Type 0) → options.mode ≡ ModeOptions.by_grammar trees
      → GrammarWasRead trees.grammar files (λ texts. IsFaultIn trees.grammar texts text) → ShownIn options.mode options files S → ⊥
  faulty_not_shown trees text S is read shown =
      no_grammar trees.grammar files text read (λ c. IsShownWithin input_limit (files.shown options.input) (λ bytes. InLanguage c bytes × S bytes))
      (subst (λ m. ShownIn m options files S) is shown)

  -- neither is one, nor an input, that is too long
  long_input_in : (mode : ModeOptions) (S : List ℕ → Type 0) → IsReached mode named.Input files → IsLonger input_limit (files.shown options.input)
      → ShownIn mode options files S → ⊥
  long_input_in ModeOptions.lines S reached longer shown = not_longer input_limit S (files.shown options.input) shown longer
  long_input_in (ModeOptions.by_grammar trees) S reached longer shown =
      not_longer input_limit (λ text. InLanguage reached.0 text × S text) (files.shown options.input)
      (of_grammar trees.grammar files reached.0 reached.1
      (λ c. IsShownWithin input_limit (files.shown options.input) (λ text. InLanguage c text × S text)) shown) longer

  pub long_input_not_shown : (S : List ℕ → Type 0) → IsReached options.mode named.Input files → IsLonger input_limit (files.shown options.input)
      → ShownIn options.mode options files S → ⊥
  long_input_not_shown S reached longer shown = long_input_in options.mode S reached longer shown

  long_grammar_in : (mode : ModeOptions) (file : NamedFile) (S : List ℕ → Type 0) → IsGrammarReached mode file files
      → IsLonger grammar_limit (files.shown (grammar_in mode file)) → ShownIn mode options files S → ⊥
  long_grammar_in ModeOptions.lines file S reached longer shown = reached
  long_grammar_in (ModeOptions.by_grammar trees) file S reached longer shown = shown_not_longer trees.grammar files _ file reached shown longer

  pub long_grammar_not_shown : (file : NamedFile) (S : List ℕ → Type 0) → IsGrammarReached options.mode file files
      → IsLonger grammar_limit (files.shown (grammar_in options.mode file)) → ShownIn options.mode options files S → ⊥
  long_grammar_not_shown file S reached longer shown = long_grammar_in options.mode file S reached longer shown

  -- a grammar that is visible and well-formed has no fault
  pub shown_not_faulty : {trees : GrammarOptions} (text : List ℕ) → options.mode ≡ ModeOptions.by_grammar trees
      → GrammarWasRead trees.grammar files (λ texts. IsFaultIn trees.grammar texts text) → IsShownGrammar options.mode files → ⊥
  shown_not_faulty {trees = trees} text is read shown =
      file_fault_not_shown trees.grammar files text read (subst (λ m. IsShownGrammar m files) is shown)

  -- and isn't too long
  shown_short_in : (mode : ModeOptions) (file : NamedFile) → IsShownGrammar mode files → IsGrammarReached mode file files
      → IsLonger grammar_limit (files.shown (grammar_in mode file)) → ⊥
  shown_short_in ModeOptions.lines file shown reached longer = reached
  shown_short_in (ModeOptions.by_grammar trees) file shown reached longer = shown_not_longer trees.grammar files _ file reached shown longer

  pub shown_not_long : (file : NamedFile) → IsShownGrammar options.mode files → IsGrammarReached options.mode file files
      → IsLonger grammar_limit (files.shown (grammar_in options.mode file)) → ⊥
  shown_not_long file shown reached longer = shown_short_in options.mode file shown reached longer

  module _ (trees : GrammarOptions) (mode : options.mode ≡ ModeOptions.by_grammar trees) where
    -- the grammar of an input that is reached was read
    pub reached_grammar : IsReached options.mode named.Input files → (c : CheckedGrammar) × GrammarRead trees.grammar files c
    reached_grammar reached = subst (λ m. IsReached m named.Input files) mode reached

    -- a file of the grammar that is too long is of this one, whose first file is there, and which isn't visible as a whole
    module _ (file : NamedFile) (reached : IsGrammarReached options.mode file files)
        (longer : IsLonger grammar_limit (files.shown (grammar_in options.mode file))) where
      file_at : IsGrammarFile trees.grammar file files
      file_at = subst (λ m. IsGrammarReached m file files) mode reached

      longer_at : IsLonger grammar_limit (files.shown (path_of trees.grammar file))
      longer_at = subst (λ m. IsLonger grammar_limit (files.shown (grammar_in m file))) mode longer

      pub long_grammar_there : files.shown trees.grammar.path ≡ Some None → ⊥
      long_grammar_there none = long_not_missing trees.grammar files file file_at longer_at none

      pub long_grammar_hidden : (Q : GrammarTexts → Type 0) → GrammarIsShown trees.grammar files Q → ⊥
      long_grammar_hidden Q shown = shown_not_longer trees.grammar files Q file file_at shown longer_at

    -- an input that is too long has no fault that is named
    pub long_input_no_fault : (Q : InputFault → Type 0) → IsReached options.mode named.Input files → IsLonger input_limit (files.shown options.input)
        → IsShownFault trees.grammar options files Q → ⊥
    long_input_no_fault Q reached longer shown =
        let it : (c : CheckedGrammar) × GrammarRead trees.grammar files c = reached_grammar reached in
        not_longer input_limit (λ text. (fault : InputFault) × IsInputFault it.0 text fault × Q fault) (files.shown options.input)
        (of_grammar trees.grammar files it.0 it.1
        (λ c. IsShownWithin input_limit (files.shown options.input) (λ text. (fault : InputFault) × IsInputFault c text fault × Q fault)) shown) longer
