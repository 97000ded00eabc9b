-- What was read of the files, and why nothing was.
use Rattle.std.proofs.Common.{arith, ◌≡◌, ◌≤◌, ℕ, List, length, true, false, refl, sym, ap, ◌∙◌, subst}
use Rattle.edge_io.specs.Files.{Holds, IsLonger}
use Rattle.grammar_tree.specs.Checked.{IsChecked}
use Rattle.grammar_tree.specs.Faults.{IsWellFormed}
use Rattle.grammar_tree.specs.Written.{CheckedGrammar}
use Rattle.reduce_core.specs.Reduction.{Admits}
use Rattle.reduce_step.specs.Limits.{text_limit}
use Rattle.reduce_trees_mode.specs.Input.{TreeInput}
use Rattle.reduce_trees_input.specs.Faults.{IsInputFault}
use Rattle.reduce_trees_input.specs.Laws.{InputsAreOne}
use Rattle.reduce_trees_input.specs.Parsed.{IsInputOf, IsParsed, MakesInputOf, tree_input}
use Rattle.reduce_trees_input.specs.declared.fault.InputFault.{InputFault}
use Rattle.reduce_trees_input.specs.declared.parsed.ParsedInput.{ParsedInput}
use Rattle.run_problem.specs.Problem.{tree_problem}
use Rattle.command_ends.specs.declared.status.NamedFile.TheVariants as named
use Rattle.command_ends.specs.declared.status.Refusal.{Refusal}
use Rattle.command_ends.specs.declared.status.Refusal.TheVariants.{Memory, CannotRead, Grammar, NoParse, TooLong, Uncut}
use Rattle.command_ends.specs.Status.{IsInputRefusal}
use Rattle.command_ends.specs.World.{IsQuiet, SeenFiles, grammar_limit, input_limit}
use Rattle.command_words.specs.Commands.{GrammarOptions, GrammarSource, ModeOptions}
use Rattle.command_grammar.specs.Grammar.{GrammarFails, GrammarRead}
use Rattle.command_problem.specs.Problem.{IsReached, ProblemOptions, ProblemRead, ReadIn, grammar_in}
use Rattle.command_problem.specs.Read.{GivesTree, ProblemFails, TreeFails}
use Rattle.command_problem.specs.declared.read.ReadTree.{ReadTree}

-- an input within its limit can be reduced
within_more : {n : ℕ} → n ≤ input_limit → n ≤ text_limit
within_more within = omega (arith, within)

-- why there is no grammar is why there is no tree
pub grammar_fails : (grammar : GrammarSource) (input : List ℕ) (files files' : SeenFiles) (refusal : Refusal) → GrammarFails grammar files files' refusal
    → TreeFails grammar input files files' refusal
grammar_fails grammar input files files' (Memory _) why = why
grammar_fails grammar input files files' (CannotRead named.Input) why = absurd why.0
grammar_fails grammar input files files' (CannotRead named.Grammar) why = why
grammar_fails grammar input files files' (CannotRead named.Lexer) why = why
grammar_fails grammar input files files' (CannotRead named.Result) why = absurd why.0
grammar_fails grammar input files files' (CannotRead named.Journal) why = absurd why.0
grammar_fails grammar input files files' (TooLong named.Input) why = absurd why.0
grammar_fails grammar input files files' (TooLong named.Grammar) why = why
grammar_fails grammar input files files' (TooLong named.Lexer) why = why
grammar_fails grammar input files files' (TooLong named.Result) why = absurd why.0
grammar_fails grammar input files files' (TooLong named.Journal) why = absurd why.0
grammar_fails grammar input files files' (Grammar line) why = why
grammar_fails grammar input files files' _ why = absurd why

-- what was found in the text that was read
pub gives_tree : (named : GrammarSource) (input : List ℕ) (files : SeenFiles) (c : CheckedGrammar) (bytes : List ℕ) (found : ParsedInput)
    → GrammarRead named files c → Holds bytes (files.shown input) → length bytes ≤ input_limit → IsChecked c → IsParsed c bytes found
    → MakesInputOf c bytes found → GivesTree named input files (record { checked = c; found = found })
gives_tree named input files c bytes found spelled here within is parsed makes = record {
  spelled = spelled;
  read = record { bytes = bytes; read = here; within = within; holds = makes };
  ready =
      record {
        checked = subst IsChecked (sym parsed.same_grammar) is;
        parsed =
            subst (λ (t : List ℕ). IsParsed found.lexer t found) (sym parsed.same_text)
            (subst (λ (g : CheckedGrammar). IsParsed g bytes found) (sym parsed.same_grammar) parsed);
        kinds = (makes (subst IsChecked (sym parsed.same_grammar) is).well_formed (λ kept text. true) false).is_input.kinds_are;
        short = subst (λ (t : List ℕ). length t ≤ text_limit) (sym parsed.same_text) (within_more within);
      };
}

module _ (grammar : GrammarSource) (input : List ℕ) (files files' : SeenFiles) (c : CheckedGrammar) (spelled : GrammarRead grammar files c) where
  -- the input has a fault
  pub fault_fails : (bytes : List ℕ) → Holds bytes (files.shown input) → length bytes ≤ input_limit → IsQuiet files files' → (fault : InputFault)
      → IsInputFault c bytes fault → (refusal : Refusal)
      → IsInputRefusal fault refusal → TreeFails grammar input files files' refusal
  fault_fails bytes here within quiet fault is (Memory _) why = quiet
  fault_fails bytes here within quiet fault is (Uncut line) why =
      (fault, why.0, (c, spelled, record { bytes = bytes; read = here; within = within; holds = is }), why.1, quiet)
  fault_fails bytes here within quiet fault is NoParse why =
      ((c, spelled, record { bytes = bytes; read = here; within = within; holds = subst (IsInputFault c bytes) why is }), quiet)
  fault_fails bytes here within quiet fault is _ why = absurd why

-- whatever is admitted, an input is of its text
with_admits : (c : CheckedGrammar) (text : List ℕ) (input : TreeInput) (admits : Admits) → IsInputOf c text input
    → IsInputOf c text (record input { admits = admits })
with_admits c text input admits of = record {
  same_grammar = of.same_grammar;
  same_text = of.same_text;
  is_input =
      record {
        checked = of.is_input.checked;
        form_is = of.is_input.form_is;
        symbol_is = of.is_input.symbol_is;
        utf8 = of.is_input.utf8;
        has_tokens = of.is_input.has_tokens;
        is_whole = of.is_input.is_whole;
        kinds_are = of.is_input.kinds_are;
      };
  preferred = of.preferred;
}

module _ (options : ProblemOptions) (files : SeenFiles) (trees : GrammarOptions) (mode : options.mode ≡ ModeOptions.by_grammar trees) where
  -- The tree of the input, of which this is admitted. What is admitted of an input doesn't depend on what it says of that itself.
  pub tree_read : InputsAreOne → ((input : TreeInput) (admits : Admits) → options.admitted (record input { admits = admits }) ≡ options.admitted input)
      → (tree : ReadTree) → GivesTree trees.grammar options.input files tree → (admits : Admits)
      → ((formed : IsWellFormed tree.found.lexer.grammar tree.found.lexer.start)
      → options.admitted (tree_input tree.found formed admits trees.squeeze) ≡ admits)
      → ProblemRead options files
      (λ problem. (formed : IsWellFormed tree.found.lexer.grammar tree.found.lexer.start)
      × (problem ≡ tree_problem options.respell trees.mode (tree_input tree.found formed admits trees.squeeze)))
  tree_read one blind tree gives admits fits =
      let formed = gives.ready.checked.well_formed in
      let input : TreeInput = tree_input tree.found formed admits trees.squeeze in
      let of_text = gives.read.holds formed admits trees.squeeze in
      subst (λ (m : ModeOptions). ReadIn m options files (λ problem. (formed : IsWellFormed tree.found.lexer.grammar tree.found.lexer.start)
      × (problem ≡ tree_problem options.respell trees.mode (tree_input tree.found formed admits trees.squeeze)))) (sym mode) (
        tree.checked,
        gives.spelled,
        record {
          bytes = gives.read.bytes;
          read = gives.read.read;
          within = gives.read.within;
          holds = (
            input,
            record {
              of_text = of_text;
              admits = sym (fits formed);
              squeezes = refl;
              only = λ other of admits_so squeezes_so.
                  one tree.checked gives.read.bytes input other of_text of
                  (sym (fits formed) ∙ same_admits tree.checked gives.read.bytes input other of_text of (sym squeezes_so) ∙ sym admits_so) (sym squeezes_so);
            },
            (formed, refl),
          );
        },
      )
    where
      -- inputs of one text are one but for what they admit, so the same is admitted of them
      same_admits : (c : CheckedGrammar) (text : List ℕ) (input other : TreeInput) → IsInputOf c text input → IsInputOf c text other
          → input.squeezes ≡ other.squeezes → options.admitted input ≡ options.admitted other
      same_admits c text input other of also squeezes =
          let same : input ≡ record other { admits = input.admits } =
          one c text input (record other { admits = input.admits }) of (with_admits c text other input.admits also) refl squeezes in
          ap options.admitted same ∙ blind other input.admits

  -- why there is no tree
  pub tree_fails : (files' : SeenFiles) (refusal : Refusal) → TreeFails trees.grammar options.input files files' refusal
      → ProblemFails options files files' refusal
  tree_fails files' (Memory _) why = why
  tree_fails files' (CannotRead named.Input) why = (subst (λ (m : ModeOptions). IsReached m named.Input files) (sym mode) why.0, why.1)
  tree_fails files' (CannotRead named.Grammar) why = (subst (λ (m : ModeOptions). IsReached m named.Grammar files) (sym mode) why.0, why.1)
  tree_fails files' (CannotRead named.Lexer) why = (subst (λ (m : ModeOptions). IsReached m named.Lexer files) (sym mode) why.0, why.1)
  tree_fails files' (TooLong named.Input) why = (subst (λ (m : ModeOptions). IsReached m named.Input files) (sym mode) why.0, why.1, why.2)
  tree_fails files' (TooLong named.Grammar) why =
      subst (λ (m : ModeOptions). IsReached m named.Grammar files × IsLonger grammar_limit (files.shown (grammar_in m named.Grammar)) × IsQuiet files files')
      (sym mode) why
  tree_fails files' (TooLong named.Lexer) why =
      subst (λ (m : ModeOptions). IsReached m named.Lexer files × IsLonger grammar_limit (files.shown (grammar_in m named.Lexer)) × IsQuiet files files')
      (sym mode) why
  tree_fails files' (Grammar line) why = (trees, mode, why)
  tree_fails files' (Uncut line) why = (trees, why.0, mode, why.1, why.2, why.3, why.4)
  tree_fails files' NoParse why = (trees, mode, why.0, why.1)
  tree_fails files' _ why = absurd why
