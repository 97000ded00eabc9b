-- Where memory ran out before the words were read, that is how the command ends that they ask for.
use Rattle.std.proofs.Common.{◌≡◌, ◌≢◌, ◌⊎◌, ◌∙◌, inl, inr, ℕ, Bool, true, false, ◌||◌, if◌then◌else◌, List, [], ◌∷◌, Option, None, Some, refl, sym, ap, subst}
use Rattle.std.proofs.Common.{bytes_eq, codes, option_map}
use Rattle.std.proofs.lemmas.Bool.{false≢true}
use Rattle.faults.specs.Memory.{ran_out}
use Rattle.edge_io.proofs.Lent.{none_made}
use Rattle.sha2.specs.Sha256.{sha256}
use Rattle.script_gate_trait.specs.declared.gate.Verdict.{Verdict}
use Rattle.command_words.specs.Commands.{CheckOptions, Command, GrammarSource, ReduceOptions, SelftestOptions, check_line, command_line_of, names_command}
use Rattle.command_words.specs.Commands.{normal_line, reduce_line, selftest_line}
use Rattle.command_words.specs.Lines.{command_read}
use Rattle.command_words.specs.declared.commands.CommandLine.{CommandLine}
use Rattle.command_ends.specs.declared.status.Refusal.TheVariants.{Memory, Usage}
use Rattle.command_ends.specs.declared.status.Refusal.{Refusal}
use Rattle.command_perses.specs.Call.{RunsCommand}
use Rattle.command_perses.specs.inner.Call.{WordsFail}
use Rattle.command_reduce_calls.specs.Journal.{JournalSoFar}
use Rattle.command_check.specs.Check.{CheckEnds, Checks, read_paths as check_paths}
use Rattle.command_check.proofs.Lent.{checks_memory, never_usage}
use Rattle.command_grammar.specs.Texts.{grammar_paths}
use Rattle.command_normal.specs.Normal.{NormalEnds, PrintsNormal}
use Rattle.command_reduce.specs.Reduce.{ReduceEnds, Reduces, read_paths}
use Rattle.command_selftest.specs.Selftest.{RunsSelftest, SelftestEnds}
use Rattle.command_ends.specs.Status.{EndsRefused, IsOneOf}
use Rattle.command_ends.specs.World.{NotReached, SeenCalls, SeenFiles, SeenOut, World, logs_of}
use Rattle.command_reduce.proofs.Lent.{digest_is, none_sound, reduce_by_status}
use Rattle.command_normal.proofs.Lent.{prints_normal, normal_by_status}
use Rattle.command_selftest.proofs.Lent.{selftest_ends}

module _ (may_say : List ℕ → Verdict → Type 0) (old : World) (out : SeenOut) where
  abbrev new : World
  new = record old { out = out }

  untouched : NotReached [] old new
  untouched = record { no_history = refl; gates = refl; journal = refl }

  module _ (end : EndsRefused old.out out 1 (Memory ran_out)) where
    reduces : (options : ReduceOptions) → Reduces options may_say old new 1
    reduces options = record {
      history = [];
      known = record { start = record { bytes = sha256 [] }; kept = [] };
      ends =
          ReduceEnds.memory (record { same = λ name. refl; quiet = refl; reads = ([], read_paths options, refl, none_made old.calls) }) (λ alone. refl)
          (JournalSoFar.untouched (record { no_history = refl; same = refl })) end.line;
      must_end = record {
        grammar_over = λ g is over. refl;
        grammar_missing = λ g is none. refl;
        lexer_over = λ g lexer is named over. refl;
        lexer_missing = λ g lexer is named none. refl;
        faulty = λ g is shown. refl;
        input_over = λ fine over. refl;
        input_missing = λ fine none. refl;
        over = λ over. refl;
        missing = λ none. refl;
        no_token = λ g is shown. refl;
        unparsed = λ g is shown. refl;
        keep_missing = λ shown. refl;
        beyond = λ shown. refl;
        journal_over = λ path is shown over. refl;
        journal_missing = λ path is shown none. refl;
        other_start = λ path is shown. refl;
        bad_journal = λ path is shown bad. refl;
        complete = λ shown files_fine gate_fine journal_fine out_fine. refl;
        first_no = λ first_no. refl;
        first_no_alone = λ alone first_no. refl;
        files_failed = λ failed. absurd (failed refl);
        gate_failed = λ failed. refl;
        gate_failed_alone = λ alone failed. absurd (failed refl);
        journal_failed = λ failed. absurd (failed refl);
        out_failed = λ failed is. cc is;
      };
      sound = none_sound options may_say [] [] (logs_of old.gates) (logs_of old.gates) old.journal old.journal refl refl refl;
      of_input = inl (untouched, digest_is []);
      others = refl;
    }

    checks : (options : CheckOptions) → Checks options old.files old.files old.calls old.calls old.out out 1
    checks options = checks_memory options old.files old.files old.calls old.calls old.out out
        (CheckEnds.memory refl ([], check_paths options, refl, none_made old.calls) end.line) refl (λ name. refl)

    prints : (grammar : GrammarSource) → PrintsNormal grammar old.files old.files old.calls old.calls old.out out 1
    prints grammar = prints_normal grammar old.files old.files old.calls old.calls old.out out
        (NormalEnds.memory refl ([], grammar_paths grammar, refl, none_made old.calls) end.line) (λ name. refl)

    summarizes : (options : SelftestOptions) → RunsSelftest options old.out out 1
    summarizes options = selftest_ends options old.out out (SelftestEnds.memory end.line)

    ends_out_of_memory : (command : Option Command) → RunsCommand may_say old new 1 command
    ends_out_of_memory None = RunsCommand.out_of_memory (record { status_is = refl; files = refl; calls = refl; untouched = untouched; line = end.line })
    ends_out_of_memory (Some (Command.reduce options)) = RunsCommand.reduce options (reduces options)
    ends_out_of_memory (Some (Command.check options)) = RunsCommand.check options (checks options) untouched
    ends_out_of_memory (Some (Command.normal grammar)) = RunsCommand.normal grammar (prints grammar) untouched
    ends_out_of_memory (Some (Command.selftest options)) = RunsCommand.selftest options (summarizes options) refl refl untouched

  pub runs_out_of_memory : (status : ℕ) → EndsRefused old.out out status (Memory ran_out) → (command : Option Command)
      → RunsCommand may_say old new status command
  runs_out_of_memory status end command =
      subst (λ (s : ℕ). RunsCommand may_say old new s command) (sym end.status_is) (ends_out_of_memory (record { status_is = refl; line = end.line }) command)

  -- how the command ends where no command line was read
  pub runs_refused : (status : ℕ) (words : List (List ℕ)) (refusal : Refusal) → WordsFail words refusal → EndsRefused old.out out status refusal
      → RunsCommand may_say old new status (command_line_of words)
  runs_refused status words (Memory _) why end = runs_out_of_memory status end (command_line_of words)
  runs_refused status words Usage why end =
      subst (RunsCommand may_say old new status) (sym why)
      (RunsCommand.usage (record { status_is = end.status_is; files = refl; calls = refl; untouched = untouched; line = end.line }))
  runs_refused status words _ why end = absurd why

module _ (out out' : SeenOut) (status : ℕ) (words : List (List ℕ)) where
  -- the status of bad usage is that of words that are no command line
  pub refused_usage : (refusal : Refusal) → WordsFail words refusal → EndsRefused out out' status refusal → status ≡ 2 → command_line_of words ≡ None
  refused_usage (Memory _) why end two = absurd (cc (sym end.status_is ∙ two))
  refused_usage Usage why end two = why
  refused_usage _ why end two = absurd why

  -- and no command line that wasn't read ends otherwise, but where memory ran out
  pub refused_status : (refusal : Refusal) → WordsFail words refusal → EndsRefused out out' status refusal → (status ≡ 2) ⊎ (status ≡ 1)
  refused_status (Memory _) why end = inr end.status_is
  refused_status Usage why end = inl end.status_is
  refused_status _ why end = absurd why

  -- which takes words that name a command
  pub refused_nameless : (refusal : Refusal) → WordsFail words refusal → EndsRefused out out' status refusal → names_command words ≡ false → status ≡ 2
  refused_nameless (Memory _) why end nameless = absurd (false≢true (sym nameless ∙ why))
  refused_nameless Usage why end nameless = end.status_is
  refused_nameless _ why end nameless = absurd why

-- words that ask for a command name one
none_of_four : (a b c d : Bool) (reduce normal selftest check : Option Command) → (a || (b || (c || d))) ≡ false
    → (if a then reduce else (if b then normal else (if c then selftest else (if d then check else None)))) ≡ None
none_of_four true b c d reduce normal selftest check is = absurd (cc is)
none_of_four false true c d reduce normal selftest check is = absurd (cc is)
none_of_four false false true d reduce normal selftest check is = absurd (cc is)
none_of_four false false false true reduce normal selftest check is = absurd (cc is)
none_of_four false false false false reduce normal selftest check is = refl

pub is_named : (words : List (List ℕ)) (command : Command) → Some command ≡ command_line_of words → names_command words ≡ false → ⊥
is_named [] command is nameless = cc is
is_named (program ∷ []) command is nameless = cc is
is_named (program ∷ (name ∷ words)) command is nameless =
    let none = none_of_four (bytes_eq name (codes "reduce")) (bytes_eq name (codes "normal")) (bytes_eq name (codes "selftest"))
    (bytes_eq name (codes "check")) (option_map Command.reduce (reduce_line words)) (option_map Command.normal (normal_line words))
    (option_map Command.selftest (selftest_line words)) (option_map Command.check (check_line words)) nameless in
    cc (is ∙ none)

-- no command ends as words do that are none
pub reduce_not_usage : (options : ReduceOptions) (may_say : List ℕ → Verdict → Type 0) (old new : World) (status : ℕ) → Reduces options may_say old new status
    → status ≢ 2
reduce_not_usage options may_say old new status runs two =
    false≢true (subst (IsOneOf (0 ∷ 1 ∷ 3 ∷ 4 ∷ 5 ∷ 6 ∷ 7 ∷ 8 ∷ 9 ∷ 10 ∷ 11 ∷ 12 ∷ 13 ∷ 14 ∷ 16 ∷ [])) two
    (reduce_by_status options runs.known runs.history old new status runs.ends).one_of)

pub check_not_usage : (options : CheckOptions) (files files' : SeenFiles) (calls calls' : SeenCalls) (out out' : SeenOut) (status : ℕ)
    → Checks options files files' calls calls' out out' status → status ≢ 2
check_not_usage options files files' calls calls' out out' status checks = never_usage options files files' calls calls' out out' checks.ends

pub normal_not_usage : (grammar : GrammarSource) (files files' : SeenFiles) (calls calls' : SeenCalls) (out out' : SeenOut) (status : ℕ)
    → PrintsNormal grammar files files' calls calls' out out' status → status ≢ 2
normal_not_usage grammar files files' calls calls' out out' status prints two =
    false≢true (subst (IsOneOf (0 ∷ 1 ∷ 3 ∷ 4 ∷ 5 ∷ 10 ∷ [])) two (normal_by_status grammar files files' calls calls' out out' status prints.ends).known)

pub selftest_not_usage : (options : SelftestOptions) (out out' : SeenOut) (status : ℕ) → RunsSelftest options out out' status → status ≢ 2
selftest_not_usage options out out' status runs = at runs.ends
  where
    at : {status : ℕ} → SelftestEnds options out out' status → status ≢ 2
    at (SelftestEnds.done text summary put) is = cc is
    at (SelftestEnds.memory line) is = cc is
    at (SelftestEnds.unput text summary put) is = cc is

-- the command that was read is what the words ask for
pub line_is : (one line : CommandLine) (of_words : Option Command) → one ≡ line → Some (command_read one) ≡ of_words → Some (command_read line) ≡ of_words
line_is one line of_words same all = ap (λ (l : CommandLine). Some (command_read l)) (sym same) ∙ all
