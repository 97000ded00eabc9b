-- Which files were read before a run.
use Rattle.std.proofs.Common.{◌≡◌, ℕ, List, [], ◌∷◌, ◌++◌, Option, Some, None, refl, sym, subst, append-nil, Result, Ok, Err, IfErr, unwrap_or}
use Rattle.std.specs.Option.{option_to_list}
use Rattle.std.specs.Prelude.{OnOk}
use Rattle.edge_io.specs.Files.{FileContent}
use Rattle.edge_io.specs.FileCalls.{WereMade, failed_call}
use Rattle.edge_io.specs.declared.file_call.FileAction.TheVariants.{Read}
use Rattle.reduce_journal.specs.declared.digest.Digest.{Digest}
use Rattle.reduce_journal.specs.declared.read.JournalFault.{JournalFault}
use Rattle.command_ends.specs.declared.status.NamedFile.TheVariants as named
use Rattle.command_ends.specs.declared.status.Refusal.{Refusal}
use Rattle.command_ends.specs.declared.status.Refusal.TheVariants.{BadJournal, BeyondLines, CannotRead, Grammar, KeepMissing, Memory, NoParse, OtherStart}
use Rattle.command_ends.specs.declared.status.Refusal.TheVariants.{TooLong, Uncut}
use Rattle.command_ends.specs.Status.{IsJournalRefusal, ReadFails, unread_makes}
use Rattle.command_ends.specs.World.{SeenCalls, SeenFiles, SomeRead, UnreadAfter, WereRead, journal_limit}
use Rattle.command_ends.proofs.Lent.{all_some, read_then, read_then_made, read_then_some, some_more}
use Rattle.command_problem.specs.Problem.{problem_paths}
use Rattle.command_problem.specs.Read.{ProblemCalls, ProblemFails}
use Rattle.command_reduce.specs.Reduce.{problem_in, read_paths}
use Rattle.command_reduce.specs.inner.Read.{AcceptCalls}
use Rattle.command_reduce.specs.inner.Resume.{KeptFails, ResumeCalls, ResumeRefusedCalls}
use Rattle.command_reduce_calls.specs.Stays.{StaysFail}
use Rattle.command_words.specs.Commands.{ReduceOptions}

-- what holds always holds of what was read
pub on_ok : {A E : Type 0} (X : Type 0) (outcome : Result A E) → X → OnOk outcome X
on_ok X (Ok read) holds = holds
on_ok X (Err refusal) holds = tt

-- ---- the journal that is resumed

pub unread_journal_calls : (path : List ℕ) (content : Option FileContent) (files files' : SeenFiles) (old new : SeenCalls) (refusal : Refusal)
    → ReadFails journal_limit named.Journal content files files' refusal → WereMade (unread_makes path refusal) old new
    → ResumeCalls path old new refusal
unread_journal_calls path content files files' old new (Memory _) why made = ([], path ∷ [], refl, made)
unread_journal_calls path content files files' old new (CannotRead file) why made = (why.0, made)
unread_journal_calls path content files files' old new (TooLong file) why made = (why.0, made)
unread_journal_calls path content files files' old new _ why made = absurd why

-- it was read, and is no journal
pub bad_journal_calls : (path : List ℕ) (old new : SeenCalls) (fault : JournalFault) (refusal : Refusal) → IsJournalRefusal fault refusal
    → WereRead (path ∷ []) old new → ResumeCalls path old new refusal
bad_journal_calls path old new fault (Memory _) why read = all_some (path ∷ []) old new read
bad_journal_calls path old new fault (BadJournal line) why read = read
bad_journal_calls path old new fault _ why read = absurd why

-- or is one of another start
kept_calls : (path : List ℕ) (old new : SeenCalls) (start : Digest) (found : Option Digest) (refusal : Refusal) → KeptFails start found refusal
    → WereRead (path ∷ []) old new → ResumeCalls path old new refusal
kept_calls path old new start found (Memory _) why read = all_some (path ∷ []) old new read
kept_calls path old new start found (OtherStart line) why read = read
kept_calls path old new start found _ why read = absurd why

pub kept_refused_calls : {A : Type 0} (path : List ℕ) (old new : SeenCalls) (start : Digest) (found : Option Digest) (outcome : Result A Refusal)
    → IfErr outcome (λ refusal. KeptFails start found refusal) → WereRead (path ∷ []) old new → IfErr outcome (ResumeCalls path old new)
kept_refused_calls path old new start found (Ok kept) why read = tt
kept_refused_calls path old new start found (Err refusal) why read = kept_calls path old new start found refusal why read

-- ---- what is accepted
module _ (options : ReduceOptions) (old mid new : SeenCalls) where
  -- there is no problem
  pub problem_refused_calls : (files files' : SeenFiles) (refusal : Refusal) → ProblemFails (problem_in options) files files' refusal
      → ProblemCalls (problem_in options) old new refusal → AcceptCalls options old new refusal
  problem_refused_calls files files' (Memory _) why calls = some_more (problem_paths (problem_in options)) (option_to_list options.resume) old new calls
  problem_refused_calls files files' (CannotRead named.Input) why calls = calls
  problem_refused_calls files files' (CannotRead named.Grammar) why calls = calls
  problem_refused_calls files files' (CannotRead named.Lexer) why calls = calls
  problem_refused_calls files files' (CannotRead named.Result) why calls = calls
  problem_refused_calls files files' (CannotRead named.Journal) why calls = absurd why.0
  problem_refused_calls files files' (TooLong named.Input) why calls = calls
  problem_refused_calls files files' (TooLong named.Grammar) why calls = calls
  problem_refused_calls files files' (TooLong named.Lexer) why calls = calls
  problem_refused_calls files files' (TooLong named.Result) why calls = calls
  problem_refused_calls files files' (TooLong named.Journal) why calls = absurd why.0
  problem_refused_calls files files' (Grammar line) why calls = calls
  problem_refused_calls files files' (Uncut line) why calls = calls
  problem_refused_calls files files' NoParse why calls = calls
  problem_refused_calls files files' _ why calls = absurd why

  -- it isn't accepted
  pub stays_refused_calls : (start : List ℕ) (refusal : Refusal) → StaysFail options start refusal → WereRead (problem_paths (problem_in options)) old new
      → AcceptCalls options old new refusal
  stays_refused_calls start (Memory _) why read =
      some_more (problem_paths (problem_in options)) (option_to_list options.resume) old new (all_some (problem_paths (problem_in options)) old new read)
  stays_refused_calls start (KeepMissing line) why read = read
  stays_refused_calls start (BeyondLines line) why read = read
  stays_refused_calls start _ why read = absurd why

  module _ (read : WereRead (problem_paths (problem_in options)) old mid) where
    -- it is, and the journal is one of it
    pub all_read_calls : WereRead (option_to_list options.resume) mid new → WereRead (read_paths options) old new
    all_read_calls then = read_then (problem_paths (problem_in options)) old mid new read (option_to_list options.resume) then

    whole : (path : List ℕ) → options.resume ≡ Some path → WereRead (path ∷ []) mid new → WereRead (read_paths options) old new
    whole path is then = all_read_calls (subst (λ (resume : Option (List ℕ)). WereRead (option_to_list resume) mid new) (sym is) then)

    -- or isn't
    resume_calls : (path : List ℕ) → options.resume ≡ Some path → (refusal : Refusal) → ResumeCalls path mid new refusal → AcceptCalls options old new refusal
    resume_calls path is (Memory _) calls =
        subst (λ (resume : Option (List ℕ)). SomeRead (problem_paths (problem_in options) ++ option_to_list resume) old new) (sym is)
        (read_then_some (problem_paths (problem_in options)) old mid new read (path ∷ []) calls)
    resume_calls path is (CannotRead file) calls =
        subst (λ f. AcceptCalls options old new (CannotRead f)) (sym calls.0)
        (subst (λ (resume : Option (List ℕ)). UnreadAfter (problem_paths (problem_in options)) (unwrap_or resume []) old new) (sym is)
        (subst (λ (paths : List (List ℕ)). UnreadAfter paths path old new) (append-nil (problem_paths (problem_in options)))
        (read_then_made (problem_paths (problem_in options)) old mid new read [] (failed_call Read path ∷ []) calls.1)))
    resume_calls path is (TooLong file) calls =
        subst (λ f. AcceptCalls options old new (TooLong f)) (sym calls.0)
        (subst (λ (resume : Option (List ℕ)). WereRead (problem_paths (problem_in options) ++ unwrap_or resume [] ∷ []) old new) (sym is)
        (read_then (problem_paths (problem_in options)) old mid new read (path ∷ []) calls.1))
    resume_calls path is (OtherStart line) calls = whole path is calls
    resume_calls path is (BadJournal line) calls = whole path is calls
    resume_calls path is _ calls = absurd calls

    pub resume_refused_calls : (refusal : Refusal) → ResumeRefusedCalls options.resume mid new refusal → AcceptCalls options old new refusal
    resume_refused_calls refusal calls = at options.resume refl calls
      where
        at : (resume : Option (List ℕ)) → options.resume ≡ resume → ResumeRefusedCalls resume mid new refusal → AcceptCalls options old new refusal
        at None is calls = absurd calls
        at (Some path) is calls = resume_calls path is refusal calls
