-- Each status of `normal`, from how it ends.
use Rattle.std.proofs.Common.{◌≡◌, ℕ, List, [], ◌∷◌, refl}
use Rattle.std.proofs.lemmas.Bool.{false≢true}
use Rattle.faults.specs.Memory.{ran_out}
use Rattle.edge_io.specs.Files.{IsLonger}
use Rattle.command_ends.specs.declared.status.NamedFile.{NamedFile}
use Rattle.command_ends.specs.declared.status.NamedFile.TheVariants as read_file
use Rattle.command_ends.specs.declared.status.Refusal.TheVariants.{Memory, CannotRead, TooLong}
use Rattle.command_grammar.specs.Grammar.{IsFaultIn}
use Rattle.command_grammar.specs.Texts.{GrammarWasRead, IsGrammarFile, path_of}
use Rattle.command_normal.specs.Normal.{IsNormalOf, NormalEnds}
use Rattle.command_normal.specs.Normal.NormalEnds.{done, memory, unread, unput, faulty, too_long}
use Rattle.command_normal.specs.NormalByStatus.{NormalByStatus}
use Rattle.command_ends.specs.Status.{IsOneOf, PutsRefusal, fault_line}
use Rattle.command_words.specs.Commands.{GrammarSource}
use Rattle.command_ends.specs.World.{PutsPrefix, CallFailed, Puts, PutsLine, SeenCalls, SeenFiles, SeenOut, grammar_limit}

module _ (grammar : GrammarSource) (files files' : SeenFiles) (calls calls' : SeenCalls) (out out' : SeenOut) where
  abbrev Ends : ℕ → Type 0
  Ends status = NormalEnds grammar files files' calls calls' out out' status

  is_done : {status : ℕ} → Ends status → status ≡ 0 → (text : List ℕ) × GrammarWasRead grammar files (λ texts. IsNormalOf grammar texts text)
      × Puts text out out'
  is_done (done text read quiet reads put) is = (text, read, put)
  is_done _ is = absurd (cc is)

  is_unread : {status : ℕ} → Ends status → status ≡ 3 → CallFailed files files'
  is_unread (unread file reached failed reads put) is = failed
  is_unread _ is = absurd (cc is)

  is_unput : {status : ℕ} → Ends status → status ≡ 4 → (text : List ℕ) × GrammarWasRead grammar files (λ texts. IsNormalOf grammar texts text)
      × PutsPrefix text out out'
  is_unput (unput text read quiet reads put) is = (text, read, put)
  is_unput _ is = absurd (cc is)

  is_faulty : {status : ℕ} → Ends status → status ≡ 5 → (text : List ℕ) × GrammarWasRead grammar files (λ texts. IsFaultIn grammar texts text)
      × PutsLine (fault_line text) out out'
  is_faulty (faulty text read quiet reads put) is = (text, read, put)
  is_faulty _ is = absurd (cc is)

  is_too_long : {status : ℕ} → Ends status → status ≡ 10 → (file : NamedFile) × IsGrammarFile grammar file files
      × IsLonger grammar_limit (files.shown (path_of grammar file))
  is_too_long (too_long file reached longer quiet reads put) is = (file, reached, longer)
  is_too_long _ is = absurd (cc is)

  is_known : {status : ℕ} → Ends status → IsOneOf (0 ∷ 1 ∷ 3 ∷ 4 ∷ 5 ∷ 10 ∷ []) status
  is_known (done text read quiet reads put) = refl
  is_known (memory quiet reads put) = refl
  is_known (unread file reached failed reads put) = refl
  is_known (unput text read quiet reads put) = refl
  is_known (faulty text read quiet reads put) = refl
  is_known (too_long file reached longer quiet reads put) = refl

  puts_line : {status : ℕ} → Ends status → IsOneOf (1 ∷ 3 ∷ 10 ∷ []) status → (file : NamedFile) × IsGrammarFile grammar file files
      × PutsRefusal file out out' status
  puts_line (memory quiet reads put) is = (read_file.Grammar, tt, (Memory ran_out, tt, refl, put))
  puts_line (unread file reached failed reads put) is = (file, reached, (CannotRead file, refl, refl, put))
  puts_line (too_long file reached longer quiet reads put) is = (file, reached, (TooLong file, refl, refl, put))
  puts_line _ is = absurd (false≢true is)

pub normal_by_status : NormalByStatus
normal_by_status grammar files files' calls calls' out out' status ends = record {
  known = is_known grammar files files' calls calls' out out' ends;
  done = is_done grammar files files' calls calls' out out' ends;
  unread = is_unread grammar files files' calls calls' out out' ends;
  unput = is_unput grammar files files' calls calls' out out' ends;
  fault = is_faulty grammar files files' calls calls' out out' ends;
  too_long = is_too_long grammar files files' calls calls' out out' ends;
  line = puts_line grammar files files' calls calls' out out' ends;
}
