-- What a file holds: a journal with a start, one that is only begun, or none.
use Rattle.std.proofs.Common.{◌≡◌, inl, inr, ℕ, true, false, List, [], ◌∷◌, Option, Some, None, Result, Ok, Err, is_some, refl, sym, subst}
use Rattle.std.specs.Prelude.{IfOk, IfSome}
use Rattle.verdict_table.specs.declared.record.Record.{Record}
use Rattle.reduce_journal.specs.declared.digest.Digest.{Digest}
use Rattle.reduce_journal.specs.declared.head.Head.{Head}
use Rattle.reduce_journal.specs.declared.head.Head.TheVariants.{Version1, Version2}
use Rattle.reduce_journal.specs.declared.read.Journal.{Journal}
use Rattle.reduce_journal.specs.declared.read.JournalFault.{JournalFault}
use Rattle.reduce_journal.specs.declared.read.JournalFault.TheVariants.{BadHead, BadRecord, Memory}
use Rattle.reduce_journal.specs.History.{History, records_of}
use Rattle.reduce_journal.specs.Journal.{GivesJournal, IsHeadBegun, IsJournalOf, IsReadAs, IsReadOf, IsStart, IsStartOf}
use Rattle.command_resume.specs.declared.fault.AsideCause.{AsideCause}
use Rattle.command_resume.specs.Joined.{IsOfBytes}
use Rattle.command_resume.specs.inner.Held.{IsAnswerOn, IsAnswerTo, IsBegun, IsJournal}

-- ---- a journal with a start

not_both_of : (records : List Record) (start : Digest) → IsStartOf records (Some start) → IsStartOf records None → ⊥
not_both_of [] start some none = cc some
not_both_of (r ∷ records) start some none = none

not_both : (first : Head) (events : History) (start : Option Digest) → is_some start ≡ true → IsStart first events start → IsStart first events None → ⊥
not_both first events None is some none = cc is
not_both Version1 events (Some start) is some none = not_both_of (records_of events) start some none
not_both (Version2 d) events (Some start) is some none = cc none

pub started : (bytes : List ℕ) (journal : Journal) → (¬ IsHeadBegun bytes)
    → ((first : Head) (events : History) (torn : ℕ) → IsJournalOf bytes first events torn → IsReadAs first events torn journal)
    → is_some journal.start ≡ true → ¬ IsBegun bytes
started bytes journal whole each some (inl begun) = whole begun
started bytes journal whole each some (inr lacks) =
    not_both lacks.0 lacks.1 journal.start some (each lacks.0 lacks.1 lacks.2 lacks.3).start lacks.4

-- ---- one without

no_start : (start : Option Digest) → is_some start ≡ false → start ≡ None
no_start None none = refl
no_start (Some start) none = cc none

pub not_started : (bytes : List ℕ) (journal : Journal) → IsReadOf bytes journal → is_some journal.start ≡ false → IsBegun bytes
not_started bytes journal read none =
    inr (read.0, read.1, read.2, read.3, subst (IsStart read.0 read.1) (no_start journal.start none) read.4.start)

-- ---- no journal

-- the bytes are bad
abbrev IsBad : JournalFault → Type 0
IsBad BadHead = Unit {0}
IsBad (BadRecord offset) = Unit {0}
IsBad (Memory memory) = ⊥

no_journal : (bytes : List ℕ) (fault : JournalFault) → IsBad fault
    → ((first : Head) (events : History) (torn : ℕ) → IsJournalOf bytes first events torn → GivesJournal first events torn (Err fault)) → ¬ IsJournal bytes
no_journal bytes BadHead bad each journal = each journal.0 journal.1 journal.2 journal.3
no_journal bytes (BadRecord offset) bad each journal = each journal.0 journal.1 journal.2 journal.3
no_journal bytes (Memory memory) bad each journal = bad

not_begun : (bytes : List ℕ) → (¬ IsHeadBegun bytes) → (¬ IsJournal bytes) → ¬ IsBegun bytes
not_begun bytes whole none (inl begun) = whole begun
not_begun bytes whole none (inr lacks) = none (lacks.0, lacks.1, lacks.2, lacks.3)

pub neither : (bytes : List ℕ) (read : Result Journal JournalFault) (fault : JournalFault) → (¬ IsHeadBegun bytes)
    → ((first : Head) (events : History) (torn : ℕ) → IsJournalOf bytes first events torn → GivesJournal first events torn read)
    → read ≡ Err fault → IsBad fault → (¬ IsBegun bytes) × (¬ IsJournal bytes)
neither bytes read fault whole each is bad =
    let none : ¬ IsJournal bytes =
    no_journal bytes fault bad (λ first events torn journal. subst (GivesJournal first events torn) is (each first events torn journal)) in
    (not_begun bytes whole none, none)

-- ---- what is read of a file

of_answer_on : (bytes : List ℕ) (answer : Result (Option Journal) AsideCause) → IsAnswerOn bytes answer → IfOk answer (λ o. IfSome o IsOfBytes)
of_answer_on bytes (Ok (Some journal)) is = (bytes, is.1)
of_answer_on bytes (Ok None) is = tt
of_answer_on bytes (Err cause) is = tt

pub of_answer : (held : Option (List ℕ)) (answer : Result (Option Journal) AsideCause) → IsAnswerTo held answer → IfOk answer (λ o. IfSome o IsOfBytes)
of_answer None answer is = subst (λ (a : Result (Option Journal) AsideCause). IfOk a (λ o. IfSome o IsOfBytes)) (sym is) tt
of_answer (Some bytes) answer (inl found) = of_answer_on bytes answer found.1
of_answer (Some bytes) answer (inr long) = subst (λ (a : Result (Option Journal) AsideCause). IfOk a (λ o. IfSome o IsOfBytes)) (sym long.1) tt
