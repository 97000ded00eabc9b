use Rattle.std.proofs.Common.{subst, sym, refl}
use Rattle.std.proofs.lemmas.Result.{err_from_is_err_and}
use Rattle.reduce_journal.specs.History.{History, IsHistory}
use Rattle.reduce_journal.specs.Journal.{IsStart}
use Rattle.reduce_journal.proofs.Journals.{fails_as_bad, fails_as_journal, is_history, not_both, read_again}
use Rattle.reduce_journal.proofs.read.read_journal.Goals as goal

pub returns-in_err-events-clause-each_journal : goal.returns-in_err-events-clause-each_journal
returns-in_err-events-clause-each_journal c = λ first events torn is.
    let p = err_from_is_err_and c.from_residual.result c.from_residual.ensures.1 in
    rw (p.1, p.2) (fails_as_journal c.args.bytes.now c.in_err-events.field-0.0 c.in_err-events.ensures.head c.in_err-events.ensures.bad_record first events torn
    is)

pub returns-in_err-events-clause-each_bad_record : goal.returns-in_err-events-clause-each_bad_record
returns-in_err-events-clause-each_bad_record c = λ offset is.
    let p = err_from_is_err_and c.from_residual.result c.from_residual.ensures.1 in
    rw (p.1, p.2) (fails_as_bad c.args.bytes.now c.in_err-events.field-0.0 c.in_err-events.ensures.head c.in_err-events.ensures.bad_record offset is)

pub start_of-requires : goal.start_of-requires
start_of-requires c = subst (λ (h : History). IsHistory h) (sym c.deref.ensures.value)
    (is_history c.args.bytes.now c.in-Some.head c.in_ok-events.events.items c.in_ok-events.torn c.in_ok-events.ensures.journal)

pub returns-clause-each_journal : goal.returns-clause-each_journal
returns-clause-each_journal c = λ first events torn is.
    read_again c.args.bytes.now c.in-Some.head first c.in_ok-events.events.items events c.in_ok-events.torn torn _ c.in_ok-events.ensures.journal
    (record {
      version = c.version.ensures;
      start = subst (λ (h : History). IsStart c.in-Some.head h c.start_of.result) c.deref.ensures.value c.start_of.ensures;
      events = refl;
      torn = refl;
    }) is

pub returns-clause-each_bad_record : goal.returns-clause-each_bad_record
returns-clause-each_bad_record c = λ offset bad.
    absurd (not_both c.args.bytes.now c.in-Some.head c.in_ok-events.events.items c.in_ok-events.torn offset c.in_ok-events.ensures.journal bad)
