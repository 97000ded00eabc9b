use Rattle.std.proofs.Common.{[], ◌∷◌, ◌++◌, length}
use Rattle.std.proofs.lemmas.Result.{on_err_weaker}
use Rattle.reduce_journal.specs.Journal.{line, record_prefix}
use Rattle.reduce_journal.proofs.Pieces.{grew_first, grew_later, on_err}
use Rattle.reduce_journal.proofs.write.write_record.Goals as goal

pub returns-in_err-put_record_line-clause-err : goal.returns-in_err-put_record_line-clause-err
returns-in_err-put_record_line-clause-err g c =
    let text = c.args.text.now in
    let put = g.J.Sink.put_so_far in
    on_err c.from_residual.result (grew_first (line (record_prefix c.args.kept c.args.verdict) (length text)) (text ++ 10 ∷ []) (put c.args.journal.now)
    (put c.put_record_line.new.journal) c.in_err-put_record_line.ensures.err)

pub returns-in_err-put-clause-err : goal.returns-in_err-put-clause-err
returns-in_err-put-clause-err g c =
    let text = c.args.text.now in
    let put = g.J.Sink.put_so_far in
    on_err c.from_residual-in_err-put.result
    (grew_later (line (record_prefix c.args.kept c.args.verdict) (length text)) (text ++ 10 ∷ []) (put c.args.journal.now) (put c.put_record_line.new.journal)
    (put c.put.new.self) c.in_ok-put_record_line.ensures.ok
    (grew_first text (10 ∷ []) (put c.put_record_line.new.journal) (put c.put.new.self) c.in_err-put.ensures.err))

pub returns-clause-err : goal.returns-clause-err
returns-clause-err g c =
    let text = c.args.text.now in
    let put = g.J.Sink.put_so_far in
    on_err_weaker c.put-2.result (λ last. grew_later (line (record_prefix c.args.kept c.args.verdict) (length text)) (text ++ 10 ∷ []) (put c.args.journal.now)
    (put c.put_record_line.new.journal) (put c.put-2.new.self) c.in_ok-put_record_line.ensures.ok
    (grew_later text (10 ∷ []) (put c.put_record_line.new.journal) (put c.put.new.self) (put c.put-2.new.self) c.in_ok-put.ensures.ok last)) c.put-2.ensures.err
