use Rattle.std.proofs.Common.{◌+◌, Ok, sym, ap, ◌∙◌, arith}
use Rattle.std.proofs.lemmas.List.{take_rest}
use Rattle.std.proofs.lemmas.Result.{err_from_is_err_and}
use Rattle.reduce_journal.proofs.DecimalNumbers.{digits_end, digits_next, digits_out, digits_stop}
use Rattle.reduce_journal.proofs.numbers.digits_from.Goals as goal

pub returns-then-byte-eq10 : goal.returns-then-byte-eq10
returns-then-byte-eq10 c =
    let bytes = c.args.bytes.now in
    sym c.loop-index.invariant.rest
    ∙ (digits_end c.args.greatest c.loop-index.number bytes c.loop-index.index (omega arith) c.if-byte-eq10.true
    ∙ ap (λ rest. Ok (c.loop-index.number, rest)) (sym (take_rest bytes (c.loop-index.index + 1))))

pub returns-in_err-number : goal.returns-in_err-number
returns-in_err-number c =
    let p = err_from_is_err_and c.from_residual.result c.from_residual.ensures.1 in
    rw (p.1, p.2) (sym c.loop-index.invariant.rest
    ∙ digits_stop c.args.greatest c.loop-index.number _ c.args.bytes.now c.loop-index.index (omega arith) c.if-byte-eq10.false
    (sym c.in_err-number.ensures.value))

pub loop-index-preserved : goal.loop-index-preserved
loop-index-preserved c = record {
  within = c.in_ok-number.ensures.most;
  rest =
      sym (digits_next c.args.greatest c.loop-index.number c.in_ok-number.number c.args.bytes.now c.loop-index.index (omega arith) c.if-byte-eq10.false
      (sym c.in_ok-number.ensures.value))
      ∙ c.loop-index.invariant.rest;
}

pub returns : goal.returns
returns c =
    sym c.loop-index.invariant.rest ∙ digits_out c.args.greatest c.loop-index.number c.args.bytes.now c.loop-index.index (omega arith)
