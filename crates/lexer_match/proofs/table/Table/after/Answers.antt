use Rattle.std.proofs.Common.{◌+◌, ◌*◌, sym, ap, ◌∙◌, slice_get, arith}
use Rattle.lexer_match.proofs.Found.{item_some, table_step}
use Rattle.lexer_match.proofs.table.Table.after.Goals as goal

pub returns-in-Some : goal.returns-in-Some
returns-in-Some c P t =
    let index = c.args.set * 128 + c.args.c in
    let at =
    ap (λ l. slice_get l index) (sym c.deref.ensures.value)
    ∙ item_some c.deref.result.now index c.in-Some.step c.get.result c.in-Some.is c.get.ensures.lookup in
    table_step P c.args.self.now c.args.set c.args.c c.in-Some.step.now (omega arith) at t
