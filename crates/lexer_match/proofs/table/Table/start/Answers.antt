use Rattle.std.proofs.Common.{sym, ap, ◌∙◌, slice_get}
use Rattle.lexer_match.proofs.Found.{item_some, table_start}
use Rattle.lexer_match.proofs.table.Table.start.Goals as goal

pub returns-in-Some : goal.returns-in-Some
returns-in-Some c P t =
    let at =
    ap (λ l. slice_get l c.args.state) (sym c.deref.ensures.value)
    ∙ item_some c.deref.result.now c.args.state c.in-Some.reached c.get.result c.in-Some.is c.get.ensures.lookup in
    table_start P c.args.self.now c.args.state c.in-Some.reached.now at t
