use Rattle.std.proofs.Common.{ℕ, List, Vec, Global, arith}
use Rattle.lexer.proofs.EmptyTexts.{edge_pushed}
use Rattle.lexer.proofs.empty.add_edge.Goals as goal

abbrev items : Vec ℕ Global → List ℕ
items v = v.items

pub returns-clause-edges : goal.returns-clause-edges
returns-clause-edges c i j =
    edge_pushed items c.args.rows.now.items c.args.index c.args.number c.index_mut.result.now c.push.new.self
    (omega (arith, c.args.rows.now.ok.0)) c.index_mut.ensures.value c.in_ok-push.ensures.items i j
