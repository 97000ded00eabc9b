use Rattle.std.proofs.Common.{length}
use Rattle.lexer_match.specs.Reading.{IsReady}
use Rattle.lexer_match.proofs.Lent.{in_some}
use Rattle.lexer.proofs.reader.fresh_reading.Goals as goal

pub returns-in-Some-clause-ready : goal.returns-in-Some-clause-ready
returns-in-Some-clause-ready c =
    let size = length c.args.rules.now.states.items in
    c.forget.ensures.ready size (in_some c.args.kept c.in-Some.reading (IsReady size) c.in-Some.is c.requires)
