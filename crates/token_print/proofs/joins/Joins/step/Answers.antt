use Rattle.std.proofs.Common.{arith}
use Rattle.token_print.proofs.Passing.{first_le}
use Rattle.token_print.proofs.Reading.{step_over}
use Rattle.token_print.proofs.joins.Joins.step.Goals as goal

pub pass-requires-clause-rises : goal.pass-requires-clause-rises
pass-requires-clause-rises g c = let (run, copy, carried) = c.in-Some.ensures in carried.rises

pub pass-requires-clause-inside : goal.pass-requires-clause-inside
pass-requires-clause-inside g c = let (run, copy, carried) = c.in-Some.ensures in carried.within

pub pass-requires-clause-spans : goal.pass-requires-clause-spans
pass-requires-clause-spans g c =
    let (run, copy, carried) =
    c.in-Some.ensures in first_le (g.R.PieceReader.grammar c.args.reader.now) c.args.self.now c.requires.of c.args.progress c.in-Some.stretch run copy carried

pub returns-in-Some-clause-reads : goal.returns-in-Some-clause-reads
returns-in-Some-clause-reads g c found left more lexed end = omega arith

pub returns-in-Some-clause-passed : goal.returns-in-Some-clause-passed
returns-in-Some-clause-passed g c =
    step_over (g.R.PieceReader.grammar c.args.reader.now) c.args.self.now c.requires.of c.args.progress c.requires.starts c.in-Some.stretch c.in-Some.ensures
    (g.R.PieceReader.reads c.args.reader.now) c.pass.result c.pass.ensures

pub read-requires-clause-uncarried : goal.read-requires-clause-uncarried
read-requires-clause-uncarried g c = c.in-None.ensures
