use Rattle.std.proofs.lemmas.Str.{IsCharBoundary-start}
use Rattle.cases_grammars.proofs.spans_shown.Goals as goal

pub loop-init : goal.loop-init
loop-init c = IsCharBoundary-start c.args.text.now c.utf8.text
