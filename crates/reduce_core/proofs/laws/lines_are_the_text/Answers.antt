use Rattle.reduce_core.proofs.LinesLemmas.{text-numbered_lines}
use Rattle.reduce_core.proofs.laws.lines_are_the_text.Goals as goal

pub returns : goal.returns
returns c = text-numbered_lines
