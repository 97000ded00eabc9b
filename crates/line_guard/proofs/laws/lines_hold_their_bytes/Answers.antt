use Rattle.line_guard.proofs.LineParts as lemmas
use Rattle.line_guard.proofs.laws.lines_hold_their_bytes.Goals as goal

pub returns : goal.returns
returns c = lemmas.lines_hold_their_bytes
