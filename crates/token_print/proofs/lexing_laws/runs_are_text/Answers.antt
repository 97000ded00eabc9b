use Rattle.token_print.proofs.RunSlices as lemma
use Rattle.token_print.proofs.lexing_laws.runs_are_text.Goals as goal

pub returns : goal.returns
returns c = lemma.are_runs
