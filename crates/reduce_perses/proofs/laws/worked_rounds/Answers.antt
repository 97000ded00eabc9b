use Rattle.reduce_perses.proofs.WorkedLemmas as lemmas
use Rattle.reduce_perses.proofs.laws.worked_rounds.Goals as goal

pub returns : goal.returns
returns c = record { brackets = lemmas.brackets_go; blocks = lemmas.blocks_go; plus = lemmas.plus_keeps_one }
