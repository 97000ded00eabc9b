use Rattle.reduce_hdd.proofs.WorkedLemmas as lemmas
use Rattle.reduce_hdd.proofs.laws.worked_rounds.Goals as goal

pub returns : goal.returns
returns c = record { statements = lemmas.statements_go; blocks = lemmas.blocks_stay; plus = lemmas.plus_keeps_one }
