use Rattle.list_ddmin.specs.ListStep.{enough_calls, kept_count}
use Rattle.list_ddmin.proofs.plain.+ddmin.Given as goal

abbrev pub decreases-ddmin : goal.decreases-ddmin
decreases-ddmin g l = enough_calls (kept_count l.keep.items) l.n
