use Rattle.std.proofs.lemmas.List.{drop-drop}
use Rattle.script_gate_trait.proofs.list_gate.ListGate.move_on.Goals as goal

pub returns-then-self-len : goal.returns-then-self-len
returns-then-self-len c = rw (← c.self.view_is, drop-drop)
