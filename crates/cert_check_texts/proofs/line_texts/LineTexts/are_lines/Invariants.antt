use Rattle.std.specs.Prelude.{◌↔◌, drop, length}
use Rattle.reduce_core.specs.Lines.{lines_of}
use Rattle.cert_check_texts.proofs.Taking.{Takes}
use Rattle.cert_check_texts.proofs.line_texts.LineTexts.are_lines.Given as goal

abbrev pub invariant-loop-rest : goal.invariant-loop-rest
invariant-loop-rest l = Takes (lines_of l.self.start) l.text ↔ Takes (drop l.next (lines_of l.self.start)) l.rest

abbrev pub decreases-loop-rest : goal.decreases-loop-rest
decreases-loop-rest l = length l.rest
