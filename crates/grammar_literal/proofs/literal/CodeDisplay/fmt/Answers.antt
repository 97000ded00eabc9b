use Rattle.std.proofs.Common.{Some, subst, sym}
use Rattle.std.specs.Prelude.{codes}
use Rattle.std.specs.Fmt.{DisplaysOnOk, ◌++?◌}
use Rattle.std.proofs.Output.{has_written_of_eq}
use Rattle.grammar_literal.proofs.Printed.{code_bytes}
use Rattle.grammar_literal.proofs.literal.CodeDisplay.fmt.Goals as goal

pub returns-clause-writes : goal.returns-clause-writes
returns-clause-writes g c =
    let written =
    subst (λ o. DisplaysOnOk g.W.Write.write_str_gives c.args.f.now c.write.result (Some (codes "\\u{") ++? (o ++? Some (codes "}"))) c.write.new.self)
    c.in_radix.ensures c.write.ensures.writes in
    λ plain ok. has_written_of_eq _ _ _ _ _ (sym (code_bytes c.args.self.now.0)) (written plain ok)
