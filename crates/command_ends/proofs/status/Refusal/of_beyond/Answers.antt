use Rattle.std.proofs.Common.{ℕ, List, ◌++◌, ◌∷◌, [], ◌∙◌, ap, append_assoc, sym}
use Rattle.std.specs.Fmt.{decimal}
use Rattle.std.specs.Prelude.{codes}
use Rattle.command_ends.proofs.status.Refusal.of_beyond.Goals as goal

pub returns-in-Ok : goal.returns-in-Ok
returns-in-Ok c =
    let line = decimal c.args.line in
    let lines = decimal c.args.lines in
    let end : List ℕ = 10 ∷ [] in
    c.in-Ok.ensures.ok
    ∙ ap (λ text. codes "perses: line " ++ (line ++ text)) (sym (append_assoc (codes " is beyond line ") lines end))
    ∙ ap (λ text. codes "perses: line " ++ text) (sym (append_assoc line (codes " is beyond line " ++ lines) end))
