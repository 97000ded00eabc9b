use Rattle.std.proofs.Common.{List, ℕ, ◌++◌, ◌∷◌, [], ◌∙◌, string_bytes, ap, append_assoc, sym}
use Rattle.std.specs.Prelude.{codes}
use Rattle.hex.specs.Hex.{encode_lower}
use Rattle.command_ends.proofs.status.other_start_line.Goals as goal

pub returns : goal.returns
returns c =
    let begin = codes "perses: journal is of another start: " in
    let middle = codes ", input: " in
    let first = encode_lower c.args.other.now.bytes in
    let second = encode_lower c.args.start.now.bytes in
    let end : List ℕ = 10 ∷ [] in
    c.in_ok-line.ensures.ok
    ∙ ap (λ text. begin ++ (text ++ (middle ++ (string_bytes c.in_ok-start.start ++ end)))) c.in_ok-other.ensures
    ∙ ap (λ text. begin ++ (first ++ (middle ++ (text ++ end)))) c.in_ok-start.ensures
    ∙ ap (λ text. begin ++ (first ++ text)) (sym (append_assoc middle second end))
    ∙ ap (λ text. begin ++ text) (sym (append_assoc first (middle ++ second) end))
