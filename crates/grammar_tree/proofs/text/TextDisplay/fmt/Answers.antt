use Rattle.std.proofs.Common.{ap, sym, ◌∙◌, subst}
use Rattle.std.specs.Prelude.{encode_utf8_all}
use Rattle.std.specs.Fmt.{HasWritten}
use Rattle.std.proofs.lemmas.Str.{encodes-chars}
use Rattle.grammar_tree.proofs.text.TextDisplay.fmt.Goals as goal

-- src/text.rt:65:5
pub returns-clause-writes : goal.returns-clause-writes
returns-clause-writes g c plain ok =
    let same = sym (encodes-chars c.as_str.result.now c.as_str.utf8) ∙ ap encode_utf8_all c.as_str.ensures in
    subst (λ bytes. HasWritten {W = g.row.W.Denot} g.W.Write.write_str_gives c.args.f.now bytes c.write_str.new.self) same (c.write_str.ensures.writes plain ok)
