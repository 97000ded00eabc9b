use Rattle.std.proofs.Common.{◌∙◌, ap, sym}
use Rattle.reduce_core.specs.Lines.{numbered_lines, text_of}
use Rattle.reduce_core.specs.LineMode.{LineInput}
use Rattle.reduce_core.proofs.LinesLemmas.{text-numbered_lines}
use Rattle.reduce_core.proofs.reducer.line_reducer.Goals as goal

pub new-requires-2-clause-text : goal.new-requires-2-clause-text
new-requires-2-clause-text g c =
    c.in_ok-text.ensures.items ∙ sym (text-numbered_lines c.args.start.now)
    ∙ ap (λ (input : LineInput). text_of (numbered_lines input.start)) (sym c.in_ok-round.ensures.input)
