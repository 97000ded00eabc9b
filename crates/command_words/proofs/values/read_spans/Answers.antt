use Rattle.std.proofs.Common.{◌∙◌, ℕ, List, ap, map, sym}
use Rattle.std.proofs.lemmas.List.{take_all}
use Rattle.std.specs.Borrow.{Bor}
use Rattle.std.specs.List.{list_all}
use Rattle.command_words.specs.Lines.{span_read}
use Rattle.command_words.specs.Options.{span_of, takes_value}
use Rattle.command_words.specs.Tables.{any_lines}
use Rattle.command_words.proofs.Spans.{no_spans_in, these_spans}
use Rattle.command_words.proofs.values.read_spans.Goals as goal

pub returns-in_default : goal.returns-in_default
returns-in_default c = no_spans_in c.args.texts.now c.loop-text.text-index _ c.loop-text-test.true c.in_default.ensures

pub returns : goal.returns
returns c =
    let all = take_all c.loop-text.text-index c.args.texts.now c.loop-text-test.false in
    these_spans c.args.texts.now (map span_read c.loop-text.spans.items)
    (c.loop-text.invariant.read ∙ ap (map (λ (text : Bor (List ℕ)). span_of text.now)) all)
    (sym (ap (list_all (λ (text : Bor (List ℕ)). takes_value any_lines text.now)) all) ∙ c.loop-text.invariant.are)
