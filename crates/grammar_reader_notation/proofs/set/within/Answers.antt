use Rattle.std.proofs.Common.{◌∙◌, ap, arith}
use Rattle.std.proofs.lemmas.List.{take_all}
use Rattle.grammar_tree.specs.Chars.{has}
use Rattle.grammar_reader_notation.proofs.Ranging.{has_next}
use Rattle.grammar_reader_notation.proofs.SetOf.{is_set_of}
use Rattle.grammar_reader_notation.proofs.set.within.Goals as goal

pub loop-range-preserved : goal.loop-range-preserved
loop-range-preserved c = λ x h.
    has_next c.args.ranges.now c.loop-range.range-index x (has c.loop-range.chars.items x) (has c.add_range.new.chars.items x) c.loop-range-test.true
    (c.loop-range.invariant x h) (c.in_ok-add_range.ensures x h)

pub returns : goal.returns
returns c =
    is_set_of c.in_ok-set.set (has c.args.ranges.now) c.is_char_set.ensures
    (λ x h. c.in_ok-set.ensures x h ∙ ap (λ rs. has rs x) c.deref.ensures.value ∙ c.loop-range.invariant x h
    ∙ ap (λ rs. has rs x) (take_all c.loop-range.range-index c.args.ranges.now (omega arith)))
