use Rattle.std.proofs.Common.{sym, ap, ◌∙◌}
use Rattle.grammar_reader_words.specs.Quoted.{ranges_of}
use Rattle.grammar_reader_words.proofs.Joined.{after, after_range}
use Rattle.grammar_reader_words.proofs.sets.ranges_of.Goals as goal

pub loop-ranges-preserved : goal.loop-ranges-preserved
loop-ranges-preserved c =
    let pushed : _ = c.in_ok-push-in-Range.ensures in
    ap (λ rs. after rs (ranges_of c.in-Range.others.now)) pushed.items
    ∙ after_range c.loop-ranges.ranges.items (c.in-Range.first, c.in-Range.last) (ranges_of c.in-Range.others.now)
    ∙ ap (after c.loop-ranges.ranges.items) (sym c.in-Range.ensures.same)
    ∙ c.loop-ranges.invariant
