use Rattle.std.proofs.Common.{◌∙◌, ap, ◌||◌}
use Rattle.grammar_tree.specs.Chars.{has}
use Rattle.grammar_reader_notation.proofs.Ranging.{has_more, same_range, nothing_in, one_none}
use Rattle.grammar_reader_notation.proofs.set.add_range.Goals as goal

pub returns-in-None : goal.returns-in-None
returns-in-None c = λ x h. one_none (has c.args.chars.now.items x) _ (nothing_in c.args.range x c.in-None.ensures h)

pub returns-in_ok-push-in-Some : goal.returns-in_ok-push-in-Some
returns-in_ok-push-in-Some c = λ x h.
    let pushed : _ = c.in_ok-push-in-Some.ensures in
    ap (λ rs. has rs x) pushed.items ∙ has_more c.args.chars.now.items (c.in-Some.first, c.last_char.result) x
    ∙ ap (λ b. has c.args.chars.now.items x || b)
    (same_range c.in-Some.first c.last_char.result c.args.range x (c.in-Some.ensures x h) (c.last_char.ensures x h))
