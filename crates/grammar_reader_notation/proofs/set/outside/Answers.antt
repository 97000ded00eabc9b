use Rattle.std.proofs.Common.{◌∙◌, ap, not}
use Rattle.grammar_tree.specs.Chars.{has}
use Rattle.grammar_reader_notation.proofs.SetOf.{is_set_of, set_of_has}
use Rattle.grammar_reader_notation.proofs.set.outside.Goals as goal

pub returns : goal.returns
returns c =
    is_set_of c.in_ok-set.set (λ x. not (has c.args.ranges.now x)) c.is_char_set.ensures
    (λ x h. c.in_ok-set.ensures x h ∙ ap not (ap (λ s. has s x) c.in_ok-inside.ensures ∙ set_of_has (has c.args.ranges.now) x h))
