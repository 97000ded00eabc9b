use Rattle.std.proofs.Common.{◌||◌, ap, ◌∙◌}
use Rattle.std.proofs.lemmas.Bool.{or_from}
use Rattle.grammar_tree.specs.Chars.{has}
use Rattle.grammar_tree.proofs.char_set.CharSet.union.Goals as goal

pub invariant_of-result : goal.invariant_of-result
invariant_of-result c =
    record {
      canonical = c.in_ok-merged.field-0.canonical;
      only_chars = λ x s. c.in_ok-merged.ensures x ∙ or_from _ _ (c.self.invariant.only_chars x s) (c.other.invariant.only_chars x s);
    }

pub returns : goal.returns
returns c =
    λ x s. c.in_ok-merged.ensures x
    ∙ ap (λ v. has v x || has c.other.inside.class.ranges.items x) c.self.view_is
    ∙ ap (λ v. has c.args.self.now x || has v x) c.other.view_is
