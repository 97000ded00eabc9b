use Rattle.std.proofs.Common.{◌≡◌, true, ap, rules, ◌∙◌}
use Rattle.std.specs.Prelude.{not}
use Rattle.grammar_tree.specs.Kinds.{same_text}
use Rattle.grammar_pair.proofs.Loops.{passed}
use Rattle.grammar_pair.proofs.joining.first_other.Goals as goal

pub loop-rest-preserved : goal.loop-rest-preserved
loop-rest-preserved c =
    let same : same_text c.other-item.result c.args.name.now ≡ true = search rules in
    passed (λ other. not (same_text other c.args.name.now)) c.loop-rest.rest.now c.other-item.result c.in-len1-up.len_at_least c.other-item.is (ap not same)
    ∙ c.loop-rest.invariant
