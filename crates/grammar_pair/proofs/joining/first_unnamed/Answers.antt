use Rattle.std.proofs.Common.{Some, ap, sym, ◌∙◌}
use Rattle.grammar_pair.proofs.Unnamed.{found_first, found_later}
use Rattle.grammar_pair.proofs.joining.first_unnamed.Goals as goal

pub returns-in-Some : goal.returns-in-Some
returns-in-Some c = λ f finds.
    ap Some c.in_ok-copy.ensures
    ∙ sym (found_first f c.loop-rest.rest.now c.reference-item.result c.in-len1-up.len_at_least c.reference-item.is c.in-Some.literal.now
    (c.in-Some.ensures f finds))
    ∙ c.loop-rest.invariant f finds

pub loop-rest-preserved : goal.loop-rest-preserved
loop-rest-preserved c = λ f finds.
    found_later f c.loop-rest.rest.now c.reference-item.result c.in-len1-up.len_at_least c.reference-item.is (c.in_default-unnamed.ensures f finds)
    ∙ c.loop-rest.invariant f finds
