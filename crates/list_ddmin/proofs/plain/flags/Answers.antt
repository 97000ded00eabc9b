use Rattle.std.proofs.Common.{◌∙◌, ap, sym, ◌-◌, ◌+◌, [], ◌∷◌, ◌++◌, append_assoc}
use Rattle.list_ddmin.specs.inner.Plain.{flags_of}
use Rattle.list_ddmin.proofs.Positions.{flags_of-next}
use Rattle.list_ddmin.proofs.plain.flags.Goals as goal

pub loop-k-preserved : goal.loop-k-preserved
loop-k-preserved c =
    let positions = c.args.positions.now in
    let k = c.loop-k.k-counter in
    let next = flags_of-next positions k c.args.len c.loop-k-test.true in
    let asked = c.contains.ensures.value in
    let pushed = c.in_ok-push.ensures.items in
    ap (λ l. l ++ flags_of positions (k + 1) (c.args.len - (k + 1))) pushed
    ∙ append_assoc c.loop-k.flags.items (c.contains.result ∷ []) (flags_of positions (k + 1) (c.args.len - (k + 1)))
    ∙ ap (λ b. c.loop-k.flags.items ++ b ∷ flags_of positions (k + 1) (c.args.len - (k + 1))) asked
    ∙ ap (λ l. c.loop-k.flags.items ++ l) (sym next)
    ∙ c.loop-k.invariant
