use Rattle.std.proofs.Common.{◌∙◌}
use Rattle.verdict_table.proofs.TableLemmas.{others_at_index, moved_from_index, not_open, number_at_index, text_at_index}
use Rattle.verdict_table.proofs.table.take_claim.Goals as goal

pub unreachable-requires : goal.unreachable-requires
unreachable-requires c = not_open c.args.number c.args.claims.now.items (rw (← c.deref.ensures.value) c.in-None.ensures) c.requires.is_open

pub returns-clause-number : goal.returns-clause-number
returns-clause-number c =
    number_at_index c.args.number c.args.claims.now.items c.in-Some.index c.remove.result
    (rw (← c.deref.ensures.value) c.in-Some.ensures) c.remove.ensures.value

pub returns-clause-text : goal.returns-clause-text
returns-clause-text c =
    text_at_index c.args.number c.args.claims.now.items c.in-Some.index c.remove.result
    (rw (← c.deref.ensures.value) c.in-Some.ensures) c.requires.numbered c.remove.ensures.value

pub returns-clause-others : goal.returns-clause-others
returns-clause-others c =
    c.remove.ensures.items
    ∙ others_at_index c.args.number c.args.claims.now.items c.in-Some.index c.remove.result
    (rw (← c.deref.ensures.value) c.in-Some.ensures) c.requires.numbered

pub returns-clause-moved : goal.returns-clause-moved
returns-clause-moved c = rw c.remove.ensures.items
    (moved_from_index c.args.number c.args.claims.now.items c.in-Some.index c.remove.result
    (rw (← c.deref.ensures.value) c.in-Some.ensures) c.remove.ensures.value)
