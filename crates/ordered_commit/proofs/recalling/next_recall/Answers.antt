use Rattle.std.proofs.Common.{option_copied, sym, ◌∙◌}
use Rattle.ordered_commit.proofs.RecallLemmas.{recall_absent, recall_held, recall_short}
use Rattle.ordered_commit.proofs.recalling.next_recall.Goals as goal

pub returns-then-is_absent-clause-recall : goal.returns-then-is_absent-clause-recall
returns-then-is_absent-clause-recall g c =
    let asks = sym c.in_ok-text.ensures.text in
    recall_absent c.args.table.now c.args.kept.now _ c.in_ok-text.text.now asks (option_copied c.record.result)
    (sym c.is_absent.ensures ∙ c.if-is_absent.true) c.record.ensures

pub returns-then-is_absent-clause-short : goal.returns-then-is_absent-clause-short
returns-then-is_absent-clause-short g c =
    recall_short c.args.table.now c.args.kept.now _ c.in_ok-text.text.now (sym c.in_ok-text.ensures.text) c.record.result
    c.record.ensures c.in_ok-text.ensures.short

pub returns-else-is_absent-clause-recall : goal.returns-else-is_absent-clause-recall
returns-else-is_absent-clause-recall g c =
    recall_held c.args.table.now c.args.kept.now _ c.in_ok-text.text.now (sym c.in_ok-text.ensures.text)
    (sym c.is_absent.ensures ∙ c.if-is_absent.false)
