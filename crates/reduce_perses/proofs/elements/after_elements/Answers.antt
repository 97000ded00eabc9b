use Rattle.std.proofs.Common.{sym, ap, ◌∙◌}
use Rattle.list_ddmin.specs.Machine.{asks, kept}
use Rattle.syntax_tree_cut.specs.Cuts.{cut_tree}
use Rattle.reduce_perses.proofs.ElementsLemmas.{can_end, goes_on_asking, goes_on_ended, list_left, none_asked, some_asked}
use Rattle.reduce_perses.proofs.elements.after_elements.Goals as goal

pub answer-requires : goal.answer-requires
answer-requires c = c.requires.visit.step_is.asking

pub returns-then-is_some-clause-on : goal.returns-then-is_some-clause-on
returns-then-is_some-clause-on c =
    goes_on_asking c.args.tree.now.form c.args.tree.now.start
    (cut_tree c.args.tree.now c.args.cut.now) c.args.queue.now c.args.list c.args.step c.requires.visit c.args.yes c.answer.new.self c.answer.ensures
    (some_asked c.asks.result (asks c.answer.new.self) c.is_some.result c.asks.ensures.question c.is_some.ensures c.if-is_some.true)

pub keep_elements-requires-clause-can : goal.keep_elements-requires-clause-can
keep_elements-requires-clause-can c =
    can_end c.args.tree.now.form c.args.tree.now.start
    (cut_tree c.args.tree.now c.args.cut.now) c.args.queue.now c.args.list c.args.step c.requires.visit c.args.yes c.kept.result.now
    (c.kept.ensures ∙ ap kept c.answer.ensures)

pub queue_children-requires-clause-left : goal.queue_children-requires-clause-left
queue_children-requires-clause-left c =
    list_left c.args.tree.now.form c.args.tree.now.start
    (cut_tree c.args.tree.now c.args.cut.now) c.args.queue.now c.args.list c.args.step c.requires.visit c.kept.result.now
    (cut_tree c.args.tree.now c.keep_elements.new.self) c.keep_elements.ensures.tree

pub returns-clause-on : goal.returns-clause-on
returns-clause-on c =
    goes_on_ended c.args.tree.now.form c.args.tree.now.start
    (cut_tree c.args.tree.now c.args.cut.now) c.args.queue.now c.args.list c.args.step c.requires.visit
    c.kept.result.now (cut_tree c.args.tree.now c.keep_elements.new.self) c.keep_elements.ensures.tree
    c.args.yes (c.kept.ensures ∙ ap kept c.answer.ensures)
    (ap asks (sym c.answer.ensures) ∙ none_asked c.asks.result
    (asks c.answer.new.self) c.is_some.result c.asks.ensures.question c.is_some.ensures c.if-is_some.false)
    c.queue_children.new.queue c.in_ok-queue_children.ensures
