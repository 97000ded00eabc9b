use Rattle.std.proofs.Common.{◌≡◌, ℕ, length, ap, ◌∙◌, arith}
use Rattle.list_ddmin.specs.Machine.{asks, start}
use Rattle.syntax_tree.specs.Trees.{count}
use Rattle.syntax_tree.specs.Numbered.{subtree}
use Rattle.syntax_tree_cut.specs.Cuts.{cut_tree}
use Rattle.reduce_perses.proofs.ElementsLemmas.{begins_asking, begins_ended, begins_fewer, count_few, elements_count, none_asked, some_asked}
use Rattle.reduce_perses.proofs.elements.begin_elements.Goals as goal

pub overflow_cast-len : goal.overflow_cast-len
overflow_cast-len c =
    let it = c.requires.taken in
    let counted =
    elements_count (subtree c.args.list (cut_tree c.args.tree.now c.args.cut.now)) c.in_ok-elements.elements.items c.args.list it.rule it.alt it.children
    c.in_ok-elements.ensures it.next.node in
    let few = count_few c.args.tree.now c.nodes-nodes.ensures.whole c.args.cut.now c.requires.of c.args.list it.rule it.alt it.children it.next.node in
    let same = ap length c.nodes-nodes.ensures.nodes in
    let bound = c.nodes-nodes.ensures.few in
    omega (arith, counted, few, same, bound, c.len.ensures)

pub returns-then-is_some-clause-on : goal.returns-then-is_some-clause-on
returns-then-is_some-clause-on c =
    let it = c.requires.taken in
    let many =
    elements_count (subtree c.args.list (cut_tree c.args.tree.now c.args.cut.now)) c.in_ok-elements.elements.items c.args.list it.rule it.alt
    it.children c.in_ok-elements.ensures it.next.node in
    let counted : c.len.result ≡ count it.children = omega (arith, many, c.len.ensures) in
    begins_asking c.args.tree.now.form c.args.tree.now.start
    (cut_tree c.args.tree.now c.args.cut.now) c.args.queue.now c.args.list it c.args.may_be_empty c.requires.list c.in_ok-step.step
    (c.in_ok-step.ensures ∙ ap (λ (n : ℕ). start n c.args.may_be_empty) counted)
    (some_asked c.asks.result (asks c.in_ok-step.step) c.is_some.result c.asks.ensures.question c.is_some.ensures c.if-is_some.true)

pub returns-clause-on : goal.returns-clause-on
returns-clause-on c =
    let it = c.requires.taken in
    let many = elements_count (subtree c.args.list (cut_tree c.args.tree.now c.args.cut.now)) c.in_ok-elements.elements.items c.args.list it.rule it.alt
    it.children c.in_ok-elements.ensures it.next.node in
    let counted : c.len.result ≡ count it.children = omega (arith, many, c.len.ensures) in
    begins_ended c.args.tree.now.form c.args.tree.now.start
    (cut_tree c.args.tree.now c.args.cut.now) c.args.queue.now c.args.list it c.args.may_be_empty c.requires.list c.in_ok-step.step
    (c.in_ok-step.ensures ∙ ap (λ (n : ℕ). start n c.args.may_be_empty) counted)
    (none_asked c.asks.result (asks c.in_ok-step.step) c.is_some.result c.asks.ensures.question c.is_some.ensures c.if-is_some.false) c.queue_children.new.queue
    c.in_ok-queue_children.ensures

pub returns-clause-fewer : goal.returns-clause-fewer
returns-clause-fewer c =
    begins_fewer c.args.tree.now.form c.args.tree.now.start
    (cut_tree c.args.tree.now c.args.cut.now) c.args.queue.now c.args.list c.requires.taken c.args.may_be_empty c.requires.list c.queue_children.new.queue
    c.in_ok-queue_children.ensures
