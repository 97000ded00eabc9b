use Rattle.std.proofs.Common.{◌+◌, ◌<◌, List, length, take, drop, sym, ap, ◌∙◌, subst, arith}
use Rattle.syntax_tree.specs.declared.node.Node.{Node}
use Rattle.std.specs.Prelude.{slice_set}
use Rattle.syntax_tree_cut.specs.declared.mark.Mark.{Mark}
use Rattle.syntax_tree_cut.specs.declared.mark.Mark.TheVariants.{Deleted}
use Rattle.syntax_tree_cut.proofs.Dropping.{counts_at, next_dropped_at, next_mark, next_node, rest_rises}
use Rattle.syntax_tree_cut.proofs.cut.Cut.drop_node.Goals as goal

pub bounds-nodes-node : goal.bounds-nodes-node
bounds-nodes-node c =
    subst (λ (l : List Node). c.args.node < length l) (sym c.nodes.ensures.nodes)
    (next_node c.args.tree.now c.tree_laws.ensures c.nodes.ensures.whole c.requires.0 c.requires.1 c.requires.2 c.args.node c.args.self.now c.args.gap
    c.requires.3)

pub count_until-before-requires-clause-rising : goal.count_until-before-requires-clause-rising
count_until-before-requires-clause-rising c =
    rest_rises c.args.tree.now c.tree_laws.ensures c.nodes.ensures.whole c.requires.0 c.requires.1 c.requires.2 c.args.node c.args.self.now c.args.gap
    c.requires.3

pub count_until-end-requires-clause-rising : goal.count_until-end-requires-clause-rising
count_until-end-requires-clause-rising c =
    rest_rises c.args.tree.now c.tree_laws.ensures c.nodes.ensures.whole c.requires.0 c.requires.1 c.requires.2 c.args.node c.args.self.now
    c.args.gap c.requires.3

pub mark_deleted-requires : goal.mark_deleted-requires
mark_deleted-requires c =
    subst (λ (l : List Mark). c.args.node < length l) (sym c.keep_tokens-kept.ensures.marks)
    (next_mark c.args.tree.now c.tree_laws.ensures c.nodes.ensures.whole c.requires.0 c.requires.1 c.requires.2 c.args.node c.args.self.now c.args.gap
    c.requires.3)

pub overflow_sub-end : goal.overflow_sub-end
overflow_sub-end c =
    counts_at c.args.tree.now c.tree_laws.ensures c.nodes.ensures.whole c.requires.0 c.requires.1 c.requires.2 c.args.node c.args.self.now c.args.gap
    c.requires.3 c.nodes.result.now _ c.nodes.ensures.nodes c.count_until-before.result c.count_until-end.result
    c.count_until-before.ensures c.count_until-end.ensures

pub returns : goal.returns
returns c = λ d all rest so.
    next_dropped_at c.args.tree.now c.tree_laws.ensures c.nodes.ensures.whole d all rest c.args.node c.args.self.now c.args.gap so c.nodes.result.now _
    c.nodes.ensures.nodes c.mark_deleted.new.self c.skip_tokens.result c.count_until-before.result c.count_until-end.result
    c.count_until-before.ensures c.count_until-end.ensures
    (c.mark_deleted.ensures.marks ∙ ap (λ (l : List Mark). slice_set l c.args.node Deleted) c.keep_tokens-kept.ensures.marks)
    (c.mark_deleted.ensures.positions ∙ c.keep_tokens-kept.ensures.positions) (c.skip_tokens.ensures.from ∙ c.keep_tokens-kept.ensures.from)
    (let to = c.skip_tokens.ensures.to in let up = c.keep_tokens-kept.ensures.to in omega (arith, to, up))
    (ap (take (c.args.gap.from + c.count_until-before.result)) c.mark_deleted.ensures.kept ∙ c.keep_tokens-kept.ensures.stay)
    (ap (drop (c.args.gap.to + c.count_until-before.result)) c.mark_deleted.ensures.kept ∙ c.keep_tokens-kept.ensures.next)
    (ap length c.mark_deleted.ensures.kept ∙ c.keep_tokens-kept.ensures.len)
