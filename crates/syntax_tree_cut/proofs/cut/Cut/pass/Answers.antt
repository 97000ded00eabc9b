use Rattle.std.proofs.Common.{ℕ, Option, subst}
use Rattle.std.specs.Prelude.{true, false}
use Rattle.syntax_tree_cut.specs.Cuts.{IsOccupant}
use Rattle.syntax_tree_cut.proofs.CutFacts.{get_there}
use Rattle.syntax_tree_cut.proofs.Keeping.{flag_here, flag_known, here, long_enough, mark_here, marks_rise, node_here}
use Rattle.syntax_tree_cut.proofs.Keeping.{passes_deleted, passes_kept, passes_none, tokens_rise}
use Rattle.syntax_tree_cut.proofs.cut.Cut.pass.Goals as goal

pub occupant_at-requires-clause-position : goal.occupant_at-requires-clause-position
occupant_at-requires-clause-position c =
    (here c.args.tree.now c.tree_laws.ensures c.nodes-nodes.ensures.whole c.requires.0 c.requires.1 c.args.keep.now c.requires.2 c.requires.3 c.requires.4
    c.args.self.now c.args.progress c.requires.5).0

pub occupant_at-requires-clause-rise : goal.occupant_at-requires-clause-rise
occupant_at-requires-clause-rise c =
    marks_rise c.args.tree.now c.tree_laws.ensures c.nodes-nodes.ensures.whole c.requires.0 c.requires.1 c.args.keep.now c.requires.2 c.requires.3 c.requires.4
    c.args.self.now c.args.progress c.requires.5

pub returns-in-None : goal.returns-in-None
returns-in-None c =
    λ d list can t ts so.
    passes_none c.args.tree.now c.tree_laws.ensures c.nodes-nodes.ensures.whole d list c.args.keep.now can t ts c.args.self.now c.args.progress so
    (subst (λ (o : Option ℕ). IsOccupant c.args.self.now.marks c.args.progress.position o) c.in-None.is c.occupant_at.ensures) c.after-position.ensures.0
    c.after-position.result c.after-position.ensures.1 c.after-position.ensures.2

pub count_next-count-requires-clause-node : goal.count_next-count-requires-clause-node
count_next-count-requires-clause-node c =
    node_here c.args.tree.now c.tree_laws.ensures c.nodes-nodes.ensures.whole c.requires.0 c.requires.1 c.args.keep.now c.requires.2 c.requires.3 c.requires.4
    c.args.self.now c.args.progress c.requires.5 c.in-Some.node
    (subst (λ (o : Option ℕ). IsOccupant c.args.self.now.marks c.args.progress.position o) c.in-Some.is c.occupant_at.ensures)

pub count_next-count-requires-clause-rising : goal.count_next-count-requires-clause-rising
count_next-count-requires-clause-rising c =
    tokens_rise c.args.tree.now c.tree_laws.ensures c.nodes-nodes.ensures.whole c.requires.0 c.requires.1 c.args.keep.now c.requires.2 c.requires.3 c.requires.4
    c.args.self.now c.args.progress c.requires.5
    c.in-Some.node (subst (λ (o : Option ℕ). IsOccupant c.args.self.now.marks c.args.progress.position o) c.in-Some.is c.occupant_at.ensures)

pub bounds-keep-progress : goal.bounds-keep-progress
bounds-keep-progress c =
    flag_here c.args.tree.now c.tree_laws.ensures c.nodes-nodes.ensures.whole c.requires.0 c.requires.1 c.args.keep.now c.requires.2 c.requires.3 c.requires.4
    c.args.self.now c.args.progress c.requires.5 c.in-Some.node (subst
    (λ (o : Option ℕ). IsOccupant c.args.self.now.marks c.args.progress.position o) c.in-Some.is c.occupant_at.ensures)

pub keep_tokens-gap-requires-clause-to : goal.keep_tokens-gap-requires-clause-to
keep_tokens-gap-requires-clause-to c =
    let entry =
    get_there c.args.tree.now.nodes c.in-Some.node
    (node_here c.args.tree.now c.tree_laws.ensures c.nodes-nodes.ensures.whole c.requires.0 c.requires.1 c.args.keep.now c.requires.2 c.requires.3
    c.requires.4 c.args.self.now c.args.progress c.requires.5 c.in-Some.node
    (subst (λ (o : Option ℕ). IsOccupant c.args.self.now.marks c.args.progress.position o) c.in-Some.is c.occupant_at.ensures)) in
    long_enough c.args.tree.now c.tree_laws.ensures c.nodes-nodes.ensures.whole c.requires.0 c.requires.1 c.args.keep.now c.requires.2 c.requires.3 c.requires.4
    c.args.self.now c.args.progress c.requires.5 c.in-Some.node
    (subst (λ (o : Option ℕ). IsOccupant c.args.self.now.marks c.args.progress.position o) c.in-Some.is c.occupant_at.ensures) entry.0 c.count_next-count.result
    entry.1 (c.count_next-count.ensures entry.0 entry.1)

pub returns-then-keep-progress : goal.returns-then-keep-progress
returns-then-keep-progress c =
    λ d list can t ts so.
    let entry = get_there c.args.tree.now.nodes c.in-Some.node
    (node_here c.args.tree.now c.tree_laws.ensures c.nodes-nodes.ensures.whole c.requires.0 c.requires.1 c.args.keep.now c.requires.2 c.requires.3 c.requires.4
    c.args.self.now c.args.progress c.requires.5 c.in-Some.node
    (subst (λ (o : Option ℕ). IsOccupant c.args.self.now.marks c.args.progress.position o) c.in-Some.is c.occupant_at.ensures)) in
    passes_kept c.args.tree.now c.tree_laws.ensures c.nodes-nodes.ensures.whole d list c.args.keep.now can t ts c.args.self.now c.args.progress so
    c.in-Some.node (subst (λ (o : Option ℕ). IsOccupant c.args.self.now.marks c.args.progress.position o) c.in-Some.is c.occupant_at.ensures)
    c.after-position.ensures.0 c.after-position.result entry.0 c.count_next-count.result c.keep_tokens-gap.new.self c.keep_tokens-gap.result
    c.after-position.ensures.1 c.after-position.ensures.2 entry.1 (c.count_next-count.ensures entry.0 entry.1)
    (flag_known c.args.keep.now c.args.progress.elements _ true c.if-keep-progress.true
    (flag_here c.args.tree.now c.tree_laws.ensures c.nodes-nodes.ensures.whole c.requires.0 c.requires.1 c.args.keep.now c.requires.2 c.requires.3 c.requires.4
    c.args.self.now c.args.progress c.requires.5 c.in-Some.node
    (subst (λ (o : Option ℕ). IsOccupant c.args.self.now.marks c.args.progress.position o) c.in-Some.is c.occupant_at.ensures)))
    c.keep_tokens-gap.ensures.marks c.keep_tokens-gap.ensures.positions c.keep_tokens-gap.ensures.from c.keep_tokens-gap.ensures.to
    c.keep_tokens-gap.ensures.stay c.keep_tokens-gap.ensures.next c.keep_tokens-gap.ensures.len

pub mark_deleted-requires : goal.mark_deleted-requires
mark_deleted-requires c =
    mark_here c.args.tree.now c.tree_laws.ensures c.nodes-nodes.ensures.whole c.requires.0 c.requires.1 c.args.keep.now c.requires.2 c.requires.3 c.requires.4
    c.args.self.now c.args.progress c.requires.5 c.in-Some.node (subst (λ (o : Option ℕ). IsOccupant c.args.self.now.marks c.args.progress.position o)
    c.in-Some.is c.occupant_at.ensures)

pub skip_tokens-gap-requires : goal.skip_tokens-gap-requires
skip_tokens-gap-requires c =
    let entry = get_there c.args.tree.now.nodes
    c.in-Some.node (node_here c.args.tree.now c.tree_laws.ensures c.nodes-nodes.ensures.whole c.requires.0 c.requires.1 c.args.keep.now c.requires.2
    c.requires.3 c.requires.4 c.args.self.now c.args.progress c.requires.5 c.in-Some.node
    (subst (λ (o : Option ℕ). IsOccupant c.args.self.now.marks c.args.progress.position o) c.in-Some.is c.occupant_at.ensures)) in
    long_enough c.args.tree.now c.tree_laws.ensures c.nodes-nodes.ensures.whole c.requires.0 c.requires.1 c.args.keep.now c.requires.2 c.requires.3
    c.requires.4 c.args.self.now c.args.progress c.requires.5 c.in-Some.node
    (subst (λ (o : Option ℕ). IsOccupant c.args.self.now.marks c.args.progress.position o) c.in-Some.is c.occupant_at.ensures) entry.0
    c.count_next-count.result entry.1 (c.count_next-count.ensures entry.0 entry.1)

pub returns : goal.returns
returns c =
    λ d list can t ts so.
    let entry = get_there c.args.tree.now.nodes c.in-Some.node (node_here c.args.tree.now c.tree_laws.ensures c.nodes-nodes.ensures.whole c.requires.0
    c.requires.1 c.args.keep.now c.requires.2 c.requires.3 c.requires.4 c.args.self.now c.args.progress c.requires.5 c.in-Some.node
    (subst (λ (o : Option ℕ). IsOccupant c.args.self.now.marks c.args.progress.position o) c.in-Some.is c.occupant_at.ensures)) in
    passes_deleted c.args.tree.now c.tree_laws.ensures c.nodes-nodes.ensures.whole d list c.args.keep.now can t ts c.args.self.now c.args.progress so
    c.in-Some.node (subst (λ (o : Option ℕ). IsOccupant c.args.self.now.marks c.args.progress.position o) c.in-Some.is c.occupant_at.ensures) entry.0 entry.1
    (flag_known c.args.keep.now c.args.progress.elements _ false c.if-keep-progress.false
    (flag_here c.args.tree.now c.tree_laws.ensures c.nodes-nodes.ensures.whole c.requires.0 c.requires.1 c.args.keep.now c.requires.2 c.requires.3 c.requires.4
    c.args.self.now c.args.progress c.requires.5 c.in-Some.node
    (subst (λ (o : Option ℕ). IsOccupant c.args.self.now.marks c.args.progress.position o) c.in-Some.is c.occupant_at.ensures))) c.after-position.ensures.0
    c.after-position.result c.count_next-count.result c.mark_deleted.new.self c.skip_tokens-gap.result
    c.after-position.ensures.1 c.after-position.ensures.2 (c.count_next-count.ensures entry.0 entry.1)
    c.mark_deleted.ensures.marks c.mark_deleted.ensures.positions c.mark_deleted.ensures.kept c.skip_tokens-gap.ensures.from c.skip_tokens-gap.ensures.to
