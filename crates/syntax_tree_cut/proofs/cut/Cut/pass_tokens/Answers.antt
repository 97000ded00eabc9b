use Rattle.std.proofs.Common.{ℕ, ◌+◌, ◌≤◌, List, Option, drop, length, sym, ap, ◌∙◌, subst}
use Rattle.std.specs.Prelude.{true, false}
use Rattle.std.specs.List.Sorted.{IsStrictlyIncreasing}
use Rattle.syntax_tree_cut.specs.Cuts.{IsOccupant}
use Rattle.syntax_tree_cut.specs.inner.Tokens.{within}
use Rattle.syntax_tree_cut.proofs.CutFacts.{get_there}
use Rattle.syntax_tree_cut.proofs.Keeping.{flag_known}
use Rattle.syntax_tree_cut.proofs.KeepingTokens.{enough_tokens, flag, gap_rises, position_here, rise_after, there, tokens_deleted, tokens_kept, tokens_none}
use Rattle.syntax_tree_cut.proofs.Positions.{replacements_rise}
use Rattle.syntax_tree_cut.proofs.cut.Cut.pass_tokens.Goals as goal

pub occupant_at-requires-clause-position : goal.occupant_at-requires-clause-position
occupant_at-requires-clause-position c =
    (position_here c.args.tree.now c.tree_laws.ensures c.nodes-nodes.ensures.whole c.args.self.now c.requires.of c.args.keep.now c.requires.can.0
    c.requires.can.1 c.requires.can.2 c.requires.can.3 c.args.tokens.now.items c.args.progress c.requires.can.4).0

pub occupant_at-requires-clause-rise : goal.occupant_at-requires-clause-rise
occupant_at-requires-clause-rise c =
    replacements_rise c.args.tree.now c.tree_laws.ensures c.nodes-nodes.ensures.whole c.args.self.now c.requires.of

pub returns-in-None : goal.returns-in-None
returns-in-None c =
    λ list can t ts so.
    tokens_none c.args.tree.now c.tree_laws.ensures c.nodes-nodes.ensures.whole c.args.self.now c.requires.of c.args.keep.now list can t ts
    c.args.tokens.now.items c.args.progress so (subst (λ (o : Option ℕ). IsOccupant c.args.self.now.marks c.args.progress.position o) c.in-None.is
    c.occupant_at.ensures) c.after-position.ensures.0 c.after-position.result c.after-position.ensures.1 c.after-position.ensures.2

pub count_after-count-requires-clause-node : goal.count_after-count-requires-clause-node
count_after-count-requires-clause-node c =
    there c.args.tree.now c.tree_laws.ensures c.nodes-nodes.ensures.whole c.args.self.now c.requires.of c.args.keep.now c.requires.can.0 c.requires.can.1
    c.requires.can.2 c.requires.can.3 c.args.tokens.now.items c.args.progress c.requires.can.4
    c.in-Some.node (subst (λ (o : Option ℕ). IsOccupant c.args.self.now.marks c.args.progress.position o) c.in-Some.is c.occupant_at.ensures)

pub count_after-count-requires-clause-rising : goal.count_after-count-requires-clause-rising
count_after-count-requires-clause-rising c =
    subst (λ (l : List ℕ). IsStrictlyIncreasing (drop c.args.progress.gap.to l)) (sym c.deref.ensures.value)
    (rise_after c.args.tree.now c.tree_laws.ensures c.nodes-nodes.ensures.whole c.args.self.now c.requires.of c.args.keep.now c.requires.can.0
    c.requires.can.1 c.requires.can.2 c.requires.can.3 c.args.tokens.now.items c.args.progress c.requires.can.4
    c.in-Some.node (subst (λ (o : Option ℕ). IsOccupant c.args.self.now.marks c.args.progress.position o) c.in-Some.is c.occupant_at.ensures))

pub bounds-keep-progress : goal.bounds-keep-progress
bounds-keep-progress c =
    flag c.args.tree.now c.tree_laws.ensures c.nodes-nodes.ensures.whole c.args.self.now c.requires.of c.args.keep.now c.requires.can.0 c.requires.can.1
    c.requires.can.2 c.requires.can.3 c.args.tokens.now.items c.args.progress c.requires.can.4
    c.in-Some.node (subst (λ (o : Option ℕ). IsOccupant c.args.self.now.marks c.args.progress.position o) c.in-Some.is c.occupant_at.ensures)

pub keep_next-gap-requires-clause-from : goal.keep_next-gap-requires-clause-from
keep_next-gap-requires-clause-from c =
    gap_rises c.args.tree.now c.tree_laws.ensures c.nodes-nodes.ensures.whole c.args.self.now c.requires.of c.args.keep.now c.requires.can.0 c.requires.can.1
    c.requires.can.2 c.requires.can.3 c.args.tokens.now.items c.args.progress c.requires.can.4

pub keep_next-gap-requires-clause-to : goal.keep_next-gap-requires-clause-to
keep_next-gap-requires-clause-to c =
    let entry = get_there c.args.tree.now.nodes c.in-Some.node
    (there c.args.tree.now c.tree_laws.ensures c.nodes-nodes.ensures.whole c.args.self.now c.requires.of c.args.keep.now c.requires.can.0 c.requires.can.1
    c.requires.can.2 c.requires.can.3 c.args.tokens.now.items c.args.progress c.requires.can.4
    c.in-Some.node (subst (λ (o : Option ℕ). IsOccupant c.args.self.now.marks c.args.progress.position o) c.in-Some.is c.occupant_at.ensures)) in
    enough_tokens c.args.tree.now c.tree_laws.ensures c.nodes-nodes.ensures.whole c.args.self.now c.requires.of c.args.keep.now c.requires.can.0
    c.requires.can.1 c.requires.can.2 c.requires.can.3 c.args.tokens.now.items c.args.progress c.requires.can.4
    c.in-Some.node (subst (λ (o : Option ℕ). IsOccupant c.args.self.now.marks c.args.progress.position o) c.in-Some.is c.occupant_at.ensures)
    entry.0 c.count_after-count.result entry.1 (c.count_after-count.ensures entry.0 entry.1
    ∙ ap (λ (l : List ℕ). length (within entry.0.first entry.0.end (drop c.args.progress.gap.to l))) c.deref.ensures.value)

pub skip_next-gap-requires : goal.skip_next-gap-requires
skip_next-gap-requires c =
    let entry = get_there c.args.tree.now.nodes c.in-Some.node
    (there c.args.tree.now c.tree_laws.ensures c.nodes-nodes.ensures.whole c.args.self.now c.requires.of c.args.keep.now c.requires.can.0 c.requires.can.1
    c.requires.can.2 c.requires.can.3 c.args.tokens.now.items c.args.progress c.requires.can.4
    c.in-Some.node (subst (λ (o : Option ℕ). IsOccupant c.args.self.now.marks c.args.progress.position o) c.in-Some.is c.occupant_at.ensures)) in
    subst (λ (l : List ℕ). c.args.progress.gap.to + c.count_after-count.result ≤ length l) (sym c.deref-2.ensures.value)
    (enough_tokens c.args.tree.now c.tree_laws.ensures c.nodes-nodes.ensures.whole c.args.self.now c.requires.of c.args.keep.now c.requires.can.0
    c.requires.can.1 c.requires.can.2 c.requires.can.3 c.args.tokens.now.items c.args.progress c.requires.can.4
    c.in-Some.node (subst (λ (o : Option ℕ). IsOccupant c.args.self.now.marks c.args.progress.position o) c.in-Some.is c.occupant_at.ensures)
    entry.0 c.count_after-count.result entry.1 (c.count_after-count.ensures entry.0 entry.1
    ∙ ap (λ (l : List ℕ). length (within entry.0.first entry.0.end (drop c.args.progress.gap.to l))) c.deref.ensures.value))

pub returns-then-keep-progress : goal.returns-then-keep-progress
returns-then-keep-progress c =
    λ list can t ts so.
    let at = (subst (λ (o : Option ℕ). IsOccupant c.args.self.now.marks c.args.progress.position o) c.in-Some.is c.occupant_at.ensures) in
    let entry = get_there c.args.tree.now.nodes c.in-Some.node (there c.args.tree.now c.tree_laws.ensures c.nodes-nodes.ensures.whole c.args.self.now
    c.requires.of c.args.keep.now list can t ts
    c.args.tokens.now.items c.args.progress so c.in-Some.node at) in
    tokens_kept c.args.tree.now c.tree_laws.ensures c.nodes-nodes.ensures.whole c.args.self.now c.requires.of c.args.keep.now list can t ts
    c.args.tokens.now.items c.args.progress so c.in-Some.node at
    c.after-position.ensures.0 c.after-position.result entry.0 c.count_after-count.result c.keep_next-gap.new.tokens.items c.keep_next-gap.result
    c.after-position.ensures.1 c.after-position.ensures.2 entry.1 (c.count_after-count.ensures entry.0 entry.1
    ∙ ap (λ (l : List ℕ). length (within entry.0.first entry.0.end (drop c.args.progress.gap.to l))) c.deref.ensures.value)
    (flag_known c.args.keep.now c.args.progress.elements _ true c.if-keep-progress.true (flag c.args.tree.now c.tree_laws.ensures c.nodes-nodes.ensures.whole
    c.args.self.now c.requires.of c.args.keep.now list can t ts
    c.args.tokens.now.items c.args.progress so c.in-Some.node at))
    c.keep_next-gap.ensures.from c.keep_next-gap.ensures.to c.keep_next-gap.ensures.stay c.keep_next-gap.ensures.next c.keep_next-gap.ensures.len

pub returns : goal.returns
returns c =
    λ list can t ts so.
    let at = (subst (λ (o : Option ℕ). IsOccupant c.args.self.now.marks c.args.progress.position o) c.in-Some.is c.occupant_at.ensures) in
    let entry = get_there c.args.tree.now.nodes c.in-Some.node (there c.args.tree.now c.tree_laws.ensures c.nodes-nodes.ensures.whole c.args.self.now
    c.requires.of c.args.keep.now list can t ts
    c.args.tokens.now.items c.args.progress so c.in-Some.node at) in
    tokens_deleted c.args.tree.now c.tree_laws.ensures c.nodes-nodes.ensures.whole c.args.self.now c.requires.of c.args.keep.now list can t ts
    c.args.tokens.now.items c.args.progress so c.in-Some.node at
    c.after-position.ensures.0 c.after-position.result entry.0 c.count_after-count.result c.skip_next-gap.result
    c.after-position.ensures.1 c.after-position.ensures.2 entry.1 (c.count_after-count.ensures entry.0 entry.1
    ∙ ap (λ (l : List ℕ). length (within entry.0.first entry.0.end (drop c.args.progress.gap.to l))) c.deref.ensures.value)
    (flag_known c.args.keep.now c.args.progress.elements _ false c.if-keep-progress.false (flag c.args.tree.now c.tree_laws.ensures
    c.nodes-nodes.ensures.whole c.args.self.now c.requires.of c.args.keep.now list can t ts
    c.args.tokens.now.items c.args.progress so c.in-Some.node at))
    c.skip_next-gap.ensures.from c.skip_next-gap.ensures.to
