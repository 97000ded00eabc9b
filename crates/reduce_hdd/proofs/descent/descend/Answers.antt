use Rattle.std.proofs.Common.{ℕ, ◌+◌, ◌<◌, ◌^◌, true, List, length, ap, ◌∙◌, subst, arith}
use Rattle.list_ddmin.specs.Machine.{State, start}
use Rattle.syntax_tree.specs.Trees.{PlainTree}
use Rattle.syntax_tree.specs.Levels.{depth}
use Rattle.syntax_tree_cut.specs.Cuts.{cut_tree}
use Rattle.reduce_hdd.specs.inner.Passing.{HasPassed}
use Rattle.reduce_hdd.proofs.Bounds.{depth_fits, level_fits}
use Rattle.reduce_hdd.proofs.Descents.{at_next, begun_asking, begun_rest, deeper, descent_begins, descent_ends}
use Rattle.reduce_hdd.proofs.Descents.{descent_goes_on, fewer_below, next_rest, none_next, over_rest}
use Rattle.reduce_hdd.proofs.descent.descend.Goals as goal

pub loop-above-init : goal.loop-above-init
loop-above-init c = descent_begins c.args.tree.now.form (cut_tree c.args.tree.now c.args.cut.now) c.args.depth c.args.above c.requires.above

pub overflow_add-depth : goal.overflow_add-depth
overflow_add-depth c =
    let t : PlainTree = cut_tree c.args.tree.now c.args.cut.now in
    let is =
    at_next c.args.tree.now.form t c.loop-above.depth c.in_ok-level.field-0 c.in-Some.level
    (c.in_ok-level.ensures c.loop-above.depth c.loop-above.invariant.parents) c.in-Some.is in
    let small : length c.args.tree.now.nodes < 2 ^ 32 = let few = c.nodes-nodes.ensures.few in let same =
    ap length c.nodes-nodes.ensures.nodes in omega (arith, few, same) in
    let fits =
    depth_fits c.args.tree.now c.nodes-nodes.ensures.whole c.args.cut.now c.requires.of small (c.loop-above.depth + 1)
    (deeper c.args.tree.now.form t c.loop-above.depth c.in-Some.level is) in
    omega (arith, fits)

pub overflow_cast-nodes : goal.overflow_cast-nodes
overflow_cast-nodes c =
    let t : PlainTree = cut_tree c.args.tree.now c.args.cut.now in
    let is = at_next c.args.tree.now.form t c.loop-above.depth c.in_ok-level.field-0 c.in-Some.level
    (c.in_ok-level.ensures c.loop-above.depth c.loop-above.invariant.parents) c.in-Some.is in
    let small : length c.args.tree.now.nodes < 2 ^ 32 = let few =
    c.nodes-nodes.ensures.few in let same = ap length c.nodes-nodes.ensures.nodes in omega (arith, few, same) in
    let fits =
    level_fits c.args.tree.now c.nodes-nodes.ensures.whole c.args.cut.now c.requires.of small (c.loop-above.depth + 1) c.nodes.result.now
    (c.nodes.ensures ∙ is.nodes) in
    omega (arith, fits)

pub loop-above-smaller : goal.loop-above-smaller
loop-above-smaller c =
    let t : PlainTree = cut_tree c.args.tree.now c.args.cut.now in
    let is = at_next c.args.tree.now.form t c.loop-above.depth c.in_ok-level.field-0
    c.in-Some.level (c.in_ok-level.ensures c.loop-above.depth c.loop-above.invariant.parents) c.in-Some.is in
    fewer_below (depth t) c.loop-above.depth (deeper c.args.tree.now.form t c.loop-above.depth c.in-Some.level is)

pub loop-above-preserved : goal.loop-above-preserved
loop-above-preserved c =
    let t : PlainTree = cut_tree c.args.tree.now c.args.cut.now in
    let is = at_next c.args.tree.now.form t c.loop-above.depth
    c.in_ok-level.field-0 c.in-Some.level (c.in_ok-level.ensures c.loop-above.depth c.loop-above.invariant.parents) c.in-Some.is in
    let so = subst (λ (s : State). HasPassed c.args.tree.now.form t c.in-Some.level.nodes s c.pass_refused.new.step c.pass_refused.result)
    (c.in_ok-step.ensures ∙ ap (λ (ns : List ℕ). start (length ns) true) c.nodes.ensures) c.pass_refused.ensures in
    descent_goes_on c.args.tree.now.form t c.args.depth c.loop-above.depth c.loop-above.above c.in-Some.level c.loop-above.invariant is
    (over_rest c.keeping_all_keeps_tree.ensures c.valid_trees_fill_pluses.ensures c.args.tree.now.form c.args.tree.now.start t c.requires.of.fits.valid
    (c.loop-above.depth + 1) c.in-Some.level is c.pass_refused.new.step c.pass_refused.result so c.if-pass_refused.false)

pub returns-then-pass_refused-clause-rest : goal.returns-then-pass_refused-clause-rest
returns-then-pass_refused-clause-rest c =
    let t : PlainTree = cut_tree c.args.tree.now c.args.cut.now in
    let is = at_next c.args.tree.now.form t c.loop-above.depth c.in_ok-level.field-0 c.in-Some.level (c.in_ok-level.ensures c.loop-above.depth
    c.loop-above.invariant.parents) c.in-Some.is in
    let so = subst (λ (s : State). HasPassed c.args.tree.now.form t c.in-Some.level.nodes s c.pass_refused.new.step c.pass_refused.result)
    (c.in_ok-step.ensures ∙ ap (λ (ns : List ℕ). start (length ns) true) c.nodes.ensures) c.pass_refused.ensures in
    begun_rest c.keeping_all_keeps_tree.ensures c.valid_trees_fill_pluses.ensures c.args.tree.now.form c.args.tree.now.start t c.requires.of.fits.valid
    (c.loop-above.depth + 1) c.in-Some.level is c.pass_refused.new.step c.pass_refused.result so
    ∙ next_rest c.args.tree.now.form t c.args.depth c.loop-above.depth c.loop-above.above c.loop-above.invariant

pub returns-then-pass_refused-clause-walking : goal.returns-then-pass_refused-clause-walking
returns-then-pass_refused-clause-walking c =
    let t : PlainTree = cut_tree c.args.tree.now c.args.cut.now in
    let is = at_next c.args.tree.now.form t c.loop-above.depth c.in_ok-level.field-0 c.in-Some.level (c.in_ok-level.ensures
    c.loop-above.depth c.loop-above.invariant.parents) c.in-Some.is in
    let so = subst (λ (s : State). HasPassed c.args.tree.now.form t c.in-Some.level.nodes s c.pass_refused.new.step c.pass_refused.result)
    (c.in_ok-step.ensures ∙ ap (λ (ns : List ℕ). start (length ns) true) c.nodes.ensures) c.pass_refused.ensures in
    begun_asking c.keeping_all_keeps_tree.ensures c.valid_trees_fill_pluses.ensures c.args.tree.now.form c.args.tree.now.start t c.requires.of.fits.valid
    (c.loop-above.depth + 1) c.in-Some.level is c.pass_refused.new.step c.pass_refused.result so
    c.if-pass_refused.true

pub returns-clause-rest : goal.returns-clause-rest
returns-clause-rest c =
    let t : PlainTree = cut_tree c.args.tree.now c.args.cut.now in
    descent_ends c.args.tree.now.form t c.args.depth c.loop-above.depth c.loop-above.above c.loop-above.invariant
    (none_next c.args.tree.now.form t c.loop-above.depth c.in_ok-level.field-0
    (c.in_ok-level.ensures c.loop-above.depth c.loop-above.invariant.parents) c.in_default.is)
