use Rattle.std.proofs.Common.{◌∙◌, sym, ap, subst}
use Rattle.syntax_tree.specs.Left.{IsRemainderOf}
use Rattle.syntax_tree.specs.Nodes.{whole}
use Rattle.syntax_tree.specs.Trees.{leaves}
use Rattle.syntax_tree.specs.Valid.{IsTreeFor}
use Rattle.syntax_tree_cut.specs.Cuts.{cut_tree}
use Rattle.reduce_walk.specs.WalkState.{WalkState}
use Rattle.reduce_perses.proofs.VisitLemmas.{left_at_end}
use Rattle.reduce_perses.proofs.tree_visits.TreeVisitsTreeWalk.left_tokens.Goals as goal

pub returns-clause-tokens : goal.returns-clause-tokens
returns-clause-tokens c =
    let tree = c.self.inside.tree.now in
    let t = cut_tree tree c.self.inside.cut in
    let left = left_at_end tree.form tree.start t c.self.inside.queue c.self.inside.visit c.self.invariant.visiting
    (ap (λ (w : WalkState). w.rest) c.self.view_is ∙ c.requires) in
    c.in_ok-tokens.ensures.tokens ∙ ap leaves (sym left) ∙ ap (λ (w : WalkState). leaves w.left) c.self.view_is

pub returns-clause-fits : goal.returns-clause-fits
returns-clause-fits c =
    let tree = c.self.inside.tree.now in
    let t = cut_tree tree c.self.inside.cut in
    let left = left_at_end tree.form tree.start t c.self.inside.queue c.self.inside.visit c.self.invariant.visiting
    (ap (λ (w : WalkState). w.rest) c.self.view_is ∙ c.requires) in
    subst (λ (w : WalkState). IsTreeFor w.tree.form w.tree.start w.left) c.self.view_is
    (subst (IsTreeFor tree.form tree.start) (sym left) c.self.invariant.of.fits)

pub returns-clause-part : goal.returns-clause-part
returns-clause-part c =
    let tree = c.self.inside.tree.now in
    let t = cut_tree tree c.self.inside.cut in
    let left = left_at_end tree.form tree.start t c.self.inside.queue c.self.inside.visit c.self.invariant.visiting
    (ap (λ (w : WalkState). w.rest) c.self.view_is ∙ c.requires) in
    subst (λ (w : WalkState). IsRemainderOf (whole w.tree) w.left) c.self.view_is
    (subst (IsRemainderOf (whole tree)) (sym left) c.self.invariant.of.part)

pub returns-in_err-tokens-clause-fits : goal.returns-in_err-tokens-clause-fits
returns-in_err-tokens-clause-fits c =
    let tree = c.self.inside.tree.now in
    let t = cut_tree tree c.self.inside.cut in
    let left = left_at_end tree.form tree.start t c.self.inside.queue c.self.inside.visit c.self.invariant.visiting
    (ap (λ (w : WalkState). w.rest) c.self.view_is ∙ c.requires) in
    subst (λ (w : WalkState). IsTreeFor w.tree.form w.tree.start w.left) c.self.view_is
    (subst (IsTreeFor tree.form tree.start) (sym left) c.self.invariant.of.fits)

pub returns-in_err-tokens-clause-part : goal.returns-in_err-tokens-clause-part
returns-in_err-tokens-clause-part c =
    let tree = c.self.inside.tree.now in
    let t = cut_tree tree c.self.inside.cut in
    let left = left_at_end tree.form tree.start t c.self.inside.queue c.self.inside.visit c.self.invariant.visiting
    (ap (λ (w : WalkState). w.rest) c.self.view_is ∙ c.requires) in
    subst (λ (w : WalkState). IsRemainderOf (whole w.tree) w.left) c.self.view_is
    (subst (IsRemainderOf (whole tree)) (sym left) c.self.invariant.of.part)
