use Rattle.std.proofs.Common.{Some, ap, ◌∙◌, subst, sym}
use Rattle.std.specs.Option.{option_map}
use Rattle.syntax_tree.specs.Trees.{leaves}
use Rattle.reduce_rounds.specs.Trials.{tried_state}
use Rattle.syntax_tree_cut.specs.Cuts.{cut_tree}
use Rattle.reduce_perses.specs.declared.visit.Visit.{Visit}
use Rattle.reduce_perses.specs.inner.VisitTrials.{visit_trials}
use Rattle.reduce_perses.specs.inner.Visiting.{IsVisit}
use Rattle.reduce_perses.proofs.DescendantsLemmas.{can_replace}
use Rattle.reduce_perses.proofs.VisitLemmas.{can_keep_asked, descendants_state, elements_state}
use Rattle.reduce_perses.proofs.visit.tokens_tried.Goals as goal

pub asked_tokens-requires-clause-can : goal.asked_tokens-requires-clause-can
asked_tokens-requires-clause-can c =
    can_keep_asked c.args.tree.now.form c.args.tree.now.start (cut_tree c.args.tree.now c.args.cut.now) c.requires.queue.0 c.in-Elements.list c.in-Elements.step
    (subst (IsVisit c.args.tree.now.form c.args.tree.now.start (cut_tree c.args.tree.now c.args.cut.now) c.requires.queue.0) c.in-Elements.is
    c.requires.queue.1)

pub returns-in_ok-tokens-in-Elements-clause-tokens : goal.returns-in_ok-tokens-in-Elements-clause-tokens
returns-in_ok-tokens-in-Elements-clause-tokens c queue is =
    let (t, has, are) = c.in_ok-tokens-in-Elements.ensures.tokens in
    ap (λ (v : Visit). option_map leaves (tried_state (visit_trials c.args.tree.now.form c.args.tree.now.start (cut_tree c.args.tree.now c.args.cut.now) queue
    v))) c.in-Elements.is
    ∙ ap (option_map leaves) (elements_state c.args.tree.now.form c.args.tree.now.start (cut_tree c.args.tree.now c.args.cut.now) queue c.in-Elements.list
    c.in-Elements.step
    (subst (IsVisit c.args.tree.now.form c.args.tree.now.start (cut_tree c.args.tree.now c.args.cut.now) queue) c.in-Elements.is is) t has)
    ∙ ap Some (sym are)

pub tokens_of_replacement-requires-clause-can : goal.tokens_of_replacement-requires-clause-can
tokens_of_replacement-requires-clause-can c =
    let is =
    subst (IsVisit c.args.tree.now.form c.args.tree.now.start (cut_tree c.args.tree.now c.args.cut.now) c.requires.queue.0) c.in-Descendants.is
    c.requires.queue.1 in
    can_replace c.args.tree.now.form c.args.tree.now.start
    (cut_tree c.args.tree.now c.args.cut.now) c.requires.queue.0 c.in-Descendants.node c.in-Descendants.found.items is.are_found c.in-Descendants.at is.within
    c.index.result.now c.index.result.now c.index.ensures

pub returns-in_ok-tokens-in-Descendants-clause-tokens : goal.returns-in_ok-tokens-in-Descendants-clause-tokens
returns-in_ok-tokens-in-Descendants-clause-tokens c queue is =
    let (t, has, are) = c.in_ok-tokens-in-Descendants.ensures.tokens in
    ap (λ (v : Visit). option_map leaves (tried_state (visit_trials c.args.tree.now.form c.args.tree.now.start (cut_tree c.args.tree.now c.args.cut.now) queue
    v))) c.in-Descendants.is
    ∙ ap (option_map leaves) (descendants_state c.args.tree.now.form c.args.tree.now.start (cut_tree c.args.tree.now c.args.cut.now) queue
    c.in-Descendants.node c.in-Descendants.found.items c.in-Descendants.at
    (subst (IsVisit c.args.tree.now.form c.args.tree.now.start (cut_tree c.args.tree.now c.args.cut.now) queue) c.in-Descendants.is is) c.index.result.now
    c.index.result.now c.index.ensures t has)
    ∙ ap Some (sym are)
