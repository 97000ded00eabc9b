use Rattle.std.proofs.Common.{ℕ, List, [], ◌∷◌, ◌++◌, ◌≡◌, length, map, sym, ◌∙◌, ap, subst, arith}
use Rattle.std.specs.Prelude.{reverse}
use Rattle.syntax_tree.specs.declared.node.Node.{Node}
use Rattle.chart_parser.specs.inner.Preorder.{AreBegun, AreDerived, below, rule_node}
use Rattle.chart_parser.proofs.Asking.{on_ok, reverse_asked}
use Rattle.chart_parser.proofs.Preorder.{chain, children_derived, rule_begun}
use Rattle.chart_parser.proofs.nodes.add_rule_node.Goals as goal

pub returns-clause-derived : goal.returns-clause-derived
returns-clause-derived c =
    let ps = c.rule_parts.new.parts.items in
    let later = reverse c.args.stack.now.items in
    let q = c.len-number.result in
    let i = c.args.asked.part.first in
    let j = c.args.asked.part.end in
    let derived =
    children_derived c.args.chart.now.normal c.args.chart.now.kinds q i j ps later
    (chain c.args.chart.now.normal c.args.chart.now.kinds c.args.rule c.in_ok-alt.alt i j ps c.in_ok-alt.ensures.parts) c.requires.derived.1 in
    on_ok c.ask_for.result (c.ask_for.new.stack.items ≡ c.args.stack.now.items ++ reverse (map (below q) ps))
    (AreDerived c.args.chart.now.normal c.args.chart.now.kinds (reverse c.ask_for.new.stack.items))
    (λ e. subst (AreDerived c.args.chart.now.normal c.args.chart.now.kinds)
    (sym (ap reverse e ∙ reverse_asked c.args.stack.now.items (map (below q) ps))) derived) c.ask_for.ensures

pub returns-clause-begun : goal.returns-clause-begun
returns-clause-begun c root begun =
    let ps = c.rule_parts.new.parts.items in
    let later = reverse c.args.stack.now.items in
    let q = c.len-number.result in
    let nodes = c.args.nodes.now.items in
    let number : length nodes ≡ q = omega (arith, c.len-number.ensures, c.args.nodes.now.ok) in
    let count : length ps ≡ c.len-count.result = omega (arith, c.len-count.ensures, c.rule_parts.new.parts.ok) in
    let made =
    rule_begun c.args.chart.now.normal c.args.chart.now.kinds c.preferred_trees_are_valid.ensures root c.args.asked c.args.rule c.in_ok-alt.alt ps nodes later
    c.requires.slot c.in_ok-alt.ensures.parts begun in
    let asked =
    subst (λ (n : ℕ). AreBegun c.args.chart.now.normal c.args.chart.now.kinds root (nodes ++ rule_node c.args.asked c.in_ok-alt.alt (length ps) ∷ [])
    (map (below n) ps ++ later)) number made in
    let counted =
    subst (λ (n : ℕ). AreBegun c.args.chart.now.normal c.args.chart.now.kinds root (nodes ++ rule_node c.args.asked c.in_ok-alt.alt n ∷ [])
    (map (below q) ps ++ later)) count asked in
    let put =
    subst (λ (l : List Node). AreBegun c.args.chart.now.normal c.args.chart.now.kinds root l (map (below q) ps ++ later))
    (sym c.in_ok-push.ensures.items) counted in
    on_ok c.ask_for.result (c.ask_for.new.stack.items ≡ c.args.stack.now.items ++ reverse (map (below q) ps))
    (AreBegun c.args.chart.now.normal c.args.chart.now.kinds root c.push.new.self.items (reverse c.ask_for.new.stack.items))
    (λ e. subst (AreBegun c.args.chart.now.normal c.args.chart.now.kinds root c.push.new.self.items)
    (sym (ap reverse e ∙ reverse_asked c.args.stack.now.items (map (below q) ps))) put) c.ask_for.ensures
