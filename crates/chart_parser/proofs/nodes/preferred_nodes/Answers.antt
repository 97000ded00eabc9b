use Rattle.std.proofs.Common.{ℕ, List, [], ◌∷◌, ◌++◌, ◌≡◌, None, get_or, length, refl, sym, ◌∙◌, ap, subst, arith}
use Rattle.std.specs.Prelude.{reverse}
use Rattle.std.proofs.lemmas.List.{nil_from_length}
use Rattle.std.proofs.lemmas.Option.{get_or_from_slice_get, slice_get_within}
use Rattle.chart_parser_ends.specs.Input.{ChartInput}
use Rattle.syntax_tree.specs.declared.node.Node.{Node}
use Rattle.chart_parser.specs.declared.part.Asked.{Asked}
use Rattle.chart_parser.specs.inner.Preorder.{AreBegun, AreDerived, leaf_node}
use Rattle.chart_parser.proofs.Asking.{reverse_pushed}
use Rattle.chart_parser.proofs.Preorder.{all_made, leaf_begun, token}
use Rattle.chart_parser.proofs.nodes.preferred_nodes.Goals as goal

pub loop-asked-init : goal.loop-asked-init
loop-asked-init c =
    let root : Asked = record { part = record { slot = c.args.start; first = 0; end = length c.args.kinds.now }; parent = None } in
    let turned = ap reverse c.in_ok-stack.ensures.items in (
      refl,
      omega (arith, c.new-nodes.ensures.len),
      subst (AreDerived c.args.chart.now.normal c.args.chart.now.kinds) (sym turned) (c.requires.derived, tt),
      subst (AreBegun c.args.chart.now.normal c.args.chart.now.kinds root c.new-nodes.result.items) (sym turned)
          (subst (λ (l : List Node). AreBegun c.args.chart.now.normal c.args.chart.now.kinds root l (root ∷ [])) (sym c.new-nodes.ensures.items)
          (λ others h. h)),
    )

pub add_rule_node-requires-clause-form : goal.add_rule_node-requires-clause-form
add_rule_node-requires-clause-form c = ap (λ (x : ChartInput). x.normal) c.loop-asked.invariant.0 ∙ c.requires.form

pub add_rule_node-requires-clause-derived : goal.add_rule_node-requires-clause-derived
add_rule_node-requires-clause-derived c =
    let N = c.args.chart.now.normal in
    let K = c.args.chart.now.kinds in
    let asked = c.in-Some.asked in
    let rest = reverse c.pop.new.self.items in
    let turned : reverse c.loop-asked.stack.items ≡ asked ∷ rest = ap reverse c.in-Some.ensures.items ∙ reverse_pushed c.pop.new.self.items asked in
    let derived = subst (AreDerived N K) turned c.loop-asked.invariant.2 in
    subst (λ (x : ChartInput). AreDerived x.normal x.kinds (asked ∷ rest)) (sym c.loop-asked.invariant.0) derived

pub loop-asked-preserved-in-Continue-branch-3 : goal.loop-asked-preserved-in-Continue-branch-3
loop-asked-preserved-in-Continue-branch-3 c =
    let root : Asked = record { part = record { slot = c.args.start; first = 0; end = length c.args.kinds.now }; parent = None } in
    let N = c.args.chart.now.normal in
    let K = c.args.chart.now.kinds in
    let asked = c.in-Some.asked in
    let rest = reverse c.pop.new.self.items in
    let turned : reverse c.loop-asked.stack.items ≡ asked ∷ rest = ap reverse c.in-Some.ensures.items ∙ reverse_pushed c.pop.new.self.items asked in
    let derived = subst (AreDerived N K) turned c.loop-asked.invariant.2 in
    let begun = subst (AreBegun N K root c.loop-asked.nodes.items) turned c.loop-asked.invariant.3 in
    let same = c.loop-asked.invariant.0 in
    let node = c.in_ok-add_rule_node-in-Rule.ensures in
    let stack = reverse c.add_rule_node.new.stack.items in
    let nodes = c.add_rule_node.new.nodes.items in
    let before = subst (λ (x : ChartInput). AreBegun x.normal x.kinds root c.loop-asked.nodes.items (asked ∷ rest)) (sym same) begun in (
      node.same ∙ same,
      omega (arith, node.count, c.in_ok-within.ensures.within, c.len.ensures),
      subst (λ (x : ChartInput). AreDerived x.normal x.kinds stack) same node.derived,
      subst (λ (x : ChartInput). AreBegun x.normal x.kinds root nodes stack) same (node.begun root before),
    )

pub leaf_of-requires : goal.leaf_of-requires
leaf_of-requires c =
    let N = c.args.chart.now.normal in
    let K = c.args.chart.now.kinds in
    let asked = c.in-Some.asked in
    let rest = reverse c.pop.new.self.items in
    let turned : reverse c.loop-asked.stack.items ≡ asked ∷ rest = ap reverse c.in-Some.ensures.items ∙ reverse_pushed c.pop.new.self.items asked in
    let derived = subst (AreDerived N K) turned c.loop-asked.invariant.2 in
    let is = token N K (c.spans_by_form.ensures N K) asked.part.slot asked.part.first asked.part.end c.in_default-slot.not-Rule derived.0 in
    omega (arith, slice_get_within K asked.part.first is.kind is.at, ap length c.requires.kinds)

pub loop-asked-preserved : goal.loop-asked-preserved
loop-asked-preserved c =
    let root : Asked = record { part = record { slot = c.args.start; first = 0; end = length c.args.kinds.now }; parent = None } in
    let N = c.args.chart.now.normal in
    let K = c.args.chart.now.kinds in
    let asked = c.in-Some.asked in
    let rest = reverse c.pop.new.self.items in
    let turned : reverse c.loop-asked.stack.items ≡ asked ∷ rest = ap reverse c.in-Some.ensures.items ∙ reverse_pushed c.pop.new.self.items asked in
    let derived = subst (AreDerived N K) turned c.loop-asked.invariant.2 in
    let begun = subst (AreBegun N K root c.loop-asked.nodes.items) turned c.loop-asked.invariant.3 in
    let is = token N K (c.spans_by_form.ensures N K) asked.part.slot asked.part.first asked.part.end c.in_default-slot.not-Rule derived.0 in
    let nodes = c.loop-asked.nodes.items in
    let kind : get_or c.args.kinds.now asked.part.first 0 ≡ is.kind =
    ap (λ (l : List ℕ). get_or l asked.part.first 0) (sym c.requires.kinds) ∙ get_or_from_slice_get K asked.part.first is.kind 0 is.at in
    let node : c.leaf_of.result ≡ leaf_node asked is.kind = c.leaf_of.ensures ∙ ap (leaf_node asked) kind in
    let made = leaf_begun N K c.preferred_trees_are_valid.ensures root asked is.kind nodes rest (is.leaf (length nodes)) is.end begun in
    let items = c.in_ok-push-in_default-slot.ensures.items ∙ ap (λ (x : Node). nodes ++ x ∷ []) node in (
      c.loop-asked.invariant.0,
      omega (arith, c.in_ok-push-in_default-slot.ensures.len, c.in_ok-within.ensures.within, c.len.ensures),
      derived.1,
      subst (λ (l : List Node). AreBegun N K root l rest) (sym items) made,
    )

pub returns-clause-tree : goal.returns-clause-tree
returns-clause-tree c =
    let root : Asked = record { part = record { slot = c.args.start; first = 0; end = length c.args.kinds.now }; parent = None } in
    let none : c.loop-asked.stack.items ≡ [] = nil_from_length c.loop-asked.stack.items (omega (arith, c.in_default.ensures.cases.0, c.loop-asked.stack.ok)) in
    all_made c.args.chart.now.normal c.args.chart.now.kinds c.preferred_trees_are_valid.ensures c.args.start (length c.args.kinds.now) c.loop-asked.nodes.items
    (subst (AreBegun c.args.chart.now.normal c.args.chart.now.kinds root c.loop-asked.nodes.items) (ap reverse none) c.loop-asked.invariant.3)
