use Rattle.std.proofs.Common.{List, [], ◌++◌, ◌≡◌, map, sym, ◌∙◌, ap, arith}
use Rattle.std.specs.Prelude.{reverse}
use Rattle.std.proofs.lemmas.List.{nil_from_length}
use Rattle.chart_parser.specs.declared.part.Asked.{Asked}
use Rattle.chart_parser.specs.declared.part.Part.{Part}
use Rattle.chart_parser.specs.inner.Preorder.{below}
use Rattle.chart_parser.proofs.Asking.{asked_one, none_asked}
use Rattle.chart_parser.proofs.nodes.ask_for.Goals as goal

pub loop-part-preserved : goal.loop-part-preserved
loop-part-preserved c =
    let q = c.args.parent in
    let p = c.in-Some.part in
    let xs = c.pop.new.self.items in
    let stack = c.loop-part.stack.items in
    ap (λ (l : List Asked). l ++ reverse (map (below q) xs)) c.in_ok-push.ensures.items
    ∙ asked_one q stack xs p
    ∙ ap (λ (l : List Part). stack ++ reverse (map (below q) l)) (sym c.in-Some.ensures.items)
    ∙ c.loop-part.invariant

pub returns : goal.returns
returns c =
    let none : c.loop-part.parts.items ≡ [] = nil_from_length c.loop-part.parts.items (omega (arith, c.in_default.ensures.cases.0, c.loop-part.parts.ok)) in
    sym (none_asked c.args.parent c.loop-part.stack.items c.loop-part.parts.items none) ∙ c.loop-part.invariant
