use Rattle.std.proofs.Common.{refl, sym, ◌∙◌, false, true, ◌≡◌}
use Rattle.chart_parser.proofs.Alternatives.{content_absent, content_there}
use Rattle.chart_parser.proofs.choice.add_content.Goals as goal

pub returns-in_ok-push-clause-content : goal.returns-in_ok-push-clause-content
returns-in_ok-push-clause-content c =
    content_there c.args.chart.now.normal c.args.chart.now.kinds c.args.symbol c.args.part.first c.args.part.end _ c.args.parts.now.items c.push.new.self.items
    (c.in_ok-reaches.ensures.answer.0 c.if-branch.true) refl refl refl c.requires.none c.in_ok-push.ensures.items

false_true : false ≡ true → ⊥
false_true e = absurd (cc)

pub returns-else-branch-clause-content : goal.returns-else-branch-clause-content
returns-else-branch-clause-content c =
    content_absent c.args.chart.now.normal c.args.chart.now.kinds c.args.symbol c.args.part.first c.args.part.end c.args.parts.now.items c.requires.derived
    (λ d. false_true (sym c.if-branch.false ∙ c.in_ok-reaches.ensures.answer.1 d)) c.requires.none
