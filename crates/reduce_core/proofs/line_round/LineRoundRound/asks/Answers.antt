use Rattle.std.proofs.Common.{◌≤◌, length, sym, ◌∙◌, ap, subst, Some}
use Rattle.reduce_step.specs.Limits.{text_limit}
use Rattle.reduce_rounds.specs.Fields.{text_if}
use Rattle.reduce_core.proofs.RoundLemmas as lemmas
use Rattle.reduce_core.proofs.line_round.LineRoundRound.asks.Goals as goal

pub returns-then-question-clause-text : goal.returns-then-question-clause-text
returns-then-question-clause-text g c =
    ap (λ t. Some t) c.as_slice.ensures.value ∙ ap (λ b. text_if b c.in-Some.question.candidate.text.items) (sym c.if-question.true)
    ∙ sym (lemmas.asks-now (record { admits = g.F.Relation.admits c.args.self.now.guard.now; start = c.args.self.now.start.now }) c.args.self.now.lines
    c.args.self.now.step c.args.self.now.asked c.in-Some.question c.args.self.now.agrees c.in-Some.is)

pub returns-then-question-clause-short : goal.returns-then-question-clause-short
returns-then-question-clause-short g c =
    subst (λ t. length t ≤ text_limit) (sym c.as_slice.ensures.value)
    (lemmas.short-now (record { admits = g.F.Relation.admits c.args.self.now.guard.now; start = c.args.self.now.start.now }) c.args.self.now.lines
    c.args.self.now.step c.args.self.now.asked c.in-Some.question c.args.self.now.agrees c.in-Some.is)

pub returns-else-question-clause-text : goal.returns-else-question-clause-text
returns-else-question-clause-text g c =
    ap (λ b. text_if b c.in-Some.question.candidate.text.items) (sym c.if-question.false)
    ∙ sym (lemmas.asks-now (record { admits = g.F.Relation.admits c.args.self.now.guard.now; start = c.args.self.now.start.now })
    c.args.self.now.lines c.args.self.now.step c.args.self.now.asked c.in-Some.question c.args.self.now.agrees c.in-Some.is)
