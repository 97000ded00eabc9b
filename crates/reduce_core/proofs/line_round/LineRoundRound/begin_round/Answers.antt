use Rattle.std.proofs.Common.{◌≡◌, length, sym, ◌∙◌, ap, subst, rules, arith, None, true}
use Rattle.list_ddmin.specs.Machine as list
use Rattle.list_ddmin.specs.ListStep.{kept_of}
use Rattle.reduce_core.specs.LineMode.{line_trials}
use Rattle.reduce_core.specs.inner.Fields.{Agrees, IsInLimit}
use Rattle.reduce_core.proofs.Limits.{limit-kept}
use Rattle.reduce_core.proofs.LineLaws.{line_lawful}
use Rattle.reduce_core.proofs.RoundLemmas as lemmas
use Rattle.reduce_core.proofs.line_round.LineRoundRound.begin_round.Goals as goal

pub overflow_cast-len : goal.overflow_cast-len
overflow_cast-len g c =
    let lines_are : c.in_ok-lines.lines ≡ kept_of (list.kept c.args.self.now.step) c.args.self.now.lines =
    c.in_ok-lines.ensures ∙ ap (λ k. kept_of k c.args.self.now.lines) c.kept.ensures in
    let limit : IsInLimit c.in_ok-lines.lines =
    subst IsInLimit (sym lines_are) (limit-kept (list.kept c.args.self.now.step) c.args.self.now.lines c.args.self.now.agrees.limit) in
    let few = limit.few in
    omega (arith, c.len.ensures)

pub ask-requires-clause-limit : goal.ask-requires-clause-limit
ask-requires-clause-limit g c =
    let lines_are : c.in_ok-lines.lines ≡ kept_of (list.kept c.args.self.now.step) c.args.self.now.lines = c.in_ok-lines.ensures
    ∙ ap (λ k. kept_of k c.args.self.now.lines) c.kept.ensures in
    subst IsInLimit (sym lines_are) (limit-kept (list.kept c.args.self.now.step) c.args.self.now.lines c.args.self.now.agrees.limit)

pub invariant_of-self-in-Break-branch-3 : goal.invariant_of-self-in-Break-branch-3
invariant_of-self-in-Break-branch-3 g c =
    let lines_are : c.in_ok-lines.lines ≡ kept_of (list.kept c.args.self.now.step) c.args.self.now.lines = c.in_ok-lines.ensures ∙ ap
    (λ k. kept_of k c.args.self.now.lines) c.kept.ensures in
    let step_is : c.in_ok-step.step ≡ list.start (length c.in_ok-lines.lines) true = search rules in
    let limit : IsInLimit c.in_ok-lines.lines = subst IsInLimit (sym lines_are)
    (limit-kept (list.kept c.args.self.now.step) c.args.self.now.lines c.args.self.now.agrees.limit) in
    record {
      agrees =
          subst (Agrees (g.F.Relation.admits c.args.self.now.guard.now) c.in_ok-lines.lines c.in_ok-step.step) (sym (search rules))
          (subst (λ s. Agrees (g.F.Relation.admits c.args.self.now.guard.now) c.in_ok-lines.lines s None) (sym step_is)
          (lemmas.agrees-begun (record { admits = g.F.Relation.admits c.args.self.now.guard.now; start = c.args.self.now.start.now }) c.in_ok-lines.lines
          limit));
    }

pub invariant_of-self-2 : goal.invariant_of-self-2
invariant_of-self-2 g c =
    let lines_are : c.in_ok-lines.lines ≡ kept_of
    (list.kept c.args.self.now.step) c.args.self.now.lines = c.in_ok-lines.ensures ∙ ap (λ k. kept_of k c.args.self.now.lines) c.kept.ensures in
    let step_is : c.in_ok-step.step ≡ list.start (length c.in_ok-lines.lines) true = search rules in
    let limit : IsInLimit c.in_ok-lines.lines = subst IsInLimit
    (sym lines_are) (limit-kept (list.kept c.args.self.now.step) c.args.self.now.lines c.args.self.now.agrees.limit) in
    record {
      agrees =
          lemmas.agrees-asked (record { admits = g.F.Relation.admits c.args.self.now.guard.now; start = c.args.self.now.start.now }) c.in_ok-lines.lines
          c.in_ok-step.step c.in_ok-self.field-0 (subst (λ s. Agrees (g.F.Relation.admits c.args.self.now.guard.now) c.in_ok-lines.lines s None) (sym step_is)
          (lemmas.agrees-begun (record { admits = g.F.Relation.admits c.args.self.now.guard.now; start = c.args.self.now.start.now }) c.in_ok-lines.lines
          limit)) c.in_ok-self.ensures;
    }

pub returns-clause-rest : goal.returns-clause-rest
returns-clause-rest g c =
    let lines_are : c.in_ok-lines.lines ≡ kept_of (list.kept c.args.self.now.step)
    c.args.self.now.lines = c.in_ok-lines.ensures ∙ ap (λ k. kept_of k c.args.self.now.lines) c.kept.ensures in
    let step_is : c.in_ok-step.step ≡ list.start (length c.in_ok-lines.lines) true = search rules in
    lemmas.rest-asked (record { admits = g.F.Relation.admits c.args.self.now.guard.now; start = c.args.self.now.start.now }) c.in_ok-lines.lines
    c.in_ok-step.step c.in_ok-self.field-0 c.in_ok-self.ensures
    ∙ ap (λ s. line_trials c.in_ok-lines.lines s) step_is ∙ ap (λ l. line_trials l (list.start (length l) true)) lines_are

pub returns-clause-state : goal.returns-clause-state
returns-clause-state g c =
    let lines_are : c.in_ok-lines.lines ≡ kept_of (list.kept c.args.self.now.step) c.args.self.now.lines = c.in_ok-lines.ensures ∙ ap (λ k.
    kept_of k c.args.self.now.lines) c.kept.ensures in
    let step_is : c.in_ok-step.step ≡ list.start (length c.in_ok-lines.lines) true = search rules in
    ap (λ s. kept_of (list.kept s) c.in_ok-lines.lines) step_is ∙ lemmas.all-begun c.in_ok-lines.lines ∙ lines_are

pub returns-clause-lawful : goal.returns-clause-lawful
returns-clause-lawful g c = line_lawful (record { admits = g.F.Relation.admits c.args.self.now.guard.now; start = c.args.self.now.start.now })
