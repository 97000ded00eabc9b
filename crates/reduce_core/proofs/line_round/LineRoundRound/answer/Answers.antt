use Rattle.std.proofs.Common.{sym, ◌∙◌, ap, subst, rules, None}
use Rattle.list_ddmin.specs.Machine as list
use Rattle.list_ddmin.specs.ListStep.{kept_of}
use Rattle.reduce_core.specs.LineMode.{line_trials}
use Rattle.reduce_core.specs.inner.Fields.{Agrees}
use Rattle.reduce_core.proofs.RoundLemmas as lemmas
use Rattle.reduce_core.proofs.line_round.LineRoundRound.answer.Goals as goal

pub ask-requires-clause-same : goal.ask-requires-clause-same
ask-requires-clause-same g c =
    (subst (λ s. Agrees (g.F.Relation.admits c.args.self.now.guard.now) c.args.self.now.lines s None) (sym c.answer.ensures)
    (lemmas.agrees-after (record { admits = g.F.Relation.admits c.args.self.now.guard.now; start = c.args.self.now.start.now }) c.args.self.now.lines
    c.args.self.now.step c.args.self.now.asked c.args.yes c.args.self.now.agrees)).same

pub invariant_of-self : goal.invariant_of-self
invariant_of-self g c =
    record {
      agrees =
          subst (Agrees (g.F.Relation.admits c.args.self.now.guard.now) c.args.self.now.lines c.answer.new.self) (sym (search rules))
          (subst (λ s. Agrees (g.F.Relation.admits c.args.self.now.guard.now) c.args.self.now.lines s None) (sym c.answer.ensures)
          (lemmas.agrees-after (record { admits = g.F.Relation.admits c.args.self.now.guard.now; start = c.args.self.now.start.now }) c.args.self.now.lines
          c.args.self.now.step c.args.self.now.asked c.args.yes c.args.self.now.agrees));
    }

pub invariant_of-self-2 : goal.invariant_of-self-2
invariant_of-self-2 g c =
    record {
      agrees =
          lemmas.agrees-asked (record { admits = g.F.Relation.admits c.args.self.now.guard.now; start = c.args.self.now.start.now }) c.args.self.now.lines
          c.answer.new.self c.in_ok-self.field-0 (subst (λ s. Agrees (g.F.Relation.admits c.args.self.now.guard.now) c.args.self.now.lines s None)
          (sym c.answer.ensures) (lemmas.agrees-after
          (record { admits = g.F.Relation.admits c.args.self.now.guard.now; start = c.args.self.now.start.now }) c.args.self.now.lines c.args.self.now.step
          c.args.self.now.asked c.args.yes c.args.self.now.agrees)) c.in_ok-self.ensures;
    }

pub returns-clause-rest : goal.returns-clause-rest
returns-clause-rest g c =
    lemmas.rest-asked (record { admits = g.F.Relation.admits c.args.self.now.guard.now; start = c.args.self.now.start.now }) c.args.self.now.lines
    c.answer.new.self c.in_ok-self.field-0 c.in_ok-self.ensures
    ∙ ap (λ s. line_trials c.args.self.now.lines s) c.answer.ensures
    ∙ lemmas.trials-now (record { admits = g.F.Relation.admits c.args.self.now.guard.now; start = c.args.self.now.start.now }) c.args.self.now.lines
    c.args.self.now.step c.args.self.now.asked c.args.yes c.args.self.now.agrees c.requires

pub returns-clause-state : goal.returns-clause-state
returns-clause-state g c =
    ap (λ s. kept_of (list.kept s) c.args.self.now.lines) c.answer.ensures
    ∙ lemmas.kept-now (record { admits = g.F.Relation.admits c.args.self.now.guard.now; start = c.args.self.now.start.now }) c.args.self.now.lines
    c.args.self.now.step c.args.self.now.asked c.args.yes c.args.self.now.agrees c.requires
