use Rattle.std.proofs.Common.{◌≡◌, length, sym, ◌∙◌, ap, subst, rules, arith, None, true}
use Rattle.list_ddmin.specs.Machine as list
use Rattle.list_ddmin.specs.ListStep.{kept_of}
use Rattle.reduce_core.specs.inner.Fields.{Agrees, IsInLimit}
use Rattle.reduce_core.proofs.Limits.{limit-lines_of}
use Rattle.reduce_core.proofs.RoundLemmas as lemmas
use Rattle.reduce_core.proofs.line_round.LineRound.new.Goals as goal

pub overflow_cast-len : goal.overflow_cast-len
overflow_cast-len g c =
    let few = (subst IsInLimit (sym c.requires.lines) (limit-lines_of c.args.start.now c.requires.short)).few in
    omega (arith, c.len.ensures)

pub invariant_of-result : goal.invariant_of-result
invariant_of-result g c =
    let step_is : c.in_ok-step.step ≡ list.start (length c.args.lines) true = search rules in
    record {
      agrees =
          subst (λ s. Agrees (g.F.Relation.admits c.args.guard.now) c.args.lines s None) (sym step_is)
          (lemmas.agrees-begun (record { admits = g.F.Relation.admits c.args.guard.now; start = c.args.start.now }) c.args.lines
          (subst IsInLimit (sym c.requires.lines) (limit-lines_of c.args.start.now c.requires.short)));
    }

pub returns-clause-state : goal.returns-clause-state
returns-clause-state g c =
    let step_is : c.in_ok-step.step ≡ list.start (length c.args.lines) true = search rules in
    ap (λ s. kept_of (list.kept s) c.args.lines) step_is ∙ lemmas.all-begun c.args.lines ∙ c.requires.lines
