use Rattle.std.proofs.Common.{List, length, subst, sym, arith}
use Rattle.std.proofs.lemmas.List.Elements.{All-push}
use Rattle.std.specs.List.{All}
use Rattle.chart_parser_ends.specs.declared.work.Work.{Work}
use Rattle.chart_parser_ends.specs.inner.Working.{IsStep, IsStepOn, IsWork, first_of, rule_of}
use Rattle.chart_parser_ends.specs.inner.Entries.{entry}
use Rattle.chart_parser_ends.proofs.Going.{less_stored, less_waiting, stored, waits}
use Rattle.chart_parser_ends.proofs.work.go_on.Goals as goal

pub returns-in_ok-push-in-Needs-2-clause-stack : goal.returns-in_ok-push-in-Needs-2-clause-stack
returns-in_ok-push-in-Needs-2-clause-stack c =
    let P = IsWork c.args.table.now.input.normal c.args.table.now.input.kinds in
    let needs = subst (IsStep c.args.table.now.input.normal c.args.table.now.input.kinds) c.in-Needs.is c.in_ok-found.ensures.step in
    subst (All P) (sym {A = List Work} c.in_ok-push-in-Needs-2.ensures.items)
    (All-push P c.push.new.self.items c.in_ok-first_work-in-Needs.field-0
    (subst (All P) (sym {A = List Work} c.in_ok-push-in-Needs.ensures.items) (All-push P c.args.stack.now.items c.in-Needs.work c.requires.stack needs.0))
    c.in_ok-first_work-in-Needs.ensures.work)

pub returns-in_ok-store-in-Done-clause-kept : goal.returns-in_ok-store-in-Done-clause-kept
returns-in_ok-store-in-Done-clause-kept c =
    let found = c.in-Done.found in
    let is = subst (IsStepOn (rule_of c.args.work) (first_of c.args.work)) c.in-Done.is c.in_ok-found.ensures.same in
    stored c.args.table.now.entries c.store.new.self.entries c.args.stack.now.items c.args.work found.rule found.first found.ends.items is.0 is.1
    c.in_ok-store-in-Done.ensures.ok

pub returns-in_ok-push-in-Needs-2-clause-kept : goal.returns-in_ok-push-in-Needs-2-clause-kept
returns-in_ok-push-in-Needs-2-clause-kept c =
    waits c.args.table.now.entries c.args.stack.now.items c.push.new.self.items c.push-in-Needs.new.self.items c.args.work c.in-Needs.work
    c.in_ok-first_work-in-Needs.field-0 c.in_ok-push-in-Needs.ensures.items c.in_ok-push-in-Needs-2.ensures.items
    (subst (IsStepOn (rule_of c.args.work) (first_of c.args.work)) c.in-Needs.is c.in_ok-found.ensures.same)

pub returns-in_ok-store-in-Done-clause-less : goal.returns-in_ok-store-in-Done-clause-less
returns-in_ok-store-in-Done-clause-less c =
    let found = c.in-Done.found in
    less_stored c.args.table.now.entries c.store.new.self.entries (length c.args.stack.now.items) (entry found.rule found.first found.ends.items)
    c.in_ok-store-in-Done.ensures.ok c.in_ok-store-in-Done.ensures.few

pub returns-in_ok-push-in-Needs-2-clause-less : goal.returns-in_ok-push-in-Needs-2-clause-less
returns-in_ok-push-in-Needs-2-clause-less c =
    let with_it = c.push.new.self.items in
    let new = c.push-in-Needs.new.self in
    less_waiting c.args.table.now.entries c.args.stack.now.items with_it new.items c.in-Needs.work c.in_ok-first_work-in-Needs.field-0
    c.in_ok-push-in-Needs.ensures.items c.in_ok-push-in-Needs-2.ensures.items (omega (arith, new.ok))
