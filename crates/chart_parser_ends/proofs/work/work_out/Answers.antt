use Rattle.std.proofs.Common.{◌≡◌, ℕ, ◌+◌, ◌<◌, List, [], ◌∷◌, length, length-append, ◌∙◌, refl, sym, ap, subst, arith}
use Rattle.std.proofs.lemmas.List.{nil_from_length}
use Rattle.std.proofs.lemmas.List.Elements.{All-push}
use Rattle.std.specs.List.{All}
use Rattle.chart_parser_ends.specs.Input.{ChartInput}
use Rattle.chart_parser_ends.specs.declared.work.Work.{Work}
use Rattle.chart_parser_ends.specs.inner.UnderWay.{IsUnderWay, work_left}
use Rattle.chart_parser_ends.specs.inner.Working.{IsWork}
use Rattle.chart_parser_ends.proofs.Going.{ended, on_stack}
use Rattle.chart_parser_ends.proofs.work.work_out.Goals as goal

pub loop-work-init : goal.loop-work-init
loop-work-init c =
    let P = IsWork c.args.table.now.input.normal c.args.table.now.input.kinds in
    let empty = c.new-stack.result.items in
    record {
      same = refl;
      works =
          subst (All P) (sym {A = List Work} c.in_ok-push.ensures.items)
          (All-push P empty c.in_ok-first_work.field-0 (subst (All P) (sym c.new-stack.ensures.items) (λ k d l. absurd (omega (arith, l))))
          c.in_ok-first_work.ensures.work);
      under_way =
          on_stack c.args.table.now.entries empty c.push.new.self.items c.in_ok-first_work.field-0 c.args.rule c.args.first c.in_ok-push.ensures.items
          c.in_ok-first_work.ensures.on;
    }

pub loop-work-preserved : goal.loop-work-preserved
loop-work-preserved c = record {
  same = c.in_ok-go_on.ensures.same ∙ c.loop-work.invariant.same;
  works =
      subst (λ (x : ChartInput). All (IsWork x.normal x.kinds) c.go_on.new.stack.items) (sym c.in_ok-go_on.ensures.same) c.in_ok-go_on.ensures.stack;
  under_way =
      c.in_ok-go_on.ensures.kept c.args.rule c.args.first
      (subst (λ works. IsUnderWay c.loop-work.table.entries works c.args.rule c.args.first) c.in-Some.ensures.items c.loop-work.invariant.under_way);
}

pub returns-clause-there : goal.returns-clause-there
returns-clause-there c =
    ended c.loop-work.table.entries c.loop-work.stack.items c.args.rule c.args.first
    (nil_from_length c.loop-work.stack.items (omega (arith, c.in_default.ensures.cases.0, c.loop-work.stack.ok))) c.loop-work.invariant.under_way

pub loop-work-smaller : goal.loop-work-smaller
loop-work-smaller c =
    let rest = c.pop.new.self.items in
    let count : length c.loop-work.stack.items ≡ length rest + 1 = ap length c.in-Some.ensures.items ∙ length-append rest (c.in-Some.work ∷ []) in
    subst (λ (n : ℕ). work_left c.go_on.new.table.entries (length c.go_on.new.stack.items) < work_left c.loop-work.table.entries n) (sym count)
    c.in_ok-go_on.ensures.less
