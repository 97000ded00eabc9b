use Rattle.std.proofs.Common.{◌++◌, ◌∷◌, [], sym, ap, ◌∙◌, subst}
use Rattle.chart_parser_ends.specs.inner.Ranges.{IsNumbered}
use Rattle.chart_parser_ends.proofs.Numbered.{numbered_more}
use Rattle.chart_parser_ends.proofs.entries.add_numbered.Goals as goal

pub returns-clause-numbered : goal.returns-clause-numbered
returns-clause-numbered c = λ numbered.
    let ranges = c.args.ranges.now.items in
    let pushed = rw c.unwrap.ensures at c.push.ensures.items in
    subst (λ rs. IsNumbered rs c.insert.new.self) (sym (pushed ∙ ap (λ rs. rs ++ c.args.range ∷ []) c.reserve.ensures.items))
    (numbered_more ranges c.args.numbers.now c.insert.new.self c.args.range c.len-number.result
    (c.len-number.ensures ∙ c.args.ranges.now.ok.0) c.in_ok-insert.ensures.updates.0 numbered)
