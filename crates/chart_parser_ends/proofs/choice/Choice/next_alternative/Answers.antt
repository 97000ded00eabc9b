use Rattle.std.proofs.Common.{rules, subst}
use Rattle.std.specs.List.{Contains}
use Rattle.chart_parser_ends.specs.Positions.{HasAll, IsGrown}
use Rattle.chart_parser_ends.proofs.choice.Choice.next_alternative.Goals as goal

pub returns : goal.returns
returns c =
    let old = c.args.self.now in
    let new = c.add_all.new.positions.items in
    record {
      begins = search rules;
      rising = c.in_ok-add_all.ensures.rising;
      grown = subst (λ l. IsGrown (Contains l) old.ends.items new) c.deref.ensures.value c.in_ok-add_all.ensures.grown;
      all = subst (λ l. HasAll (Contains l) new) c.deref.ensures.value c.in_ok-add_all.ensures.all;
    }
