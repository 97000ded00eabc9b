use Rattle.std.proofs.Common.{refl, ◌∙◌}
use Rattle.chart_parser_prefix.proofs.Walking.{closed_none}
use Rattle.chart_parser_prefix.proofs.search.PrefixSearch.close.Goals as goal

pub loop-done-init : goal.loop-done-init
loop-done-init c =
    record {
      same = refl;
      walk = c.requires.walk;
      closed = closed_none c.args.self.now.normal.now c.args.self.now.kinds.now c.args.self.now.start c.args.position c.args.lists.now.items;
    }

pub predict_next-requires-clause-chart : goal.predict_next-requires-clause-chart
predict_next-requires-clause-chart c = c.loop-done.invariant.same ∙ c.requires.chart

pub loop-done-preserved : goal.loop-done-preserved
loop-done-preserved c =
    record {
      same = c.in_ok-predict_next.ensures.same
          ∙ c.loop-done.invariant.same;
      walk = c.in_ok-predict_next.ensures.walk;
      closed = c.in_ok-predict_next.ensures.more c.if-branch.true;
    }

pub returns-clause-closed : goal.returns-clause-closed
returns-clause-closed c = c.in_ok-predict_next.ensures.all c.if-branch.false
