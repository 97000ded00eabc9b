use Rattle.std.proofs.Common.{◌≡◌, ◌+◌, ◌<◌, ◌++◌, ◌∷◌, [], length, set, sym, ap, ◌∙◌, subst, arith}
use Rattle.chart_parser_ends.specs.inner.Ranges.{AreLinked}
use Rattle.chart_parser_ends.proofs.Linked.{count, linked_more, linked_same}
use Rattle.chart_parser_ends.proofs.entries.add_chained.Goals as goal

pub returns-clause-linked : goal.returns-clause-linked
returns-clause-linked c linked =
    let ranges = c.args.ranges.now.items in
    let r = c.args.range in
    let longer = c.reach.new.last.items in
    let same = c.in_ok-reach.ensures.same in
    let still = linked_same ranges c.args.last.now.items longer same linked in
    let earlier = c.requires.earlier ∙ sym (same r.first) in
    let within : r.first < length longer = omega (arith, c.in_ok-reach.ensures.len, c.reach.new.last.ok.0) in
    let pushed = c.in_ok-push.ensures.items in
    let more = linked_more ranges longer r still earlier within in
    let long : c.len.result ≡ length ranges + 1 =
    omega (arith, c.len.ensures, c.push.new.self.ok.0, ap length pushed, count ranges longer r still earlier) in
    subst (λ rs. AreLinked rs (set longer r.first c.len.result)) (sym pushed) (subst (λ n. AreLinked (ranges ++ r ∷ []) (set longer r.first n)) (sym long) more)
