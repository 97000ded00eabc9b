use Rattle.std.proofs.Common.{◌≡◌, ◌∙◌, ℕ, List, ap, get_or, length, refl, arith}
use Rattle.std.proofs.lemmas.Result.{on_err_weaker, on_ok_weaker}
use Rattle.chart_parser_ends.specs.declared.entries.EndsRange.{EndsRange}
use Rattle.chart_parser_ends.proofs.Pooled.{entry_added, none_added, within_added}
use Rattle.chart_parser_ends.proofs.entries.Entries.store.Goals as goal

abbrev new_range : (rule first from count earlier depth : ℕ) → EndsRange
new_range rule first from count earlier depth = record { rule = rule; first = first; from = from; count = count; earlier = earlier; depth = depth }

pub invariant_of-self-2 : goal.invariant_of-self-2
invariant_of-self-2 c =
    let ends = c.self.inside.ends.items in
    let more = c.args.ends.now in
    let rs = c.self.inside.ranges.items in
    let items = rw c.in_ok-extend_from_slice.was at c.extend_from_slice.ensures.items in
    let r = new_range c.args.rule c.args.first c.len-from.result (length more) c.link_at-earlier.result c.depth_after.result in
    let from : c.len-from.result ≡ length ends = omega (arith, c.len-from.ensures, c.self.inside.ends.ok.0) in
    record {
      within =
          within_added ends more c.extend_from_slice.new.self.items rs c.add_range.new.ranges.items r items c.self.invariant.within from refl c.add_range.result
          c.add_range.ensures.added.ok c.add_range.ensures.added.err;
      linked = c.add_range.ensures.linked c.self.invariant.linked;
      numbered = c.add_range.ensures.numbered c.self.invariant.numbered;
    }

pub returns-clause-ok : goal.returns-clause-ok
returns-clause-ok c =
    let ends = c.self.inside.ends.items in
    let more = c.args.ends.now in
    let rs = c.self.inside.ranges.items in
    let items = rw c.in_ok-extend_from_slice.was at c.extend_from_slice.ensures.items in
    let r = new_range c.args.rule c.args.first c.len-from.result (length more) c.link_at-earlier.result c.depth_after.result in
    let from : c.len-from.result ≡ length ends = omega (arith, c.len-from.ensures, c.self.inside.ends.ok.0) in
    on_ok_weaker c.add_range.result
    (entry_added ends more c.extend_from_slice.new.self.items rs c.add_range.new.ranges.items r items c.self.invariant.within from refl c.args.self.now
    c.self.view_is) c.add_range.ensures.added.ok

pub returns-clause-err : goal.returns-clause-err
returns-clause-err c =
    let ends = c.self.inside.ends.items in
    let more = c.args.ends.now in
    let rs = c.self.inside.ranges.items in
    let items = rw c.in_ok-extend_from_slice.was at c.extend_from_slice.ensures.items in
    let r = new_range c.args.rule c.args.first c.len-from.result (length more) c.link_at-earlier.result c.depth_after.result in
    let from : c.len-from.result ≡ length ends = omega (arith, c.len-from.ensures, c.self.inside.ends.ok.0) in
    on_err_weaker c.add_range.result
    (none_added ends more c.extend_from_slice.new.self.items rs c.add_range.new.ranges.items r items c.self.invariant.within from refl c.args.self.now
    c.self.view_is) c.add_range.ensures.added.err

pub depth_after-requires : goal.depth_after-requires
depth_after-requires c =
    let link = c.link_at-earlier.ensures ∙ ap (λ (last : List ℕ). get_or last c.args.first 0) c.deref.ensures.value in
    omega (arith, (c.self.invariant.linked.links c.args.first).bound, link, ap length c.deref-2.ensures.value)
