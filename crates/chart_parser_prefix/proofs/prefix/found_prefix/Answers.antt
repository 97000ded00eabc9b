use Rattle.std.proofs.Common.{List, arith, subst, ◌↔◌, ◌∙◌}
use Rattle.chart_parser_ends.specs.Input.{ChartInput}
use Rattle.chart_parser_ends.specs.Positions.{HasExactly}
use Rattle.chart_parser_prefix.proofs.Growing.{read_at}
use Rattle.chart_parser_prefix.proofs.Walking.{all_following, derived_to, walk_begins}
use Rattle.chart_parser_prefix.specs.inner.Following.{IsTokenOfOne}
use Rattle.normal_form.specs.declared.normal.Sym.{Sym}
use Rattle.normal_form.specs.Spans.{DerivesSpan}
use Rattle.std.specs.Prelude.{IsTrue}
use Rattle.chart_parser_prefix.proofs.prefix.found_prefix.Goals as goal

pub add_at-requires : goal.add_at-requires
add_at-requires c = omega (arith, c.in_ok-lists.ensures.count)

pub longest-requires-clause-walk : goal.longest-requires-clause-walk
longest-requires-clause-walk c =
    let N = c.args.search.now.normal.now in
    let K = c.args.search.now.kinds.now in
    let start = c.args.search.now.start in
    walk_begins N K start c.in_ok-lists.lists.items c.add_at.new.lists.items c.in_ok-lists.ensures.count c.in_ok-lists.ensures.empty
    c.in_ok-add_at.ensures.grown c.in_ok-add_at.ensures.all

pub longest-requires-clause-viable : goal.longest-requires-clause-viable
longest-requires-clause-viable c = c.requires.some

pub index-requires : goal.index-requires
index-requires c = omega (arith, c.in_ok-length.ensures.walk.count, c.in_ok-length.ensures.longest.within)

pub returns : goal.returns
returns c =
    let N = c.args.search.now.normal.now in
    let K = c.args.search.now.kinds.now in
    let start = c.args.search.now.start in
    let n = c.in_ok-length.length in
    let lists = c.longest.new.lists.items in
    let walk = c.in_ok-length.ensures.walk in
    let longest = c.in_ok-length.ensures.longest in
    let m = c.in_ok-may_end.may_end in
    let chart = c.in_ok-length.ensures.same ∙ c.in_ok-chart.ensures in
    let ends = subst (λ (x : ChartInput). IsTrue m ↔ DerivesSpan x.normal x.kinds start 0 n) chart c.in_ok-may_end.ensures.answer in
    let derived = derived_to N K start n longest.within in
    let at = c.deref.ensures.value ∙ read_at lists n c.index.result.now (omega (arith, walk.count, longest.within)) c.index.ensures in
    let found = c.in_ok-found.ensures in
    let exact = subst (λ (l : List Sym). HasExactly (IsTokenOfOne N l) found.all) at found.exact in
    record {
      longest = longest;
      ends = (λ t. derived.0 (ends.0 t), λ d. ends.1 (derived.1 d));
      following =
          record {
            all = found.all;
            exact = all_following N K start n lists walk c.in_ok-length.ensures.closed longest.within found.all exact;
            first = found.first;
            rest = found.rest;
          };
    }
