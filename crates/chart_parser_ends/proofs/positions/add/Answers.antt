use Rattle.std.proofs.Common.{ℕ, ◌<◌, length, get_or, subst, sym, nat_cmp}
use Rattle.std.specs.List.Sorted.{IsStrictlyIncreasing, IsBinarySearchResult}
use Rattle.chart_parser_ends.specs.inner.Positions.{IsWith}
use Rattle.chart_parser_ends.proofs.Rising.{inserted, push_rises, pushed, search_missing}
use Rattle.chart_parser_ends.proofs.positions.add.Goals as goal

pub returns-in_ok-push-clause-rising : goal.returns-in_ok-push-clause-rising
returns-in_ok-push-clause-rising c =
    let xs = c.args.positions.now.items in
    let low = subst (λ l. (k : ℕ) → k < length l → get_or l k 0 < c.args.position) c.deref.ensures.value (c.is_past.ensures c.if-is_past.true) in
    subst IsStrictlyIncreasing (sym c.in_ok-push.ensures.items) (push_rises xs c.args.position c.requires low)

pub returns-in_ok-push-clause-with : goal.returns-in_ok-push-clause-with
returns-in_ok-push-clause-with c =
    subst (IsWith c.args.positions.now.items c.args.position) (sym c.in_ok-push.ensures.items) (pushed c.args.positions.now.items c.args.position)

pub returns-in_ok-insert-clause-rising : goal.returns-in_ok-insert-clause-rising
returns-in_ok-insert-clause-rising c =
    let value = c.deref-else-is_past.ensures.value in
    subst IsStrictlyIncreasing (sym c.in_ok-insert.ensures.items)
    (search_missing c.args.positions.now.items c.args.position c.binary_search.result c.in-Err.at
    (subst (λ l. IsBinarySearchResult (λ y. nat_cmp y c.args.position) l c.binary_search.result) value c.binary_search.ensures.position)
    c.requires c.in-Err.is)

pub returns-in_ok-insert-clause-with : goal.returns-in_ok-insert-clause-with
returns-in_ok-insert-clause-with c =
    subst (IsWith c.args.positions.now.items c.args.position) (sym c.in_ok-insert.ensures.items)
    (inserted c.args.positions.now.items c.in-Err.at c.args.position)
