use Rattle.std.proofs.Common.{sym, subst}
use Rattle.std.proofs.lemmas.List.Filters.{dedup_is}
use Rattle.cert_check_texts.specs.inner.Reached.{AreSorted}
use Rattle.cert_check_texts.proofs.Sorting.{is_pair, same_pairs, sorted_once}
use Rattle.cert_check_texts.proofs.reached.sorted.Goals as goal

pub returns-clause-same : goal.returns-clause-same
returns-clause-same c =
    let moved = c.sort_unstable.new.self.items in
    same_pairs c.args.pairs.items moved c.dedup.new.self.items c.sort_unstable.ensures.permutation
    (dedup_is is_pair moved c.dedup.new.self.items c.dedup.ensures.filtered)

pub returns-clause-sorted : goal.returns-clause-sorted
returns-clause-sorted c =
    let moved = c.sort_unstable.new.self.items in
    subst AreSorted (sym (dedup_is is_pair moved c.dedup.new.self.items c.dedup.ensures.filtered)) (sorted_once moved c.sort_unstable.ensures.sorted)
