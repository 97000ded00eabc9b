use Rattle.std.proofs.Common.{◌<◌, ℕ, ap, is_some, length, slice_index_or, subst, sym, ◌∙◌}
use Rattle.ordered_commit.specs.Seats.{new_seat}
use Rattle.worker_pool.proofs.PoolLemmas.{back_free, back_numbers, taken}
use Rattle.worker_pool.proofs.pool.close.Goals as goal

pub take_all_back-requires-clause-had : goal.take_all_back-requires-clause-had
take_all_back-requires-clause-had g c = λ k d less.
    let had = c.requires.had k d (new_seat 0) less in
    ap is_some had.has

pub finish_first-requires-clause-numbers : goal.finish_first-requires-clause-numbers
finish_first-requires-clause-numbers g c =
    back_numbers c.args.seats.now c.take_all_back.new.seats c.args.workers.now c.requires.lengths c.take_all_back.ensures.seats c.requires.had
    c.take_all_back.ensures.each ∙ c.requires.numbers

pub finish_first-requires-clause-free : goal.finish_first-requires-clause-free
finish_first-requires-clause-free g c =
    back_free c.args.seats.now c.take_all_back.new.seats c.args.workers.now c.requires.lengths c.take_all_back.ensures.seats c.requires.had
    c.take_all_back.ensures.each

pub returns-clause-each : goal.returns-clause-each
returns-clause-each g c = λ i d e less.
    let at : i < length c.take_all_back.new.workers = subst (λ (n : ℕ). i < n) (sym c.take_all_back.ensures.workers) less in
    taken g.G.Gate.log g.G.Gate.faults (slice_index_or c.take_all_back.new.seats i e) (slice_index_or c.finish_first.new.seats i e)
    (slice_index_or c.args.workers.now i d) (slice_index_or c.take_all_back.new.workers i d) (slice_index_or c.finish_first.new.workers i d)
    (c.take_all_back.ensures.left i d less) (c.take_all_back.ensures.each i d e less) (c.finish_first.ensures.each i d e at)
