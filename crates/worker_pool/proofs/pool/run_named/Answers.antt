use Rattle.std.proofs.Common.{◌≡◌, ◌<◌, ℕ, All, None, arith, false, ap, length, slice_index_or, subst, sym, ◌∙◌}
use Rattle.ordered_commit.specs.declared.seat.Seat.{Seat}
use Rattle.ordered_commit.proofs.Lent.{new_free, new_length, new_numbered}
use Rattle.worker_pool.proofs.PoolLemmas.{brought, done, new_empty, numbers}
use Rattle.worker_pool.proofs.pool.run_named.Goals as goal

pub work_all-requires-clause-lengths : goal.work_all-requires-clause-lengths
work_all-requires-clause-lengths g c κs within = c.requires.workers ∙ sym (ap length c.requires.seats ∙ new_length g.R.Run.run.workers)

pub work_all-requires-clause-free : goal.work_all-requires-clause-free
work_all-requires-clause-free g c κs within = subst (All (λ (s : Seat). s.claim ≡ None)) (sym c.requires.seats) (new_free g.R.Run.run.workers)

pub close-requires-clause-lengths : goal.close-requires-clause-lengths
close-requires-clause-lengths g c = c.work_all.ensures.lengths ∙ c.requires.workers ∙ sym (ap length c.requires.seats ∙ new_length g.R.Run.run.workers)

pub close-requires-clause-some : goal.close-requires-clause-some
close-requires-clause-some g c =
    let n : length c.args.seats.now ≡ g.R.Run.run.workers = ap length c.requires.seats ∙ new_length g.R.Run.run.workers in
    omega (arith, n, c.requires.some.0)

pub close-requires-clause-numbers : goal.close-requires-clause-numbers
close-requires-clause-numbers g c = ap numbers c.requires.seats ∙ new_numbered g.R.Run.run.workers

pub close-requires-clause-had : goal.close-requires-clause-had
close-requires-clause-had g c = λ i d e less.
    let at : i < length c.args.workers.now = subst (λ (n : ℕ). i < n) c.work_all.ensures.lengths less in
    brought g.G.Gate.log g.G.Gate.faults (slice_index_or c.args.seats.now i e) (slice_index_or c.args.workers.now i d)
    (slice_index_or c.work_all.new.workers i d) (c.work_all.ensures.each i d e at)

pub returns-clause-each : goal.returns-clause-each
returns-clause-each g c = λ i d e less.
    let mid : i < length c.work_all.new.workers = subst (λ (n : ℕ). i < n) (sym c.work_all.ensures.lengths) less in
    let seat : i < length c.args.seats.now =
    subst (λ (n : ℕ). i < n) (c.requires.workers ∙ sym (ap length c.requires.seats ∙ new_length g.R.Run.run.workers)) less in
    let empty : All (λ (s : Seat). (s.records ≡ 0) × (s.failed ≡ false)) c.args.seats.now =
    subst (All (λ (s : Seat). (s.records ≡ 0) × (s.failed ≡ false))) (sym c.requires.seats) (new_empty g.R.Run.run.workers) in
    done g.G.Gate.log g.G.Gate.faults (slice_index_or c.args.seats.now i e) (slice_index_or c.close.new.seats i e) (slice_index_or c.args.workers.now i d)
    (slice_index_or c.work_all.new.workers i d) (slice_index_or c.close.new.workers i d)
    (empty i e seat) (c.work_all.ensures.each i d e less) (c.close.ensures.each i d e mid)
