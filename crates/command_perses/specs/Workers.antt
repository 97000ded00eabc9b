-- Workers that haven't begun.
use Rattle.std.specs.Prelude.{◌≡◌, All, List, None, length, map}
use Rattle.std.specs.List.{range_with_len}
use Rattle.worker_pool.specs.declared.worker.Worker.{Worker}

-- They are numbered from 1 in order, and none has a seat.
pub record AreNumbered {G : Type 0} (workers : List (Worker G)) : Type 0 where
  pub numbered : map (λ w. w.number) workers ≡ range_with_len 1 (length workers)
  pub unseated : All (λ w. w.seat ≡ None) workers
