-- Workers that are made one after another.
use Rattle.std.proofs.Common.{◌≡◌, ◌+◌, ◌++◌, ◌∙◌, arith, ℕ, zero, suc, List, [], ◌∷◌, None, length, refl, sym, ap}
use Rattle.std.proofs.lemmas.List.{length-append, map-append}
use Rattle.std.proofs.lemmas.List.Elements.{All-nil, All-push}
use Rattle.std.specs.List.{range_with_len}
use Rattle.run_gated.specs.Workers.{AreIdle}
use Rattle.worker_pool.specs.declared.worker.Worker.{Worker}
use Rattle.command_perses.specs.Workers.{AreNumbered}

range_more : (a n : ℕ) → range_with_len a (suc n) ≡ range_with_len a n ++ ((a + n) ∷ [])
range_more a zero = let same : a ≡ a + zero = omega arith in ap (λ (b : ℕ). b ∷ []) same
range_more a (suc n) = let same : a + 1 + n ≡ a + suc n =
    omega arith in ap (λ (ns : List ℕ). a ∷ ns) (range_more (a + 1) n ∙ ap (λ (b : ℕ). range_with_len (a + 1) n ++ (b ∷ [])) same)

module _ {G : Type 0} where
  pub none_numbered : AreNumbered {G = G} []
  none_numbered = record { numbered = refl; unseated = All-nil (λ (w : Worker G). w.seat ≡ None) }

  -- one more
  pub one_numbered : (workers : List (Worker G)) (gate : G) (number : ℕ) → AreNumbered workers → number ≡ length workers + 1
      → AreNumbered (workers ++ (record { gate = gate; number = number; seat = None }) ∷ [])
  one_numbered workers gate number are is =
      let worker : Worker G = record { gate = gate; number = number; seat = None } in
      let same : number ≡ 1 + length workers = omega (arith, is) in
      let many : suc (length workers) ≡ length (workers ++ worker ∷ []) = let e = length-append workers (worker ∷ []) in omega (arith, e) in
      record {
        numbered =
            map-append (λ (w : Worker G). w.number) workers (worker ∷ []) ∙ ap (λ (ns : List ℕ). ns ++ (number ∷ [])) are.numbered
            ∙ ap (λ (n : ℕ). range_with_len 1 (length workers) ++ (n ∷ [])) same
            ∙ sym (range_more 1 (length workers)) ∙ ap (range_with_len 1) many;
        unseated = All-push (λ (w : Worker G). w.seat ≡ None) workers worker are.unseated refl;
      }

  -- 16 of them
  pub sixteen_idle : (workers : List (Worker G)) → AreNumbered workers → length workers ≡ 16 → AreIdle workers
  sixteen_idle workers are many = record { some = omega (arith, many); few = omega (arith, many); numbered = are.numbered; unseated = are.unseated }
