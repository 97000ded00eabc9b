-- The trials of a list step over three elements, worked out by hand.
use Rattle.std.specs.Prelude.{◌≡◌, ℕ, true, List, [], ◌∷◌}
use Rattle.list_ddmin.specs.ListStep.{kept_of}
use Rattle.list_ddmin.specs.Machine.{start}
use Rattle.reduce_rounds.specs.Trials.{Trials, Try}
use Rattle.reduce_rounds.specs.ListTrials.{list_trials}

-- Two elements remain: each alone is tried, and then each again, as what the other leaves. Here `next` goes on from the elements that remain.
abbrev pub of_two : (List ℕ → Trials (List ℕ)) → ℕ → ℕ → Trials (List ℕ)
of_two next a b =
    Try (a ∷ []) (next (a ∷ [])) (
    Try (b ∷ []) (next (b ∷ [])) (
    Try (b ∷ []) (next (b ∷ [])) (
    Try (a ∷ []) (next (a ∷ [])) (next (a ∷ b ∷ [])))))

-- None of the elements 1, 2 and 3, then the two parts, what each leaves, each element alone, and each pair.
abbrev pub of_three : (List ℕ → Trials (List ℕ)) → Trials (List ℕ)
of_three next =
    Try [] (next []) (
    Try (1 ∷ []) (next (1 ∷ [])) (
    Try (2 ∷ 3 ∷ []) (of_two next 2 3) (
    Try (2 ∷ 3 ∷ []) (of_two next 2 3) (
    Try (1 ∷ []) (next (1 ∷ [])) (
    Try (1 ∷ []) (next (1 ∷ [])) (
    Try (2 ∷ []) (next (2 ∷ [])) (
    Try (3 ∷ []) (next (3 ∷ [])) (
    Try (2 ∷ 3 ∷ []) (of_two next 2 3) (
    Try (1 ∷ 3 ∷ []) (of_two next 1 3) (
    Try (1 ∷ 2 ∷ []) (of_two next 1 2) (next (1 ∷ 2 ∷ 3 ∷ []))))))))))))

-- a keep list of three elements stands for those that it keeps
abbrev pub WorkedTrials : Type 0
WorkedTrials = (next : List ℕ → Trials (List ℕ)) →
    list_trials (λ keep. kept_of keep (1 ∷ 2 ∷ 3 ∷ [])) (λ keep. next (kept_of keep (1 ∷ 2 ∷ 3 ∷ []))) (start 3 true) ≡ of_three next
