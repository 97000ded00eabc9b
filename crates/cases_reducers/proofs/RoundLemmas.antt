-- What the fields of a round of bytes mean.
use Rattle.std.proofs.Common.{◌≡◌, ◌+◌, ◌-◌, ◌<◌, ℕ, zero, suc, Bool, true, false, cond, List, length, remove}
use Rattle.std.proofs.Common.{Option, Some, None, is_some, not, refl, sym, ap, ◌∙◌, subst, arith}
use Rattle.std.specs.Option.{IfSome}
use Rattle.std.specs.Prelude.{nat_lt}
use Rattle.reduce_rounds.specs.Trials.{Trials, Done, Try, is_done, state_after, tried_state, trials_after}
use Rattle.reduce_rounds.specs.Fields.{listed_text, text_if}
use Rattle.cases_reducers.specs.ByteMode.{byte_mode, deletions_from}
use Rattle.cases_reducers.specs.Fields.{IsNext, IsWithout, rest_at}
use Rattle.cases_reducers.proofs.ByteLaws.{length-remove}

-- a round that tries something
record Tries (text next : List ℕ) (rest : Trials (List ℕ)) : Type 0 where
  at_yes : Trials (List ℕ)
  at_no : Trials (List ℕ)
  is : rest ≡ Try next at_yes at_no

from-is : (n : ℕ) (text : List ℕ) (at : ℕ) → 0 < n
    → deletions_from n text at ≡ Try (remove text at) (deletions_from (n - 1) (remove text at) at) (deletions_from (n - 1) text (at + 1))
from-is zero text at some = absurd (omega arith)
from-is (suc n) text at some = let one : suc n - 1 ≡ n = omega arith in rw one refl

rest-tries : (text next : List ℕ) (at : ℕ) → IsNext text (Some next) at → Tries text next (rest_at text (Some next) at)
rest-tries text next zero is = record { at_yes = Done; at_no = Done; is = refl }
rest-tries text next (suc at) is =
    let n : ℕ = length text - suc at in
    let within = is.0 in
    record {
      at_yes = deletions_from (n - 1) (remove text (suc at)) (suc at);
      at_no = deletions_from (n - 1) text (suc at + 1);
      is =
          from-is n text (suc at) (omega arith) ∙ ap
          (λ t. Try t (deletions_from (n - 1) (remove text (suc at)) (suc at)) (deletions_from (n - 1) text (suc at + 1))) (sym is.1);
    }

pub over-now : (text : List ℕ) (next : Option (List ℕ)) (at : ℕ) → IsNext text next at → is_done (rest_at text next at) ≡ not (is_some next)
over-now text None at is = refl
over-now text (Some next) at is = ap is_done (rest-tries text next at is).is

pub asks-now : (start text next : List ℕ) (at : ℕ) → IsNext text (Some next) at
    → listed_text (byte_mode start) (rest_at text (Some next) at) ≡ text_if (nat_lt 1 (length next)) next
asks-now start text next at is = ap (listed_text (byte_mode start)) (rest-tries text next at is).is

pub units-now : (text next : List ℕ) (at : ℕ) → IsNext text (Some next) at → IfSome (tried_state (rest_at text (Some next) at)) (λ s. length next ≡ length s)
units-now text next at is = subst (λ t. IfSome (tried_state t) (λ s. length next ≡ length s)) (sym (rest-tries text next at is).is) refl

without-rest : (text : List ℕ) (next : Option (List ℕ)) (at : ℕ) → IsWithout text (suc at) next
    → rest_at text next (suc at) ≡ deletions_from (length text - suc at) text (suc at)
without-rest text None at is = let none : length text - suc at ≡ 0 = omega arith in ap (λ n. deletions_from n text (suc at)) (sym none)
without-rest text (Some next) at is = refl

-- an answer at a position
pub answered-at : (b : Bool) (text next text' : List ℕ) (next' : Option (List ℕ)) (at at' : ℕ) → IsNext text (Some next) at → (at ≡ 0 → ⊥)
    → text' ≡ cond b next text → at' ≡ cond b at (at + 1)
    → IsWithout text' at' next' → (rest_at text' next' at' ≡ trials_after (rest_at text (Some next) at) b)
    × (text' ≡ state_after text (rest_at text (Some next) at) b)
answered-at b text next text' next' zero at' is some now_is at_is without = absurd (some refl)
answered-at true text next text' next' (suc at) at' is some now_is at_is without =
    let n : ℕ = length text - suc at in
    let within = is.0 in
    let first = from-is n text (suc at) (omega arith) in
    let removed = length-remove text (suc at) within in
    let long = ap length is.1 in
    let fewer : length next - suc at ≡ n - 1 = omega arith in (
      (λ i. rest_at (now_is i) next' (at_is i))
          ∙ without-rest next next' at (subst (λ t. IsWithout t (suc at) next') now_is (subst (λ k. IsWithout text' k next') at_is without))
          ∙ ap (λ m. deletions_from m next (suc at)) fewer ∙ ap (λ t. deletions_from (n - 1) t (suc at)) is.1 ∙ ap (λ t. trials_after t true) (sym first),
      now_is ∙ is.1 ∙ ap (λ t. state_after text t true) (sym first),
    )
answered-at false text next text' next' (suc at) at' is some now_is at_is without =
    let n : ℕ = length text - suc at in
    let within = is.0 in
    let first = from-is n text (suc at) (omega arith) in
    let next_at : suc at + 1 ≡ suc (suc at) = omega arith in
    let fewer : length text - suc (suc at) ≡ n - 1 = omega arith in (
      (λ i. rest_at (now_is i) next' ((at_is ∙ next_at) i))
          ∙ without-rest text next' (suc at) (subst (λ t. IsWithout t (suc (suc at)) next') now_is
          (subst (λ k. IsWithout text' k next') (at_is ∙ next_at) without))
          ∙ ap (λ m. deletions_from m text (suc (suc at))) fewer ∙ ap (λ k. deletions_from (n - 1) text k) (sym next_at)
          ∙ ap (λ t. trials_after t false) (sym first),
      now_is ∙ ap (λ t. state_after text t false) (sym first),
    )
