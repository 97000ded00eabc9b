-- What holds of rows, bodies and a list holds of equal ones, as where they are lent.
use Rattle.std.proofs.Common.{◌≡◌, ◌+◌, ◌↔◌, ℕ, Bool, List, length, subst}
use Rattle.cases_languages.specs.Patterns.{Pattern}
use Rattle.cases_languages.specs.Positions.{Fit, IsExact, IsIn, Known, SpansBy}
use Rattle.cases_languages.specs.declared.chart.Row.{Row}

pub fit_at : (rows lent : List Row) (K L : List ℕ) → rows ≡ lent → K ≡ L → Fit rows (length K + 1) → Fit lent (length L + 1)
fit_at rows lent K L d e h =
    let P : List Row → Type 0 = λ z. Fit z (length L + 1) in let Q : List ℕ → Type 0 = λ z. Fit rows (length z + 1) in subst P d (subst Q e h)

pub exact_at : (rows lent : List Row) (B C : List Pattern) (K L : List ℕ) → rows ≡ lent → B ≡ C → K ≡ L → IsExact rows B K (length K + 1)
    → IsExact lent C L (length L + 1)
exact_at rows lent B C K L d e f h =
    let P : List Row → Type 0 = λ z. IsExact z C L (length L + 1) in
    let Q : List Pattern → Type 0 = λ z. IsExact rows z L (length L + 1) in
    let R : List ℕ → Type 0 = λ z. IsExact rows B z (length z + 1) in subst P d (subst Q e (subst R f h))

pub ends_at : (rows lent : List Row) (p q : Pattern) (K L : List ℕ) (ends : List Bool) → rows ≡ lent → p ≡ q → K ≡ L
    → ((j : ℕ) → IsIn ends j ↔ SpansBy (Known rows) K p 0 j) → (j : ℕ) → IsIn ends j ↔ SpansBy (Known lent) L q 0 j
ends_at rows lent p q K L ends d e f h =
    let P : List Row → Type 0 = λ z. (j : ℕ) → IsIn ends j ↔ SpansBy (Known z) L q 0 j in
    let Q : Pattern → Type 0 = λ z. (j : ℕ) → IsIn ends j ↔ SpansBy (Known rows) L z 0 j in
    let R : List ℕ → Type 0 = λ z. (j : ℕ) → IsIn ends j ↔ SpansBy (Known rows) z p 0 j in subst P d (subst Q e (subst R f h))
