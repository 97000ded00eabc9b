-- How many elements are kept.
use Rattle.std.proofs.Common.{◌≡◌, ℕ, suc, zero, ◌<◌, true, false, [], ◌∷◌, replicate, arith, refl, subst}
use Rattle.list_ddmin.specs.ListStep.{kept_count, part, complement}
use Rattle.list_ddmin.specs.Machine.{Nothing, Parts, Complements, End, kept}
use Rattle.list_ddmin.specs.inner.Machine.{CountsKept, EachYesIsSmaller}
use Rattle.list_ddmin.proofs.Borders.{kept_count-part}
use Rattle.list_ddmin.proofs.Minimal.{kept_count-all}

pub length-kept_of : (X : Type 0) → CountsKept X
length-kept_of X [] xs same = refl
length-kept_of X (kept ∷ keep) [] same = absurd (omega arith)
length-kept_of X (true ∷ keep) (x ∷ xs) same = omega (arith, length-kept_of X keep xs (omega arith))
length-kept_of X (false ∷ keep) (x ∷ xs) same = omega (arith, length-kept_of X keep xs (omega arith))

pub kept_count-none : (len : ℕ) → kept_count (replicate len false) ≡ 0
kept_count-none zero = refl
kept_count-none (suc len) = omega (arith, kept_count-none len)

pub each_yes_is_smaller : EachYesIsSmaller
each_yes_is_smaller (Nothing len) question sound is =
    let same : replicate len false ≡ question = cc in
    rw (← same, kept_count-none len, kept_count-all len) sound
each_yes_is_smaller (Parts keep n i) question sound is =
    let same : part keep n i ≡ question = cc in
    let sizes = kept_count-part keep n i (omega arith) sound.fits sound.at in
    subst (λ q. kept_count q < kept_count keep) same (omega arith)
each_yes_is_smaller (Complements keep n i) question sound is =
    let same : complement keep n i ≡ question = cc in
    let sizes = kept_count-part keep n i (omega arith) sound.fits sound.at in
    subst (λ q. kept_count q < kept_count keep) same (omega arith)
each_yes_is_smaller (End keep) question sound is = (cc)
