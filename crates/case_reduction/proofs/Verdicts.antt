-- The gate that asks for Q and Z says yes to each program.
use Rattle.std.proofs.Common.{◌≡◌, ℕ, zero, suc, ◌<◌, Bool, true, ◌||◌, ◌==◌, if◌then◌else◌, List, [], ◌∷◌, length, slice_index_or, refl, ap, arith}
use Rattle.std.specs.List.{Contains, list_any}
use Rattle.std.proofs.lemmas.Bool.{and_from, eq-eqb}
use Rattle.script_gate_trait.specs.Rule.{occur_all}
use Rattle.script_gate_trait.specs.declared.gate.Verdict.TheVariants.{Yes, No}
use Rattle.case_maker.specs.Cases.{case_text}
use Rattle.case_maker.specs.Laws.{HoldsQAndZ}
use Rattle.case_maker.proofs.Lent.{holds}
use Rattle.case_reduction.specs.LanguageLaws.{CasesGetYes}
use Rattle.case_reduction.proofs.Tests.{or_later}

found : (xs : List ℕ) (k y : ℕ) → k < length xs → slice_index_or xs k y ≡ y → list_any (λ x. x == y) xs ≡ true
found [] k y less e = absurd (omega (arith, less))
found (x ∷ xs) zero y less e = ap (λ b. b || list_any (λ z. z == y) xs) (eq-eqb x y e)
found (x ∷ xs) (suc k) y less e = or_later (x == y) (list_any (λ z. z == y) xs) (found xs k y (omega (arith, less)) e)

both : (text : List ℕ) → Contains text 81 → Contains text 90 → occur_all 23121 text ≡ true
both text (i, one, q) (k, other, z) =
    and_from (list_any (λ x. x == 81) text) _ (found text i 81 one q) (and_from (list_any (λ x. x == 90) text) true (found text k 90 other z) refl)

pub get_yes : CasesGetYes
get_yes number size some =
    let it : HoldsQAndZ number size = holds number size some in
    ap (λ (b : Bool). if b then Yes else No) (both (case_text number size) it.q it.z)
