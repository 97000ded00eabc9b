-- The letters Q and Z are in each program.
use Rattle.std.proofs.Common.{inl, inr, ℕ, zero, suc, ◌+◌, ◌<◌, ◌≤◌, ◌%◌, true, ◌≢◌, nat_eq, List, ◌++◌, codes, decimal, refl, sym, subst, arith}
use Rattle.std.specs.List.{Contains, flat_map, range_with_len}
use Rattle.std.proofs.Math.Nat.{mod-lt}
use Rattle.std.proofs.lemmas.Bool.{eq-eqb}
use Rattle.std.proofs.lemmas.Bool.Decides.{eqb_tells}
use Rattle.std.proofs.lemmas.List.Elements.{Contains-append_left, Contains-append_right}
use Rattle.case_maker.specs.Cases.{case_text, form_line, function_text, target_line, target_of}
use Rattle.case_maker.specs.Laws.{CasesHoldQAndZ}

-- what the function of one number has is in the text of all
in_all : (f : ℕ → List ℕ) (n a t y : ℕ) → a ≤ t → t < a + n → Contains (f t) y → Contains (flat_map f (range_with_len a n)) y
in_all f zero a t y low high c = absurd (omega (arith, low, high))
in_all f (suc n) a t y low high c = elim (eqb_tells a t) [
  | inl it ↦ Contains-append_left (f a) (flat_map f (range_with_len (a + 1) n)) y (subst (λ x. Contains (f x) y) (sym it.1) c)
  | inr it ↦
      Contains-append_right (f a) (flat_map f (range_with_len (a + 1) n)) y
      (in_all f n (a + 1) t y (above a t low it.1) (omega (arith, high)) c)
]
  where
    above : (a t : ℕ) → a ≤ t → a ≢ t → a + 1 ≤ t
    above a t low other = omega (arith, low, other)

-- what the target line has is in its function
in_function : (t y : ℕ) → Contains target_line y → Contains (function_text t true) y
in_function t y c =
    let end : List ℕ = codes "}\n" in
    let third : List ℕ = form_line ((t + 2) % 4) in
    let second : List ℕ = form_line ((t + 1) % 4) in
    let first : List ℕ = form_line (t % 4) in
    let head : List ℕ = codes "(int a, char b) {\n" in
    Contains-append_right (codes "int f") (decimal t ++ (head ++ (first ++ (second ++ (third ++ (target_line ++ end)))))) y
    (Contains-append_right (decimal t) (head ++ (first ++ (second ++ (third ++ (target_line ++ end))))) y
    (Contains-append_right head (first ++ (second ++ (third ++ (target_line ++ end)))) y
    (Contains-append_right first (second ++ (third ++ (target_line ++ end))) y
    (Contains-append_right second (third ++ (target_line ++ end)) y
    (Contains-append_right third (target_line ++ end) y
    (Contains-append_left target_line end y c))))))

in_case : (number size y : ℕ) → 1 ≤ size → Contains target_line y → Contains (case_text number size) y
unfolding case_text
in_case number size y some c =
    let t : ℕ = target_of number size in
    let f : ℕ → List ℕ = λ index. function_text index (nat_eq index (target_of number size)) in
    let within : t < size = mod-lt _ some in
    in_all f size 0 t y (omega arith) (omega (arith, within)) (subst (λ b. Contains (function_text t b) y) (sym (eq-eqb t t refl)) (in_function t y c))

pub holds : CasesHoldQAndZ
holds number size some =
    record { q = in_case number size 81 some (2, omega arith, refl); z = in_case number size 90 some (18, omega arith, refl) }
