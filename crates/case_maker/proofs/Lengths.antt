-- How long a program is.
use Rattle.std.proofs.Common.{◌≡◌, inl, inr, ℕ, zero, suc, ◌+◌, ◌*◌, ◌<◌, ◌≤◌, ◌%◌, Bool, true, false, cond, nat_eq}
use Rattle.std.proofs.Common.{List, [], ◌++◌, length, codes, decimal, ap, arith, length-append}
use Rattle.std.specs.List.{flat_map, range_with_len}
use Rattle.std.proofs.lemmas.Bool.Decides.{eqb_tells}
use Rattle.std.proofs.lemmas.Fmt.{length-decimal-le}
use Rattle.case_maker.specs.Cases.{case_text, form_line, function_text, target_line, target_of}
use Rattle.case_maker.specs.Laws.{CasesAreShort}

line_short : (n : ℕ) → length (form_line n) ≤ 47
line_short zero = omega arith
line_short (suc zero) = omega arith
line_short (suc (suc zero)) = omega arith
line_short (suc (suc (suc n))) = omega arith

target_short : (b : Bool) → length (cond b target_line []) ≤ cond b 24 0
target_short true = omega arith
target_short false = omega arith

function_short : (index : ℕ) (b : Bool) → index < 1500 → length (function_text index b) ≤ 170 + cond b 24 0
function_short index b small =
    let end : List ℕ = codes "}\n" in
    let target : List ℕ = cond b target_line [] in
    let third : List ℕ = form_line ((index + 2) % 4) in
    let second : List ℕ = form_line ((index + 1) % 4) in
    let first : List ℕ = form_line (index % 4) in
    let head : List ℕ = codes "(int a, char b) {\n" in
    let digits : length (decimal index) ≤ 4 = length-decimal-le 4 index (omega arith) (omega (arith, small)) (omega (arith, small)) in
    omega (
      arith,
      digits,
      line_short (index % 4),
      line_short ((index + 1) % 4),
      line_short ((index + 2) % 4),
      target_short b,
      length-append (codes "int f") (decimal index ++ (head ++ (first ++ (second ++ (third ++ (target ++ end)))))),
      length-append (decimal index) (head ++ (first ++ (second ++ (third ++ (target ++ end))))),
      length-append head (first ++ (second ++ (third ++ (target ++ end)))),
      length-append first (second ++ (third ++ (target ++ end))),
      length-append second (third ++ (target ++ end)),
      length-append third (target ++ end),
      length-append target end,
    )

-- the functions from one number on: without the target among them, and with it
module _ (t : ℕ) where
  abbrev f : ℕ → List ℕ
  f index = function_text index (nat_eq index t)

  weight : (index : ℕ) (b : Bool) → nat_eq index t ≡ b → index < 1500 → length (f index) ≤ 170 + cond b 24 0
  weight index b e small = omega (arith, function_short index (nat_eq index t) small, ap {B = ℕ} (λ (x : Bool). cond x 24 0) e)

  after_target : (a n : ℕ) → t < a → a + n ≤ 1500 → length (flat_map f (range_with_len a n)) ≤ 170 * n
  after_target a zero over small = omega arith
  after_target a (suc n) over small = elim (eqb_tells a t) [
    | inl it ↦ absurd (omega (arith, over, it.1))
    | inr it ↦
        let one : length (f a) ≤ 170 = weight a false it.0 (omega (arith, small)) in
        let others : length (flat_map f (range_with_len (a + 1) n)) ≤ 170 * n = after_target (a + 1) n (omega (arith, over)) (omega (arith, small)) in
        omega (arith, one, others, length-append (f a) (flat_map f (range_with_len (a + 1) n)))
  ]

  all_short : (a n : ℕ) → a + n ≤ 1500 → length (flat_map f (range_with_len a n)) ≤ 170 * n + 24
  all_short a zero small = omega arith
  all_short a (suc n) small = elim (eqb_tells a t) [
    | inl it ↦
        let one : length (f a) ≤ 194 = weight a true it.0 (omega (arith, small)) in
        let others : length (flat_map f (range_with_len (a + 1) n)) ≤ 170 * n = after_target (a + 1) n (omega (arith, it.1)) (omega (arith, small)) in
        omega (arith, one, others, length-append (f a) (flat_map f (range_with_len (a + 1) n)))
    | inr it ↦
        let one : length (f a) ≤ 170 = weight a false it.0 (omega (arith, small)) in
        let others : length (flat_map f (range_with_len (a + 1) n)) ≤ 170 * n + 24 = all_short (a + 1) n (omega (arith, small)) in
        omega (arith, one, others, length-append (f a) (flat_map f (range_with_len (a + 1) n)))
  ]

pub short : CasesAreShort
unfolding case_text
short number size small = all_short (target_of number size) 0 size (omega (arith, small))
