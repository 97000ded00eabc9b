-- A rule that is replaced once the rules after it are known.
use Rattle.std.proofs.Common.{◌≡◌, ℕ, ◌+◌, ◌-◌, arith, List, [], ◌∷◌, ◌++◌, length, map, refl, sym, ap, ◌∙◌, append_assoc}
use Rattle.std.proofs.lemmas.List.{map-append, length-map, set-append_right}
use Rattle.std.proofs.Math.Seq.{set-append_seam}
use Rattle.std.proofs.Math.ListN.{set}
use Rattle.normal_form.specs.declared.normal.NormalRule.{NormalRule}
use Rattle.normal_form.specs.declared.normal.Sym.{Sym}
use Rattle.normal_form.specs.Numbering.{head_of}
use Rattle.normal_form.specs.Form.{RuleForm}
use Rattle.normal_form.specs.View.{rule_form}

set_seam : (xs : List RuleForm) (x y : RuleForm) (ys : List RuleForm) (n : ℕ) → n ≡ length xs → set (xs ++ x ∷ ys) n y ≡ xs ++ y ∷ ys
set_seam xs x y ys n e = ap (λ k. set (xs ++ x ∷ ys) k y) e ∙ set-append_seam xs x ys y

pub replaced : (old pushed new : List NormalRule) (first : NormalRule) (own : RuleForm) (n : ℕ) (more : List RuleForm) → n ≡ length old
    → pushed ≡ old ++ first ∷ [] → map rule_form new ≡ map rule_form pushed ++ more → set (map rule_form new) n own ≡ map rule_form old ++ own ∷ more
replaced old pushed new first own n more e is all =
    ap (λ l. set l n own) (all ∙ ap (λ l. map rule_form l ++ more) is ∙ ap (λ l. l ++ more) (map-append rule_form old (first ∷ []))
    ∙ append_assoc (map rule_form old) (rule_form first ∷ []) more)
    ∙ set_seam (map rule_form old) (rule_form first) own more n (e ∙ sym (length-map old rule_form))

set_after : (xs ys : List RuleForm) (n i k : ℕ) (y : RuleForm) → length xs ≡ n → n + k ≡ i → set (xs ++ ys) i y ≡ xs ++ set ys k y
set_after xs ys n i k y e is =
    let back : i - n ≡ k = omega (arith, is) in set-append_right xs ys n i y e (omega (arith, is)) ∙ ap (λ j. xs ++ set ys j y) back

-- the bases and the rests are put in
pub replaced_head : (old pushed new : List NormalRule) (bases rests : RuleForm) (base rest : List (List Sym)) (n : ℕ) (more : List RuleForm) → n ≡ length old
    → map rule_form pushed ≡ map rule_form old ++ head_of n [] [] → map rule_form new ≡ map rule_form pushed ++ more → bases ≡ RuleForm.regular base
    → rests ≡ RuleForm.regular rest → set (set (map rule_form new) (n + 1) bases) (n + 3) rests ≡ map rule_form old ++ (head_of n base rest ++ more)
replaced_head old pushed new bases rests base rest n more e is all b r =
    let xs = map rule_form old in
    let len : length xs ≡ n = length-map old rule_form ∙ sym e in
    let first : set (map rule_form new) (n + 1) bases ≡ xs ++ (head_of n base [] ++ more) =
    ap (λ l. set l (n + 1) bases) (all ∙ ap (λ l. l ++ more) is ∙ append_assoc xs (head_of n [] []) more)
    ∙ set_after xs (head_of n [] [] ++ more) n (n + 1) 1 bases len refl
    ∙ ap (λ f. xs ++ set (head_of n [] [] ++ more) 1 f) b in
    ap (λ l. set l (n + 3) rests) first
    ∙ set_after xs (head_of n base [] ++ more) n (n + 3) 3 rests len refl
    ∙ ap (λ f. xs ++ set (head_of n base [] ++ more) 3 f) r
