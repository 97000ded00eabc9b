-- Hexadecimal numbers.
use Rattle.std.proofs.Common.{◌≡◌, ◌<◌, ◌+◌, ◌*◌, ◌^◌, ℕ, zero, suc, List, [], ◌∷◌, take, Some, ap, sym, subst, ◌∙◌, arith, add-one}
use Rattle.std.proofs.Math.Nat.{pow-suc}
use Rattle.grammar_reader_words.specs.Cursor.{uncons}
use Rattle.grammar_reader_words.specs.Quoted.{hex_after, hex_digit}

pub small : (k v : ℕ) → k < 6 → v < 16 ^ k → v < 2 ^ 20
small zero v h l = omega arith
small (suc zero) v h l = omega arith
small (suc (suc zero)) v h l = omega arith
small (suc (suc (suc zero))) v h l = omega arith
small (suc (suc (suc (suc zero)))) v h l = omega arith
small (suc (suc (suc (suc (suc zero))))) v h l = omega arith
small (suc (suc (suc (suc (suc (suc k)))))) v h l = absurd (omega arith)

pub grown : (k v d : ℕ) → v < 16 ^ k → d < 16 → v * 16 + d < 16 ^ (k + 1)
grown k v d h l =
    let e : 16 ^ (k + 1) ≡ 16 ^ k * 16 = ap (λ n. 16 ^ n) (add-one k) ∙ pow-suc 16 k in
    omega arith

-- one digit more
pub further : (remaining less v c : ℕ) (all cs : List ℕ) → Some (c, cs) ≡ uncons all → remaining ≡ suc less
    → hex_after (v * 16 + hex_digit c) (take less cs) ≡ hex_after v (take remaining all)
further remaining less v c [] cs e h = absurd (cc e)
further remaining less v c (x ∷ xs) cs e h =
    let pair : ◌≡◌ {A = ℕ × List ℕ} (c, cs) (x, xs) = cc in
    let head : c ≡ x = ap (λ p. p.0) pair in
    let tail : cs ≡ xs = ap (λ p. p.1) pair in
    subst (λ n. hex_after (v * 16 + hex_digit c) (take less cs) ≡ hex_after v (take n (x ∷ xs))) (sym h)
    (ap (λ y. hex_after (v * 16 + hex_digit y) (take less cs)) head ∙ ap (λ ys. hex_after (v * 16 + hex_digit x) (take less ys)) tail)
