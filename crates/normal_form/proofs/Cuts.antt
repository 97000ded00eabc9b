-- Parts of a list, by positions.
use Rattle.std.proofs.Common.{◌≡◌, ℕ, ◌+◌, ◌-◌, ◌<◌, ◌≤◌, List, [], ◌∷◌, ◌++◌, length, take, drop, get_or}
use Rattle.std.proofs.Common.{Some, slice_get, refl, sym, ap, ◌∙◌, arith, length-append}
use Rattle.std.specs.List.{between}
use Rattle.std.proofs.Math.Seq.{take-add}
use Rattle.std.proofs.lemmas.List.{drop-drop, drop-take, drop_at, take-take, take_at}
use Rattle.std.proofs.lemmas.List.Edits.{between_more, between_none, length-between}
use Rattle.std.proofs.lemmas.Option.{slice_get-get_or}

-- what is between two positions, and then what follows up to a third
pub between_append : (xs : List ℕ) (i m j : ℕ) → i ≤ m → m ≤ j → between i m xs ++ between m j xs ≡ between i j xs
between_append xs i m j h l =
    let whole : (m - i) + (j - m) ≡ j - i = omega (arith, h, l) in
    let at : i + (m - i) ≡ m = omega (arith, h) in
    ap (λ n. between i m xs ++ take (j - m) (drop n xs)) (sym at)
    ∙ ap (λ rest. between i m xs ++ take (j - m) rest) (sym (drop-drop (m - i) i xs))
    ∙ sym (take-add (m - i) (j - m) (drop i xs))
    ∙ ap (λ n. take n (drop i xs)) whole

-- Where what is between two positions is cut in two, each part is between positions.
pub record IsCutAt (xs u v : List ℕ) (i m j : ℕ) : Type 0 where
  pub after : i ≤ m
  pub before : m ≤ j
  pub first : between i m xs ≡ u
  pub second : between m j xs ≡ v

pub cut : (xs u v : List ℕ) (i j : ℕ) → i ≤ j → j ≤ length xs → between i j xs ≡ u ++ v → (m : ℕ) × IsCutAt xs u v i m j
cut xs u v i j h within e = (i + length u, record { after = omega arith; before = omega (arith, sizes, h); first = first; second = second })
  where
    sizes : length u + length v ≡ j - i
    sizes = sym (length-append u v) ∙ ap length (sym e) ∙ length-between xs i j within

    short : length u ≤ j - i
    short = omega (arith, sizes)

    rest : length u + (j - (i + length u)) ≡ j - i
    rest = omega (arith, sizes)

    here : (i + length u) - i ≡ length u
    here = omega arith

    first : between i (i + length u) xs ≡ u
    first =
        ap (λ n. take n (drop i xs)) here
        ∙ sym (take-take (length u) (j - i) (drop i xs) short)
        ∙ ap (take (length u)) e
        ∙ take_at u v (length u) refl

    second : between (i + length u) j xs ≡ v
    second =
        ap (take (j - (i + length u))) (sym (drop-drop (length u) i xs))
        ∙ sym (drop-take (length u) (j - (i + length u)) (drop i xs))
        ∙ ap (λ n. drop (length u) (take n (drop i xs))) rest
        ∙ ap (drop (length u)) e
        ∙ drop_at u v (length u) refl

-- nothing is between two positions only where they are the same
pub none_between : (xs : List ℕ) (i j : ℕ) → i ≤ j → j ≤ length xs → between i j xs ≡ [] → i ≡ j
none_between xs i j h within e = omega (arith, h, sym (length-between xs i j within) ∙ ap length e)

-- one element is between a position and the next one
pub between_one : (xs : List ℕ) (i : ℕ) → i < length xs → between i (i + 1) xs ≡ get_or xs i 0 ∷ []
between_one xs i l = between_more xs i i 0 (omega arith) l ∙ ap (λ front. front ++ get_or xs i 0 ∷ []) (between_none xs i)

head_same : (x y : ℕ) → x ∷ [] ≡ y ∷ [] → x ≡ y
head_same x y e = cc

-- one element alone is between two positions only where the second is the next one and the first has it
pub one_between : (xs : List ℕ) (i j k : ℕ) → i ≤ j → j ≤ length xs → between i j xs ≡ k ∷ [] → (slice_get xs i ≡ Some k) × (j ≡ i + 1)
one_between xs i j k h within e = (slice_get-get_or xs i 0 here ∙ ap Some (head_same (get_or xs i 0) k same), next)
  where
    next : j ≡ i + 1
    next = omega (arith, h, sym (length-between xs i j within) ∙ ap length e)

    here : i < length xs
    here = omega (arith, next, within)

    same : get_or xs i 0 ∷ [] ≡ k ∷ []
    same = sym (between_one xs i here) ∙ ap (λ n. between i n xs) (sym next) ∙ e
