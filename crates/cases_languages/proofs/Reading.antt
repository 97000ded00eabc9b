-- Which part of a list is between two positions.
use Rattle.std.proofs.Common.{◌≡◌, ◌+◌, ℕ, suc, List, [], ◌∷◌, ◌++◌, Some, slice_get, length, drop, refl}
use Rattle.std.proofs.Common.{sym, ap, ◌∙◌, subst, arith, append_assoc, length-append}
use Rattle.std.proofs.Math.Seq.{drop-cons}
use Rattle.std.proofs.lemmas.List.{append-nil}
use Rattle.std.proofs.lemmas.Option.{slice_get_within, get_or_from_slice_get}

-- w is in the list from the position i up to the position j
abbrev pub Reads : List ℕ → ℕ → ℕ → List ℕ → Type 0
Reads K i j [] = i ≡ j
Reads K i j (c ∷ w) = (slice_get K i ≡ Some c) × Reads K (suc i) j w

pub join : (K : List ℕ) (i m j : ℕ) (u v : List ℕ) → Reads K i m u → Reads K m j v → Reads K i j (u ++ v)
join K i m j [] v e h = let P : ℕ → Type 0 = λ n. Reads K n j v in subst P (sym e) h
join K i m j (c ∷ u) v (e, k) h = (e, join K (suc i) m j u v k h)

pub cut : (K : List ℕ) (i j : ℕ) (u v : List ℕ) → Reads K i j (u ++ v) → (m : ℕ) × Reads K i m u × Reads K m j v
cut K i j [] v h = (i, refl, h)
cut K i j (c ∷ u) v (e, h) = let x = cut K (suc i) j u v h in (x.0, (e, x.1), x.2)

get_after : (f : List ℕ) (c : ℕ) (b : List ℕ) → slice_get (f ++ c ∷ b) (length f) ≡ Some c
get_after [] c b = refl
get_after (x ∷ f) c b = get_after f c b

reads_after : (K f u b : List ℕ) → K ≡ f ++ (u ++ b) → Reads K (length f) (length f + length u) u
reads_after K f [] b e = omega arith
reads_after K f (c ∷ u) b e = (
  ap (λ l. slice_get l (length f)) e ∙ get_after f c (u ++ b),
  let g = reads_after K (f ++ c ∷ []) u b (e ∙ sym (append_assoc f (c ∷ []) (u ++ b))) in
      let P : ℕ → Type 0 = λ n. Reads K n (length f + suc (length u)) u in
      let Q : ℕ → Type 0 = λ n. Reads K (length (f ++ c ∷ [])) n u in
      let l : length (f ++ c ∷ []) ≡ suc (length f) = length-append f (c ∷ []) ∙ omega arith in
      subst P l (subst Q (omega (arith, l)) g),
)

-- a front of a list is at its start
pub reads_front : (K u v : List ℕ) → K ≡ u ++ v → Reads K 0 (length u) u
reads_front K u v e =
    let P : ℕ → Type 0 = λ n. Reads K 0 n u in subst P (omega arith) (reads_after K [] u v e)

pub reads_whole : (K : List ℕ) → Reads K 0 (length K) K
reads_whole K = reads_front K K [] (sym (append-nil K))

rest_of : (K : List ℕ) (i j : ℕ) (u : List ℕ) → Reads K i j u → (drop i K ≡ u ++ drop j K) × (i + length u ≡ j)
rest_of K i j [] e = (ap (λ n. drop n K) e, omega (arith, e))
rest_of K i j (c ∷ u) (e, h) =
    let x = rest_of K (suc i) j u h in
    let d = drop-cons K i c (slice_get_within K i c e) in
    (d ∙ ap (λ z. z ∷ drop (suc i) K) (get_or_from_slice_get K i c c e) ∙ ap (λ l. c ∷ l) x.0, omega (arith, x.1))

-- what is from the start up to a position is a front of the list
pub front_of : (K : List ℕ) (j : ℕ) (u : List ℕ) → Reads K 0 j u → (v : List ℕ) × (K ≡ u ++ v) × (length u ≡ j)
front_of K j u h = let x = rest_of K 0 j u h in (drop j K, x.0, omega (arith, x.1))

pub nothing_left : (u v : List ℕ) → length u ≡ length (u ++ v) → v ≡ []
nothing_left u [] e = refl
nothing_left u (c ∷ v) e = absurd (omega (arith, e, length-append u (c ∷ v)))

-- what is from the start up to the end is the list
pub whole_of : (K : List ℕ) (u : List ℕ) → Reads K 0 (length K) u → u ≡ K
whole_of K u h =
    let x = front_of K (length K) u h in
    let none : x.0 ≡ [] = nothing_left u x.0 (x.2 ∙ ap length x.1) in sym (x.1 ∙ ap (λ v. u ++ v) none ∙ append-nil u)
