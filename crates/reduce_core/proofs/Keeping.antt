-- What is kept of a list.
use Rattle.std.proofs.Common.{◌≡◌, ◌+◌, ◌<◌, ◌≤◌, ◌++◌, ◌∙◌, sym, append_assoc, ℕ, suc, zero, Bool, true, false}
use Rattle.std.proofs.Common.{List, [], ◌∷◌, refl, ap, drop, get_or, length, replicate, arith}
use Rattle.list_ddmin.specs.ListStep.{kept_of}
use Rattle.reduce_core.specs.declared.lines.Line.{Line}
use Rattle.reduce_core.specs.Lines.{numbers_of, text_of}

pub length-kept_of : {X : Type 0} (keep : List Bool) (xs : List X) → length (kept_of keep xs) ≤ length xs
length-kept_of [] xs = omega arith
length-kept_of (true ∷ keep) [] = omega arith
length-kept_of (false ∷ keep) [] = omega arith
length-kept_of (true ∷ keep) (x ∷ xs) = let rest = length-kept_of keep xs in omega arith
length-kept_of (false ∷ keep) (x ∷ xs) = let rest = length-kept_of keep xs in omega arith

-- what keeps all keeps each
pub kept_of-all : {X : Type 0} (xs : List X) → kept_of (replicate (length xs) true) xs ≡ xs
kept_of-all [] = refl
kept_of-all (x ∷ xs) = ap (λ rest. x ∷ rest) (kept_of-all xs)

-- From one index on.

-- a kept element comes first, and what is kept after it follows
pub kept_of-kept : {X : Type 0} (keep : List Bool) (xs : List X) (k : ℕ) (d : Bool) (x : X) → k < length keep → length keep ≡ length xs → get_or keep k d ≡ true
    → kept_of (drop k keep) (drop k xs) ≡ get_or xs k x ∷ kept_of (drop (k + 1) keep) (drop (k + 1) xs)
kept_of-kept [] xs k d x within same is = absurd (omega arith)
kept_of-kept (flag ∷ keep) [] k d x within same is = absurd (omega arith)
kept_of-kept (flag ∷ keep) (y ∷ xs) zero d x within same is = rw is refl
kept_of-kept (flag ∷ keep) (y ∷ xs) (suc k) d x within same is =
    let next : suc k + 1 ≡ suc (k + 1) = omega arith in
    rw next (kept_of-kept keep xs k d x (omega arith) (omega arith) is)

-- an element that is not kept is left out
pub kept_of-dropped : {X : Type 0} (keep : List Bool) (xs : List X) (k : ℕ) (d : Bool) → k < length keep → length keep ≡ length xs → get_or keep k d ≡ false
    → kept_of (drop k keep) (drop k xs) ≡ kept_of (drop (k + 1) keep) (drop (k + 1) xs)
kept_of-dropped [] xs k d within same is = absurd (omega arith)
kept_of-dropped (flag ∷ keep) [] k d within same is = absurd (omega arith)
kept_of-dropped (flag ∷ keep) (y ∷ xs) zero d within same is = rw is refl
kept_of-dropped (flag ∷ keep) (y ∷ xs) (suc k) d within same is =
    let next : suc k + 1 ≡ suc (k + 1) = omega arith in
    rw next (kept_of-dropped keep xs k d (omega arith) (omega arith) is)

-- one element more on the left, one fewer on the right
pub pushed-kept : {X : Type 0} (front front' : List X) (keep : List Bool) (xs whole : List X) (k : ℕ) (d : Bool) (x : X) → k < length keep
    → length keep ≡ length xs
    → get_or keep k d ≡ true → x ≡ get_or xs k x → front' ≡ front ++ x ∷ [] → front ++ kept_of (drop k keep) (drop k xs) ≡ whole
    → front' ++ kept_of (drop (k + 1) keep) (drop (k + 1) xs) ≡ whole
pushed-kept front front' keep xs whole k d x within same is element pushed before =
    ap (λ f. f ++ kept_of (drop (k + 1) keep) (drop (k + 1) xs)) pushed
    ∙ append_assoc front (x ∷ []) (kept_of (drop (k + 1) keep) (drop (k + 1) xs))
    ∙ ap (λ y. front ++ y ∷ kept_of (drop (k + 1) keep) (drop (k + 1) xs)) element
    ∙ ap (λ l. front ++ l) (sym (kept_of-kept keep xs k d x within same is))
    ∙ before

-- the same for the texts of lines
pub joined-kept : (front front' : List ℕ) (keep : List Bool) (lines : List Line) (whole : List ℕ) (k : ℕ) (d : Bool) (line : Line) → k < length keep
    → length keep ≡ length lines
    → get_or keep k d ≡ true → line ≡ get_or lines k line → front' ≡ front ++ line.bytes → front ++ text_of (kept_of (drop k keep) (drop k lines)) ≡ whole
    → front' ++ text_of (kept_of (drop (k + 1) keep) (drop (k + 1) lines)) ≡ whole
joined-kept front front' keep lines whole k d line within same is element joined before =
    ap (λ f. f ++ text_of (kept_of (drop (k + 1) keep) (drop (k + 1) lines))) joined
    ∙ append_assoc front line.bytes (text_of (kept_of (drop (k + 1) keep) (drop (k + 1) lines)))
    ∙ ap (λ (y : Line). front ++ (y.bytes ++ text_of (kept_of (drop (k + 1) keep) (drop (k + 1) lines)))) element
    ∙ ap (λ l. front ++ text_of l) (sym (kept_of-kept keep lines k d line within same is))
    ∙ before

-- and for their numbers
pub numbers-kept : (front front' : List ℕ) (keep : List Bool) (lines : List Line) (whole : List ℕ) (k : ℕ) (d : Bool) (line : Line) → k < length keep
    → length keep ≡ length lines
    → get_or keep k d ≡ true → line ≡ get_or lines k line → front' ≡ front ++ line.number ∷ []
    → front ++ numbers_of (kept_of (drop k keep) (drop k lines)) ≡ whole
    → front' ++ numbers_of (kept_of (drop (k + 1) keep) (drop (k + 1) lines)) ≡ whole
numbers-kept front front' keep lines whole k d line within same is element pushed before =
    ap (λ f. f ++ numbers_of (kept_of (drop (k + 1) keep) (drop (k + 1) lines))) pushed
    ∙ append_assoc front (line.number ∷ []) (numbers_of (kept_of (drop (k + 1) keep) (drop (k + 1) lines)))
    ∙ ap (λ (y : Line). front ++ y.number ∷ numbers_of (kept_of (drop (k + 1) keep) (drop (k + 1) lines))) element
    ∙ ap (λ l. front ++ numbers_of l) (sym (kept_of-kept keep lines k d line within same is))
    ∙ before
