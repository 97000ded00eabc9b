-- What is asked for, on a stack of which the last one is next.
use Rattle.std.proofs.Common.{◌≡◌, ℕ, List, [], ◌∷◌, ◌++◌, map, sym, ap, ◌∙◌, append_assoc}
use Rattle.std.specs.Prelude.{reverse, Result, Ok, Err, IfOk, OnOk}
use Rattle.std.proofs.lemmas.List.{append-nil, map-append, reverse-append, reverse-reverse}
use Rattle.chart_parser.specs.declared.part.Asked.{Asked}
use Rattle.chart_parser.specs.declared.part.Part.{Part}
use Rattle.chart_parser.specs.inner.Preorder.{below}

pub on_ok : {A E : Type 0} (r : Result A E) (P Q : Type 0) → (P → Q) → OnOk r P → OnOk r Q
on_ok (Ok x) P Q f p = f p
on_ok (Err e) P Q f p = tt

pub if_ok : {A E : Type 0} (r : Result A E) (P Q : A → Type 0) → ((a : A) → P a → Q a) → IfOk r P → IfOk r Q
if_ok (Ok x) P Q f p = f x p
if_ok (Err e) P Q f p = tt

pub asked_one : (q : ℕ) (stack : List Asked) (xs : List Part) (p : Part)
    → (stack ++ below q p ∷ []) ++ reverse (map (below q) xs) ≡ stack ++ reverse (map (below q) (xs ++ p ∷ []))
asked_one q stack xs p =
    append_assoc stack (below q p ∷ []) (reverse (map (below q) xs))
    ∙ ap (λ (l : List Asked). stack ++ l) (sym (ap reverse (map-append (below q) xs (p ∷ [])) ∙ reverse-append (map (below q) xs) (below q p ∷ [])))

pub reverse_asked : (stack more : List Asked) → reverse (stack ++ reverse more) ≡ more ++ reverse stack
reverse_asked stack more = reverse-append stack (reverse more) ∙ ap (λ (l : List Asked). l ++ reverse stack) (reverse-reverse more)

pub none_asked : (q : ℕ) (stack : List Asked) (xs : List Part) → xs ≡ [] → stack ++ reverse (map (below q) xs) ≡ stack
none_asked q stack xs e = ap (λ (l : List Part). stack ++ reverse (map (below q) l)) e ∙ append-nil stack

pub reverse_pushed : (stack : List Asked) (a : Asked) → reverse (stack ++ a ∷ []) ≡ a ∷ reverse stack
reverse_pushed stack a = reverse-append stack (a ∷ [])
