-- One text cut in two ways.
use Rattle.std.proofs.Common.{◌≡◌, ◌≤◌, ℕ, List, [], ◌∷◌, ◌++◌, length, refl, sym, ap₂, arith}

-- two beginnings of a text: the shorter one begins the longer one
pub begins : (u v f g : List ℕ) → u ++ v ≡ f ++ g → length u ≤ length f → (x : List ℕ) × (f ≡ u ++ x)
begins [] v f g e h = (f, refl)
begins (c ∷ u) v [] g e h = absurd (omega (arith, h))
begins (c ∷ u) v (d ∷ f) g e h =
    let heads : c ≡ d = cc in
    let tails : u ++ v ≡ f ++ g = cc in
    let (x, same) = begins u v f g tails (omega arith) in (x, ap₂ ◌∷◌ (sym heads) same)

-- beginnings of one length are the same
pub begins_same : (u v f g : List ℕ) → u ++ v ≡ f ++ g → length u ≡ length f → u ≡ f
begins_same [] v [] g e h = refl
begins_same [] v (d ∷ f) g e h = absurd (omega (arith, h))
begins_same (c ∷ u) v [] g e h = absurd (omega (arith, h))
begins_same (c ∷ u) v (d ∷ f) g e h =
    let heads : c ≡ d = cc in
    let tails : u ++ v ≡ f ++ g = cc in ap₂ ◌∷◌ heads (begins_same u v f g tails (omega (arith, h)))

-- what comes after the same beginning is the same
pub same_back : (done a b : List ℕ) → done ++ a ≡ done ++ b → a ≡ b
same_back [] a b e = e
same_back (x ∷ done) a b e = same_back done a b (cc)
