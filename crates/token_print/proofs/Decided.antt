-- What plain tests of texts decide: each is true exactly where something holds.
use Rattle.std.proofs.Common.{◌≡◌, ◌⊎◌, inl, inr, ◌↔◌, ℕ, zero, suc, ◌<◌, ◌≤◌, Bool, true, false, ◌&&◌, Option, Some, None, List}
use Rattle.std.proofs.Common.{[], ◌∷◌, ◌++◌, length, refl, sym, ap, subst, arith, true≢false, length-append}
use Rattle.std.specs.Bool.{Decides}
use Rattle.std.proofs.lemmas.Bool.{and_from, and_parts, cases_lt}
use Rattle.std.proofs.lemmas.Bool.Decides.{Decides-and, Decides-or}
use Rattle.grammar_tree.specs.Laws.{CutsInto}
use Rattle.token_print.specs.Reading.{Front, empty_front, is_cut, least_below, longest_front, or_empty, or_this}

pub decides_by : {b : Bool} {A B : Type 0} → A ↔ B → Decides b A → Decides b B
decides_by same d = (λ e. same.0 (d.0 e), λ x. d.1 (same.1 x))

pub always : {A : Type 0} → A → Decides true A
always a = (λ e. a, λ x. refl)

pub never : {A : Type 0} → (¬ A) → Decides false A
never none = (λ e. absurd (true≢false (sym e)), λ x. absurd (none x))

-- both, where the second need be decided only if the first holds
pub both_where : {a b : Bool} {A B : Type 0} → Decides a A → (A → Decides b B) → Decides (a && b) (A × B)
both_where {a} {b} {A} {B} d e = (λ is. there (and_parts a b is), λ (x, y). and_from a b (d.1 x) ((e x).1 y))
  where
    there : (a ≡ true) × (b ≡ true) → A × B
    there (p, q) = let x = d.0 p in (x, (e x).0 q)

-- how a text that begins with a character is cut
cut_more : (P Q : List ℕ → Type 0) (c : ℕ) (w : List ℕ) → ((P [] × Q (c ∷ w)) ⊎ CutsInto (λ u. P (c ∷ u)) Q w) ↔ CutsInto P Q (c ∷ w)
cut_more P Q c w = (there, λ (u, v, e, p, q). back u v e p q)
  where
    there : (P [] × Q (c ∷ w)) ⊎ CutsInto (λ u. P (c ∷ u)) Q w → CutsInto P Q (c ∷ w)
    there (inl (p, q)) = ([], c ∷ w, refl, p, q)
    there (inr (u, v, e, p, q)) = (c ∷ u, v, ap (λ l. c ∷ l) e, p, q)

    back : (u v : List ℕ) → c ∷ w ≡ u ++ v → P u → Q v → (P [] × Q (c ∷ w)) ⊎ CutsInto (λ u. P (c ∷ u)) Q w
    back [] v e p q = inl (p, subst Q (sym e) q)
    back (d ∷ u) v e p q =
        let first : d ≡ c = cc in
        let rest : w ≡ u ++ v = cc in
        let R : ℕ → Type 0 = λ x. P (x ∷ u) in inr (u, v, rest, subst R first p, q)

cut_none : (P Q : List ℕ → Type 0) → (P [] × Q []) ↔ CutsInto P Q []
cut_none P Q = (λ (p, q). ([], [], refl, p, q), λ (u, v, e, p, q). back u v e p q)
  where
    back : (u v : List ℕ) → [] ≡ u ++ v → P u → Q v → P [] × Q []
    back [] v e p q = (p, subst Q (sym e) q)
    back (d ∷ u) v e p q = absurd cc

-- whether a text is cut in two, where each part is decided
pub cut : (P Q : List ℕ → Type 0) (p q : List ℕ → Bool) (w : List ℕ) → ((u v : List ℕ) → w ≡ u ++ v → Decides (p u) (P u))
    → ((u v : List ℕ) → w ≡ u ++ v → Decides (q v) (Q v)) → Decides (is_cut p q w) (CutsInto P Q w)
cut P Q p q [] d e = decides_by (cut_none P Q) (Decides-and (p []) (q []) (d [] [] refl) (e [] [] refl))
cut P Q p q (c ∷ w) d e =
    decides_by (cut_more P Q c w)
    (Decides-or (p [] && q (c ∷ w)) (is_cut (λ u. p (c ∷ u)) q w)
    (Decides-and (p []) (q (c ∷ w)) (d [] (c ∷ w) refl) (e [] (c ∷ w) refl))
    (cut (λ u. P (c ∷ u)) Q (λ u. p (c ∷ u)) q w (λ u v f. d (c ∷ u) v (ap (λ l. c ∷ l) f)) (λ u v f. e (c ∷ u) v (ap (λ l. c ∷ l) f))))

-- It is the least number that passes; or none below the bound does.
abbrev pub IsLeast : (ℕ → Type 0) → ℕ → Option ℕ → Type 0
IsLeast P n (Some k) = P k × ((j : ℕ) → P j → k ≤ j)
IsLeast P n None = (k : ℕ) → k < n → ¬ P k

pub least : (P : ℕ → Type 0) (p : ℕ → Bool) → ((k : ℕ) → Decides (p k) (P k)) → (n : ℕ) → IsLeast P n (least_below p n)
least P p decides zero = λ k h x. omega (arith, h)
least P p decides (suc n) = step (least_below p n) (p n) (least P p decides n) (decides n)
  where
    below : ((k : ℕ) → k < n → ¬ P k) → (j : ℕ) → P j → (j < n) ⊎ (n ≤ j) → n ≤ j
    below none j p (inl h) = absurd (none j h p)
    below none j p (inr h) = h

    last : ((k : ℕ) → k < n → ¬ P k) → (¬ P n) → (k : ℕ) → k < suc n → P k → (k < n) ⊎ (n ≤ k) → ⊥
    last none never k h p (inl lt) = none k lt p
    last none never k h p (inr ge) = never (subst P (omega (arith, h, ge)) p)

    step : (o : Option ℕ) (b : Bool) → IsLeast P n o → Decides b (P n) → IsLeast P (suc n) (or_this o n b)
    step (Some k) b found d = found
    step None true none d = (d.0 refl, λ j x. below none j x (cases_lt j n))
    step None false none d = λ k h x. last none (λ y. true≢false (sym (d.1 y))) k h x (cases_lt k n)

-- The text's value is right for it; or no value is.
abbrev pub IsValue : (List ℕ → ℕ → Type 0) → List ℕ → Option ℕ → Type 0
IsValue V w (Some k) = V w k
IsValue V w None = (k : ℕ) → ¬ V w k

-- The beginning of the text is the longest one that has a value.
pub record IsLongestFront (V : List ℕ → ℕ → Type 0) (text front back : List ℕ) : Type 0 where
  pub cut : text ≡ front ++ back
  pub longest : (other rest : List ℕ) (k : ℕ) → text ≡ other ++ rest → V other k → length other ≤ length front

-- It is that, with its value; or no beginning has one.
abbrev pub IsFront : (List ℕ → ℕ → Type 0) → List ℕ → Option Front → Type 0
IsFront V text (Some front) = V front.piece front.kind × IsLongestFront V text front.piece front.rest
IsFront V text None = (front back : List ℕ) (k : ℕ) → text ≡ front ++ back → ¬ V front k

-- A beginning of a text that begins with c is empty, or goes on from there.
abbrev GoesOn : (List ℕ → ℕ → Type 0) → ℕ → (text f b : List ℕ) → ℕ → Type 0
GoesOn V c text f b k = (f ≡ []) ⊎ ((g : List ℕ) × (f ≡ c ∷ g) × (text ≡ g ++ b) × V (c ∷ g) k)

pub longest : (V : List ℕ → ℕ → Type 0) (value : List ℕ → Option ℕ) → ((w : List ℕ) → IsValue V w (value w)) → (text : List ℕ)
    → IsFront V text (longest_front value text)
longest V value is [] = step (value []) (is [])
  where
    empty : (f b : List ℕ) → [] ≡ f ++ b → f ≡ []
    empty [] b e = refl
    empty (c ∷ f) b e = absurd cc

    step : (o : Option ℕ) → IsValue V [] o → IsFront V [] (empty_front o [])
    step (Some k) v = (v, record { cut = refl; longest = λ f b j e n. omega (arith, ap length e, length-append f b) })
    step None none = λ f b k e v. let P : List ℕ → Type 0 = λ w. V w k in none k (subst P (empty f b e) v)
longest V value is (c ∷ text) =
    step (longest_front (λ u. value (c ∷ u)) text) (value []) (longest (λ u. V (c ∷ u)) (λ u. value (c ∷ u)) (λ u. is (c ∷ u)) text) (is [])
  where
    later : (f b : List ℕ) (k : ℕ) → c ∷ text ≡ f ++ b → V f k → GoesOn V c text f b k
    later [] b k e v = inl refl
    later (d ∷ f) b k e v =
        let first : d ≡ c = cc in
        let rest : text ≡ f ++ b = cc in
        let R : ℕ → Type 0 = λ x. V (x ∷ f) k in inr (f, ap (λ x. x ∷ f) first, rest, subst R first v)

    no_longer : (front back f b : List ℕ) (k : ℕ) → IsLongestFront (λ u. V (c ∷ u)) text front back → GoesOn V c text f b k → length f ≤ length (c ∷ front)
    no_longer front back f b k best (inl e) = omega (arith, ap length e)
    no_longer front back f b k best (inr (g, e, rest, v)) = omega (arith, ap length e, best.longest g b k rest v)

    only_empty : (f b : List ℕ) (k : ℕ) → ((g b : List ℕ) (k : ℕ) → text ≡ g ++ b → ¬ V (c ∷ g) k) → GoesOn V c text f b k → f ≡ []
    only_empty f b k none (inl e) = e
    only_empty f b k none (inr (g, e, rest, v)) = absurd (none g b k rest v)

    step : (o : Option Front) (s : Option ℕ) → IsFront (λ u. V (c ∷ u)) text o → IsValue V [] s → IsFront V (c ∷ text) (or_empty c text o s)
    step (Some front) s (v, best) start =
        (v, record { cut = ap (λ l. c ∷ l) best.cut; longest = λ f b k e n. no_longer front.piece front.rest f b k best (later f b k e n) })
    step None (Some j) none v = (v, record { cut = refl; longest = λ f b k e n. omega (arith, ap length (only_empty f b k none (later f b k e n))) })
    step None None none start = λ f b k e v. let P : List ℕ → Type 0 = λ w. V w k in start k (subst P (only_empty f b k none (later f b k e v)) v)
