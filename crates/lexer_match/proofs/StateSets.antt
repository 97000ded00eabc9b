-- Sets of states that are lists with marks.
use Rattle.std.proofs.Common.{◌≡◌, ◌≢◌, ◌<◌, ◌≤◌, ◌+◌, ◌⊎◌, inl, inr, ℕ, zero, suc, Bool, true, false, List, [], ◌∷◌, ◌++◌}
use Rattle.std.proofs.Common.{slice_index_or, length, refl, sym, ap, ◌∙◌, subst, arith, length-append}
use Rattle.std.specs.List.{Contains}
use Rattle.std.proofs.Math.ListN.{set, length-set}
use Rattle.std.proofs.lemmas.Bool.{cases_lt}
use Rattle.std.proofs.lemmas.List.Elements.{Contains-push, Contains-push_cases, Contains-append_left}
use Rattle.lexer_match.specs.StateSets.{AreMarked}
use Rattle.lexer_match.specs.inner.StateSets.{HasGrown, unmarked}

pub index_within : (marks : List Bool) (n : ℕ) → slice_index_or marks n false ≡ true → n < length marks
index_within [] n e = absurd (cc)
index_within (b ∷ marks) zero e = omega arith
index_within (b ∷ marks) (suc n) e = omega (arith, index_within marks n e)

pub index_set_at : {X : Type 0} (xs : List X) (x d : X) (k : ℕ) → k < length xs → slice_index_or (set xs k x) k d ≡ x
index_set_at [] x d k h = absurd (omega (arith, h))
index_set_at (y ∷ xs) x d zero h = refl
index_set_at (y ∷ xs) x d (suc k) h = index_set_at xs x d k (omega arith)

pub index_set_other : {X : Type 0} (xs : List X) (x d : X) (k j : ℕ) → j ≢ k → slice_index_or (set xs k x) j d ≡ slice_index_or xs j d
index_set_other [] x d k j n = refl
index_set_other (y ∷ xs) x d zero zero n = absurd (n refl)
index_set_other (y ∷ xs) x d zero (suc j) n = refl
index_set_other (y ∷ xs) x d (suc k) zero n = refl
index_set_other (y ∷ xs) x d (suc k) (suc j) n = index_set_other xs x d k j (λ e. n (ap suc e))

pub index_before : {X : Type 0} (xs ys : List X) (d : X) (k : ℕ) → k < length xs → slice_index_or (xs ++ ys) k d ≡ slice_index_or xs k d
index_before [] ys d k h = absurd (omega (arith, h))
index_before (x ∷ xs) ys d zero h = refl
index_before (x ∷ xs) ys d (suc k) h = index_before xs ys d k (omega arith)

mark_counts : (marks : List Bool) (n : ℕ) → n < length marks → slice_index_or marks n false ≡ false → unmarked (set marks n true) + 1 ≡ unmarked marks
mark_counts [] n h e = absurd (omega (arith, h))
mark_counts (true ∷ marks) zero h e = absurd (cc)
mark_counts (false ∷ marks) zero h e = omega arith
mark_counts (true ∷ marks) (suc n) h e = mark_counts marks n (omega arith) e
mark_counts (false ∷ marks) (suc n) h e = omega (arith, mark_counts marks n (omega arith) e)

pub index_default : {X : Type 0} (xs : List X) (k : ℕ) (d f : X) → k < length xs → slice_index_or xs k d ≡ slice_index_or xs k f
index_default [] k d f h = absurd (omega (arith, h))
index_default (x ∷ xs) zero d f h = refl
index_default (x ∷ xs) (suc k) d f h = index_default xs k d f (omega arith)

pub eq_or_not : (m n : ℕ) → (m ≡ n) ⊎ (m ≢ n)
eq_or_not m n = pick (cases_lt m n) (cases_lt n m)
  where
    pick : (m < n) ⊎ (n ≤ m) → (n < m) ⊎ (m ≤ n) → (m ≡ n) ⊎ (m ≢ n)
    pick (inl h) k = inr (λ e. omega (arith, e, h))
    pick (inr h) (inl k) = inr (λ e. omega (arith, e, k))
    pick (inr h) (inr k) = inl (omega (arith, h, k))

-- a state that isn't marked is pushed and marked
pub push_marks : (states : List ℕ) (marks : List Bool) (state : ℕ) → state < length marks → slice_index_or marks state false ≡ false → AreMarked states marks
    → HasGrown states (states ++ state ∷ []) marks (set marks state true)
push_marks states marks state h fresh exact =
    record {
      size = length-set marks state true;
      exact = λ n. (to n (eq_or_not n state), back n (eq_or_not n state));
      longer = omega (arith, length-append states (state ∷ []));
      kept = λ k below. index_before states (state ∷ []) 0 k below;
      in_all = omega (arith, mark_counts marks state h fresh, length-append states (state ∷ []));
    }
  where
    to : (n : ℕ) → (n ≡ state) ⊎ (n ≢ state) → slice_index_or (set marks state true) n false ≡ true → Contains (states ++ state ∷ []) n
    to n (inl e) m = let P : ℕ → Type 0 = λ x. Contains (states ++ state ∷ []) x in subst P (sym e) (Contains-push states state)
    to n (inr d) m = Contains-append_left states (state ∷ []) n ((exact n).0 (sym (index_set_other marks true false state n d) ∙ m))

    back : (n : ℕ) → (n ≡ state) ⊎ (n ≢ state) → Contains (states ++ state ∷ []) n → slice_index_or (set marks state true) n false ≡ true
    back n (inl e) c = ap (λ x. slice_index_or (set marks state true) x false) e ∙ index_set_at marks true false state h
    back n (inr d) c = index_set_other marks true false state n d ∙ (exact n).1 (old (Contains-push_cases states state n c))
      where
        old : Contains states n ⊎ (state ≡ n) → Contains states n
        old (inl k) = k
        old (inr e) = absurd (d (sym e))

pub grown_not : (states : List ℕ) (marks : List Bool) → AreMarked states marks → HasGrown states states marks marks
grown_not states marks exact = record { size = refl; exact = exact; longer = omega arith; kept = λ k h. refl; in_all = refl }

pub grown_both : (a b c : List ℕ) (x y z : List Bool) → HasGrown a b x y → HasGrown b c y z → HasGrown a c x z
grown_both a b c x y z f g =
    record {
      size = g.size ∙ f.size;
      exact = g.exact;
      longer = omega (arith, f.longer, g.longer);
      kept = λ k h. g.kept k (omega (arith, h, f.longer)) ∙ f.kept k h;
      in_all = g.in_all ∙ f.in_all;
    }

pub grown_keeps : (a b : List ℕ) (x y : List Bool) → HasGrown a b x y → (n : ℕ) → Contains a n → Contains b n
grown_keeps a b x y g n (k, h, e) = (k, omega (arith, h, g.longer), same (omega (arith, h, g.longer)))
  where
    same : k < length b → slice_index_or b k n ≡ n
    same l = index_default b k n 0 l ∙ g.kept k h ∙ sym (index_default a k n 0 h) ∙ e

pub popped_inside : (first states rest : List ℕ) (marks : List Bool) (state size : ℕ) → AreMarked first marks → ((n : ℕ) → Contains states n → Contains first n)
    → states ≡ rest ++ state ∷ [] → size ≡ length marks → state < size
popped_inside first states rest marks state size exact inside e same =
    let P : List ℕ → Type 0 = λ x. Contains x state in
    omega (arith, same, index_within marks state ((exact state).1 (inside state (subst P (sym e) (Contains-push rest state)))))
