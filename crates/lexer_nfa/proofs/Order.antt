-- How a list in order grows.
use Rattle.std.proofs.Common.{◌≡◌, ◌<◌, ◌≤◌, ◌⊎◌, inl, inr, ℕ, List, [], ◌∷◌, ◌++◌, ◌+◌, slice_index_or, length, take, drop, sym, ap, ◌∙◌, subst, arith}
use Rattle.std.specs.List.{Contains}
use Rattle.std.proofs.lemmas.List.{get_or-drop, get_or-take, get_or_default, length-drop, length-take-le}
use Rattle.std.proofs.lemmas.List.Elements.{Contains-get_or, Contains-push_cases}
use Rattle.std.proofs.lemmas.List.Quantifiers.{all_pairs_push}
use Rattle.lexer_nfa.specs.Order.{NeverFall}
use Rattle.lexer_nfa.specs.inner.Order.{AreUpTo}

module _ {X : Type 0} (key : X → ℕ) where
  pub up_to_none : (list : List X) (last : ℕ) → list ≡ [] → AreUpTo key list last
  up_to_none list last e =
      record {
        never_fall = λ i j d before within. absurd (omega (arith, before, within, ap length e));
        below = λ x (k, h, is). absurd (omega (arith, h, ap length e));
      }

  pub up_to_more : (list : List X) (last next : ℕ) → last ≤ next → AreUpTo key list last → AreUpTo key list next
  up_to_more list last next h u = record { never_fall = u.never_fall; below = λ x among. omega (arith, h, u.below x among) }

  pub up_to_push : (list new : List X) (x : X) (last : ℕ) → new ≡ list ++ x ∷ [] → key x ≡ last → AreUpTo key list last → AreUpTo key new last
  up_to_push list new x last e is u =
      let P : List X → Type 0 = λ l. NeverFall key l in
      let Q : List X → Type 0 = λ l. (y : X) → Contains l y → key y ≤ last in
      record {
        never_fall =
            subst P (sym e) (all_pairs_push (λ (a b : X). key a ≤ key b) list x u.never_fall
            (λ k d h. omega (arith, is, u.below (slice_index_or list k d) (Contains-get_or list k d h))));
        below = subst Q (sym e) (λ y among. pick y (Contains-push_cases list x y among));
      }
    where
      pick : (y : X) → Contains list y ⊎ (x ≡ y) → key y ≤ last
      pick y (inl k) = u.below y k
      pick y (inr same) = omega (arith, is, ap key same)

  -- a list in order is cut in two
  pub take_order : (n : ℕ) (list : List X) → n ≤ length list → NeverFall key list → NeverFall key (take n list)
  take_order n list h never i j d before within =
      let j_in : j < n = omega (arith, within, length-take-le n list h) in
      let left = get_or-take n list i d (omega (arith, before, j_in)) in
      let right = get_or-take n list j d j_in in
      omega (arith, never i j d before (omega (arith, j_in, h)), ap key left, ap key right)

  pub apart : (n : ℕ) (list : List X) → n ≤ length list → NeverFall key list → (a b : X) → Contains (take n list) a → Contains (drop n list) b → key a ≤ key b
  apart n list h never a b (i, k, e) (j, l, f) =
      let i_in : i < n = omega (arith, k, length-take-le n list h) in
      let at_a : slice_index_or list i a ≡ a = sym (get_or-take n list i a i_in) ∙ e in
      let at_b : slice_index_or list (n + j) b ≡ b = sym (get_or-drop n list j b) ∙ f in
      let inside : n + j < length list = omega (arith, l, length-drop n list, h) in
      omega (arith, never i (n + j) a (omega (arith, i_in)) inside, ap key at_a, ap key (get_or_default list (n + j) a b inside), ap key at_b)
