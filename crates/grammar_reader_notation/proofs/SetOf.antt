-- The set of the characters that pass a test is a set of characters, and has just these.
use Rattle.std.proofs.Common.{ℕ, zero, suc, ◌+◌, ◌≡◌, ◌≤◌, ◌<◌, Bool, true, false, not, ◌&&◌, ◌||◌, ◌==◌}
use Rattle.std.proofs.Common.{cond, nat_lt, List, [], ◌∷◌, refl, sym, ap, ◌∙◌, arith}
use Rattle.std.proofs.lemmas.Bool.Decides.{nat_tests}
use Rattle.std.specs.Char.{IsScalar}
use Rattle.grammar_tree.specs.Ranges.{in_range, in_ranges, rises_from, fits_from}
use Rattle.grammar_tree.specs.Chars.{is_surrogate, IsCharSet, HasExactlyChars}
use Rattle.grammar_tree.proofs.Lent.{same_chars}
use Rattle.grammar_reader_notation.specs.Sets.{and_number, ranges_below, set_of}

-- the ranges end below the number
abbrev Below : ℕ → List (ℕ × ℕ) → Type 0
Below n [] = Unit {0}
Below n (r ∷ []) = r.1 < n
Below n (r ∷ (q ∷ rs)) = Below n (q ∷ rs)

one_rises : (k n : ℕ) → k ≤ n → n ≤ 0x10FFFF → rises_from k ((n, n) ∷ []) ≡ true
unfolding rises_from
one_rises k n h l = grind (arith, nat_tests)

grown_rises : (k n : ℕ) (r : ℕ × ℕ) → rises_from k (r ∷ []) ≡ true → r.1 < n → n ≤ 0x10FFFF → rises_from k ((r.0, n) ∷ []) ≡ true
unfolding rises_from
grown_rises k n r h b l = grind (arith, nat_tests)

two_rise : (k n : ℕ) (r : ℕ × ℕ) → rises_from k (r ∷ []) ≡ true → r.1 < n → (suc r.1 == n) ≡ false → n ≤ 0x10FFFF → rises_from k (r ∷ (n, n) ∷ []) ≡ true
unfolding rises_from
two_rise k n r h b e l = grind (arith, nat_tests)

and_right : (a b : Bool) → (a && b) ≡ true → b ≡ true
and_right true b h = h
and_right false b h = cc h

and_left : (a b : Bool) → (a && b) ≡ true → a ≡ true
and_left true b h = refl
and_left false b h = cc h

and_true : (a b : Bool) → a ≡ true → b ≡ true → (a && b) ≡ true
and_true true b h k = k
and_true false b h k = cc h

tail_rises : (k : ℕ) (r : ℕ × ℕ) (rs : List (ℕ × ℕ)) → rises_from k (r ∷ rs) ≡ true → rises_from (r.1 + 2) rs ≡ true
unfolding rises_from
tail_rises k r rs h = and_right (fits_from k r) (rises_from (r.1 + 2) rs) h

head_rises : (k : ℕ) (r : ℕ × ℕ) (rs ss : List (ℕ × ℕ)) → rises_from k (r ∷ rs) ≡ true → rises_from (r.1 + 2) ss ≡ true → rises_from k (r ∷ ss) ≡ true
unfolding rises_from
head_rises k r rs ss h e = and_true (fits_from k r) (rises_from (r.1 + 2) ss) (and_left (fits_from k r) (rises_from (r.1 + 2) rs) h) e

pick : {A : Type 0} (P : A → Type 0) (b : Bool) {x y : A} → (b ≡ true → P x) → (b ≡ false → P y) → P (cond b x y)
pick P true p q = p refl
pick P false p q = q refl

rises_and : (k n : ℕ) (rs : List (ℕ × ℕ)) → rises_from k rs ≡ true → Below n rs → (rs ≡ [] → k ≤ n) → n ≤ 0x10FFFF → rises_from k (and_number rs n) ≡ true
rises_and k n [] h b f l = one_rises k n (f refl) l
rises_and k n (r ∷ []) h b f l = pick (λ x. rises_from k x ≡ true) (suc r.1 == n) (λ e. grown_rises k n r h b l) (λ e. two_rise k n r h b e l)
rises_and k n (r ∷ (q ∷ rs)) h b f l =
    head_rises k r (q ∷ rs) (and_number (q ∷ rs) n) h (rises_and (r.1 + 2) n (q ∷ rs) (tail_rises k r (q ∷ rs) h) b (λ e. cc e) l)

some_left : (rs : List (ℕ × ℕ)) (n : ℕ) → and_number rs n ≡ [] → ⊥
some_left [] n e = cc e
some_left (r ∷ []) n e = pick (λ x. x ≡ [] → ⊥) (suc r.1 == n) {x = (r.0, n) ∷ []} {y = r ∷ (n, n) ∷ []} (λ _ f. cc f) (λ _ f. cc f) e
some_left (r ∷ (q ∷ rs)) n e = cc e

below_cons : (n : ℕ) (r : ℕ × ℕ) (rs : List (ℕ × ℕ)) → (rs ≡ [] → ⊥) → Below n rs → Below n (r ∷ rs)
below_cons n r [] e b = absurd (e refl)
below_cons n r (q ∷ rs) e b = b

below_and : (rs : List (ℕ × ℕ)) (n : ℕ) → Below (suc n) (and_number rs n)
below_and [] n = omega arith
below_and (r ∷ []) n = pick (Below (suc n)) (suc r.1 == n) {x = (r.0, n) ∷ []} {y = r ∷ (n, n) ∷ []} (λ _. omega arith) (λ _. omega arith)
below_and (r ∷ (q ∷ rs)) n = below_cons (suc n) r (and_number (q ∷ rs) n) (some_left (q ∷ rs) n) (below_and (q ∷ rs) n)

below_more : (rs : List (ℕ × ℕ)) (n : ℕ) → Below n rs → Below (suc n) rs
below_more [] n b = tt
below_more (r ∷ []) n b = omega arith
below_more (r ∷ (q ∷ rs)) n b = below_more (q ∷ rs) n b

has_one : (n c : ℕ) → in_ranges ((n, n) ∷ []) c ≡ (in_ranges [] c || (c == n))
unfolding in_ranges in_range
has_one n c = grind (arith, nat_tests)

has_grown : (k n c : ℕ) (r : ℕ × ℕ) → rises_from k (r ∷ []) ≡ true → (suc r.1 == n) ≡ true → in_ranges ((r.0, n) ∷ []) c ≡ (in_ranges (r ∷ []) c || (c == n))
unfolding in_ranges in_range rises_from
has_grown k n c r h e = grind (arith, nat_tests)

has_two : (n c : ℕ) (r : ℕ × ℕ) → in_ranges (r ∷ (n, n) ∷ []) c ≡ (in_ranges (r ∷ []) c || (c == n))
unfolding in_ranges in_range
has_two n c r = grind (arith, nat_tests)

or_three : (a b x : Bool) → (a || (b || x)) ≡ ((a || b) || x)
or_three true b x = refl
or_three false b x = refl

has_and : (k : ℕ) (rs : List (ℕ × ℕ)) (n c : ℕ) → rises_from k rs ≡ true → in_ranges (and_number rs n) c ≡ (in_ranges rs c || (c == n))
unfolding in_ranges
has_and k [] n c h = has_one n c
has_and k (r ∷ []) n c h = pick (λ x. in_ranges x c ≡ (in_ranges (r ∷ []) c || (c == n))) (suc r.1 == n) (λ e. has_grown k n c r h e) (λ e. has_two n c r)
has_and k (r ∷ (q ∷ rs)) n c h =
    ap (λ b. in_range r c || b) (has_and (r.1 + 2) (q ∷ rs) n c (tail_rises k r (q ∷ rs) h)) ∙ or_three (in_range r c) (in_ranges (q ∷ rs) c) (c == n)

none_below : (c : ℕ) → nat_lt c 0 ≡ false
none_below c = grind (arith, nat_tests)

one_further : (n c : ℕ) → nat_lt c (suc n) ≡ (nat_lt c n || (c == n))
one_further n c = grind (arith, nat_tests)

same_number : (n c : ℕ) → (c == n) ≡ true → c ≡ n
same_number n c e = grind (arith, nat_tests)

spread : (a b q : Bool) → (b ≡ true → q ≡ true) → ((a && q) || b) ≡ ((a || b) && q)
spread true true q h = or_true q ∙ sym (h refl) where
  or_true : (q : Bool) → (q || true) ≡ true
  or_true true = refl
  or_true false = refl
spread true false true h = refl
spread true false false h = refl
spread false true q h = sym (h refl)
spread false false q h = refl

dropped : (a b q : Bool) → (b ≡ true → q ≡ false) → (a && q) ≡ ((a || b) && q)
dropped true b q h = refl
dropped false true q h = sym (h refl)
dropped false false q h = refl

all_rise : rises_from 0 [] ≡ true
unfolding rises_from
all_rise = refl

module _ (p : ℕ → Bool) where
  record Made (n : ℕ) : Type 0 where
    rises : rises_from 0 (ranges_below p n) ≡ true
    below : Below n (ranges_below p n)
    members : (c : ℕ) → in_ranges (ranges_below p n) c ≡ (nat_lt c n && p c)

  at_none : (c : ℕ) → in_ranges [] c ≡ (nat_lt c 0 && p c)
  unfolding in_ranges
  at_none c = sym (ap (λ b. b && p c) (none_below c))

  with_it : (n c : ℕ) → p n ≡ true → ((nat_lt c n && p c) || (c == n)) ≡ (nat_lt c (suc n) && p c)
  with_it n c e = spread (nat_lt c n) (c == n) (p c) (λ h. ap p (same_number n c h) ∙ e) ∙ ap (λ b. b && p c) (sym (one_further n c))

  without_it : (n c : ℕ) → p n ≡ false → (nat_lt c n && p c) ≡ (nat_lt c (suc n) && p c)
  without_it n c e = dropped (nat_lt c n) (c == n) (p c) (λ h. ap p (same_number n c h) ∙ e) ∙ ap (λ b. b && p c) (sym (one_further n c))

  made : (n : ℕ) → n ≤ 0x110000 → Made n
  made zero l = record { rises = all_rise; below = tt; members = at_none }
  made (suc n) l =
      let m : Made n = made n (omega arith) in
      let rs : List (ℕ × ℕ) = ranges_below p n in
      record {
        rises = pick (λ x. rises_from 0 x ≡ true) (p n) (λ _. rises_and 0 n rs m.rises m.below (λ _. omega arith) (omega arith)) (λ _. m.rises);
        below = pick (Below (suc n)) (p n) (λ _. below_and rs n) (λ _. below_more rs n m.below);
        members =
            λ c. pick (λ x. in_ranges x c ≡ (nat_lt c (suc n) && p c)) (p n)
            (λ e. has_and 0 rs n c m.rises ∙ ap (λ b. b || (c == n)) (m.members c) ∙ with_it n c e) (λ e. m.members c ∙ without_it n c e);
      }

surrogate_out : (a q x : Bool) → x ≡ true → (a && (q && not x)) ≡ false
surrogate_out a q false e = cc e
surrogate_out true true true e = refl
surrogate_out true false true e = refl
surrogate_out false q true e = refl

character_in : (a q x : Bool) → a ≡ true → x ≡ false → (a && (q && not x)) ≡ q
character_in true true false e h = refl
character_in true false false e h = refl
character_in false q x e h = cc e
character_in true q true e h = cc h

below_all : (c : ℕ) → IsScalar c → nat_lt c 0x110000 ≡ true
below_all c h = grind (arith, nat_tests)

no_surrogate : (c : ℕ) → IsScalar c → is_surrogate c ≡ false
no_surrogate c h = grind (arith, nat_tests)

characters : (p : ℕ → Bool) → Made (λ c. p c && not (is_surrogate c)) 0x110000
characters p = made (λ c. p c && not (is_surrogate c)) 0x110000 (omega arith)

pub set_of_is_set : (p : ℕ → Bool) → IsCharSet (set_of p)
unfolding set_of
set_of_is_set p = record {
  canonical = (characters p).rises;
  only_chars = λ c e. (characters p).members c ∙ surrogate_out (nat_lt c 0x110000) (p c) (is_surrogate c) e;
}

pub set_of_has : (p : ℕ → Bool) → HasExactlyChars (set_of p) p
unfolding set_of
set_of_has p c h = (characters p).members c ∙ character_in (nat_lt c 0x110000) (p c) (is_surrogate c) (below_all c h) (no_surrogate c h)

-- A set with just these characters is that set.
pub is_set_of : (s : List (ℕ × ℕ)) (p : ℕ → Bool) → IsCharSet s → HasExactlyChars s p → s ≡ set_of p
is_set_of s p h k = same_chars s (set_of p) h (set_of_is_set p) (λ c e. k c e ∙ sym (set_of_has p c e))
