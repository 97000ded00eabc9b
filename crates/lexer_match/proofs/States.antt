-- What each form of state reads, and how a list of states grows.
use Rattle.std.proofs.Common.{◌≡◌, ◌≢◌, ◌<◌, ◌≤◌, ◌⊎◌, inl, inr, ◌↔◌, ℕ, zero, suc, Bool, true, false, cond, nat_eq, List, []}
use Rattle.std.proofs.Common.{◌∷◌, ◌++◌, Some, None, slice_get, length, refl, sym, ap, ◌∙◌, subst, arith}
use Rattle.std.proofs.Math.ListN.{set}
use Rattle.grammar_tree.specs.Chars.{has}
use Rattle.lexer_match.specs.declared.nfa.State.{State}
use Rattle.lexer_match.specs.Nfa.{Reads, GoesBelow, after}

pub get_before : {X : Type 0} (xs ys : List X) (k : ℕ) → k < length xs → slice_get (xs ++ ys) k ≡ slice_get xs k
get_before [] ys k h = absurd (omega (arith, h))
get_before (x ∷ xs) ys zero h = refl
get_before (x ∷ xs) ys (suc k) h = get_before xs ys k (omega arith)

pub get_last : {X : Type 0} (xs : List X) (x : X) (k : ℕ) → k ≡ length xs → slice_get (xs ++ x ∷ []) k ≡ Some x
get_last [] x zero e = refl
get_last [] x (suc k) e = absurd (omega (arith, e))
get_last (y ∷ xs) x zero e = absurd (omega (arith, e))
get_last (y ∷ xs) x (suc k) e = get_last xs x k (omega (arith, e))

pub get_within : {X : Type 0} (xs : List X) (x : X) (k : ℕ) → slice_get xs k ≡ Some x → k < length xs
get_within [] x k e = absurd (cc)
get_within (y ∷ xs) x zero e = omega arith
get_within (y ∷ xs) x (suc k) e = omega (arith, get_within xs x k e)

pub set_at : {X : Type 0} (xs : List X) (x : X) (k : ℕ) → k < length xs → slice_get (set xs k x) k ≡ Some x
set_at [] x k h = absurd (omega (arith, h))
set_at (y ∷ xs) x zero h = refl
set_at (y ∷ xs) x (suc k) h = set_at xs x k (omega arith)

pub set_other : {X : Type 0} (xs : List X) (x : X) (k j : ℕ) → j ≢ k → slice_get (set xs k x) j ≡ slice_get xs j
set_other [] x k j n = refl
set_other (y ∷ xs) x zero zero n = absurd (n refl)
set_other (y ∷ xs) x zero (suc j) n = refl
set_other (y ∷ xs) x (suc k) zero n = refl
set_other (y ∷ xs) x (suc k) (suc j) n = set_other xs x k j (λ e. n (ap suc e))

pub below_more : (low high : ℕ) (state : State) → low ≤ high → GoesBelow low state → GoesBelow high state
below_more low high State.Never h b = b
below_more low high (State.Char c next) h b = omega (arith, b)
below_more low high (State.Set s next) h b = omega (arith, b)
below_more low high (State.Split x y) h b = (omega (arith, b.0), omega (arith, b.1))
below_more low high (State.Call rule next) h b = omega (arith, b)

two_options : {X : Type 0} (x y : X) → Some x ≡ Some y → x ≡ y
two_options x y e = cc

-- a character that is compared, and a next state
pub cond_some : (b : Bool) (next n : ℕ) → cond b (Some next) None ≡ Some n → (b ≡ true) × (next ≡ n)
cond_some true next n e = (refl, cc)
cond_some false next n e = absurd (cc)

module _ (P : List State) where
  -- how a state that isn't the end reads
  pub reads_in : {n : ℕ} {w : List ℕ} (state : State) → 0 < n → slice_get P n ≡ Some state → Reads P n w →
      ((c : ℕ) × (v : List ℕ) × (next : ℕ) × (w ≡ c ∷ v) × (after state c ≡ Some next) × Reads P next v)
      ⊎ ((a : ℕ) × (b : ℕ) × (next : ℕ) × (state ≡ State.Split a b) × ((next ≡ a) ⊎ (next ≡ b)) × Reads P next w)
  reads_in state h g Reads.at_end = absurd (omega (arith, h))
  reads_in state h g (Reads.by_char n next other c w at step more) =
      let same : other ≡ state = two_options other state (sym at ∙ g) in
      inl (c, w, next, refl, ap (λ x. after x c) (sym same) ∙ step, more)
  reads_in state h g (Reads.by_split n a b next w at which more) = inr (a, b, next, two_options state (State.Split a b) (sym g ∙ at), which, more)

  pub never_reads : (n : ℕ) (w : List ℕ) → 0 < n → slice_get P n ≡ Some State.Never → ¬ Reads P n w
  never_reads n w h g r = go (reads_in State.Never h g r)
    where
      go : ((c : ℕ) × (v : List ℕ) × (next : ℕ) × (w ≡ c ∷ v) × (None ≡ Some next) × Reads P next v)
          ⊎ ((a : ℕ) × (b : ℕ) × (next : ℕ) × (State.Never ≡ State.Split a b) × ((next ≡ a) ⊎ (next ≡ b)) × Reads P next w) → ⊥
      go (inl (c, v, next, e, none, more)) = absurd (cc)
      go (inr (a, b, next, bad, which, more)) = absurd (cc)

  pub call_reads : (n rule next : ℕ) (w : List ℕ) → 0 < n → slice_get P n ≡ Some (State.Call rule next) → ¬ Reads P n w
  call_reads n rule next w h g r = go (reads_in (State.Call rule next) h g r)
    where
      go : ((c : ℕ) × (v : List ℕ) × (m : ℕ) × (w ≡ c ∷ v) × (None ≡ Some m) × Reads P m v)
          ⊎ ((a : ℕ) × (b : ℕ) × (m : ℕ) × (State.Call rule next ≡ State.Split a b) × ((m ≡ a) ⊎ (m ≡ b)) × Reads P m w) → ⊥
      go (inl (c, v, m, e, none, more)) = absurd (cc)
      go (inr (a, b, m, bad, which, more)) = absurd (cc)

  abbrev pub Consumes : (ℕ → Type 0) → ℕ → List ℕ → Type 0
  Consumes Test next w = (c : ℕ) × (v : List ℕ) × (w ≡ c ∷ v) × Test c × Reads P next v

  pub set_reads : (n next : ℕ) (s : List (ℕ × ℕ)) (w : List ℕ) → 0 < n → slice_get P n ≡ Some (State.Set s next) → Reads P n w
      ↔ Consumes (λ c. has s c ≡ true) next w
  set_reads n next s w h g = (λ r. to (reads_in (State.Set s next) h g r), from)
    where
      to : ((c : ℕ) × (v : List ℕ) × (m : ℕ) × (w ≡ c ∷ v) × (cond (has s c) (Some next) None ≡ Some m) × Reads P m v)
          ⊎ ((a : ℕ) × (b : ℕ) × (m : ℕ) × (State.Set s next ≡ State.Split a b) × ((m ≡ a) ⊎ (m ≡ b)) × Reads P m w) → Consumes (λ c. has s c ≡ true) next w
      to (inl (c, v, m, e, step, more)) =
          let both = cond_some (has s c) next m step in
          let Q : ℕ → Type 0 = λ x. Reads P x v in (c, v, e, both.0, subst Q (sym both.1) more)
      to (inr (a, b, m, bad, which, more)) = absurd (cc)

      from : Consumes (λ c. has s c ≡ true) next w → Reads P n w
      from (c, v, e, test, more) =
          let Q : List ℕ → Type 0 = λ x. Reads P n x in
          subst Q (sym e) (Reads.by_char n next (State.Set s next) c v g (ap (λ b. cond b (Some next) None) test) more)

  pub char_reads : (n next d : ℕ) (w : List ℕ) → 0 < n → slice_get P n ≡ Some (State.Char d next) → Reads P n w ↔ Consumes (λ c. nat_eq d c ≡ true) next w
  char_reads n next d w h g = (λ r. to (reads_in (State.Char d next) h g r), from)
    where
      to : ((c : ℕ) × (v : List ℕ) × (m : ℕ) × (w ≡ c ∷ v) × (cond (nat_eq d c) (Some next) None ≡ Some m) × Reads P m v)
          ⊎ ((a : ℕ) × (b : ℕ) × (m : ℕ) × (State.Char d next ≡ State.Split a b) × ((m ≡ a) ⊎ (m ≡ b)) × Reads P m w) → Consumes (λ c. nat_eq d c ≡ true) next w
      to (inl (c, v, m, e, step, more)) =
          let both = cond_some (nat_eq d c) next m step in
          let Q : ℕ → Type 0 = λ x. Reads P x v in (c, v, e, both.0, subst Q (sym both.1) more)
      to (inr (a, b, m, bad, which, more)) = absurd (cc)

      from : Consumes (λ c. nat_eq d c ≡ true) next w → Reads P n w
      from (c, v, e, test, more) =
          let Q : List ℕ → Type 0 = λ x. Reads P n x in
          subst Q (sym e) (Reads.by_char n next (State.Char d next) c v g (ap (λ b. cond b (Some next) None) test) more)

  pub split_reads : (n a b : ℕ) (w : List ℕ) → 0 < n → slice_get P n ≡ Some (State.Split a b) → Reads P n w ↔ (Reads P a w ⊎ Reads P b w)
  split_reads n a b w h g = (λ r. to (reads_in (State.Split a b) h g r), from)
    where
      to : ((c : ℕ) × (v : List ℕ) × (m : ℕ) × (w ≡ c ∷ v) × (None ≡ Some m) × Reads P m v)
          ⊎ ((x : ℕ) × (y : ℕ) × (m : ℕ) × (State.Split a b ≡ State.Split x y) × ((m ≡ x) ⊎ (m ≡ y)) × Reads P m w) → Reads P a w ⊎ Reads P b w
      to (inl (c, v, m, e, none, more)) = absurd (cc)
      to (inr (x, y, m, e, inl k, more)) = let same : m ≡ a = cc in let Q : ℕ → Type 0 = λ z. Reads P z w in inl (subst Q same more)
      to (inr (x, y, m, e, inr k, more)) = let same : m ≡ b = cc in let Q : ℕ → Type 0 = λ z. Reads P z w in inr (subst Q same more)

      from : Reads P a w ⊎ Reads P b w → Reads P n w
      from (inl r) = Reads.by_split n a b a w g (inl refl) r
      from (inr r) = Reads.by_split n a b b w g (inr refl) r
