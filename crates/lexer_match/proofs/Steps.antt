-- How reading goes on from states, without a character and after one.
use Rattle.std.proofs.Common.{◌≡◌, ◌<◌, ◌≤◌, ◌+◌, ◌⊎◌, inl, inr, ◌↔◌, ℕ, Bool, nat_eq, List, [], ◌∷◌, Some, None}
use Rattle.std.proofs.Common.{slice_get, slice_index_or, length, refl, sym, ap, ◌∙◌, subst, arith}
use Rattle.std.specs.List.{Contains}
use Rattle.std.proofs.lemmas.Bool.{cases_lt}
use Rattle.grammar_tree.specs.Chars.{has}
use Rattle.lexer_match.specs.declared.nfa.State.{State}
use Rattle.lexer_match.specs.Nfa.{Reads, GoesBelow, IsClosed, after}
use Rattle.lexer_match.specs.StateSets.{AreMarked, ReadsFrom, ReadsTo}
use Rattle.lexer_match.specs.inner.StateSets.{ComesAfter, GoesTo, HasGrown, IsFollowed}
use Rattle.lexer_match.proofs.States.{cond_some}
use Rattle.lexer_match.proofs.StateSets.{grown_keeps, index_default, index_within}

pub both_ways : {A B C : Type 0} → A ↔ B → B ↔ C → A ↔ C
both_ways f g = (λ a. g.0 (f.0 a), λ c. f.1 (g.1 c))

sum_map : {A B C D : Type 0} → (A → C) → (B → D) → A ⊎ B → C ⊎ D
sum_map f g (inl a) = inl (f a)
sum_map f g (inr b) = inr (g b)

sum_flat : {A B C : Type 0} → (A ⊎ B) ⊎ C → A ⊎ (B ⊎ C)
sum_flat (inl (inl a)) = inl a
sum_flat (inl (inr b)) = inr (inl b)
sum_flat (inr c) = inr (inr c)

sum_nested : {A B C : Type 0} → A ⊎ (B ⊎ C) → (A ⊎ B) ⊎ C
sum_nested (inl a) = inl (inl a)
sum_nested (inr (inl b)) = inl (inr b)
sum_nested (inr (inr c)) = inr c

pub or_same : {A B C : Type 0} → B ↔ C → (A ⊎ B) ↔ (A ⊎ C)
or_same f = (sum_map (λ a. a) f.0, sum_map (λ a. a) f.1)

same_state : {X : Type 0} (x y : X) → Some x ≡ Some y → x ≡ y
same_state x y e = cc

pub after_inside : (size : ℕ) (state : State) (c next : ℕ) → GoesBelow size state → after state c ≡ Some next → next < size
after_inside size State.Never c next b e = absurd (cc)
after_inside size (State.Char d m) c next b e = omega (arith, b, (cond_some (nat_eq d c) m next e).1)
after_inside size (State.Set s m) c next b e = omega (arith, b, (cond_some (has s c) m next e).1)
after_inside size (State.Split x y) c next b e = absurd (cc)
after_inside size (State.Call rule m) c next b e = absurd (cc)

split_inside : (P : List State) (n first second : ℕ) → IsClosed P → slice_get P n ≡ Some (State.Split first second) → (first < length P) × (second < length P)
split_inside P n first second closed g = closed n (State.Split first second) g

module _ (P : List State) where
  pub next_inside : (n : ℕ) (state : State) (c next : ℕ) → IsClosed P → slice_get P n ≡ Some state → after state c ≡ Some next → next < length P
  next_inside n state c next closed g e = after_inside (length P) state c next (closed n state g) e

  pub halves_inside : (n : ℕ) (state : State) (first second : ℕ) → IsClosed P → slice_get P n ≡ Some state → state ≡ State.Split first second
      → (first < length P) × (second < length P)
  halves_inside n state first second closed g e = split_inside P n first second closed (g ∙ ap Some e)

  pub reads_one : (n : ℕ) (state : State) (c next m : ℕ) → slice_get P n ≡ Some state → after state c ≡ Some next → (m ≡ next) ↔ ReadsTo P n c m
  reads_one n state c next m g e = (
    λ same. (state, g, e ∙ ap Some (sym same)),
    λ (other, h, f). same_state m next (sym f ∙ ap (λ x. after x c) (same_state other state (sym h ∙ g)) ∙ e),
  )

  pub reads_none : (n : ℕ) (state : State) (c m : ℕ) → slice_get P n ≡ Some state → after state c ≡ None → ¬ ReadsTo P n c m
  reads_none n state c m g e (other, h, f) = let k : None ≡ Some m = sym e ∙ ap (λ x. after x c) (same_state state other (sym g ∙ h)) ∙ f in absurd (cc)

  pub or_none : {A B : Type 0} → ¬ B → A ↔ (A ⊎ B)
  or_none {A} {B} f = (λ a. inl a, pick)
    where
      pick : A ⊎ B → A
      pick (inl a) = a
      pick (inr b) = absurd (f b)

  pub goes_both : (n : ℕ) (state : State) (first second m : ℕ) → slice_get P n ≡ Some state → state ≡ State.Split first second → ((m ≡ first) ⊎ (m ≡ second))
      ↔ GoesTo P n m
  goes_both n state first second m g e =
      (λ k. (first, second, g ∙ ap Some e, k), λ (x, y, h, k). pick x y (same_state (State.Split x y) (State.Split first second) (sym h ∙ g ∙ ap Some e)) k)
    where
      pick : (x y : ℕ) → State.Split x y ≡ State.Split first second → (m ≡ x) ⊎ (m ≡ y) → (m ≡ first) ⊎ (m ≡ second)
      pick x y f (inl k) = let same : x ≡ first = cc in inl (k ∙ same)
      pick x y f (inr k) = let same : y ≡ second = cc in inr (k ∙ same)

  pub goes_none : (n : ℕ) (state : State) (m : ℕ) → slice_get P n ≡ Some state → ((first second : ℕ) → ¬ (state ≡ State.Split first second)) → ¬ GoesTo P n m
  goes_none n state m g other (x, y, h, k) = other x y (same_state state (State.Split x y) (sym g ∙ h))

  pub two_added : (old mid new : List ℕ) (first second m : ℕ) → Contains mid m ↔ (Contains old m ⊎ (m ≡ first)) → Contains new m
      ↔ (Contains mid m ⊎ (m ≡ second)) → Contains new m ↔ (Contains old m ⊎ ((m ≡ first) ⊎ (m ≡ second)))
  two_added old mid new first second m f g = (
    λ c. sum_flat (sum_map f.0 (λ e. e) (g.0 c)),
    λ c. g.1 (sum_map f.1 (λ e. e) (sum_nested c)),
  )

  -- some state up to the index goes on at this one after the character
  abbrev pub UpTo : List ℕ → ℕ → ℕ → ℕ → Type 0
  UpTo before c i next = (k : ℕ) × (k < i) × ReadsTo P (slice_index_or before k 0) c next

  pub up_to_none : (before states : List ℕ) (c next : ℕ) → states ≡ [] → Contains states next ↔ UpTo before c 0 next
  up_to_none before states c next e =
      (λ (k, h, f). absurd (omega (arith, h, ap length e)), λ (k, h, r). absurd (omega (arith, h)))

  pub up_to_more : (before mid new : List ℕ) (c i next : ℕ) → Contains mid next ↔ UpTo before c i next → Contains new next
      ↔ (Contains mid next ⊎ ReadsTo P (slice_index_or before i 0) c next) → Contains new next ↔ UpTo before c (i + 1) next
  up_to_more before mid new c i next f g = (λ m. to (g.0 m), λ (k, h, r). g.1 (from k h r (cases_lt k i)))
    where
      to : Contains mid next ⊎ ReadsTo P (slice_index_or before i 0) c next → UpTo before c (i + 1) next
      to (inl m) = let (k, h, r) = f.0 m in (k, omega (arith, h), r)
      to (inr r) = (i, omega arith, r)

      from : (k : ℕ) → k < i + 1 → ReadsTo P (slice_index_or before k 0) c next → (k < i) ⊎ (i ≤ k) → Contains mid next
          ⊎ ReadsTo P (slice_index_or before i 0) c next
      from k h r (inl l) = inl (f.1 (k, l, r))
      from k h r (inr l) =
          let same : k ≡ i = omega (arith, h, l) in
          let Q : ℕ → Type 0 = λ x. ReadsTo P (slice_index_or before x 0) c next in inr (subst Q same r)

  pub up_to_all : (before states : List ℕ) (c i next : ℕ) → i ≡ length before → Contains states next ↔ UpTo before c i next → Contains states next
      ↔ ComesAfter P before c next
  up_to_all before states c i next e f = (λ m. to (f.0 m), λ (n, (k, h, g), r). f.1 (k, omega (arith, h, e), from n k h g r))
    where
      to : UpTo before c i next → ComesAfter P before c next
      to (k, h, r) = (slice_index_or before k 0, (k, omega (arith, h, e), index_default before k (slice_index_or before k 0) 0 (omega (arith, h, e))), r)

      from : (n k : ℕ) → k < length before → slice_index_or before k n ≡ n → ReadsTo P n c next → ReadsTo P (slice_index_or before k 0) c next
      from n k h g r = let Q : ℕ → Type 0 = λ x. ReadsTo P x c next in subst Q (sym g ∙ index_default before k n 0 h) r

  -- what is read from states that a state goes on at can be read from it
  pub goes_reads : (n next : ℕ) (w : List ℕ) → GoesTo P n next → Reads P next w → Reads P n w
  goes_reads n next w (first, second, at, which) r = Reads.by_split n first second next w at which r

  -- reading stays the same where states are added that one of the states goes on at
  pub sound_more : (first mid new : List ℕ) (state : ℕ) (w : List ℕ) → Contains mid state → ((n : ℕ) → Contains new n → Contains mid n ⊎ GoesTo P state n)
      → (ReadsFrom P mid w → ReadsFrom P first w) → ReadsFrom P new w → ReadsFrom P first w
  sound_more first mid new state w among members sound (n, c, r) = sound (pick (members n c))
    where
      pick : Contains mid n ⊎ GoesTo P state n → ReadsFrom P mid w
      pick (inl m) = (n, m, r)
      pick (inr g) = (state, among, goes_reads state n w g r)

  pub done_more : (mid new : List ℕ) (marks marked : List Bool) (index state : ℕ) → HasGrown mid new marks marked → index < length mid
      → state ≡ slice_index_or mid index 0 → ((n : ℕ) → GoesTo P state n → Contains new n) →
      ((k next : ℕ) → k < index → GoesTo P (slice_index_or mid k 0) next → Contains mid next) →
      (k next : ℕ) → k < index + 1 → GoesTo P (slice_index_or new k 0) next → Contains new next
  done_more mid new marks marked index state grown inside is here before k next h g = pick (cases_lt k index)
    where
      same : slice_index_or new k 0 ≡ slice_index_or mid k 0
      same = grown.kept k (omega (arith, h, inside))

      pick : (k < index) ⊎ (index ≤ k) → Contains new next
      pick (inl l) = let Q : ℕ → Type 0 = λ x. GoesTo P x next in grown_keeps mid new marks marked grown next (before k next l (subst Q same g))
      pick (inr l) =
          let at : k ≡ index = omega (arith, h, l) in
          let Q : ℕ → Type 0 = λ x. GoesTo P x next in
          here next (subst Q (same ∙ ap (λ x. slice_index_or mid x 0) at ∙ sym is) g)

  pub done_all : (states : List ℕ) (index n next : ℕ) → length states ≤ index
      → ((k next : ℕ) → k < index → GoesTo P (slice_index_or states k 0) next → Contains states next) → Contains states n → GoesTo P n next
      → Contains states next
  done_all states index n next h done (k, l, e) g =
      let Q : ℕ → Type 0 = λ x. GoesTo P x next in
      done k next (omega (arith, h, l)) (subst Q (sym e ∙ index_default states k n 0 l) g)

  -- one state alone
  pub one_reads : (none states : List ℕ) (state : ℕ) (w : List ℕ) → none ≡ [] → ((n : ℕ) → Contains states n ↔ (Contains none n ⊎ (n ≡ state)))
      → ReadsFrom P states w ↔ Reads P state w
  one_reads none states state w e members = (λ (n, c, r). to n r ((members n).0 c), λ r. (state, (members state).1 (inr refl), r))
    where
      to : (n : ℕ) → Reads P n w → Contains none n ⊎ (n ≡ state) → Reads P state w
      to n r (inl (k, h, f)) = absurd (omega (arith, h, ap length e))
      to n r (inr same) = let Q : ℕ → Type 0 = λ x. Reads P x w in subst Q same r

  pub read_step : (before : List ℕ) (c : ℕ) (w : List ℕ) → IsFollowed P before → {n : ℕ} {v : List ℕ} → Reads P n v → v ≡ c ∷ w → Contains before n → (next : ℕ)
      × ComesAfter P before c next × Reads P next w
  read_step before c w followed Reads.at_end e among = absurd (cc)
  read_step before c w followed (Reads.by_char n next state d u at step more) e among =
      let head : d ≡ c = cc in
      let tail : u ≡ w = cc in
      let Q : List ℕ → Type 0 = λ x. Reads P next x in
      (next, (n, among, (state, at, ap (λ x. after state x) (sym head) ∙ step)), subst Q tail more)
  read_step before c w followed (Reads.by_split n first second next u at which more) e among =
      read_step before c w followed more e (followed n next among (first, second, at, which))

  -- one character is read
  pub step_reads : (before states : List ℕ) (c : ℕ) (w : List ℕ) → IsFollowed P before → ((n : ℕ) → Contains states n ↔ ComesAfter P before c n)
      → ReadsFrom P states w ↔ ReadsFrom P before (c ∷ w)
  step_reads before states c w followed members = (
    λ (n, m, r). let (k, among, (state, at, step)) = (members n).0 m in (k, among, Reads.by_char k n state c w at step r),
    λ (n, among, r). let (next, comes, more) = read_step before c w followed r refl among in (next, (members next).1 comes, more),
  )

  read_end : (states : List ℕ) → IsFollowed P states → {n : ℕ} {v : List ℕ} → Reads P n v → v ≡ [] → Contains states n → Contains states 0
  read_end states followed Reads.at_end e among = among
  read_end states followed (Reads.by_char n next state d u at step more) e among = absurd (cc)
  read_end states followed (Reads.by_split n first second next u at which more) e among =
      read_end states followed more e (followed n next among (first, second, at, which))

  -- the end is among the states exactly where nothing more has to be read
  pub end_reads : (states : List ℕ) → IsFollowed P states → ReadsFrom P states [] ↔ Contains states 0
  end_reads states followed = (λ (n, among, r). read_end states followed r refl among, λ among. (0, among, Reads.at_end))

pub marked_inside : (states : List ℕ) (marks : List Bool) (size n : ℕ) → AreMarked states marks → length marks ≡ size → Contains states n → n < size
marked_inside states marks size n exact same c = omega (arith, index_within marks n ((exact n).1 c), same)
