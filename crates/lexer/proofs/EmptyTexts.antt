-- Which states read the empty text: those from which a path of splits leads to the end.
use Rattle.std.proofs.Common.{◌≡◌, ◌≢◌, ◌↔◌, ◌<◌, ◌≤◌, ◌+◌, ◌⊎◌, inl, inr, ℕ, zero, suc, Bool, true, false, map, List, [], ◌∷◌, ◌++◌, Some}
use Rattle.std.proofs.Common.{slice_get, slice_index_or, length, refl, sym, ap, ◌∙◌, subst, arith, length-append}
use Rattle.std.specs.List.{Contains}
use Rattle.std.proofs.Math.ListN.{set}
use Rattle.std.proofs.lemmas.Bool.{cases_lt}
use Rattle.std.proofs.lemmas.List.Elements.{Contains-append_left, Contains-push, Contains-push_cases}
use Rattle.std.proofs.lemmas.Option.{same_Some}
use Rattle.grammar_check_nodes.specs.Graph.{HasEdge, Reaches}
use Rattle.grammar_check_nodes.proofs.Lent.{further, row_at}
use Rattle.lexer_match.specs.declared.nfa.State.{State}
use Rattle.lexer_match.specs.Nfa.{GoesBelow, IsClosed, Reads}
use Rattle.lexer_match.specs.inner.StateSets.{GoesFrom, GoesTo}
use Rattle.lexer_match.proofs.Lent.{get_before, get_last, get_within, set_at, set_other, eq_or_not, index_set_at, index_set_other}

-- one number more in one of the rows
row_pushed : (rows : List (List ℕ)) (index number : ℕ) (row : List ℕ) → slice_get rows index ≡ Some row → (i j : ℕ)
    → HasEdge (set rows index (row ++ number ∷ [])) i j ↔ (HasEdge rows i j ⊎ ((i ≡ index) × (j ≡ number)))
row_pushed rows index number row at i j = (λ (r, g, k). to (eq_or_not i index) r g k, back)
  where
    to : (i ≡ index) ⊎ (i ≢ index) → (r : List ℕ) → slice_get (set rows index (row ++ number ∷ [])) i ≡ Some r → Contains r j → HasEdge rows i j
        ⊎ ((i ≡ index) × (j ≡ number))
    to (inr d) r g k = inl (r, sym (set_other rows (row ++ number ∷ []) index i d) ∙ g, k)
    to (inl e) r g k =
        let q : Some (row ++ number ∷ []) ≡ Some r =
        sym (set_at rows (row ++ number ∷ []) index (get_within rows row index at)) ∙ ap (λ n. slice_get (set rows index (row ++ number ∷ [])) n) (sym e) ∙ g in
        let is : r ≡ (row ++ number ∷ []) = sym (same_Some (row ++ number ∷ []) r q) in
        let Q : List ℕ → Type 0 = λ l. Contains l j in pick (Contains-push_cases row number j (subst Q is k))
      where
        pick : Contains row j ⊎ (number ≡ j) → HasEdge rows i j ⊎ ((i ≡ index) × (j ≡ number))
        pick (inl k) = inl (row, ap (λ n. slice_get rows n) e ∙ at, k)
        pick (inr same) = inr (e, sym same)

    kept : (i ≡ index) ⊎ (i ≢ index) → (r : List ℕ) → slice_get rows i ≡ Some r → Contains r j → HasEdge (set rows index (row ++ number ∷ [])) i j
    kept (inr d) r g k = (r, set_other rows (row ++ number ∷ []) index i d ∙ g, k)
    kept (inl e) r g k =
        let q : Some row ≡ Some r = sym at ∙ ap (λ n. slice_get rows n) (sym e) ∙ g in
        let is : r ≡ row = sym (same_Some row r q) in
        let Q : List ℕ → Type 0 = λ l. Contains l j in (
          (row ++ number ∷ []),
          ap (λ n. slice_get (set rows index (row ++ number ∷ [])) n) e
              ∙ set_at rows (row ++ number ∷ []) index (get_within rows row index at),
          Contains-append_left row (number ∷ []) j (subst Q is k),
        )

    back : HasEdge rows i j ⊎ ((i ≡ index) × (j ≡ number)) → HasEdge (set rows index (row ++ number ∷ [])) i j
    back (inl (r, g, k)) = kept (eq_or_not i index) r g k
    back (inr (e, f)) =
        let Q : ℕ → Type 0 = λ n. Contains (row ++ number ∷ []) n in (
          (row ++ number ∷ []),
          ap (λ n. slice_get (set rows index (row ++ number ∷ [])) n) e
              ∙ set_at rows (row ++ number ∷ []) index (get_within rows row index at),
          subst Q (sym f) (Contains-push row number),
        )

map_set : {X : Type 0} (items : X → List ℕ) (rows : List X) (k : ℕ) (x : X) → map items (set rows k x) ≡ set (map items rows) k (items x)
map_set items [] k x = refl
map_set items (r ∷ rows) zero x = refl
map_set items (r ∷ rows) (suc k) x = ap (λ l. items r ∷ l) (map_set items rows k x)

pub edge_pushed : {X : Type 0} (items : X → List ℕ) (rows : List X) (index number : ℕ) (old new : X) → index < length rows → old ≡ slice_index_or rows index old
    → items new ≡ items old ++ number ∷ [] →
    (i j : ℕ) → HasEdge (map items (set rows index new)) i j ↔ (HasEdge (map items rows) i j ⊎ ((i ≡ index) × (j ≡ number)))
edge_pushed items rows index number old new inside is e i j =
    let same = map_set items rows index new ∙ ap (λ r. set (map items rows) index r) e in
    let Q : List (List ℕ) → Type 0 = λ l. HasEdge l i j ↔ (HasEdge (map items rows) i j ⊎ ((i ≡ index) × (j ≡ number))) in
    subst Q (sym same) (row_pushed (map items rows) index number (items old) (row_at items rows index old (items old) inside is refl) i j)

-- both edges of a state that splits
pub split_added : {A B C : Type 0} (state : State) (first second number i j : ℕ) → state ≡ State.Split first second → B ↔ (A ⊎ ((i ≡ first) × (j ≡ number))) → C
    ↔ (B ⊎ ((i ≡ second) × (j ≡ number))) → C ↔ (A ⊎ (GoesFrom state i × (j ≡ number)))
split_added {A} {B} {C} state first second number i j is f g = (λ c. to (g.0 c), back)
  where
    from_first : A ⊎ ((i ≡ first) × (j ≡ number)) → A ⊎ (GoesFrom state i × (j ≡ number))
    from_first (inl a) = inl a
    from_first (inr (e, k)) = let Q : State → Type 0 = λ s. GoesFrom s i in inr (subst Q (sym is) (inl e), k)

    to : B ⊎ ((i ≡ second) × (j ≡ number)) → A ⊎ (GoesFrom state i × (j ≡ number))
    to (inl b) = from_first (f.0 b)
    to (inr (e, k)) = let Q : State → Type 0 = λ s. GoesFrom s i in inr (subst Q (sym is) (inr e), k)

    which : (i ≡ first) ⊎ (i ≡ second) → j ≡ number → C
    which (inl e) k = g.1 (inl (f.1 (inr (e, k))))
    which (inr e) k = g.1 (inr (e, k))

    back : A ⊎ (GoesFrom state i × (j ≡ number)) → C
    back (inl a) = g.1 (inl (f.1 (inl a)))
    back (inr (goes, k)) = let Q : State → Type 0 = λ s. GoesFrom s i in which (subst Q is goes) k

pub split_inside : (state : State) (first second : ℕ) → state ≡ State.Split first second → GoesFrom state first × GoesFrom state second
split_inside state first second is =
    let Q : State → Type 0 = λ s. GoesFrom s first in
    let R : State → Type 0 = λ s. GoesFrom s second in (subst Q (sym is) (inl refl), subst R (sym is) (inr refl))

-- one row more, which is empty
pub no_edge_more : (rows new : List (List ℕ)) → new ≡ rows ++ [] ∷ [] → ((i j : ℕ) → ¬ HasEdge rows i j) → (i j : ℕ) → ¬ HasEdge new i j
no_edge_more rows new e none i j (r, g, k) = pick (cases_lt i (length rows))
  where
    at : slice_get (rows ++ [] ∷ []) i ≡ Some r
    at = ap (λ l. slice_get l i) (sym e) ∙ g

    nothing : {x : List ℕ} → x ≡ [] → ¬ Contains x j
    nothing q (n, h, is) = omega (arith, h, ap length q)

    pick : (i < length rows) ⊎ (length rows ≤ i) → ⊥
    pick (inl h) = none i j (r, sym (get_before rows ([] ∷ []) i h) ∙ at, k)
    pick (inr h) =
        let last : i ≡ length rows = omega (arith, h, get_within (rows ++ [] ∷ []) r i at, length-append rows ([] ∷ [])) in
        nothing (sym (same_Some [] r (sym (get_last rows [] i last) ∙ at))) k

-- a state of a closed NFA goes on within it
pub from_inside : (size : ℕ) (state : State) (next : ℕ) → GoesBelow size state → GoesFrom state next → next < size
from_inside size State.Never next below goes = absurd goes
from_inside size (State.Char c x) next below goes = absurd goes
from_inside size (State.Set s x) next below goes = absurd goes
from_inside size (State.Split a b) next below (inl e) = omega (arith, e, below.0)
from_inside size (State.Split a b) next below (inr e) = omega (arith, e, below.1)
from_inside size (State.Call rule x) next below goes = absurd goes

module _ (P : List State) where
  -- what the form of a state says of where it goes on
  pub goes_on : (n next : ℕ) (state : State) → slice_get P n ≡ Some state → GoesFrom state next ↔ GoesTo P n next
  goes_on n next state at =
      (from state at, λ (a, b, g, which). let Q : State → Type 0 = λ s. GoesFrom s next in subst Q (same_Some (State.Split a b) state (sym g ∙ at)) which)
    where
      from : (s : State) → slice_get P n ≡ Some s → GoesFrom s next → GoesTo P n next
      from State.Never g h = absurd h
      from (State.Char c x) g h = absurd h
      from (State.Set s x) g h = absurd h
      from (State.Split a b) g h = (a, b, g, h)
      from (State.Call rule x) g h = absurd h

  abbrev pub AreSources : List (List ℕ) → ℕ → Type 0
  AreSources rows number = (i j : ℕ) → HasEdge rows i j ↔ ((j < number) × GoesTo P j i)

  pub no_sources_yet : (rows : List (List ℕ)) → ((i j : ℕ) → ¬ HasEdge rows i j) → AreSources rows 0
  no_sources_yet rows none i j = (λ h. absurd (none i j h), λ (h, g). absurd (omega (arith, h)))

  -- those of one state more
  pub sources_more : (rows new : List (List ℕ)) (number : ℕ) (state : State) → slice_get P number ≡ Some state
      → ((i j : ℕ) → HasEdge new i j ↔ (HasEdge rows i j ⊎ (GoesFrom state i × (j ≡ number)))) → AreSources rows number → AreSources new (number + 1)
  sources_more rows new number state at more before i j = (λ h. to ((more i j).0 h), λ (h, g). (more i j).1 (back h g (cases_lt j number)))
    where
      to : HasEdge rows i j ⊎ (GoesFrom state i × (j ≡ number)) → (j < number + 1) × GoesTo P j i
      to (inl h) = let (k, g) = (before i j).0 h in (omega (arith, k), g)
      to (inr (h, e)) = let Q : ℕ → Type 0 = λ n. GoesTo P n i in (omega (arith, e), subst Q (sym e) ((goes_on number i state at).0 h))

      back : j < number + 1 → GoesTo P j i → (j < number) ⊎ (number ≤ j) → HasEdge rows i j ⊎ (GoesFrom state i × (j ≡ number))
      back h g (inl k) = inl ((before i j).1 (k, g))
      back h g (inr k) =
          let e : j ≡ number = omega (arith, h, k) in
          let Q : ℕ → Type 0 = λ n. GoesTo P n i in inr ((goes_on number i state at).1 (subst Q e g), e)

  pub sources_all : (rows : List (List ℕ)) (number : ℕ) → length P ≤ number → AreSources rows number → (i j : ℕ) → HasEdge rows i j ↔ GoesTo P j i
  sources_all rows number h are i j =
      (λ e. ((are i j).0 e).1, λ (a, b, g, which). (are i j).1 (omega (arith, h, get_within P (State.Split a b) j g), (a, b, g, which)))

  module _ (rows : List (List ℕ)) (edges : (i j : ℕ) → HasEdge rows i j ↔ GoesTo P j i) where
    -- edges lead to states of the NFA
    pub edge_inside : IsClosed P → (i j : ℕ) → HasEdge rows i j → j < length P
    edge_inside closed i j edge = let (first, second, at, which) = (edges i j).0 edge in get_within P (State.Split first second) j at

    -- from a state that reads nothing a path leads back to the end
    reached : {n : ℕ} {w : List ℕ} → Reads P n w → w ≡ [] → (n ≡ 0) ⊎ Reaches rows 0 n
    reached Reads.at_end e = inl refl
    reached (Reads.by_char n next state c w at step more) e = absurd (cc)
    reached (Reads.by_split n first second next w at which more) e = inr (last (reached more e))
      where
        edge : HasEdge rows next n
        edge = (edges next n).1 (first, second, at, which)

        last : (next ≡ 0) ⊎ Reaches rows 0 next → Reaches rows 0 n
        last (inl zero_is) = let Q : ℕ → Type 0 = λ x. HasEdge rows x n in Reaches.by_edge 0 n (subst Q zero_is edge)
        last (inr path) = further rows 0 path n edge

    split_reads : {i j : ℕ} → HasEdge rows i j → Reads P i [] → Reads P j []
    split_reads {i = i} {j = j} edge r = let (first, second, at, which) = (edges i j).0 edge in Reads.by_split j first second i [] at which r

    path_reads : {i j : ℕ} → Reaches rows i j → Reads P i [] → Reads P j []
    path_reads (Reaches.by_edge i j edge) r = split_reads edge r
    path_reads (Reaches.by_edges i m j edge path) r = path_reads path (split_reads edge r)

    pub read_nothing : (flags : List Bool) → 0 < length flags → ((j : ℕ) → (slice_index_or flags j false ≡ true) ↔ Reaches rows 0 j) → (n : ℕ)
        → (slice_index_or (set flags 0 true) n false ≡ true) ↔ Reads P n []
    read_nothing flags some exact n = (to (eq_or_not n 0), λ r. back (eq_or_not n 0) (reached r refl))
      where
        to : (n ≡ 0) ⊎ (n ≢ 0) → slice_index_or (set flags 0 true) n false ≡ true → Reads P n []
        to (inl e) h = let Q : ℕ → Type 0 = λ x. Reads P x [] in subst Q (sym e) Reads.at_end
        to (inr d) h = path_reads ((exact n).0 (sym (index_set_other flags true false 0 n d) ∙ h)) Reads.at_end

        back : (n ≡ 0) ⊎ (n ≢ 0) → (n ≡ 0) ⊎ Reaches rows 0 n → slice_index_or (set flags 0 true) n false ≡ true
        back (inl e) p = ap (λ x. slice_index_or (set flags 0 true) x false) e ∙ index_set_at flags true false 0 some
        back (inr d) (inl e) = absurd (d e)
        back (inr d) (inr path) = index_set_other flags true false 0 n d ∙ (exact n).1 path
