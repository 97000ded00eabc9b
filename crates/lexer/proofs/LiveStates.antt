-- Which states read something, and which are live.
use Rattle.std.proofs.Common.{◌≡◌, ◌≢◌, ◌↔◌, ◌<◌, ◌≤◌, ◌+◌, ◌⊎◌, inl, inr, ℕ, Bool, true, false, nat_eq, cond, List, [], ◌∷◌, ◌++◌, Some}
use Rattle.std.proofs.Common.{None, slice_get, slice_index_or, length, refl, sym, ap, ◌∙◌, subst, arith, true≢false}
use Rattle.std.specs.Prelude.{eqb, not}
use Rattle.std.proofs.Math.ListN.{set}
use Rattle.std.proofs.lemmas.Bool.{cases_lt, eq-eqb}
use Rattle.std.proofs.Math.Dec.{eqb-suc-zero}
use Rattle.grammar_check_nodes.specs.Graph.{HasEdge, Reaches}
use Rattle.grammar_check_nodes.proofs.Lent.{further}
use Rattle.grammar_tree.specs.Chars.{has}
use Rattle.lexer.specs.inner.Live.{AreReadFlags, LeadsFrom, LeadsTo, StepsFrom}
use Rattle.lexer_match.specs.declared.nfa.State.{State}
use Rattle.lexer_match.specs.Live.{AreLive, IsLive}
use Rattle.lexer_match.specs.Nfa.{GoesBelow, Reads, after}
use Rattle.lexer_match.specs.inner.StateSets.{GoesFrom}
use Rattle.lexer_match.proofs.Lent.{cond_some, get_within, eq_or_not, index_set_at, index_set_other, index_within}
use Rattle.std.proofs.lemmas.List.{get_or_append_left, get_or_at}
use Rattle.lexer.proofs.EmptyTexts.{from_inside}
use Rattle.lexer.proofs.Singles.{has_none}
use Rattle.regex_class.specs.Ranges.{IsCanonical, in_range, in_ranges, rises_from}

pub none_some : {X : Type 0} (x : X) → ¬ (None ≡ Some x)
none_some x e = cc

same_state : {X : Type 0} (x y : X) → Some x ≡ Some y → x ≡ y
same_state x y e = cc

-- a set that isn't empty has a character
pub some_char : (set : List (ℕ × ℕ)) → IsCanonical set → (set ≡ [] → ⊥) → (c : ℕ) × (has set c ≡ true)
unfolding in_ranges in_range rises_from
some_char [] canonical some = absurd (some refl)
some_char (r ∷ rs) canonical some = (r.0, grind (arith))

-- a set has a character exactly where it has a range
pub some_set : (set lent : List (ℕ × ℕ)) (empty : Bool) → lent ≡ set → empty ≡ eqb (length lent) 0 → IsCanonical set → (not empty ≡ true)
    ↔ ((c : ℕ) × (has set c ≡ true))
some_set [] lent empty e f canonical =
    let is : empty ≡ true = f ∙ ap (λ l. eqb (length l) 0) e in
    (λ h. absurd (true≢false (sym h ∙ ap not is)), λ (c, h). absurd (true≢false (sym h ∙ has_none c)))
some_set (r ∷ rs) lent empty e f canonical =
    let is : empty ≡ false = f ∙ ap (λ l. eqb (length l) 0) e ∙ eqb-suc-zero (length rs) in
    (λ h. some_char (r ∷ rs) canonical (λ bad. absurd (cc)), λ k. ap not is)

-- a state goes on after some character exactly where it steps
pub steps_by : (state : State) (next : ℕ) → StepsFrom state next ↔ ((c : ℕ) × (after state c ≡ Some next))
steps_by State.Never next = (λ s. absurd s, λ (c, e). absurd (cc))
steps_by (State.Char d m) next = (
  λ e. (d, ap (λ b. cond b (Some m) None) (eq-eqb d d refl) ∙ ap Some (sym e)),
  λ (c, e). sym (cond_some (nat_eq d c) m next e).1,
)
steps_by (State.Set set m) next = (
  λ (e, (c, h)). (c, ap (λ b. cond b (Some m) None) h ∙ ap Some (sym e)),
  λ (c, e). let both = cond_some (has set c) m next e in (sym both.1, (c, both.0)),
)
steps_by (State.Split a b) next = (λ s. absurd s, λ (c, e). absurd (cc))
steps_by (State.Call rule m) next = (λ s. absurd s, λ (c, e). absurd (cc))

-- a state of a closed NFA leads within it
pub leads_inside : (size : ℕ) (state : State) (next : ℕ) → GoesBelow size state → LeadsFrom state next → next < size
leads_inside size state next below (inr goes) = from_inside size state next below goes
leads_inside size State.Never next below (inl s) = absurd s
leads_inside size (State.Char c m) next below (inl e) = omega (arith, e, below)
leads_inside size (State.Set set m) next below (inl (e, some)) = omega (arith, e, below)
leads_inside size (State.Split a b) next below (inl s) = absurd s
leads_inside size (State.Call rule m) next below (inl s) = absurd s

-- a state that steps doesn't split
pub no_split : (state : State) (next other : ℕ) → StepsFrom state next → ¬ GoesFrom state other
no_split State.Never next other s g = g
no_split (State.Char c m) next other s g = g
no_split (State.Set set m) next other s g = g
no_split (State.Split a b) next other s g = s
no_split (State.Call rule m) next other s g = g

-- it steps to one state alone
pub one_step : (state : State) (next other : ℕ) → StepsFrom state next → StepsFrom state other → other ≡ next
one_step State.Never next other s t = absurd s
one_step (State.Char c m) next other s t = t ∙ sym s
one_step (State.Set set m) next other s t = t.0 ∙ sym s.0
one_step (State.Split a b) next other s t = absurd s
one_step (State.Call rule m) next other s t = absurd s

-- what a state that steps adds to the rows
pub step_added : (state : State) (next : ℕ) → StepsFrom state next → {A B : Type 0} (i j number : ℕ) → B ↔ (A ⊎ ((i ≡ next) × (j ≡ number))) → B
    ↔ (A ⊎ (LeadsFrom state i × (j ≡ number)))
step_added state next steps {A = A} {B = B} i j number f = (λ b. to (f.0 b), λ k. f.1 (back k))
  where
    to : A ⊎ ((i ≡ next) × (j ≡ number)) → A ⊎ (LeadsFrom state i × (j ≡ number))
    to (inl a) = inl a
    to (inr (e, k)) = let Q : ℕ → Type 0 = λ n. StepsFrom state n in inr (inl (subst Q (sym e) steps), k)

    back : A ⊎ (LeadsFrom state i × (j ≡ number)) → A ⊎ ((i ≡ next) × (j ≡ number))
    back (inl a) = inl a
    back (inr (inl s, k)) = inr (one_step state next i steps s, k)
    back (inr (inr g, k)) = absurd (no_split state next i steps g)

-- what a state that doesn't step adds
pub source_added : (state : State) → ((next : ℕ) → ¬ StepsFrom state next) → {A B : Type 0} (i j number : ℕ) → B ↔ (A ⊎ (GoesFrom state i × (j ≡ number))) → B
    ↔ (A ⊎ (LeadsFrom state i × (j ≡ number)))
source_added state never {A = A} {B = B} i j number f = (λ b. to (f.0 b), λ k. f.1 (back k))
  where
    to : A ⊎ (GoesFrom state i × (j ≡ number)) → A ⊎ (LeadsFrom state i × (j ≡ number))
    to (inl a) = inl a
    to (inr (g, k)) = inr (inr g, k)

    back : A ⊎ (LeadsFrom state i × (j ≡ number)) → A ⊎ (GoesFrom state i × (j ≡ number))
    back (inl a) = inl a
    back (inr (inl s, k)) = absurd (never i s)
    back (inr (inr g, k)) = inr (g, k)

module _ (P : List State) where
  -- the flags of the first states
  abbrev pub AreLiveBelow : ℕ → List Bool → Type 0
  AreLiveBelow i live = (n : ℕ) → n < i → (slice_index_or live n false ≡ true) ↔ IsLive P n

  pub live_more : (live new : List Bool) (i : ℕ) (b : Bool) → new ≡ live ++ b ∷ [] → length live ≡ i → (b ≡ true) ↔ IsLive P i → AreLiveBelow i live
      → AreLiveBelow (i + 1) new
  live_more live new i b e size here before n h = pick (cases_lt n i)
    where
      pick : (n < i) ⊎ (i ≤ n) → (slice_index_or new n false ≡ true) ↔ IsLive P n
      pick (inl l) =
          let same : slice_index_or new n false ≡ slice_index_or live n false =
          ap (λ x. slice_index_or x n false) e ∙ get_or_append_left live (b ∷ []) false n (omega (arith, l, size)) in
          (λ t. (before n l).0 (sym same ∙ t), λ k. same ∙ (before n l).1 k)
      pick (inr l) =
          let at : n ≡ i = omega (arith, h, l) in
          let same : slice_index_or new n false ≡ b = ap (λ x. slice_index_or x n false) e ∙ get_or_at live b [] false n (omega (arith, size, at)) in
          let Q : ℕ → Type 0 = λ m. IsLive P m in
          (λ t. subst Q (sym at) (here.0 (sym same ∙ t)), λ k. same ∙ here.1 (subst Q at k))

  pub live_all : (live : List Bool) (i : ℕ) → length live ≡ i → length P ≤ i → AreLiveBelow i live → AreLive P live
  live_all live i size h before n = pick (cases_lt n i)
    where
      pick : (n < i) ⊎ (i ≤ n) → (slice_index_or live n false ≡ true) ↔ IsLive P n
      pick (inl l) = before n l
      pick (inr l) = (
        λ t. absurd (omega (arith, l, size, index_within live n t)),
        λ (c, next, w, (state, at, step), r). absurd (omega (arith, l, h, get_within P state n at)),
      )

module _ (P : List State) where
  abbrev pub AreAllSources : List (List ℕ) → ℕ → Type 0
  AreAllSources rows number = (i j : ℕ) → HasEdge rows i j ↔ ((j < number) × LeadsTo P j i)

  pub all_sources_none : (rows : List (List ℕ)) → ((i j : ℕ) → ¬ HasEdge rows i j) → AreAllSources rows 0
  all_sources_none rows none i j = (λ h. absurd (none i j h), λ (h, g). absurd (omega (arith, h)))

  -- those of one state more
  pub all_sources_more : (rows new : List (List ℕ)) (number : ℕ) (state : State) → slice_get P number ≡ Some state
      → ((i j : ℕ) → HasEdge new i j ↔ (HasEdge rows i j ⊎ (LeadsFrom state i × (j ≡ number)))) → AreAllSources rows number → AreAllSources new (number + 1)
  all_sources_more rows new number state at more before i j = (λ h. to ((more i j).0 h), λ (h, g). (more i j).1 (back h g (cases_lt j number)))
    where
      to : HasEdge rows i j ⊎ (LeadsFrom state i × (j ≡ number)) → (j < number + 1) × LeadsTo P j i
      to (inl h) = let (k, g) = (before i j).0 h in (omega (arith, k), g)
      to (inr (h, e)) = (omega (arith, e), (state, ap (λ n. slice_get P n) e ∙ at, h))

      back : j < number + 1 → LeadsTo P j i → (j < number) ⊎ (number ≤ j) → HasEdge rows i j ⊎ (LeadsFrom state i × (j ≡ number))
      back h g (inl k) = inl ((before i j).1 (k, g))
      back h (other, found, leads) (inr k) =
          let e : j ≡ number = omega (arith, h, k) in
          let is : other ≡ state = same_state other state (sym found ∙ ap (λ n. slice_get P n) e ∙ at) in
          let Q : State → Type 0 = λ s. LeadsFrom s i in inr (subst Q is leads, e)

  pub all_sources_all : (rows : List (List ℕ)) (number : ℕ) → length P ≤ number → AreAllSources rows number → (i j : ℕ) → HasEdge rows i j ↔ LeadsTo P j i
  all_sources_all rows number h are i j =
      (λ e. ((are i j).0 e).1, λ (state, at, leads). (are i j).1 (omega (arith, h, get_within P state j at), (state, at, leads)))

  module _ (rows : List (List ℕ)) (edges : (i j : ℕ) → HasEdge rows i j ↔ LeadsTo P j i) where
    pub source_inside : (i j : ℕ) → HasEdge rows i j → j < length P
    source_inside i j edge = let (state, at, leads) = (edges i j).0 edge in get_within P state j at

    -- from a state that reads something a path leads back to the end
    reached : {n : ℕ} {w : List ℕ} → Reads P n w → (n ≡ 0) ⊎ Reaches rows 0 n
    reached Reads.at_end = inl refl
    reached (Reads.by_char n next state c w at step more) = inr (last (reached more))
      where
        edge : HasEdge rows next n
        edge = (edges next n).1 (state, at, inl ((steps_by state next).1 (c, step)))

        last : (next ≡ 0) ⊎ Reaches rows 0 next → Reaches rows 0 n
        last (inl zero_is) = let Q : ℕ → Type 0 = λ x. HasEdge rows x n in Reaches.by_edge 0 n (subst Q zero_is edge)
        last (inr path) = further rows 0 path n edge
    reached (Reads.by_split n first second next w at which more) = inr (last (reached more))
      where
        edge : HasEdge rows next n
        edge = (edges next n).1 (State.Split first second, at, inr which)

        last : (next ≡ 0) ⊎ Reaches rows 0 next → Reaches rows 0 n
        last (inl zero_is) = let Q : ℕ → Type 0 = λ x. HasEdge rows x n in Reaches.by_edge 0 n (subst Q zero_is edge)
        last (inr path) = further rows 0 path n edge

    edge_reads : {i j : ℕ} → HasEdge rows i j → ((w : List ℕ) × Reads P i w) → (w : List ℕ) × Reads P j w
    edge_reads {i = i} {j = j} edge (w, r) = let (state, at, leads) = (edges i j).0 edge in by state at leads
      where
        by : (state : State) → slice_get P j ≡ Some state → LeadsFrom state i → (v : List ℕ) × Reads P j v
        by state at (inl s) = let (c, step) = (steps_by state i).0 s in (c ∷ w, Reads.by_char j i state c w at step r)
        by (State.Split a b) at (inr goes) = (w, Reads.by_split j a b i w at goes r)
        by State.Never at (inr goes) = absurd goes
        by (State.Char c m) at (inr goes) = absurd goes
        by (State.Set set m) at (inr goes) = absurd goes
        by (State.Call rule m) at (inr goes) = absurd goes

    path_reads : {i j : ℕ} → Reaches rows i j → ((w : List ℕ) × Reads P i w) → (w : List ℕ) × Reads P j w
    path_reads (Reaches.by_edge i j edge) r = edge_reads edge r
    path_reads (Reaches.by_edges i m j edge path) r = path_reads path (edge_reads edge r)

    pub read_flags : (flags : List Bool) → 0 < length flags → ((j : ℕ) → (slice_index_or flags j false ≡ true) ↔ Reaches rows 0 j)
        → AreReadFlags P (set flags 0 true)
    read_flags flags some exact n = (to (eq_or_not n 0), λ (w, r). back (eq_or_not n 0) (reached r))
      where
        to : (n ≡ 0) ⊎ (n ≢ 0) → slice_index_or (set flags 0 true) n false ≡ true → (w : List ℕ) × Reads P n w
        to (inl e) h = let Q : ℕ → Type 0 = λ x. Reads P x [] in ([], subst Q (sym e) Reads.at_end)
        to (inr d) h = path_reads ((exact n).0 (sym (index_set_other flags true false 0 n d) ∙ h)) ([], Reads.at_end)

        back : (n ≡ 0) ⊎ (n ≢ 0) → (n ≡ 0) ⊎ Reaches rows 0 n → slice_index_or (set flags 0 true) n false ≡ true
        back (inl e) p = ap (λ x. slice_index_or (set flags 0 true) x false) e ∙ index_set_at flags true false 0 some
        back (inr d) (inl e) = absurd (d e)
        back (inr d) (inr path) = index_set_other flags true false 0 n d ∙ (exact n).1 path

  -- a state that steps to one from which something is read is live
  pub live_by : (flags : List Bool) (n : ℕ) (state : State) → AreReadFlags P flags → slice_get P n ≡ Some state
      → ((next : ℕ) × StepsFrom state next × (slice_index_or flags next false ≡ true)) ↔ IsLive P n
  live_by flags n state are at = (
    λ (next, s, flag). let (c, step) = (steps_by state next).0 s in let (w, r) = (are next).0 flag in (c, next, w, (state, at, step), r),
    λ (c, next, w, (other, found, step), r).
        let is : other ≡ state = same_state other state (sym found ∙ at) in
        let Q : State → Type 0 = λ x. after x c ≡ Some next in
        (next, (steps_by state next).1 (c, subst Q is step), (are next).1 (w, r)),
  )
