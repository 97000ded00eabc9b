-- A search from a node finds exactly what the node reaches.
use Rattle.std.proofs.Common.{◌≡◌, ◌⊎◌, inl, inr, ℕ, zero, suc, ◌+◌, ◌<◌, ◌≤◌, Bool, true, false, ◌||◌, List, [], ◌∷◌, Some, map, length}
use Rattle.std.proofs.Common.{slice_get, slice_index, slice_index_or, refl, sym, ap, ◌∙◌, subst, arith, true≢false, nat_eq}
use Rattle.std.specs.List.{All, Contains}
use Rattle.std.proofs.lemmas.Bool.{cases_Bool, cases_lt}
use Rattle.std.proofs.lemmas.Bool.Decides.{Decides-eqb}
use Rattle.std.proofs.lemmas.List.{length-append, length-map, get_or_default}
use Rattle.std.proofs.lemmas.List.Elements.{All-contains, All-same, Contains-get_or, Contains-append_left, Contains-append_right, Contains-append_cases}
use Rattle.std.proofs.lemmas.Option.{same_Some, slice_get_within}
use Rattle.std.proofs.Math.ListN.{get_or-append, get_or-eq_default}
use Rattle.grammar_check_nodes.specs.Graph.{AreTargets, HasEdge, IsClosed, IsOnCycle, Reaches}
use Rattle.grammar_check_nodes.specs.inner.Graph.{AreFound, IsSearched, NeverRises, is_among, with_new, with_row}

one_contains : (j x : ℕ) → Contains (j ∷ []) x → j ≡ x
one_contains j x (zero, lt, e) = e
one_contains j x (suc k, lt, e) = absurd (omega (arith, lt))

here : (j : ℕ) (js : List ℕ) (x : ℕ) → j ≡ x → Contains (j ∷ js) x
here j js x e = (0, omega arith, e)

later : (j : ℕ) (js : List ℕ) (x : ℕ) → Contains js x → Contains (j ∷ js) x
later j js x (k, lt, e) = (suc k, omega arith, e)

which : (j : ℕ) (js : List ℕ) (x : ℕ) → Contains (j ∷ js) x → (j ≡ x) ⊎ Contains js x
which j js x (zero, lt, e) = inl e
which j js x (suc k, lt, e) = inr (k, omega (arith, lt), e)

none_contained : (x : ℕ) → Contains [] x → ⊥
none_contained x (k, lt, e) = omega (arith, lt)

pub among_contains : (xs : List ℕ) (j : ℕ) → is_among xs j ≡ true → Contains xs j
among_contains [] j e = absurd (true≢false (sym e))
among_contains (x ∷ xs) j e = elim (cases_Bool (nat_eq x j)) [
  | inl same ↦ here x xs j ((Decides-eqb x j).0 same)
  | inr differ ↦ later x xs j (among_contains xs j (sym (ap (λ b. b || is_among xs j) differ) ∙ e))
]

pub contains_among : (xs : List ℕ) (j : ℕ) → Contains xs j → is_among xs j ≡ true
contains_among [] j c = absurd (none_contained j c)
contains_among (x ∷ xs) j c = elim (which x xs j c) [
  | inl same ↦ ap (λ b. b || is_among xs j) ((Decides-eqb x j).1 same)
  | inr more ↦ ap (λ b. nat_eq x j || b) (contains_among xs j more) ∙ or_true (nat_eq x j)
]
  where
    or_true : (b : Bool) → (b || true) ≡ true
    or_true true = refl
    or_true false = refl

-- what is contained after one more, and after a row
new_kept : (found : List ℕ) (j x : ℕ) → Contains found x → Contains (with_new found j) x
new_kept found j x c = elim (cases_Bool (is_among found j)) [ inl e ↦ rw e c | inr e ↦ rw e (Contains-append_left found (j ∷ []) x c) ]

new_there : (found : List ℕ) (j : ℕ) → Contains (with_new found j) j
new_there found j =
    elim (cases_Bool (is_among found j)) [ inl e ↦ rw e (among_contains found j e) | inr e ↦ rw e (Contains-append_right found (j ∷ []) j (here j [] j refl)) ]

new_only : (found : List ℕ) (j x : ℕ) → Contains (with_new found j) x → Contains found x ⊎ (j ≡ x)
new_only found j x c = elim (cases_Bool (is_among found j)) [
  | inl e ↦ inl (rw e at c)
  | inr e ↦ elim (Contains-append_cases found (j ∷ []) x (rw e at c)) [ inl old ↦ inl old | inr new ↦ inr (one_contains j x new) ]
]

new_front : (found : List ℕ) (j k d : ℕ) → k < length found → slice_index_or (with_new found j) k d ≡ slice_index_or found k d
new_front found j k d lt = elim (cases_Bool (is_among found j)) [ inl e ↦ rw e refl | inr e ↦ rw e (get_or-append found (j ∷ []) d k lt) ]

new_length : (found : List ℕ) (j : ℕ) → length found ≤ length (with_new found j)
new_length found j = elim (cases_Bool (is_among found j)) [ inl e ↦ rw e (omega arith) | inr e ↦ rw e (omega (arith, length-append found (j ∷ []))) ]

row_kept : (row found : List ℕ) (x : ℕ) → Contains found x → Contains (with_row found row) x
row_kept [] found x c = c
row_kept (j ∷ row) found x c = row_kept row (with_new found j) x (new_kept found j x c)

row_there : (row found : List ℕ) (x : ℕ) → Contains row x → Contains (with_row found row) x
row_there [] found x c = absurd (none_contained x c)
row_there (j ∷ row) found x c = elim (which j row x c) [
  | inl same ↦ let P : ℕ → Type 0 = λ y. Contains (with_row (with_new found j) row) y in subst P same (row_kept row (with_new found j) j (new_there found j))
  | inr more ↦ row_there row (with_new found j) x more
]

row_only : (row found : List ℕ) (x : ℕ) → Contains (with_row found row) x → Contains found x ⊎ Contains row x
row_only [] found x c = inl c
row_only (j ∷ row) found x c = elim (row_only row (with_new found j) x c) [
  | inl old ↦ elim (new_only found j x old) [ inl older ↦ inl older | inr same ↦ inr (here j row x same) ]
  | inr new ↦ inr (later j row x new)
]

pub row_length : (row found : List ℕ) → length found ≤ length (with_row found row)
row_length [] found = omega arith
row_length (j ∷ row) found = omega (arith, row_length row (with_new found j), new_length found j)

row_front : (row found : List ℕ) (k d : ℕ) → k < length found → slice_index_or (with_row found row) k d ≡ slice_index_or found k d
row_front [] found k d lt = refl
row_front (j ∷ row) found k d lt = row_front row (with_new found j) k d (omega (arith, new_length found j)) ∙ new_front found j k d lt

-- a flag that is set is one of the table
pub flag_within : (flags : List Bool) (j : ℕ) → slice_index_or flags j false ≡ true → j < length flags
flag_within [] j e = absurd (cc)
flag_within (f ∷ flags) zero e = omega arith
flag_within (f ∷ flags) (suc j) e = omega (arith, flag_within flags j e)

-- the row of a node that was read
pub row_at : {X : Type 0} (items : X → List ℕ) (edges : List X) (i : ℕ) (x : X) (row : List ℕ) → i < length edges → x ≡ slice_index_or edges i x → row ≡ items x
    → slice_get (map items edges) i ≡ Some row
row_at items [] i x row lt e f = absurd (omega (arith, lt))
row_at items (y ∷ edges) zero x row lt e f = ap Some (sym (f ∙ ap items e))
row_at items (y ∷ edges) (suc i) x row lt e f = row_at items edges i x row (omega arith) e f

module _ (rows : List (List ℕ)) (node : ℕ) where
  same_row : (i j : ℕ) (row : List ℕ) → slice_get rows i ≡ Some row → HasEdge rows i j → Contains row j
  same_row i j row at (other, at', c) = let P : List ℕ → Type 0 = λ r. Contains r j in subst P (same_Some other row (sym at' ∙ at)) c

  pub start : (row : List ℕ) → slice_get rows node ≡ Some row → IsSearched rows node (with_row [] row) 0
  start row at =
      record {
        sound = λ j c. elim (row_only row [] j c) [ inl none ↦ absurd (none_contained j none) | inr new ↦ Reaches.by_edge node j (row, at, new) ];
        began = λ j edge. row_there row [] j (same_row node j row at edge);
        closed = λ k j lt edge. absurd (omega (arith, lt));
      }

  -- a path and one more edge
  pub further : {i m : ℕ} → Reaches rows i m → (j : ℕ) → HasEdge rows m j → Reaches rows i j
  further (Reaches.by_edge i m edge) j more = Reaches.by_edges i m j edge (Reaches.by_edge m j more)
  further (Reaches.by_edges i k m edge path) j more = Reaches.by_edges i k j edge (further path j more)

  pub step : (found row : List ℕ) (done next : ℕ) → IsSearched rows node found done → done < length found → next ≡ slice_index found done
      → slice_get rows next ≡ Some row → IsSearched rows node (with_row found row) (done + 1)
  step found row done next s lt is at =
      record {
        sound = λ j c. elim (row_only row found j c) [
          | inl old ↦ s.sound j old
          | inr new ↦ further (s.sound next (done, lt, get_or_default found done next 0 lt ∙ sym is)) j (row, at, new)
        ];
        began = λ j edge. row_kept row found j (s.began j edge);
        closed = λ k j below edge.
            let front = row_front row found k 0 (omega arith) in
            let P : ℕ → Type 0 = λ i. HasEdge rows i j in
            let old = subst P front edge in
            elim (cases_lt k done) [
              | inl before ↦ row_kept row found j (s.closed k j before old)
              | inr last ↦ let same : slice_index found k ≡ next =
                  ap (λ i. slice_index found i) (omega arith) ∙ sym is in row_there row found j (same_row next j row at (subst P same old))
            ];
      }

  found_all : {found : List ℕ} {i j : ℕ} → IsSearched rows node found (length found) → Reaches rows i j → ((m : ℕ) → HasEdge rows i m → Contains found m)
      → Contains found j
  found_all s (Reaches.by_edge i j edge) first = first j edge
  found_all {found = found} s (Reaches.by_edges i m j edge path) first =
      let it = first m edge in
      found_all s path (λ l e. let P : ℕ → Type 0 = λ x. HasEdge rows x l in s.closed it.0 l it.1 (subst P (sym (get_or_default found it.0 0 m it.1 ∙ it.2)) e))

  pub all_found : (found : List ℕ) (j : ℕ) → IsSearched rows node found (length found) → Reaches rows node j → Contains found j
  all_found found j s path = found_all s path s.began

  pub within : (found : List ℕ) (done j : ℕ) → IsClosed rows → IsSearched rows node found done → Contains found j → j < length rows
  within found done j closed s c = last closed (s.sound j c)
    where
      last : {i m : ℕ} → IsClosed rows → Reaches rows i m → m < length rows
      last closed (Reaches.by_edge i m edge) = closed i m edge
      last closed (Reaches.by_edges i k m edge path) = last closed path

-- the nodes of a row are within the graph
pub row_within : {X : Type 0} (items : X → List ℕ) (edges : List X) (i : ℕ) (row : List ℕ) → IsClosed (map items edges)
    → slice_get (map items edges) i ≡ Some row → (k d : ℕ) → k < length row → slice_index_or row k d < length edges
row_within items edges i row closed at k d lt =
    omega (arith, closed i (slice_index_or row k d) (row, at, Contains-get_or row k d lt), length-map edges items)

-- so are those that a search has found
pub next_within : {X : Type 0} (items : X → List ℕ) (edges : List X) (node : ℕ) (found : List ℕ) (done next : ℕ) → IsClosed (map items edges)
    → IsSearched (map items edges) node found done → done < length found → next ≡ slice_index_or found done next → next < length edges
next_within items edges node found done next closed s lt is =
    omega (arith, within (map items edges) node found done next closed s (done, lt, sym is), length-map edges items)

-- where no edge leads to a greater number, no path does
reaches_below : {rows : List (List ℕ)} {i j : ℕ} (numbers : List ℕ) → NeverRises rows numbers → Reaches rows i j → slice_index numbers j ≤ slice_index numbers i
reaches_below numbers never (Reaches.by_edge i j edge) = never i j edge
reaches_below numbers never (Reaches.by_edges i m j edge path) = omega (arith, never i m edge, reaches_below numbers never path)

-- each edge of the node leads to a lesser number
abbrev pub FallsAt : List (List ℕ) → List ℕ → ℕ → Type 0
FallsAt rows numbers i = (j : ℕ) → HasEdge rows i j → slice_index numbers j < slice_index numbers i

reaches_lower : {rows : List (List ℕ)} {i j : ℕ} (numbers : List ℕ) → NeverRises rows numbers → FallsAt rows numbers i → Reaches rows i j
    → slice_index numbers j < slice_index numbers i
reaches_lower numbers never falls (Reaches.by_edge i j edge) = falls j edge
reaches_lower numbers never falls (Reaches.by_edges i m j edge path) = omega (arith, falls m edge, reaches_below numbers never path)

pub not_on_cycle : (rows : List (List ℕ)) (numbers : List ℕ) (i : ℕ) → NeverRises rows numbers → FallsAt rows numbers i → IsOnCycle rows i → ⊥
not_on_cycle rows numbers i never falls cycle = omega (arith, reaches_lower numbers never falls cycle)

pub falls_at : (rows : List (List ℕ)) (numbers : List ℕ) (i : ℕ) (row : List ℕ) → slice_get rows i ≡ Some row
    → ((j : ℕ) → Contains row j → slice_index numbers j < slice_index numbers i) → FallsAt rows numbers i
falls_at rows numbers i row at below j edge = below j (same_row rows i i j row at edge)

-- a node that reaches any has a row
has_row : {rows : List (List ℕ)} {i j : ℕ} → Reaches rows i j → i < length rows
has_row {rows = rows} (Reaches.by_edge i j (row, at, c)) = slice_get_within rows i row at
has_row {rows = rows} (Reaches.by_edges i m j (row, at, c) path) = slice_get_within rows i row at

pub on_cycle_within : {X : Type 0} (items : X → List ℕ) (edges : List X) (i : ℕ) → IsOnCycle (map items edges) i → i < length edges
on_cycle_within items edges i cycle = omega (arith, has_row cycle, length-map edges items)

-- rows whose nodes are within the graph
pub closed_rows : {X : Type 0} (items : X → List ℕ) (edges : List X) (n : ℕ) → n ≡ length edges → All (λ row. All (λ r. r < n) (items row)) edges
    → IsClosed (map items edges)
closed_rows {X = X} items edges n e all i j (row, at, c) = omega (arith, All-contains (λ r. r < n) row j (at_row edges i all at) c, length-map edges items)
  where
    at_row : (xs : List X) (k : ℕ) → All (λ x. All (λ r. r < n) (items x)) xs → slice_get (map items xs) k ≡ Some row → All (λ r. r < n) row
    at_row [] k a e = absurd cc
    at_row (x ∷ xs) zero a e = All-same (λ r. r < n) row (items x) (same_Some row (items x) (sym e)) (a 0 x (omega arith))
    at_row (x ∷ xs) (suc k) a e = at_row xs k (λ m d lt. a (suc m) d (omega arith)) e

-- the nodes of one more row
module _ (rows : List (List ℕ)) where
  pub row_found : (found row : List ℕ) (n : ℕ) → AreFound rows found n → slice_get rows n ≡ Some row → AreFound rows (with_row found row) (n + 1)
  row_found found row n are at =
      record {
        only = λ j c. elim (row_only row found j c) [ inl old ↦ are.only j old | inr new ↦ (n, (row, at, new)) ];
        all = λ i j lt edge. elim (cases_lt i n) [
          | inl before ↦ row_kept row found j (are.all i j before edge)
          | inr last ↦ let same : i ≡ n = omega arith in let P : ℕ → Type 0 =
              λ k. HasEdge rows k j in row_there row found j (same_row rows n n j row at (subst P same edge))
        ];
      }

  pub targets : (found : List ℕ) (flags : List Bool) → AreFound rows found (length rows) → IsClosed rows → length flags ≡ length rows
      → ((j : ℕ) → j < length flags → slice_index_or flags j false ≡ is_among found j) → AreTargets rows flags
  targets found flags are closed len agree j = (
    λ h. are.only j (among_contains found j (sym (agree j (flag_within j h)) ∙ h)),
    λ i edge. agree j (omega (arith, closed i j edge, len)) ∙ contains_among found j (are.all i j (edge_within i edge) edge),
  )
    where
      flag_within : (k : ℕ) → slice_index_or flags k false ≡ true → k < length flags
      flag_within k h = elim (cases_lt k (length flags)) [
        | inl lt ↦ lt
        | inr past ↦ absurd (true≢false (sym h ∙ get_or-eq_default flags false past))
      ]

      edge_within : (i : ℕ) → HasEdge rows i j → i < length rows
      edge_within i (row, at, c) = slice_get_within rows i row at

pub none_found : (rows : List (List ℕ)) → AreFound rows [] 0
none_found rows = record { only = λ j c. absurd (none_contained j c); all = λ i j lt edge. absurd (omega (arith, lt)) }
