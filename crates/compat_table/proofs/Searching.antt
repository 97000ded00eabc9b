-- A search from a rule finds exactly the symbols that it leads to.
use Rattle.std.proofs.Common.{◌≡◌, ◌⊎◌, inl, inr, ℕ, zero, suc, Bool, ◌+◌, ◌<◌, ◌≤◌, List, [], ◌∷◌, ◌++◌, Some, length, map}
use Rattle.std.proofs.Common.{slice_get, slice_index, get_or, refl, sym, ap, ◌∙◌, subst, arith, true≢false}
use Rattle.std.specs.Prelude.{◌≢◌, if◌then◌else◌, nat_eq, slice_set}
use Rattle.std.specs.Global.{Vec}
use Rattle.std.specs.List.{All, Contains, dedup, dedup_from}
use Rattle.std.proofs.lemmas.Bool.{cases_Bool, cases_lt, cond_both, ne_eqb}
use Rattle.std.proofs.lemmas.Bool.Decides.{Decides-eqb}
use Rattle.std.proofs.lemmas.List.{length-append, length-set, get_or_default, get_or-set_other}
use Rattle.std.proofs.lemmas.List.Elements.{Contains-append_left, Contains-append_right, Contains-append_cases}
use Rattle.std.proofs.lemmas.List.Sums.{sum_by-cons, sum_by-set}
use Rattle.std.proofs.lemmas.Option.{none-some, same_Some}
use Rattle.normal_form.specs.declared.normal.Sym.{Sym}
use Rattle.normal_form.specs.declared.normal.Sym.TheVariants.{Kind, Set, Rule}
use Rattle.compat_table.specs.inner.Rows.{HasEdge, IsAmong, IsGrown, IsMarked, IsRowOf, IsSearched, LeadsTo, Symbols, unmarked}
use Rattle.compat_table.specs.inner.View.{edges_of}
use Rattle.grammar_tree.proofs.Lent.{contains_cases, contains_first, contains_none}

-- Growing by nothing, and by one list after another.
pub grown_by_none : (row : Symbols) → IsGrown [] row row
grown_by_none row =
    record { only = λ t c. inl c; kept = λ t c. c; added = λ t c. absurd (contains_none t c); few = omega arith; longer = omega arith; front = λ k lt. refl }

pub grown_more : (xs ys : List Sym) (a b c : Symbols) → IsGrown xs a b → IsGrown ys b c → IsGrown (xs ++ ys) a c
grown_more xs ys a b c g h =
    record {
      only = λ t at. elim (h.only t at) [
        | inl old ↦ elim (g.only t old) [ inl older ↦ inl older | inr first ↦ inr (Contains-append_left xs ys t first) ]
        | inr second ↦ inr (Contains-append_right xs ys t second)
      ];
      kept = λ t at. h.kept t (g.kept t at);
      added = λ t at. elim (Contains-append_cases xs ys t at) [ inl first ↦ h.kept t (g.added t first) | inr second ↦ h.added t second ];
      few = omega (arith, g.few, h.few, length-append xs ys);
      longer = omega (arith, g.longer, h.longer);
      front = λ k lt. h.front k (omega (arith, g.longer, lt)) ∙ g.front k lt;
    }

only_one : (x y : ℕ) → Contains (x ∷ []) y → x ≡ y
only_one x y c = elim (contains_cases x [] y c) [ inl e ↦ e | inr none ↦ absurd (contains_none y none) ]

-- `dedup` leaves no more elements than there are.
length_from : {X : Type 0} (same : X → X → Bool) (k : X) (xs : List X) → length (dedup_from same k xs) ≤ suc (length xs)
length_from same k [] = omega arith
length_from same k (x ∷ xs) =
    cond_both (same x k) (dedup_from same k xs) (k ∷ dedup_from same x xs) (λ l. length l ≤ suc (suc (length xs)))
    (λ _. omega (arith, length_from same k xs))
    (λ _. omega (arith, length_from same x xs))

pub length_dedup : {X : Type 0} (same : X → X → Bool) (xs : List X) → length (dedup same xs) ≤ length xs
length_dedup same [] = omega arith
length_dedup same (x ∷ xs) = length_from same x xs

-- The list with one more at its end.
one_more_kept : (old new : List ℕ) (x y : ℕ) → new ≡ old ++ x ∷ [] → Contains old y → Contains new y
one_more_kept old new x y e c = let P : List ℕ → Type 0 = λ l. Contains l y in subst P (sym e) (Contains-append_left old (x ∷ []) y c)

one_more_there : (old new : List ℕ) (x : ℕ) → new ≡ old ++ x ∷ [] → Contains new x
one_more_there old new x e = let P : List ℕ → Type 0 = λ l. Contains l x in subst P (sym e) (Contains-append_right old (x ∷ []) x (contains_first x [] x refl))

one_more_only : (old new : List ℕ) (x y : ℕ) → new ≡ old ++ x ∷ [] → Contains new y → Contains old y ⊎ (x ≡ y)
one_more_only old new x y e c =
    let P : List ℕ → Type 0 = λ l. Contains l y in
    elim (Contains-append_cases old (x ∷ []) y (subst P e c)) [ inl before ↦ inl before | inr last ↦ inr (only_one x y last) ]

-- one where the mark is another number
abbrev other_mark : ℕ → ℕ → ℕ
other_mark number m = if nat_eq m number then 0 else 1

-- A rule that isn't marked is added and marked.
pub marked_more : (marks : List ℕ) (number r : ℕ) (row new : Symbols) → r < length marks → (slice_index marks r ≡ number → ⊥) → new.rules ≡ row.rules ++ r ∷ []
    → IsMarked marks number row → IsMarked (slice_set marks r number) number new
marked_more marks number r row new lt differs e m =
    let len : length (slice_set marks r number) ≡ length marks = length-set marks r number in
    record {
      known = λ q below is. elim (cases_Bool (nat_eq q r)) [
        | inl same ↦ let at : r ≡ q = sym ((Decides-eqb q r).0 same) in let P : ℕ → Type 0 =
            λ x. Contains new.rules x in subst P at (one_more_there row.rules new.rules r e)
        | inr other ↦
            let apart : q ≢ r = (λ same. true≢false (sym ((Decides-eqb q r).1 same) ∙ other)) in
            one_more_kept row.rules new.rules r q e (m.known q (omega (arith, below, len)) (sym (get_or-set_other marks r q number 0 apart) ∙ is))
      ];
      counted =
          let total = sum_by-set (other_mark number) marks r number 0 lt in
          let gone : other_mark number number ≡ 0 = ap (λ b. if b then 0 else 1) ((Decides-eqb number number).1 refl) in
          let was : other_mark number (slice_index marks r) ≡ 1 = ap (λ b. if b then 0 else 1) (ne_eqb (slice_index marks r) number differs) in
          omega (arith, total, gone, was, len, m.counted, ap length e, length-append row.rules (r ∷ []));
      within = λ q c. elim (one_more_only row.rules new.rules r q e c) [
        | inl before ↦ omega (arith, m.within q before, len)
        | inr last ↦ omega (arith, lt, len, last)
      ];
    }

-- With no rule in the row, no mark is the number.
pub unmarked_all : (marks : List ℕ) (number : ℕ) → All (λ m. m < number) marks → unmarked number marks ≡ length marks
unmarked_all [] number below = refl
unmarked_all (m ∷ marks) number below =
    let first : m < number = below 0 0 (omega arith) in
    let one : other_mark number m ≡ 1 = ap (λ b. if b then 0 else 1) (ne_eqb m number (λ same. omega (arith, first, same))) in
    let rest = unmarked_all marks number (λ k d lt. below (suc k) d (omega arith)) in
    let all : unmarked number (m ∷ marks) ≡ other_mark number m + unmarked number marks = sum_by-cons (other_mark number) m marks in
    omega (arith, one, rest, all)

pub marked_none : (marks : List ℕ) (number : ℕ) (row : Symbols) → row.rules ≡ [] → All (λ m. m < number) marks → IsMarked marks number row
marked_none marks number row e below =
    record {
      known = λ q lt is. let less : slice_index marks q < number = below q 0 lt in absurd (omega (arith, less, is));
      counted = omega (arith, unmarked_all marks number below, ap length e);
      within = λ q c. let P : List ℕ → Type 0 = λ l. Contains l q in absurd (contains_none q (subst P e c));
    }

-- No symbols.
pub none_among : (row : Symbols) → row ≡ record { kinds = []; sets = []; rules = [] } → (t : Sym) → IsAmong row t → ⊥
none_among row e (Kind k) c = let P : Symbols → Type 0 = λ s. Contains s.kinds k in contains_none k (subst P e c)
none_among row e (Set i) c = let P : Symbols → Type 0 = λ s. Contains s.sets i in contains_none i (subst P e c)
none_among row e (Rule q) c = let P : Symbols → Type 0 = λ s. Contains s.rules q in contains_none q (subst P e c)

-- an element that was read
pub got_at : {X Y : Type 0} (f : X → Y) (xs : List X) (i : ℕ) (x : X) → i < length xs → x ≡ get_or xs i x → slice_get (map f xs) i ≡ Some (f x)
got_at f [] i x lt e = absurd (omega (arith, lt))
got_at f (y ∷ xs) zero x lt e = ap (λ z. Some (f z)) (sym e)
got_at f (y ∷ xs) (suc i) x lt e = got_at f xs i x (omega arith) e

-- the edges of a rule that were read
pub row_at : (edges : List (Vec Sym)) (i : ℕ) (x : Vec Sym) (row : List Sym) → i < length edges → x ≡ get_or edges i x → row ≡ x.items
    → slice_get (edges_of edges) i ≡ Some row
row_at edges i x row lt e f = got_at (λ (v : Vec Sym). v.items) edges i x lt e ∙ ap Some (sym f)

-- what is at an index of a list with one more
pub got_more : {X Y : Type 0} (f : X → Y) (xs : List X) (x : X) (i : ℕ) (y : Y) → slice_get (map f (xs ++ x ∷ [])) i ≡ Some y
    → (slice_get (map f xs) i ≡ Some y) ⊎ ((i ≡ length xs) × (f x ≡ y))
got_more f [] x zero y e = inr (refl, same_Some (f x) y e)
got_more f [] x (suc i) y e = absurd (none-some y e)
got_more f (z ∷ xs) x zero y e = inl e
got_more f (z ∷ xs) x (suc i) y e = elim (got_more f xs x i y e) [ inl before ↦ inl before | inr last ↦ inr (ap suc last.0, last.1) ]

-- The search.
module _ (edges : List (List Sym)) (r : ℕ) where
  same_row : (i : ℕ) (t : Sym) (row : List Sym) → slice_get edges i ≡ Some row → HasEdge edges i t → Contains row t
  same_row i t row at (other, at', c) = let P : List Sym → Type 0 = λ l. Contains l t in subst P (same_Some other row (sym at' ∙ at)) c

  pub search_begun : (none row : Symbols) (symbols : List Sym) → slice_get edges r ≡ Some symbols → ((t : Sym) → IsAmong none t → ⊥) → IsGrown symbols none row
      → IsSearched edges r row 0
  search_begun none row symbols at empty g =
      record {
        sound = λ t c. elim (g.only t c) [ inl old ↦ absurd (empty t old) | inr new ↦ LeadsTo.by_edge r t (symbols, at, new) ];
        began = λ t edge. g.added t (same_row r t symbols at edge);
        closed = λ k t lt edge. absurd (omega (arith, lt));
      }

  -- what a rule leads to, and one symbol more
  further_from : (i q : ℕ) (u t : Sym) → u ≡ Rule q → LeadsTo edges i u → HasEdge edges q t → LeadsTo edges i t
  further_from i q u t e (LeadsTo.by_edge i' u' first) edge = let P : Sym → Type 0 =
      λ x. HasEdge edges i x in LeadsTo.by_edges i q t (subst P e first) (LeadsTo.by_edge q t edge)
  further_from i q u t e (LeadsTo.by_edges i' p u' first path) edge = LeadsTo.by_edges i p t first (further_from p q u t e path edge)

  further : (i q : ℕ) (t : Sym) → LeadsTo edges i (Rule q) → HasEdge edges q t → LeadsTo edges i t
  further i q t path edge = further_from i q (Rule q) t refl path edge

  pub search_more : (old new : Symbols) (symbols : List Sym) (done q : ℕ) → IsSearched edges r old done → done < length old.rules
      → q ≡ slice_index old.rules done → slice_get edges q ≡ Some symbols → IsGrown symbols old new → IsSearched edges r new (done + 1)
  search_more old new symbols done q s lt is at g =
      let there : Contains old.rules q = (done, lt, get_or_default old.rules done q 0 lt ∙ sym is) in
      record {
        sound = λ t c. elim (g.only t c) [ inl before ↦ s.sound t before | inr found ↦ further r q t (s.sound (Rule q) there) (symbols, at, found) ];
        began = λ t edge. g.kept t (s.began t edge);
        closed = λ k t below edge.
            let front : slice_index new.rules k ≡ slice_index old.rules k = g.front k (omega arith) in
            let P : ℕ → Type 0 = λ i. HasEdge edges i t in
            let before = subst P front edge in
            elim (cases_lt k done) [
              | inl earlier ↦ g.kept t (s.closed k t earlier before)
              | inr last ↦ let same : slice_index old.rules k ≡ q =
                  ap (λ i. slice_index old.rules i) (omega arith) ∙ sym is in g.added t (same_row q t symbols at (subst P same before))
            ];
      }

  all_found : (i : ℕ) (t : Sym) (row : Symbols) → IsSearched edges r row (length row.rules) → ((u : Sym) → HasEdge edges i u → IsAmong row u)
      → LeadsTo edges i t → IsAmong row t
  all_found i t row s first (LeadsTo.by_edge i' t' edge) = first t edge
  all_found i t row s first (LeadsTo.by_edges i' q t' edge path) =
      let it = first (Rule q) edge in
      all_found q t row s (λ u e. let P : ℕ → Type 0 = λ x. HasEdge edges x u in
      s.closed it.0 u it.1 (subst P (sym (get_or_default row.rules it.0 0 q it.1 ∙ it.2)) e)) path

  pub searched_whole : (row : Symbols) (done : ℕ) → IsSearched edges r row done → length row.rules ≤ done → done ≤ length row.rules → IsRowOf edges r row
  searched_whole row done s over under =
      let P : ℕ → Type 0 = λ n. IsSearched edges r row n in
      let whole = subst P (let e : done ≡ length row.rules = omega arith in e) s in
      record { sound = s.sound; complete = λ t path. all_found r t row whole s.began path }
