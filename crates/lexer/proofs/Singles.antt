-- Which characters kinds match by themselves, and which of them are gap text.
use Rattle.std.proofs.Common.{◌≡◌, ◌↔◌, ◌<◌, ◌≤◌, ◌+◌, ◌⊎◌, inl, inr, ℕ, zero, suc, Bool, true, false, cond, not, map, List, [], ◌∷◌, ◌++◌, Some}
use Rattle.std.proofs.Common.{None, slice_get, slice_index_or, length, refl, sym, ap, ◌∙◌, subst, arith, length-append, nat_eq}
use Rattle.std.specs.Prelude.{◌&&◌, ◌||◌}
use Rattle.std.specs.Char.{IsScalar}
use Rattle.std.specs.List.{Contains}
use Rattle.std.proofs.lemmas.Bool.{cases_lt}
use Rattle.std.proofs.lemmas.List.Elements.{Contains-append_cases, Contains-append_left, Contains-append_right, Contains-push, Contains-push_cases}
use Rattle.std.proofs.lemmas.Option.{same_Some, slice_get-get_or}
use Rattle.regex_class.specs.Ranges.{in_range, in_ranges}
use Rattle.grammar_tree.specs.Chars.{HasExactlyChars, has}
use Rattle.grammar_tree.specs.Lexes.{IsNext, KindMatches, LexesTo, Piece, is_gap_kind}
use Rattle.grammar_tree.specs.Written.{WrittenGrammar}
use Rattle.lexer.specs.declared.candidates.Beginning.{Beginning}
use Rattle.lexer.specs.declared.gaps.Decided.{Decided}
use Rattle.lexer.specs.declared.gaps.Singles.{Singles}
use Rattle.lexer_match.specs.declared.nfa.State.{State}
use Rattle.lexer_match.specs.declared.alternative.Alternative.{Alternative}
use Rattle.lexer_match.specs.Alternatives.{HasAlternative}
use Rattle.lexer_nfa.specs.GrammarNfa.{IsNfaOf}
use Rattle.lexer.specs.inner.Gaps.{AreDecided, AreEmptyFlags, AreGapChars, HasSingle, IsLastOf, IsLeastSingle, SinglesAreUpTo, SinglesNeverFall}
use Rattle.lexer_match.specs.Nfa.{Reads}
use Rattle.lexer_nfa.specs.Order.{NeverFall}
use Rattle.lexer_match.specs.Reading.{IsRead}
use Rattle.lexer_match.specs.StateSets.{AreFirst, ReadsTo}
use Rattle.lexer.specs.Tokens.{IsGapText}
use Rattle.lexer_match.proofs.Lent.{index_default, cond_some, get_within, both_ways, or_same}
use Rattle.lexer_nfa.proofs.Lent.{with_same}

-- the one character of a range
one_in : (d c : ℕ) → (in_ranges ((d, d) ∷ []) c ≡ true) ↔ (nat_eq d c ≡ true)
unfolding in_ranges in_range
one_in d c = grind (arith)

pub has_none : (c : ℕ) → has [] c ≡ false
unfolding in_ranges
has_none c = refl

-- the characters after which a state goes on at a flagged one
module _ (flags : List Bool) (next : ℕ) where
  pub char_last : (d : ℕ) (set : List (ℕ × ℕ)) → HasExactlyChars set (has ((d, d) ∷ [])) → slice_index_or flags next false ≡ true → (c : ℕ) → IsScalar c
      → (has set c ≡ true) ↔ IsLastOf flags (State.Char d next) c
  char_last d set exact flag c scalar = (
    λ h. (next, ap (λ b. cond b (Some next) None) ((one_in d c).0 (sym (exact c scalar) ∙ h)), flag),
    λ (n, step, f). exact c scalar ∙ (one_in d c).1 (cond_some (nat_eq d c) next n step).0,
  )

  pub set_last : (old set : List (ℕ × ℕ)) → set ≡ old → slice_index_or flags next false ≡ true → (c : ℕ) → IsScalar c → (has set c ≡ true)
      ↔ IsLastOf flags (State.Set old next) c
  set_last old set same flag c scalar = (
    λ h. (next, ap (λ b. cond b (Some next) None) (ap (λ s. has s c) (sym same) ∙ h), flag),
    λ (n, step, f). ap (λ s. has s c) same ∙ (cond_some (has old c) next n step).0,
  )

abbrev one : ℕ → List (ℕ × ℕ) → Singles
one kind set = record { kind = kind; set = set }

-- characters of one kind more
pub single_pushed : (list new : List Singles) (kind : ℕ) (set : List (ℕ × ℕ)) (k c : ℕ) → new ≡ list ++ record { kind = kind; set = set } ∷ []
    → HasSingle new k c ↔ (HasSingle list k c ⊎ ((k ≡ kind) × (has set c ≡ true)))
single_pushed list new kind set k c e = (
  λ (s, among, is, h). let Q : List Singles → Type 0 = λ l. Contains l s in to s is h (Contains-push_cases list (one kind set) s (subst Q e among)),
  back,
)
  where
    to : (s : Singles) → s.kind ≡ k → has s.set c ≡ true → Contains list s ⊎ ((one kind set) ≡ s) → HasSingle list k c ⊎ ((k ≡ kind) × (has set c ≡ true))
    to s is h (inl among) = inl (s, among, is, h)
    to s is h (inr same) = inr (sym is ∙ sym (ap (λ (x : Singles). x.kind) same), ap (λ (x : Singles). has x.set c) same ∙ h)

    back : HasSingle list k c ⊎ ((k ≡ kind) × (has set c ≡ true)) → HasSingle new k c
    back (inl (s, among, is, h)) = let Q : List Singles → Type 0 =
        λ l. Contains l s in (s, subst Q (sym e) (Contains-append_left list ((one kind set) ∷ []) s among), is, h)
    back (inr (is, h)) = let Q : List Singles → Type 0 =
        λ l. Contains l (one kind set) in ((one kind set), subst Q (sym e) (Contains-push list (one kind set)), sym is, h)

-- an element of a list, and of the list of its parts
pub get_contains : {X : Type 0} (xs : List X) (x : X) (k : ℕ) → slice_get xs k ≡ Some x → Contains xs x
get_contains xs x k at = (k, get_within xs x k at, same_Some (slice_index_or xs k x) x (sym (slice_get-get_or xs k x (get_within xs x k at)) ∙ at))

pub mapped_get : (list : List Beginning) (b : Beginning) (k : ℕ) → slice_get list k ≡ Some b
    → slice_get (map (λ (x : Beginning). x.alternative) list) k ≡ Some b.alternative
mapped_get [] b k at = absurd (cc)
mapped_get (x ∷ list) b zero at = ap (λ (y : Beginning). Some y.alternative) (same_Some x b at)
mapped_get (x ∷ list) b (suc k) at = mapped_get list b k at

unmapped_get : (list : List Beginning) (a : Alternative) (k : ℕ) → slice_get (map (λ (x : Beginning). x.alternative) list) k ≡ Some a → (b : Beginning)
    × (slice_get list k ≡ Some b) × (b.alternative ≡ a)
unmapped_get [] a k at = absurd (cc)
unmapped_get (x ∷ list) a zero at = (x, refl, same_Some x.alternative a at)
unmapped_get (x ∷ list) a (suc k) at = unmapped_get list a k at

-- those after which a state goes on at a flagged one
pub pushed_single : (list new : List Singles) (kind : ℕ) (set : List (ℕ × ℕ)) (k c : ℕ) → new ≡ list ++ record { kind = kind; set = set } ∷ []
    → (flags : List Bool) (state form : State) → state ≡ form → (has set c ≡ true) ↔ IsLastOf flags form c → HasSingle new k c
    ↔ (HasSingle list k c ⊎ ((k ≡ kind) × IsLastOf flags state c))
pushed_single list new kind set k c e flags state form is last =
    let Q : State → Type 0 = λ s. (has set c ≡ true) ↔ IsLastOf flags s c in
    both_ways (single_pushed list new kind set k c e) (or_same (with_same k kind (subst Q (sym is) last)))

-- the first two of three that are added at once
pub sum_more : {A B C E X Y Z : Type 0} → B ↔ (A ⊎ (E × X)) → C ↔ (B ⊎ (E × Y)) → (X ⊎ Y) ↔ Z → C ↔ (A ⊎ (E × Z))
sum_more {A} {B} {C} {E} {X} {Y} {Z} f g h = (λ c. to (g.0 c), back)
  where
    second : A ⊎ (E × X) → A ⊎ (E × Z)
    second (inl a) = inl a
    second (inr (e, x)) = inr (e, h.0 (inl x))

    to : B ⊎ (E × Y) → A ⊎ (E × Z)
    to (inl b) = second (f.0 b)
    to (inr (e, y)) = inr (e, h.0 (inr y))

    which : E → X ⊎ Y → C
    which e (inl x) = g.1 (inl (f.1 (inr (e, x))))
    which e (inr y) = g.1 (inr (e, y))

    back : A ⊎ (E × Z) → C
    back (inl a) = g.1 (inl (f.1 (inl a)))
    back (inr (e, z)) = which e (h.1 z)

-- The alternative matches the character by itself.
module _ (P : List State) (flags : List Bool) where
  -- one of the first states, up to this index, goes on at a flagged one after the character
  abbrev pub LastUpTo : List ℕ → ℕ → ℕ → Type 0
  LastUpTo states i c = (m : ℕ) × (m < i) × (state : State) × (slice_get P (slice_index_or states m 0) ≡ Some state) × IsLastOf flags state c

  pub last_none : (states : List ℕ) (c : ℕ) → ¬ LastUpTo states 0 c
  last_none states c (m, h, s, g, last) = absurd (omega (arith, h))

  pub last_more : (states : List ℕ) (i c : ℕ) (state : State) → slice_get P (slice_index_or states i 0) ≡ Some state
      → (LastUpTo states i c ⊎ IsLastOf flags state c) ↔ LastUpTo states (i + 1) c
  last_more states i c state at = (to, λ (m, h, s, g, last). back m s g last (cases_lt m i) h)
    where
      to : LastUpTo states i c ⊎ IsLastOf flags state c → LastUpTo states (i + 1) c
      to (inl (m, h, s, g, last)) = (m, omega (arith, h), s, g, last)
      to (inr last) = (i, omega arith, state, at, last)

      back : (m : ℕ) (s : State) → slice_get P (slice_index_or states m 0) ≡ Some s → IsLastOf flags s c → (m < i) ⊎ (i ≤ m) → m < i + 1 → LastUpTo states i c
          ⊎ IsLastOf flags state c
      back m s g last (inl k) h = inl (m, k, s, g, last)
      back m s g last (inr k) h =
          let e : m ≡ i = omega (arith, h, k) in
          let q : Some state ≡ Some s = sym at ∙ ap (λ n. slice_get P (slice_index_or states n 0)) (sym e) ∙ g in
          let Q : State → Type 0 = λ x. IsLastOf flags x c in inr (subst Q (sym (same_Some state s q)) last)

  -- all of them, where no character is needed before the end
  pub last_all : AreEmptyFlags P flags → (a : Alternative) (states : List ℕ) (i c : ℕ) → length states ≤ i → i ≤ length states → AreFirst P a.start states
      → (a.short ≡ true → ¬ Reads P a.start []) → LastUpTo states i c ↔ IsRead P a (c ∷ [])
  last_all exact a states i c h l first some = (to, λ r. from ((first c []).0 r.reads))
    where
      shortest : a.short ≡ true → (u v : List ℕ) → c ∷ [] ≡ u ++ v → Reads P a.start u → v ≡ []
      shortest short [] v e r = absurd (some short r)
      shortest short (d ∷ u) [] e r = refl
      shortest short (d ∷ u) (x ∷ v) e r = absurd (omega (arith, ap length e, length-append (d ∷ u) (x ∷ v)))

      to : LastUpTo states i c → IsRead P a (c ∷ [])
      to (m, k, state, at, (next, step, flag)) =
          record {
            reads =
                (first c []).1 (
                  slice_index_or states m 0,
                  next,
                  (m, omega (arith, k, l), index_default states m (slice_index_or states m 0) 0 (omega (arith, k, l))),
                  (state, at, step),
                  (exact next).0 flag,
                );
            shortest = shortest;
          }

      from : ((n : ℕ) × (next : ℕ) × Contains states n × ReadsTo P n c next × Reads P next []) → LastUpTo states i c
      from (n, next, (m, k, is), (state, at, step), r) =
          let same : slice_index_or states m 0 ≡ n = index_default states m 0 n k ∙ is in
          (m, omega (arith, k, h), state, ap (λ x. slice_get P x) same ∙ at, (next, step, (exact next).1 r))

-- a non-greedy alternative that reads the empty text matches no character
pub not_alone : (P : List State) (a : Alternative) (c : ℕ) → a.short ≡ true → Reads P a.start [] → ¬ IsRead P a (c ∷ [])
not_alone P a c short r is = let bad : c ∷ [] ≡ [] = is.shortest short [] (c ∷ []) refl r in absurd (cc)

-- The characters of the alternatives up to an index.
module _ (P : List State) (beginnings : List Beginning) where
  abbrev pub SingleUpTo : ℕ → ℕ → ℕ → Type 0
  SingleUpTo i k c = (m : ℕ) × (b : Beginning) × (m < i) × (slice_get beginnings m ≡ Some b) × (b.alternative.kind ≡ k) × IsRead P b.alternative (c ∷ [])

  -- a kind up to the index is at least this number
  abbrev pub IsBelowSome : ℕ → ℕ → Type 0
  IsBelowSome i k = (m : ℕ) × (b : Beginning) × (m < i) × (slice_get beginnings m ≡ Some b) × (k ≤ b.alternative.kind)

  pub single_more : (old new : List Singles) (i k c : ℕ) (b : Beginning) → slice_get beginnings i ≡ Some b → HasSingle old k c ↔ SingleUpTo i k c
      → HasSingle new k c ↔ (HasSingle old k c ⊎ ((k ≡ b.alternative.kind) × IsRead P b.alternative (c ∷ []))) → HasSingle new k c ↔ SingleUpTo (i + 1) k c
  single_more old new i k c b at before more = (λ h. to (more.0 h), λ (m, x, h, g, named, r). more.1 (back m x g named r (cases_lt m i) h))
    where
      to : HasSingle old k c ⊎ ((k ≡ b.alternative.kind) × IsRead P b.alternative (c ∷ [])) → SingleUpTo (i + 1) k c
      to (inl h) = let (m, x, l, g, named, r) = before.0 h in (m, x, omega (arith, l), g, named, r)
      to (inr (named, r)) = (i, b, omega arith, at, sym named, r)

      back : (m : ℕ) (x : Beginning) → slice_get beginnings m ≡ Some x → x.alternative.kind ≡ k → IsRead P x.alternative (c ∷ []) → (m < i) ⊎ (i ≤ m)
          → m < i + 1 → HasSingle old k c ⊎ ((k ≡ b.alternative.kind) × IsRead P b.alternative (c ∷ []))
      back m x g named r (inl l) h = inl (before.1 (m, x, l, g, named, r))
      back m x g named r (inr l) h =
          let e : m ≡ i = omega (arith, h, l) in
          let same : x ≡ b = same_Some x b (sym g ∙ ap (λ n. slice_get beginnings n) e ∙ at) in
          let Q : Beginning → Type 0 = λ y. (k ≡ y.alternative.kind) × IsRead P y.alternative (c ∷ []) in inr (subst Q same (sym named, r))

  pub single_all : (list : List Singles) (i k c : ℕ) → length beginnings ≤ i → HasSingle list k c ↔ SingleUpTo i k c → HasSingle list k c
      ↔ HasAlternative P (map (λ (b : Beginning). b.alternative) beginnings) k (c ∷ [])
  single_all list i k c h before = both_ways before (to, from)
    where
      to : SingleUpTo i k c → HasAlternative P (map (λ (b : Beginning). b.alternative) beginnings) k (c ∷ [])
      to (m, b, l, at, named, r) =
          (b.alternative, get_contains (map (λ (x : Beginning). x.alternative) beginnings) b.alternative m (mapped_get beginnings b m at), named, r)

      from : HasAlternative P (map (λ (b : Beginning). b.alternative) beginnings) k (c ∷ []) → SingleUpTo i k c
      from (a, (m, l, e), named, r) =
          let (b, at, same) = unmapped_get beginnings a m (slice_get-get_or (map (λ (x : Beginning). x.alternative) beginnings) m a l ∙ ap Some e) in
          let Q : Alternative → Type 0 = λ x. (x.kind ≡ k) × IsRead P x (c ∷ []) in
          let it = subst Q (sym same) (named, r) in
          (m, b, omega (arith, h, get_within beginnings b m at), at, it.0, it.1)

  -- the kinds so far are no greater than that of the next alternative
  pub up_to_next : (list : List Singles) (i : ℕ) (b : Beginning) → slice_get beginnings i ≡ Some b
      → NeverFall (λ (x : Beginning). x.alternative.kind) beginnings → SinglesNeverFall list → ((s : Singles) → Contains list s → IsBelowSome i s.kind)
      → SinglesAreUpTo list b.alternative.kind
  up_to_next list i b at order never below = record { never_fall = never; below = λ s among. least s (below s among) }
    where
      least : (s : Singles) → IsBelowSome i s.kind → s.kind ≤ b.alternative.kind
      least s (m, x, h, g, le) =
          let from : slice_index_or beginnings m x ≡ x = same_Some _ x (sym (slice_get-get_or beginnings m x (get_within beginnings x m g)) ∙ g) in
          let last : slice_index_or beginnings i x ≡ b = same_Some _ b (sym (slice_get-get_or beginnings i x (get_within beginnings b i at)) ∙ at) in
          omega (
            arith,
            le,
            order m i x h (get_within beginnings b i at),
            ap (λ (y : Beginning). y.alternative.kind) from,
            ap (λ (y : Beginning). y.alternative.kind) last,
          )

  pub below_next : (list : List Singles) (i : ℕ) (b : Beginning) → slice_get beginnings i ≡ Some b → SinglesAreUpTo list b.alternative.kind → (s : Singles)
      → Contains list s → IsBelowSome (i + 1) s.kind
  below_next list i b at u s among = (i, b, omega arith, at, u.below s among)

-- The characters of two lists, the kinds of the first one being the lesser ones.
module _ (is_gap : ℕ → Bool) (list lesser other : List Singles) (cut : list ≡ lesser ++ other) where
  cases : (k c : ℕ) → HasSingle list k c → HasSingle lesser k c ⊎ HasSingle other k c
  cases k c (s, among, is, h) = let Q : List Singles → Type 0 = λ l. Contains l s in pick (Contains-append_cases lesser other s (subst Q cut among))
    where
      pick : Contains lesser s ⊎ Contains other s → HasSingle lesser k c ⊎ HasSingle other k c
      pick (inl m) = inl (s, m, is, h)
      pick (inr m) = inr (s, m, is, h)

  in_lesser : (k c : ℕ) → HasSingle lesser k c → HasSingle list k c
  in_lesser k c (s, among, is, h) = let Q : List Singles → Type 0 =
      λ l. Contains l s in (s, subst Q (sym cut) (Contains-append_left lesser other s among), is, h)

  in_other : (k c : ℕ) → HasSingle other k c → HasSingle list k c
  in_other k c (s, among, is, h) = let Q : List Singles → Type 0 =
      λ l. Contains l s in (s, subst Q (sym cut) (Contains-append_right lesser other s among), is, h)

  either : (a b : Bool) → (a || b) ≡ true → (a ≡ true) ⊎ (b ≡ true)
  either true b e = inl refl
  either false b e = inr e

  one_of : (a b : Bool) → (a ≡ true) ⊎ (b ≡ true) → (a || b) ≡ true
  one_of true b h = refl
  one_of false b (inl e) = absurd (cc)
  one_of false b (inr e) = e

  first_alone : (a b : Bool) → (a && not b) ≡ true → (a ≡ true) × (b ≡ true → ⊥)
  first_alone true true e = absurd (cc)
  first_alone true false e = (refl, λ h. absurd (cc))
  first_alone false b e = absurd (cc)

  pub joined_decided : (x y d : Decided) → ((a b : Singles) → Contains lesser a → Contains other b → a.kind ≤ b.kind) → AreDecided is_gap lesser x
      → AreDecided is_gap other y →
      HasExactlyChars d.matched (λ c. has x.matched c || has y.matched c)
      → HasExactlyChars d.gaps (λ c. has x.gaps c || (has y.gaps c && not (has x.matched c))) → AreDecided is_gap list d
  joined_decided x y d order left right matched gaps =
      record {
        matched =
            λ c s. (
              λ h. matched_to c s (either (has x.matched c) (has y.matched c) (sym (matched c s) ∙ h)),
              λ (k, h). matched c s
                  ∙ one_of (has x.matched c) (has y.matched c) (matched_from c s k (cases k c h)),
            );
        gaps = λ c s. (
          λ h. gaps_to c s (either (has x.gaps c) (has y.gaps c && not (has x.matched c)) (sym (gaps c s) ∙ h)),
          λ (k, (h, least), gap). gaps c s ∙ gaps_from c s k least gap (cases k c h) (has x.matched c) refl,
        );
      }
    where
      matched_to : (c : ℕ) → IsScalar c → (has x.matched c ≡ true) ⊎ (has y.matched c ≡ true) → (k : ℕ) × HasSingle list k c
      matched_to c s (inl h) = let (k, m) = (left.matched c s).0 h in (k, in_lesser k c m)
      matched_to c s (inr h) = let (k, m) = (right.matched c s).0 h in (k, in_other k c m)

      matched_from : (c : ℕ) → IsScalar c → (k : ℕ) → HasSingle lesser k c ⊎ HasSingle other k c → (has x.matched c ≡ true) ⊎ (has y.matched c ≡ true)
      matched_from c s k (inl m) = inl ((left.matched c s).1 (k, m))
      matched_from c s k (inr m) = inr ((right.matched c s).1 (k, m))

      below : (k j c : ℕ) → HasSingle lesser k c → HasSingle other j c → k ≤ j
      below k j c (a, m, is, h) (b, n, it, g) = omega (arith, order a b m n, is, it)

      gaps_to : (c : ℕ) → IsScalar c → (has x.gaps c ≡ true) ⊎ ((has y.gaps c && not (has x.matched c)) ≡ true) → (k : ℕ) × IsLeastSingle list k c
          × (is_gap k ≡ true)
      gaps_to c s (inl h) =
          let (k, (m, least), gap) = (left.gaps c s).0 h in (k, (in_lesser k c m, λ j n. pick j (cases j c n)), gap)
        where
          pick : (j : ℕ) → HasSingle lesser j c ⊎ HasSingle other j c → ((left.gaps c s).0 h).0 ≤ j
          pick j (inl n) = ((left.gaps c s).0 h).1.1 j n
          pick j (inr n) = below ((left.gaps c s).0 h).0 j c ((left.gaps c s).0 h).1.0 n
      gaps_to c s (inr h) =
          let (gap_there, alone) = first_alone (has y.gaps c) (has x.matched c) h in
          let (k, (m, least), gap) = (right.gaps c s).0 gap_there in
          (k, (in_other k c m, λ j n. elim (cases j c n) [ inl l ↦ absurd (alone ((left.matched c s).1 (j, l))) | inr r ↦ least j r ]), gap)

      gaps_from : (c : ℕ) → IsScalar c → (k : ℕ) → ((j : ℕ) → HasSingle list j c → k ≤ j) → is_gap k ≡ true → HasSingle lesser k c ⊎ HasSingle other k c
          → (b : Bool) → has x.matched c ≡ b → (has x.gaps c || (has y.gaps c && not (has x.matched c))) ≡ true
      gaps_from c s k least gap (inl m) b e = one_of (has x.gaps c) _ (inl ((left.gaps c s).1 (k, (m, λ j n. least j (in_lesser j c n)), gap)))
      gaps_from c s k least gap (inr m) true e =
          let (j, n) = (left.matched c s).0 e in
          let same : j ≡ k = omega (arith, below j k c n m, least j (in_lesser j c n)) in
          let Q : ℕ → Type 0 = λ i. HasSingle lesser i c in
          one_of (has x.gaps c) _ (inl ((left.gaps c s).1 (k, (subst Q same n, λ i h. least i (in_lesser i c h)), gap)))
      gaps_from c s k least gap (inr m) false e =
          one_of (has x.gaps c) (has y.gaps c && not (has x.matched c))
          (inr (ap (λ b. has y.gaps c && not b) e ∙ and_true (has y.gaps c) ((right.gaps c s).1 (k, (m, λ j n. least j (in_other j c n)), gap))))
        where
          and_true : (b : Bool) → b ≡ true → (b && true) ≡ true
          and_true true h = refl
          and_true false h = absurd (cc)

-- no kind, and one kind
pub none_decided : (is_gap : ℕ → Bool) (list : List Singles) (d : Decided) (empty : List (ℕ × ℕ)) → length list ≡ 0 → HasExactlyChars empty (has [])
    → d.matched ≡ empty → HasExactlyChars d.gaps (λ c. false && has empty c) → AreDecided is_gap list d
unfolding in_ranges
none_decided is_gap list d empty none is matched gaps =
    record {
      matched =
          λ c s. (
            λ h. let bad : false ≡ true = sym (is c s) ∙ ap (λ m. has m c) (sym matched) ∙ h in
                absurd (cc),
            λ (k, (x, (n, i, e), named, t)). absurd (omega (arith, i, none)),
          );
      gaps =
          λ c s. (
            λ h. let bad : false ≡ true = sym (gaps c s) ∙ h in
                absurd (cc),
            λ (k, ((x, (n, i, e), named, t), least), gap). absurd (omega (arith, i, none)),
          );
    }

pub one_decided : (is_gap : ℕ → Bool) (list : List Singles) (x : Singles) (d : Decided) (b : Bool) → length list ≡ 1 → x ≡ slice_index_or list 0 x
    → b ≡ is_gap x.kind → d.matched ≡ x.set → HasExactlyChars d.gaps (λ c. b && has x.set c) → AreDecided is_gap list d
one_decided is_gap [] x d b len is gap matched gaps = absurd (omega (arith, len))
one_decided is_gap (y ∷ z ∷ list) x d b len is gap matched gaps = absurd (omega (arith, len))
one_decided is_gap (y ∷ []) x d b len is gap matched gaps =
    record {
      matched = λ c s. (λ h. (x.kind, single c (ap (λ m. has m c) (sym matched) ∙ h)), λ (k, h). ap (λ m. has m c) matched ∙ (of_one k c h).1);
      gaps = λ c s. (λ h. gaps_to c (sym (gaps c s) ∙ h), λ (k, (h, least), g). gaps c s ∙ both (gap ∙ ap is_gap (sym (of_one k c h).0) ∙ g) (of_one k c h).1);
    }
  where
    single : (c : ℕ) → has x.set c ≡ true → HasSingle (y ∷ []) x.kind c
    single c h = (x, (0, omega arith, sym is), refl, h)

    of_one : (k c : ℕ) → HasSingle (y ∷ []) k c → (k ≡ x.kind) × (has x.set c ≡ true)
    of_one k c (s, (zero, i, e), named, h) =
        let same : x ≡ s = is ∙ e in (sym named ∙ sym (ap (λ (v : Singles). v.kind) same), ap (λ (v : Singles). has v.set c) same ∙ h)
    of_one k c (s, (suc n, i, e), named, h) = absurd (omega (arith, i))

    both : {p q : Bool} → p ≡ true → q ≡ true → (p && q) ≡ true
    both {p} {q} e f = ap (λ v. v && q) e ∙ f

    gaps_to : (c : ℕ) → (b && has x.set c) ≡ true → (k : ℕ) × IsLeastSingle (y ∷ []) k c × (is_gap k ≡ true)
    gaps_to c h =
        let (g, m) = parts b (has x.set c) h in
        (x.kind, (single c m, λ j n. omega (arith, (of_one j c n).0)), sym gap ∙ g)
      where
        parts : (p q : Bool) → (p && q) ≡ true → (p ≡ true) × (q ≡ true)
        parts true q e = (refl, e)
        parts false q e = absurd (cc)

abbrev first_kind : List Piece → ℕ
first_kind [] = 0
first_kind (p ∷ rest) = p.kind

abbrev first_text : List Piece → List ℕ
first_text [] = []
first_text (p ∷ rest) = p.text

-- The characters of which the least kind is a gap kind are gap text.
module _ (G : WrittenGrammar) (P : List State) (all : List Alternative) (of : IsNfaOf G P all) (list : List Singles)
    (singles : (k c : ℕ) → IsScalar c → HasSingle list k c ↔ HasAlternative P all k (c ∷ [])) where
  matches : (k c : ℕ) → IsScalar c → HasSingle list k c ↔ KindMatches G k (c ∷ [])
  matches k c s = (λ h. (of.exact k (c ∷ [])).0 ((singles k c s).0 h), λ m. (singles k c s).1 ((of.exact k (c ∷ [])).1 m))

  is_next : (k c : ℕ) → KindMatches G k (c ∷ []) → ((other : ℕ) → KindMatches G other (c ∷ []) → k ≤ other) → IsNext G (c ∷ []) k (c ∷ []) []
  is_next k c m least =
      record {
        cut = refl;
        some = λ bad. absurd (cc);
        matched = m;
        longest = λ other front back cut n. omega (arith, ap length cut, length-append front back);
        least = least;
      }

  -- the one piece comes next
  first_of : (c k : ℕ) {text : List ℕ} {ps : List Piece} {left : List ℕ} → LexesTo G text ps left → text ≡ c ∷ [] → ps ≡ record { kind = k; text = c ∷ [] } ∷ []
      → KindMatches G k (c ∷ []) × ((other : ℕ) → KindMatches G other (c ∷ []) → k ≤ other)
  first_of c k (LexesTo.by_end text) e f = absurd (cc)
  first_of c k (LexesTo.by_piece text kind piece rest left ps next more) e f =
      let kinds : kind ≡ k = ap first_kind f in
      let texts : piece ≡ c ∷ [] = ap first_text f in
      let Q : ℕ → Type 0 = λ j. KindMatches G j (c ∷ []) × ((other : ℕ) → KindMatches G other (c ∷ []) → j ≤ other) in
      let R : List ℕ → Type 0 = λ w. KindMatches G kind w × ((other : ℕ) → KindMatches G other w → kind ≤ other) in
      subst Q kinds (subst R texts (next.matched, next.least))

  pub are_gap_chars : (d : Decided) → AreDecided (is_gap_kind G) list d → AreGapChars G d.gaps
  are_gap_chars d are c s = (to, from)
    where
      to : has d.gaps c ≡ true → IsGapText G c
      to h =
          let (k, (m, least), gap) = (are.gaps c s).0 h in (
            k,
            LexesTo.by_piece (c ∷ []) k (c ∷ []) [] [] [] (is_next k c ((matches k c s).0 m) (λ other n. least other ((matches other c s).1 n)))
                (LexesTo.by_end []),
            gap,
          )

      from : IsGapText G c → has d.gaps c ≡ true
      from (k, lexes, gap) =
          let (m, least) = first_of c k lexes refl refl in
          (are.gaps c s).1 (k, ((matches k c s).1 m, λ other n. least other ((matches other c s).0 n)), gap)
