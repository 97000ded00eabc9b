-- Up to where a text decides what several alternatives match.
use Rattle.std.proofs.Common.{◌≡◌, ◌≢◌, ◌<◌, ◌≤◌, ◌+◌, ◌⊎◌, inl, inr, ◌↔◌, ℕ, List, [], ◌∷◌, ◌++◌, Some, slice_get}
use Rattle.std.proofs.Common.{slice_index_or, length, refl, sym, ap, ◌∙◌, subst, arith, length-append}
use Rattle.std.specs.List.{Contains}
use Rattle.std.specs.Prelude.{encode_utf8_all}
use Rattle.std.specs.Str.{chars, IsUtf8}
use Rattle.std.proofs.lemmas.Bool.{cases_lt}
use Rattle.std.proofs.lemmas.Option.{slice_get-get_or}
use Rattle.std.proofs.lemmas.Str.{encodes-append, encodes-chars, length-le-encodes}
use Rattle.lexer_match.specs.declared.nfa.State.{State}
use Rattle.lexer_match.specs.declared.alternative.Alternative.{Alternative}
use Rattle.lexer_match.specs.declared.alternative.Seen.{Seen}
use Rattle.lexer_match.specs.Nfa.{Reads}
use Rattle.lexer_match.specs.Longest.{IsLongestLen}
use Rattle.lexer_match.specs.Reading.{IsRead}
use Rattle.lexer_match.specs.Seen.{IsProperPrefix, IsSeen, IsSeenTo}
use Rattle.lexer.specs.inner.Candidates.{AreCandidates, IsBestOf, IsMatchedByOne, IsNoNearer}
use Rattle.lexer_match.proofs.Lent.{begins, get_within, alive_none, seen_further, seen_same, seen_until, shorter}

get_inside : {X : Type 0} (xs : List X) (k : ℕ) (x : X) → slice_get xs k ≡ Some x → k < length xs
get_inside xs k x e = get_within xs x k e

get_is : {X : Type 0} (xs : List X) (k : ℕ) (x : X) → slice_get xs k ≡ Some x → slice_index_or xs k x ≡ x
get_is xs k x e = let q : Some (slice_index_or xs k x) ≡ Some x = sym (slice_get-get_or xs k x (get_within xs x k e)) ∙ e in cc

-- what either of two languages has
abbrev pub Either : (List ℕ → Type 0) → (List ℕ → Type 0) → List ℕ → Type 0
Either L M w = L w ⊎ M w

-- of two beginnings of a text, the one after which no more bytes remain is no shorter
longer : (f b g d : List ℕ) → f ++ b ≡ g ++ d → length (encode_utf8_all d) ≤ length (encode_utf8_all b) → length f ≤ length g
longer f b g d e h = pick (cases_lt (length g) (length f))
  where
    pick : (length g < length f) ⊎ (length f ≤ length g) → length f ≤ length g
    pick (inr l) = l
    pick (inl l) =
        let (x, is) = begins g d f b (sym e) (omega (arith, l)) in
        let bytes : length (encode_utf8_all f) ≡ length (encode_utf8_all g) + length (encode_utf8_all x) =
        ap (λ y. length (encode_utf8_all y)) is ∙ ap length (encodes-append g x) ∙ length-append (encode_utf8_all g) (encode_utf8_all x) in
        let whole : length (encode_utf8_all f) + length (encode_utf8_all b) ≡ length (encode_utf8_all g) + length (encode_utf8_all d) =
        sym (length-append (encode_utf8_all f) (encode_utf8_all b)) ∙ ap length (sym (encodes-append f b) ∙ ap encode_utf8_all e ∙ encodes-append g d)
        ∙ length-append (encode_utf8_all g) (encode_utf8_all d) in
        absurd (omega (arith, h, l, bytes, whole, length-le-encodes x, ap length is, length-append g x))

module _ (L M : List ℕ → Type 0) (text : List ℕ) where
  -- what the second language decides later
  pub later : (f b g d : List ℕ) → IsSeen L text f b → IsSeen M text g d → length f ≤ length g → IsSeen (Either L M) text g d
  later f b g d s t h =
      record {
        cut = t.cut;
        over = λ (c, w, which). over c w which;
        least = λ other left e not. t.least other left e (λ (c, w, m). not (c, w, inr m));
      }
    where
      over : (c : ℕ) (w : List ℕ) → L (g ++ c ∷ w) ⊎ M (g ++ c ∷ w) → ⊥
      over c w (inr m) = t.over (c, w, m)
      over c w (inl l) =
          let (x, is) = begins f b g d (sym s.cut ∙ t.cut) h in
          let Q : List ℕ → Type 0 = λ y. IsProperPrefix L y in s.over (shorter L f x (subst Q is (c, w, l)))

module _ (L M : List ℕ → Type 0) (text : List ℕ) where
  flip : (w : List ℕ) → Either M L w ↔ Either L M w
  flip w = (λ (k : M w ⊎ L w). turn k, λ (k : L w ⊎ M w). turn k)
    where
      turn : {A B : Type 0} → A ⊎ B → B ⊎ A
      turn (inl a) = inr a
      turn (inr b) = inl b

  farther_second : (left other_left : ℕ) → other_left ≤ left → IsSeenTo L text (Seen.Until left) → IsSeenTo M text (Seen.Until other_left)
      → IsSeenTo (Either L M) text (Seen.Until other_left)
  farther_second left other_left h (f, b, s, n) (g, d, t, m) =
      (g, d, later L M text f b g d s t (longer f b g d (sym s.cut ∙ t.cut) (omega (arith, h, n, m))), m)

  farther_first : (left other_left : ℕ) → left ≤ other_left → IsSeenTo L text (Seen.Until left) → IsSeenTo M text (Seen.Until other_left)
      → IsSeenTo (Either L M) text (Seen.Until left)
  farther_first left other_left h (f, b, s, n) (g, d, t, m) =
      seen_same (Either M L) (Either L M) text (Seen.Until left) flip
      (f, b, later M L text g d f b t s (longer g d f b (sym t.cut ∙ s.cut) (omega (arith, h, n, m))), n)

  farther_other : (seen other : Seen) → IsNoNearer seen other → IsSeenTo L text seen → IsSeenTo M text other → IsSeenTo (Either L M) text other
  farther_other (Seen.Until left) (Seen.Until other) h s t = farther_second left other h s t
  farther_other (Seen.Until left) Seen.All h s all = λ front back e not. all front back e (λ (c, w, m). not (c, w, inr m))
  farther_other Seen.All (Seen.Until other) h s t = absurd h
  farther_other Seen.All Seen.All h s all = λ front back e not. all front back e (λ (c, w, m). not (c, w, inr m))

  farther_seen : (seen other : Seen) → IsNoNearer other seen → IsSeenTo L text seen → IsSeenTo M text other → IsSeenTo (Either L M) text seen
  farther_seen (Seen.Until left) (Seen.Until other) h s t = farther_first left other h s t
  farther_seen (Seen.Until left) Seen.All h s t = absurd h
  farther_seen Seen.All other h all t = λ front back e not. all front back e (λ (c, w, l). not (c, w, inl l))

  pub farther_of : (seen other result : Seen) → ((result ≡ other) × IsNoNearer seen other) ⊎ ((result ≡ seen) × IsNoNearer other seen) → IsSeenTo L text seen
      → IsSeenTo M text other → IsSeenTo (Either L M) text result
  farther_of seen other result (inl (e, h)) s t = let Q : Seen → Type 0 = λ x. IsSeenTo (Either L M) text x in subst Q (sym e) (farther_other seen other h s t)
  farther_of seen other result (inr (e, h)) s t = let Q : Seen → Type 0 = λ x. IsSeenTo (Either L M) text x in subst Q (sym e) (farther_seen seen other h s t)

module _ (P : List State) (list : List Alternative) where
  -- one of the first alternatives matches the text
  abbrev pub IsMatchedBelow : ℕ → List ℕ → Type 0
  IsMatchedBelow i w = (k : ℕ) × (a : Alternative) × (k < i) × (slice_get list k ≡ Some a) × IsRead P a w

  pub seen_none : (text : List ℕ) (size : ℕ) → IsUtf8 text → size ≡ length text → IsSeenTo (IsMatchedBelow 0) (chars text) (Seen.Until size)
  seen_none text size utf8 e =
      seen_until (IsMatchedBelow 0) (chars text) [] (chars text) size refl (λ (c, w, (k, a, h, at, r)). omega (arith, h)) (alive_none (IsMatchedBelow 0))
      (e ∙ ap length (sym (encodes-chars text utf8)))

  pub seen_more : (text : List ℕ) (i : ℕ) (d : Alternative) (seen : Seen) → i < length list
      → IsSeenTo (Either (IsMatchedBelow i) (IsRead P (slice_index_or list i d))) text seen → IsSeenTo (IsMatchedBelow (i + 1)) text seen
  seen_more text i d seen inside is =
      seen_same (Either (IsMatchedBelow i) (IsRead P x)) (IsMatchedBelow (i + 1)) text seen
      (λ w. (λ k. to w k, λ (k, a, h, at, r). from w k a h at r (cases_lt k i))) is
    where
      x : Alternative
      x = slice_index_or list i d

      here : slice_get list i ≡ Some x
      here = slice_get-get_or list i d inside

      to : (w : List ℕ) → IsMatchedBelow i w ⊎ IsRead P x w → IsMatchedBelow (i + 1) w
      to w (inl (k, a, h, at, r)) = (k, a, omega (arith, h), at, r)
      to w (inr r) = (i, x, omega arith, here, r)

      from : (w : List ℕ) (k : ℕ) (a : Alternative) → k < i + 1 → slice_get list k ≡ Some a → IsRead P a w → (k < i) ⊎ (i ≤ k) → IsMatchedBelow i w
          ⊎ IsRead P x w
      from w k a h at r (inl l) = inl (k, a, l, at, r)
      from w k a h at r (inr l) =
          let same : k ≡ i = omega (arith, h, l) in
          let q : Some a ≡ Some x = sym at ∙ ap (λ j. slice_get list j) same ∙ here in
          let is : a ≡ x = cc in
          let Q : Alternative → Type 0 = λ b. IsRead P b w in inr (subst Q is r)

  pub seen_every : (text : List ℕ) (i : ℕ) (seen : Seen) → length list ≤ i → IsSeenTo (IsMatchedBelow i) text seen → IsSeenTo (IsMatchedByOne P list) text seen
  seen_every text i seen h is =
      seen_same (IsMatchedBelow i) (IsMatchedByOne P list) text seen
      (λ w. (
        λ (k, a, below, at, r). (a, among k a at, r),
        λ (a, (k, inside, e), r). (k, a, omega (arith, inside, h), slice_get-get_or list k a inside ∙ ap Some e, r),
      )) is
    where
      among : (k : ℕ) (a : Alternative) → slice_get list k ≡ Some a → Contains list a
      among k a at = (k, get_inside list k a at, get_is list k a at)

  -- The alternatives that can begin so decide for all, where one of them matches.
  pub seen_by_candidates : (all : List Alternative) (text v : List ℕ) (c kind len : ℕ) (seen : Seen) → text ≡ c ∷ v → AreCandidates P all list c
      → IsBestOf P list text kind len → 0 < len → IsSeenTo (IsMatchedByOne P list) text seen → IsSeenTo (IsMatchedByOne P all) text seen
  seen_by_candidates all text v c kind len seen e can best some is =
      seen_further (IsMatchedByOne P all) (IsMatchedByOne P list) text [] text seen refl (alive_none (IsMatchedByOne P all)) (λ x y cut p. down x y cut p)
      (λ x y cut (d, w, (a, among, r)) not. not (d, w, (a, can.among a among, r))) is
    where
      filled : (a : Alternative) → Contains list a → IsLongestLen (IsRead P a) text len → IsProperPrefix (IsMatchedByOne P list) []
      filled a among (inl (z, none)) = absurd (omega (arith, z, some))
      filled a among (inr (front, back, m, n)) = first front m.some m.belongs
        where
          first : (f : List ℕ) → f ≢ [] → IsRead P a f → IsProperPrefix (IsMatchedByOne P list) []
          first [] more r = absurd (more refl)
          first (d ∷ f) more r = (d, f, (a, among, r))

      down : (x y : List ℕ) → text ≡ x ++ y → IsProperPrefix (IsMatchedByOne P all) x → IsProperPrefix (IsMatchedByOne P list) x
      down [] y cut p = let (a, among, same, is_len) = best.some some in filled a among is_len
      down (b ∷ x) y cut (d, w, (a, among, r)) =
          let same : b ≡ c = (let q : b ∷ (x ++ y) ≡ c ∷ v = sym cut ∙ e in cc) in
          let Q : ℕ → Type 0 = λ z. Reads P a.start (z ∷ (x ++ d ∷ w)) in
          (d, w, (a, can.complete a (x ++ d ∷ w) among (subst Q same r.reads), r))
