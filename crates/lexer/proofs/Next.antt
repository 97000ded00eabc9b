-- What comes next, from the longest match of each candidate.
use Rattle.std.proofs.Common.{◌≡◌, ◌≢◌, ◌<◌, ◌≤◌, ◌+◌, ◌⊎◌, inl, inr, ℕ, List, [], ◌∷◌, ◌++◌, Some, slice_get}
use Rattle.std.proofs.Common.{slice_index_or, length, refl, sym, ap, ◌∙◌, subst, arith, length-append}
use Rattle.std.specs.List.{Contains}
use Rattle.std.specs.Prelude.{encode_utf8, encode_utf8_all}
use Rattle.std.proofs.lemmas.Bool.{cases_lt}
use Rattle.std.proofs.lemmas.Option.{slice_get-get_or}
use Rattle.std.specs.Str.{chars, IsUtf8}
use Rattle.std.proofs.lemmas.Str.{chars_past_char, encodes-append, length-le-encodes}
use Rattle.lexer_match.specs.declared.nfa.State.{State}
use Rattle.lexer_match.specs.declared.alternative.Alternative.{Alternative}
use Rattle.lexer.specs.declared.pieces.Match.{Match}
use Rattle.lexer_match.specs.Nfa.{Reads}
use Rattle.lexer_match.specs.Longest.{HasNone, IsLongestLen}
use Rattle.lexer_match.specs.Reading.{IsRead}
use Rattle.lexer_match.specs.Alternatives.{HasAlternative}
use Rattle.lexer.specs.inner.Candidates.{AreCandidates, ComesNext, HasNoNext, IsBestOf}
use Rattle.lexer_match.proofs.Lent.{begins, begins_same}

some_bytes : (x : List ℕ) → 0 < length x → 0 < length (encode_utf8_all x)
some_bytes x h = omega (arith, h, length-le-encodes x)

nonempty : (x : List ℕ) → x ≢ [] → 0 < length x
nonempty [] d = absurd (d refl)
nonempty (c ∷ x) d = omega arith

-- of two beginnings of a text the one with fewer bytes has no more characters
pub bytes_order : (f b g d : List ℕ) → f ++ b ≡ g ++ d → length (encode_utf8_all f) ≤ length (encode_utf8_all g) → length f ≤ length g
bytes_order f b g d e h = pick (cases_lt (length g) (length f))
  where
    pick : (length g < length f) ⊎ (length f ≤ length g) → length f ≤ length g
    pick (inr l) = l
    pick (inl l) =
        let (x, is) = begins g d f b (sym e) (omega (arith, l)) in
        let more : 0 < length x = omega (arith, l, ap length is, length-append g x) in
        absurd (omega (
          arith,
          h,
          some_bytes x more,
          ap (λ y. length (encode_utf8_all y)) is,
          ap length (encodes-append g x),
          length-append (encode_utf8_all g) (encode_utf8_all x),
        ))

module _ (P : List State) (text : List ℕ) where
  abbrev pub IsLen : Alternative → ℕ → Type 0
  IsLen a n = IsLongestLen (IsRead P a) text n

  -- at 0 there is no match
  len_zero : (a : Alternative) (n : ℕ) → n ≡ 0 → IsLen a n → HasNone (IsRead P a) text
  len_zero a n z (inl (e, none)) = none
  len_zero a n z (inr (front, back, best, e)) = absurd (omega (arith, z, e, some_bytes front (nonempty front best.some)))

  pub each_more : (list : List Alternative) (i : ℕ) (best new other : Match) (d : Alternative) → i < length list → IsLen (slice_index_or list i d) other.len
      → other.kind ≡ (slice_index_or list i d).kind →
      best.len ≤ new.len → (best.len ≡ new.len → new.kind ≤ best.kind) → other.len ≤ new.len → (other.len ≡ new.len → new.kind ≤ other.kind) →
      ((k : ℕ) (a : Alternative) → k < i → slice_get list k ≡ Some a → (n : ℕ) × IsLen a n × (n ≤ best.len)
      × (n ≡ best.len → 0 < best.len → best.kind ≤ a.kind)) →
      (k : ℕ) (a : Alternative) → k < i + 1 → slice_get list k ≡ Some a → (n : ℕ) × IsLen a n × (n ≤ new.len) × (n ≡ new.len → 0 < new.len → new.kind ≤ a.kind)
  each_more list i best new other d inside here kind le least le' least' before k a h g = pick (cases_lt k i)
    where
      pick : (k < i) ⊎ (i ≤ k) → (n : ℕ) × IsLen a n × (n ≤ new.len) × (n ≡ new.len → 0 < new.len → new.kind ≤ a.kind)
      pick (inl l) =
          let (n, len, below, tie) = before k a l g in (
            n,
            len,
            omega (arith, below, le),
            λ e some.
                let same : best.len ≡ new.len = omega (arith, e, below, le) in
                omega (arith, least same, tie (omega (arith, e, same)) (omega (arith, some, same))),
          )
      pick (inr l) =
          let at : k ≡ i = omega (arith, h, l) in
          let q : Some a ≡ Some (slice_index_or list i d) = sym g ∙ ap (λ x. slice_get list x) at ∙ slice_get-get_or list i d inside in
          let is : slice_index_or list i d ≡ a = cc in
          let Q : Alternative → Type 0 = λ x. IsLen x other.len in
          (other.len, subst Q is here, le', λ e some. omega (arith, least' e, kind, ap (λ (x : Alternative). x.kind) is))

  pub some_more : (list : List Alternative) (best new other : Match) (x : Alternative) → Contains list x → IsLen x other.len → other.kind ≡ x.kind
      → (new ≡ best) ⊎ (new ≡ other) →
      (0 < best.len → (a : Alternative) × Contains list a × (a.kind ≡ best.kind) × IsLen a best.len) → 0 < new.len → (a : Alternative) × Contains list a
      × (a.kind ≡ new.kind) × IsLen a new.len
  some_more list best new other x among here kind (inl e) before some =
      let Q : Match → Type 0 = λ m. 0 < m.len → (a : Alternative) × Contains list a × (a.kind ≡ m.kind) × IsLen a m.len in subst Q (sym e) before some
  some_more list best new other x among here kind (inr e) before some =
      let Q : Match → Type 0 = λ m. (a : Alternative) × Contains list a × (a.kind ≡ m.kind) × IsLen a m.len in subst Q (sym e) (x, among, sym kind, here)

  pub each_all : (list : List Alternative) (i kind len : ℕ) → length list ≤ i
      → ((k : ℕ) (a : Alternative) → k < i → slice_get list k ≡ Some a → (n : ℕ) × IsLen a n × (n ≤ len) × (n ≡ len → 0 < len → kind ≤ a.kind)) →
      (0 < len → (a : Alternative) × Contains list a × (a.kind ≡ kind) × IsLen a len) → IsBestOf P list text kind len
  each_all list i kind len h each some =
      record { each = λ a (k, l, e). each k a (omega (arith, h, l)) (slice_get-get_or list k a l ∙ ap Some e); some = some }

  -- a match of at least one character is one of a candidate
  is_candidate : (all list : List Alternative) (c : ℕ) (v front back : List ℕ) (a : Alternative) → text ≡ c ∷ v → AreCandidates P all list c
      → text ≡ front ++ back → front ≢ [] → Contains all a → IsRead P a front → Contains list a
  is_candidate all list c v [] back a e can cut some among r = absurd (some refl)
  is_candidate all list c v (d ∷ front) back a e can cut some among r =
      let same : d ≡ c = (let q : d ∷ (front ++ back) ≡ c ∷ v = sym cut ∙ e in cc) in
      let Q : ℕ → Type 0 = λ x. Reads P a.start (x ∷ front) in can.complete a front among (subst Q same r.reads)

  pub nothing_next : (all list : List Alternative) (c kind len : ℕ) (v : List ℕ) → text ≡ c ∷ v → AreCandidates P all list c → IsBestOf P list text kind len
      → len ≡ 0 → HasNoNext P all text
  nothing_next all list c kind len v e can best nil k front back cut some (a, among, same, r) =
      let (n, is, below, tie) = best.each a (is_candidate all list c v front back a e can cut some among r) in
      len_zero a n (omega (arith, below, nil)) is front back cut some r

  -- what another match is, against the best one
  against : (front back f b : List ℕ) (a : Alternative) (n : ℕ) → text ≡ front ++ back → text ≡ f ++ b → f ≢ [] → IsRead P a f → IsLen a n
      → n ≤ length (encode_utf8_all front) → (length f ≤ length front) × (length front ≤ length f → n ≡ length (encode_utf8_all front))
  against front back f b a n cut cut' some r (inl (e, none)) below = absurd (none f b cut' some r)
  against front back f b a n cut cut' some r (inr (g, d, best, e)) below =
      let le : length g ≤ length front = bytes_order g d front back (sym best.cut ∙ cut) (omega (arith, below, e)) in
      let longest = best.longest f b cut' r in (
        omega (arith, longest, le),
        λ h.
            let same : g ≡ front = begins_same g d front back (sym best.cut ∙ cut) (omega (arith, h, longest, le)) in
            e ∙ ap (λ x. length (encode_utf8_all x)) same,
      )

  pub something_next : (all list : List Alternative) (c kind len : ℕ) (v : List ℕ) → text ≡ c ∷ v → AreCandidates P all list c → IsBestOf P list text kind len
      → 0 < len → ComesNext P all text kind len
  something_next all list c kind len v e can best some = found (best.some some)
    where
      found : (a : Alternative) × Contains list a × (a.kind ≡ kind) × IsLen a len → ComesNext P all text kind len
      found (a, among, same, inl (z, none)) = absurd (omega (arith, z, some))
      found (a, among, same, inr (front, back, is, bytes)) =
          record {
            front = front;
            back = back;
            cut = is.cut;
            some = is.some;
            matched = (a, can.among a among, same, is.belongs);
            longest = longest;
            least = λ other (x, k, named, r).
                let (n, len_is, below, tie) = best.each x (is_candidate all list c v front back x e can is.cut is.some k r) in
                let it = against front back front back x n is.cut is.cut is.some r len_is (omega (arith, below, bytes)) in
                omega (arith, tie (omega (arith, it.1 (omega arith), bytes)) some, named);
            bytes = bytes;
          }
        where
          longest : (other : ℕ) (f b : List ℕ) → text ≡ f ++ b → HasAlternative P all other f → length f ≤ length front
          longest other [] b cut h = omega arith
          longest other (d ∷ f) b cut (x, k, named, r) =
              let filled : d ∷ f ≢ [] = λ bad. absurd (cc) in
              let (n, len_is, below, tie) = best.each x (is_candidate all list c v (d ∷ f) b x e can cut filled k r) in
              (against front back (d ∷ f) b x n is.cut cut filled r len_is (omega (arith, below, bytes))).0

pub first_char : (text lent rest : List ℕ) (c : ℕ) → IsUtf8 text → lent ≡ text → lent ≡ encode_utf8 c ++ rest → chars text ≡ c ∷ chars rest
first_char text lent rest c utf8 e f = chars_past_char text rest c utf8 (sym e ∙ f)
