-- The longest match of an alternative, found by reading one character after another.
use Rattle.std.proofs.Common.{◌≡◌, ◌≢◌, ◌<◌, ◌≤◌, ◌+◌, ◌⊎◌, inl, inr, ◌↔◌, ℕ, suc, Bool, true, false, cond, List, [], ◌∷◌, ◌++◌}
use Rattle.std.proofs.Common.{slice_index_or, length, refl, sym, ap, ◌∙◌, subst, arith, append_assoc, length-append, true≢false}
use Rattle.std.proofs.lemmas.List.{append-nil}
use Rattle.std.proofs.lemmas.Bool.{cases_lt}
use Rattle.std.proofs.lemmas.Str.{chars_past_char, IsUtf8-past_char, encodes-append, encodes-chars, chars-nil}
use Rattle.std.specs.Prelude.{encode_utf8, encode_utf8_all}
use Rattle.std.specs.Str.{chars, IsUtf8}
use Rattle.lexer_match.specs.declared.nfa.State.{State}
use Rattle.lexer_match.specs.declared.alternative.Alternative.{Alternative}
use Rattle.lexer_match.specs.Longest.{IsLongestLen}
use Rattle.lexer_match.specs.Nfa.{Reads}
use Rattle.lexer_match.specs.Reading.{IsRead}
use Rattle.lexer_match.specs.StateSets.{AreMarked, ReadsFrom}
use Rattle.lexer_match.specs.inner.StateSets.{IsFollowed}
use Rattle.lexer_match.specs.declared.alternative.Seen.{Seen}
use Rattle.lexer_match.specs.Seen.{IsProperPrefix, IsSeenTo}
use Rattle.lexer_match.proofs.Cuts.{begins, begins_same, same_back}
use Rattle.lexer_match.proofs.Seeing.{IsAlive, MayGoOn, alive_more, alive_none, may_go_on, over_shortest, seen_all, seen_further, seen_until}
use Rattle.lexer_match.proofs.Steps.{both_ways, end_reads}

module _ (M : List ℕ → Type 0) (text : List ℕ) where
  -- no beginning of at least one character, but fewer than so many, belongs to the language
  abbrev pub NoneBelow : ℕ → Type 0
  NoneBelow bound = (front back : List ℕ) → text ≡ front ++ back → front ≢ [] → length front < bound → ¬ M front

  -- the beginning is the longest of those of fewer than so many characters
  pub record IsLongestBelow (bound : ℕ) (front back : List ℕ) : Type 0 where
    pub cut : text ≡ front ++ back
    pub some : front ≢ []
    pub belongs : M front
    pub longest : (other left : List ℕ) → text ≡ other ++ left → length other < bound → M other → length other ≤ length front

  abbrev pub IsBestBelow : ℕ → ℕ → Type 0
  IsBestBelow bound n =
      ((n ≡ 0) × NoneBelow bound) ⊎ ((front : List ℕ) × (back : List ℕ) × IsLongestBelow bound front back × (n ≡ length (encode_utf8_all front)))

  pub best_none : IsBestBelow 0 0
  best_none = inl (refl, λ f g e s h. absurd (omega (arith, h)))

  -- the beginning u doesn't belong to the language
  pub best_not : (u v : List ℕ) (n : ℕ) → text ≡ u ++ v → ¬ M u → IsBestBelow (length u) n → IsBestBelow (suc (length u)) n
  best_not u v n cut not (inl (nil, none)) = inl (nil, λ f g e s h m. pick f g e s h m (cases_lt (length f) (length u)))
    where
      pick : (f g : List ℕ) → text ≡ f ++ g → f ≢ [] → length f < suc (length u) → M f → (length f < length u) ⊎ (length u ≤ length f) → ⊥
      pick f g e s h m (inl below) = none f g e s below m
      pick f g e s h m (inr above) = not (subst M (sym (begins_same u v f g (sym cut ∙ e) (omega (arith, h, above)))) m)
  best_not u v n cut not (inr (front, back, best, len)) =
      inr (
        front,
        back,
        record { cut = best.cut; some = best.some; belongs = best.belongs; longest = λ f g e h m. pick f g e h m (cases_lt (length f) (length u)) },
        len,
      )
    where
      pick : (f g : List ℕ) → text ≡ f ++ g → length f < suc (length u) → M f → (length f < length u) ⊎ (length u ≤ length f) → length f ≤ length front
      pick f g e h m (inl below) = best.longest f g e below m
      pick f g e h m (inr above) = absurd (not (subst M (sym (begins_same u v f g (sym cut ∙ e) (omega (arith, h, above)))) m))

  -- the beginning u does
  pub best_is : (u v : List ℕ) → text ≡ u ++ v → M u → IsBestBelow (suc (length u)) (length (encode_utf8_all u))
  best_is [] v cut m = inl (refl, λ f g e s h. absurd (short f s h))
    where
      short : (f : List ℕ) → f ≢ [] → length f < suc (length {A = ℕ} []) → ⊥
      short [] s h = s refl
      short (c ∷ f) s h = omega (arith, h)
  best_is (c ∷ u) v cut m = inr (c ∷ u, v, record { cut = cut; some = λ e. absurd (cc); belongs = m; longest = λ f g e h k. omega (arith, h) }, refl)

  -- no longer beginning belongs to the language
  pub best_all : (bound n : ℕ) → ((f g : List ℕ) → text ≡ f ++ g → M f → length f < bound) → IsBestBelow bound n → IsLongestLen M text n
  best_all bound n below (inl (nil, none)) = inl (nil, λ f g e s m. none f g e s (below f g e m) m)
  best_all bound n below (inr (front, back, best, len)) =
      inr (front, back, record { cut = best.cut; some = best.some; belongs = best.belongs; longest = λ f g e m. best.longest f g e (below f g e m) m }, len)

-- What is known after some characters were read, and those from `rest` on weren't. Both are bytes.
pub record IsSoFar (P : List State) (a : Alternative) (text states rest : List ℕ) (read longest : ℕ) : Type 0 where
  pub done : List ℕ
  pub bytes : text ≡ encode_utf8_all done ++ rest
  pub cut : chars text ≡ done ++ chars rest
  pub utf8 : IsUtf8 rest
  pub count : read ≡ length (encode_utf8_all done)
  pub reads : (w : List ℕ) → ReadsFrom P states w ↔ Reads P a.start (done ++ w)
  pub best : IsBestBelow (IsRead P a) (chars text) (length done) longest
  pub undecided : a.short ≡ true → (u v : List ℕ) → done ≡ u ++ v → v ≢ [] → ¬ Reads P a.start u
  pub alive : IsAlive (IsRead P a) done

module _ (P : List State) (a : Alternative) (text : List ℕ) where
  pub so_far_none : (states : List ℕ) → IsUtf8 text → ((w : List ℕ) → ReadsFrom P states w ↔ Reads P a.start w) → IsSoFar P a text states text 0 0
  so_far_none states utf8 same =
      record {
        done = [];
        bytes = refl;
        cut = refl;
        utf8 = utf8;
        count = refl;
        reads = same;
        best = best_none (IsRead P a) (chars text);
        undecided = λ short u v e s r. nothing u v e s;
        alive = alive_none (IsRead P a);
      }
    where
      nothing : (u v : List ℕ) → [] ≡ u ++ v → v ≢ [] → ⊥
      nothing [] v e s = s (sym e)
      nothing (c ∷ u) v e s = absurd (cc)

  module _ (states rest : List ℕ) (read longest : ℕ) (s : IsSoFar P a text states rest read longest) where
    -- the end is reached exactly where the characters so far can be read
    pub ended_reads : (marks : List Bool) (ended : Bool) → AreMarked states marks → IsFollowed P states → ended ≡ slice_index_or marks 0 false → (ended ≡ true)
        ↔ Reads P a.start s.done
    ended_reads marks ended exact followed e =
        let Q : List ℕ → Type 0 = λ x. Reads P a.start x in
        both_ways (λ t. sym e ∙ t, λ t. e ∙ t) (both_ways (exact 0)
        (both_ways (swap (end_reads P states followed))
        (both_ways (s.reads []) (λ r. subst Q (append-nil s.done) r, λ r. subst Q (sym (append-nil s.done)) r))))
      where
        swap : {A B : Type 0} → A ↔ B → B ↔ A
        swap f = (f.1, f.0)

    pub not_ended : (ended : Bool) → (ended ≡ true) ↔ Reads P a.start s.done → ended ≡ false → ¬ ReadsFrom P states []
    not_ended ended same e r =
        let Q : List ℕ → Type 0 = λ x. Reads P a.start x in
        true≢false (sym (same.1 (subst Q (append-nil s.done) ((s.reads []).0 r))) ∙ e)

    pub bytes_left : length text ≡ read + length rest
    bytes_left = omega (arith, s.count, ap length s.bytes, length-append (encode_utf8_all s.done) rest)

    -- the best so far, once it is known whether the characters so far match
    pub tested : (ended : Bool) (now : ℕ) → (ended ≡ true) ↔ Reads P a.start s.done → now ≡ cond ended read longest
        → IsBestBelow (IsRead P a) (chars text) (suc (length s.done)) now
    tested true now same e =
        let Q : ℕ → Type 0 = λ x. IsBestBelow (IsRead P a) (chars text) (suc (length s.done)) x in
        let matched : IsRead P a s.done = record { reads = same.0 refl; shortest = λ short u v f r. nothing u v f (s.undecided short u v f) r } in
        subst Q (sym (e ∙ s.count)) (best_is (IsRead P a) (chars text) s.done (chars rest) s.cut matched)
      where
        nothing : (u v : List ℕ) → s.done ≡ u ++ v → (v ≢ [] → ¬ Reads P a.start u) → Reads P a.start u → v ≡ []
        nothing u [] f not r = refl
        nothing u (c ∷ v) f not r = absurd (not (λ z. absurd (cc)) r)
    tested false now same e =
        let Q : ℕ → Type 0 = λ x. IsBestBelow (IsRead P a) (chars text) (suc (length s.done)) x in
        subst Q (sym e) (best_not (IsRead P a) (chars text) s.done (chars rest) longest s.cut (λ m. true≢false (sym (same.1 m.reads))) s.best)

    longer_by : (f g : List ℕ) → chars text ≡ f ++ g → suc (length s.done) ≤ length f → (x : List ℕ) × (f ≡ s.done ++ x)
    longer_by f g e h = begins s.done (chars rest) f g (sym s.cut ∙ e) (omega (arith, h))

    below_by : (f : List ℕ) → (suc (length s.done) ≤ length f → ⊥) → length f < suc (length s.done)
    below_by f never = pick (cases_lt (length f) (suc (length s.done)))
      where
        pick : (length f < suc (length s.done)) ⊎ (suc (length s.done) ≤ length f) → length f < suc (length s.done)
        pick (inl h) = h
        pick (inr h) = absurd (never h)

    -- a non-greedy alternative matched
    pub at_shortest : (now : ℕ) → a.short ≡ true → Reads P a.start s.done → IsBestBelow (IsRead P a) (chars text) (suc (length s.done)) now
        → IsLongestLen (IsRead P a) (chars text) now
    at_shortest now short r best =
        best_all (IsRead P a) (chars text) (suc (length s.done)) now (λ f g e m. below_by f (λ h.
        let (x, same) = longer_by f g e h in
        let none = m.shortest short s.done x same r in
        omega (arith, h, ap length same, length-append s.done x, ap length none))) best

    -- no beginning of the rest of at least one character is read
    pub at_stuck : (now : ℕ) → ((u v : List ℕ) → chars rest ≡ u ++ v → u ≢ [] → ¬ ReadsFrom P states u)
        → IsBestBelow (IsRead P a) (chars text) (suc (length s.done)) now → IsLongestLen (IsRead P a) (chars text) now
    at_stuck now stuck best =
        best_all (IsRead P a) (chars text) (suc (length s.done)) now (λ f g e m. below_by f (λ h.
        let (x, same) = longer_by f g e h in
        let Q : List ℕ → Type 0 = λ z. Reads P a.start z in
        let cut : chars rest ≡ x ++ g = same_back s.done (chars rest) (x ++ g) (sym s.cut ∙ e ∙ ap (λ l. l ++ g) same ∙ append_assoc s.done x g) in
        absurd (stuck x g cut (λ none. omega (arith, h, ap length same, length-append s.done x, ap length none)) ((s.reads x).1 (subst Q same m.reads))))) best

    -- no beginning of the rest is read
    pub at_stop : (now : ℕ) → ((u v : List ℕ) → chars rest ≡ u ++ v → ¬ ReadsFrom P states u) → IsBestBelow (IsRead P a) (chars text) (suc (length s.done)) now
        → IsLongestLen (IsRead P a) (chars text) now
    at_stop now stuck best = at_stuck now (λ u v e some. stuck u v e) best

    -- the text is at its end
    pub at_end : (now : ℕ) → length rest ≡ 0 → IsBestBelow (IsRead P a) (chars text) (suc (length s.done)) now → IsLongestLen (IsRead P a) (chars text) now
    at_end now none best =
        best_all (IsRead P a) (chars text) (suc (length s.done)) now
        (λ f g e m. omega (arith, ap length (sym s.cut ∙ e), length-append f g, length-append s.done (chars rest), ap length (no_chars rest none))) best
      where
        no_chars : (r : List ℕ) → length r ≡ 0 → chars r ≡ []
        no_chars [] h = chars-nil
        no_chars (c ∷ r) h = absurd (omega (arith, h))

    -- no beginning of what was read is read, up to its end
    nothing_read : (ended : Bool) → (ended ≡ true) ↔ Reads P a.start s.done → (a.short ≡ true → ended ≡ false) → a.short ≡ true → (u v : List ℕ)
        → s.done ≡ u ++ v → ¬ Reads P a.start u
    nothing_read ended same closed short u [] e r =
        let Q : List ℕ → Type 0 = λ l. Reads P a.start l in
        true≢false (sym (same.1 (subst Q (sym (e ∙ append-nil u)) r)) ∙ closed short)
    nothing_read ended same closed short u (c ∷ v) e r = s.undecided short u (c ∷ v) e (λ z. absurd (cc)) r

    -- where something that goes on is read from the states, the alternative may match something that goes on
    pub goes_on : (ended : Bool) → (ended ≡ true) ↔ Reads P a.start s.done → (a.short ≡ true → ended ≡ false) → (c : ℕ) (w : List ℕ)
        → ReadsFrom P states (c ∷ w) → MayGoOn (IsRead P a) s.done
    goes_on ended same closed c w r = may_go_on P a s.done (nothing_read ended same closed) c w ((s.reads (c ∷ w)).0 r)

    pub left_bytes : (remaining : ℕ) → read + remaining ≡ length text → remaining ≡ length (encode_utf8_all (chars rest))
    left_bytes remaining count = omega (arith, count, bytes_left, ap length (encodes-chars rest s.utf8))

    -- a non-greedy alternative matched: nothing more decides
    pub seen_shortest : (remaining : ℕ) → read + remaining ≡ length text → a.short ≡ true → Reads P a.start s.done
        → IsSeenTo (IsRead P a) (chars text) (Seen.Until remaining)
    seen_shortest remaining count short r =
        seen_until (IsRead P a) (chars text) s.done (chars rest) remaining s.cut (over_shortest P a s.done short r) s.alive (left_bytes remaining count)

    -- nothing that goes on is read from the states
    pub seen_stopped : (remaining : ℕ) → read + remaining ≡ length text → ((c : ℕ) (w : List ℕ) → ¬ ReadsFrom P states (c ∷ w))
        → IsSeenTo (IsRead P a) (chars text) (Seen.Until remaining)
    seen_stopped remaining count none =
        seen_until (IsRead P a) (chars text) s.done (chars rest) remaining s.cut (λ (c, w, m). none c w ((s.reads (c ∷ w)).1 m.reads)) s.alive
        (left_bytes remaining count)

    -- after the next character nothing is read
    pub seen_stuck : (c : ℕ) (left : List ℕ) (remaining : ℕ) → rest ≡ encode_utf8 c ++ left → read + length (encode_utf8 c) + remaining ≡ length text
        → MayGoOn (IsRead P a) s.done → ((w : List ℕ) → ¬ ReadsFrom P states (c ∷ w)) → IsSeenTo (IsRead P a) (chars text) (Seen.Until remaining)
    seen_stuck c left remaining e count more none =
        seen_until (IsRead P a) (chars text) (s.done ++ c ∷ []) (chars left) remaining
        (s.cut ∙ ap (λ l. s.done ++ l) (chars_past_char rest left c s.utf8 e) ∙ sym (append_assoc s.done (c ∷ []) (chars left)))
        (λ (d, w, m). let Q : List ℕ → Type 0 = λ l. Reads P a.start l in
        none (d ∷ w) ((s.reads (c ∷ d ∷ w)).1 (subst Q (append_assoc s.done (c ∷ []) (d ∷ w)) m.reads)))
        (alive_more (IsRead P a) s.done c more)
        (omega (
          arith,
          count,
          bytes_left,
          ap length e,
          length-append (encode_utf8 c) left,
          ap length (encodes-chars left (IsUtf8-past_char rest left c s.utf8 e)),
        ))

    -- the text is at its end, and something goes on
    pub seen_end : length rest ≡ 0 → MayGoOn (IsRead P a) s.done → IsSeenTo (IsRead P a) (chars text) Seen.All
    seen_end none more =
        let Q : List ℕ → Type 0 = λ l. MayGoOn (IsRead P a) l in
        seen_all (IsRead P a) (chars text) (subst Q (sym (s.cut ∙ ap (λ l. s.done ++ l) (no_chars rest none) ∙ append-nil s.done)) more)
      where
        no_chars : (r : List ℕ) → length r ≡ 0 → chars r ≡ []
        no_chars [] h = chars-nil
        no_chars (c ∷ r) h = absurd (omega (arith, h))

    -- nothing of the rest is read from the states, and it is known up to where the rest decides that
    pub seen_dead : (seen : Seen) (ended : Bool) → (ended ≡ true) ↔ Reads P a.start s.done → ended ≡ false
        → ((u v : List ℕ) → chars rest ≡ u ++ v → ¬ ReadsFrom P states u) → IsSeenTo (ReadsFrom P states) (chars rest) seen
        → IsSeenTo (IsRead P a) (chars text) seen
    seen_dead seen ended same unended stuck known =
        seen_further (IsRead P a) (ReadsFrom P states) (chars text) s.done (chars rest) seen s.cut s.alive down up known
      where
        down : (x y : List ℕ) → chars rest ≡ x ++ y → IsProperPrefix (IsRead P a) (s.done ++ x) → IsProperPrefix (ReadsFrom P states) x
        down x y e (c, w, m) =
            let Q : List ℕ → Type 0 = λ l. Reads P a.start l in (c, w, (s.reads (x ++ c ∷ w)).1 (subst Q (append_assoc s.done x (c ∷ w)) m.reads))

        past : (x y : List ℕ) → chars rest ≡ x ++ y → (u v : List ℕ) → s.done ++ x ≡ u ++ v → a.short ≡ true → Reads P a.start u → (length s.done ≤ length u)
            ⊎ (length u < length s.done) → ⊥
        past x y e u v f short r (inr h) =
            let (z, is) = begins u v s.done x (sym f) (omega (arith, h)) in
            nothing_read ended same (λ k. unended) short u z is r
        past x y e u v f short r (inl h) =
            let (z, is) = begins s.done x u v f h in
            let Q : List ℕ → Type 0 = λ l. Reads P a.start l in
            let inside : x ≡ z ++ v = same_back s.done x (z ++ v) (f ∙ ap (λ l. l ++ v) is ∙ append_assoc s.done z v) in
            stuck z (v ++ y) (e ∙ ap (λ l. l ++ y) inside ∙ append_assoc z v y) ((s.reads z).1 (subst Q is r))

        up : (x y : List ℕ) → chars rest ≡ x ++ y → IsProperPrefix (ReadsFrom P states) x → MayGoOn (IsRead P a) (s.done ++ x)
        up x y e (c, w, r) =
            let Q : List ℕ → Type 0 = λ l. Reads P a.start l in
            may_go_on P a (s.done ++ x) (λ short u v f k. past x y e u v f short k (swap (cases_lt (length u) (length s.done)))) c w
            (subst Q (sym (append_assoc s.done x (c ∷ w))) ((s.reads (x ++ c ∷ w)).0 r))
          where
            swap : {A B : Type 0} → A ⊎ B → B ⊎ A
            swap (inl h) = inr h
            swap (inr h) = inl h

    done_more : (c : ℕ) → encode_utf8_all (s.done ++ c ∷ []) ≡ encode_utf8_all s.done ++ encode_utf8 c
    done_more c = encodes-append s.done (c ∷ []) ∙ ap (λ l. encode_utf8_all s.done ++ l) (append-nil (encode_utf8 c))

    pub fits_more : (c : ℕ) (left : List ℕ) → rest ≡ encode_utf8 c ++ left → read + length (encode_utf8 c) ≤ length text
    fits_more c left e = omega (arith, s.count, ap length s.bytes, length-append (encode_utf8_all s.done) rest, ap length e, length-append (encode_utf8 c) left)

    -- one character more
    pub so_far_more : (c : ℕ) (left new : List ℕ) (count now : ℕ) (ended : Bool) → rest ≡ encode_utf8 c ++ left → count ≡ read + length (encode_utf8 c)
        → ((w : List ℕ) → ReadsFrom P new w ↔ ReadsFrom P states (c ∷ w)) →
        (ended ≡ true) ↔ Reads P a.start s.done → (a.short ≡ true → ended ≡ false) → MayGoOn (IsRead P a) s.done
        → IsBestBelow (IsRead P a) (chars text) (suc (length s.done)) now → IsSoFar P a text new left count now
    so_far_more c left new count now ended e n step same closed more best =
        let Q : ℕ → Type 0 = λ x. IsBestBelow (IsRead P a) (chars text) x now in
        let R : List ℕ → Type 0 = λ x. Reads P a.start x in
        record {
          done = s.done ++ c ∷ [];
          bytes =
              s.bytes ∙ ap (λ l. encode_utf8_all s.done ++ l) e ∙ sym (append_assoc (encode_utf8_all s.done) (encode_utf8 c) left)
              ∙ ap (λ l. l ++ left) (sym (done_more c));
          cut = s.cut ∙ ap (λ l. s.done ++ l) (chars_past_char rest left c s.utf8 e) ∙ sym (append_assoc s.done (c ∷ []) (chars left));
          utf8 = IsUtf8-past_char rest left c s.utf8 e;
          count = omega (arith, s.count, n, ap length (done_more c), length-append (encode_utf8_all s.done) (encode_utf8 c));
          reads =
              λ w. both_ways (step w) (both_ways (s.reads (c ∷ w))
              (λ r. subst R (sym (append_assoc s.done (c ∷ []) w)) r, λ r. subst R (append_assoc s.done (c ∷ []) w) r));
          best = subst Q (omega (arith, length-append s.done (c ∷ []))) best;
          undecided = λ short u v f some r. more_undecided u v f some r (closed short) (s.undecided short);
          alive = alive_more (IsRead P a) s.done c more;
        }
      where
        more_undecided : (u v : List ℕ) → s.done ++ c ∷ [] ≡ u ++ v → v ≢ [] → Reads P a.start u → ended ≡ false
            → ((x y : List ℕ) → s.done ≡ x ++ y → y ≢ [] → ¬ Reads P a.start x) → ⊥
        more_undecided u v f some r closed before = pick (cases_lt (length u) (length s.done))
          where
            some_len : (l : List ℕ) → l ≢ [] → 0 < length l
            some_len [] d = absurd (d refl)
            some_len (x ∷ l) d = omega arith

            bound : length u ≤ length s.done
            bound = omega (arith, ap length f, length-append s.done (c ∷ []), length-append u v, some_len v some)

            pick : (length u < length s.done) ⊎ (length s.done ≤ length u) → ⊥
            pick (inl h) =
                let (x, is) = begins u v s.done (c ∷ []) (sym f) (omega (arith, h)) in
                before u x is (λ none. omega (arith, h, ap length is, length-append u x, ap length none)) r
            pick (inr h) =
                let is = begins_same u v s.done (c ∷ []) (sym f) (omega (arith, h, bound)) in
                let R : List ℕ → Type 0 = λ x. Reads P a.start x in
                true≢false (sym (same.1 (subst R is r)) ∙ closed)
