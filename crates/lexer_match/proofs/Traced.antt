-- Sets that were current since the last match are dead once the reading ends.
use Rattle.std.proofs.Common.{◌≡◌, ◌≢◌, ◌<◌, ◌≤◌, ◌⊎◌, inl, inr, ◌↔◌, ℕ, true, false, Bool, List, [], ◌∷◌, ◌++◌}
use Rattle.std.proofs.Common.{length, refl, sym, ap, ◌∙◌, subst, arith, append_assoc, length-append}
use Rattle.std.specs.List.{Contains}
use Rattle.std.proofs.lemmas.Bool.{cases_lt}
use Rattle.std.proofs.lemmas.List.{append-nil}
use Rattle.std.specs.Prelude.{encode_utf8, encode_utf8_all}
use Rattle.std.specs.Str.{chars, IsUtf8}
use Rattle.std.proofs.lemmas.Str.{chars_past_char, chars-nil}
use Rattle.lexer_match.specs.declared.nfa.State.{State}
use Rattle.lexer_match.specs.declared.alternative.Seen.{Seen}
use Rattle.lexer_match.specs.declared.dead.DeadSet.{DeadSet}
use Rattle.lexer_match.specs.declared.dead.DeadSets.{DeadSets}
use Rattle.lexer_match.specs.declared.dead.SetAt.{SetAt}
use Rattle.lexer_match.specs.Dead.{AreDead, AreDeadStates, EndsWith, HasDead, HasNoDead, IsDead, StayDead}
use Rattle.lexer_match.specs.inner.Dead.{IsKnownDead, IsSetAt}
use Rattle.lexer_match.specs.Seen.{IsSeenTo}
use Rattle.lexer_match.specs.StateSets.{AreMarked, ReadsFrom}
use Rattle.lexer_match.specs.declared.state_set.StateSet.{StateSet}
use Rattle.lexer_match.specs.declared.reading.Reading.{Reading}
use Rattle.lexer_match.specs.Reading.{IsReady}
use Rattle.lexer_match.proofs.Cuts.{begins, same_back}
use Rattle.lexer_match.proofs.Found.{reads_same}
use Rattle.lexer_match.proofs.Living.{ReadsOn}
use Rattle.lexer_match.proofs.Seeing.{IsAlive, alive_more, alive_none, seen_all, seen_further, seen_same, seen_until}

-- the same text cut twice, with the same length after the cut
same_end : (front back other end : List ℕ) → front ++ back ≡ other ++ end → length back ≡ length end → back ≡ end
same_end [] back [] end e h = e
same_end [] back (x ∷ other) end e h = absurd (omega (arith, ap length e, length-append (x ∷ other) end, h))
same_end (y ∷ front) back [] end e h = absurd (omega (arith, ap length e, length-append (y ∷ front) back, h))
same_end (y ∷ front) back (x ∷ other) end e h = same_end front back other end (tails e) h
  where
    tails : y ∷ (front ++ back) ≡ x ∷ (other ++ end) → front ++ back ≡ other ++ end
    tails f = cc

no_chars : (l : List ℕ) → length l ≡ 0 → chars l ≡ []
no_chars [] z = chars-nil
no_chars (x ∷ l) z = absurd (omega (arith, z))

-- no beginning of the rest is read from the states, and it is known up to where the rest decides that
pub record IsStuck (P : List State) (states rest : List ℕ) (seen : Seen) : Type 0 where
  pub none : (u v : List ℕ) → chars rest ≡ u ++ v → ¬ ReadsFrom P states u
  pub decides : IsSeenTo (ReadsFrom P states) (chars rest) seen

-- What is read from the set where so many bytes remained goes on through the states that are current now. It wasn't over before.
pub record IsTraced (P : List State) (text states rest : List ℕ) (p : SetAt) : Type 0 where
  pub front : List ℕ
  pub back : List ℕ
  pub since : List ℕ
  pub bytes : text ≡ front ++ back
  pub remaining : length back ≡ p.remaining
  pub cut : chars back ≡ since ++ chars rest
  pub reads : (w : List ℕ) → ReadsFrom P p.states.items (since ++ w) ↔ ReadsFrom P states w
  pub unread : (u v : List ℕ) → since ≡ u ++ v → v ≢ [] → ¬ ReadsFrom P p.states.items u
  pub alive : IsAlive (ReadsFrom P p.states.items) since

module _ (P : List State) (text states rest : List ℕ) where
  -- the states that are current now
  pub traced_now : (front : List ℕ) (p : SetAt) (remaining : ℕ) → text ≡ front ++ rest → length rest ≡ remaining → IsSetAt remaining states p
      → IsTraced P text states rest p
  traced_now front p remaining e h (at, same) =
      record {
        front = front;
        back = rest;
        since = [];
        bytes = e;
        remaining = h ∙ sym at;
        cut = refl;
        reads = λ w. reads_same P p.states.items states w same;
        unread = λ u v f some r. nothing u v f some;
        alive = alive_none (ReadsFrom P p.states.items);
      }
    where
      nothing : (u v : List ℕ) → [] ≡ u ++ v → v ≢ [] → ⊥
      nothing [] v f some = some (sym f)
      nothing (c ∷ u) v f some = absurd (cc)

  module _ (p : SetAt) (t : IsTraced P text states rest p) where
    -- one character more is read
    pub traced_more : (c : ℕ) (left new : List ℕ) → IsUtf8 rest → rest ≡ encode_utf8 c ++ left → (¬ ReadsFrom P states []) → ReadsOn P states
        → ((w : List ℕ) → ReadsFrom P new w ↔ ReadsFrom P states (c ∷ w)) → IsTraced P text new left p
    traced_more c left new utf8 e none (d, x, on) step =
        record {
          front = t.front;
          back = t.back;
          since = t.since ++ c ∷ [];
          bytes = t.bytes;
          remaining = t.remaining;
          cut = t.cut ∙ ap (λ l. t.since ++ l) (chars_past_char rest left c utf8 e) ∙ sym (append_assoc t.since (c ∷ []) (chars left));
          reads =
              λ w. (
                λ r. (step w).1 ((t.reads (c ∷ w)).0 (subst Q (append_assoc t.since (c ∷ []) w) r)),
                λ r. subst Q (sym (append_assoc t.since (c ∷ []) w)) ((t.reads (c ∷ w)).1 ((step w).0 r)),
              );
          unread = λ u v f some r. unread u v f some r;
          alive = alive_more (ReadsFrom P p.states.items) t.since c (λ not. not (d, x, (t.reads (d ∷ x)).1 on));
        }
      where
        Q : List ℕ → Type 0
        Q l = ReadsFrom P p.states.items l

        some_len : (l : List ℕ) → l ≢ [] → 0 < length l
        some_len [] f = absurd (f refl)
        some_len (y ∷ l) f = omega arith

        unread : (u v : List ℕ) → t.since ++ c ∷ [] ≡ u ++ v → v ≢ [] → ¬ ReadsFrom P p.states.items u
        unread u v f some r =
            let (z, is) =
            begins u v t.since (c ∷ []) (sym f) (omega (arith, ap length f, length-append t.since (c ∷ []), length-append u v, some_len v some)) in split z is
          where
            split : (z : List ℕ) → t.since ≡ u ++ z → ⊥
            split [] is = none ((t.reads []).0 (subst Q (sym (append-nil t.since ∙ is ∙ append-nil u)) r))
            split (y ∷ z) is = t.unread u (y ∷ z) is (λ bad. absurd (cc)) r

    -- the reading ends where nothing more is read
    pub traced_dead : (seen : Seen) → IsStuck P states rest seen → (whole : List ℕ) → EndsWith whole text → IsDead P whole (record { set = p; seen = seen })
    traced_dead seen stuck whole (before, e) front back f h =
        let same : back ≡ t.back =
        same_end front back (before ++ t.front) t.back (sym f ∙ e ∙ ap (λ x. before ++ x) t.bytes ∙ sym (append_assoc before t.front t.back))
        (h ∙ sym t.remaining) in
        let D : List ℕ → Type 0 = λ x. AreDeadStates P (chars x) (record { set = p; seen = seen }) in
        subst D (sym same) dead
      where
        M : List ℕ → Type 0
        M w = ReadsFrom P p.states.items w

        none : (u v : List ℕ) → chars t.back ≡ u ++ v → (length u < length t.since) ⊎ (length t.since ≤ length u) → ¬ ReadsFrom P p.states.items u
        none u v f (inl h) r =
            let (z, is) = begins u v t.since (chars rest) (sym f ∙ t.cut) (omega (arith, h)) in
            t.unread u z is (λ bad. omega (arith, h, ap length is, length-append u z, ap length bad)) r
        none u v f (inr h) r =
            let (z, is) = begins t.since (chars rest) u v (sym t.cut ∙ f) h in
            stuck.none z v (same_back t.since (chars rest) (z ++ v) (sym t.cut ∙ f ∙ ap (λ l. l ++ v) is ∙ append_assoc t.since z v))
            ((t.reads z).0 (subst M is r))

        dead : AreDeadStates P (chars t.back) (record { set = p; seen = seen })
        dead =
            record {
              stuck = λ u v f r. none u v f (cases_lt (length u) (length t.since)) r;
              seen =
                  seen_further M (λ w. ReadsFrom P states w) (chars t.back) t.since (chars rest) seen t.cut t.alive
                  (λ x y f (c, w, r). (c, w, (t.reads (x ++ c ∷ w)).0 (subst M (append_assoc t.since x (c ∷ w)) r)))
                  (λ x y f (c, w, r) not. not (c, w, subst M (sym (append_assoc t.since x (c ∷ w))) ((t.reads (x ++ c ∷ w)).1 r)))
                  stuck.decides;
            }

  -- the current states are known to be dead
  pub stuck_known : (front : List ℕ) (dead : DeadSets) (remaining : ℕ) (seen : Seen) → text ≡ front ++ rest → length rest ≡ remaining → AreDead P text dead
      → IsKnownDead dead remaining states seen → IsStuck P states rest seen
  stuck_known front dead remaining seen e h known (d, has, (at, same), is) =
      let found = known d has front rest e (h ∙ sym at) in
      let Q : Seen → Type 0 = λ x. IsSeenTo (λ w. ReadsFrom P states w) (chars rest) x in
      record {
        none = λ u v f r. found.stuck u v f ((reads_same P d.set.states.items states u same).1 r);
        decides =
            subst Q is (seen_same (λ w. ReadsFrom P d.set.states.items w) (λ w. ReadsFrom P states w) (chars rest) d.seen
            (λ w. reads_same P d.set.states.items states w same) found.seen);
      }

  -- the text is at its end, isn't matched, and something goes on
  pub stuck_end : length rest ≡ 0 → (¬ ReadsFrom P states []) → ReadsOn P states → IsStuck P states rest Seen.All
  stuck_end h none (d, x, on) =
      record {
        none = λ u v f r. nothing u v f r;
        decides =
            seen_all (λ w. ReadsFrom P states w) (chars rest)
            (λ not. not (d, x, let Q : List ℕ → Type 0 = λ l. ReadsFrom P states (l ++ d ∷ x) in subst Q (sym (no_chars rest h)) on));
      }
    where
      nothing : (u v : List ℕ) → chars rest ≡ u ++ v → ¬ ReadsFrom P states u
      nothing [] v f r = none r
      nothing (c ∷ u) v f r = absurd (omega (arith, ap length f, ap length (no_chars rest h)))

  -- nothing goes on, and it isn't matched
  pub stuck_over : (remaining : ℕ) → remaining ≡ length (encode_utf8_all (chars rest)) → (¬ ReadsFrom P states [])
      → ((c : ℕ) (w : List ℕ) → ¬ ReadsFrom P states (c ∷ w)) → IsStuck P states rest (Seen.Until remaining)
  stuck_over remaining count none never =
      record {
        none = λ u v f r. nothing u r;
        decides =
            seen_until (λ w. ReadsFrom P states w) (chars rest) [] (chars rest) remaining refl (λ (c, w, r). never c w r)
            (alive_none (λ w. ReadsFrom P states w)) count;
      }
    where
      nothing : (u : List ℕ) → ¬ ReadsFrom P states u
      nothing [] r = none r
      nothing (c ∷ u) r = never c u r

-- what was dead stays so, and the trace comes to it
pub stay_dead : (P : List State) (text : List ℕ) (old new : DeadSets) (trace : List SetAt) (seen : Seen)
    → ((d : DeadSet) → HasDead new d → HasDead old d ⊎ (Contains trace d.set × (d.seen ≡ seen))) →
    ((whole : List ℕ) → EndsWith whole text → (p : SetAt) → Contains trace p → IsDead P whole (record { set = p; seen = seen })) → StayDead P text old new
stay_dead P text old new trace seen added traced whole ends before d has = pick (added d has)
  where
    pick : HasDead old d ⊎ (Contains trace d.set × (d.seen ≡ seen)) → IsDead P whole d
    pick (inl h) = before d h
    pick (inr (c, e)) = let Q : Seen → Type 0 = λ s. IsDead P whole (record { set = d.set; seen = s }) in subst Q (sym e) (traced whole ends d.set c)

-- of a text that is the end of the whole one the same sets are dead
pub dead_end : (P : List State) (whole text : List ℕ) (dead : DeadSets) → EndsWith whole text → AreDead P whole dead → AreDead P text dead
dead_end P whole text dead (before, e) known d has front back f h =
    known d has (before ++ front) back (e ∙ ap (λ x. before ++ x) f ∙ sym (append_assoc before front back)) h

pub none_dead : (P : List State) (text : List ℕ) (dead : DeadSets) → HasNoDead dead → AreDead P text dead
none_dead P text dead none d has = absurd (none d has)

-- What is in the trace, after the states that are current now were added to it.
pub traced_both : (P : List State) (text states rest front : List ℕ) (before cleared now : List SetAt) (ended : Bool) (remaining : ℕ)
    → (ended ≡ true → cleared ≡ []) → (ended ≡ false → cleared ≡ before) →
    ((p : SetAt) → Contains now p → Contains cleared p ⊎ ((ended ≡ false) × IsSetAt remaining states p)) →
    ((p : SetAt) → Contains before p → IsTraced P text states rest p) → text ≡ front ++ rest → length rest ≡ remaining → (p : SetAt) → Contains now p
    → (ended ≡ false) × IsTraced P text states rest p
traced_both P text states rest front before cleared now ended remaining none same added old e h p among = pick (added p among)
  where
    kept : (b : Bool) → ended ≡ b → Contains cleared p → (ended ≡ false) × IsTraced P text states rest p
    kept true f k = let Q : List SetAt → Type 0 = λ x. Contains x p in no_item (subst Q (none f) k)
      where
        no_item : Contains [] p → (ended ≡ false) × IsTraced P text states rest p
        no_item (i, inside, is) = absurd (omega (arith, inside))
    kept false f k = let Q : List SetAt → Type 0 = λ x. Contains x p in (f, old p (subst Q (same f) k))

    pick : Contains cleared p ⊎ ((ended ≡ false) × IsSetAt remaining states p) → (ended ≡ false) × IsTraced P text states rest p
    pick (inl k) = kept ended refl k
    pick (inr (f, is)) = (f, traced_now P text states rest front p remaining e h is)

-- a reading with the same states is ready as well
pub ready_same : (size : ℕ) (a b : Reading) → b.current ≡ a.current → b.next ≡ a.next → IsReady size a → IsReady size b
ready_same size a b e f r =
    let L : StateSet → Type 0 = λ x. (length x.marks.items ≡ size) × AreMarked x.states.items x.marks.items in
    let current = subst L (sym e) (r.current_size, r.current_marked) in
    let next = subst L (sym f) (r.next_size, r.next_marked) in
    record { current_size = current.0; current_marked = current.1; next_size = next.0; next_marked = next.1 }

pub whole_ends : (whole rest front left : List ℕ) → whole ≡ front ++ left → rest ≡ left → EndsWith whole rest
whole_ends whole rest front left e f = (front, e ∙ ap (λ x. front ++ x) (sym f))
