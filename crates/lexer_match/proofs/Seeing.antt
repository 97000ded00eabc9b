-- Up to where a text decides which of its beginnings belong to a language.
use Rattle.std.proofs.Common.{◌≡◌, ◌≢◌, ◌<◌, ◌≤◌, ◌⊎◌, inl, inr, ◌↔◌, ℕ, zero, suc, Bool, true, false, List, [], ◌∷◌, ◌++◌, length}
use Rattle.std.proofs.Common.{refl, sym, ap, ◌∙◌, subst, arith, append_assoc, length-append, true≢false}
use Rattle.std.proofs.lemmas.List.{append-nil}
use Rattle.std.proofs.lemmas.Bool.{cases_lt}
use Rattle.std.specs.Prelude.{encode_utf8_all}
use Rattle.lexer_match.specs.declared.nfa.State.{State}
use Rattle.lexer_match.specs.declared.alternative.Alternative.{Alternative}
use Rattle.lexer_match.specs.declared.alternative.Seen.{Seen}
use Rattle.lexer_match.specs.Nfa.{Reads}
use Rattle.lexer_match.specs.Reading.{IsRead}
use Rattle.lexer_match.specs.Seen.{IsProperPrefix, IsSeenTo}
use Rattle.lexer_match.proofs.Cuts.{begins, same_back}

some_len : (l : List ℕ) → l ≢ [] → 0 < length l
some_len [] d = absurd (d refl)
some_len (x ∷ l) d = omega arith

-- some word goes on after the beginning, as far as can be told
abbrev pub MayGoOn : (List ℕ → Type 0) → List ℕ → Type 0
MayGoOn M front = ¬ ¬ IsProperPrefix M front

-- after each shorter beginning some word does
abbrev pub IsAlive : (List ℕ → Type 0) → List ℕ → Type 0
IsAlive M done = (f g : List ℕ) → done ≡ f ++ g → g ≢ [] → MayGoOn M f

module _ (M : List ℕ → Type 0) where
  pub shorter : (f x : List ℕ) → IsProperPrefix M (f ++ x) → IsProperPrefix M f
  shorter f [] (c, w, m) = let Q : List ℕ → Type 0 = λ l. M (l ++ c ∷ w) in (c, w, subst Q (append-nil f) m)
  shorter f (d ∷ x) (c, w, m) = (d, x ++ c ∷ w, subst M (append_assoc f (d ∷ x) (c ∷ w)) m)

  pub may_shorter : (f x whole : List ℕ) → whole ≡ f ++ x → MayGoOn M whole → MayGoOn M f
  may_shorter f x whole e h not = h (λ p. not (shorter f x (let Q : List ℕ → Type 0 = λ l. IsProperPrefix M l in subst Q e p)))

  pub alive_none : IsAlive M []
  alive_none [] g e some = absurd (some (sym e))
  alive_none (c ∷ f) g e some = absurd (cc)

  -- one character more
  pub alive_more : (done : List ℕ) (c : ℕ) → MayGoOn M done → IsAlive M (done ++ c ∷ [])
  alive_more done c h f g e some =
      let (x, is) = begins f g done (c ∷ []) (sym e) (omega (arith, ap length e, length-append done (c ∷ []), length-append f g, some_len g some)) in
      may_shorter f x done is h

  -- the beginning that was read is the least one after which no word goes on
  pub seen_until : (text done left : List ℕ) (remaining : ℕ) → text ≡ done ++ left → ¬ IsProperPrefix M done → IsAlive M done
      → remaining ≡ length (encode_utf8_all left) → IsSeenTo M text (Seen.Until remaining)
  seen_until text done left remaining cut over alive count =
      (done, left, record { cut = cut; over = over; least = λ other l e not. least other l e not (cases_lt (length other) (length done)) }, count)
    where
      least : (other l : List ℕ) → text ≡ other ++ l → ¬ IsProperPrefix M other → (length other < length done) ⊎ (length done ≤ length other)
          → length done ≤ length other
      least other l e not (inr h) = h
      least other l e not (inl h) =
          let (x, is) = begins other l done left (sym e ∙ cut) (omega (arith, h)) in
          absurd (alive other x is (λ none. omega (arith, h, ap length is, length-append other x, ap length none)) not)

  pub seen_all : (text : List ℕ) → MayGoOn M text → IsSeenTo M text Seen.All
  seen_all text h front back e = may_shorter front back text e h

  -- What is read after the beginning is decided up to there, and so is the whole.
  pub seen_further : (L : List ℕ → Type 0) (text done rest : List ℕ) (seen : Seen) → text ≡ done ++ rest → IsAlive M done
      → ((x y : List ℕ) → rest ≡ x ++ y → IsProperPrefix M (done ++ x) → IsProperPrefix L x) →
      ((x y : List ℕ) → rest ≡ x ++ y → IsProperPrefix L x → MayGoOn M (done ++ x)) → IsSeenTo L rest seen → IsSeenTo M text seen
  seen_further L text done rest (Seen.Until remaining) cut alive down up (front, back, s, count) = (
    done ++ front,
    back,
    record {
      cut = whole;
      over = λ p. s.over (down front back s.cut p);
      least = λ other left e not. least other left e not (cases_lt (length other) (length done));
    },
    count,
  )
    where
      whole : text ≡ (done ++ front) ++ back
      whole = cut ∙ ap (λ l. done ++ l) s.cut ∙ sym (append_assoc done front back)

      least : (other left : List ℕ) → text ≡ other ++ left → ¬ IsProperPrefix M other → (length other < length done) ⊎ (length done ≤ length other)
          → length (done ++ front) ≤ length other
      least other left e not (inl h) =
          let (x, is) = begins other left done rest (sym e ∙ cut) (omega (arith, h)) in
          absurd (alive other x is (λ none. omega (arith, h, ap length is, length-append other x, ap length none)) not)
      least other left e not (inr h) =
          let (x, is) = begins done rest other left (sym cut ∙ e) h in
          let here : rest ≡ x ++ left = same_back done rest (x ++ left) (sym cut ∙ e ∙ ap (λ l. l ++ left) is ∙ append_assoc done x left) in
          let Q : List ℕ → Type 0 = λ l. ¬ IsProperPrefix M l in
          let short = s.least x left here (λ p. up x left here p (subst Q is not)) in
          omega (arith, short, ap length is, length-append done x, length-append done front)
  seen_further L text done rest Seen.All cut alive down up all =
      seen_all text (λ not. all rest [] (sym (append-nil rest))
      (λ p. up rest [] (sym (append-nil rest)) p (λ q. not (let Q : List ℕ → Type 0 = λ l. IsProperPrefix M l in subst Q (sym cut) q))))

-- the same texts
pub seen_same : (L M : List ℕ → Type 0) (text : List ℕ) (seen : Seen) → ((w : List ℕ) → L w ↔ M w) → IsSeenTo L text seen → IsSeenTo M text seen
seen_same L M text seen same is =
    seen_further M L text [] text seen refl (alive_none M) (λ x y e (c, w, m). (c, w, (same (x ++ c ∷ w)).1 m))
    (λ x y e (c, w, m) not. not (c, w, (same (x ++ c ∷ w)).0 m)) is

module _ (P : List State) (a : Alternative) (front : List ℕ) where
  -- no beginning of it is read
  abbrev pub NothingRead : Type 0
  NothingRead = (u v : List ℕ) → front ≡ u ++ v → ¬ Reads P a.start u

  -- what is read longer isn't the least such text, as long as none is
  abbrev AreNoLonger : ℕ → Type 0
  AreNoLonger n = (c : ℕ) (w : List ℕ) → length w < n → ¬ Reads P a.start (front ++ c ∷ w)

  shortest_word : NothingRead → (c : ℕ) (w : List ℕ) → AreNoLonger (length w) → (u v : List ℕ) → front ++ c ∷ w ≡ u ++ v → Reads P a.start u → v ≡ []
  shortest_word none c w again u [] e more = refl
  shortest_word none c w again u (d ∷ v) e more = absurd (pick (cases_lt (length front) (length u)))
    where
      longer : (x : List ℕ) → u ≡ front ++ x → ⊥
      longer [] is = none u [] (sym (append-nil u ∙ is ∙ append-nil front)) more
      longer (y ∷ x) is =
          let Q : List ℕ → Type 0 = λ l. Reads P a.start l in
          again y x (omega (arith, ap length e, length-append front (c ∷ w), length-append u (d ∷ v), ap length is, length-append front (y ∷ x)))
          (subst Q is more)

      pick : (length front < length u) ⊎ (length u ≤ length front) → ⊥
      pick (inl l) = let (x, is) = begins front (c ∷ w) u (d ∷ v) e (omega (arith, l)) in longer x is
      pick (inr l) = let (x, is) = begins u (d ∷ v) front (c ∷ w) (sym e) l in none u x is more

  no_longer : NothingRead → ¬ IsProperPrefix (IsRead P a) front → (n : ℕ) → AreNoLonger n
  no_longer none not zero c w h r = omega (arith, h)
  no_longer none not (suc n) c w h r =
      let again : AreNoLonger (length w) = λ d v k more. no_longer none not n d v (omega (arith, k, h)) more in
      not (c, w, record { reads = r; shortest = λ short u v e more. shortest_word none c w again u v e more })

  -- the alternative matches something that goes on after it, if something that goes on after it is read
  pub may_go_on : (a.short ≡ true → NothingRead) → (c : ℕ) (w : List ℕ) → Reads P a.start (front ++ c ∷ w) → MayGoOn (IsRead P a) front
  may_go_on none c w r = pick a.short refl
    where
      pick : (b : Bool) → a.short ≡ b → MayGoOn (IsRead P a) front
      pick true e not = no_longer (none e) not (suc (length w)) c w (omega arith) r
      pick false e not = not (c, w, record { reads = r; shortest = λ short u v f more. absurd (true≢false (sym short ∙ e)) })

  -- it matched, and is non-greedy
  pub over_shortest : a.short ≡ true → Reads P a.start front → ¬ IsProperPrefix (IsRead P a) front
  over_shortest short r (c, w, m) = let none : c ∷ w ≡ [] = m.shortest short front (c ∷ w) refl r in absurd (cc)
