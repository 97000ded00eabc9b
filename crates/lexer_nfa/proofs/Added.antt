-- What states that are added read, from what each of them does.
use Rattle.std.proofs.Common.{◌≡◌, ◌≢◌, ◌<◌, ◌≤◌, ◌⊎◌, inl, inr, ◌↔◌, ℕ, zero, suc, true, nat_eq, List, [], ◌∷◌, ◌++◌, Some}
use Rattle.std.proofs.Common.{slice_get, length, refl, sym, ap, ◌∙◌, subst, arith, append_assoc, length-append}
use Rattle.std.proofs.Math.ListN.{set, length-set}
use Rattle.std.proofs.lemmas.Bool.{cases_lt}
use Rattle.grammar_tree.specs.Written.{LexerTerm, LexerRule, WrittenRule}
use Rattle.grammar_tree.specs.Matches.{Matches, MatchesMany}
use Rattle.grammar_tree.specs.Laws.{CutsInto}
use Rattle.grammar_tree.proofs.Lent as forms
use Rattle.lexer_match.specs.declared.nfa.State.{State}
use Rattle.lexer_match.specs.Nfa.{Reads, GoesBelow, IsClosed}
use Rattle.lexer_nfa.specs.inner.Compile.{HaveSame, Implements, ImplementsAll, IsAdded, MatchesRuleAt}
use Rattle.lexer_match.proofs.Lent.{get_before, get_last, get_within, set_at, set_other, below_more, never_reads, set_reads, char_reads, split_reads}

abbrev Language : Type 1
Language = List ℕ → Type 0

cuts_map : (A B C D : Language) (w : List ℕ) → ((u : List ℕ) → A u → B u) → ((u : List ℕ) → C u → D u) → CutsInto A C w → CutsInto B D w
cuts_map A B C D w f g (u, v, e, a, c) = (u, v, e, f u a, g v c)

cuts_left : (A B C : Language) (w : List ℕ) → CutsInto A (CutsInto B C) w → CutsInto (CutsInto A B) C w
cuts_left A B C w (u, v, e, a, (x, y, f, b, c)) = (u ++ x, y, e ∙ ap (λ l. u ++ l) f ∙ sym (append_assoc u x y), (u, x, refl, a, b), c)

cuts_right : (A B C : Language) (w : List ℕ) → CutsInto (CutsInto A B) C w → CutsInto A (CutsInto B C) w
cuts_right A B C w (u, v, e, (x, y, f, a, b), c) = (x, y ++ v, e ∙ ap (λ l. l ++ v) f ∙ append_assoc x y v, a, (y, v, refl, b, c))

-- nothing is added, and nothing is read
pub added_nothing : {R : List WrittenRule} (old : List State) (next : ℕ) → IsClosed old → next < length old → IsAdded R (λ w. w ≡ []) old old next next
added_nothing old next closed h =
    record {
      longer = omega arith;
      kept = λ n low high. refl;
      inside = h;
      closed = closed;
      means =
          λ P same w. (
            λ r. ([], w, refl, refl, r),
            λ (u, v, e, n, r). let Q : List ℕ → Type 0 = λ x. Reads P next x in
                subst Q (sym (e ∙ ap (λ l. l ++ v) n)) r,
          );
    }

-- the language may be said in other words
pub added_as : {R : List WrittenRule} (A B : Language) (old new : List State) (entry next : ℕ) → ((w : List ℕ) → A w ↔ B w) → IsAdded R A old new entry next
    → IsAdded R B old new entry next
added_as A B old new entry next same a =
    record {
      longer = a.longer;
      kept = a.kept;
      inside = a.inside;
      closed = a.closed;
      means = λ P h w. (
        λ r. cuts_map A B (Reads P next) (Reads P next) w (λ u. (same u).0) (λ u x. x) ((a.means P h w).0 r),
        λ c. (a.means P h w).1 (cuts_map B A (Reads P next) (Reads P next) w (λ u. (same u).1) (λ u x. x) c),
      );
    }

pushed_len : (old : List State) (state : State) → length (old ++ state ∷ []) ≡ suc (length old)
pushed_len old state = length-append old (state ∷ []) ∙ omega arith

goes_below : (n : ℕ) (state other : State) → state ≡ other → GoesBelow n state → GoesBelow n other
goes_below n state other e h = let Q : State → Type 0 = λ x. GoesBelow n x in subst Q e h

pub pushed_closed : (old : List State) (state : State) → IsClosed old → GoesBelow (suc (length old)) state → IsClosed (old ++ state ∷ [])
pushed_closed old state closed below n other g = pick (cases_lt n (length old))
  where
    inside : n < suc (length old)
    inside = omega (arith, get_within (old ++ state ∷ []) other n g, pushed_len old state)

    pick : (n < length old) ⊎ (length old ≤ n) → GoesBelow (length (old ++ state ∷ [])) other
    pick (inl h) =
        below_more (length old) (length (old ++ state ∷ [])) other (omega (arith, pushed_len old state))
        (closed n other (sym (get_before old (state ∷ []) n h) ∙ g))
    pick (inr h) =
        let last = get_last old state n (omega (arith, inside, h)) in
        let is : state ≡ other = (let k : Some state ≡ Some other = sym last ∙ g in cc) in
        goes_below (length (old ++ state ∷ [])) state other is
        (below_more (suc (length old)) (length (old ++ state ∷ [])) state (omega (arith, pushed_len old state)) below)

pub set_closed : (old : List State) (at : ℕ) (state : State) → IsClosed old → GoesBelow (length old) state → IsClosed (set old at state)
set_closed old at state closed below n other g = pick (cases_lt n at) (cases_lt at n)
  where
    same : length (set old at state) ≡ length old
    same = length-set old at state

    before : n ≢ at → GoesBelow (length (set old at state)) other
    before d = below_more (length old) (length (set old at state)) other (omega (arith, same)) (closed n other (sym (set_other old state at n d) ∙ g))

    pick : (n < at) ⊎ (at ≤ n) → (at < n) ⊎ (n ≤ at) → GoesBelow (length (set old at state)) other
    pick (inl h) k = before (λ e. omega (arith, e, h))
    pick (inr h) (inl k) = before (λ e. omega (arith, e, k))
    pick (inr h) (inr k) =
        let e : n ≡ at = omega (arith, h, k) in
        let within : at < length old = omega (arith, get_within (set old at state) other n g, same, e) in
        let found = set_at old state at within in
        let is : state ≡ other = (let q : Some state ≡ Some other = sym found ∙ ap (λ x. slice_get (set old at state) x) (sym e) ∙ g in cc) in
        goes_below (length (set old at state)) state other is (below_more (length old) (length (set old at state)) state (omega (arith, same)) below)

-- one state is added, and what it reads is known at whatever index
pub added_state : {R : List WrittenRule} (A : Language) (old : List State) (state : State) (next : ℕ) → IsClosed old → 0 < length old
    → GoesBelow (suc (length old)) state →
    ((P : List State) (n : ℕ) → 0 < n → Implements R P n state → (w : List ℕ) → Reads P n w ↔ CutsInto A (Reads P next) w)
    → IsAdded R A old (old ++ state ∷ []) (length old) next
added_state A old state next closed some below reads =
    record {
      longer = omega (arith, pushed_len old state);
      kept = λ n low high. get_before old (state ∷ []) n high;
      inside = omega (arith, pushed_len old state);
      closed = pushed_closed old state closed below;
      means =
          λ P same w. reads P (length old) some (same (length old) state (omega arith) (omega (arith, pushed_len old state))
          (get_last old state (length old) refl)) w;
    }

nat_eq_true : (m n : ℕ) → nat_eq m n ≡ true → m ≡ n
nat_eq_true m n e = grind (arith)

pub added_char : {R : List WrittenRule} (old : List State) (c next : ℕ) → IsClosed old → next < length old
    → IsAdded R (λ w. w ≡ c ∷ []) old (old ++ State.Char c next ∷ []) (length old) next
added_char old c next closed h = added_state (λ w. w ≡ c ∷ []) old (State.Char c next) next closed (omega (arith, h)) (omega (arith, h)) reads
  where
    reads : (P : List State) (n : ℕ) → 0 < n → slice_get P n ≡ Some (State.Char c next) → (w : List ℕ) → Reads P n w
        ↔ CutsInto (λ u. u ≡ c ∷ []) (Reads P next) w
    reads P n some at w = (
      λ r. let (d, v, e, test, more) = (char_reads P n next c w some at).0 r in (c ∷ [], v, e ∙ ap (λ x. x ∷ v) (sym (nat_eq_true c d test)), refl, more),
      λ (u, v, e, one, more). (char_reads P n next c w some at).1 (c, v, e ∙ ap (λ l. l ++ v) one, grind (arith), more),
    )

pub added_set : {R : List WrittenRule} (G : List LexerRule) (old : List State) (s : List (ℕ × ℕ)) (next : ℕ) → IsClosed old → next < length old
    → IsAdded R (Matches G (LexerTerm.set s)) old (old ++ State.Set s next ∷ []) (length old) next
added_set G old s next closed h = added_state (Matches G (LexerTerm.set s)) old (State.Set s next) next closed (omega (arith, h)) (omega (arith, h)) reads
  where
    reads : (P : List State) (n : ℕ) → 0 < n → slice_get P n ≡ Some (State.Set s next) → (w : List ℕ) → Reads P n w
        ↔ CutsInto (Matches G (LexerTerm.set s)) (Reads P next) w
    reads P n some at w = (
      λ r. let (c, v, e, test, more) = (set_reads P n next s w some at).0 r in (c ∷ [], v, e, Matches.by_set s c test, more),
      λ (u, v, e, m, more).
          let (c, one, test) = ((forms.by_form G).set s u).0 m in (set_reads P n next s w some at).1 (c, v, e ∙ ap (λ l. l ++ v) one, test, more),
    )

pub added_never : {R : List WrittenRule} (A : Language) (old : List State) (next : ℕ) → ((w : List ℕ) → ¬ A w) → IsClosed old → 0 < length old
    → IsAdded R A old (old ++ State.Never ∷ []) (length old) next
added_never A old next none closed some =
    added_state A old State.Never next closed some tt (λ P n h at w. (λ r. absurd (never_reads P n w h at r), λ (u, v, e, a, r). absurd (none u a)))

-- a call of a rule
pub added_call : {R : List WrittenRule} (old : List State) (rule next : ℕ) → IsClosed old → next < length old
    → IsAdded R (MatchesRuleAt R rule) old (old ++ State.Call rule next ∷ []) (length old) next
added_call {R} old rule next closed h =
    added_state (MatchesRuleAt R rule) old (State.Call rule next) next closed (omega (arith, h)) (omega (arith, h)) (λ P n some reads w. reads w)

-- what was added before stays where more is added
same_before : (R : List WrittenRule) (P mid new : List State) (low : ℕ) → low ≤ length mid → length mid ≤ length new → HaveSame new mid 0 (length mid)
    → ImplementsAll R P new low (length new) → ImplementsAll R P mid low (length mid)
same_before R P mid new low h k kept same n state from to at = same n state from (omega (arith, to, k)) (kept n (omega arith) to ∙ at)

same_after : (R : List WrittenRule) (P mid new : List State) (low : ℕ) → low ≤ length mid → ImplementsAll R P new low (length new)
    → ImplementsAll R P new (length mid) (length new)
same_after R P mid new low h same n state from to at = same n state (omega (arith, h, from)) to at

kept_both : (old mid new : List State) → length old ≤ length mid → HaveSame mid old 0 (length old) → HaveSame new mid 0 (length mid)
    → HaveSame new old 0 (length old)
kept_both old mid new h first second n low high = second n low (omega (arith, high, h)) ∙ first n low high

-- One after another: what reads the second language is added first.
pub added_then : {R : List WrittenRule} (A B : Language) (old mid new : List State) (entry between next : ℕ) → IsAdded R B old mid between next
    → IsAdded R A mid new entry between → IsAdded R (CutsInto A B) old new entry next
added_then {R} A B old mid new entry between next b a =
    record {
      longer = omega (arith, b.longer, a.longer);
      kept = kept_both old mid new b.longer b.kept a.kept;
      inside = a.inside;
      closed = a.closed;
      means = λ P same w.
          let first = a.means P (same_after R P mid new (length old) b.longer same) in
          let second = b.means P (same_before R P mid new (length old) b.longer a.longer a.kept same) in (
            λ r. cuts_left A B (Reads P next) w (cuts_map A A (Reads P between) (CutsInto B (Reads P next)) w (λ u x. x) (λ u. (second u).0) ((first w).0 r)),
            λ c. (first w).1 (cuts_map A A (CutsInto B (Reads P next)) (Reads P between) w (λ u x. x) (λ u. (second u).1) (cuts_right A B (Reads P next) w c)),
          );
    }

-- Either: a state goes on at both entries.
pub added_or : {R : List WrittenRule} (A B : Language) (old mid new : List State) (left right next : ℕ) → 0 < length old → IsAdded R A old mid left next
    → IsAdded R B mid new right next →
    IsAdded R (λ w. A w ⊎ B w) old (new ++ State.Split right left ∷ []) (length new) next
added_or {R} A B old mid new left right next some a b =
    record {
      longer = omega (arith, a.longer, b.longer, pushed_len new (State.Split right left));
      kept =
          λ n low high. get_before new (State.Split right left ∷ []) n (omega (arith, high, a.longer, b.longer))
          ∙ kept_both old mid new a.longer a.kept b.kept n low high;
      inside = omega (arith, pushed_len new (State.Split right left));
      closed = pushed_closed new (State.Split right left) b.closed (omega (arith, b.inside), omega (arith, a.inside, b.longer));
      means = λ P same w.
          let last = new ++ State.Split right left ∷ [] in
          let kept : HaveSame last new 0 (length new) = λ n low high. get_before new (State.Split right left ∷ []) n high in
          let longer : length new ≤ length last = omega (arith, pushed_len new (State.Split right left)) in
          let same_new = same_before R P new last (length old) (omega (arith, a.longer, b.longer)) longer kept same in
          let first = a.means P (same_before R P mid new (length old) a.longer b.longer b.kept same_new) in
          let second = b.means P (same_after R P mid new (length old) a.longer same_new) in
          let at : slice_get P (length new) ≡ Some (State.Split right left) =
          same (length new) (State.Split right left) (omega (arith, a.longer, b.longer)) (omega (arith, pushed_len new (State.Split right left)))
          (get_last new (State.Split right left) (length new) refl) in
          let splits = split_reads P (length new) right left w (omega (arith, some, a.longer, b.longer)) at in (
            λ r. to P w (splits.0 r) (first w).0 (second w).0,
            λ c. splits.1 (from P w c (first w).1 (second w).1),
          );
    }
  where
    to : (P : List State) (w : List ℕ) → Reads P right w ⊎ Reads P left w → (Reads P left w → CutsInto A (Reads P next) w)
        → (Reads P right w → CutsInto B (Reads P next) w) → CutsInto (λ u. A u ⊎ B u) (Reads P next) w
    to P w (inl r) f g = let (u, v, e, x, more) = g r in (u, v, e, inr x, more)
    to P w (inr r) f g = let (u, v, e, x, more) = f r in (u, v, e, inl x, more)

    from : (P : List State) (w : List ℕ) → CutsInto (λ u. A u ⊎ B u) (Reads P next) w → (CutsInto A (Reads P next) w → Reads P left w)
        → (CutsInto B (Reads P next) w → Reads P right w) → Reads P right w ⊎ Reads P left w
    from P w (u, v, e, inl x, more) f g = inr (f (u, v, e, x, more))
    from P w (u, v, e, inr x, more) f g = inl (g (u, v, e, x, more))

-- Not at all, or once.
pub added_opt : {R : List WrittenRule} (G : List LexerRule) (t : LexerTerm) (old new : List State) (present next : ℕ) → IsClosed old → next < length old
    → IsAdded R (Matches G t) old new present next →
    IsAdded R (Matches G (LexerTerm.opt t)) old (new ++ State.Split present next ∷ []) (length new) next
added_opt G t old new present next closed h a =
    added_as (λ w. (w ≡ []) ⊎ Matches G t w) (Matches G (LexerTerm.opt t)) old (new ++ State.Split present next ∷ []) (length new) next
    (λ w. let same = (forms.by_form G).opt t w in (same.1, same.0))
    (added_or (λ w. w ≡ []) (Matches G t) old old new next present next (omega (arith, h)) (added_nothing old next closed h) a)

module _ (G : List LexerRule) (t : LexerTerm) (some : ¬ Matches G t []) (P : List State) (again body next : ℕ) where
  abbrev Once : List ℕ → Type 0
  Once = CutsInto (Matches G t) (Reads P again)

  abbrev Often : List ℕ → Type 0
  Often = CutsInto (Matches G (LexerTerm.star t)) (Reads P next)

  by_split : (w : List ℕ) → (Once w → Often w) → (Reads P body w → Once w) → Reads P body w ⊎ Reads P next w → Often w
  by_split w f g (inl r) = f (g r)
  by_split w f g (inr r) = ([], w, refl, ((forms.by_form G).star t []).1 (inl refl), r)

  join : (u v w : List ℕ) → w ≡ u ++ v → Matches G t u → Often v → Often w
  join u v w e m (x, y, f, n, q) =
      (u ++ x, y, e ∙ ap (λ l. u ++ l) f ∙ sym (append_assoc u x y), ((forms.by_form G).star t (u ++ x)).1 (inr (u, x, refl, m, n)), q)

  -- the loop's state goes on at its body and after the loop, and the body goes on at the loop's state
  again_often : ((v : List ℕ) → Reads P again v → Reads P body v ⊎ Reads P next v) → ((v : List ℕ) → Reads P body v → Once v) → (b : ℕ) (w : List ℕ)
      → length w ≤ b → Once w → Often w
  again_often splits reads b w h ([], v, e, m, r) = absurd (some m)
  again_often splits reads zero w h (c ∷ u, v, e, m, r) = absurd (omega (arith, h, ap length e, length-append (c ∷ u) v))
  again_often splits reads (suc b) w h (c ∷ u, v, e, m, r) =
      join (c ∷ u) v w e m (by_split v (again_often splits reads b v (omega (arith, h, ap length e, length-append (c ∷ u) v))) (reads v) (splits v r))

  often_again : ((v : List ℕ) → Reads P body v ⊎ Reads P next v → Reads P again v) → ((v : List ℕ) → Once v → Reads P body v) → {s : LexerTerm} {u : List ℕ}
      → MatchesMany G s u → s ≡ t → (v : List ℕ) → Reads P next v → Reads P again (u ++ v)
  often_again splits reads (MatchesMany.by_end s) e v r = splits v (inr r)
  often_again splits reads (MatchesMany.by_more s x y m more) e v r =
      let Q : LexerTerm → Type 0 = λ z. Matches G z x in
      let R : List ℕ → Type 0 = λ z. Reads P again z in
      subst R (sym (append_assoc x y v)) (splits (x ++ (y ++ v))
      (inl (reads (x ++ (y ++ v)) (x, y ++ v, refl, subst Q e m, often_again splits reads more e v r))))

star_many : {G : List LexerRule} {t : LexerTerm} {w : List ℕ} → Matches G (LexerTerm.star t) w → MatchesMany G t w
star_many (Matches.by_star t w m) = m

-- what the states of a loop are, in any NFA that has them
module _ {R : List WrittenRule} (G : List LexerRule) (t : LexerTerm) (some : ¬ Matches G t []) (old mid : List State) (body next : ℕ) (h : next < length old)
    (a : IsAdded R (Matches G t) (old ++ State.Never ∷ []) mid body (length old)) where
  abbrev looped : List State
  looped = set mid (length old) (State.Split body next)

  longer : suc (length old) ≤ length looped
  longer = omega (arith, pushed_len old State.Never, a.longer, length-set mid (length old) (State.Split body next))

  kept : HaveSame looped old 0 (length old)
  kept n low high =
      set_other mid (State.Split body next) (length old) n (λ e. omega (arith, e, high))
      ∙ a.kept n low (omega (arith, high, pushed_len old State.Never))
      ∙ get_before old (State.Never ∷ []) n high

  closed : IsClosed looped
  closed = set_closed mid (length old) (State.Split body next) a.closed (a.inside, omega (arith, h, pushed_len old State.Never, a.longer))

  module _ (P : List State) (same : ImplementsAll R P looped (length old) (length looped)) where
    splits : (v : List ℕ) → Reads P (length old) v ↔ (Reads P body v ⊎ Reads P next v)
    splits v =
        split_reads P (length old) body next v (omega (arith, h))
        (same (length old) (State.Split body next) (omega arith) (omega (arith, longer))
        (set_at mid (State.Split body next) (length old) (omega (arith, pushed_len old State.Never, a.longer))))

    reads : (v : List ℕ) → Reads P body v ↔ CutsInto (Matches G t) (Reads P (length old)) v
    reads = a.means P (λ n state low high at.
        same n state (omega (arith, low, pushed_len old State.Never)) (omega (arith, high, length-set mid (length old) (State.Split body next)))
        (set_other mid (State.Split body next) (length old) n (λ e. omega (arith, e, low, pushed_len old State.Never)) ∙ at))

    often : (w : List ℕ) → Reads P (length old) w → CutsInto (Matches G (LexerTerm.star t)) (Reads P next) w
    often w r =
        by_split G t some P (length old) body next w
        (again_often G t some P (length old) body next (λ v. (splits v).0) (λ v. (reads v).0) (length w) w (omega arith))
        (reads w).0 ((splits w).0 r)

    again : (u v : List ℕ) → Matches G (LexerTerm.star t) u → Reads P next v → Reads P (length old) (u ++ v)
    again u v m r = often_again G t some P (length old) body next (λ x. (splits x).1) (λ x. (reads x).1) (star_many m) refl v r

  pub added_star : IsAdded R (Matches G (LexerTerm.star t)) old looped (length old) next
  added_star =
      record {
        longer = omega (arith, longer);
        kept = kept;
        inside = omega (arith, longer);
        closed = closed;
        means = λ P same w. (
          often P same w,
          λ (u, v, e, m, r). let Q : List ℕ → Type 0 = λ x. Reads P (length old) x in subst Q (sym e) (again P same u v m r),
        );
      }

  pub added_plus : IsAdded R (Matches G (LexerTerm.plus t)) old looped body next
  added_plus =
      record {
        longer = omega (arith, longer);
        kept = kept;
        inside = omega (arith, a.inside, length-set mid (length old) (State.Split body next));
        closed = closed;
        means = λ P same w. (
          λ r. first P same w ((reads P same w).0 r),
          λ (u, v, e, m, r). (reads P same w).1 (back P same u v w e r (((forms.by_form G).plus t u).0 m)),
        );
      }
    where
      first : (P : List State) → ImplementsAll R P looped (length old) (length looped) → (w : List ℕ) → CutsInto (Matches G t) (Reads P (length old)) w
          → CutsInto (Matches G (LexerTerm.plus t)) (Reads P next) w
      first P same w (u, v, e, m, r) =
          let (x, y, f, n, q) = often P same v r in
          (u ++ x, y, e ∙ ap (λ l. u ++ l) f ∙ sym (append_assoc u x y), ((forms.by_form G).plus t (u ++ x)).1 (u, x, refl, m, n), q)

      back : (P : List State) → ImplementsAll R P looped (length old) (length looped) → (u v w : List ℕ) → w ≡ u ++ v → Reads P next v
          → CutsInto (Matches G t) (Matches G (LexerTerm.star t)) u → CutsInto (Matches G t) (Reads P (length old)) w
      back P same u v w e r (x, y, f, m, n) = (x, y ++ v, e ∙ ap (λ l. l ++ v) f ∙ append_assoc x y v, m, again P same y v n r)
