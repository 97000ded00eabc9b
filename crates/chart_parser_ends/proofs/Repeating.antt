-- The work on a star or plus.
use Rattle.std.proofs.Common.{◌≡◌, ℕ, zero, suc, ◌+◌, ◌<◌, ◌≤◌, ◌⊎◌, inl, inr, Bool, true, false, List, [], ◌∷◌, length, Some}
use Rattle.std.proofs.Common.{slice_get, get_or, drop, if◌then◌else◌, refl, sym, ap, ◌∙◌, subst, arith}
use Rattle.std.proofs.lemmas.Grind.{get_or_default_zero}
use Rattle.std.proofs.lemmas.List.Kept.{AllPairs-from_increasing}
use Rattle.std.specs.Global.{Vec}
use Rattle.std.specs.List.{Contains}
use Rattle.std.specs.List.Sorted.{IsStrictlyIncreasing}
use Rattle.normal_form.specs.declared.normal.Sym.{Sym}
use Rattle.normal_form.specs.declared.normal.Sym.TheVariants.{Rule}
use Rattle.normal_form.specs.Form.{RuleForm, NormalForm}
use Rattle.normal_form.specs.NormalOf.{IsNormal}
use Rattle.normal_form.proofs.Lent as lent
use Rattle.normal_form.specs.Spans.{DerivesSpan, DerivesSpanMany}
use Rattle.chart_parser_ends.specs.declared.repetition.Repetition.{Repetition}
use Rattle.chart_parser_ends.specs.declared.work.RuleEnds.{RuleEnds}
use Rattle.chart_parser_ends.specs.Positions.{HasAll, HasExactly, IsGrown}
use Rattle.chart_parser_ends.specs.inner.Moves.{BeginsRepetition, TakesEntry}
use Rattle.chart_parser_ends.specs.inner.Working.{HasRuleEnds, IsClosing, IsNext, IsRepetition, repeated}
use Rattle.chart_parser_ends.proofs.Rising.{not_falling, order}
use Rattle.chart_parser_ends.proofs.Exactly.{contains_none, contains_one}
use Rattle.chart_parser_ends.proofs.Spans.{closed_many, joins, many_within, spans}

module _ (N : NormalForm) (K : List ℕ) where
  -- once is one time, one more is one more, and each is some number of times
  once : (r : ℕ) (s : Sym) (plus : Bool) (i j : ℕ) → slice_get N.rules r ≡ Some (repeated plus s) → DerivesSpan N K s i j → DerivesSpan N K (Rule r) i j
  once r s true i j at d = ((spans N K).plus r i j s at).1 (j, d, DerivesSpanMany.of_end j d.within)
  once r s false i j at d = ((spans N K).star r i j s at).1 (DerivesSpanMany.of_more i j j d (DerivesSpanMany.of_end j d.within))

  once_more : (r : ℕ) (s : Sym) (plus : Bool) (i m j : ℕ) → slice_get N.rules r ≡ Some (repeated plus s) → DerivesSpan N K (Rule r) i m → DerivesSpan N K s m j
      → DerivesSpan N K (Rule r) i j
  once_more r s true i m j at front d = let (n, first, more) =
      ((spans N K).plus r i m s at).0 front in ((spans N K).plus r i j s at).1 (n, first, (joins N K).one_more s n m j more d)
  once_more r s false i m j at front d = ((spans N K).star r i j s at).1 ((joins N K).one_more s i m j (((spans N K).star r i m s at).0 front) d)

  some_times : (r : ℕ) (s : Sym) (plus : Bool) (i j : ℕ) → slice_get N.rules r ≡ Some (repeated plus s) → DerivesSpan N K (Rule r) i j
      → DerivesSpanMany N K s i j
  some_times r s true i j at d = let (m, first, more) = ((spans N K).plus r i j s at).0 d in DerivesSpanMany.of_more i m j first more
  some_times r s false i j at d = ((spans N K).star r i j s at).0 d

  pub closing_begun : (s : Sym) (first : ℕ) → first ≤ length K → IsClosing N K s first (first ∷ []) first []
  closing_begun s first l = record {
    rising = λ k h. absurd (omega (arith, h));
    rising_covered = λ k h. absurd (omega (arith, h));
    has = (0, omega arith, refl);
    sound = λ j h. subst (DerivesSpanMany N K s first) (sym (contains_one first j h)) (DerivesSpanMany.of_end first l);
    closed = λ p j h m d. absurd (omega (arith, m, contains_one first p h));
    closed_covered = λ p j h d. absurd (contains_none p h);
  }

  pub repetition_begun : (w : Repetition) (rule first : ℕ) (s : Sym) (plus : Bool) → slice_get N.rules rule ≡ Some (repeated plus s) → first ≤ length K
      → BeginsRepetition rule first s plus w → IsRepetition N K w
  repetition_begun w rule first s plus at l b = record {
    repeats =
        ap (slice_get N.rules) b.same_rule ∙ at ∙ ap (λ t. Some (repeated plus t)) (sym b.same_symbol) ∙ ap (λ p. Some (repeated p w.symbol)) (sym b.same_plus);
    closing =
        subst (λ t. IsClosing N K t w.first w.reached.items w.from w.covered.items) (sym b.same_symbol)
        (subst (λ i. IsClosing N K s i w.reached.items w.from w.covered.items) (sym b.same_first)
        (subst (λ l. IsClosing N K s first l w.from w.covered.items) (sym b.reached)
        (subst (λ n. IsClosing N K s first (first ∷ []) n w.covered.items) (sym b.from)
        (subst (IsClosing N K s first (first ∷ []) first) (sym b.covered) (closing_begun s first l)))));
  }

  module _ (s : Sym) (first : ℕ) (old : List ℕ) (from position : ℕ) (covered : List ℕ) (c : IsClosing N K s first old from covered)
      (next : IsNext old from position) where
    same : (p : ℕ) → p < position + 1 → position ≤ p → p ≡ position
    same p l m = omega (arith, l, m)

    pub closing_past : Contains covered position → IsClosing N K s first old (position + 1) covered
    closing_past h =
        record {
          rising = c.rising;
          rising_covered = c.rising_covered;
          has = c.has;
          sound = c.sound;
          closed = λ p j at l d.
              by p j at l d (order p from);
          closed_covered = c.closed_covered;
        }
      where
        by : (p j : ℕ) → Contains old p → p < position + 1 → DerivesSpan N K s p j → (p < from) ⊎ (from ≤ p) → Contains old j
        by p j at l d (inl m) = c.closed p j at m d
        by p j at l d (inr m) = c.closed_covered p j (subst (Contains covered) (sym (same p l (next.least p at m))) h) d

    pub closing_step : (new : List ℕ) → IsStrictlyIncreasing new → IsGrown (DerivesSpan N K s position) old new → HasAll (DerivesSpan N K s position) new
        → IsClosing N K s first new (position + 1) covered
    closing_step new rising grown all = record {
      rising = rising;
      rising_covered = c.rising_covered;
      has = grown.kept first c.has;
      sound = λ j h. sound j (grown.only j h);
      closed = λ p j h l d. closed p j (grown.only p h) l d;
      closed_covered = λ p j h d. grown.kept j (c.closed_covered p j h d);
    }
      where
        sound : (j : ℕ) → Contains old j ⊎ DerivesSpan N K s position j → DerivesSpanMany N K s first j
        sound j (inl h) = c.sound j h
        sound j (inr d) = (joins N K).one_more s first position j (c.sound position next.has) d

        here : (p j : ℕ) → p ≡ position → DerivesSpan N K s p j → Contains new j
        here p j e d = all j (subst (λ q. DerivesSpan N K s q j) e d)

        by : (p j : ℕ) → Contains old p → p < position + 1 → DerivesSpan N K s p j → (p < from) ⊎ (from ≤ p) → Contains new j
        by p j h l d (inl m) = grown.kept j (c.closed p j h m d)
        by p j h l d (inr m) = here p j (same p l (next.least p h m)) d

        closed : (p j : ℕ) → Contains old p ⊎ DerivesSpan N K s position p → p < position + 1 → DerivesSpan N K s p j → Contains new j
        closed p j (inl h) l d = by p j h l d (order p from)
        closed p j (inr x) l d = here p j (same p l x.rises) d

    pub closing_entry : (r : ℕ) (plus : Bool) (ends new new_covered : List ℕ) → slice_get N.rules r ≡ Some (repeated plus s)
        → HasExactly (DerivesSpan N K (Rule r) position) ends →
        IsStrictlyIncreasing new → IsGrown (Contains ends) old new → HasAll (Contains ends) new → IsStrictlyIncreasing new_covered
        → IsGrown (Contains ends) covered new_covered → IsClosing N K s first new (position + 1) new_covered
    closing_entry r plus ends new new_covered at entry rising grown all rising_covered grown_covered = record {
      rising = rising;
      rising_covered = rising_covered;
      has = grown.kept first c.has;
      sound = λ j h. sound j (grown.only j h);
      closed = λ p j h l d. closed p j (grown.only p h) l d;
      closed_covered = λ p j h d. closed_covered p j (grown_covered.only p h) d;
    }
      where
        sound : (j : ℕ) → Contains old j ⊎ Contains ends j → DerivesSpanMany N K s first j
        sound j (inl h) = c.sound j h
        sound j (inr h) = (joins N K).many s first position j (c.sound position next.has) (some_times r s plus position j at (entry.only j h))

        ahead : (p j : ℕ) → Contains ends p → DerivesSpan N K s p j → Contains new j
        ahead p j h d = all j (entry.all j (once_more r s plus position p j at (entry.only p h) d))

        by : (p j : ℕ) → Contains old p → p < position + 1 → DerivesSpan N K s p j → (p < from) ⊎ (from ≤ p) → Contains new j
        by p j h l d (inl m) = grown.kept j (c.closed p j h m d)
        by p j h l d (inr m) = all j (entry.all j (once r s plus position j at (subst (λ q. DerivesSpan N K s q j) (same p l (next.least p h m)) d)))

        closed : (p j : ℕ) → Contains old p ⊎ Contains ends p → p < position + 1 → DerivesSpan N K s p j → Contains new j
        closed p j (inl h) l d = by p j h l d (order p from)
        closed p j (inr h) l d = ahead p j h d

        closed_covered : (p j : ℕ) → Contains covered p ⊎ Contains ends p → DerivesSpan N K s p j → Contains new j
        closed_covered p j (inl h) d = grown.kept j (c.closed_covered p j h d)
        closed_covered p j (inr h) d = ahead p j h d

  pub takes_entry : (w v : Repetition) (position : ℕ) (ends : List ℕ) → IsRepetition N K w → IsNext w.reached.items w.from position
      → HasExactly (DerivesSpan N K (Rule w.rule) position) ends → TakesEntry w position ends v → IsRepetition N K v
  takes_entry w v position ends x next entry t = record {
    repeats = ap (slice_get N.rules) t.rule ∙ x.repeats ∙ ap (λ s. Some (repeated w.plus s)) (sym t.symbol) ∙ ap (λ p. Some (repeated p v.symbol)) (sym t.plus);
    closing =
        subst (λ s. IsClosing N K s v.first v.reached.items v.from v.covered.items) (sym t.symbol)
        (subst (λ i. IsClosing N K w.symbol i v.reached.items v.from v.covered.items) (sym t.first)
        (subst (λ n. IsClosing N K w.symbol w.first v.reached.items n v.covered.items) (sym t.from)
        (closing_entry w.symbol w.first w.reached.items w.from position w.covered.items x.closing next w.rule w.plus ends v.reached.items v.covered.items
        x.repeats entry t.rising t.grown t.all t.rising_covered t.grown_covered)));
  }

  -- Where no position is left, the positions are exactly those that the symbol reaches, any number of times.
  module _ (s : Sym) (first : ℕ) (reached : List ℕ) (from : ℕ) (covered : List ℕ) (c : IsClosing N K s first reached from covered)
      (none : (x : ℕ) → Contains reached x → x < from) where
    all_reached : (j : ℕ) → DerivesSpanMany N K s first j → Contains reached j
    all_reached j d = closed_many (Contains reached) (λ p q h x. c.closed p q h (none p h) x) c.has d

    pub star_found : (r : ℕ) → slice_get N.rules r ≡ Some (RuleForm.star s) → HasExactly (DerivesSpan N K (Rule r) first) reached
    star_found r at =
        record {
          rising = c.rising;
          only = λ j h. ((spans N K).star r first j s at).1 (c.sound j h);
          all = λ j d. all_reached j (((spans N K).star r first j s at).0 d);
        }

    least : (x : ℕ) → Contains reached x → first ≤ x
    least x h = (many_within (c.sound x h)).0

    head_same : (x : ℕ) (rest : List ℕ) → reached ≡ x ∷ rest → x ≡ first
    head_same x rest e = omega (arith, low, high)
      where
        rises : IsStrictlyIncreasing (x ∷ rest)
        rises = subst IsStrictlyIncreasing e c.rising

        there : Contains (x ∷ rest) first
        there = subst (λ l. Contains l first) e c.has

        low : first ≤ x
        low = least x (subst (λ l. Contains l x) (sym e) (0, omega arith, refl))

        high : x ≤ first
        high = omega (arith, not_falling (x ∷ rest) rises 0 there.0 (omega arith) there.1, sym (get_or_default_zero (x ∷ rest) there.0 first there.1) ∙ there.2)

    later : (x y : ℕ) (rest : List ℕ) → IsStrictlyIncreasing (x ∷ rest) → Contains rest y → x < y
    later x y rest rises (k, l, e) =
        omega (arith, AllPairs-from_increasing (x ∷ rest) rises 0 (suc k) 0 (omega arith) (omega (arith, l)), sym (get_or_default_zero rest k y l) ∙ e)

    rest_rises : (x : ℕ) (rest : List ℕ) → IsStrictlyIncreasing (x ∷ rest) → IsStrictlyIncreasing rest
    rest_rises x rest rises k h =
        let e : suc k + 1 ≡ suc (k + 1) = omega arith in
        subst (λ n. get_or rest k 0 < get_or (x ∷ rest) n 0) e (rises (suc k) (omega (arith, h)))

    in_rest : (x y : ℕ) (rest : List ℕ) → Contains (x ∷ rest) y → x < y → Contains rest y
    in_rest x y rest (zero, l, e) m = absurd (omega (arith, e, m))
    in_rest x y rest (suc k, l, e) m = (k, omega (arith, l), e)

    after : (x y : ℕ) (rest : List ℕ) → Contains rest y → Contains (x ∷ rest) y
    after x y rest (k, l, e) = (suc k, omega (arith, l), e)

    -- A plus derives what is reached after the first position.
    plus_of : (r j : ℕ) → slice_get N.rules r ≡ Some (RuleForm.plus s) → Contains reached j → first < j → DerivesSpan N K (Rule r) first j
    plus_of r j at h l = by (((spans N K).many s first j).0 (c.sound j h))
      where
        by : ((first ≡ j) × (j ≤ length K)) ⊎ ((m : ℕ) × DerivesSpan N K s first m × DerivesSpanMany N K s m j) → DerivesSpan N K (Rule r) first j
        by (inl x) = absurd (omega (arith, l, x.0))
        by (inr x) = ((spans N K).plus r first j s at).1 x

    plus_in : (r j : ℕ) → IsNormal N → slice_get N.rules r ≡ Some (RuleForm.plus s) → DerivesSpan N K (Rule r) first j → Contains reached j × (first < j)
    plus_in r j normal at d =
        let (m, one, more) = ((spans N K).plus r first j s at).0 d in
        let moved = lent.elements_move_on lent.elements_are_not_empty N normal K r first m s (inr at) one in
        (all_reached j (DerivesSpanMany.of_more first m j one more), omega (arith, moved, (many_within more).0))

    pub plus_found : (r : ℕ) → IsNormal N → slice_get N.rules r ≡ Some (RuleForm.plus s) → HasExactly (DerivesSpan N K (Rule r) first) (drop 1 reached)
    plus_found r normal at = by reached refl
      where
        by : (l : List ℕ) → reached ≡ l → HasExactly (DerivesSpan N K (Rule r) first) (drop 1 l)
        by [] e = absurd (contains_none first (subst (λ l. Contains l first) e c.has))
        by (x ∷ rest) e =
            let is_first : x ≡ first = head_same x rest e in
            let rises : IsStrictlyIncreasing (x ∷ rest) = subst IsStrictlyIncreasing e c.rising in
            record {
              rising = rest_rises x rest rises;
              only = λ j h. plus_of r j at (subst (λ l. Contains l j) (sym e) (after x j rest h)) (omega (arith, is_first, later x j rest rises h));
              all = λ j d. let there = plus_in r j normal at d in in_rest x j rest (subst (λ l. Contains l j) e there.0) (omega (arith, is_first, there.1));
            }

  -- The entry of a star has all that is reached, and that of a plus all but the first position.
  pub repetition_found : (w : Repetition) (e : RuleEnds) → IsNormal N → IsRepetition N K w → ((x : ℕ) → Contains w.reached.items x → x < w.from) →
      e.rule ≡ w.rule → e.first ≡ w.first → e.ends.items ≡ (if w.plus then drop 1 w.reached.items else w.reached.items) → HasRuleEnds N K e
  repetition_found w e normal x none rule first ends =
      subst (λ r. HasExactly (DerivesSpan N K (Rule r) e.first) e.ends.items) (sym rule)
      (subst (λ i. HasExactly (DerivesSpan N K (Rule w.rule) i) e.ends.items) (sym first)
      (subst (HasExactly (DerivesSpan N K (Rule w.rule) w.first)) (sym ends) (by w.plus x.repeats)))
    where
      by : (plus : Bool) → slice_get N.rules w.rule ≡ Some (repeated plus w.symbol)
          → HasExactly (DerivesSpan N K (Rule w.rule) w.first) (if plus then drop 1 w.reached.items else w.reached.items)
      by true at = plus_found w.symbol w.first w.reached.items w.from w.covered.items x.closing none w.rule normal at
      by false at = star_found w.symbol w.first w.reached.items w.from w.covered.items x.closing none w.rule at

  pub filled : (w : Repetition) → IsRepetition N K w → 0 < length w.reached.items
  filled w x = omega (arith, x.closing.has.1)

  pub repetition_past : (w : Repetition) (position from : ℕ) → IsRepetition N K w → IsNext w.reached.items w.from position → Contains w.covered.items position
      → from ≡ position + 1 → IsRepetition N K (record w { from = from })
  repetition_past w position from x next covered e = record {
    repeats = x.repeats;
    closing =
        subst (λ n. IsClosing N K w.symbol w.first w.reached.items n w.covered.items) (sym e)
        (closing_past w.symbol w.first w.reached.items w.from position w.covered.items x.closing next covered);
  }

  pub repetition_on : (w : Repetition) (position from : ℕ) (new : Vec ℕ) → IsRepetition N K w → IsNext w.reached.items w.from position → from ≡ position + 1 →
      IsStrictlyIncreasing new.items → IsGrown (DerivesSpan N K w.symbol position) w.reached.items new.items
      → HasAll (DerivesSpan N K w.symbol position) new.items → IsRepetition N K (record w { reached = new; from = from })
  repetition_on w position from new x next e rising grown all = record {
    repeats = x.repeats;
    closing =
        subst (λ n. IsClosing N K w.symbol w.first new.items n w.covered.items) (sym e)
        (closing_step w.symbol w.first w.reached.items w.from position w.covered.items x.closing next new.items rising grown all);
  }
