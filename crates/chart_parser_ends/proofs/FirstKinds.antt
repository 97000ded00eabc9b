-- What a symbol can begin with, where the rows are closed.
use Rattle.std.proofs.Common.{◌≡◌, ℕ, zero, suc, ◌+◌, ◌<◌, ◌≤◌, ◌⊎◌, inl, inr, true, List, [], ◌∷◌, ◌++◌, length}
use Rattle.std.proofs.Common.{Some, slice_get, get_or, refl, sym, ap, ◌∙◌, subst, arith}
use Rattle.std.proofs.lemmas.List.Edits.{between_none}
use Rattle.std.specs.List.{Contains, between}
use Rattle.normal_form.specs.declared.normal.Sym.{Sym}
use Rattle.normal_form.specs.declared.normal.Sym.TheVariants.{Kind, Set, Rule}
use Rattle.normal_form.specs.Form.{RuleForm, NormalForm}
use Rattle.normal_form.specs.NormalDerives.{NormalDerives, NormalDerivesSeq, NormalDerivesMany, of_kind, of_set, of_regular, of_absent}
use Rattle.normal_form.specs.NormalDerives.{of_present, of_star, of_plus, of_done, of_next, of_end, of_more}
use Rattle.normal_form.specs.Spans.{DerivesSpan, DerivesSpanMany}
use Rattle.normal_form.proofs.Lent.{between_append, between_one}
use Rattle.chart_parser_ends.specs.declared.firsts.FirstRow.{FirstRow}
use Rattle.chart_parser_ends.specs.inner.Firsts.{AreClosed, AreFirsts, CanBeLeftOut, CoversAlternative, HasKind}
use Rattle.chart_parser_ends.specs.inner.Firsts.{HasWhatBegins, MayBeEmpty, MayBeEmptyBefore, MayBegin}
use Rattle.chart_parser_ends.specs.Positions.{HasExactly}
use Rattle.chart_parser_ends.proofs.Exactly.{exactly_none, exactly_one}
use Rattle.chart_parser_ends.proofs.Rising.{order}
use Rattle.chart_parser_ends.proofs.Spans.{spans}

none_begins : (k : ℕ) (u : List ℕ) → [] ≡ k ∷ u → ⊥
none_begins k u e = absurd (cc)

one_is_not_none : (k : ℕ) (u : List ℕ) → k ∷ u ≡ [] → ⊥
one_is_not_none k u e = absurd (cc)

head_of : (j k : ℕ) (t u : List ℕ) → j ∷ t ≡ k ∷ u → j ≡ k
head_of j k t u e = cc

-- two lists that are empty together
first_none : (u v : List ℕ) → u ++ v ≡ [] → u ≡ []
first_none [] v e = refl
first_none (k ∷ u) v e = absurd (one_is_not_none k (u ++ v) e)

module _ (N : NormalForm) (rows : List FirstRow) (closed : AreClosed N rows) where
  abbrev IsIn : Sym → List ℕ → Type 0
  IsIn s w = (w ≡ [] → MayBeEmpty rows s) × ((k : ℕ) (u : List ℕ) → w ≡ k ∷ u → MayBegin N rows s k)

  abbrev IsInRow : FirstRow → List ℕ → Type 0
  IsInRow row w = (w ≡ [] → row.empty ≡ true) × ((k : ℕ) (u : List ℕ) → w ≡ k ∷ u → HasKind row k)

  tail_covers : (s : Sym) (ss : List Sym) (row : FirstRow) → MayBeEmpty rows s → CoversAlternative N rows (s ∷ ss) row → CoversAlternative N rows ss row
  tail_covers s ss row e c =
      record {
        empty = λ all. c.empty (λ i t l at. before (length ss) all i t l at);
        begins = λ i t at all. c.begins (suc i) t at (λ j u m here. before i all j u m here);
      }
    where
      same : (t : Sym) → Some s ≡ Some t → s ≡ t
      same t x = cc

      before : (n : ℕ) → MayBeEmptyBefore rows ss n → (i : ℕ) (t : Sym) → i < suc n → slice_get (s ∷ ss) i ≡ Some t → MayBeEmpty rows t
      before n all zero t l at = subst (MayBeEmpty rows) (same t at) e
      before n all (suc i) t l at = all i t (omega (arith, l)) at

  -- what one symbol and then others begin with
  next_in : (s : Sym) (ss : List Sym) (row : FirstRow) (u v : List ℕ) → CoversAlternative N rows (s ∷ ss) row → IsIn s u
      → (CoversAlternative N rows ss row → IsInRow row v) → IsInRow row (u ++ v)
  next_in s ss row [] v c one rest = rest (tail_covers s ss row (one.0 refl) c)
  next_in s ss row (j ∷ u) v c one rest = (
    λ e. absurd (one_is_not_none j (u ++ v) e),
    λ k t e. c.begins 0 s refl (λ i t l at. absurd (omega (arith, l))) k (subst (MayBegin N rows s) (head_of j k (u ++ v) t e) (one.1 j u refl)),
  )

  more_in : (s : Sym) (row : FirstRow) (u v : List ℕ) → HasWhatBegins N rows s row → IsIn s u → ((k : ℕ) (t : List ℕ) → v ≡ k ∷ t → HasKind row k)
      → (k : ℕ) (t : List ℕ) → u ++ v ≡ k ∷ t → HasKind row k
  more_in s row [] v has one rest k t e = rest k t e
  more_in s row (j ∷ u) v has one rest k t e = has k (subst (MayBegin N rows s) (head_of j k (u ++ v) t e) (one.1 j u refl))

  mutual
    one_in : (s : Sym) (w : List ℕ) → NormalDerives N s w → IsIn s w
    one_in (Kind own) w (of_kind k) = (λ e. absurd (one_is_not_none own [] e), λ k u e. head_of own k [] u e)
    one_in (Set i) w (of_set j k ks at c) = (λ e. absurd (one_is_not_none k [] e), λ k' u e. (ks, at, subst (Contains ks) (head_of k k' [] u e) c))
    one_in (Rule r) w (of_regular q alts alt v at c ds) = (
      λ e row h. (seq_in alt row w (closed r (RuleForm.regular alts) at row h alt c) ds).0 e,
      λ k u e row h. (seq_in alt row w (closed r (RuleForm.regular alts) at row h alt c) ds).1 k u e,
    )
    one_in (Rule r) w (of_absent q s at) = (λ e row h. (closed r (RuleForm.opt s) at row h).0, λ k u e. absurd (none_begins k u e))
    one_in (Rule r) w (of_present q s v at d) =
        (λ e row h. (closed r (RuleForm.opt s) at row h).0, λ k u e row h. (closed r (RuleForm.opt s) at row h).1 k ((one_in s w d).1 k u e))
    one_in (Rule r) w (of_star q s v at ds) =
        (λ e row h. (closed r (RuleForm.star s) at row h).0, λ k u e row h. many_in s row w (closed r (RuleForm.star s) at row h).1 ds k u e)
    one_in (Rule r) w (of_plus q s u v at d ds) = (
      λ e row h. (closed r (RuleForm.plus s) at row h).0 ((one_in s u d).0 (first_none u v e)),
      λ k t e row h. more_in s row u v (closed r (RuleForm.plus s) at row h).1 (one_in s u d)
          (many_in s row v (closed r (RuleForm.plus s) at row h).1 ds) k t e,
    )

    seq_in : (ss : List Sym) (row : FirstRow) (w : List ℕ) → CoversAlternative N rows ss row → NormalDerivesSeq N ss w → IsInRow row w
    seq_in [] row w c of_done = (λ e. c.empty (λ i s l at. absurd (omega (arith, l))), λ k u e. absurd (none_begins k u e))
    seq_in (s ∷ ss) row w c (of_next q qs u v d ds) = next_in s ss row u v c (one_in s u d) (λ rest. seq_in ss row v rest ds)

    many_in : (s : Sym) (row : FirstRow) (w : List ℕ) → HasWhatBegins N rows s row → NormalDerivesMany N s w → (k : ℕ) (t : List ℕ) → w ≡ k ∷ t → HasKind row k
    many_in s row w has (of_end q) k t e = absurd (none_begins k t e)
    many_in s row w has (of_more q u v d ds) k t e = more_in s row u v has (one_in s u d) (many_in s row v has ds) k t e

  pub closed_firsts : AreFirsts N rows
  closed_firsts = record { empty = λ s d. (one_in s [] d).0 refl; begins = λ s k w d. (one_in s (k ∷ w) d).1 k w refl }

module _ (N : NormalForm) (K : List ℕ) (rows : List FirstRow) (firsts : AreFirsts N rows) (r first : ℕ)
    (no-kind : first < length K → MayBegin N rows (Rule r) (get_or K first 0) → ⊥) where
  -- It can end only where it begins.
  ends_here : (j : ℕ) → DerivesSpan N K (Rule r) first j → j ≡ first
  ends_here j d = by (order first j)
    where
      longer : first < j → NormalDerives N (Rule r) (get_or K first 0 ∷ between (first + 1) j K)
      longer l =
          let l' : first < length K = omega (arith, l, d.within) in
          subst (NormalDerives N (Rule r)) (sym (between_append K first (first + 1) j (omega arith) (omega (arith, l)))
          ∙ ap (λ xs. xs ++ between (first + 1) j K) (between_one K first l')) d.derived

      by : (first < j) ⊎ (j ≤ first) → j ≡ first
      by (inl l) = absurd (no-kind (omega (arith, l, d.within)) (firsts.begins (Rule r) (get_or K first 0) (between (first + 1) j K) (longer l)))
      by (inr l) = omega (arith, l, d.rises)

  pub none_exact : (MayBeEmpty rows (Rule r) → ⊥) → HasExactly (DerivesSpan N K (Rule r) first) []
  none_exact cannot = exactly_none (DerivesSpan N K (Rule r) first) none
    where
      none : (j : ℕ) → DerivesSpan N K (Rule r) first j → ⊥
      none j d =
          cannot
          (firsts.empty (Rule r) (subst (NormalDerives N (Rule r)) (between_none K first)
          (subst (λ i. NormalDerives N (Rule r) (between first i K)) (ends_here j d) d.derived)))

  pub here_exact : DerivesSpan N K (Rule r) first first → HasExactly (DerivesSpan N K (Rule r) first) (first ∷ [])
  here_exact d = exactly_one (DerivesSpan N K (Rule r) first) first d ends_here

-- A star or optional derives nothing from each position.
pub left_out_here : (N : NormalForm) (K : List ℕ) (r i : ℕ) → CanBeLeftOut N r → i ≤ length K → DerivesSpan N K (Rule r) i i
left_out_here N K r i (s, inl at) l = ((spans N K).star r i i s at).1 (DerivesSpanMany.of_end i l)
left_out_here N K r i (s, inr at) l = ((spans N K).opt r i i s at).1 (inl (refl, l))
