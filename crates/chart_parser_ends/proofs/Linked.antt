-- The chains of ranges.
use Rattle.std.proofs.Common.{◌≡◌, ℕ, zero, suc, ◌+◌, ◌<◌, ◌≤◌, ◌⊎◌, inl, inr, List, [], ◌∷◌, ◌++◌, length, Some}
use Rattle.std.proofs.Common.{slice_get, get_or, set, refl, sym, ap, ◌∙◌, subst, arith, length-append, get_or-set_other, get_or-set_same}
use Rattle.std.proofs.lemmas.Option.{same_Some, slice_get_within}
use Rattle.std.specs.List.{Contains}
use Rattle.std.specs.Prelude.{Result, Ok, Err, OnErr, OnOk}
use Rattle.chart_parser_ends.specs.declared.entries.EndsRange.{EndsRange}
use Rattle.chart_parser_ends.specs.inner.Entries.{Entry, HasEntry}
use Rattle.chart_parser_ends.specs.inner.Ranges.{AreLinked, IsApart, IsLink, IsRangeOf, entries_in}
use Rattle.chart_parser_ends.proofs.Rising.{order}

-- The ranges of the chain from this link on are those that are left to look through: the range of the rule isn't another one of the chain.
pub record IsOnChain (ranges : List EndsRange) (rule first link : ℕ) : Type 0 where
  pub bound : link ≤ length ranges
  pub at : (i : ℕ) (r : EndsRange) → link ≡ i + 1 → slice_get ranges i ≡ Some r → r.first ≡ first
  pub none : (i : ℕ) (r : EndsRange) → link ≤ i → slice_get ranges i ≡ Some r → IsRangeOf rule first r → IsApart r

-- ---- one range more

slice_get_last : {X : Type 0} (xs : List X) (x : X) → slice_get (xs ++ x ∷ []) (length xs) ≡ Some x
slice_get_last [] x = refl
slice_get_last (y ∷ xs) x = slice_get_last xs x

slice_get_before : {X : Type 0} (xs ys : List X) (i : ℕ) → i < length xs → slice_get (xs ++ ys) i ≡ slice_get xs i
slice_get_before [] ys i l = absurd (omega (arith, l))
slice_get_before (y ∷ xs) ys zero l = refl
slice_get_before (y ∷ xs) ys (suc i) l = slice_get_before xs ys i (omega (arith, l))

pub linked_same : (ranges : List EndsRange) (last longer : List ℕ) → ((k : ℕ) → get_or longer k 0 ≡ get_or last k 0) → AreLinked ranges last
    → AreLinked ranges longer
linked_same ranges last longer same linked = record {
  earlier = linked.earlier;
  links = λ first. subst (IsLink ranges (length ranges) first) (sym (same first)) (linked.links first);
}

link_stays : (ranges : List EndsRange) (r : EndsRange) (n first link : ℕ) → n ≤ length ranges → IsLink ranges n first link
    → IsLink (ranges ++ r ∷ []) n first link
link_stays ranges r n first link l is = record {
  bound = is.bound;
  at = λ i x e h. is.at i x e (sym (slice_get_before ranges (r ∷ []) i (omega (arith, l, e, is.bound))) ∙ h);
  last = λ i x m k h. is.last i x m k (sym (slice_get_before ranges (r ∷ []) i (omega (arith, l, k))) ∙ h);
}

module _ (ranges : List EndsRange) (last : List ℕ) (r : EndsRange) (linked : AreLinked ranges last) (earlier : r.earlier ≡ get_or last r.first 0)
  where
    abbrev pub more : List EndsRange
    more = ranges ++ r ∷ []

    pub count : length more ≡ length ranges + 1
    count = length-append ranges (r ∷ [])

    range_last : (i : ℕ) (x : EndsRange) → i ≡ length ranges → slice_get more i ≡ Some x → r ≡ x
    range_last i x h e = same_Some r x (sym (slice_get_last ranges r) ∙ ap (slice_get more) (sym h) ∙ e)

    earlier_stays : (i : ℕ) (x : EndsRange) → slice_get more i ≡ Some x → (i < length ranges) ⊎ (length ranges ≤ i) → IsLink more i x.first x.earlier
    earlier_stays i x e (inl l) =
        link_stays ranges r i x.first x.earlier (omega (arith, l)) (linked.earlier i x (sym (slice_get_before ranges (r ∷ []) i l) ∙ e))
    earlier_stays i x e (inr l) =
        let here : i ≡ length ranges = omega (arith, l, slice_get_within more i x e, count) in
        subst (λ (y : EndsRange). IsLink more i y.first y.earlier) (range_last i x here e)
        (subst (λ n. IsLink more n r.first r.earlier) (sym here)
        (subst (IsLink more (length ranges) r.first) (sym earlier)
        (link_stays ranges r (length ranges) r.first (get_or last r.first 0) (omega arith) (linked.links r.first))))

    link_here : IsLink more (length more) r.first (length ranges + 1)
    link_here = record {
      bound = omega (arith, count);
      at = λ i x e h. ap (λ (y : EndsRange). y.first) (sym (range_last i x (omega (arith, e)) h));
      last = λ i x l k h same. absurd (omega (arith, l, k, count));
    }

    link_other : (first : ℕ) → (first ≡ r.first → ⊥) → IsLink more (length more) first (get_or last first 0)
    link_other first other =
        let is = link_stays ranges r (length ranges) first (get_or last first 0) (omega arith) (linked.links first) in
        record {
          bound = omega (arith, count, is.bound);
          at = is.at;
          last = λ i x l k h same. by is i x l k h same (order i (length ranges));
        }
      where
        by : IsLink more (length ranges) first (get_or last first 0) → (i : ℕ) (x : EndsRange) → get_or last first 0 ≤ i → i < length more
            → slice_get more i ≡ Some x → x.first ≡ first → (i < length ranges) ⊎ (length ranges ≤ i) → IsApart x
        by is i x l k h same (inl m) = is.last i x l m h same
        by is i x l k h same (inr m) =
            absurd (other (sym same ∙ ap (λ (y : EndsRange). y.first) (sym (range_last i x (omega (arith, m, k, count)) h))))

    module _ (within : r.first < length last) where
      abbrev pub new_last : List ℕ
      new_last = set last r.first (length ranges + 1)

      links_stay : (first : ℕ) → (first < r.first) ⊎ (r.first ≤ first) → (r.first < first) ⊎ (first ≤ r.first)
          → IsLink more (length more) first (get_or new_last first 0)
      links_stay first (inl l) _ =
          let other : first ≡ r.first → ⊥ = λ e. omega (arith, l, e) in
          subst (IsLink more (length more) first) (sym (get_or-set_other last r.first first (length ranges + 1) 0 other)) (link_other first other)
      links_stay first (inr l) (inl m) =
          let other : first ≡ r.first → ⊥ = λ e. omega (arith, m, e) in
          subst (IsLink more (length more) first) (sym (get_or-set_other last r.first first (length ranges + 1) 0 other)) (link_other first other)
      links_stay first (inr l) (inr m) =
          let same : r.first ≡ first = omega (arith, l, m) in
          subst (λ f. IsLink more (length more) f (get_or new_last f 0)) same
          (subst (IsLink more (length more) r.first) (sym (get_or-set_same last r.first (length ranges + 1) 0 within)) link_here)

      -- The range is the last one of the chain of its position, which has the link to it.
      pub linked_more : AreLinked more new_last
      linked_more = record {
        earlier = λ i x e. earlier_stays i x e (order i (length ranges));
        links = λ first. links_stay first (order first r.first) (order r.first first);
      }

    -- The range is in no chain.
    pub linked_apart : IsApart r → AreLinked more last
    linked_apart apart = record {
      earlier = λ i x e. earlier_stays i x e (order i (length ranges));
      links = links;
    }
      where
        links : (first : ℕ) → IsLink more (length more) first (get_or last first 0)
        links first =
            let is = link_stays ranges r (length ranges) first (get_or last first 0) (omega arith) (linked.links first) in
            record {
              bound = omega (arith, count, is.bound);
              at = is.at;
              last = λ i x l k h same. by is i x l k h same (order i (length ranges));
            }
          where
            by : IsLink more (length ranges) first (get_or last first 0) → (i : ℕ) (x : EndsRange) → get_or last first 0 ≤ i → i < length more
                → slice_get more i ≡ Some x → x.first ≡ first → (i < length ranges) ⊎ (length ranges ≤ i) → IsApart x
            by is i x l k h same (inl m) = is.last i x l m h same
            by is i x l k h same (inr m) = subst IsApart (range_last i x (omega (arith, m, k, count)) h) apart

pub added_or_not : {T E : Type 0} (P : List EndsRange → Type 0) (ranges new : List EndsRange) (r : EndsRange) (result : Result T E)
    → OnOk result (new ≡ ranges ++ r ∷ []) → OnErr result (new ≡ ranges) → P ranges → P (ranges ++ r ∷ []) → P new
added_or_not P ranges new r (Ok x) added same without with_it = subst P (sym added) with_it
added_or_not P ranges new r (Err x) added same without with_it = subst P (sym same) without

none_at : (i : ℕ) (r : EndsRange) → slice_get [] i ≡ Some r → ⊥
none_at i r e = absurd (omega (arith, slice_get_within [] i r e))

no_links : AreLinked [] []
no_links = record {
  earlier = λ i r e. absurd (none_at i r e);
  links = λ first. record {
    bound = omega arith;
    at = λ i r e h. absurd (none_at i r h);
    last = λ i r l m h same. absurd (none_at i r h);
  };
}

pub none_linked : (ranges : List EndsRange) (last : List ℕ) → ranges ≡ [] → last ≡ [] → AreLinked ranges last
none_linked ranges last none e = subst (λ rs. AreLinked rs last) (sym none) (subst (AreLinked []) (sym e) no_links)

-- Where no range is of the rule at the position, there is no entry of theirs.
pub no_entry : (ends : List ℕ) (ranges : List EndsRange) (rule first : ℕ) → ((r : EndsRange) → Contains ranges r → ¬ IsRangeOf rule first r)
    → HasEntry (entries_in ends ranges) rule first → ⊥
no_entry ends [] rule first none (es, (k, l, e)) = omega (arith, l)
no_entry ends (x ∷ ranges) rule first none (es, (zero, l, e)) =
    none x (0, omega arith, refl) (record { rule_is = ap (λ (y : Entry). y.rule) e; first_is = ap (λ (y : Entry). y.first) e })
no_entry ends (x ∷ ranges) rule first none (es, (suc k, l, e)) =
    no_entry ends ranges rule first (λ r c. none r (later r c)) (es, (k, omega (arith, l), e))
  where
    later : (r : EndsRange) → Contains ranges r → Contains (x ∷ ranges) r
    later r (j, m, at) = (suc j, omega (arith, m), at)
