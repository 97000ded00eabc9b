-- Texts by their numbers: one text more, and the walk from the newest text with a number to the older ones.
use Rattle.std.proofs.Common.{◌≡◌, ◌<◌, ◌≤◌, ◌+◌, ℕ, zero, suc, List, [], ◌∷◌, ◌++◌, Option, Some, None, IfSome, arith, refl, sym, ◌∙◌, ap, get_or, length}
use Rattle.std.proofs.Common.{nat_eq, eqb-true, Bool, true, false, cond, length-append, ◌⊎◌, inl, inr}
use Rattle.std.proofs.lemmas.Bool.{cases_lt, cases_order, false_from_ne_true}
use Rattle.std.proofs.lemmas.Cmp.{nat_eq_equiv, nat_list_eq_equiv}
use Rattle.std.proofs.lemmas.List.{get_or-map, get_or_append_left, get_or_push, length-map}
use Rattle.std.proofs.lemmas.Map.Keys.{IsDistinct-tail, apart_from_distinct}
use Rattle.std.proofs.lemmas.Slice.Eq.{bytes_eq-Decides}
use Rattle.std.specs.HashMap.{HashMap, get}
use Rattle.std.specs.List.{IsDistinct}
use Rattle.std.specs.Str.{bytes_eq}
use Rattle.verdict_table.specs.TableState.{record_from, texts_of}
use Rattle.verdict_table.specs.declared.found.Found.TheVariants.{Filled}
use Rattle.verdict_table.specs.declared.record.Record.{Record}
use Rattle.verdict_table.specs.inner.TextIndex.{IsIndexOf, IsNewest, count_to, text_at, text_number}

-- ---- one text more

number_before : (texts : List (List ℕ)) (text : List ℕ) (i n : ℕ) → i < length texts → text_number (text_at (texts ++ text ∷ []) i) ≡ n
    → text_number (text_at texts i) ≡ n
number_before texts text i n within number = ap text_number (sym (get_or_append_left texts (text ∷ []) [] i within)) ∙ number

number_after : (texts : List (List ℕ)) (text : List ℕ) (i n : ℕ) → i < length texts → text_number (text_at texts i) ≡ n
    → text_number (text_at (texts ++ text ∷ []) i) ≡ n
number_after texts text i n within number = ap text_number (get_or_append_left texts (text ∷ []) [] i within) ∙ number

newest_kept : (n k : ℕ) (texts : List (List ℕ)) (text : List ℕ) (newest : Option ℕ) → k ≤ length texts → IsNewest n texts k newest
    → IsNewest n (texts ++ text ∷ []) k newest
newest_kept n k texts text None below is = record {
  within = is.within;
  same = tt;
  others = λ i from to number. is.others i from to (number_before texts text i n (omega (arith, to, below)) number);
}
newest_kept n k texts text (Some j) below is = record {
  within = is.within;
  same = number_after texts text j n (omega (arith, is.within, below)) is.same;
  others = λ i from to number. is.others i from to (number_before texts text i n (omega (arith, to, below)) number);
}

newest_added : (texts : List (List ℕ)) (text : List ℕ) (n : ℕ) → text_number text ≡ n
    → IsNewest n (texts ++ text ∷ []) (length texts + 1) (Some (length texts))
newest_added texts text n is = record {
  within = omega arith;
  same = ap text_number (get_or_push texts text [] (length texts) refl) ∙ is;
  others = λ i from to number. omega (arith, from, to);
}

not_later : (texts : List (List ℕ)) (text : List ℕ) (n i : ℕ) (newest : Option ℕ) → (text_number text ≡ n → ⊥) → IsNewest n texts (length texts) newest
    → count_to newest ≤ i → i < length texts + 1 → text_number (text_at (texts ++ text ∷ []) i) ≡ n → (i < length texts) ⊎ (length texts ≤ i) → ⊥
not_later texts text n i newest apart is from to number (inl before) = is.others i from before (number_before texts text i n before number)
not_later texts text n i newest apart is from to number (inr past) =
    apart (ap text_number (sym (get_or_push texts text [] i (omega (arith, to, past)))) ∙ number)

newest_other : (texts : List (List ℕ)) (text : List ℕ) (n : ℕ) (newest : Option ℕ) → (text_number text ≡ n → ⊥) → IsNewest n texts (length texts) newest
    → IsNewest n (texts ++ text ∷ []) (length texts + 1) newest
newest_other texts text n newest apart is =
    let kept : IsNewest n (texts ++ text ∷ []) (length texts) newest = newest_kept n (length texts) texts text newest (omega arith) is in
    record {
      within = omega (arith, is.within);
      same = kept.same;
      others = λ i from to number. not_later texts text n i newest apart is from to number (cases_lt i (length texts));
    }

apart_from_numbers : (m n : ℕ) → nat_eq m n ≡ false → m ≡ n → ⊥
apart_from_numbers m n differs equal =
    let same : nat_eq m n ≡ true = rw equal (nat_eq_equiv.refl n) in
    cc (sym differs ∙ same)

newest_at : (texts : List (List ℕ)) (text : List ℕ) (n : ℕ) (newest : Option ℕ) (same : Bool) → same ≡ nat_eq (text_number text) n
    → IsNewest n texts (length texts) newest → IsNewest n (texts ++ text ∷ []) (length texts + 1) (cond same (Some (length texts)) newest)
newest_at texts text n newest true same is = newest_added texts text n (eqb-true _ _ (sym same))
newest_at texts text n newest false same is =
    newest_other texts text n newest (apart_from_numbers (text_number text) n (sym same)) is

module _ {S : Type 0} (texts : List (List ℕ)) (text : List ℕ) (latest : HashMap ℕ ℕ S) (earlier : List (Option ℕ)) (is : IsIndexOf texts latest earlier) where
  older_at : (old : Option ℕ) (i : ℕ) → old ≡ get nat_eq latest (text_number text) → i < length texts + 1 → (i < length texts) ⊎ (length texts ≤ i)
      → IsNewest (text_number (text_at (texts ++ text ∷ []) i)) (texts ++ text ∷ []) i (get_or (earlier ++ old ∷ []) i None)
  older_at old i found to (inl before) =
      rw (get_or_append_left texts (text ∷ []) [] i before, get_or_append_left earlier (old ∷ []) None i (omega (arith, before, is.same_length)))
      (newest_kept _ i texts text _ (omega (arith, before)) (is.older i before))
  older_at old i found to (inr past) =
      let here : i ≡ length texts = omega (arith, to, past) in
      rw (here, get_or_push texts text [] (length texts) refl, get_or_push earlier old None (length texts) is.same_length, found)
      (newest_kept _ (length texts) texts text _ (omega arith) (is.newest (text_number text)))

  -- the text is the newest with its number, and the one that was is before it
  pub index_pushed : (larger : HashMap ℕ ℕ S) (old : Option ℕ) → old ≡ get nat_eq latest (text_number text)
      → ((n : ℕ) → get nat_eq larger n ≡ cond (nat_eq (text_number text) n) (Some (length texts)) (get nat_eq latest n))
      → IsIndexOf (texts ++ text ∷ []) larger (earlier ++ old ∷ [])
  index_pushed larger old found updated =
      let count : length (texts ++ text ∷ []) ≡ length texts + 1 = simp length-append (omega arith) in
      record {
        same_length = simp length-append (omega (arith, is.same_length));
        newest = λ n. rw (count, updated n) (newest_at texts text n (get nat_eq latest n) (nat_eq (text_number text) n) refl (is.newest n));
        older = λ i within. older_at old i found (omega (arith, count, within)) (cases_lt i (length texts));
      }

-- ---- the walk

-- what is left of a walk: the texts from here on have other bytes
pub record IsLeft (text : List ℕ) (texts : List (List ℕ)) (next : Option ℕ) : Type 0 where
  pub within : count_to next ≤ length texts
  pub same : IfSome next (λ i. text_number (text_at texts i) ≡ text_number text)
  pub others : (i : ℕ) → count_to next ≤ i → i < length texts → bytes_eq text (text_at texts i) ≡ false

differs_by_number : (text other : List ℕ) → (text_number other ≡ text_number text → ⊥) → bytes_eq text other ≡ false
differs_by_number text other apart = false_from_ne_true (bytes_eq text other) (λ same. apart (ap text_number (sym ((bytes_eq-Decides text other).0 same))))

pub left_first : (text : List ℕ) (texts : List (List ℕ)) (newest : Option ℕ) → IsNewest (text_number text) texts (length texts) newest
    → IsLeft text texts newest
left_first text texts newest is = record {
  within = is.within;
  same = is.same;
  others = λ i from to. differs_by_number text (text_at texts i) (is.others i from to);
}

-- the text that is next is one of the list's
pub left_before : (text : List ℕ) (texts : List (List ℕ)) (next : Option ℕ) (at : ℕ) → next ≡ Some at → IsLeft text texts next → at < length texts
left_before text texts next at is left =
    let within : at + 1 ≤ length texts = rw is at left.within in
    omega (arith, within)

pub left_within : (text : List ℕ) (rs : List Record) (next : Option ℕ) (at : ℕ) → next ≡ Some at → IsLeft text (texts_of rs) next → at < length rs
left_within text rs next at is left = rw (← length-map rs (λ (r : Record). r.text)) (left_before text (texts_of rs) next at is left)

pub smaller_count : (n : ℕ) (texts : List (List ℕ)) (at : ℕ) (older next : Option ℕ) → next ≡ Some at → IsNewest n texts at older
    → count_to older < count_to next
smaller_count n texts at older next is newest = rw is (omega (arith, newest.within))

pub record_text : (rs : List Record) (at : ℕ) (r : Record) → at < length rs → r ≡ get_or rs at r → text_at (texts_of rs) at ≡ r.text
record_text rs at r within is = get_or-map (λ (q : Record). q.text) rs at r [] within ∙ ap (λ (q : Record). q.text) (sym is)

module _ (text : List ℕ) (texts : List (List ℕ)) (at : ℕ) (left : IsLeft text texts (Some at)) (differs : bytes_eq text (text_at texts at) ≡ false) where
  differs_from : (older : Option ℕ) (i : ℕ) → IsNewest (text_number (text_at texts at)) texts at older → count_to older ≤ i → i < length texts
      → (i ≡ at) ⊎ ((i < at) ⊎ (at < i)) → bytes_eq text (text_at texts i) ≡ false
  differs_from older i is from to (inl here) = rw here differs
  differs_from older i is from to (inr (inl before)) =
      differs_by_number text (text_at texts i) (λ same. is.others i from before (same ∙ sym left.same))
  differs_from older i is from to (inr (inr after)) = left.others i (omega (arith, after)) to

  pub left_next : (older : Option ℕ) → IsNewest (text_number (text_at texts at)) texts at older → IsLeft text texts older
  left_next None is = record {
    within = omega arith;
    same = tt;
    others = λ i from to. differs_from None i is from to (cases_order i at);
  }
  left_next (Some j) is = record {
    within = omega (arith, is.within, left.within);
    same = is.same ∙ left.same;
    others = λ i from to. differs_from (Some j) i is from to (cases_order i at);
  }

-- ---- the record that is found

none_recorded : (n : ℕ) (text : List ℕ) (rs : List Record) (filled : List ℕ) → ((i : ℕ) → i < length rs → bytes_eq text (text_at (texts_of rs) i) ≡ false)
    → record_from n text rs filled ≡ None
none_recorded n text [] filled differs = refl
none_recorded n text (r ∷ rs) [] differs = refl
none_recorded n text (r ∷ rs) (c ∷ cs) differs =
    rw (differs 0 (omega arith)) (none_recorded (n + 1) text rs cs (λ i within. differs (suc i) (omega (arith, within))))

-- where there is no record, none has the text
pub no_records : (text : List ℕ) (rs : List Record) (filled : List ℕ) → length rs ≡ 0 → record_from 1 text rs filled ≡ None
no_records text [] filled none = refl
no_records text (r ∷ rs) filled none = absurd (omega (arith, none))

-- nothing is left, so no record has the text
pub none_left : (text : List ℕ) (rs : List Record) (filled : List ℕ) → IsLeft text (texts_of rs) None → record_from 1 text rs filled ≡ None
none_left text rs filled left = none_recorded 1 text rs filled (λ i within. left.others i (omega arith) (simp length-map (omega (arith, within))))

head_apart : (r : Record) (rs : List Record) (i : ℕ) (d : Record) → i < length rs → IsDistinct bytes_eq (texts_of (r ∷ rs))
    → bytes_eq r.text (get_or rs i d).text ≡ false
head_apart r rs i d within distinct =
    rw (← get_or-map (λ (q : Record). q.text) rs i d [] within)
    (apart_from_distinct bytes_eq (texts_of (r ∷ rs)) 0 (suc i) [] distinct (omega arith) (simp length-map (omega (arith, within))))

-- each text is there once, so the record that has it is the one that is found
pub recorded_at : (n i m : ℕ) (text : List ℕ) (rs : List Record) (filled : List ℕ) (d : Record) → m ≡ n + i → length filled ≡ length rs → i < length rs
    → IsDistinct bytes_eq (texts_of rs) → bytes_eq text (get_or rs i d).text ≡ true
    → record_from n text rs filled ≡ Some (Filled (get_or filled i 0) m (get_or rs i d).verdict)
recorded_at n i m text [] filled d number same within distinct equal = absurd (omega (arith, within))
recorded_at n i m text (r ∷ rs) [] d number same within distinct equal = absurd (omega (arith, same))
recorded_at n zero m text (r ∷ rs) (c ∷ cs) d number same within distinct equal =
    let first : m ≡ n = omega (arith, number) in
    rw (equal, first) refl
recorded_at n (suc i) m text (r ∷ rs) (c ∷ cs) d number same within distinct equal =
    let is : text ≡ (get_or rs i d).text = (bytes_eq-Decides text (get_or rs i d).text).0 equal in
    let apart : bytes_eq r.text (get_or rs i d).text ≡ false = head_apart r rs i d (omega (arith, within)) distinct in
    let other : bytes_eq text r.text ≡ false = nat_list_eq_equiv.symm text r.text ∙ rw is apart in
    rw other (recorded_at (n + 1) i m text rs cs d (omega (arith, number)) (omega (arith, same)) (omega (arith, within))
    (IsDistinct-tail bytes_eq r.text (texts_of rs) distinct) equal)
