-- Texts that were seen, one after another.
use Rattle.std.proofs.Common.{◌≡◌, ℕ, Bool, true, false, ◌||◌, cond, List, [], ◌∷◌, ◌++◌, Some, None, refl, sym, ap, ◌∙◌, true≢false}
use Rattle.std.specs.Prelude.{is_some}
use Rattle.std.specs.List.{list_any}
use Rattle.std.proofs.lemmas.List.Folds.{list_any-append}
use Rattle.std.proofs.lemmas.Slice.Eq.{bytes_eq-Decides}
use Rattle.grammar_tree.specs.Kinds.{same_text}
use Rattle.grammar_names.specs.Index.{or_added}
use Rattle.grammar_check_faults.specs.inner.Seen.{seen_in}

abbrev pub seen : List (List ℕ) → List ℕ → Bool
seen texts t = list_any (λ u. same_text u t) texts

or_none : (b c : Bool) → or_added (cond b (Some 0) None) c 0 ≡ cond (b || (c || false)) (Some 0) None
or_none true c = refl
or_none false true = refl
or_none false false = refl

pub seen_push : (texts : List (List ℕ)) (u t : List ℕ) → or_added (seen_in texts t) (same_text u t) 0 ≡ seen_in (texts ++ u ∷ []) t
seen_push texts u t = or_none (seen texts t) (same_text u t) ∙ ap (λ b. cond b (Some 0) None) (sym (list_any-append (λ v. same_text v t) texts (u ∷ [])))

-- a text that was seen
pub was_seen : (texts : List (List ℕ)) (u : List ℕ) → is_some (seen_in texts u) ≡ true → seen texts u ≡ true
was_seen texts u e = by (seen texts u) refl
  where
    by : (b : Bool) → seen texts u ≡ b → seen texts u ≡ true
    by true h = h
    by false h = absurd (true≢false (sym e ∙ ap (λ b. is_some {T = ℕ} (cond b (Some 0) None)) h))

pub was_not_seen : (texts : List (List ℕ)) (u : List ℕ) → is_some (seen_in texts u) ≡ false → seen texts u ≡ false
was_not_seen texts u e = by (seen texts u) refl
  where
    by : (b : Bool) → seen texts u ≡ b → seen texts u ≡ false
    by false h = h
    by true h = absurd (true≢false (sym (ap (λ b. is_some {T = ℕ} (cond b (Some 0) None)) h) ∙ e))

pub seen_again : (texts : List (List ℕ)) (u : List ℕ) → seen texts u ≡ true → (t : List ℕ) → seen_in texts t ≡ seen_in (texts ++ u ∷ []) t
seen_again texts u h t = by (same_text u t) refl (seen texts t) refl ∙ seen_push texts u t
  where
    by : (b : Bool) → same_text u t ≡ b → (d : Bool) → seen texts t ≡ d → seen_in texts t ≡ or_added (seen_in texts t) (same_text u t) 0
    by false e true k = ap (λ d. cond d (Some 0) None) k ∙ sym (ap (λ d. or_added (cond d (Some 0) None) (same_text u t) 0) k)
    by false e false k = ap (λ d. cond d (Some 0) None) k ∙ sym (ap (λ d. or_added (cond d (Some 0) None) (same_text u t) 0) k ∙ ap (λ b. or_added None b 0) e)
    by true e true k = ap (λ d. cond d (Some 0) None) k ∙ sym (ap (λ d. or_added (cond d (Some 0) None) (same_text u t) 0) k)
    by true e false k =
        let same : u ≡ t = (bytes_eq-Decides u t).0 e in
        absurd (true≢false (sym h ∙ ap (seen texts) same ∙ k))
