-- The first index of a fact, found by a loop over the indices.
use Rattle.std.proofs.Common.{◌≡◌, inl, inr, ℕ, ◌+◌, ◌<◌, Bool, true, false, List, [], Option, Some, None, Result, Ok}
use Rattle.std.proofs.Common.{Err, IfOk, slice_get, refl, sym, ap, ◌∙◌, subst, arith, true≢false}
use Rattle.std.proofs.lemmas.Bool.{cases_lt}
use Rattle.std.proofs.lemmas.Option.{same_Some}
use Rattle.grammar_tree.specs.Corners.{HasEmptyLoopAlts, bases, rests}
use Rattle.grammar_tree.specs.Derives.{Alts, DerivesAlts}
use Rattle.grammar_check_nodes.specs.Flags.{flag}
use Rattle.grammar_check_parser_rules.specs.Empty.{AreEmptyRules, alts_is_empty}
use Rattle.grammar_check_nodes.specs.First.{IsFirstOrNone, Nowhere}
use Rattle.grammar_check_parser_rules.specs.Loops.{alts_has_loop}
use Rattle.grammar_check_faults.specs.inner.ParserFaults.{HasLoopAt, HasNoBaseAt}
use Rattle.grammar_check_recursion.specs.Recursion.{has_alternative}
use Rattle.grammar_check_parser_rules.proofs.Lent.{alts_empty_of, alts_is_empty_of, loop_alts, looped_alts}

module _ (P : ℕ → Type 0) where
  pub not_here : (i : ℕ) → ((r : ℕ) → r < i → ¬ P r) → ¬ P i → (r : ℕ) → r < i + 1 → ¬ P r
  not_here i before none r lt = elim (cases_lt r i) [
    | inl below ↦ before r below
    | inr above ↦ let Q : ℕ → Type 0 = λ n. ¬ P n in let same : i ≡ r = omega arith in subst Q same none
  ]

  pub nowhere : (n : ℕ) → ((r : ℕ) → r < n → ¬ P r) → ((r : ℕ) → P r → r < n) → Nowhere P
  nowhere n none within r p = none r (within r p) p

  -- the same, where another fact holds at the same indices
  pub same_first : (Q : ℕ → Type 0) → ((r : ℕ) → P r → Q r) → ((r : ℕ) → Q r → P r) → (o : Option ℕ) → IsFirstOrNone P o → IsFirstOrNone Q o
  same_first Q there back None h = λ r q. h r (back r q)
  same_first Q there back (Some i) h = record { holds = there i h.holds; before = λ j lt q. h.before j lt (back j q) }

pub no_alternative : (a : Alts) → has_alternative a ≡ false → a ≡ Alts.none
no_alternative Alts.none e = refl
no_alternative (Alts.or s a) e = absurd (true≢false e)

module _ (G : List Alts) (r : ℕ) (a : Alts) (at : slice_get G r ≡ Some a) where
  same_body : (b : Alts) → slice_get G r ≡ Some b → b ≡ a
  same_body b at' = same_Some b a (sym at' ∙ at)

  pub base_missing : has_alternative (bases r a) ≡ false → HasNoBaseAt G r
  base_missing h = (a, at, no_alternative (bases r a) h)

  pub base_there : has_alternative (bases r a) ≡ true → ¬ HasNoBaseAt G r
  base_there h (b, at', none) = true≢false (sym h ∙ ap has_alternative (ap (bases r) (sym (same_body b at')) ∙ none))

  module _ (flags : List Bool) (exact : AreEmptyRules G flags) where
    pub loop_there : alts_has_loop (flag flags) a ≡ true → HasLoopAt G r
    loop_there h = (a, at, inl (loop_alts G flags exact a h))

    pub rest_there : alts_is_empty (flag flags) (rests r a) ≡ true → HasLoopAt G r
    rest_there h = (a, at, inr (alts_empty_of G flags exact (rests r a) h))

    pub no_loop : alts_has_loop (flag flags) a ≡ false → alts_is_empty (flag flags) (rests r a) ≡ false → ¬ HasLoopAt G r
    no_loop h k (b, at', inl loop) =
        let P : Alts → Type 0 = λ x. HasEmptyLoopAlts G x in true≢false (sym (looped_alts G flags exact a (subst P (same_body b at') loop)) ∙ h)
    no_loop h k (b, at', inr rest) =
        let P : Alts → Type 0 =
        λ x. DerivesAlts G (rests r x) [] in true≢false (sym (alts_is_empty_of G flags exact (rests r a) (subst P (same_body b at') rest)) ∙ k)

pub ok_first : {E : Type 0} (P Q : ℕ → Type 0) (r : Result (Option ℕ) E) → ((i : ℕ) → P i → Q i) → ((i : ℕ) → Q i → P i) → IfOk r (IsFirstOrNone P)
    → IfOk r (IsFirstOrNone Q)
ok_first P Q (Ok o) there back h = same_first P Q there back o h
ok_first P Q (Err e) there back h = tt
