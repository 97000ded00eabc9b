-- The symbols of the stars among rules.
use Rattle.std.proofs.Common.{◌≡◌, ◌⊎◌, inl, inr, ℕ, false, List, [], ◌∷◌, ◌++◌, Option, Some, length, map}
use Rattle.std.proofs.Common.{slice_get, refl, sym, ap, ◌∙◌, subst, arith, true≢false}
use Rattle.std.specs.Prelude.{◌↔◌}
use Rattle.std.proofs.Math.Dec.{ltb}
use Rattle.std.proofs.lemmas.Bool.{lt-ltb}
use Rattle.std.proofs.lemmas.List.{length-map}
use Rattle.std.proofs.lemmas.Option.{same_Some, slice_get_within}
use Rattle.std.proofs.lemmas.List.Elements.{Contains-append_cases, Contains-append_left, Contains-append_right}
use Rattle.grammar_tree.proofs.Lent.{contains_cases, contains_first, contains_none}
use Rattle.normal_form.specs.declared.normal.Sym.{Sym}
use Rattle.normal_form.specs.declared.normal.NormalRule.{NormalRule}
use Rattle.normal_form.specs.Form.{RuleForm}
use Rattle.normal_form.specs.View.{rule_form}
use Rattle.compat_table.specs.inner.Rows.{AreStars, HasStar, IsAmong, IsGrown, Symbols}

-- a symbol that is read off the form of a rule is read off the rule with its number
pub form_found : (rules : List RuleForm) (r : ℕ) (form other : RuleForm) (o : Option Sym) (t : Sym) → slice_get rules r ≡ Some form → (o ≡ Some t)
    ↔ (form ≡ other) → (o ≡ Some t) ↔ (slice_get rules r ≡ Some other)
form_found rules r form other o t at law = (λ e. at ∙ ap Some (law.0 e), λ f. law.1 (same_Some form other (sym at ∙ f)))

-- and none where no rule has it
pub form_past : (rules : List NormalRule) (r : ℕ) (other : RuleForm) → false ≡ ltb r (length rules) → slice_get (map rule_form rules) r ≡ Some other → ⊥
form_past rules r other over at =
    let below = slice_get_within (map rule_form rules) r other at in
    true≢false (sym (lt-ltb r (length rules) (omega (arith, below, length-map rules rule_form))) ∙ sym over)

module _ (rules : List RuleForm) where
  -- These symbols are the old ones, and that of the rule q where it is a star.
  abbrev IsPushed : ℕ → Symbols → Symbols → Type 0
  IsPushed q old new = (t : Sym) → IsAmong new t ↔ (IsAmong old t ⊎ (slice_get rules q ≡ Some (RuleForm.star t)))

  pub pushed_star : (q : ℕ) (s : Sym) (old new : Symbols) → slice_get rules q ≡ Some (RuleForm.star s) → IsGrown (s ∷ []) old new → IsPushed q old new
  pushed_star q s old new at grown t = (there, back)
    where
      there : IsAmong new t → IsAmong old t ⊎ (slice_get rules q ≡ Some (RuleForm.star t))
      there c = elim (grown.only t c) [
        | inl before ↦ inl before
        | inr one ↦ elim (contains_cases s [] t one) [
          | inl same ↦ inr (subst (λ (x : Sym). slice_get rules q ≡ Some (RuleForm.star x)) same at)
          | inr none ↦ absurd (contains_none t none)
        ]
      ]

      star_of : (x : Sym) → RuleForm.star s ≡ RuleForm.star x → s ≡ x
      star_of x e = cc

      back : IsAmong old t ⊎ (slice_get rules q ≡ Some (RuleForm.star t)) → IsAmong new t
      back (inl before) = grown.kept t before
      back (inr star) = grown.added t (contains_first s [] t (star_of t (same_Some (RuleForm.star s) (RuleForm.star t) (sym at ∙ star))))

  pub pushed_none : (q : ℕ) (old : Symbols) → ((t : Sym) → slice_get rules q ≡ Some (RuleForm.star t) → ⊥) → IsPushed q old old
  pushed_none q old other t = (λ c. inl c, λ both. elim both [ inl before ↦ before | inr star ↦ absurd (other t star) ])

  module _ (r : ℕ) where
    -- with the rule r itself
    pub stars_begun : (none new : Symbols) → ((t : Sym) → IsAmong none t → ⊥) → IsPushed r none new → AreStars rules r [] new
    stars_begun none new empty pushed t = (
      λ c. elim ((pushed t).0 c) [ inl old ↦ absurd (empty t old) | inr star ↦ (r, inl refl, star) ],
      λ (q, at, star). (pushed t).1
          (inr (elim at [ inl same ↦ subst (λ (x : ℕ). slice_get rules x ≡ Some (RuleForm.star t)) same star | inr c ↦ absurd (contains_none q c) ])),
    )

    -- with one rule more
    pub stars_more : (others : List ℕ) (x : ℕ) (old new : Symbols) → AreStars rules r others old → IsPushed x old new → AreStars rules r (others ++ x ∷ []) new
    stars_more others x old new are pushed t = (there, back)
      where
        further : HasStar rules r others t → HasStar rules r (others ++ x ∷ []) t
        further (q, inl same, star) = (q, inl same, star)
        further (q, inr c, star) = (q, inr (Contains-append_left others (x ∷ []) q c), star)

        there : IsAmong new t → HasStar rules r (others ++ x ∷ []) t
        there c = elim ((pushed t).0 c) [
          | inl before ↦ further ((are t).0 before)
          | inr star ↦ (x, inr (Contains-append_right others (x ∷ []) x (contains_first x [] x refl)), star)
        ]

        back : HasStar rules r (others ++ x ∷ []) t → IsAmong new t
        back (q, inl same, star) = (pushed t).1 (inl ((are t).1 (q, inl same, star)))
        back (q, inr c, star) = elim (Contains-append_cases others (x ∷ []) q c) [
          | inl before ↦ (pushed t).1 (inl ((are t).1 (q, inr before, star)))
          | inr last ↦ elim (contains_cases x [] q last) [
            | inl same ↦ (pushed t).1 (inr (subst (λ (y : ℕ). slice_get rules y ≡ Some (RuleForm.star t)) (sym same) star))
            | inr none ↦ absurd (contains_none q none)
          ]
        ]
