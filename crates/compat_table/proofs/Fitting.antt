-- What fits what.
use Rattle.std.proofs.Common.{◌≡◌, ◌⊎◌, inl, inr, ℕ, List, [], ◌∷◌, ◌++◌, Some, None, slice_get, refl, sym, ◌∙◌, subst}
use Rattle.std.specs.List.{Contains}
use Rattle.std.proofs.lemmas.List.{append-nil}
use Rattle.std.proofs.lemmas.Option.{none-some}
use Rattle.grammar_tree.specs.Laws.{CutsInto}
use Rattle.normal_form.specs.declared.normal.Sym.{Sym}
use Rattle.normal_form.specs.declared.normal.Sym.TheVariants.{Kind, Set, Rule}
use Rattle.normal_form.specs.Form.{RuleForm, NormalForm}
use Rattle.normal_form.specs.NormalDerives.{NormalDerives, NormalDerivesSeq, NormalDerivesMany, of_kind, of_set, of_regular, of_star, of_plus, of_end, of_more}
use Rattle.normal_form.proofs.Lent.{by_form as derives_by_form}
use Rattle.compat_table.specs.Fits.{CanBeAlone, Fits, IsKindIn, IsPlusOf, itself, in_set, by_alternative, by_plus, in_star}
use Rattle.compat_table.specs.Laws.{FitsByForm, FitsThrough, SlotsDeriveMore}

module _ (N : NormalForm) where
  -- a symbol among others that derive the empty list
  around : (before after : List Sym) (t : Sym) (w : List ℕ) → NormalDerivesSeq N before [] → NormalDerivesSeq N after [] → NormalDerives N t w
      → NormalDerivesSeq N (before ++ t ∷ after) w
  around before after t w b a d =
      let forms = derives_by_form N in
      (forms.append before (t ∷ after) w).1 ([], w, refl, b, (forms.next t after w).1 (w, [], sym (append-nil w), d, a))

  in_set_derives : (k i : ℕ) (ks : List ℕ) (w : List ℕ) → slice_get N.sets i ≡ Some ks → Contains ks k → NormalDerives N (Kind k) w → NormalDerives N (Set i) w
  in_set_derives k i ks w at c (of_kind k') = of_set i k ks at c

  plus_derives : (u : Sym) (r : ℕ) (w : List ℕ) → slice_get N.rules r ≡ Some (RuleForm.plus u) → NormalDerives N u w → NormalDerives N (Rule r) w
  plus_derives u r w at d = let P : List ℕ → Type 0 = λ x. NormalDerives N (Rule r) x in subst P (append-nil w) (of_plus r u w [] at d (of_end u))

  star_derives : (u : Sym) (r : ℕ) (w : List ℕ) → slice_get N.rules r ≡ Some (RuleForm.star u) → CutsInto (NormalDerives N u) (NormalDerivesMany N u) w
      → NormalDerives N (Rule r) w
  star_derives u r w at (a, b, e, d, m) = let P : List ℕ → Type 0 =
      λ x. NormalDerives N (Rule r) x in subst P (sym e) (of_star r u (a ++ b) at (of_more u a b d m))

  derives : (s t : Sym) → Fits N s t → (w : List ℕ) → NormalDerives N s w → NormalDerives N t w
  derives s t (itself s') w d = d
  derives s t (in_set k i ks at c) w d = in_set_derives k i ks w at c d
  derives s t (by_alternative s' u r alts at c f) w d =
      of_regular r alts (c.before ++ u ∷ c.after) w at c.there (around c.before c.after u w c.nothing_before c.nothing_after (derives s u f w d))
  derives s t (by_plus s' u r at f) w d = plus_derives u r w at (derives s u f w d)
  derives s t (in_star u p r plus star) w d = star_derives u r w star (((derives_by_form N).plus p u w plus).0 d)

  kind_in : (s : Sym) (k : ℕ) → Fits N s (Kind k) → s ≡ Kind k
  kind_in s k (itself s') = refl

  -- each slot is fitted by itself
  same_of : (s t : Sym) → s ≡ t → Fits N s t
  same_of s t e = let P : Sym → Type 0 = λ x. Fits N x t in subst P (sym e) (itself t)

  abbrev InSet : Sym → ℕ → Type 0
  InSet s i = (s ≡ Set i) ⊎ IsKindIn N s i

  set_in : (s : Sym) (i : ℕ) → Fits N s (Set i) → InSet s i
  set_in s i (itself s') = inl refl
  set_in s i (in_set k i' ks at c) = inr (k, ks, refl, at, c)

  set_of : (s : Sym) (i : ℕ) → InSet s i → Fits N s (Set i)
  set_of s i (inl e) = same_of s (Set i) e
  set_of s i (inr (k, ks, e, at, c)) = let P : Sym → Type 0 = λ x. Fits N x (Set i) in subst P (sym e) (in_set k i ks at c)

  abbrev InRegular : List (List Sym) → Sym → ℕ → Type 0
  InRegular alts s r = (s ≡ Rule r) ⊎ ((t : Sym) × CanBeAlone N alts t × Fits N s t)

  regular_in : (s : Sym) (r : ℕ) (alts : List (List Sym)) → slice_get N.rules r ≡ Some (RuleForm.regular alts) → Fits N s (Rule r) → InRegular alts s r
  regular_in s r alts at (itself s') = inl refl
  regular_in s r alts at (by_alternative s' t r' alts' at' c f) =
      let same : alts' ≡ alts = cc in
      let P : List (List Sym) → Type 0 = λ l. CanBeAlone N l t in inr (t, subst P same c, f)
  regular_in s r alts at (by_plus s' t r' at' f) = absurd (cc)
  regular_in s r alts at (in_star t p r' plus star) = absurd (cc)

  regular_of : (s : Sym) (r : ℕ) (alts : List (List Sym)) → slice_get N.rules r ≡ Some (RuleForm.regular alts) → InRegular alts s r → Fits N s (Rule r)
  regular_of s r alts at (inl e) = same_of s (Rule r) e
  regular_of s r alts at (inr (t, c, f)) = by_alternative s t r alts at c f

  plus_in : (s t : Sym) (r : ℕ) → slice_get N.rules r ≡ Some (RuleForm.plus t) → Fits N s (Rule r) → (s ≡ Rule r) ⊎ Fits N s t
  plus_in s t r at (itself s') = inl refl
  plus_in s t r at (by_plus s' u r' at' f) =
      let same : u ≡ t = cc in
      let P : Sym → Type 0 = λ x. Fits N s x in inr (subst P same f)
  plus_in s t r at (by_alternative s' u r' alts at' c f) = absurd (cc)
  plus_in s t r at (in_star u p r' plus star) = absurd (cc)

  plus_of : (s t : Sym) (r : ℕ) → slice_get N.rules r ≡ Some (RuleForm.plus t) → (s ≡ Rule r) ⊎ Fits N s t → Fits N s (Rule r)
  plus_of s t r at (inl e) = same_of s (Rule r) e
  plus_of s t r at (inr f) = by_plus s t r at f

  star_in : (s t : Sym) (r : ℕ) → slice_get N.rules r ≡ Some (RuleForm.star t) → Fits N s (Rule r) → (s ≡ Rule r) ⊎ IsPlusOf N s t
  star_in s t r at (itself s') = inl refl
  star_in s t r at (in_star u p r' plus star) =
      let same : u ≡ t = cc in
      let P : Sym → Type 0 = λ x. slice_get N.rules p ≡ Some (RuleForm.plus x) in inr (p, refl, subst P same plus)
  star_in s t r at (by_alternative s' u r' alts at' c f) = absurd (cc)
  star_in s t r at (by_plus s' u r' at' f) = absurd (cc)

  star_of : (s t : Sym) (r : ℕ) → slice_get N.rules r ≡ Some (RuleForm.star t) → (s ≡ Rule r) ⊎ IsPlusOf N s t → Fits N s (Rule r)
  star_of s t r at (inl e) = same_of s (Rule r) e
  star_of s t r at (inr (p, e, plus)) = let P : Sym → Type 0 = λ x. Fits N x (Rule r) in subst P (sym e) (in_star t p r plus at)

  opt_in : (s t : Sym) (r : ℕ) → slice_get N.rules r ≡ Some (RuleForm.opt t) → Fits N s (Rule r) → s ≡ Rule r
  opt_in s t r at (itself s') = refl
  opt_in s t r at (by_alternative s' u r' alts at' c f) = absurd (cc)
  opt_in s t r at (by_plus s' u r' at' f) = absurd (cc)
  opt_in s t r at (in_star u p r' plus star) = absurd (cc)

  none_in : (s : Sym) (r : ℕ) → slice_get N.rules r ≡ None → Fits N s (Rule r) → s ≡ Rule r
  none_in s r e (itself s') = refl
  none_in s r e (by_alternative s' u r' alts at c f) = absurd (none-some (RuleForm.regular alts) (sym e ∙ at))
  none_in s r e (by_plus s' u r' at f) = absurd (none-some (RuleForm.plus u) (sym e ∙ at))
  none_in s r e (in_star u p r' plus star) = absurd (none-some (RuleForm.star u) (sym e ∙ star))

  pub by_form : FitsByForm N
  by_form =
      record {
        kind = λ s k. (kind_in s k, same_of s (Kind k));
        set = λ s i. (set_in s i, set_of s i);
        regular = λ s r alts at. (regular_in s r alts at, regular_of s r alts at);
        plus = λ s t r at. (plus_in s t r at, plus_of s t r at);
        star = λ s t r at. (star_in s t r at, star_of s t r at);
        opt = λ s t r at. (opt_in s t r at, same_of s (Rule r));
        no_rule = λ s r e. (none_in s r e, same_of s (Rule r));
      }

  through : (s t u : Sym) → ((x : Sym) → IsPlusOf N t x → ⊥) → Fits N s t → Fits N t u → Fits N s u
  through s t u other f (itself t') = f
  through s t u other f (in_set k i ks at c) = let P : Sym → Type 0 = λ x. Fits N x (Set i) in subst P (sym (kind_in s k f)) (in_set k i ks at c)
  through s t u other f (by_alternative t' v r alts at c g) = by_alternative s v r alts at c (through s t v other f g)
  through s t u other f (by_plus t' v r at g) = by_plus s v r at (through s t v other f g)
  through s t u other f (in_star x p r plus star) = absurd (other x (p, refl, plus))

pub derive_more : SlotsDeriveMore
derive_more N s t f w d = derives N s t f w d

pub fits_through : FitsThrough
fits_through N s t u other f g = through N s t u other f g
