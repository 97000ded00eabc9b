-- What fits a rule is what its edges lead to, what is in the sets there, and the pluses of the stars there.
use Rattle.std.proofs.Common.{◌≡◌, ◌⊎◌, inl, inr, ℕ, Bool, List, [], ◌∷◌, Option, Some, None, slice_get, refl, sym}
use Rattle.std.proofs.Common.{ap, ◌∙◌, subst, ◌+◌, ◌<◌, ◌≤◌, ◌++◌, length, take, get_or, arith}
use Rattle.std.specs.Prelude.{◌≢◌}
use Rattle.std.specs.Global.{Vec}
use Rattle.std.specs.List.{Contains, flat_map}
use Rattle.std.specs.Option.{option_map}
use Rattle.std.proofs.Math.Numerals.{add-one}
use Rattle.std.proofs.Math.Seq.{take-suc}
use Rattle.std.proofs.lemmas.List.{append-nil, length-map, map-append}
use Rattle.std.proofs.lemmas.List.Concat.{flat_map-append}
use Rattle.std.proofs.lemmas.List.Elements.{Contains-append_right}
use Rattle.std.proofs.lemmas.Option.{none-some, same_Some, slice_get-map, slice_get_within}
use Rattle.normal_form.specs.declared.normal.Sym.{Sym}
use Rattle.normal_form.specs.declared.normal.Sym.TheVariants.{Kind, Set, Rule}
use Rattle.normal_form.specs.Form.{RuleForm, NormalForm}
use Rattle.normal_form.specs.FormLaws.{HasKnownSymbols}
use Rattle.normal_form.specs.View.{alts_form}
use Rattle.compat_table.specs.Fits.{CanBeAlone, Fits, IsKindIn, IsPlusOf, itself, in_set, by_alternative, by_plus, in_star}
use Rattle.compat_table.specs.Nullable.{AreNullable}
use Rattle.compat_table.specs.inner.Rows.{HasEdge, HasStar, LeadsTo, Symbols, lone_symbols, next_symbols}
use Rattle.compat_table.specs.inner.Table.{AreRowsOf, AreStarsOf, IsClosed, IsInRow, edges_of_form}
use Rattle.grammar_tree.proofs.Lent.{contains_cases, contains_first, contains_none}
use Rattle.compat_table.proofs.Nulling.{alone_in, alone_of}

-- one alternative more
pub lone_more : (f : List Sym → List Sym) (alts : List (Vec Sym)) (i : ℕ) (d : Vec Sym) → i < length alts
    → flat_map f (alts_form (take (i + 1) alts)) ≡ flat_map f (alts_form (take i alts)) ++ f (get_or alts i d).items
lone_more f alts i d lt =
    rw (add-one, take-suc alts i d lt, map-append, flat_map-append)
    (ap (λ l. flat_map f (alts_form (take i alts)) ++ l) (append-nil (f (get_or alts i d).items)))

-- What fits the symbol t fits the rule r: t can be alone in an alternative of it, or the rule is a plus of t.
abbrev pub Passes : NormalForm → ℕ → Sym → Type 0
Passes N r t =
    ((alts : List (List Sym)) × (slice_get N.rules r ≡ Some (RuleForm.regular alts)) × CanBeAlone N alts t) ⊎ (slice_get N.rules r ≡ Some (RuleForm.plus t))

pub pass_on : (N : NormalForm) (s t : Sym) (r : ℕ) → Passes N r t → Fits N s t → Fits N s (Rule r)
pass_on N s t r (inl (alts, at, c)) f = by_alternative s t r alts at c f
pass_on N s t r (inr at) f = by_plus s t r at f

form_at : (nulls : ℕ → Bool) (rules : List RuleForm) (o : Option RuleForm) (r : ℕ) (row : List Sym) → slice_get rules r ≡ o
    → option_map (next_symbols nulls) o ≡ Some row → (form : RuleForm) × (slice_get rules r ≡ Some form) × (next_symbols nulls form ≡ row)
form_at nulls rules None r row at e = absurd (none-some row e)
form_at nulls rules (Some form) r row at e = (form, at, same_Some (next_symbols nulls form) row e)

module _ (N : NormalForm) (nulls : ℕ → Bool) (exact : AreNullable N nulls) where
  abbrev Edges : List (List Sym)
  Edges = edges_of_form nulls N

  passes_of : (form : RuleForm) (r : ℕ) (t : Sym) → slice_get N.rules r ≡ Some form → Contains (next_symbols nulls form) t → Passes N r t
  passes_of (RuleForm.regular alts) r t at c = inl (alts, at, alone_in N nulls exact alts t c)
  passes_of (RuleForm.star s) r t at c = absurd (contains_none t c)
  passes_of (RuleForm.plus s) r t at c = elim (contains_cases s [] t c) [
    | inl same ↦ inr (let P : Sym → Type 0 = λ x. slice_get N.rules r ≡ Some (RuleForm.plus x) in subst P same at)
    | inr none ↦ absurd (contains_none t none)
  ]
  passes_of (RuleForm.opt s) r t at c = absurd (contains_none t c)

  pub edge_in : (r : ℕ) (t : Sym) → HasEdge Edges r t → Passes N r t
  edge_in r t (row, at, c) =
      let found = form_at nulls N.rules (slice_get N.rules r) r row refl (sym (slice_get-map (next_symbols nulls) N.rules r) ∙ at) in
      let P : List Sym → Type 0 = λ l. Contains l t in
      passes_of found.0 r t found.1 (subst P (sym found.2) c)

  pub edge_of : (r : ℕ) (t : Sym) → Passes N r t → HasEdge Edges r t
  edge_of r t (inl (alts, at, c)) = (
    flat_map (lone_symbols nulls) alts,
    slice_get-map (next_symbols nulls) N.rules r
        ∙ ap (option_map (next_symbols nulls)) at,
    alone_of N nulls exact alts t c,
  )
  edge_of r t (inr at) = (t ∷ [], slice_get-map (next_symbols nulls) N.rules r ∙ ap (option_map (next_symbols nulls)) at, contains_first t [] t refl)

  -- what fits a symbol that a rule leads to fits the rule
  pub fits_along : (r : ℕ) (s t : Sym) → LeadsTo Edges r t → Fits N s t → Fits N s (Rule r)
  fits_along r s t (LeadsTo.by_edge r' t' edge) f = pass_on N s t r (edge_in r t edge) f
  fits_along r s t (LeadsTo.by_edges r' q t' edge path) f = pass_on N s (Rule q) r (edge_in r (Rule q) edge) (fits_along q s t path f)

  -- the rule, or one that it leads to
  abbrev IsOrLeads : ℕ → ℕ → Type 0
  IsOrLeads r q = (q ≡ r) ⊎ LeadsTo Edges r (Rule q)

  -- the symbol is a kind in a set that the rule leads to
  abbrev pub IsInLedSet : Sym → ℕ → Type 0
  IsInLedSet s r = (i : ℕ) × IsKindIn N s i × LeadsTo Edges r (Set i)

  -- the symbol is a plus, and the rule, or one that it leads to, is a star with the same symbol
  abbrev pub IsInLedStar : Sym → ℕ → Type 0
  IsInLedStar s r = (t : Sym) × IsPlusOf N s t × ((q : ℕ) × IsOrLeads r q × (slice_get N.rules q ≡ Some (RuleForm.star t)))

  abbrev pub IsLed : Sym → ℕ → Type 0
  IsLed s r = (s ≡ Rule r) ⊎ (LeadsTo Edges r s ⊎ (IsInLedSet s r ⊎ IsInLedStar s r))

  -- further by one edge
  on_edge : (r q p : ℕ) → HasEdge Edges r (Rule q) → IsOrLeads q p → LeadsTo Edges r (Rule p)
  on_edge r q p edge (inl same) = let P : ℕ → Type 0 = λ x. HasEdge Edges r (Rule x) in LeadsTo.by_edge r (Rule p) (subst P (sym same) edge)
  on_edge r q p edge (inr path) = LeadsTo.by_edges r q (Rule p) edge path

  led_on : (r q : ℕ) (s : Sym) → HasEdge Edges r (Rule q) → IsLed s q → IsLed s r
  led_on r q s edge (inl e) = let P : Sym → Type 0 = λ x. HasEdge Edges r x in inr (inl (LeadsTo.by_edge r s (subst P (sym e) edge)))
  led_on r q s edge (inr (inl path)) = inr (inl (LeadsTo.by_edges r q s edge path))
  led_on r q s edge (inr (inr (inl (i, in_it, path)))) = inr (inr (inl (i, in_it, LeadsTo.by_edges r q (Set i) edge path)))
  led_on r q s edge (inr (inr (inr (t, plus, (p, led, star))))) = inr (inr (inr (t, plus, (p, inr (on_edge r q p edge led), star))))

  -- by what fits a symbol to which the rule has an edge
  led_by : (s t : Sym) (r : ℕ) → HasEdge Edges r t → Fits N s t → IsLed s r
  led_by s t r edge (itself s') = inr (inl (LeadsTo.by_edge r s edge))
  led_by s t r edge (in_set k i ks at c) = inr (inr (inl (i, (k, ks, refl, at, c), LeadsTo.by_edge r (Set i) edge)))
  led_by s t r edge (by_alternative s' u q alts at c f) = led_on r q s edge (led_by s u q (edge_of q u (inl (alts, at, c))) f)
  led_by s t r edge (by_plus s' u q at f) = led_on r q s edge (led_by s u q (edge_of q u (inr at)) f)
  led_by s t r edge (in_star u p q plus star) = led_on r q s edge (inr (inr (inr (u, (p, refl, plus), (q, inl refl, star)))))

  -- what fits a rule is the rule, or the rule leads to it, to a set that has it, or to a star of whose symbol it is a plus
  pub led : (s : Sym) (r : ℕ) → Fits N s (Rule r) → IsLed s r
  led s r (itself s') = inl refl
  led s r (by_alternative s' t r' alts at c f) = led_by s t r (edge_of r t (inl (alts, at, c))) f
  led s r (by_plus s' t r' at f) = led_by s t r (edge_of r t (inr at)) f
  led s r (in_star t p r' plus star) = inr (inr (inr (t, (p, refl, plus), (r, inl refl, star))))

  -- each rule that an edge leads to is one of the form's
  known_rule : HasKnownSymbols N → (r q : ℕ) → Passes N r (Rule q) → q < length N.rules
  known_rule known r q (inl (alts, at, c)) =
      known.known r (RuleForm.regular alts) (Rule q) at
      (c.before ++ Rule q ∷ c.after, c.there, Contains-append_right c.before (Rule q ∷ c.after) (Rule q) (contains_first (Rule q) c.after (Rule q) refl))
  known_rule known r q (inr at) = known.known r (RuleForm.plus (Rule q)) (Rule q) at refl

  pub closed : HasKnownSymbols N → IsClosed Edges
  closed known r q edge = let below = known_rule known r q (edge_in r (Rule q) edge) in omega (arith, below, length-map N.rules (next_symbols nulls))

  begins : (r : ℕ) (t : Sym) → LeadsTo Edges r t → r < length Edges
  begins r t (LeadsTo.by_edge r' t' (row, at, c)) = slice_get_within Edges r row at
  begins r t (LeadsTo.by_edges r' q t' (row, at, c) path) = slice_get_within Edges r row at

  -- the rule, or one that it leads to, is a rule of the form only where the rule is
  begins_or : (r q : ℕ) (t : Sym) → IsOrLeads r q → slice_get N.rules q ≡ Some (RuleForm.star t) → r < length Edges
  begins_or r q t (inl same) star = let below =
      slice_get_within N.rules q (RuleForm.star t) star in omega (arith, below, same, length-map N.rules (next_symbols nulls))
  begins_or r q t (inr path) star = begins r (Rule q) path

  module _ (rows stars : List Symbols) (are : AreRowsOf Edges rows) (stars_are : AreStarsOf N.rules rows stars) where
    -- a star that fits
    star_fits : (row : Symbols) (r : ℕ) (s t : Sym) → slice_get rows r ≡ Some row → IsPlusOf N s t → HasStar N.rules r row.rules t → Fits N s (Rule r)
    star_fits row r s t at (p, e, plus) (q, inl same, star) =
        let P : Sym → Type 0 = λ x. Fits N x (Rule r) in
        let Q : ℕ → Type 0 = λ x. slice_get N.rules x ≡ Some (RuleForm.star t) in
        subst P (sym e) (in_star t p r plus (subst Q same star))
    star_fits row r s t at (p, e, plus) (q, inr found, star) =
        let P : Sym → Type 0 = λ x. Fits N x (Rule r) in
        subst P (sym e) (fits_along r (Rule p) (Rule q) ((are.are r row at).sound (Rule q) found) (in_star t p q plus star))

    pub row_fits : (row symbols : Symbols) (r : ℕ) (s : Sym) → slice_get rows r ≡ Some row → slice_get stars r ≡ Some symbols → IsInRow N row symbols s
        → Fits N s (Rule r)
    row_fits row symbols r s at with_stars (inl found) = fits_along r s s ((are.are r row at).sound s found) (itself s)
    row_fits row symbols r s at with_stars (inr (inl (i, found, (k, ks, e, in_it, c)))) =
        let P : Sym → Type 0 = λ x. Fits N x (Rule r) in
        subst P (sym e) (fits_along r (Kind k) (Set i) ((are.are r row at).sound (Set i) found) (in_set k i ks in_it c))
    row_fits row symbols r s at with_stars (inr (inr (t, plus, found))) = star_fits row r s t at plus ((stars_are.are r row symbols at with_stars t).0 found)

    has_star : (row : Symbols) (r q : ℕ) (t : Sym) → slice_get rows r ≡ Some row → IsOrLeads r q → slice_get N.rules q ≡ Some (RuleForm.star t)
        → HasStar N.rules r row.rules t
    has_star row r q t at (inl same) star = (q, inl same, star)
    has_star row r q t at (inr path) star = (q, inr ((are.are r row at).complete (Rule q) path), star)

    pub fits_row : (row symbols : Symbols) (r : ℕ) (s : Sym) → slice_get rows r ≡ Some row → slice_get stars r ≡ Some symbols → s ≢ Rule r → Fits N s (Rule r)
        → IsInRow N row symbols s
    fits_row row symbols r s at with_stars apart f = elim (led s r f) [
      | inl same ↦ absurd (apart same)
      | inr (inl path) ↦ inl ((are.are r row at).complete s path)
      | inr (inr (inl (i, in_it, path))) ↦ inr (inl (i, (are.are r row at).complete (Set i) path, in_it))
      | inr (inr (inr (t, plus, (q, led, star)))) ↦ inr (inr (t, plus, (stars_are.are r row symbols at with_stars t).1 (has_star row r q t at led star)))
    ]

    pub fits_none : (r : ℕ) (s : Sym) → length rows ≤ r → s ≢ Rule r → Fits N s (Rule r) → ⊥
    fits_none r s past apart f = elim (led s r f) [
      | inl same ↦ apart same
      | inr (inl path) ↦ omega (arith, begins r s path, past, are.for_each)
      | inr (inr (inl (i, in_it, path))) ↦ omega (arith, begins r (Set i) path, past, are.for_each)
      | inr (inr (inr (t, plus, (q, led, star)))) ↦ omega (arith, begins_or r q t led star, past, are.for_each)
    ]
