-- Each symbol of a normal form is one of its kinds, sets and rules.
use Rattle.std.proofs.Common.{◌≡◌, ◌⊎◌, inl, inr, ℕ, ◌+◌, ◌<◌, List, [], ◌∷◌, length, Some, slice_get, refl, sym, ◌∙◌, subst, arith}
use Rattle.std.specs.List.{Contains}
use Rattle.std.proofs.lemmas.Option.{slice_get_within}
use Rattle.grammar_tree.specs.Derives.{Term, Alts, bodies, kind, among, rule, block, opt, star, plus, eof, or}
use Rattle.grammar_tree.specs.Corners.{group_size}
use Rattle.normal_form.specs.declared.normal.Sym.{Sym}
use Rattle.normal_form.specs.declared.normal.Sym.TheVariants.{Kind, Set, Rule}
use Rattle.normal_form.specs.Form.{RuleForm, NormalForm}
use Rattle.normal_form.specs.FormLaws.{SymbolsAreKnown}
use Rattle.normal_form.specs.NormalOf.{IsNormal, own_rule}
use Rattle.normal_form.specs.Symbols.{HasSymbol, IsSymbolOf}
use Rattle.normal_form.specs.Numbering.{symbol, seq_symbols, alts_symbols, rest_symbols, term_rules}
use Rattle.normal_form.proofs.Represents.{HasEachRule, IsPlainRule, IsRecursiveRule}
use Rattle.normal_form.proofs.Lists.{Contains-only, Contains-cases}
use Rattle.normal_form.proofs.Parts.{Setting, Known, of_block, of_opt, of_plus, of_star}
use Rattle.normal_form.proofs.Positions.{AltAt, alt_of, base_of, part_of, rest_alt, split_at}
use Rattle.normal_form.proofs.Languages.{has_each}
use Rattle.normal_form.proofs.Settings.{origin_of_rule, setting}
use Rattle.normal_form.proofs.Origins.{Origin, RuleAt, left_alts, plain_alts, rules_of}

-- the symbol is one of so many kinds, or one of the sets or rules of the form
abbrev IsWithin : ℕ → NormalForm → Sym → Type 0
IsWithin kinds N (Kind k) = k < kinds
IsWithin kinds N (Set i) = i < length N.sets
IsWithin kinds N (Rule r) = r < length N.rules

is_symbol : (kinds : ℕ) (N : NormalForm) (s : Sym) → IsWithin kinds N s → IsSymbolOf N s
is_symbol kinds N (Kind k) h = tt
is_symbol kinds N (Set i) h = h
is_symbol kinds N (Rule r) h = h

module _ (S : Setting) (has_each : HasEachRule S.bodies S.form S.numbers.own_rule) where
  abbrev IsOne : Sym → Type 0
  IsOne = IsWithin S.kinds S.form

  rule_is_there : (r : ℕ) (a : Alts) → IsPlainRule S.bodies S.form S.numbers.own_rule r a ⊎ IsRecursiveRule S.bodies S.form S.numbers.own_rule r a
      → IsOne (Rule (S.numbers.own_rule r))
  rule_is_there r a (inl h) = slice_get_within S.form.rules (S.numbers.own_rule r) (RuleForm.regular h.alts) h.at
  rule_is_there r a (inr h) = slice_get_within S.form.rules (S.numbers.own_rule r) (RuleForm.regular ((Rule h.base ∷ Rule h.many ∷ []) ∷ [])) h.at

  module _ (low high : ℕ) where
    pub symbol_is_there : (n : ℕ) (t : Term) → Known S low high n t → IsOne (symbol S.numbers n t)
    symbol_is_there n (kind k) h = h.kinds
    symbol_is_there n (among ks) h = slice_get_within S.form.sets (S.numbers.set_of ks) ks h.closed
    symbol_is_there n (rule r) h = rule_is_there r h.closed.0 (has_each r h.closed.0 h.closed.1)
    symbol_is_there n (block a) h = slice_get_within S.form.rules n (RuleForm.regular (alts_symbols S.numbers (n + 1) a)) h.at.0
    symbol_is_there n (opt t) h = slice_get_within S.form.rules n (RuleForm.opt (symbol S.numbers (n + 1) t)) h.at.0
    symbol_is_there n (star t) h = slice_get_within S.form.rules n (RuleForm.star (symbol S.numbers (n + 1) t)) h.at.0
    symbol_is_there n (plus t) h = slice_get_within S.form.rules n (RuleForm.plus (symbol S.numbers (n + 1) t)) h.at.0
    symbol_is_there n eof h = absurd h.closed

    -- a symbol of an alternative
    in_alt : (a : Alts) (alt : List Sym) (s : Sym) → AltAt S low high a alt → Contains alt s → IsOne s
    in_alt a alt s it c =
        let P : List Sym → Type 0 = λ x. Contains x s in
        let cut = split_at (seq_symbols S.numbers it.number it.seq) s (subst P it.is c) in
        let found = part_of S has_each low high it.number it.seq s cut.0 cut.1 it.known cut.2 in
        let Q : Sym → Type 0 = IsOne in subst Q (sym found.is) (symbol_is_there found.number found.term found.known)

    -- the symbol of a suffix
    of_suffix : (n : ℕ) (t : Term) (x s : Sym) → Known S low high n t → symbol S.numbers n t ≡ x → x ≡ s → IsOne s
    of_suffix n t x s h e same = let P : Sym → Type 0 = IsOne in subst P (e ∙ same) (symbol_is_there n t h)

    of_begun : (m : ℕ) (t : Term) (f : RuleForm) (more : List RuleForm) (s : Sym) → Known S low high m t → term_rules S.numbers m t ≡ f ∷ more → HasSymbol f s
        → IsOne s
    of_begun m (kind k) f more s h e c = absurd (cc)
    of_begun m (among ks) f more s h e c = absurd (cc)
    of_begun m (rule r) f more s h e c = absurd (cc)
    of_begun m (block a) f more s h e c =
        let same : f ≡ RuleForm.regular (alts_symbols S.numbers (m + 1) a) = cc in
        let P : RuleForm → Type 0 = λ x. HasSymbol x s in
        let found = subst P same c in in_alt a found.0 s (alt_of S low high (m + 1) a found.0 (of_block S low high m a h) found.1) found.2
    of_begun m (opt t) f more s h e c =
        let same : f ≡ RuleForm.opt (symbol S.numbers (m + 1) t) = cc in
        let P : RuleForm → Type 0 = λ x. HasSymbol x s in of_suffix (m + 1) t _ s (of_opt S low high m t h) refl (subst P same c)
    of_begun m (star t) f more s h e c =
        let same : f ≡ RuleForm.star (symbol S.numbers (m + 1) t) = cc in
        let P : RuleForm → Type 0 = λ x. HasSymbol x s in of_suffix (m + 1) t _ s (of_star S low high m t h) refl (subst P same c)
    of_begun m (plus t) f more s h e c =
        let same : f ≡ RuleForm.plus (symbol S.numbers (m + 1) t) = cc in
        let P : RuleForm → Type 0 = λ x. HasSymbol x s in of_suffix (m + 1) t _ s (of_plus S low high m t h) refl (subst P same c)
    of_begun m eof f more s h e c = absurd (cc)

  rule_there : (n : ℕ) (f : RuleForm) (s : Sym) → slice_get S.form.rules n ≡ Some f → Rule n ≡ s → IsOne s
  rule_there n f s at e = let P : Sym → Type 0 = IsOne in subst P e (slice_get_within S.form.rules n f at)

  -- one of the two symbols of a rule with rests
  of_two : (m n : ℕ) (f g : RuleForm) (s : Sym) → slice_get S.form.rules m ≡ Some f → slice_get S.form.rules n ≡ Some g → (s ≡ Rule m)
      ⊎ Contains (Rule n ∷ []) s → IsOne s
  of_two m n f g s at at' (inl e) = rule_there m f s at (sym e)
  of_two m n f g s at at' (inr c) = rule_there n g s at' (sym (Contains-only s (Rule n) c))

  pub of_origin : (r : ℕ) (a : Alts) (n m : ℕ) (f : RuleForm) (s : Sym) → RuleAt S r a n → Origin S r a n m f → HasSymbol f s → IsOne s
  of_origin r a n m f s known (Origin.plain e) (alt, c, d) =
      let high = n + group_size r a in in_alt (n + 1) high a alt s (alt_of S (n + 1) high (n + 1) a alt (plain_alts S r a n known e) c) d
  of_origin r a n m f s known (Origin.left s' b e) (alt, c, d) =
      let rules = rules_of S r a n known (or s' b) e in
      let only : alt ≡ Rule (n + 1) ∷ Rule (n + 2) ∷ [] = Contains-only alt (Rule (n + 1) ∷ Rule (n + 2) ∷ []) c in
      let P : List Sym → Type 0 = λ x. Contains x s in
      let second : n + 1 + 1 ≡ n + 2 = omega arith in
      let Q : ℕ → Type 0 = λ k. slice_get S.form.rules k ≡ Some (RuleForm.star (Rule (n + 3))) in
      of_two (n + 1) (n + 2) _ (RuleForm.star (Rule (n + 3))) s rules.1.0 (subst Q second rules.1.1.0)
      (Contains-cases s (Rule (n + 1)) (Rule (n + 2) ∷ []) (subst P only d))
  of_origin r a n m f s known (Origin.base s' b e) (alt, c, d) =
      let high = n + group_size r a in in_alt (n + 1) high _ alt s (base_of S (n + 1) high r (n + 4) a alt (left_alts S r a n known s' b e) c) d
  of_origin r a n m f s known (Origin.many s' b e) same =
      let third : n + 1 + 1 + 1 ≡ n + 3 = omega arith in
      let rules = rules_of S r a n known (or s' b) e in
      let f = RuleForm.regular (rest_symbols S.numbers r (n + 4) a) in
      let P : ℕ → Type 0 = λ k. slice_get S.form.rules k ≡ Some f in rule_there (n + 3) f s (subst P third rules.1.1.1.0) same
  of_origin r a n m f s known (Origin.rest s' b e) (alt, c, d) =
      let high = n + group_size r a in in_alt (n + 1) high _ alt s (rest_alt S (n + 1) high r (n + 4) a alt (left_alts S r a n known s' b e) c) d
  of_origin r a n m f s known (Origin.part m' f' h) c = of_begun (n + 1) (n + group_size r a) m h.term f h.more s h.known h.rules c

within : (N : NormalForm) (normal : IsNormal N) (r : ℕ) (form : RuleForm) (s : Sym) → slice_get N.rules r ≡ Some form → HasSymbol form s
    → IsWithin (length normal.grammar.kinds) N s
within N normal r form s at h =
    let c = normal.grammar in
    let P : NormalForm → Type 0 = λ M. slice_get M.rules r ≡ Some form in
    let it = origin_of_rule c normal.checked r form (subst P normal.is at) in
    let Q : NormalForm → Type 0 = λ M. IsWithin (length c.kinds) M s in
    subst Q (sym normal.is) (of_origin (setting c) (has_each c normal.checked) it.rule it.alts
    (own_rule (bodies c.grammar) it.rule) r form s it.known it.origin h)

pub symbols_are_known : SymbolsAreKnown
symbols_are_known N normal =
    record {
      known = λ r form s at h. is_symbol (length normal.grammar.kinds) N s (within N normal r form s at h);
      kinds = λ other r form k at h. within N other r form (Kind k) at h;
    }
