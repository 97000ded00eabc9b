-- What a star or plus of a normal form repeats is never empty.
use Rattle.std.proofs.Common.{◌≡◌, ◌⊎◌, inl, inr, ℕ, ◌+◌, List, [], ◌∷◌, Some, slice_get, refl, sym, subst, arith}
use Rattle.grammar_tree.specs.Derives.{Term, Seq, Alts, DerivesAlts, bodies, kind, among, rule, block, opt, star, plus, eof, or}
use Rattle.grammar_tree.specs.Corners.{bases, group_size, rests}
use Rattle.normal_form.specs.declared.normal.Sym.{Sym}
use Rattle.normal_form.specs.declared.normal.Sym.TheVariants.{Rule}
use Rattle.normal_form.specs.Form.{RuleForm, NormalForm}
use Rattle.normal_form.specs.FormLaws.{ElementsAreNotEmpty}
use Rattle.normal_form.specs.NormalDerives.{NormalDerives}
use Rattle.normal_form.specs.NormalOf.{IsNormal, own_rule}
use Rattle.normal_form.specs.Numbering.{symbol, base_symbols, rest_symbols, term_rules}
use Rattle.normal_form.proofs.Forward.{regular_inverse}
use Rattle.normal_form.proofs.Languages.{has_each}
use Rattle.normal_form.proofs.Origins.{Origin, RuleAt, left_alts, rules_of}
use Rattle.normal_form.proofs.Parts.{Setting, Known, of_plus, of_star}
use Rattle.normal_form.proofs.Positions.{alt_derives, base_of, can_be_empty, rest_alt}
use Rattle.normal_form.proofs.Settings.{origin_of_rule, setting}
use Rattle.normal_form.proofs.Represents.{HasEachRule}

-- the rule repeats the symbol
abbrev pub Repeats : RuleForm → Sym → Type 0
Repeats f s = (f ≡ RuleForm.star s) ⊎ (f ≡ RuleForm.plus s)

module _ (S : Setting) (has_each : HasEachRule S.bodies S.form S.numbers.own_rule) where
  move : (s x : Sym) → x ≡ s → NormalDerives S.form s [] → NormalDerives S.form x []
  move s x e d = let P : Sym → Type 0 = λ y. NormalDerives S.form y [] in subst P (sym e) d

  module _ (low high : ℕ) where
    of_begun : (m : ℕ) (t : Term) (f : RuleForm) (more : List RuleForm) (s : Sym) → Known S low high m t → term_rules S.numbers m t ≡ f ∷ more → Repeats f s
        → NormalDerives S.form s [] → ⊥
    of_begun m (star t) f more s k e (inl h) d =
        let same : symbol S.numbers (m + 1) t ≡ s = cc in
        k.no_loop (inl (can_be_empty S has_each low high (m + 1) t (of_star S low high m t k) (move s (symbol S.numbers (m + 1) t) same d)))
    of_begun m (star t) f more s k e (inr h) d = absurd (cc)
    of_begun m (plus t) f more s k e (inl h) d = absurd (cc)
    of_begun m (plus t) f more s k e (inr h) d =
        let same : symbol S.numbers (m + 1) t ≡ s = cc in
        k.no_loop (inl (can_be_empty S has_each low high (m + 1) t (of_plus S low high m t k) (move s (symbol S.numbers (m + 1) t) same d)))
    of_begun m (kind k') f more s k e h d = absurd (cc)
    of_begun m (among ks) f more s k e h d = absurd (cc)
    of_begun m (rule r) f more s k e h d = absurd (cc)
    of_begun m (block a) f more s k e (inl h) d = absurd (cc)
    of_begun m (block a) f more s k e (inr h) d = absurd (cc)
    of_begun m (opt t) f more s k e (inl h) d = absurd (cc)
    of_begun m (opt t) f more s k e (inr h) d = absurd (cc)
    of_begun m eof f more s k e h d = absurd (cc)

  -- what the rule of the bases derives, the bases derive
  pub base_derives : (r : ℕ) (a : Alts) (n : ℕ) (s : Seq) (b : Alts) (w : List ℕ) → RuleAt S r a n → rests r a ≡ or s b → NormalDerives S.form (Rule (n + 1)) w
      → DerivesAlts S.bodies (bases r a) w
  base_derives r a n s b w known e d =
      let high = n + group_size r a in
      let one = regular_inverse (n + 1) (base_symbols S.numbers r (n + 4) a) (rules_of S r a n known (or s b) e).1.0 d refl in
      alt_derives S has_each (n + 1) high (bases r a) one.0 w (base_of S (n + 1) high r (n + 4) a one.0 (left_alts S r a n known s b e) one.1) one.2

  -- what the rule of the rests derives, the rests derive
  pub rest_derives : (r : ℕ) (a : Alts) (n : ℕ) (s : Seq) (b : Alts) (w : List ℕ) → RuleAt S r a n → rests r a ≡ or s b → NormalDerives S.form (Rule (n + 3)) w
      → DerivesAlts S.bodies (rests r a) w
  rest_derives r a n s b w known e d =
      let high = n + group_size r a in
      let third : n + 1 + 1 + 1 ≡ n + 3 = omega arith in
      let alts = rest_symbols S.numbers r (n + 4) a in
      let P : ℕ → Type 0 = λ k. slice_get S.form.rules k ≡ Some (RuleForm.regular alts) in
      let one = regular_inverse (n + 3) alts (subst P third (rules_of S r a n known (or s b) e).1.1.1.0) d refl in
      alt_derives S has_each (n + 1) high (rests r a) one.0 w (rest_alt S (n + 1) high r (n + 4) a one.0 (left_alts S r a n known s b e) one.1) one.2

  of_origin : (r : ℕ) (a : Alts) (n m : ℕ) (f : RuleForm) (s : Sym) → RuleAt S r a n → Origin S r a n m f → Repeats f s → NormalDerives S.form s [] → ⊥
  of_origin r a n m f s known (Origin.plain e) (inl h) d = absurd (cc)
  of_origin r a n m f s known (Origin.plain e) (inr h) d = absurd (cc)
  of_origin r a n m f s known (Origin.left s' b e) (inl h) d = absurd (cc)
  of_origin r a n m f s known (Origin.left s' b e) (inr h) d = absurd (cc)
  of_origin r a n m f s known (Origin.base s' b e) (inl h) d = absurd (cc)
  of_origin r a n m f s known (Origin.base s' b e) (inr h) d = absurd (cc)
  of_origin r a n m f s known (Origin.many s' b e) (inl h) d =
      let same : Rule (n + 3) ≡ s = cc in known.rests_move (rest_derives r a n s' b [] known e (move s (Rule (n + 3)) same d))
  of_origin r a n m f s known (Origin.many s' b e) (inr h) d = absurd (cc)
  of_origin r a n m f s known (Origin.rest s' b e) (inl h) d = absurd (cc)
  of_origin r a n m f s known (Origin.rest s' b e) (inr h) d = absurd (cc)
  of_origin r a n m f s known (Origin.part m' f' b) h d = of_begun (n + 1) (n + group_size r a) m b.term f b.more s b.known b.rules h d

not_empty : (N : NormalForm) (normal : IsNormal N) (r : ℕ) (f : RuleForm) (s : Sym) → slice_get N.rules r ≡ Some f → Repeats f s → NormalDerives N s [] → ⊥
not_empty N normal r f s at h d =
    let c = normal.grammar in
    let P : NormalForm → Type 0 = λ M. slice_get M.rules r ≡ Some f in
    let Q : NormalForm → Type 0 = λ M. NormalDerives M s [] in
    let it = origin_of_rule c normal.checked r f (subst P normal.is at) in
    of_origin (setting c) (has_each c normal.checked) it.rule it.alts (own_rule (bodies c.grammar) it.rule) r f s it.known it.origin h (subst Q normal.is d)

pub elements_are_not_empty : ElementsAreNotEmpty
elements_are_not_empty N normal =
    record {
      star = λ r s at. not_empty N normal r (RuleForm.star s) s at (inl refl);
      plus = λ r s at. not_empty N normal r (RuleForm.plus s) s at (inr refl);
    }
