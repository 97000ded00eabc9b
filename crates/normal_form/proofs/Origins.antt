-- From a rule of a normal form to what made it.
use Rattle.std.proofs.Common.{◌≡◌, inl, inr, ℕ, zero, suc, ◌+◌, ◌<◌, ◌≤◌, ◌^◌, List, [], ◌∷◌, take, Some, slice_get, refl, ap, subst, arith}
use Rattle.grammar_tree.specs.Derives.{Seq, Alts, none, or, DerivesAlts}
use Rattle.grammar_tree.specs.Corners.{HasEmptyLoopAlts, alts_new_rules, rests, group_size, normal_count_from}
use Rattle.normal_form.specs.declared.normal.Sym.TheVariants.{Rule}
use Rattle.normal_form.specs.Form.{RuleForm}
use Rattle.normal_form.specs.Numbering.{Numbering, alts_symbols, alts_rules, base_symbols, rest_symbols, group_of, group, groups}
use Rattle.normal_form.proofs.Closed.{IsClosedAlts}
use Rattle.grammar_check_recursion.proofs.Lent.{head_count}
use Rattle.normal_form.proofs.Named.{At, IsThere, group_length}
use Rattle.normal_form.proofs.Parts.{Setting, KnownAlts, HasKindsAlts, Begun, alts_size, get_append, in_alts}

-- A parser rule, whose own rule has the number n, with its rules in the form; and what the check of the grammar says of it.
pub record RuleAt (S : Setting) (r : ℕ) (a : Alts) (n : ℕ) : Type 0 where
  pub body : slice_get S.bodies r ≡ Some a
  pub is : S.numbers.own_rule r ≡ n
  pub at : At S.form n (group S.numbers n r a)
  pub closed : IsClosedAlts S.bodies (IsThere S.form S.numbers) a
  pub no_loop : ¬ HasEmptyLoopAlts S.bodies a
  pub rests_move : ¬ DerivesAlts S.bodies (rests r a) []
  pub kinds : HasKindsAlts S.kinds a
  pub small : alts_size a < 2 ^ 32

-- What the rule with this number is made of: the alternatives of a parser rule; its bases and rests; or a block or suffix in it.
pub data Origin (S : Setting) (r : ℕ) (a : Alts) (n : ℕ) : ℕ → RuleForm → Type 0 where
  plain : rests r a ≡ none → Origin S r a n n (RuleForm.regular (alts_symbols S.numbers (n + 1) a))
  left : (s : Seq) (b : Alts) → rests r a ≡ or s b → Origin S r a n n (RuleForm.regular ((Rule (n + 1) ∷ Rule (n + 2) ∷ []) ∷ []))
  base : (s : Seq) (b : Alts) → rests r a ≡ or s b → Origin S r a n (n + 1) (RuleForm.regular (base_symbols S.numbers r (n + 4) a))
  many : (s : Seq) (b : Alts) → rests r a ≡ or s b → Origin S r a n (n + 2) (RuleForm.star (Rule (n + 3)))
  rest : (s : Seq) (b : Alts) → rests r a ≡ or s b → Origin S r a n (n + 3) (RuleForm.regular (rest_symbols S.numbers r (n + 4) a))
  part : (m : ℕ) (f : RuleForm) → Begun S (n + 1) (n + group_size r a) m f → Origin S r a n m f

pub size_is : (r : ℕ) (a b : Alts) → rests r a ≡ b → group_size r a ≡ head_count b + alts_new_rules a
size_is r a b e = ap (λ x. head_count x + alts_new_rules a) e

module _ (S : Setting) (r : ℕ) (a : Alts) (n : ℕ) (known : RuleAt S r a n) where
  pub rules_of : (b : Alts) → rests r a ≡ b → At S.form n (group_of S.numbers n r a b)
  rules_of b e = let P : Alts → Type 0 = λ x. At S.form n (group_of S.numbers n r a x) in subst P e known.at

  alts_from : (k : ℕ) → At S.form k (alts_rules S.numbers k a) → n + 1 ≤ k → k + alts_new_rules a ≤ n + group_size r a
      → KnownAlts S (n + 1) (n + group_size r a) k a
  alts_from k at above below =
      record { at = at; closed = known.closed; no_loop = known.no_loop; kinds = known.kinds; small = known.small; above = above; below = below }

  pub plain_alts : rests r a ≡ none → KnownAlts S (n + 1) (n + group_size r a) (n + 1) a
  plain_alts e = alts_from (n + 1) (rules_of none e).1 (omega arith) (omega (arith, size_is r a none e))

  pub left_alts : (s : Seq) (b : Alts) → rests r a ≡ or s b → KnownAlts S (n + 1) (n + group_size r a) (n + 4) a
  left_alts s b e =
      let next : n + 1 + 1 + 1 + 1 ≡ n + 4 = omega arith in
      let P : ℕ → Type 0 = λ k. At S.form k (alts_rules S.numbers (n + 4) a) in
      alts_from (n + 4) (subst P next (rules_of (or s b) e).1.1.1.1) (omega arith) (omega (arith, size_is r a (or s b) e))

  number_is : (m k : ℕ) (f : RuleForm) → k ≡ m → Origin S r a n k f → Origin S r a n m f
  number_is m k f e h = let P : ℕ → Type 0 = λ i. Origin S r a n i f in subst P e h

  form_is : (m : ℕ) (f g : RuleForm) → Some f ≡ Some g → Origin S r a n m f → Origin S r a n m g
  form_is m f g e h = let P : RuleForm → Type 0 = λ x. Origin S r a n m x in let same : f ≡ g = cc in subst P same h

  pub origin : (k m : ℕ) (f : RuleForm) → n + k ≡ m → slice_get (group S.numbers n r a) k ≡ Some f → Origin S r a n m f
  origin k m f is e = go (rests r a) refl k is e
    where
      go : (b : Alts) → rests r a ≡ b → (k : ℕ) → n + k ≡ m → slice_get (group_of S.numbers n r a b) k ≡ Some f → Origin S r a n m f
      go none h zero is e = number_is m n f (omega (arith, is)) (form_is n (RuleForm.regular (alts_symbols S.numbers (n + 1) a)) f e (Origin.plain h))
      go none h (suc k) is e = Origin.part m f (in_alts S (n + 1) (n + group_size r a) (n + 1) k a f m (plain_alts h) (omega (arith, is)) e)
      go (or s b) h zero is e =
          number_is m n f (omega (arith, is)) (form_is n (RuleForm.regular ((Rule (n + 1) ∷ Rule (n + 2) ∷ []) ∷ [])) f e (Origin.left s b h))
      go (or s b) h (suc zero) is e =
          number_is m (n + 1) f (omega (arith, is)) (form_is (n + 1) (RuleForm.regular (base_symbols S.numbers r (n + 4) a)) f e (Origin.base s b h))
      go (or s b) h (suc (suc zero)) is e = number_is m (n + 2) f (omega (arith, is)) (form_is (n + 2) (RuleForm.star (Rule (n + 3))) f e (Origin.many s b h))
      go (or s b) h (suc (suc (suc zero))) is e =
          number_is m (n + 3) f (omega (arith, is)) (form_is (n + 3) (RuleForm.regular (rest_symbols S.numbers r (n + 4) a)) f e (Origin.rest s b h))
      go (or s b) h (suc (suc (suc (suc k)))) is e =
          Origin.part m f (in_alts S (n + 1) (n + group_size r a) (n + 4) k a f m (left_alts s b h) (omega (arith, is)) e)

-- The rule is the k-th one of the group of the parser rule r.
pub record InGroup (M : Numbering) (G : List Alts) (n first index : ℕ) (f : RuleForm) : Type 0 where
  pub rule : ℕ
  pub alts : Alts
  pub k : ℕ
  pub body : slice_get G rule ≡ Some alts
  pub number : ℕ
  pub number_is : n + normal_count_from first (take rule G) ≡ number
  pub at : slice_get (group M number (first + rule) alts) k ≡ Some f
  pub is : n + index ≡ number + k

pub in_groups : (M : Numbering) (G : List Alts) (n r i : ℕ) (f : RuleForm) → slice_get (groups M n r G) i ≡ Some f → InGroup M G n r i f
in_groups M [] n r i f e = absurd (cc)
in_groups M (a ∷ G) n r i f e = elim (get_append (group M n r a) (groups M (n + group_size r a) (r + 1) G) i f e) [
  | inl h ↦
      let same : r ≡ r + 0 = omega arith in
      let P : ℕ → Type 0 = λ q. slice_get (group M n q a) i ≡ Some f in
      record { rule = 0; alts = a; k = i; body = refl; number = n; number_is = omega arith; at = subst P same h; is = omega arith }
  | inr h ↦
      let it = in_groups M G (n + group_size r a) (r + 1) h.0 f h.2 in
      let count : normal_count_from (r + 1) (take it.rule G) ≡ normal_count_from (suc r) (take it.rule G) =
      ap (λ q. normal_count_from q (take it.rule G)) (omega arith) in
      let same : r + 1 + it.rule ≡ r + suc it.rule = omega arith in
      let P : ℕ → Type 0 = λ q. slice_get (group M it.number q it.alts) it.k ≡ Some f in
      record {
        rule = suc it.rule;
        alts = it.alts;
        k = it.k;
        body = it.body;
        number = it.number;
        number_is = omega (arith, it.number_is, count);
        at = subst P same it.at;
        is = omega (arith, it.is, h.1, group_length M n r a);
      }
]
