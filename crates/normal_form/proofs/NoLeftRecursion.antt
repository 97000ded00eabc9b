-- No rule of a normal form is on a cycle of left corners.
use Rattle.std.proofs.Common.{◌≡◌, ◌⊎◌, inl, inr, ℕ, zero, suc, ◌+◌, ◌<◌, ◌≤◌, List, [], ◌∷◌, take, Some, slice_get, refl, sym, ap, ◌∙◌, subst, arith}
use Rattle.std.proofs.lemmas.Bool.{cases_lt}
use Rattle.grammar_tree.specs.Written.{CheckedGrammar}
use Rattle.grammar_tree.specs.Checked.{IsChecked}
use Rattle.grammar_tree.specs.Derives.{Alts, bodies}
use Rattle.grammar_tree.specs.Corners.{IsLeftCorner, LeadsTo, by_corner, by_corners, group_size, in_base, in_rest, normal_count_from}
use Rattle.grammar_tree.proofs.Lent.{numbers}
use Rattle.normal_form.specs.Form.{NormalForm}
use Rattle.normal_form.specs.FormLaws.{IsNormalCorner, NoLeftRecursion, NormalLeadsTo, no_step, one_more}
use Rattle.normal_form.specs.NormalOf.{normal_of, own_rule}
use Rattle.normal_form.proofs.Corners.{Next, State, anywhere, in_group, leaves, step, within}
use Rattle.normal_form.proofs.Counted.{group_positive}
use Rattle.normal_form.proofs.Languages.{has_each}
use Rattle.normal_form.proofs.Settings.{origin_of_rule, rule_at, setting}

-- a group of rules ends before each later group
before_later : (r : ℕ) (G : List Alts) (i j : ℕ) (a : Alts) → slice_get G i ≡ Some a → i < j
    → normal_count_from r (take i G) + group_size (r + i) a ≤ normal_count_from r (take j G)
before_later r [] i j a at less = absurd (cc)
before_later r (x ∷ G) i zero a at less = absurd (omega (arith, less))
before_later r (x ∷ G) zero (suc j) a at less =
    let same : x ≡ a = cc in
    let first : group_size (r + 0) a ≡ group_size r x = ap (λ q. group_size q a) (omega arith) ∙ ap (group_size r) (sym same) in omega (arith, first)
before_later r (x ∷ G) (suc i) (suc j) a at less =
    let next : group_size (r + suc i) a ≡ group_size (suc r + i) a = ap (λ q. group_size q a) (omega arith) in
    omega (arith, next, before_later (suc r) G i j a at (omega (arith, less)))

later_own_rule : (G : List Alts) (i j : ℕ) (a : Alts) → slice_get G i ≡ Some a → i < j → own_rule G i + group_size i a ≤ own_rule G j
later_own_rule G i j a at less =
    let same : group_size (0 + i) a ≡ group_size i a = ap (λ q. group_size q a) (omega arith) in omega (arith, same, before_later 0 G i j a at less)

-- the own rule of a parser rule is in no other's group
same_group : (G : List Alts) (r q : ℕ) (a b : Alts) → slice_get G r ≡ Some a → slice_get G q ≡ Some b → own_rule G r ≤ own_rule G q
    → own_rule G q < own_rule G r + group_size r a → q ≡ r
same_group G r q a b at at' low high = go (cases_lt q r) (cases_lt r q)
  where
    go : (q < r) ⊎ (r ≤ q) → (r < q) ⊎ (q ≤ r) → q ≡ r
    go (inl less) h = absurd (omega (arith, later_own_rule G q r b at' less, group_positive q b, low))
    go (inr h) (inl less) = absurd (omega (arith, later_own_rule G r q a at less, high))
    go (inr h) (inr k) = omega (arith, h, k)

leads_on : (G : List Alts) (a b c : ℕ) → LeadsTo G a b → IsLeftCorner G b c → LeadsTo G a c
leads_on G a b c (by_corner a' b' h) k = by_corners a b c h (by_corner b c k)
leads_on G a b c (by_corners a' m b' h more) k = by_corners a m c h (leads_on G m b c more k)

-- one chain of left corners after another
append_chain : (N : NormalForm) (j a b : ℕ) → NormalLeadsTo N j a b → (k c : ℕ) → NormalLeadsTo N k b c → NormalLeadsTo N (j + k) a c
append_chain N j a b h k c (no_step b') = let P : ℕ → Type 0 = λ n. NormalLeadsTo N n a b in let same : j ≡ j + 0 = omega arith in subst P same h
append_chain N j a b h k c (one_more k' b' m c' more corner) =
    let P : ℕ → Type 0 = λ n. NormalLeadsTo N n a c in let same : suc (j + k') ≡ j + suc k' =
    omega arith in subst P same (one_more (j + k') a m c (append_chain N j a b h k' m more) corner)

module _ (c : CheckedGrammar) (checked : IsChecked c) where
  abbrev G : List Alts
  G = bodies c.grammar

  abbrev N : NormalForm
  N = normal_of c

  no_cycle : (r : ℕ) (a : Alts) → slice_get G r ≡ Some a → LeadsTo G r r → ⊥
  no_cycle r a at h =
      let it = (numbers c.grammar).place r a at in
      let P : ℕ → Type 0 = λ q. LeadsTo G q q in checked.well_formed.no_left_recursion it.0 (it.2.0, it.2.1, subst P (sym it.1) h)

  -- what is reached_by from the own rule of a parser rule: a rule of that parser rule, or of one to which left corners lead
  record Reached (from m : ℕ) : Type 0 where
    rule : ℕ
    alts : Alts
    body : slice_get G rule ≡ Some alts
    leads : (rule ≡ from) ⊎ LeadsTo G from rule
    state : State (setting c) rule alts (own_rule G rule) (λ q. IsLeftCorner G rule q) m

  at_own_rule : (from q : ℕ) (a : Alts) (m : ℕ) → slice_get G q ≡ Some a → own_rule G q ≡ m → (q ≡ from) ⊎ LeadsTo G from q → Reached from m
  at_own_rule from q a m body at leads =
      let P : ℕ → Type 0 = λ k. State (setting c) q a (own_rule G q) (λ p. IsLeftCorner G q p) k in
      record { rule = q; alts = a; body = body; leads = leads; state = subst P at (State.own (λ p h. in_base a body h) (λ d p h. in_rest a body d h)) }

  leads_to_next : (from rule q : ℕ) → (rule ≡ from) ⊎ LeadsTo G from rule → IsLeftCorner G rule q → LeadsTo G from q
  leads_to_next from rule q (inl e) h = let P : ℕ → Type 0 = λ k. IsLeftCorner G k q in by_corner from q (subst P e h)
  leads_to_next from rule q (inr more) h = leads_on G from rule q more h

  next_reached : (from m b : ℕ) (it : Reached from m) → Next (setting c) it.rule it.alts (own_rule G it.rule) (λ q. IsLeftCorner G it.rule q) m b
      → Reached from b
  next_reached from m b it (within less s) = record { rule = it.rule; alts = it.alts; body = it.body; leads = it.leads; state = s }
  next_reached from m b it (leaves q body at at' h) = at_own_rule from q body b at at' (inr (leads_to_next from it.rule q it.leads h))

  step_of : (from m b : ℕ) (it : Reached from m) → IsNormalCorner N m b
      → Next (setting c) it.rule it.alts (own_rule G it.rule) (λ q. IsLeftCorner G it.rule q) m b
  step_of from m b it corner =
      step (setting c) (has_each c checked) it.rule it.alts (own_rule G it.rule) (λ q. IsLeftCorner G it.rule q)
      (rule_at c checked it.rule it.alts it.body) m b it.state corner

  reached_by : (from : ℕ) (a : Alts) → slice_get G from ≡ Some a → (n x m : ℕ) → NormalLeadsTo N n x m → own_rule G from ≡ x → Reached from m
  reached_by from a body n x m (no_step x') at = at_own_rule from from a m body at (inl refl)
  reached_by from a body n x m (one_more n' x' k m' chain corner) at =
      let it = reached_by from a body n' x k chain at in next_reached from k m it (step_of from k m it corner)

  -- the last step of a chain that comes back to the own rule of a parser rule
  closes : (from : ℕ) (a : Alts) → slice_get G from ≡ Some a → (m b : ℕ) (it : Reached from m)
      → Next (setting c) it.rule it.alts (own_rule G it.rule) (λ q. IsLeftCorner G it.rule q) m b → own_rule G from ≡ b → ⊥
  closes from a body m b it (within less s) at =
      let known = rule_at c checked it.rule it.alts it.body in
      let here = in_group (setting c) (has_each c checked) it.rule it.alts (own_rule G it.rule) (λ q. IsLeftCorner G it.rule q) known m it.state in
      let there = in_group (setting c) (has_each c checked) it.rule it.alts (own_rule G it.rule) (λ q. IsLeftCorner G it.rule q) known b s in
      let same : from ≡ it.rule = same_group G it.rule from it.alts a it.body body (omega (arith, there.0, at)) (omega (arith, there.1, at)) in
      absurd (omega (arith, ap (own_rule G) same, here.0, less, at))
  closes from a body m b it (leaves q other at' is h) at =
      let same : from ≡ q = same_group G q from other a at' body (omega (arith, at, is)) (omega (arith, at, is, group_positive q other)) in
      let P : ℕ → Type 0 = λ k. LeadsTo G from k in no_cycle from a body (subst P (sym same) (leads_to_next from it.rule q it.leads h))

  no_cycle_of_own : (from : ℕ) (a : Alts) → slice_get G from ≡ Some a → (n x y : ℕ) → NormalLeadsTo N (suc n) x y → own_rule G from ≡ x → own_rule G from ≡ y
      → ⊥
  no_cycle_of_own from a body n x y (one_more n' x' m y' chain corner) first last =
      let it = reached_by from a body n x m chain first in closes from a body m y it (step_of from m y it corner) last

  -- a chain that passes through the own rule of a parser rule
  record Through (x y : ℕ) : Type 0 where
    rule : ℕ
    alts : Alts
    body : slice_get G rule ≡ Some alts
    first : ℕ
    second : ℕ
    before : NormalLeadsTo N (suc first) x (own_rule G rule)
    after : NormalLeadsTo N second (own_rule G rule) y

  longer : (n x m y : ℕ) → (x + n ≤ m) ⊎ Through x m → m < y → IsNormalCorner N m y → (x + suc n ≤ y) ⊎ Through x y
  longer n x m y (inl h) less corner = inl (omega (arith, h, less))
  longer n x m y (inr t) less corner =
      inr
      (record {
        rule = t.rule;
        alts = t.alts;
        body = t.body;
        first = t.first;
        second = suc t.second;
        before = t.before;
        after = one_more t.second (own_rule G t.rule) m y t.after corner;
      })

  passes : (n x y q : ℕ) (a : Alts) → slice_get G q ≡ Some a → own_rule G q ≡ y → NormalLeadsTo N (suc n) x y → Through x y
  passes n x y q a body at chain =
      let P : ℕ → Type 0 = λ k. NormalLeadsTo N (suc n) x k in
      let Q : ℕ → Type 0 = λ k. NormalLeadsTo N 0 (own_rule G q) k in
      record { rule = q; alts = a; body = body; first = n; second = 0; before = subst P (sym at) chain; after = subst Q at (no_step (own_rule G q)) }

  longer_by_one : (n x m y : ℕ) → NormalLeadsTo N n x m → IsNormalCorner N m y → (x + n ≤ m) ⊎ Through x m → (r : ℕ) (a : Alts)
      → Next (setting c) r a (own_rule G r) (λ q. Unit {0}) m y → (x + suc n ≤ y) ⊎ Through x y
  longer_by_one n x m y chain corner before r a (within less s) = longer n x m y before less corner
  longer_by_one n x m y chain corner before r a (leaves q body at is h) = inr (passes n x y q body at is (one_more n x m y chain corner))

  -- A chain rises, or it passes through the own rule of a parser rule.
  rises : (n x y : ℕ) → NormalLeadsTo N n x y → (x + n ≤ y) ⊎ Through x y
  rises n x y (no_step x') = inl (omega arith)
  rises n x y (one_more n' x' m y' chain corner) =
      let it = origin_of_rule c checked m corner.0 corner.1 in
      let all = anywhere (setting c) it.rule it.alts (own_rule G it.rule) m corner.0 (λ q. Unit {0}) (λ q. tt) it.origin in
      longer_by_one n' x m y chain corner (rises n' x m chain) it.rule it.alts
      (step (setting c) (has_each c checked) it.rule it.alts (own_rule G it.rule) (λ q. Unit {0}) it.known m y all corner)

  pub no_normal_cycle : (n r : ℕ) → NormalLeadsTo N (suc n) r r → ⊥
  no_normal_cycle n r chain = go (rises (suc n) r r chain)
    where
      go : (r + suc n ≤ r) ⊎ Through r r → ⊥
      go (inl h) = absurd (omega (arith, h))
      go (inr t) =
          let P : ℕ → Type 0 = λ k. NormalLeadsTo N k (own_rule G t.rule) (own_rule G t.rule) in
          let one : t.second + suc t.first ≡ suc (t.second + t.first) = omega arith in
          no_cycle_of_own t.rule t.alts t.body (t.second + t.first) (own_rule G t.rule) (own_rule G t.rule)
          (subst P one (append_chain N t.second (own_rule G t.rule) r t.after (suc t.first) (own_rule G t.rule) t.before)) refl refl

pub no_left_recursion : NoLeftRecursion
no_left_recursion M normal n r chain =
    let P : NormalForm → Type 0 = λ X. NormalLeadsTo X (suc n) r r in
    no_normal_cycle normal.grammar normal.checked n r (subst P normal.is chain)
