-- The first index of a parser rule's fault, from the first number.
use Rattle.std.proofs.Common.{◌≡◌, inl, inr, ℕ, zero, suc, ◌+◌, ◌<◌, ◌≤◌, ◌⊎◌, List, [], ◌∷◌, ◌++◌, Option, Some}
use Rattle.std.proofs.Common.{None, length, take, slice_get, refl, sym, ap, ◌∙◌, subst, arith}
use Rattle.std.proofs.lemmas.Bool.{cases_lt}
use Rattle.std.proofs.lemmas.List.{length-map}
use Rattle.std.proofs.lemmas.Option.{none-some, same_Some, slice_get_within}
use Rattle.grammar_tree.specs.Corners.{HasEmptyLoopAlts, IsLeftCorner, LeadsTo, bases, rests}
use Rattle.grammar_tree.specs.Derives.{Alts, DerivesAlts, bodies, resolved_alts}
use Rattle.grammar_tree.specs.Kinds.{parser_rules}
use Rattle.grammar_tree.specs.Faults.{LeftRecursion, NoBase, number_at}
use Rattle.grammar_tree.specs.Written.{ParserRule, WrittenRule, WrittenGrammar}
use Rattle.grammar_check_nodes.specs.First.{IsFirst, IsFirstOrNone, Nowhere}
use Rattle.grammar_tree.proofs.Lent.{numbers}
use Rattle.grammar_check_faults.specs.ParserFaults.{ParserLoopAt}
use Rattle.grammar_check_faults.specs.inner.ParserFaults.{HasLoopAt, HasNoBaseAt, LeadsBackAt}
use Rattle.grammar_check_faults.specs.ParserIndices.{indices_from}
use Rattle.grammar_check_faults.specs.inner.ParserIndices.{earlier_index, index_at}

pub indices_append : (from : ℕ) (xs ys : List WrittenRule) → indices_from from (xs ++ ys) ≡ indices_from from xs ++ indices_from (length xs + from) ys
indices_append from [] ys = ap (λ n. indices_from n ys) (omega arith)
indices_append from (WrittenRule.parser_rule r ∷ xs) ys =
    ap (λ l. from ∷ l) (indices_append (suc from) xs ys) ∙ ap (λ n. indices_from from (WrittenRule.parser_rule r ∷ xs) ++ indices_from n ys) (omega arith)
indices_append from (WrittenRule.lexer_rule r ∷ xs) ys =
    indices_append (suc from) xs ys ∙ ap (λ n. indices_from (suc from) xs ++ indices_from n ys) (omega arith)

-- what is at a number is the index of the parser rule that has it
record IsIndex (rules : List WrittenRule) (from r i : ℕ) : Type 0 where
  index : ℕ
  is : from + index ≡ i
  rule : ParserRule
  there : slice_get rules index ≡ Some (WrittenRule.parser_rule rule)
  number : length (parser_rules (take index rules)) ≡ r

found : (from : ℕ) (rules : List WrittenRule) (r i : ℕ) → slice_get (indices_from from rules) r ≡ Some i → IsIndex rules from r i
found from [] r i at = absurd (none-some i at)
found from (WrittenRule.parser_rule p ∷ rules) zero i at = let same =
    same_Some from i at in record { index = 0; is = omega (arith, same); rule = p; there = refl; number = refl }
found from (WrittenRule.parser_rule p ∷ rules) (suc r) i at =
    let it = found (suc from) rules r i at in
    record { index = suc it.index; is = omega (arith, it.is); rule = it.rule; there = it.there; number = ap suc it.number }
found from (WrittenRule.lexer_rule l ∷ rules) r i at =
    let it = found (suc from) rules r i at in
    record { index = suc it.index; is = omega (arith, it.is); rule = it.rule; there = it.there; number = it.number }

has_index : (from : ℕ) (rules : List WrittenRule) (r : ℕ) → r < length (parser_rules rules) → (i : ℕ) × (slice_get (indices_from from rules) r ≡ Some i)
has_index from [] r lt = absurd (omega (arith, lt))
has_index from (WrittenRule.parser_rule p ∷ rules) zero lt = (from, refl)
has_index from (WrittenRule.parser_rule p ∷ rules) (suc r) lt = has_index (suc from) rules r (omega (arith, lt))
has_index from (WrittenRule.lexer_rule l ∷ rules) r lt = has_index (suc from) rules r lt

-- numbers rise with indices
numbers_rise : (rules : List WrittenRule) (j i : ℕ) (rule : ParserRule) → j < i → slice_get rules j ≡ Some (WrittenRule.parser_rule rule)
    → length (parser_rules (take j rules)) < length (parser_rules (take i rules))
numbers_rise [] j i rule lt at = absurd (none-some (WrittenRule.parser_rule rule) at)
numbers_rise (WrittenRule.parser_rule p ∷ rules) j zero rule lt at = absurd (omega (arith, lt))
numbers_rise (WrittenRule.parser_rule p ∷ rules) zero (suc i) rule lt at = omega arith
numbers_rise (WrittenRule.parser_rule p ∷ rules) (suc j) (suc i) rule lt at = let rest = numbers_rise rules j i rule (omega arith) at in omega (arith, rest)
numbers_rise (WrittenRule.lexer_rule l ∷ rules) j zero rule lt at = absurd (omega (arith, lt))
numbers_rise (WrittenRule.lexer_rule l ∷ rules) zero (suc i) rule lt at =
    absurd (no_lexer (same_Some (WrittenRule.lexer_rule l) (WrittenRule.parser_rule rule) at))
  where
    no_lexer : WrittenRule.lexer_rule l ≡ WrittenRule.parser_rule rule → ⊥
    no_lexer e = absurd cc
numbers_rise (WrittenRule.lexer_rule l ∷ rules) (suc j) (suc i) rule lt at = numbers_rise rules j i rule (omega arith) at

-- A fact of indices is that of numbers, for parser rules.
pub record AreSame (G : WrittenGrammar) (P Q : ℕ → Type 0) : Type 0 where
  pub rule : (i : ℕ) → Q i → (it : ParserRule) × (slice_get G.rules i ≡ Some (WrittenRule.parser_rule it))
  pub number : (i : ℕ) → Q i → P (number_at G i)
  pub index : (i : ℕ) (it : ParserRule) → slice_get G.rules i ≡ Some (WrittenRule.parser_rule it) → P (number_at G i) → Q i
  pub within : (r : ℕ) → P r → r < length (parser_rules G.rules)

module _ (G : WrittenGrammar) (P Q : ℕ → Type 0) (same : AreSame G P Q) where
  pub first_index : (o : Option ℕ) → IsFirstOrNone P o → IsFirstOrNone Q (index_at (indices_from 0 G.rules) o)
  first_index None h = λ i q. h (number_at G i) (same.number i q)
  first_index (Some r) h =
      let at = has_index 0 G.rules r (same.within r h.holds) in
      let it = found 0 G.rules r at.0 at.1 in
      let is : it.index ≡ at.0 = omega (arith, it.is) in
      let R : Option ℕ → Type 0 = λ o. IsFirstOrNone Q o in
      let first : IsFirst Q it.index = record {
        holds = same.index it.index it.rule it.there (subst P (sym it.number) h.holds);
        before = λ j lt q.
            let rule = same.rule j q in
            h.before (number_at G j) (omega (arith, numbers_rise G.rules j it.index rule.0 lt rule.1, it.number)) (same.number j q);
      } in
      subst R (ap Some is ∙ sym at.1) first

module _ (G : WrittenGrammar) where
  few_bodies : length (bodies G) ≡ length (parser_rules G.rules)
  few_bodies = length-map (parser_rules G.rules) (λ (r : ParserRule). resolved_alts G r.alts)

  body_within : (r : ℕ) (a : Alts) → slice_get (bodies G) r ≡ Some a → r < length (parser_rules G.rules)
  body_within r a at = omega (arith, few_bodies, slice_get_within (bodies G) r a at)

  the_body : (i : ℕ) (it : ParserRule) (a : Alts) → slice_get G.rules i ≡ Some (WrittenRule.parser_rule it) → slice_get (bodies G) (number_at G i) ≡ Some a
      → a ≡ resolved_alts G it.alts
  the_body i it a at body = same_Some a (resolved_alts G it.alts) (sym body ∙ (numbers G).body i it at)

  pub bases_by_index : AreSame G (HasNoBaseAt (bodies G)) (NoBase G)
  bases_by_index = record {
    rule = λ i q. (q.0, q.1);
    number = λ i q. (resolved_alts G q.0.alts, (numbers G).body i q.0 q.1, q.2);
    index = λ i it at p.
        let P : Alts → Type 0 = λ a. bases (number_at G i) a ≡ Alts.none in
        (it, at, subst P (the_body i it p.0 at p.1) p.2);
    within = λ r p. body_within r p.0 p.1;
  }

  pub loops_by_index : AreSame G (HasLoopAt (bodies G)) (ParserLoopAt G)
  loops_by_index = record {
    rule = λ i q. (q.0, q.1);
    number = λ i q. (resolved_alts G q.0.alts, (numbers G).body i q.0 q.1, q.2);
    index = λ i it at p.
        let P : Alts → Type 0 = λ a. HasEmptyLoopAlts (bodies G) a ⊎ DerivesAlts (bodies G) (rests (number_at G i) a) [] in
        (it, at, subst P (the_body i it p.0 at p.1) p.2);
    within = λ r p. body_within r p.0 p.1;
  }

  corner_within : (r q : ℕ) → IsLeftCorner (bodies G) r q → r < length (parser_rules G.rules)
  corner_within r q (IsLeftCorner.in_base a at b) = body_within r a at
  corner_within r q (IsLeftCorner.in_rest a at e b) = body_within r a at

  leads_within : (r q : ℕ) → LeadsTo (bodies G) r q → r < length (parser_rules G.rules)
  leads_within r q (LeadsTo.by_corner _ _ c) = corner_within r q c
  leads_within r q (LeadsTo.by_corners _ m _ c rest) = corner_within r m c

  pub recursion_by_index : AreSame G (LeadsBackAt (bodies G)) (LeftRecursion G)
  recursion_by_index = record {
    rule = λ i q. (q.0, q.1);
    number = λ i q. q.2;
    index = λ i it at p. (it, at, p);
    within = λ r p. leads_within r r p;
  }

-- the earlier of two first indices
module _ (P Q : ℕ → Type 0) where
  pub first_of_both : (i j : ℕ) → IsFirst P i → IsFirst Q j → i ≤ j → IsFirst (λ n. P n ⊎ Q n) i
  first_of_both i j p q le = record { holds = inl p.holds; before = λ n lt h. elim h [ inl x ↦ p.before n lt x | inr y ↦ q.before n (omega arith) y ] }

  pub second_of_both : (i j : ℕ) → IsFirst P i → IsFirst Q j → j ≤ i → IsFirst (λ n. P n ⊎ Q n) j
  second_of_both i j p q le = record { holds = inr q.holds; before = λ n lt h. elim h [ inl x ↦ p.before n (omega arith) x | inr y ↦ q.before n lt y ] }

  pub only_first : (i : ℕ) → IsFirst P i → Nowhere Q → IsFirst (λ n. P n ⊎ Q n) i
  only_first i p none = record { holds = inl p.holds; before = λ n lt h. elim h [ inl x ↦ p.before n lt x | inr y ↦ none n y ] }

  pub only_second : (j : ℕ) → Nowhere P → IsFirst Q j → IsFirst (λ n. P n ⊎ Q n) j
  only_second j none q = record { holds = inr q.holds; before = λ n lt h. elim h [ inl x ↦ none n x | inr y ↦ q.before n lt y ] }

  pub neither : Nowhere P → Nowhere Q → Nowhere (λ n. P n ⊎ Q n)
  neither p q = λ n h. elim h [ inl x ↦ p n x | inr y ↦ q n y ]

  pub earlier_of : (a b : Option ℕ) → IsFirstOrNone P a → IsFirstOrNone Q b → IsFirstOrNone (λ n. P n ⊎ Q n) (earlier_index a b)
  earlier_of None None p q = neither p q
  earlier_of None (Some j) p q = only_second j p q
  earlier_of (Some i) None p q = only_first i p q
  earlier_of (Some i) (Some j) p q = elim (cases_lt j i) [
    | inl lt ↦ let R : ℕ → Type 0 = λ n. IsFirst (λ m. P m ⊎ Q m) n in subst R (omega arith) (second_of_both i j p q (omega arith))
    | inr le ↦ let R : ℕ → Type 0 = λ n. IsFirst (λ m. P m ⊎ Q m) n in subst R (omega arith) (first_of_both i j p q (omega arith))
  ]
