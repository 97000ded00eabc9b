-- The alternatives of the parser rules: which they are, how many and how large.
use Rattle.std.proofs.Common.{◌≡◌, ℕ, Some, slice_get, ◌<◌, ◌≤◌, ◌^◌, Bor, List, [], ◌∷◌, length, map, sum_by, refl, sym, ap, ◌∙◌, arith}
use Rattle.std.specs.List.{filter_map}
use Rattle.std.proofs.lemmas.List.{length-map}
use Rattle.std.proofs.lemmas.List.Sums.{sum_by-cons}
use Rattle.std.proofs.lemmas.Option.{slice_get_within}
use Rattle.grammar_tree.specs.Derives.{Alts, bodies, resolved_alts}
use Rattle.grammar_tree.specs.Kinds.{parser_rules}
use Rattle.grammar_tree.specs.Size.{alts_size, grammar_size, rule_size}
use Rattle.grammar_tree.specs.View.{parser_alts}
use Rattle.grammar_tree.specs.Written.{ParserRule, WrittenTerm, WrittenRule, WrittenGrammar, written_alts}
use Rattle.grammar_tree.specs.declared.parser_term.ParserAlts.{ParserAlts}
use Rattle.grammar_tree.proofs.Lent.{counts_fit}
use Rattle.grammar_check_parser_rules.specs.Empty.{AreBodies}
use Rattle.grammar_check_parser_rules.specs.inner.Rules.{body_of}

module _ (G : WrittenGrammar) (found : List (Bor ParserAlts))
    (is : map (λ (a : Bor ParserAlts). written_alts (parser_alts a.now)) found ≡ filter_map body_of G.rules) where
  resolved_are : (rs : List WrittenRule) → map (λ (r : ParserRule). resolved_alts G r.alts) (parser_rules rs) ≡ map (resolved_alts G) (filter_map body_of rs)
  resolved_are [] = refl
  resolved_are (WrittenRule.parser_rule r ∷ rs) = ap (λ l. resolved_alts G r.alts ∷ l) (resolved_are rs)
  resolved_are (WrittenRule.lexer_rule r ∷ rs) = resolved_are rs

  seen_as : (xs : List (Bor ParserAlts)) → map (resolved_alts G) (map (λ (a : Bor ParserAlts). written_alts (parser_alts a.now)) xs) ≡ map
      (λ a. resolved_alts G (written_alts a)) (map (λ (a : Bor ParserAlts). parser_alts a.now) xs)
  seen_as [] = refl
  seen_as (x ∷ xs) = ap (λ l. resolved_alts G (written_alts (parser_alts x.now)) ∷ l) (seen_as xs)

  pub bodies_are : AreBodies G (map (λ (a : Bor ParserAlts). parser_alts a.now) found)
  bodies_are = resolved_are G.rules ∙ ap (map (resolved_alts G)) (sym is) ∙ seen_as found

  bodies_fit : (rs : List WrittenRule) → length (filter_map body_of rs) ≤ length rs
  bodies_fit [] = omega arith
  bodies_fit (WrittenRule.parser_rule r ∷ rs) = omega (arith, bodies_fit rs)
  bodies_fit (WrittenRule.lexer_rule r ∷ rs) = omega (arith, bodies_fit rs)

  sizes_fit : (rs : List WrittenRule) → sum_by alts_size (filter_map body_of rs) ≤ sum_by rule_size rs
  sizes_fit [] = omega arith
  sizes_fit (WrittenRule.parser_rule r ∷ rs) =
      omega (arith, sizes_fit rs, sum_by-cons alts_size r.alts (filter_map body_of rs), sum_by-cons rule_size (WrittenRule.parser_rule r) rs)
  sizes_fit (WrittenRule.lexer_rule r ∷ rs) = omega (arith, sizes_fit rs, sum_by-cons rule_size (WrittenRule.lexer_rule r) rs)

  sized_as : (xs : List (Bor ParserAlts)) → sum_by (λ (a : Bor ParserAlts). alts_size (written_alts (parser_alts a.now))) xs ≡ sum_by alts_size
      (map (λ (a : Bor ParserAlts). written_alts (parser_alts a.now)) xs)
  sized_as [] = refl
  sized_as (x ∷ xs) =
      omega (
        arith,
        sized_as xs,
        sum_by-cons (λ (a : Bor ParserAlts). alts_size (written_alts (parser_alts a.now))) x xs,
        sum_by-cons alts_size (written_alts (parser_alts x.now)) (map (λ (a : Bor ParserAlts). written_alts (parser_alts a.now)) xs),
      )

  module _ (small : grammar_size G < 2 ^ 32) where
    pub few_bodies : length found < 2 ^ 32
    few_bodies =
        omega (
          arith,
          small,
          (counts_fit G).rules,
          bodies_fit G.rules,
          ap length is,
          length-map found (λ (a : Bor ParserAlts). written_alts (parser_alts a.now)),
        )

    rules_fit : sum_by rule_size G.rules ≤ grammar_size G
    unfolding grammar_size
    rules_fit = omega arith

    pub small_bodies : sum_by (λ (a : Bor ParserAlts). alts_size (written_alts (parser_alts a.now))) found < 2 ^ 32
    small_bodies = omega (arith, small, rules_fit, sizes_fit G.rules, sized_as found, ap (sum_by alts_size) is)

-- a rule with alternatives is one of those that were read
pub body_within : {X : Type 0} (view : X → List (List WrittenTerm)) (G : WrittenGrammar) (xs : List X) → AreBodies G (map view xs) → (r : ℕ) (a : Alts)
    → slice_get (bodies G) r ≡ Some a → r < length xs
body_within view G xs e r a at =
    omega (arith, slice_get_within (bodies G) r a at, ap length e, length-map (map view xs) (λ b. resolved_alts G (written_alts b)), length-map xs view)
