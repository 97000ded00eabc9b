-- The faults of lexer rules, at an index.
use Rattle.std.proofs.Common.{◌≡◌, inl, inr, ℕ, zero, suc, ◌<◌, Bool, true, false, not, ◌&&◌, List, [], ◌∷◌, Some, length, map}
use Rattle.std.proofs.Common.{slice_get, slice_index_or, refl, sym, ap, ◌∙◌, subst, arith, true≢false}
use Rattle.std.proofs.lemmas.Bool.{cases_Bool, false≢true}
use Rattle.std.proofs.lemmas.List.{length-map}
use Rattle.std.proofs.lemmas.Option.{same_Some, slice_get_within}
use Rattle.grammar_tree.specs.Faults.{AtLexerRule, EmptyToken, FragmentLoop, LexerHasEmptyLoopAlts, ShortUse, Uses, UsesThrough}
use Rattle.grammar_tree.specs.GrammarView.{rule_of}
use Rattle.grammar_tree.specs.Kinds.{lexer_rules}
use Rattle.grammar_tree.specs.Matches.{MatchesAlts, MatchesRule}
use Rattle.grammar_tree.specs.Written.{LexerAlts, LexerRule, WrittenRule, WrittenGrammar}
use Rattle.grammar_tree.specs.declared.rule.Rule.{Rule}
use Rattle.grammar_tree.proofs.Lent.{greedily, at_of_contains, lexer_place as index_of_rule}
use Rattle.grammar_check_nodes.specs.Flags.{flag}
use Rattle.grammar_check_nodes.specs.First.{Nowhere}
use Rattle.grammar_check_nodes.specs.Graph.{AreTargets}
use Rattle.grammar_check_lexer_rules.specs.Lexer.{AreEmptyLexerRules, OneRule, lexer_index, lexer_edges}
use Rattle.grammar_check_faults.specs.inner.LexerFaults.{is_empty_token, is_looping_rule, is_short_rule}
use Rattle.grammar_check_parser_rules.proofs.Lent.{and_both, nil_parts}
use Rattle.grammar_check_lexer_rules.proofs.Lent.{loop_alts, looped_alts, edge_of_use, edge_uses, use_of_edge}

-- the rule at an index, as it was read
pub rule_at : (rules : List Rule) (i : ℕ) (rule : Rule) → i < length rules → rule ≡ slice_index_or rules i rule
    → slice_get (map rule_of rules) i ≡ Some (rule_of rule)
rule_at [] i rule lt e = absurd (omega (arith, lt))
rule_at (r ∷ rules) zero rule lt e = ap (λ x. Some (rule_of x)) (sym e)
rule_at (r ∷ rules) (suc i) rule lt e = rule_at rules i rule (omega arith) e

pub index_within : (rules : List Rule) (i : ℕ) (rule : WrittenRule) → slice_get (map rule_of rules) i ≡ Some rule → i < length rules
index_within rules i rule at = omega (arith, slice_get_within (map rule_of rules) i rule at, length-map rules rule_of)

-- an alternative that matches the empty text greedily matches it
pub empty_rule : {L : List LexerRule} {a : LexerAlts} {w : List ℕ} → MatchesAlts L a w → w ≡ [] → MatchesRule L a w
empty_rule {L = L} (MatchesAlts.by_first s a w m) e =
    MatchesRule.by_first s a w (record { greedily = m; shortest = λ short u v cut less. (nil_parts u v (sym cut ∙ e)).1 })
empty_rule (MatchesAlts.by_later s a w m) e = MatchesRule.by_later s a w (empty_rule m e)

module _ (G : WrittenGrammar) (i : ℕ) (rule : WrittenRule) (at : slice_get G.rules i ≡ Some rule) where
  lexer_same : (r : LexerRule) → slice_get G.rules i ≡ Some (WrittenRule.lexer_rule r) → rule ≡ WrittenRule.lexer_rule r
  lexer_same r at' = same_Some rule (WrittenRule.lexer_rule r) (sym at ∙ at')

  module _ (flags : List Bool) (are : AreEmptyLexerRules G.rules flags) where
    token_there : (r : WrittenRule) → rule ≡ r → is_empty_token r (flag flags i) ≡ true → EmptyToken G i
    token_there (WrittenRule.parser_rule r) e h = absurd (false≢true h)
    token_there (WrittenRule.lexer_rule r) e h =
        let both = and_both (not r.fragment) (flag flags i) h in
        let at' = at ∙ ap Some e in
        let whole : r.fragment ≡ false = elim (cases_Bool r.fragment) [ inl f ↦ absurd (false≢true (rw f at both.0)) | inr f ↦ f ] in
        (r, at', (whole, empty_rule ((are i r at').0 both.1) refl))

    pub empty_token : is_empty_token rule (flag flags i) ≡ true → EmptyToken G i
    empty_token h = token_there rule refl h

    pub no_empty_token : is_empty_token rule (flag flags i) ≡ false → ¬ EmptyToken G i
    no_empty_token h (r, at', (whole, m)) =
        let is : is_empty_token (WrittenRule.lexer_rule r) (flag flags i) ≡ false = ap (λ x. is_empty_token x (flag flags i)) (sym (lexer_same r at')) ∙ h in
        let empty = (are i r at').1 ((greedily (lexer_rules G.rules)).within r.alts [] m) in
        true≢false (sym (rw (whole, empty) refl) ∙ is)

    module _ (one : OneRule G.rules) where
      loop_there' : (r : WrittenRule) → rule ≡ r → is_looping_rule (lexer_index G.rules) (flag flags) r ≡ true
          → AtLexerRule G i (λ x. LexerHasEmptyLoopAlts (lexer_rules G.rules) x.alts)
      loop_there' (WrittenRule.parser_rule r) e h = absurd (false≢true h)
      loop_there' (WrittenRule.lexer_rule r) e h = (r, at ∙ ap Some e, loop_alts G.rules flags one are r.alts h)

      pub loop_there : is_looping_rule (lexer_index G.rules) (flag flags) rule ≡ true
          → AtLexerRule G i (λ x. LexerHasEmptyLoopAlts (lexer_rules G.rules) x.alts)
      loop_there h = loop_there' rule refl h

      pub no_loop : is_looping_rule (lexer_index G.rules) (flag flags) rule ≡ false
          → ¬ AtLexerRule G i (λ x. LexerHasEmptyLoopAlts (lexer_rules G.rules) x.alts)
      no_loop h (r, at', loop) =
          true≢false (sym (looped_alts G.rules flags one are r.alts loop) ∙ ap (is_looping_rule (lexer_index G.rules) (flag flags)) (sym (lexer_same r at'))
          ∙ h)

-- a non-greedy rule that is used, where no rule uses itself
module _ (G : WrittenGrammar) (one : OneRule G.rules) (no_loops : Nowhere (FragmentLoop G)) (flags : List Bool) (are : AreTargets (lexer_edges G.rules) flags)
    (i : ℕ) (rule : WrittenRule) (at : slice_get G.rules i ≡ Some rule) where
  short_there : (r : WrittenRule) → rule ≡ r → flag flags i ≡ true → is_short_rule r ≡ true → ShortUse G i
  short_there (WrittenRule.parser_rule r) e used h = absurd (false≢true h)
  short_there (WrittenRule.lexer_rule r) e used h =
      let at' = at ∙ ap Some e in
      let edge = (are i).0 used in
      let user = edge_uses G.rules edge.0 i edge.1 in
      let use' = use_of_edge G one edge.0 i user.0 r user.1 at' edge.1 in
      let other : user.0.name ≡ r.name → ⊥ = λ same. let P : List ℕ → Type 0 =
      λ n. Uses G n r.name in no_loops i (r, at', UsesThrough.directly r.name r.name (subst P same use')) in
      (r, at', (h, (user.0.name, other, use')))

  pub short_use : (flag flags i && is_short_rule rule) ≡ true → ShortUse G i
  short_use h = let both = and_both (flag flags i) (is_short_rule rule) h in short_there rule refl both.0 both.1

  pub no_short_use : (flag flags i && is_short_rule rule) ≡ false → ¬ ShortUse G i
  no_short_use h (r, at', (short, (user, other, use'))) =
      let it = at_of_contains (lexer_rules G.rules) use'.rule use'.of_grammar in
      let index = index_of_rule G.rules it.0 use'.rule it.1 in
      let edge = edge_of_use G one index.0 i use'.rule r index.1 at' (let P : List ℕ → Type 0 = λ n. Uses G n r.name in subst P (sym use'.named) use') in
      let used = (are i).1 index.0 edge in
      let is : is_short_rule rule ≡ true = ap is_short_rule (lexer_same G i rule at r at') ∙ short in
      true≢false (sym (rw (used, is) refl) ∙ h)
