use Rattle.std.proofs.Common.{◌<◌, ℕ, Bool, List, length, map, sym, refl, ◌∙◌, subst, true≢false, arith}
use Rattle.grammar_tree.specs.GrammarView.{rule_of}
use Rattle.grammar_tree.specs.View.{lex_terms}
use Rattle.grammar_tree.specs.Written.{lexer_seq}
use Rattle.cases_languages.specs.Positions.{IsIn}
use Rattle.cases_languages.specs.Spelled.{spelled_seq}
use Rattle.cases_languages.specs.View.{pattern}
use Rattle.cases_languages.proofs.LentRows.{ends_at}
use Rattle.cases_languages.proofs.Marks.{marked_at}
use Rattle.cases_languages.proofs.LexerResults.{Shorter, by_answer, is_alternative, not_shorter, seq_matches}
use Rattle.cases_languages.proofs.lexer_rules.alternative_matches.Goals as goal

pub returns-then-not-index : goal.returns-then-not-index
returns-then-not-index c =
    let rules = map rule_of c.args.rules.now in
    let s = lexer_seq (lex_terms c.args.terms.now) in
    let K = c.args.list.now in
    let ends = c.in_ok-ends.ends.items in
    let h : length K < length ends = omega (arith, c.in_ok-ends.ensures.len, c.in_ok-ends.ends.ok.0) in
    let m = marked_at ends (length K) c.index.result.now h c.index.ensures in
    let e =
    ends_at c.args.rows.now c.args.rows.now (pattern c.in_ok-whole.whole)
    (spelled_seq rules s) K K ends refl c.in_ok-whole.ensures refl c.in_ok-ends.ensures.ends in (
      λ t. absurd (true≢false (sym t)),
      λ a. absurd (true≢false
          (sym ((seq_matches rules K c.args.rows.now c.requires.exact ends s e).1 a.greedily) ∙ m ∙ c.if-not-index.true)),
    )

pub returns-then-not-is_short : goal.returns-then-not-is_short
returns-then-not-is_short c =
    let rules = map rule_of c.args.rules.now in
    let s = lexer_seq (lex_terms c.args.terms.now) in
    let K = c.args.list.now in
    let ends = c.in_ok-ends.ends.items in
    let h : length K < length ends = omega (arith, c.in_ok-ends.ensures.len, c.in_ok-ends.ends.ok.0) in
    let m = marked_at ends (length K) c.index.result.now h c.index.ensures ∙ c.if-not-index.false in
    let e = ends_at c.args.rows.now c.args.rows.now (pattern c.in_ok-whole.whole)
    (spelled_seq rules s) K K ends refl c.in_ok-whole.ensures refl c.in_ok-ends.ensures.ends in (
      λ _. is_alternative rules K c.args.rows.now c.requires.exact ends s e m
          (λ short _. true≢false (sym short ∙ sym c.is_short.ensures ∙ c.if-not-is_short.true)),
      λ _. refl,
    )

pub returns : goal.returns
returns c =
    let rules = map rule_of c.args.rules.now in
    let s = lexer_seq (lex_terms c.args.terms.now) in
    let K = c.args.list.now in
    let ends = c.in_ok-ends.ends.items in
    let h : length K < length ends = omega (arith, c.in_ok-ends.ensures.len, c.in_ok-ends.ends.ok.0) in
    let m = marked_at ends (length K) c.index.result.now h c.index.ensures ∙ c.if-not-index.false in
    let e = ends_at c.args.rows.now c.args.rows.now
    (pattern c.in_ok-whole.whole) (spelled_seq rules s) K K ends refl c.in_ok-whole.ensures refl c.in_ok-ends.ensures.ends in
    let short = sym c.is_short.ensures ∙ c.if-not-is_short.false in
    let P : List Bool → Type 0 = λ x. (j : ℕ) × (j < length K) × IsIn x j in
    let Q : List Bool → Type 0 = λ x. (j : ℕ) → j < length K → IsIn x j → ⊥ in
    by_answer (Shorter rules K c.args.rows.now c.requires.exact ends s e) c.is_any_before.result
    (λ t. subst P c.deref.ensures.value (c.is_any_before.ensures.some t))
    (λ f (j, k, i). subst Q c.deref.ensures.value (c.is_any_before.ensures.none f) j k i)
    (is_alternative rules K c.args.rows.now c.requires.exact ends s e m) (not_shorter rules K c.args.rows.now c.requires.exact ends s e) short
