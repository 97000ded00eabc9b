use Rattle.std.proofs.Common.{◌≡◌, ◌+◌, ◌↔◌, ℕ, List, slice_index_or, IsTrue, length, map, sym, ap, refl, ◌∙◌, subst, arith}
use Rattle.grammar_tree.specs.GrammarView.{rule_of}
use Rattle.grammar_tree.specs.Kinds.{lexer_rules}
use Rattle.grammar_tree.specs.Matches.{Matches}
use Rattle.grammar_tree.specs.View.{lex_term}
use Rattle.cases_languages.specs.Spelled.{spelled, spelled_rules}
use Rattle.cases_languages.specs.View.{pattern}
use Rattle.cases_languages.proofs.LentRows.{fit_at, exact_at, ends_at}
use Rattle.cases_languages.proofs.LexerResults.{term_matches}
use Rattle.cases_languages.proofs.Marks.{tells}
use Rattle.cases_languages.proofs.lexer_rules.matches.Goals as goal

pub ends_from_start-requires : goal.ends_from_start-requires
ends_from_start-requires c =
    fit_at c.in_ok-rows.rows.items c.deref-4.result.now c.deref-2.result.now c.deref-5.result.now (sym c.deref-4.ensures.value)
    (c.deref-2.ensures.value ∙ sym c.deref-5.ensures.value) c.in_ok-rows.ensures.fit

pub returns : goal.returns
returns c =
    let R = map rule_of c.args.grammar.now.rules.items in
    let K = c.in_ok-list.list.items in
    let rows = c.in_ok-rows.rows.items in
    let ends = c.in_ok-ends.ends.items in
    let t = lex_term c.args.term.now in
    let exact =
    exact_at rows rows (spelled_rules (map rule_of c.deref.result.now)) (spelled_rules R) c.deref-2.result.now K refl
    (ap (λ l. spelled_rules (map rule_of l)) c.deref.ensures.value) c.deref-2.ensures.value c.in_ok-rows.ensures.exact in
    let e =
    ends_at c.deref-4.result.now rows (pattern c.in_ok-whole.whole) (spelled R t) c.deref-5.result.now K ends c.deref-4.ensures.value
    (c.in_ok-whole.ensures ∙ ap (λ l. spelled (map rule_of l) t) c.deref-3.ensures.value) c.deref-5.ensures.value c.in_ok-ends.ensures.ends in
    let len : length ends ≡ length K + 1 = omega (arith, c.in_ok-ends.ensures.len, c.in_ok-ends.ends.ok.0, c.deref-5.ensures.len, c.in_ok-list.list.ok.0) in
    let at : c.len.result ≡ length K = omega (arith, c.len.ensures, c.in_ok-list.list.ok.0) in
    let D : ℕ → Type 0 = λ n. c.index.result.now ≡ slice_index_or ends n c.index.result.now in
    let read = subst D at c.index.ensures in
    let P : List ℕ → Type 0 = λ l. IsTrue c.index.result.now ↔ Matches (lexer_rules R) t l in
    subst P c.in_ok-list.ensures (tells (Matches (lexer_rules R) t K) ends (length K) c.index.result.now (omega (arith, len)) read
    (term_matches R K rows exact ends t e))
