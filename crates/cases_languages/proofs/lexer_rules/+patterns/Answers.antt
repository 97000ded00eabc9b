use Rattle.std.proofs.Common.{◌≡◌, ℕ, map, drop, sym, ap, ◌∙◌, subst, arith}
use Rattle.grammar_tree.specs.declared.lex_term.LexAlts.{out-LexAlts}
use Rattle.grammar_tree.specs.declared.lex_term.LexTerms.{out-LexTerms}
use Rattle.grammar_tree.specs.GrammarView.{rule_of}
use Rattle.grammar_tree.specs.View.{lex_term, lex_terms}
use Rattle.grammar_tree.specs.Written.{lexer_seq, lexer_alts}
use Rattle.cases_languages.specs.Spelled.{spelled_seq, spelled_alts}
use Rattle.cases_languages.specs.View.{pattern}
use Rattle.cases_languages.proofs.LexerViews.{lex_terms_out, lex_alts_out}
use Rattle.cases_languages.proofs.lexer_rules.+patterns.Goals as goal

pub seq_pattern-returns : goal.seq_pattern-returns
seq_pattern-returns t c =
    let e : c.loop-i.i ≡ 0 = omega arith in
    let P : ℕ → Type 0 =
    λ n. pattern c.loop-i.whole ≡ spelled_seq (map rule_of c.args.rules.now) (lexer_seq (map lex_term (drop n (out-LexTerms c.args.terms.now).items.items))) in
    subst P e c.loop-i.invariant ∙ ap (λ l. spelled_seq (map rule_of c.args.rules.now) (lexer_seq l)) (sym (lex_terms_out c.args.terms.now))

pub alts_pattern-returns : goal.alts_pattern-returns
alts_pattern-returns t c =
    let e : c.loop-i.i ≡ 0 = omega arith in
    let P : ℕ → Type 0 =
    λ n. pattern c.loop-i.whole ≡ spelled_alts (map rule_of c.args.rules.now) (lexer_alts (map lex_terms (drop n (out-LexAlts c.args.alts.now).items.items))) in
    subst P e c.loop-i.invariant ∙ ap (λ l. spelled_alts (map rule_of c.args.rules.now) (lexer_alts l)) (sym (lex_alts_out c.args.alts.now))
