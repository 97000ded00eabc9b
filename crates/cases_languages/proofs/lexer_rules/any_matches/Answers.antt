use Rattle.std.proofs.Common.{◌<◌, List, length, map, sym, refl, ◌∙◌, subst, true≢false, arith}
use Rattle.grammar_tree.specs.declared.lex_term.LexAlts.{out-LexAlts}
use Rattle.grammar_tree.specs.GrammarView.{rule_of}
use Rattle.grammar_tree.specs.Kinds.{lexer_rules}
use Rattle.grammar_tree.specs.Matches.{MatchesRule}
use Rattle.grammar_tree.specs.Written.{LexerTerm, lexer_alts}
use Rattle.cases_languages.proofs.LexerAlternatives.{this_one, not_this, none_left}
use Rattle.cases_languages.proofs.LexerViews.{lex_alts_out}
use Rattle.cases_languages.proofs.lexer_rules.any_matches.Goals as goal

pub loop-i-init : goal.loop-i-init
loop-i-init c =
    let P : List (List LexerTerm) → Type 0 = λ a. MatchesRule (lexer_rules (map rule_of c.args.rules.now)) (lexer_alts a) c.args.list.now in
    let whole = lex_alts_out c.args.alts.now in
    (λ m. subst P whole m, λ m. subst P (sym whole) m)

pub returns-then-branch : goal.returns-then-branch
returns-then-branch c =
    let items = (out-LexAlts c.args.alts.now).items.items in
    let G = lexer_rules (map rule_of c.args.rules.now) in
    let within : c.loop-i.i < length items = omega (arith, c.len-i-end.ensures, (out-LexAlts c.args.alts.now).items.ok.0) in (
      λ _. c.loop-i.invariant.1 (this_one G c.args.list.now items c.loop-i.i c.index.result.now within c.index.ensures
          (c.in_ok-alternative_matches.ensures.0 c.if-branch.true)),
      λ _. refl,
    )

pub loop-i-preserved : goal.loop-i-preserved
loop-i-preserved c =
    let items = (out-LexAlts c.args.alts.now).items.items in
    let G = lexer_rules (map rule_of c.args.rules.now) in
    let within : c.loop-i.i < length items = omega (arith, c.len-i-end.ensures, (out-LexAlts c.args.alts.now).items.ok.0) in
    let n =
    not_this G c.args.list.now items c.loop-i.i c.index.result.now within c.index.ensures
    (λ m. true≢false (sym (c.in_ok-alternative_matches.ensures.1 m) ∙ c.if-branch.false)) in
    (λ m. n.0 (c.loop-i.invariant.0 m), λ m. c.loop-i.invariant.1 (n.1 m))

pub returns : goal.returns
returns c =
    let items = (out-LexAlts c.args.alts.now).items.items in
    let G = lexer_rules (map rule_of c.args.rules.now) in (
      λ t. absurd (true≢false (sym t)),
      λ m. absurd (none_left G c.args.list.now items c.loop-i.i
          (omega (arith, c.len-i-end.ensures, (out-LexAlts c.args.alts.now).items.ok.0)) (c.loop-i.invariant.0 m)),
    )
