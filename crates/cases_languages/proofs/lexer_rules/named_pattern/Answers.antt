use Rattle.std.proofs.Common.{◌≡◌, ℕ, map, drop, subst, arith}
use Rattle.grammar_tree.specs.GrammarView.{rule_of}
use Rattle.cases_languages.specs.Spelled.{named_from}
use Rattle.cases_languages.specs.View.{pattern}
use Rattle.cases_languages.proofs.lexer_rules.named_pattern.Goals as goal

pub returns : goal.returns
returns c =
    let e : c.loop-position.position ≡ 0 = omega arith in
    let P : ℕ → Type 0 = λ n. pattern c.loop-position.whole ≡ named_from n (map rule_of (drop n c.args.rules.now)) c.args.name.now in
    subst P e c.loop-position.invariant
