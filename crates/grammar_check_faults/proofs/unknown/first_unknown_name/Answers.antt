use Rattle.std.proofs.Common.{◌≡◌, ℕ, List, Option, Some, None, map, Bool, true, false, cond, not, is_some, true≢false, sym, ap, ◌∙◌, arith}
use Rattle.std.proofs.lemmas.Bool.{false≢true}
use Rattle.std.specs.Prelude.{find, option_map, is_none}
use Rattle.grammar_tree.specs.Faults.{NameUse, used_name}
use Rattle.grammar_tree.specs.GrammarView.{rule_of}
use Rattle.grammar_tree.specs.declared.rule.Rule.{Rule}
use Rattle.grammar_tree.specs.Written.{WrittenGrammar}
use Rattle.grammar_check_lexer_rules.specs.Lexer.{lexer_index}
use Rattle.grammar_check_faults.specs.inner.Unknown.{is_unknown}
use Rattle.grammar_check_faults.proofs.FindForms.{lexer_use, names_flat, none_more, first_found, none_found}
use Rattle.grammar_check_faults.proofs.unknown.first_unknown_name.Goals as goal

module _ (G : WrittenGrammar) (rules : List Rule) (same : map rule_of rules ≡ G.rules) (index : Option ℕ) (name : List ℕ)
    (is : index ≡ lexer_index (map rule_of rules) name) where
  test_is : is_none index ≡ is_unknown G (NameUse.by_lexer_rule name)
  test_is = ap is_none (is ∙ ap (λ l. lexer_index l name) same)

  found : is_none index ≡ true → find (is_unknown G) (lexer_use name) ≡ Some (NameUse.by_lexer_rule name)
  found t = ap (λ b. cond b (Some (NameUse.by_lexer_rule name)) None) (sym test_is ∙ t)

  not_found : is_none index ≡ false → find (is_unknown G) (lexer_use name) ≡ None
  not_found t = ap (λ b. cond b (Some (NameUse.by_lexer_rule name)) None) (sym test_is ∙ t)

tested : (o : Option ℕ) (b v : Bool) → is_some o ≡ not b → b ≡ v → is_none o ≡ v
tested None false v h e = absurd (false≢true h)
tested None true v h e = e
tested (Some x) false v h e = e
tested (Some x) true v h e = absurd (true≢false h)

pub returns-then-is_none : goal.returns-then-is_none
returns-then-is_none c =
    let used = c.args.used.now in
    let G = c.args.names.now in
    let name = c.name-item.result in
    let n = tested c.index.result c.is_none.result true c.is_none.ensures c.if-is_none.true in
    ap Some c.in_ok-copy.ensures
    ∙ first_found (is_unknown G) lexer_use used_name used c.loop-name.name-index name name c.loop-name.invariant
    (omega (arith, c.loop-name-test.true)) c.name-item.is
    (ap (option_map used_name) (sym (found G c.args.lexer.now.rules.now c.requires c.index.result name c.index.ensures n)))
    ∙ ap (λ l. option_map used_name (find (is_unknown G) l)) (sym (names_flat used))

pub loop-name-preserved : goal.loop-name-preserved
loop-name-preserved c =
    let used = c.args.used.now in
    let G = c.args.names.now in
    let name = c.name-item.result in
    let n = tested c.index.result c.is_none.result false c.is_none.ensures c.if-is_none.false in
    none_more (is_unknown G) lexer_use used c.loop-name.name-index name c.loop-name.invariant (omega (arith, c.loop-name-test.true)) c.name-item.is
    (not_found G c.args.lexer.now.rules.now c.requires c.index.result name c.index.ensures n)

pub returns : goal.returns
returns c =
    let used = c.args.used.now in
    let p = is_unknown c.args.names.now in
    none_found p lexer_use used_name used c.loop-name.name-index c.loop-name.invariant (omega arith)
    ∙ ap (λ l. option_map used_name (find p l)) (sym (names_flat used))
