use Rattle.std.proofs.Common.{arith, subst, sym}
use Rattle.std.proofs.lemmas.List.{length-map}
use Rattle.grammar_tree.specs.Written.{CheckedGrammar}
use Rattle.lexer.specs.Tokens.{token_of}
use Rattle.reduce_trees_mode.specs.Candidates.{InLanguage}
use Rattle.cert_check_texts.proofs.Printed.{fields_are, lists_in, order_in, separate_in, start_is}
use Rattle.cert_check_texts.proofs.tree_texts.TreeTexts.new.Goals as goal

pub tokens_of_start-requires-clause-language : goal.tokens_of_start-requires-clause-language
tokens_of_start-requires-clause-language c = subst (λ (g : CheckedGrammar). InLanguage g c.args.start.now) (sym c.in_ok-lexer.ensures) c.requires.language

pub separators-requires-clause-few : goal.separators-requires-clause-few
separators-requires-clause-few c =
    let order =
    order_in c.tokens_are_in_order.ensures c.in_ok-lexer.lexer c.args.start.now c.in_ok-tokens.tokens c.requires.language.utf8 c.in_ok-tokens.ensures
    c.deref.result.now c.deref.ensures.value in
    let few = order.few in
    omega (arith, few, c.requires.short, length-map c.deref.result.now token_of)

pub separators-requires-clause-order : goal.separators-requires-clause-order
separators-requires-clause-order c =
    order_in c.tokens_are_in_order.ensures c.in_ok-lexer.lexer c.args.start.now c.in_ok-tokens.tokens c.requires.language.utf8 c.in_ok-tokens.ensures
    c.deref.result.now c.deref.ensures.value

pub of_tokens-requires-clause-few : goal.of_tokens-requires-clause-few
of_tokens-requires-clause-few c =
    let order =
    order_in c.tokens_are_in_order.ensures c.in_ok-lexer.lexer c.args.start.now c.in_ok-tokens.tokens c.requires.language.utf8 c.in_ok-tokens.ensures
    c.deref-2.result.now c.deref-2.ensures.value in
    let few = order.few in
    omega (arith, few, c.requires.short, length-map c.deref-2.result.now token_of)

pub of_tokens-requires-clause-order : goal.of_tokens-requires-clause-order
of_tokens-requires-clause-order c =
    order_in c.tokens_are_in_order.ensures c.in_ok-lexer.lexer c.args.start.now c.in_ok-tokens.tokens c.requires.language.utf8 c.in_ok-tokens.ensures
    c.deref-2.result.now c.deref-2.ensures.value

pub invariant_of-result : goal.invariant_of-result
invariant_of-result c =
    fields_are c.args.checked.now c.in_ok-lexer.lexer c.args.start.now c.in_ok-tokens.tokens c.in_ok-normal.normal c.in_ok-skips.skips
    c.in_ok-separators.separators.items c.in_ok-equal.equal c.is_checked.ensures c.in_ok-lexer.ensures c.requires.language c.requires.short
    c.in_ok-tokens.ensures c.in_ok-normal.ensures.form c.in_ok-skips.ensures
    (separate_in c.in_ok-skips.skips c.args.start.now c.in_ok-tokens.tokens c.in_ok-separators.separators.items c.deref.result.now c.deref.ensures.value
    c.in_ok-separators.ensures)
    (lists_in c.in_ok-equal.equal c.args.start.now c.in_ok-tokens.tokens c.deref-2.result.now c.deref-2.ensures.value c.in_ok-equal.ensures)

pub returns-clause-tokens : goal.returns-clause-tokens
returns-clause-tokens c =
    start_is c.in_ok-lexer.lexer c.args.start.now c.in_ok-tokens.tokens c.in_ok-normal.normal c.in_ok-skips.skips c.in_ok-separators.separators.items
    c.in_ok-equal.equal c.args.keeps
    (fields_are c.args.checked.now c.in_ok-lexer.lexer c.args.start.now c.in_ok-tokens.tokens c.in_ok-normal.normal c.in_ok-skips.skips
    c.in_ok-separators.separators.items c.in_ok-equal.equal c.is_checked.ensures c.in_ok-lexer.ensures c.requires.language c.requires.short
    c.in_ok-tokens.ensures c.in_ok-normal.ensures.form c.in_ok-skips.ensures
    (separate_in c.in_ok-skips.skips c.args.start.now c.in_ok-tokens.tokens c.in_ok-separators.separators.items c.deref.result.now c.deref.ensures.value
    c.in_ok-separators.ensures)
    (lists_in c.in_ok-equal.equal c.args.start.now c.in_ok-tokens.tokens c.deref-2.result.now c.deref-2.ensures.value c.in_ok-equal.ensures))
