use Rattle.std.proofs.Common.{ℕ, List, map, ap, subst, ◌∙◌}
use Rattle.grammar_tree.specs.Written.{CheckedGrammar}
use Rattle.lexer.specs.Tokens.{token_of}
use Rattle.token_print.specs.Laws.{skips_in}
use Rattle.token_print.specs.Printed.{IsPrinted, printed}
use Rattle.reduce_trees.proofs.candidate.text_of.Goals as goal

pub returns : goal.returns
returns g c =
    let parts = c.args.parts.now in
    let tokens = map token_of parts.tokens.items.items in
    let grammar = parts.start.grammar in
    let law =
    c.printed_with_skips.ensures grammar.grammar grammar.start parts.formed c.text.result.now tokens c.args.kept.now c.args.style c.in_ok-text.text.items in
    let P : CheckedGrammar → Type 0 = λ checked. IsPrinted checked.grammar c.text.result.now tokens c.args.kept.now c.args.style c.in_ok-text.text.items in
    law.0 (subst P c.lexer.ensures c.in_ok-text.ensures.printed)
    ∙ ap (λ (start : List ℕ). printed (skips_in grammar.grammar) start tokens c.args.kept.now c.args.style) c.text.ensures
