use Rattle.std.proofs.Common.{List, map, sym, ap, ◌∙◌, subst}
use Rattle.lexer.specs.Tokens.{token_of}
use Rattle.lexer.specs.declared.token.Token.{Token}
use Rattle.token_print.specs.LexingLaws.{AreInOrder}
use Rattle.token_print.specs.Printed.{printed}
use Rattle.token_print.proofs.PrintedCopies.{printed_copies}
use Rattle.token_print.proofs.print_kept.print.Goals as goal

pub text-requires-clause-order : goal.text-requires-clause-order
text-requires-clause-order c =
    let P : List Token → Type 0 = λ ts. AreInOrder c.args.start.now (map token_of ts) in
    subst P (sym c.deref.ensures.value) (c.tokens_are_in_order.ensures c.args.lexer.now.grammar c.args.start.now
    (map token_of c.args.tokens.now.items.items) c.utf8.start c.requires.tokens)

pub returns-clause-utf8 : goal.returns-clause-utf8
returns-clause-utf8 c =
    let G = c.args.lexer.now.grammar in
    let start = c.args.start.now in
    let tokens = map token_of c.args.tokens.now.items.items in
    let order = c.tokens_are_in_order.ensures G start tokens c.utf8.start c.requires.tokens in
    let same = ap (λ (ts : List Token). printed c.in_ok-skips.field-0 start (map token_of ts) c.args.kept.now c.args.style) c.deref.ensures.value in
    (printed_copies G c.gaps_are_slices.ensures c.in_ok-skips.field-0 start c.utf8.start tokens order c.requires.tokens c.args.kept.now c.requires.kept
    c.args.style c.in_ok-text.text.items (c.in_ok-text.ensures ∙ same)).0
