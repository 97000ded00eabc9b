use Rattle.std.proofs.Common.{ℕ, List, map, sym, subst, true≢false}
use Rattle.std.specs.Str.{IsUtf8}
use Rattle.lexer.specs.Tokens.{token_of}
use Rattle.lexer.specs.declared.token.Token.{Token}
use Rattle.token_print.specs.LexingLaws.{AreInOrder}
use Rattle.token_print.specs.Spelling.{kinds_and_spellings}
use Rattle.token_print.proofs.Keeping as keeping
use Rattle.token_print.proofs.keeps.keeps_tokens.Goals as goal

pub are_same-requires-clause-found : goal.are_same-requires-clause-found
are_same-requires-clause-found c =
    let P : List Token → Type 0 = λ ts. AreInOrder c.in-Ok.text.now (map token_of ts) in
    let U : List ℕ → Type 0 = λ x. IsUtf8 x in
    (subst P (sym c.deref.ensures.value)
    (c.tokens_are_in_order.ensures c.args.lexer.now.grammar c.in-Ok.text.now (map token_of c.in-Ok-lex.found.items.items)
    (subst U (sym c.in-Ok.ensures.cases.0) c.in-Ok.ensures.cases.1) c.in-Ok-lex.ensures.tokens)).slices

pub are_same-requires-clause-tokens : goal.are_same-requires-clause-tokens
are_same-requires-clause-tokens c =
    let P : List Token → Type 0 = λ ts. AreInOrder c.args.start.now (map token_of ts) in
    (subst P (sym c.deref-in-Ok-lex.ensures.value)
    (c.tokens_are_in_order.ensures c.args.lexer.now.grammar c.args.start.now
    (map token_of c.args.tokens.now.items.items) c.utf8.start c.requires.tokens)).slices

pub returns-in-Ok-lex : goal.returns-in-Ok-lex
returns-in-Ok-lex c =
    keeping.answered c.args.lexer.now.grammar c.args.text.now c.in-Ok.text.now c.args.start.now c.in-Ok-lex.found.items.items c.deref.result.now
    c.args.tokens.now.items.items c.deref-in-Ok-lex.result.now c.args.kept.now c.are_same.result
    c.in-Ok.ensures.cases.0 c.in-Ok.ensures.cases.1 c.in-Ok-lex.ensures.tokens c.deref.ensures.value c.deref-in-Ok-lex.ensures.value c.are_same.ensures

pub returns-in-Err-NoToken : goal.returns-in-Err-NoToken
returns-in-Err-NoToken c = (
  λ t. absurd (true≢false (sym t)),
  λ s. absurd (keeping.never c.args.lexer.now.grammar c.args.text.now
      (kinds_and_spellings c.args.start.now (map token_of c.args.tokens.now.items.items) c.args.kept.now) c.in-Ok.text.now c.in-Err-NoToken.field-0
      c.in-Err-NoToken.field-0-0 c.in-Ok.ensures.cases.0 c.in-Err-NoToken.field-0-is c.in-Err-NoToken.ensures.fault s),
)
