use Rattle.std.proofs.Common.{All, List, None, map, subst, sym}
use Rattle.std.specs.Prelude.{◌↔◌, IsTrue}
use Rattle.std.proofs.lemmas.List.{nil_from_length}
use Rattle.std.proofs.lemmas.List.Elements.{All-head, All-tail}
use Rattle.lexer.specs.Tokens.{token_of}
use Rattle.lexer.specs.declared.token.Token.{Token}
use Rattle.token_print.specs.LexingLaws.{IsSlice}
use Rattle.token_print.specs.Spelling.{spelling}
use Rattle.cert_check_texts.specs.inner.Print.{CanEnd}
use Rattle.cert_check_texts.proofs.Language.{answered}
use Rattle.cert_check_texts.proofs.Steps.{from_first}
use Rattle.cert_check_texts.proofs.prints.Print.is_printed_of.Goals as goal

pub spelling-requires : goal.spelling-requires
spelling-requires c =
    let P : Token → Type 0 = λ t. IsSlice c.args.found.now t.start t.end in
    All-head P c.in-Some.first.now c.in-Some.later.now (subst (All P) c.in-Some.ensures.cases.0 c.requires.slices)

pub ends_from-requires-clause-slices : goal.ends_from-requires-clause-slices
ends_from-requires-clause-slices c =
    let P : Token → Type 0 = λ t. IsSlice c.args.found.now t.start t.end in
    All-tail P c.in-Some.first.now c.in-Some.later.now (subst (All P) c.in-Some.ensures.cases.0 c.requires.slices)

pub returns-in-None : goal.returns-in-None
returns-in-None c =
    subst (λ (l : List Token). IsTrue c.ends_at.result ↔ CanEnd c.args.self.now None 0 (map (spelling c.args.found.now) (map token_of l)))
    (sym (nil_from_length c.args.spelled.now c.in-None.ensures.cases)) c.ends_at.ensures

pub returns-in_ok-pairs-in-Some : goal.returns-in_ok-pairs-in-Some
returns-in_ok-pairs-in-Some c =
    answered c.ends_from.result
    (from_first c.args.self.now c.args.found.now c.args.spelled.now c.in-Some.later.now c.in-Some.first.now c.in_ok-pairs-in-Some.pairs.items
    c.spelling.result.now c.in-Some.ensures.cases.0 c.spelling.ensures c.in_ok-pairs-in-Some.ensures) c.ends_from.ensures
