use Rattle.std.proofs.Common.{◌≡◌, [], ap, length, map, subst, sym, true≢false, ◌∙◌}
use Rattle.std.specs.Prelude.{◌↔◌, IsTrue}
use Rattle.std.proofs.lemmas.List.{length-map, nil_from_length}
use Rattle.std.proofs.lemmas.Slice.Eq.{bytes_eq-Decides}
use Rattle.lexer.specs.Tokens.{token_of}
use Rattle.token_print.specs.declared.style.Style.{Style}
use Rattle.cert_check_texts.specs.Texts.{IsPrintOf, TreeStart}
use Rattle.cert_check_texts.proofs.Printed.{start_is, where_whole}
use Rattle.cert_check_texts.proofs.Taking.{both_ways, empty_is}
use Rattle.cert_check_texts.proofs.tree_texts.TreeTexts.is_print_as_was.Goals as goal

pub is_print_in_pieces-requires-clause-pieces : goal.is_print_in_pieces-requires-clause-pieces
is_print_in_pieces-requires-clause-pieces c = λ none.
    let t = c.self.inside in
    let empty : length (map token_of t.tokens.items.items) ≡ 0 = ap (λ (s : TreeStart). length s.tokens) c.self.view_is ∙ ap length none in
    let none : t.tokens.items.items ≡ [] = nil_from_length t.tokens.items.items (sym (length-map t.tokens.items.items token_of) ∙ empty) in
    let is = (empty_is t.tokens.items.items _ c.is_empty.result t.tokens.items.ok.0 c.is_empty.ensures).1 none in
    absurd (true≢false (sym is ∙ c.if-is_empty.false))

pub returns-then-is_empty : goal.returns-then-is_empty
returns-then-is_empty c =
    let t = c.self.inside in
    let from : TreeStart = record { grammar = t.lexer; start = t.start.now; tokens = map token_of t.tokens.items.items; keeps = t.keeps } in
    let empty = (empty_is t.tokens.items.items _ c.is_empty.result t.tokens.items.ok.0 c.is_empty.ensures).0 c.if-is_empty.true in
    let none : from.tokens ≡ [] = ap (map token_of) empty in
    let whole =
    where_whole from (start_is t.lexer t.start.now t.tokens t.normal t.skips t.separators.items t.equal t.keeps c.self.invariant) t.skips c.self.invariant.agree none
    c.args.text.now in
    let d = bytes_eq-Decides c.args.text.now t.start.now in
    subst (λ (s : TreeStart). IsTrue c.eq.result ↔ IsPrintOf s Style.AsWas c.args.text.now) c.self.view_is
    (both_ways (λ is. d.0 (sym c.eq.ensures ∙ is), λ same. c.eq.ensures ∙ d.1 same) whole)
