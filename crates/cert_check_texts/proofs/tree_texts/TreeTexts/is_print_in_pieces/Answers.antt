use Rattle.std.proofs.Common.{ℕ, Bool, List, All, length, arith, ap, sym, subst, map}
use Rattle.std.proofs.lemmas.List.{length-map}
use Rattle.std.specs.Prelude.{◌↔◌, IfOk, IsTrue}
use Rattle.lexer.specs.Tokens.{token_of}
use Rattle.lexer.specs.declared.token.Token.{Token}
use denote.Ref.{Bor}
use Rattle.token_print.specs.LexingLaws.{IsSlice}
use Rattle.token_print.specs.Spelling.{spelling_at}
use Rattle.cert_check_texts.specs.Texts.{IsPrintOf, TreeStart}
use Rattle.cert_check_texts.specs.inner.Numbers.{HasNumbers}
use Rattle.cert_check_texts.specs.inner.Reached.{AreSeparators}
use Rattle.cert_check_texts.specs.inner.Fields.{tokens_in}
use Rattle.cert_check_texts.proofs.Language.{answered}
use Rattle.cert_check_texts.proofs.Offsets.{slices}
use Rattle.cert_check_texts.proofs.Printed.{exact, order_in, start_is}
use Rattle.cert_check_texts.proofs.tree_texts.TreeTexts.is_print_in_pieces.Goals as goal

pub is_printed_of-requires-clause-laid : goal.is_printed_of-requires-clause-laid
is_printed_of-requires-clause-laid c =
    let t = c.self.inside in
    let order =
    order_in c.tokens_are_in_order.ensures t.lexer t.start.now t.tokens c.self.invariant.utf8 c.self.invariant.has_tokens c.deref.result.now
    c.deref.ensures.value in
    let few = order.few in
    record {
      order = order;
      few = omega (arith, few, c.self.invariant.short, length-map c.deref.result.now token_of);
      separate =
          subst (λ (l : List Token). AreSeparators t.skips t.start.now (map token_of l) (length (map token_of l)) c.deref-2.result.now)
          (sym c.deref.ensures.value)
          (subst (λ (l : List (Bor (List ℕ))). AreSeparators t.skips t.start.now (tokens_in t.tokens) (length (tokens_in t.tokens)) l)
          (sym c.deref-2.ensures.value) c.self.invariant.separate);
      equal =
          subst (λ (l : List Token). HasNumbers t.equal (spelling_at t.start.now (map token_of l)) (length (map token_of l)))
          (sym c.deref.ensures.value) c.self.invariant.equal;
    }

pub is_printed_of-requires-clause-slices : goal.is_printed_of-requires-clause-slices
is_printed_of-requires-clause-slices c =
    let order = c.tokens_are_in_order.ensures c.args.self.now.grammar.grammar c.args.text.now (tokens_in c.args.found.now) c.requires.utf8 c.requires.tokens in
    subst (λ (l : List Token). All (λ (t : Token). IsSlice c.args.text.now t.start t.end) l) (sym c.deref-3.ensures.value)
    (slices c.args.text.now c.args.found.now.items.items order)

-- the fields as they are lent: the tokens, the text's bytes and the tokens that were found
pub returns : goal.returns
returns c =
    let t = c.self.inside in
    let from : TreeStart = record { grammar = t.lexer; start = t.start.now; tokens = map token_of t.tokens.items.items; keeps = t.keeps } in
    subst (λ (s : TreeStart). IfOk c.is_printed_of.result (λ (b : Bool). IsTrue b ↔ IsPrintOf s c.args.style c.args.text.now)) c.self.view_is
    (answered c.is_printed_of.result
    (exact c.tokens_are_unique.ensures c.printed_one_way.ensures c.equal_characters_equal_bytes.ensures c.tokens_are_longest_matches.ensures
    c.tokens_are_in_order.ensures from
    (start_is t.lexer t.start.now t.tokens t.normal t.skips t.separators.items t.equal t.keeps c.self.invariant) t.skips c.self.invariant.agree c.args.style
    (rw (← c.self.view_is) at c.requires.pieces) c.deref.result.now (ap (map token_of) c.deref.ensures.value)
    c.args.text.now c.as_bytes.result.now c.as_bytes.ensures.value c.requires.utf8 c.args.found.now.items.items c.deref-3.result.now c.deref-3.ensures.value
    (rw (← c.self.view_is) at c.requires.tokens)) c.is_printed_of.ensures)
