use Rattle.std.proofs.Common.{List, map, sym, ap, ◌∙◌, subst, arith}
use Rattle.std.specs.Prelude.{encode_utf8_all}
use Rattle.std.specs.Str.{chars}
use Rattle.grammar_tree.specs.Lexes.{PlacedToken}
use Rattle.lexer.specs.inner.Candidates.{ComesNext, HasNoNext}
use Rattle.lexer.specs.declared.pieces.NextMatch.{NextMatch}
use Rattle.lexer.specs.Tokens.{token_of}
use Rattle.lexer.proofs.Cut.{IsReadTo, found_none, found_some, is_boundary, left_is, fits, nothing_read, read_all, read_more, some_read, stops}
use Rattle.lexer_match.proofs.Lent.{dead_end, none_dead, whole_ends}
use Rattle.lexer.proofs.tokens.add_tokens.Goals as goal

pub loop-at-init : goal.loop-at-init
loop-at-init c =
    let P : List PlacedToken → Type 0 = λ x. IsReadTo c.args.checked.now.grammar c.args.text.now 0 x in
    record {
      ready = c.requires.ready;
      dead = none_dead c.args.rules.now.states.items c.args.text.now c.args.reading.now.dead c.requires.none;
      read_to = subst P (ap (λ l. map token_of l) (sym c.requires.empty)) (nothing_read c.args.checked.now.grammar c.args.text.now c.utf8.text);
    }

pub range_from-requires : goal.range_from-requires
range_from-requires c h = is_boundary c.args.checked.now.grammar c.args.text.now c.loop-at.at (map token_of c.loop-at.tokens.items) c.loop-at.invariant.read_to

pub next-requires-clause-dead : goal.next-requires-clause-dead
next-requires-clause-dead c =
    let text = c.args.text.now in
    let s = c.loop-at.invariant.read_to in
    let rest = c.range_from.result.now in
    dead_end c.args.rules.now.states.items text rest c.loop-at.reading.dead
    (whole_ends text rest (encode_utf8_all s.before) s.left s.bytes
    (c.range_from.ensures.value ∙ left_is c.args.checked.now.grammar text c.loop-at.at (map token_of c.loop-at.tokens.items) s)) c.loop-at.invariant.dead

pub returns-in_default-clause-fault : goal.returns-in_default-clause-fault
returns-in_default-clause-fault c =
    let G = c.args.checked.now.grammar in
    let text = c.args.text.now in
    let at = c.loop-at.at in
    let tokens = map token_of c.loop-at.tokens.items in
    let s = c.loop-at.invariant.read_to in
    let rest = c.range_from.result.now in
    let none : HasNoNext c.args.rules.now.states.items c.args.rules.now.alternatives.items (chars rest) =
    found_none c.in_ok-found.found _ _ c.in_default.is c.in_ok-found.ensures.next in
    stops G text at tokens s c.args.rules.now.states.items c.args.rules.now.alternatives.items c.requires.built.of_grammar rest
    (c.range_from.ensures.value ∙ left_is G text at tokens s) c.loop-at-test.true none

pub overflow_add-end : goal.overflow_add-end
overflow_add-end c =
    let G = c.args.checked.now.grammar in
    let text = c.args.text.now in
    let at = c.loop-at.at in
    let tokens = map token_of c.loop-at.tokens.items in
    let s = c.loop-at.invariant.read_to in
    let P = c.args.rules.now.states.items in
    let all = c.args.rules.now.alternatives.items in
    let rest = c.range_from.result.now in
    let m = c.in-Some.next in
    let same = c.range_from.ensures.value ∙ left_is G text at tokens s in
    let next : ComesNext P all (chars rest) m.found.kind m.found.len =
    found_some c.in_ok-found.found m (HasNoNext P all (chars rest))
    (λ (x : NextMatch). ComesNext P all (chars rest) x.found.kind x.found.len) c.in-Some.is c.in_ok-found.ensures.next in
    omega (arith, fits G text at tokens s P all c.requires.built.of_grammar rest m.found.kind m.found.len same next, c.requires.small)

pub overflow_cast-token-in-loop-at : goal.overflow_cast-token-in-loop-at
overflow_cast-token-in-loop-at c =
    let G = c.args.checked.now.grammar in
    let text = c.args.text.now in
    let at = c.loop-at.at in
    let tokens = map token_of c.loop-at.tokens.items in
    let s = c.loop-at.invariant.read_to in
    let P = c.args.rules.now.states.items in
    let all = c.args.rules.now.alternatives.items in
    let rest = c.range_from.result.now in
    let m = c.in-Some.next in
    let same = c.range_from.ensures.value ∙ left_is G text at tokens s in
    let next : ComesNext P all (chars rest) m.found.kind m.found.len = found_some c.in_ok-found.found m (HasNoNext P all (chars rest))
    (λ (x : NextMatch). ComesNext P all (chars rest) x.found.kind x.found.len) c.in-Some.is c.in_ok-found.ensures.next in
    omega (arith, fits G text at tokens s P all c.requires.built.of_grammar rest m.found.kind m.found.len same next, c.requires.small)

pub loop-at-smaller : goal.loop-at-smaller
loop-at-smaller c =
    let G = c.args.checked.now.grammar in
    let text = c.args.text.now in
    let at = c.loop-at.at in
    let tokens = map token_of c.loop-at.tokens.items in
    let s = c.loop-at.invariant.read_to in
    let P = c.args.rules.now.states.items in
    let all = c.args.rules.now.alternatives.items in
    let rest = c.range_from.result.now in
    let m = c.in-Some.next in
    let same = c.range_from.ensures.value ∙ left_is G text at tokens s in
    let next : ComesNext P all (chars rest) m.found.kind m.found.len = found_some c.in_ok-found.found m
    (HasNoNext P all (chars rest)) (λ (x : NextMatch). ComesNext P all (chars rest) x.found.kind x.found.len) c.in-Some.is c.in_ok-found.ensures.next in
    omega (
      arith,
      fits G text at tokens s P all c.requires.built.of_grammar rest m.found.kind m.found.len same next,
      some_read G text at tokens s P all c.requires.built.of_grammar rest m.found.kind m.found.len same next,
    )

pub loop-at-preserved : goal.loop-at-preserved
loop-at-preserved c =
    let G = c.args.checked.now.grammar in
    let text = c.args.text.now in
    let at = c.loop-at.at in
    let tokens = map token_of c.loop-at.tokens.items in
    let s = c.loop-at.invariant.read_to in
    let P = c.args.rules.now.states.items in
    let all = c.args.rules.now.alternatives.items in
    let rest = c.range_from.result.now in
    let m = c.in-Some.next in
    let same = c.range_from.ensures.value ∙ left_is G text at tokens s in
    let next : ComesNext P all (chars rest) m.found.kind m.found.len = found_some c.in_ok-found.found
    m (HasNoNext P all (chars rest)) (λ (x : NextMatch). ComesNext P all (chars rest) x.found.kind x.found.len) c.in-Some.is c.in_ok-found.ensures.next in
    let named = sym c.is_checked.ensures.numbered ∙ sym c.kinds.ensures in
    record {
      ready = c.in_ok-found.ensures.ready;
      dead = c.in_ok-found.ensures.dead text (whole_ends text rest (encode_utf8_all s.before) s.left s.bytes same) c.loop-at.invariant.dead;
      read_to =
          read_more G text at tokens s P all c.requires.built.of_grammar rest m.found.kind m.found.len same next (map token_of c.add_token.new.tokens.items)
          (c.in_ok-add_token.ensures G named);
    }

pub returns-clause-tokens : goal.returns-clause-tokens
returns-clause-tokens c =
    let G = c.args.checked.now.grammar in
    let tokens = map token_of c.loop-at.tokens.items in
    let s = c.loop-at.invariant.read_to in
    (s.pieces, read_all G c.args.text.now c.loop-at.at tokens s c.loop-at-test.false, s.tokens_are)
