use Rattle.std.proofs.Common.{◌≡◌, ◌++◌, ℕ, List, take, drop, refl, sym, ◌∙◌, ap, arith}
use Rattle.std.specs.Str.{chars}
use Rattle.std.proofs.lemmas.List.{take-append-drop}
use Rattle.lexer.specs.declared.pieces.NextMatch.{NextMatch}
use Rattle.lexer.specs.inner.Candidates.{ComesNext, HasNoNext, IsMatchedByOne}
use Rattle.lexer_match.proofs.Lent.{in_some, dead_end}
use Rattle.lexer_match.specs.Dead.{EndsWith}
use Rattle.lexer_match.specs.Seen.{IsSeenTo}
use Rattle.lexer.proofs.Cut.{found_none, found_some}
use Rattle.lexer.proofs.OnePiece.{end_fits, no_piece, piece_is}
use Rattle.lexer.proofs.read_pieces.piece_from.Goals as goal

-- what is lent from the offset on is the end of the text
ends_so : (text rest : List ℕ) (at : ℕ) → rest ≡ drop at text → EndsWith text rest
ends_so text rest at e = (take at text, sym (take-append-drop at text) ∙ ap (λ l. take at text ++ l) (sym e))

pub range_from-requires : goal.range_from-requires
range_from-requires c h = c.requires.starts

pub next-requires-clause-dead : goal.next-requires-clause-dead
next-requires-clause-dead c =
    let text = c.args.text.now in
    let rest = c.range_from.result.now in
    dead_end c.args.rules.now.states.items text rest c.args.reading.now.dead (ends_so text rest c.args.at c.range_from.ensures.value) c.requires.dead

pub returns-in_default-clause-dead : goal.returns-in_default-clause-dead
returns-in_default-clause-dead c =
    c.in_ok-found.ensures.dead c.args.text.now (ends_so c.args.text.now c.range_from.result.now c.args.at c.range_from.ensures.value) c.requires.dead

pub returns-in_default-clause-piece : goal.returns-in_default-clause-piece
returns-in_default-clause-piece c =
    let P = c.args.rules.now.states.items in
    let all = c.args.rules.now.alternatives.items in
    let rest = c.range_from.result.now in
    no_piece c.args.checked.now.grammar c.args.text.now c.args.at P all c.requires.built.of_grammar rest c.range_from.ensures.value
    (found_none c.in_ok-found.found _ _ c.in_default.is c.in_ok-found.ensures.next)

pub overflow_add-result : goal.overflow_add-result
overflow_add-result c =
    let P = c.args.rules.now.states.items in
    let all = c.args.rules.now.alternatives.items in
    let rest = c.range_from.result.now in
    let m = c.in-Some.next in
    let next : ComesNext P all (chars rest) m.found.kind m.found.len =
    found_some c.in_ok-found.found m (HasNoNext P all (chars rest))
    (λ (x : NextMatch). ComesNext P all (chars rest) x.found.kind x.found.len) c.in-Some.is c.in_ok-found.ensures.next in
    omega (
      arith,
      end_fits c.args.checked.now.grammar c.args.text.now c.args.at P all c.requires.built.of_grammar rest c.range_from.ensures.value c.utf8.text
          c.requires.starts m.found.kind m.found.len next,
      c.requires.small,
    )

pub overflow_cast-result-2 : goal.overflow_cast-result-2
overflow_cast-result-2 c =
    let P = c.args.rules.now.states.items in
    let all = c.args.rules.now.alternatives.items in
    let rest = c.range_from.result.now in
    let m = c.in-Some.next in
    let next : ComesNext P all (chars rest) m.found.kind m.found.len = found_some c.in_ok-found.found m (HasNoNext P all (chars rest))
    (λ (x : NextMatch). ComesNext P all (chars rest) x.found.kind x.found.len) c.in-Some.is c.in_ok-found.ensures.next in
    omega (
      arith,
      end_fits c.args.checked.now.grammar c.args.text.now c.args.at P all c.requires.built.of_grammar rest c.range_from.ensures.value
          c.utf8.text c.requires.starts m.found.kind m.found.len next,
      c.requires.small,
    )

pub returns-clause-dead : goal.returns-clause-dead
returns-clause-dead c =
    c.in_ok-found.ensures.dead c.args.text.now (ends_so c.args.text.now c.range_from.result.now c.args.at c.range_from.ensures.value) c.requires.dead

pub returns-clause-piece : goal.returns-clause-piece
returns-clause-piece c =
    let G = c.args.checked.now.grammar in
    let text = c.args.text.now in
    let P = c.args.rules.now.states.items in
    let all = c.args.rules.now.alternatives.items in
    let rest = c.range_from.result.now in
    let m = c.in-Some.next in
    let next : ComesNext P all (chars rest) m.found.kind m.found.len = found_some c.in_ok-found.found m
    (HasNoNext P all (chars rest)) (λ (x : NextMatch). ComesNext P all (chars rest) x.found.kind x.found.len) c.in-Some.is c.in_ok-found.ensures.next in
    let seen =
    in_some c.in_ok-found.found m (λ (x : NextMatch). IsSeenTo (IsMatchedByOne P all) (chars rest) x.seen) c.in-Some.is c.in_ok-found.ensures.seen in (
      refl,
      piece_is G text c.args.at P all c.requires.built.of_grammar rest c.range_from.ensures.value c.utf8.text c.requires.starts m.found.kind m.found.len
          next m.seen c.seen_offset.result seen c.seen_offset.ensures,
    )
