use Rattle.std.proofs.Common.{arith}
use Rattle.std.specs.Str.{chars}
use Rattle.std.specs.Str.Iter.{chars_rest}
use Rattle.lexer.proofs.Farther.{seen_by_candidates}
use Rattle.lexer.proofs.Next.{first_char, nothing_next, something_next}
use Rattle.lexer.proofs.pieces.next_match.Goals as goal

pub best_match-requires-clause-inside : goal.best_match-requires-clause-inside
best_match-requires-clause-inside c a among = c.requires.nfa.inside a ((c.candidates-list.ensures c.args.nfa.now c.requires.listed).among a among)

pub returns-then-is_none-clause-next : goal.returns-then-is_none-clause-next
returns-then-is_none-clause-next c =
    let P = c.args.nfa.now in
    let first =
    first_char c.args.text.now (chars_rest c.chars.result)
    (chars_rest c.next.new.self) c.in-Some.c c.utf8.text c.chars.ensures.rest c.in-Some.ensures.steps.0 in
    nothing_next P (chars c.args.text.now) c.args.alternatives.now c.candidates-list.result.now c.in-Some.c c.in_ok-best.best.found.kind
    c.in_ok-best.best.found.len (chars (chars_rest c.next.new.self)) first
    (c.candidates-list.ensures P c.requires.listed) c.in_ok-best.ensures.best c.if-is_none.true

pub returns-clause-next : goal.returns-clause-next
returns-clause-next c =
    let P = c.args.nfa.now in
    let first = first_char c.args.text.now (chars_rest c.chars.result)
    (chars_rest c.next.new.self) c.in-Some.c c.utf8.text c.chars.ensures.rest c.in-Some.ensures.steps.0 in
    something_next P (chars c.args.text.now) c.args.alternatives.now c.candidates-list.result.now c.in-Some.c c.in_ok-best.best.found.kind
    c.in_ok-best.best.found.len (chars (chars_rest c.next.new.self)) first
    (c.candidates-list.ensures P c.requires.listed) c.in_ok-best.ensures.best (omega arith)

pub returns-clause-seen : goal.returns-clause-seen
returns-clause-seen c =
    let P = c.args.nfa.now in
    let first = first_char c.args.text.now (chars_rest c.chars.result) (chars_rest c.next.new.self) c.in-Some.c c.utf8.text c.chars.ensures.rest
    c.in-Some.ensures.steps.0 in
    seen_by_candidates P c.candidates-list.result.now c.args.alternatives.now (chars c.args.text.now)
    (chars (chars_rest c.next.new.self)) c.in-Some.c c.in_ok-best.best.found.kind c.in_ok-best.best.found.len c.in_ok-best.best.seen first
    (c.candidates-list.ensures P c.requires.listed) c.in_ok-best.ensures.best (omega arith) c.in_ok-best.ensures.seen
