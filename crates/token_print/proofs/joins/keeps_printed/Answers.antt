use Rattle.std.proofs.Common.{◌↔◌, map}
use Rattle.std.specs.Prelude.{IsTrue}
use Rattle.lexer.specs.Tokens.{token_of}
use Rattle.token_print.specs.declared.joins.Joins.{Joins}
use Rattle.token_print.specs.declared.layout.Layout.{Layout}
use Rattle.token_print.specs.declared.style.Skips.{Skips}
use Rattle.token_print.specs.inner.Joins.{IsKeptFrom}
use Rattle.token_print.specs.Kept.{KeepsTokens}
use Rattle.token_print.specs.Printed.{AreSkipped}
use Rattle.token_print.proofs.Answering.{if_ok, joins_of, keeps_of, reads_of}
use Rattle.token_print.proofs.PrintedCopies.{printed_copies}
use Rattle.token_print.proofs.Skipped.{same_skips}
use Rattle.token_print.proofs.joins.keeps_printed.Goals as goal

pub from_utf8_unchecked-text-requires : goal.from_utf8_unchecked-text-requires
from_utf8_unchecked-text-requires g c =
    let G = g.R.PieceReader.grammar c.args.reader.now in
    let tokens = map token_of c.args.tokens.now.items.items in
    let order = c.tokens_are_in_order.ensures G c.args.start.now tokens c.utf8.start c.requires.tokens in
    (printed_copies G c.gaps_are_slices.ensures c.requires.printed.skips c.args.start.now c.utf8.start tokens order c.requires.tokens c.args.kept.now
    c.requires.kept c.args.style c.args.text.now c.requires.printed.same).0

pub are_kept-requires-clause-of : goal.are_kept-requires-clause-of
are_kept-requires-clause-of g c =
    let G = g.R.PieceReader.grammar c.args.reader.now in
    let tokens = map token_of c.args.tokens.now.items.items in
    let skips : Skips = record { newline = c.skips.result; space = c.skips-2.result } in
    let order = c.tokens_are_in_order.ensures G c.args.start.now tokens c.utf8.start c.requires.tokens in
    let agree : AreSkipped G skips = record { newline = c.skips.ensures; space = c.skips-2.ensures } in
    joins_of G _ c.args.tokens.now.items.items c.args.text.now c.deref.ensures.value c.from_utf8_unchecked-text.ensures
    c.requires.printed.skips (same_skips G c.requires.printed.skips skips c.requires.printed.agree agree) c.utf8.start c.requires.tokens order c.requires.pieces
    c.requires.kept
    (printed_copies G c.gaps_are_slices.ensures c.requires.printed.skips c.args.start.now c.utf8.start tokens order c.requires.tokens c.args.kept.now
    c.requires.kept c.args.style c.args.text.now c.requires.printed.same)
    c.requires.small_start c.requires.small

pub returns-clause-keeps : goal.returns-clause-keeps
returns-clause-keeps g c =
    let G = g.R.PieceReader.grammar c.args.reader.now in
    let tokens = map token_of c.args.tokens.now.items.items in
    let skips : Skips = record { newline = c.skips.result; space = c.skips-2.result } in
    let layout : Layout = record { start = c.args.start; tokens = c.deref.result; skips = skips; style = c.args.style } in
    let joins : Joins = record { layout = layout; pieces = c.args.pieces; kept = c.args.kept; text = c.from_utf8_unchecked-text.result } in
    let order = c.tokens_are_in_order.ensures G c.args.start.now tokens c.utf8.start c.requires.tokens in
    let utf8 =
    (printed_copies G c.gaps_are_slices.ensures c.requires.printed.skips c.args.start.now c.utf8.start tokens order c.requires.tokens c.args.kept.now
    c.requires.kept c.args.style c.args.text.now c.requires.printed.same).0 in
    if_ok c.are_kept.result (λ keeps. IsTrue keeps ↔ IsKeptFrom G joins (record { at = 0; found = 0 }))
    (λ keeps. IsTrue keeps ↔ KeepsTokens G c.args.start.now tokens c.args.kept.now c.args.text.now) (λ keeps says.
    keeps_of G joins c.args.tokens.now.items.items c.args.text.now c.deref.ensures.value c.from_utf8_unchecked-text.ensures c.tokens_are_pieces.ensures utf8
    keeps says) c.are_kept.ensures.keeps

pub returns-clause-reads : goal.returns-clause-reads
returns-clause-reads g c =
    let G = g.R.PieceReader.grammar c.args.reader.now in
    let skips : Skips = record { newline = c.skips.result; space = c.skips-2.result } in
    let layout : Layout = record { start = c.args.start; tokens = c.deref.result; skips = skips; style = c.args.style } in
    let joins : Joins = record { layout = layout; pieces = c.args.pieces; kept = c.args.kept; text = c.from_utf8_unchecked-text.result } in
    let agree : AreSkipped G skips = record { newline = c.skips.ensures; space = c.skips-2.ensures } in
    reads_of G joins c.args.tokens.now.items.items c.args.text.now c.deref.ensures.value c.from_utf8_unchecked-text.ensures
    (g.R.PieceReader.reads c.args.reader.now) (g.R.PieceReader.reads c.are_kept.new.reader) agree c.are_kept.ensures.reads
