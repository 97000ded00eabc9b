-- A text has one list of tokens at most, and then no stop.
use Rattle.std.proofs.Common.{sym, ap, ◌∙◌}
use Rattle.grammar_tree.specs.Lexes.{placed_tokens}
use Rattle.grammar_tree.proofs.Lent.{lexed_stops_nowhere, one_way}
use Rattle.token_print.specs.LexingLaws.{TokensAreUnique, TokensHaveNoStop}

pub unique : TokensAreUnique
unique G text tokens others (pieces, lexed, are) (more, also, too) =
    are ∙ ap (placed_tokens G 0) (one_way G text pieces more lexed also) ∙ sym too

pub no_stop : TokensHaveNoStop
no_stop G text tokens offset (pieces, lexed, are) stop = lexed_stops_nowhere G text pieces offset lexed stop
