use Rattle.token_print.proofs.GapPieces as lemma
use Rattle.token_print.proofs.lexing_laws.gaps_are_gap_pieces.Goals as goal

pub returns : goal.returns
returns c = lemma.are_gap_pieces
