-- What other crates' proofs cite of this crate's.
pub use Rattle.token_print.proofs.ByReading.{gaps_are}
pub use Rattle.token_print.proofs.Offsets.{slice}
pub use Rattle.token_print.proofs.Rests.{spells_at_end, spells_none, spells_nothing, spells_on}
pub use Rattle.token_print.proofs.PrintedCopies.{spells_from}
pub use Rattle.token_print.proofs.Passing.{AreWithin, text_lexes}
pub use Rattle.token_print.proofs.StartPieces.{plain, start_lexes}
pub use Rattle.token_print.proofs.Reading.{at_none, at_some, piece_slice}
pub use Rattle.token_print.proofs.Carried.{carried_next}
