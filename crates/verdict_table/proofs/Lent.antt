-- What other crates' proofs cite of this crate's.
pub use Rattle.verdict_table.proofs.RecordLemmas.{extends_front, extends_back, extends_itself, not_among}
pub use Rattle.verdict_table.proofs.TableLemmas.{not_open, text_at_index, others_at_index, verdict_found_in, distinct_front}
pub use Rattle.verdict_table.proofs.TableLemmas.{distinct_claims, sound_empty, absent_everywhere, sound_claimed, sound_filled, sound_withdrawn}
pub use Rattle.verdict_table.proofs.KeptLemmas.{absent_where, filled_so, first_more}
