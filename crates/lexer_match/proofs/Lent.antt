-- What other crates' proofs cite of this crate's.
pub use Rattle.lexer_match.proofs.States.{get_before, get_last, get_within, set_at, set_other, below_more, cond_some}
pub use Rattle.lexer_match.proofs.States.{never_reads, call_reads, set_reads, char_reads, split_reads}
pub use Rattle.lexer_match.proofs.StateSets.{index_within, index_set_at, index_set_other, index_default, eq_or_not}
pub use Rattle.lexer_match.proofs.Steps.{both_ways, or_same, after_inside, reads_none}
pub use Rattle.lexer_match.proofs.Cuts.{begins, begins_same, same_back}
pub use Rattle.lexer_match.proofs.Seeing.{shorter, alive_none, seen_until, seen_further, seen_same}
pub use Rattle.lexer_match.proofs.Found.{in_some}
pub use Rattle.lexer_match.proofs.Traced.{dead_end, none_dead, whole_ends}
