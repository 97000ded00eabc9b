-- What other crates' proofs cite of this crate's.
pub use Rattle.grammar_names.proofs.KindLists.{in_filter, filter_agree_on, not_falling, contains_in, in_contains}
pub use Rattle.grammar_names.proofs.Places.{position_some, position_none, position_push, added_nothing, index_push, mapped_more}
pub use Rattle.grammar_names.proofs.TokenKinds.{others_are}
