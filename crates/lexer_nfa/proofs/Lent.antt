-- What other crates' proofs cite of this crate's.
pub use Rattle.lexer_nfa.proofs.Pushed.{with_none, with_same, mapped_len}
pub use Rattle.lexer_nfa.proofs.Order.{up_to_push, take_order, apart}
