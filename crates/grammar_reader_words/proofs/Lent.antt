-- What other crates' proofs cite of this crate's.
pub use Rattle.grammar_reader_words.proofs.Tails.{choose}
pub use Rattle.grammar_reader_words.proofs.Numbers.{words_of_few}
pub use Rattle.grammar_reader_words.proofs.Within.{AreWithin, spans_within}
