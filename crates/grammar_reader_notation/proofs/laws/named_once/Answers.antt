use Rattle.grammar_reader_notation.proofs.Named.{one_name}
use Rattle.grammar_reader_notation.proofs.laws.named_once.Goals as goal

pub returns : goal.returns
returns c = one_name
