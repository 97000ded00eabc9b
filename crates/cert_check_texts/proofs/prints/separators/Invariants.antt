use Rattle.std.specs.Prelude.{map}
use Rattle.lexer.specs.Tokens.{token_of}
use Rattle.cert_check_texts.specs.inner.Reached.{AreSeparators}
use Rattle.cert_check_texts.proofs.prints.separators.Given as goal

abbrev pub invariant-loop-index : goal.invariant-loop-index
invariant-loop-index l = AreSeparators l.layout.skips l.layout.start.now (map token_of l.layout.tokens.now) l.index l.all.items
