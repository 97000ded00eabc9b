use Rattle.std.specs.Prelude.{map}
use Rattle.lexer.specs.Tokens.{token_of}
use Rattle.token_print.specs.Spelling.{spelling_at}
use Rattle.cert_check_texts.specs.inner.Numbers.{HasNumbers}
use Rattle.cert_check_texts.proofs.numbers.Numbers.of_tokens.Given as goal

abbrev pub invariant-loop-index : goal.invariant-loop-index
invariant-loop-index l = HasNumbers l.numbers (spelling_at l.start (map token_of l.tokens)) l.index
