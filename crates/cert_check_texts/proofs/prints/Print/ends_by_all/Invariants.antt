use Rattle.std.specs.Prelude.{◌↔◌, drop, map}
use Rattle.lexer.specs.Tokens.{token_of}
use Rattle.token_print.specs.Spelling.{spelling}
use Rattle.cert_check_texts.specs.inner.Print.{SomeCanEnd}
use Rattle.cert_check_texts.proofs.prints.Print.ends_by_all.Given as goal

abbrev pub invariant-loop-token : goal.invariant-loop-token
invariant-loop-token l =
    SomeCanEnd l.self l.fn.pairs.items (map (spelling l.found) (map token_of l.spelled))
    ↔ SomeCanEnd l.self l.reached.items (map (spelling l.found) (map token_of (drop l.token-index l.spelled)))
