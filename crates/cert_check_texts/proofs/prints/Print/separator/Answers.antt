use Rattle.std.proofs.Common.{arith}
use Rattle.std.proofs.lemmas.List.{length-map}
use Rattle.lexer.specs.Tokens.{token_of}
use Rattle.cert_check_texts.proofs.prints.Print.separator.Goals as goal

pub bounds-self-index : goal.bounds-self-index
bounds-self-index c =
    omega (arith, c.requires.there, c.requires.laid.separate.long, length-map c.args.self.now.layout.tokens.now token_of)

pub returns : goal.returns
returns c =
    c.requires.laid.separate.separate c.args.index _ (omega (arith, c.requires.there, length-map c.args.self.now.layout.tokens.now token_of))
