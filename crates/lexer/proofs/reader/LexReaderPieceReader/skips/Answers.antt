use Rattle.std.proofs.Common.{◌↔◌, sym, ◌∙◌, subst}
use Rattle.std.specs.Prelude.{IsTrue}
use Rattle.lexer.specs.Reads.{LexReads}
use Rattle.lexer.specs.Tokens.{IsGapText}
use Rattle.lexer.proofs.reader.LexReaderPieceReader.skips.Goals as goal

pub returns : goal.returns
returns c =
    let f = c.self.invariant.built.gaps c.args.c c.ranges.c.0 in
    let Q : LexReads → Type 0 = λ r. IsTrue c.contains.result ↔ IsGapText r.checked.grammar c.args.c in
    subst Q c.self.view_is (λ t. f.0 (sym c.contains.ensures ∙ t), λ k. c.contains.ensures ∙ f.1 k)
