use Rattle.std.proofs.Common.{length, map, refl, sym, ◌∙◌, arith}
use Rattle.lexer.specs.Tokens.{token_of}
use Rattle.token_print.proofs.StartFacts.{offsets, rising}
use Rattle.token_print.proofs.Stretches.{text_is}
use Rattle.token_print.proofs.layout.Layout.text.Goals as goal

pub returns-in_ok-text-2 : goal.returns-in_ok-text-2
returns-in_ok-text-2 c =
    let start = c.args.self.now.start.now in
    let tokens = map token_of c.args.self.now.tokens.now in
    let kept = c.args.kept.now in
    c.in_ok-text-2.ensures
    ∙ sym (text_is c.args.self.now.skips start tokens (offsets start tokens c.requires.order) c.args.self.now.style kept
    (rising (length tokens) 0 kept c.requires.kept.rise c.requires.kept.there (λ d h. omega arith)))
    ∙ sym (c.if-is_whole.ensures.kept refl kept)
