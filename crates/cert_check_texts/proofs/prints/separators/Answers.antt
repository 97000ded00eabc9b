use Rattle.std.proofs.Common.{◌≡◌, ℕ, arith, length, map, subst}
use Rattle.lexer.specs.Tokens.{token_of}
use Rattle.cert_check_texts.specs.inner.Reached.{AreSeparators}
use Rattle.cert_check_texts.proofs.Separating.{more_separators, no_separators}
use Rattle.cert_check_texts.proofs.prints.separators.Goals as goal

pub loop-index-init : goal.loop-index-init
loop-index-init c =
    no_separators c.args.layout.now.skips c.args.layout.now.start.now (map token_of c.args.layout.now.tokens.now) c.new-all.result.items c.new-all.ensures.items

pub loop-index-preserved : goal.loop-index-preserved
loop-index-preserved c =
    more_separators c.args.layout.now.skips c.args.layout.now.start.now (map token_of c.args.layout.now.tokens.now) c.loop-index.index c.loop-index.all.items
    c.push.new.self.items c.separator.result c.in_ok-push.ensures.items c.separator.ensures c.loop-index.invariant

pub returns : goal.returns
returns c =
    let done : c.loop-index.index ≡ length c.args.layout.now.tokens.now = omega arith in
    subst (λ (n : ℕ). AreSeparators c.args.layout.now.skips c.args.layout.now.start.now (map token_of c.args.layout.now.tokens.now) n c.loop-index.all.items)
    done c.loop-index.invariant
