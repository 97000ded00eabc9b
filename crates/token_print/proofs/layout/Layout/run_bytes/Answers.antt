use Rattle.std.proofs.Common.{arith, map}
use Rattle.std.proofs.lemmas.List.{length-map}
use Rattle.lexer.specs.Tokens.{token_of}
use Rattle.token_print.proofs.StartFacts.{offsets}
use Rattle.token_print.proofs.Stretches.{run_rises, run_within}
use Rattle.token_print.proofs.layout.Layout.run_bytes.Goals as goal

pub slice_bounds-result-count : goal.slice_bounds-result-count
slice_bounds-result-count c =
    let tokens = map token_of c.args.self.now.tokens.now in
    let o = offsets c.args.self.now.start.now tokens c.requires.order in
    omega (
      arith,
      c.run_start-from.ensures,
      c.run_end-to.ensures,
      run_rises c.args.self.now.skips c.args.self.now.start.now tokens o c.args.self.now.style c.args.first c.args.last c.requires.rises
          (omega (arith, c.requires.last, length-map c.args.self.now.tokens.now token_of)),
    )

pub slice_bounds-result-start : goal.slice_bounds-result-start
slice_bounds-result-start c =
    let tokens = map token_of c.args.self.now.tokens.now in
    let o = offsets c.args.self.now.start.now tokens c.requires.order in
    omega (
      arith,
      c.run_start-from.ensures,
      c.run_end-to.ensures,
      run_rises c.args.self.now.skips c.args.self.now.start.now tokens o c.args.self.now.style c.args.first c.args.last c.requires.rises
          (omega (arith, c.requires.last, length-map c.args.self.now.tokens.now token_of)),
    )

pub slice_bounds-result-end : goal.slice_bounds-result-end
slice_bounds-result-end c =
    let tokens = map token_of c.args.self.now.tokens.now in
    let o = offsets c.args.self.now.start.now tokens c.requires.order in
    omega (
      arith,
      c.run_end-to.ensures,
      c.as_bytes.ensures.len,
      run_within c.args.self.now.skips c.args.self.now.start.now tokens o c.args.self.now.style c.args.last
          (omega (arith, c.requires.last, length-map c.args.self.now.tokens.now token_of)),
    )
