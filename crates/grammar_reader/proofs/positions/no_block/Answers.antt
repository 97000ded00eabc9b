use Rattle.std.proofs.Common.{◌≡◌, length, sym, ap, ◌∙◌, arith}
use Rattle.std.specs.Bool.{◌==◌}
use Rattle.std.specs.Vec.{vec_len}
use Rattle.grammar_reader.proofs.Blocks.{no_block_as}
use Rattle.grammar_reader.proofs.positions.no_block.Goals as goal

pub returns : goal.returns
returns c =
    let v = c.args.body.now.enclosing in
    let e : vec_len v ≡ length v.items = omega (arith, v.ok.0) in
    c.is_empty.ensures ∙ ap (λ n. n == 0) e ∙ sym (no_block_as v.items)
