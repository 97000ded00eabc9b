use Rattle.std.proofs.Common.{sym, ◌∙◌}
use Rattle.chart_parser_prefix.proofs.Producing.{one_exactly}
use Rattle.chart_parser_prefix.proofs.productive.derives_some.Goals as goal

pub returns : goal.returns
returns c =
    let x = one_exactly c.args.normal.now c.args.flags.now c.requires c.args.symbol in
    (λ t. x.0 (sym c.symbol_passes.ensures ∙ t), λ d. c.symbol_passes.ensures ∙ x.1 d)
