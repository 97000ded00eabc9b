use Rattle.std.proofs.Common.{sym, ◌∙◌}
use Rattle.chart_parser_prefix.proofs.Producing.{all_exactly}
use Rattle.chart_parser_prefix.proofs.productive.all_derive_some.Goals as goal

pub returns : goal.returns
returns c =
    let x = all_exactly c.args.normal.now c.args.flags.now c.requires c.args.symbols.now in
    (λ t. x.0 (sym c.all_pass.ensures ∙ t), λ d. c.all_pass.ensures ∙ x.1 d)
