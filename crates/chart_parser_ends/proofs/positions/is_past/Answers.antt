use Rattle.std.proofs.Common.{◌-◌, length, get_or, arith}
use Rattle.std.proofs.lemmas.Bool.{ltb-true}
use Rattle.chart_parser_ends.proofs.Rising.{all_below}
use Rattle.chart_parser_ends.proofs.positions.is_past.Goals as goal

pub returns-else-count-eq0 : goal.returns-else-count-eq0
returns-else-count-eq0 c less k h =
    let xs = c.args.positions.now in
    all_below xs c.args.position c.requires (omega (arith, h)) (ltb-true (get_or xs (length xs - 1) 0) c.args.position less) k h
