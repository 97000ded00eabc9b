use Rattle.std.proofs.Common.{get_or}
use Rattle.chart_parser_prefix.proofs.Tokens.{kinds_done, kinds_more, no_kinds}
use Rattle.normal_form.specs.declared.normal.Sym.TheVariants.{Kind}
use Rattle.std.proofs.lemmas.List.{get_or_default}
use Rattle.chart_parser_prefix.proofs.following.kinds_of.Goals as goal

pub loop-symbol-init : goal.loop-symbol-init
loop-symbol-init c = no_kinds c.args.normal.now c.args.symbols.now c.new-kinds.result.items c.new-kinds.ensures.items

pub loop-symbol-preserved : goal.loop-symbol-preserved
loop-symbol-preserved c =
    let i = c.loop-symbol.symbol-index in
    let symbols = c.args.symbols.now in
    kinds_more c.args.normal.now symbols i (get_or symbols i (Kind 0)) c.loop-symbol.kinds.items c.add_kinds.new.kinds.items c.loop-symbol-test.true
    (get_or_default symbols i (Kind 0) (get_or symbols i (Kind 0)) c.loop-symbol-test.true) c.loop-symbol.invariant c.in_ok-add_kinds.ensures

pub returns : goal.returns
returns c =
    kinds_done c.args.normal.now c.args.symbols.now c.loop-symbol.symbol-index c.loop-symbol.kinds.items c.rising.result.items c.loop-symbol-test.false
    c.loop-symbol.invariant c.rising.ensures
