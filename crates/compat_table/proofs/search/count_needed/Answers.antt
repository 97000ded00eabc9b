use Rattle.std.proofs.Common.{ap, arith, drop-cons}
use Rattle.grammar_check_nodes.specs.Flags.{flag}
use Rattle.normal_form.specs.declared.normal.Sym.TheVariants.{Kind}
use Rattle.compat_table.specs.inner.Rows.{needed}
use Rattle.compat_table.proofs.Nulling.{needed_within}
use Rattle.compat_table.proofs.search.count_needed.Goals as goal

pub overflow_add-count : goal.overflow_add-count
overflow_add-count c =
    let f = flag c.args.flags.now in
    let symbols = c.args.symbols.now in
    omega (
      arith,
      c.loop-symbol.invariant,
      ap (needed f) (drop-cons symbols c.loop-symbol.symbol-index (Kind 0) c.loop-symbol-test.true),
      needed_within f symbols,
    )
