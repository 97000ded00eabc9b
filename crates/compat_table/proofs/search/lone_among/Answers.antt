use Rattle.std.proofs.Common.{List, ◌++◌, take, sym, ap, ◌∙◌}
use Rattle.std.specs.Global.{Vec}
use Rattle.std.specs.List.{flat_map}
use Rattle.grammar_check_nodes.specs.Flags.{flag}
use Rattle.normal_form.specs.declared.normal.Sym.{Sym}
use Rattle.normal_form.specs.View.{alts_form}
use Rattle.compat_table.specs.inner.Rows.{lone_symbols}
use Rattle.compat_table.proofs.Edges.{lone_more}
use Rattle.compat_table.proofs.search.lone_among.Goals as goal

pub loop-alt-preserved : goal.loop-alt-preserved
loop-alt-preserved c =
    let f = lone_symbols (flag c.args.flags.now) in
    let alt = c.alt-item.result in
    let more = lone_more f c.args.alts.now c.loop-alt.alt-index alt c.loop-alt-test.true in
    let this = c.deref.ensures.value in
    let is = c.alt-item.is in
    let pushed = c.in_ok-push_lone.ensures in
    pushed ∙ ap (λ (l : List Sym). l ++ f c.deref.result.now) c.loop-alt.invariant
    ∙ ap (λ (a : List Sym). flat_map f (alts_form (take c.loop-alt.alt-index c.args.alts.now)) ++ f a) (this ∙ ap (λ (v : Vec Sym). v.items) is) ∙ sym more
