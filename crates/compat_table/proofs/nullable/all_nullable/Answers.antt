use Rattle.std.proofs.Common.{ap, get_or, sym, ◌&&◌, ◌∙◌}
use Rattle.grammar_check_nodes.specs.Flags.{flag}
use Rattle.compat_table.specs.Nullable.{is_nullable}
use Rattle.normal_form.specs.declared.normal.Sym.TheVariants.{Kind}
use Rattle.std.proofs.lemmas.List.{take_all}
use Rattle.std.proofs.lemmas.List.Folds.{list_all_at, list_all_more}
use Rattle.std.specs.List.{list_all}
use Rattle.compat_table.proofs.nullable.all_nullable.Goals as goal

pub returns-then-not-is_nullable : goal.returns-then-not-is_nullable
returns-then-not-is_nullable c =
    let p = is_nullable (flag c.args.flags.now) in
    sym (list_all_at p c.args.symbols.now c.loop-symbol.symbol-index (Kind 0) c.loop-symbol-test.true (sym c.is_nullable.ensures ∙ c.if-not-is_nullable.true))

pub loop-symbol-preserved : goal.loop-symbol-preserved
loop-symbol-preserved c =
    let p = is_nullable (flag c.args.flags.now) in
    let i = c.loop-symbol.symbol-index in
    let symbols = c.args.symbols.now in
    list_all_more p symbols i (Kind 0) c.loop-symbol-test.true ∙ ap (λ b. b && p (get_or symbols i (Kind 0))) c.loop-symbol.invariant
    ∙ sym c.is_nullable.ensures ∙ c.if-not-is_nullable.false

pub returns : goal.returns
returns c =
    let p = is_nullable (flag c.args.flags.now) in
    sym (ap (list_all p) (sym (take_all c.loop-symbol.symbol-index c.args.symbols.now c.loop-symbol-test.false)) ∙ c.loop-symbol.invariant)
