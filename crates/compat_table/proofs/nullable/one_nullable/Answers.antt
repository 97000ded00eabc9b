use Rattle.std.proofs.Common.{ap, false, get_or, sym, true, ◌||◌, ◌∙◌, ◌≡◌}
use Rattle.grammar_check_nodes.specs.Flags.{flag}
use Rattle.compat_table.proofs.Nulling.{any_form}
use Rattle.compat_table.specs.Nullable.{is_nullable}
use Rattle.normal_form.specs.declared.normal.Sym.{Sym}
use Rattle.std.proofs.lemmas.List.{take_all}
use Rattle.std.proofs.lemmas.List.Folds.{list_any_at, list_any_more}
use Rattle.std.specs.Global.{Vec}
use Rattle.std.specs.List.{list_all, list_any}
use Rattle.compat_table.proofs.nullable.one_nullable.Goals as goal

pub returns-then-all_nullable : goal.returns-then-all_nullable
returns-then-all_nullable c =
    let p = list_all (is_nullable (flag c.args.flags.now)) in
    let alts = c.args.alternatives.now in
    let item = c.symbols-item.result in
    let is : p (get_or alts c.loop-symbols.symbols-index item).items ≡ true =
    ap (λ (a : Vec Sym). p a.items) (sym c.symbols-item.is) ∙ ap p (sym c.deref.ensures.value) ∙ sym c.all_nullable.ensures ∙ c.if-all_nullable.true in
    sym (any_form p alts ∙ list_any_at (λ (a : Vec Sym). p a.items) alts c.loop-symbols.symbols-index item c.loop-symbols-test.true is)

pub loop-symbols-preserved : goal.loop-symbols-preserved
loop-symbols-preserved c =
    let p = list_all (is_nullable (flag c.args.flags.now)) in
    let alts = c.args.alternatives.now in
    let item = c.symbols-item.result in
    let i = c.loop-symbols.symbols-index in
    let is : p (get_or alts i item).items ≡ false =
    ap (λ (a : Vec Sym). p a.items) (sym c.symbols-item.is) ∙ ap p (sym c.deref.ensures.value) ∙ sym c.all_nullable.ensures ∙ c.if-all_nullable.false in
    list_any_more (λ (a : Vec Sym). p a.items) alts i item c.loop-symbols-test.true ∙ ap (λ b. b || p (get_or alts i item).items) c.loop-symbols.invariant ∙ is

pub returns : goal.returns
returns c =
    let p = list_all (is_nullable (flag c.args.flags.now)) in
    let alts = c.args.alternatives.now in
    sym (any_form p alts ∙ ap (list_any (λ (a : Vec Sym). p a.items)) (sym (take_all c.loop-symbols.symbols-index alts c.loop-symbols-test.false))
    ∙ c.loop-symbols.invariant)
