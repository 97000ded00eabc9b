use Rattle.std.proofs.Common.{subst, sym, ap, ◌∙◌}
use Rattle.grammar_tree.specs.Derives.{bodies}
use Rattle.grammar_tree.specs.Kinds.{any_kinds}
use Rattle.grammar_names.specs.KindLists.{IsPartOf, lacking}
use Rattle.normal_form.specs.declared.normal.Sym.TheVariants.{Set}
use Rattle.normal_form.specs.NormalOf.{numbering}
use Rattle.normal_form_build.specs.inner.Numbers.{token_symbol}
use Rattle.normal_form_sets.proofs.Lent.{all_part, lacks_all}
use Rattle.normal_form_build.proofs.numbers.Numbers.token.Goals as goal

pub set-requires : goal.set-requires
set-requires c =
    let same = ap any_kinds (sym c.self.view_is) ∙ sym c.any_kinds.ensures.kinds in
    subst (IsPartOf (any_kinds c.args.self.now)) same (all_part (any_kinds c.args.self.now))

pub returns-in-None : goal.returns-in-None
returns-in-None c =
    let G = c.args.self.now in
    let same = c.any_kinds.ensures.kinds ∙ ap any_kinds c.self.view_is in
    c.set.ensures
    ∙ ap (λ l. Set ((numbering (bodies G)).set_of l)) (ap (lacking (any_kinds G)) same ∙ lacks_all (any_kinds G))
    ∙ ap (token_symbol G) (sym c.in-None.is)
