use Rattle.std.proofs.Common.{map, subst, sym, ap, ◌∙◌}
use Rattle.grammar_tree.specs.Derives.{bodies, resolved}
use Rattle.grammar_tree.specs.Kinds.{any_kinds}
use Rattle.grammar_tree.specs.View.{parser_term, token_ref}
use Rattle.grammar_tree.specs.Written.{WrittenGrammar}
use Rattle.grammar_tree.proofs.Lent.{parser_term-Any, parser_term-Not}
use Rattle.grammar_names.specs.KindLists.{IsPartOf, lacking, named_kinds}
use Rattle.normal_form.specs.declared.normal.Sym.TheVariants.{Set}
use Rattle.normal_form.specs.Numbering.{symbol}
use Rattle.normal_form.specs.NormalOf.{numbering}
use Rattle.normal_form_sets.proofs.Lent.{lacks_none, none_part}
use Rattle.normal_form_build.proofs.NamedSets.{lacks_named, named_part}
use Rattle.normal_form_build.proofs.numbers.Numbers.symbol.Goals as goal

pub set-requires : goal.set-requires
set-requires c = none_part (any_kinds c.args.self.now)

pub set-requires-in-Not : goal.set-requires-in-Not
set-requires-in-Not c =
    let refs = map token_ref c.in-Not.tokens.items.items in
    let same = ap (λ (G : WrittenGrammar). named_kinds G refs) (sym c.self.view_is) ∙ sym c.in_ok-missing-in-Not.ensures ∙ sym c.as_slice.ensures.value in
    subst (IsPartOf (any_kinds c.args.self.now)) same (named_part c.args.self.now refs)

pub returns-in-Any : goal.returns-in-Any
returns-in-Any c =
    let G = c.args.self.now in
    let M = numbering (bodies G) in
    c.set.ensures ∙ ap (λ l. Set (M.set_of l)) (lacks_none (any_kinds G))
    ∙ sym (ap (λ x. symbol M c.args.next (resolved G (parser_term x))) c.in-Any.is ∙ ap (λ x. symbol M c.args.next (resolved G x)) parser_term-Any)

pub returns-in_ok-missing-in-Not : goal.returns-in_ok-missing-in-Not
returns-in_ok-missing-in-Not c =
    let G = c.args.self.now in
    let M = numbering (bodies G) in
    let refs = map token_ref c.in-Not.tokens.items.items in
    let same = c.as_slice.ensures.value ∙ c.in_ok-missing-in-Not.ensures ∙ ap (λ (H : WrittenGrammar). named_kinds H refs) c.self.view_is in
    c.set-in-Not.ensures ∙ ap (λ l. Set (M.set_of l)) (ap (lacking (any_kinds G)) same ∙ lacks_named G refs)
    ∙ sym (ap (λ x. symbol M c.args.next (resolved G (parser_term x))) c.in-Not.is
    ∙ ap (λ x. symbol M c.args.next (resolved G x)) (parser_term-Not c.in-Not.tokens))
