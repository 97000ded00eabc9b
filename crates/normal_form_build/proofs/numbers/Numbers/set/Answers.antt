use Rattle.std.proofs.Common.{sym, ap, ◌∙◌}
use Rattle.std.specs.Prelude.{unwrap_or}
use Rattle.grammar_tree.specs.Derives.{bodies}
use Rattle.grammar_tree.specs.Kinds.{any_kinds}
use Rattle.grammar_tree.specs.Written.{WrittenGrammar}
use Rattle.grammar_names.specs.KindLists.{lacking}
use Rattle.normal_form.specs.declared.normal.Sym.TheVariants.{Set}
use Rattle.normal_form.specs.NormalOf.{set_number, sets_of}
use Rattle.normal_form_build.proofs.NamedSets.{number_of}
use Rattle.normal_form_build.proofs.numbers.Numbers.set.Goals as goal

pub returns-in-Some : goal.returns-in-Some
returns-in-Some c =
    let missing = c.args.missing.now in
    let is = number_of c.self.inside.names c.self.inside.sets missing c.number.result c.self.invariant.all_are c.self.invariant.sets_are c.number.ensures in
    ap Set (sym (ap (λ o. unwrap_or o 0) c.in-Some.is) ∙ is)
    ∙ ap (λ (G : WrittenGrammar). Set (set_number (sets_of (bodies G)) (lacking (any_kinds G) missing))) c.self.view_is

pub returns-in-None : goal.returns-in-None
returns-in-None c =
    let missing = c.args.missing.now in
    let is = number_of c.self.inside.names c.self.inside.sets missing c.number.result c.self.invariant.all_are c.self.invariant.sets_are c.number.ensures in
    ap Set (sym (ap (λ o. unwrap_or o 0) c.in-None.is) ∙ is)
    ∙ ap (λ (G : WrittenGrammar). Set (set_number (sets_of (bodies G)) (lacking (any_kinds G) missing))) c.self.view_is
