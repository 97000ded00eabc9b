use Rattle.std.proofs.Common.{Some, sym, ap, ◌∙◌, arith}
use Rattle.std.specs.Prelude.{find, option_map}
use Rattle.grammar_tree.specs.Faults.{used_name}
use Rattle.grammar_check_faults.specs.inner.Unknown.{is_unknown}
use Rattle.grammar_check_faults.proofs.FindForms.{none_more, none_of, reference_use, references_flat, first_found, none_found}
use Rattle.grammar_check_faults.proofs.unknown.first_unknown_reference.Goals as goal

pub returns-in-Some : goal.returns-in-Some
returns-in-Some c =
    let refs = c.args.references.now in
    let p = is_unknown c.args.names.now in
    ap Some c.in_ok-copy.ensures
    ∙ first_found p reference_use used_name refs c.loop-reference.reference-index c.reference-item.result c.in-Some.name.now c.loop-reference.invariant
    (omega (arith, c.loop-reference-test.true)) c.reference-item.is c.in-Some.ensures
    ∙ ap (λ l. option_map used_name (find p l)) (sym (references_flat refs))

pub loop-reference-preserved : goal.loop-reference-preserved
loop-reference-preserved c =
    let refs = c.args.references.now in
    let p = is_unknown c.args.names.now in
    none_more p reference_use refs c.loop-reference.reference-index c.reference-item.result c.loop-reference.invariant
    (omega (arith, c.loop-reference-test.true)) c.reference-item.is (none_of p reference_use used_name c.reference-item.result c.in_default.ensures)

pub returns : goal.returns
returns c =
    let refs = c.args.references.now in
    let p = is_unknown c.args.names.now in
    none_found p reference_use used_name refs c.loop-reference.reference-index c.loop-reference.invariant (omega arith)
    ∙ ap (λ l. option_map used_name (find p l)) (sym (references_flat refs))
