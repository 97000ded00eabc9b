use Rattle.std.proofs.Common.{◌∙◌}
use Rattle.std.proofs.lemmas.Result.{IfOk-weaker}
use Rattle.cert_check.proofs.Setups.{is_found, made_for}
use Rattle.cert_check.proofs.check.parsed_finding.Goals as goal

pub tree_parts-requires : goal.tree_parts-requires
tree_parts-requires c =
    is_found c.args.checked.now c.args.start.now c.args.found c.is_checked.ensures c.requires.short c.requires.parsed c.requires.input

pub parts_finding-requires-clause-input : goal.parts_finding-requires-clause-input
parts_finding-requires-clause-input c =
    let made =
    made_for c.args.checked.now c.args.start.now c.args.found c.args.keeps.now c.args.squeezes c.is_checked.ensures c.requires.parsed c.requires.input
    c.new-guard.result (c.new-guard.ensures ∙ c.in_ok-keep_texts.ensures) _ c.in_ok-parts.ensures in
    made.0

pub parts_finding-requires-clause-admits : goal.parts_finding-requires-clause-admits
parts_finding-requires-clause-admits c =
    let made =
    made_for c.args.checked.now c.args.start.now c.args.found c.args.keeps.now c.args.squeezes c.is_checked.ensures c.requires.parsed c.requires.input
    c.new-guard.result (c.new-guard.ensures ∙ c.in_ok-keep_texts.ensures) _ c.in_ok-parts.ensures in
    (made.1).admits

pub returns : goal.returns
returns c =
    let made =
    made_for c.args.checked.now c.args.start.now c.args.found c.args.keeps.now c.args.squeezes c.is_checked.ensures c.requires.parsed c.requires.input
    c.new-guard.result (c.new-guard.ensures ∙ c.in_ok-keep_texts.ensures) _ c.in_ok-parts.ensures in
    IfOk-weaker c.parts_finding.result _ _ (λ finding it. (_, made.0, made.1, it)) c.parts_finding.ensures
