use Rattle.std.proofs.Common.{◌≡◌, ◌<◌, false, length, slice_index_or, sym, ◌∙◌, arith}
use Rattle.std.proofs.lemmas.List.{get_or_default}
use Rattle.grammar_check_nodes.proofs.cycles.leads_back.Goals as goal

pub returns : goal.returns
returns c =
    let flags = c.in_ok-reached.reached.items in
    let lt : c.args.node < length flags = omega (arith, c.requires.node, c.in_ok-reached.ensures.len, c.in_ok-reached.reached.ok.0) in
    let at : c.index.result.now ≡ slice_index_or flags c.args.node false = c.index.ensures ∙ get_or_default flags c.args.node c.index.result.now false lt in
    let both = c.in_ok-reached.ensures.reached c.args.node in
    (λ h. both.0 (sym at ∙ h), λ cycle. at ∙ both.1 cycle)
