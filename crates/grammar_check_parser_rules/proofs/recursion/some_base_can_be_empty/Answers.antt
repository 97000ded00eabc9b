use Rattle.std.proofs.Common.{ℕ, Bool, List, sym, ap, ◌∙◌, arith}
use Rattle.std.specs.List.{list_any}
use Rattle.grammar_tree.specs.Derives.{resolved_seq}
use Rattle.grammar_tree.specs.View.{parser_terms}
use Rattle.grammar_tree.specs.Written.{WrittenGrammar, written_seq}
use Rattle.grammar_tree.specs.declared.parser_term.ParserTerms.{ParserTerms}
use Rattle.grammar_check_nodes.specs.Flags.{flag}
use Rattle.grammar_check_parser_rules.specs.inner.Recursion.{is_empty_base}
use Rattle.grammar_check_parser_rules.proofs.RecursionForms.{bases_by_any}
use Rattle.grammar_check_parser_rules.proofs.Traversed.{any_passes, none_passes}
use Rattle.grammar_check_parser_rules.proofs.recursion.some_base_can_be_empty.Goals as goal

abbrev test : WrittenGrammar → ℕ → List Bool → ParserTerms → Bool
test G r flags s = is_empty_base (flag flags) r (resolved_seq G (written_seq (parser_terms s)))

pub returns-then-base_can_be_empty : goal.returns-then-base_can_be_empty
returns-then-base_can_be_empty c =
    let items = c.deref-terms-items.result.now in
    let all = bases_by_any c.args.names.now c.args.number (flag c.args.flags.now) c.args.alts.now in
    sym (all ∙ ap (list_any (test c.args.names.now c.args.number c.args.flags.now)) (sym c.deref-terms-items.ensures.value)
    ∙ any_passes (test c.args.names.now c.args.number c.args.flags.now) items c.loop-terms.terms-index c.terms-item.result (omega arith) c.terms-item.is
    (sym c.base_can_be_empty.ensures ∙ c.if-base_can_be_empty.true))

pub returns : goal.returns
returns c =
    let items = c.deref-terms-items.result.now in
    let all = bases_by_any c.args.names.now c.args.number (flag c.args.flags.now) c.args.alts.now in
    sym (all ∙ ap (list_any (test c.args.names.now c.args.number c.args.flags.now)) (sym c.deref-terms-items.ensures.value)
    ∙ none_passes (test c.args.names.now c.args.number c.args.flags.now) items c.loop-terms.terms-index (omega arith) c.loop-terms.invariant)
