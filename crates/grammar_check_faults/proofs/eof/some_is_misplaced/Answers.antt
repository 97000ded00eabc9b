use Rattle.std.proofs.Common.{sym, ◌∙◌, arith}
use Rattle.grammar_tree.specs.Faults.{is_misplaced_in}
use Rattle.grammar_tree.specs.View.{parser_terms}
use Rattle.grammar_tree.specs.Written.{written_seq}
use Rattle.grammar_tree.specs.declared.parser_term.ParserAlts.{out-ParserAlts}
use Rattle.grammar_tree.specs.declared.parser_term.ParserTerms.{ParserTerms}
use Rattle.grammar_check_faults.proofs.EofForms.{misplaced_alts}
use Rattle.grammar_check_parser_rules.proofs.Lent.{any_passes, none_passes}
use Rattle.grammar_check_faults.proofs.eof.some_is_misplaced.Goals as goal

pub returns-then-terms_are_misplaced : goal.returns-then-terms_are_misplaced
returns-then-terms_are_misplaced c =
    let whole = out-ParserAlts c.args.alts.now in
    let test = λ (s : ParserTerms). is_misplaced_in (written_seq (parser_terms s)) in
    sym (misplaced_alts c.args.alts.now
    ∙ any_passes test whole.items.items c.loop-i.i c.index.result.now (omega (arith, whole.items.ok.0)) c.index.ensures
    (sym c.terms_are_misplaced.ensures ∙ c.if-terms_are_misplaced.true))

pub returns : goal.returns
returns c =
    let whole = out-ParserAlts c.args.alts.now in
    let test = λ (s : ParserTerms). is_misplaced_in (written_seq (parser_terms s)) in
    sym (misplaced_alts c.args.alts.now ∙ none_passes test whole.items.items c.loop-i.i (omega (arith, whole.items.ok.0)) c.loop-i.invariant)
