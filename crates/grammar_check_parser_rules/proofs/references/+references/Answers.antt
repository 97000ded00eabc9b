use Rattle.std.proofs.Common.{◌++◌, map, take_all, sym, ap, ◌∙◌, arith}
use Rattle.std.specs.List.{flat_map}
use Rattle.grammar_tree.specs.declared.parser_term.ParserAlts.{out-ParserAlts}
use Rattle.grammar_tree.specs.declared.parser_term.ParserTerm.{ParserTerm}
use Rattle.grammar_tree.specs.declared.parser_term.ParserTerms.{ParserTerms, out-ParserTerms}
use Rattle.grammar_tree.specs.Kinds.{seq_references, term_references}
use Rattle.grammar_tree.specs.View.{parser_term, parser_terms, token_ref}
use Rattle.grammar_tree.specs.Written.{written_seq}
use Rattle.grammar_check_parser_rules.proofs.ReferenceForms.{alts_by_flat, seq_by_flat}
use Rattle.grammar_check_parser_rules.proofs.references.+references.Goals as goal

pub add_references-returns : goal.add_references-returns
add_references-returns t c =
    let whole = out-ParserAlts c.args.alts.now in
    let part = λ (s : ParserTerms). seq_references (written_seq (parser_terms s)) in
    c.loop-i.invariant
    ∙ ap (λ ss. map token_ref c.args.found.now.items ++ flat_map part ss) (take_all c.loop-i.i whole.items.items (omega (arith, whole.items.ok.0)))
    ∙ ap (λ l. map token_ref c.args.found.now.items ++ l) (sym (alts_by_flat c.args.alts.now))

pub add_seq_references-returns : goal.add_seq_references-returns
add_seq_references-returns t c =
    let whole = out-ParserTerms c.args.terms.now in
    let part = λ (x : ParserTerm). term_references (parser_term x) in
    c.loop-i.invariant
    ∙ ap (λ ts. map token_ref c.args.found.now.items ++ flat_map part ts) (take_all c.loop-i.i whole.items.items (omega (arith, whole.items.ok.0)))
    ∙ ap (λ l. map token_ref c.args.found.now.items ++ l) (sym (seq_by_flat c.args.terms.now))
