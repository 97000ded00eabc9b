use Rattle.std.proofs.Common.{◌+◌, ◌||◌, sym, ap, ◌∙◌, arith}
use Rattle.grammar_tree.specs.declared.parser_term.ParserTerms.{out-ParserTerms}
use Rattle.grammar_check_faults.proofs.EofForms.{from, misplaced_at, misplaced_end}
use Rattle.grammar_check_faults.proofs.eof.terms_are_misplaced.Goals as goal

pub returns-then-term_is_misplaced : goal.returns-then-term_is_misplaced
returns-then-term_is_misplaced c =
    let s = c.args.terms.now in
    let i = c.loop-i.i in
    let whole = out-ParserTerms s in
    sym (c.loop-i.invariant ∙ misplaced_at s i c.len.result c.index.result.now (omega (arith, c.len.ensures, whole.items.ok.0))
    (omega (arith, c.len.ensures, c.len-i-end.ensures)) c.index.ensures
    ∙ ap (λ b. b || from s (i + 1)) (sym c.term_is_misplaced.ensures ∙ c.if-term_is_misplaced.true))

pub loop-i-preserved : goal.loop-i-preserved
loop-i-preserved c =
    let s = c.args.terms.now in
    let i = c.loop-i.i in
    let whole = out-ParserTerms s in
    c.loop-i.invariant ∙ misplaced_at s i c.len.result c.index.result.now (omega (arith, c.len.ensures, whole.items.ok.0))
    (omega (arith, c.len.ensures, c.len-i-end.ensures)) c.index.ensures
    ∙ ap (λ b. b || from s (i + 1)) (sym c.term_is_misplaced.ensures ∙ c.if-term_is_misplaced.false)

pub returns : goal.returns
returns c =
    let s = c.args.terms.now in
    let whole = out-ParserTerms s in
    sym (c.loop-i.invariant ∙ misplaced_end s c.loop-i.i (omega (arith, whole.items.ok.0)))
