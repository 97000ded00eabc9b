use Rattle.std.proofs.Common.{◌||◌, ◌&&◌, not, sym, ap, ◌∙◌}
use Rattle.grammar_tree.specs.Faults.{any_has_eof}
use Rattle.grammar_tree.specs.GrammarView.{rule_of}
use Rattle.grammar_tree.specs.View.{parser_alts}
use Rattle.grammar_tree.specs.Written.{written_alts}
use Rattle.grammar_check_faults.specs.inner.Eof.{is_misplaced_rule}
use Rattle.grammar_check_faults.proofs.EofForms.{may, may_not}
use Rattle.grammar_check_faults.proofs.eof.rule_is_misplaced.Goals as goal

pub returns-then-some_is_misplaced : goal.returns-then-some_is_misplaced
returns-then-some_is_misplaced c =
    let start = c.args.is_start in
    let used = c.args.is_used in
    let has = any_has_eof (written_alts (parser_alts c.in-Parser.alts)) in
    let whole = ap (λ r. is_misplaced_rule (rule_of r) start used) c.in-Parser.is in
    c.if-some_is_misplaced.true ∙ sym (whole ∙ ap (λ b. b || ((not start && has) && used)) (sym c.some_is_misplaced.ensures ∙ c.if-some_is_misplaced.true))

pub returns-then-not-may_have_eof : goal.returns-then-not-may_have_eof
returns-then-not-may_have_eof c =
    let start = c.args.is_start in
    let used = c.args.is_used in
    let has = any_has_eof (written_alts (parser_alts c.in-Parser.alts)) in
    let whole = ap (λ r. is_misplaced_rule (rule_of r) start used) c.in-Parser.is in
    let inside = ap (λ b. b || ((not start && has) && used)) (sym c.some_is_misplaced.ensures ∙ c.if-some_is_misplaced.false) in
    c.alts_have_eof.ensures ∙ sym (whole ∙ inside ∙ may_not start has used (ap not (sym c.may_have_eof.ensures ∙ c.if-not-may_have_eof.true)))

pub returns-else-not-may_have_eof : goal.returns-else-not-may_have_eof
returns-else-not-may_have_eof c =
    let start = c.args.is_start in
    let used = c.args.is_used in
    let has = any_has_eof (written_alts (parser_alts c.in-Parser.alts)) in
    let whole = ap (λ r. is_misplaced_rule (rule_of r) start used) c.in-Parser.is in
    let inside = ap (λ b. b || ((not start && has) && used)) (sym c.some_is_misplaced.ensures ∙ c.if-some_is_misplaced.false) in
    ap not c.if-not-may_have_eof.false ∙ sym (whole ∙ inside ∙ may start has used (ap not (sym c.may_have_eof.ensures ∙ c.if-not-may_have_eof.false)))
