use Rattle.std.proofs.Common.{◌≡◌, ◌∙◌, ◌||◌, Bool, sym, ap}
use Rattle.std.proofs.lemmas.Bool.{or_left}
use Rattle.grammar_reader_machine.specs.View.{state_of}
use Rattle.grammar_reader_notation.specs.declared.fault.What.TheVariants as x
use Rattle.grammar_reader.specs.Positions.{at_rule, at_colon}
use Rattle.grammar_reader.specs.Rows.{own_row, row_if}
use Rattle.grammar_reader.proofs.naming.own_row.Goals as goal
use Rattle.grammar_reader.proofs.naming.own_row.Goals.{then-at_rule, else-at_rule}

pub returns-after-at_rule : goal.returns-after-at_rule
returns-after-at_rule c =
    let s = state_of c.args.state.now in
    let fits : c.if-at_rule.row_if ≡ (at_rule s || at_colon s) = elim c.if-at_rule.branch [
      | then-at_rule w ↦ w.row_if-is ∙ w.if-at_rule.true ∙ sym (or_left (at_rule s) (at_colon s) (sym c.at_rule.ensures ∙ w.if-at_rule.true))
      | else-at_rule w ↦ w.row_if-is ∙ w.at_colon.ensures ∙ sym (ap (λ (b : Bool). b || at_colon s) (sym c.at_rule.ensures ∙ w.if-at_rule.false))
    ] in
    c.row_if-in-At.ensures ∙ ap (λ (b : Bool). row_if b x.Action) fits ∙ ap (own_row s) (sym c.in-At.is)
