use Rattle.std.proofs.Common.{◌≡◌, Bool, cond, Option, Some, sym, ap, ◌∙◌}
use Rattle.std.specs.Option.{option_or}
use Rattle.grammar_reader_machine.specs.View.{state_of}
use Rattle.grammar_reader_notation.specs.declared.fault.What.{What}
use Rattle.grammar_reader_notation.specs.declared.fault.ReadFault.TheVariants as f
use Rattle.grammar_reader.specs.Rows.{fault_of, later_row, row}
use Rattle.grammar_reader.proofs.naming.fault_at.Goals as goal

pub returns-then-is_deep : goal.returns-then-is_deep
returns-then-is_deep c =
    let named = fault_of (row (state_of c.args.state.now) c.args.word.now) c.args.offset in
    sym (ap (λ (b : Bool). cond b (f.NestedTooDeep c.args.offset) named) (sym c.is_deep.ensures ∙ c.if-is_deep.true))

pub returns-in-Some : goal.returns-in-Some
returns-in-Some c =
    let s = state_of c.args.state.now in
    let word = c.args.word.now in
    let is : row s word ≡ Some c.in-Some.what =
    ap (λ (o : Option What). option_or o (later_row s word)) (sym c.own_row.ensures)
    ∙ ap (λ (o : Option What). option_or c.own_row.result o) (sym c.later_row.ensures) ∙ sym c.or.ensures ∙ c.in-Some.is in
    sym (ap (λ (b : Bool). cond b (f.NestedTooDeep c.args.offset) (fault_of (row s word) c.args.offset)) (sym c.is_deep.ensures ∙ c.if-is_deep.false)
    ∙ ap (λ (o : Option What). fault_of o c.args.offset) is)
