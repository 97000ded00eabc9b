use Rattle.std.proofs.Common.{◌≡◌, ℕ, List, inl, inr, [], sym, ap, subst, arith}
use Rattle.std.proofs.lemmas.Option.{get_or_from_slice_get}
use Rattle.normal_form.specs.declared.normal.Sym.{Sym}
use Rattle.normal_form.specs.Form.{NormalForm}
use Rattle.chart_parser_ends.specs.inner.Working.{HasAlternatives, symbol_at}
use Rattle.chart_parser_ends.proofs.Choosing.{Done, alternatives_done, next_alternative, next_symbol}
use Rattle.chart_parser_ends.proofs.choice.Choice.advance.Goals as goal
use Rattle.chart_parser_ends.proofs.choice.Choice.advance.Goals.{then-self-symbols-via-then-self-symbols}
use Rattle.chart_parser_ends.proofs.choice.Choice.advance.Goals.{then-self-symbols-via-else-self-symbols+then-reached-eq0}

has_in : (N M : NormalForm) (r : ℕ) (alts : List (List Sym)) → M ≡ N → HasAlternatives N r alts → HasAlternatives M r alts
has_in N M r alts e h = subst (λ n. HasAlternatives n r alts) (sym e) h

pub returns-in_default-clause-progress : goal.returns-in_default-clause-progress
returns-in_default-clause-progress c =
    let w = c.requires in
    alternatives_done c.args.table.now.input.normal c.args.table.now.input.kinds c.args.self.now.rule c.args.self.now.first c.args.self.now.alternative w.alts
    c.args.self.now.ends.items
    w.has (sym (c.in_default.ensures.found w.alts (has_in c.args.table.now.input.normal c.normal.result.now c.args.self.now.rule w.alts
    c.normal.ensures w.has))) w.ends

pub returns-then-self-symbols-clause-progress : goal.returns-then-self-symbols-clause-progress
returns-then-self-symbols-clause-progress c =
    let w = c.requires in
    let done : Done c.args.table.now.input.normal c.args.table.now.input.kinds c.args.self.now c.in-Some.symbols.now =
    elim c.then-self-symbols.branch [
      | then-self-symbols-via-then-self-symbols w ↦ inl w.if-self-symbols.true
      | then-self-symbols-via-else-self-symbols+then-reached-eq0 w ↦ inr (omega (arith, w.if-reached-eq0.true))
    ] in
    next_alternative c.args.table.now.input.normal c.args.table.now.input.kinds c.args.self.now c.next_alternative.new.self w c.in-Some.symbols.now
    (sym (c.in-Some.ensures.found w.alts (has_in c.args.table.now.input.normal c.normal.result.now c.args.self.now.rule w.alts c.normal.ensures w.has))) done
    c.in_ok-next_alternative.ensures

pub returns-then-self-reached-clause-progress : goal.returns-then-self-reached-clause-progress
returns-then-self-reached-clause-progress c =
    let w = c.requires in
    next_symbol c.args.table.now.input.normal c.args.table.now.input.kinds c.args.self.now c.next_symbol.new.self w c.in-Some.symbols.now
    (sym (c.in-Some.ensures.found w.alts (has_in c.args.table.now.input.normal c.normal.result.now c.args.self.now.rule w.alts c.normal.ensures w.has)))
    c.if-self-symbols.false (omega (arith, c.if-self-reached.true)) c.next_symbol.ensures

pub next_position-requires-clause-next : goal.next_position-requires-clause-next
next_position-requires-clause-next c alts has =
    ap (λ alt. symbol_at alt c.args.self.now.symbol)
    (get_or_from_slice_get alts c.args.self.now.alternative c.in-Some.symbols.now []
    (sym (c.in-Some.ensures.found alts (has_in c.args.table.now.input.normal c.normal.result.now c.args.self.now.rule alts c.normal.ensures has))))
