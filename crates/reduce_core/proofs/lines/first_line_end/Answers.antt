use Rattle.std.proofs.Common.{◌∷◌, List, ℕ, length, take, ap, sym, ◌∙◌, arith, []}
use Rattle.std.proofs.lemmas.Bool.{eqb-true}
use Rattle.std.proofs.lemmas.List.{take_all, drop_all}
use Rattle.reduce_core.specs.Lines.{lines_of}
use Rattle.reduce_core.proofs.LinesLemmas.{first-line-some, first-line-none}
use Rattle.reduce_core.proofs.lines.first_line_end.Goals as goal

pub returns-in-Some-clause-line : goal.returns-in-Some-clause-line
returns-in-Some-clause-line c =
    first-line-some c.args.text.now c.in-Some.at c.in-Some.ensures.0.before c.in-Some.ensures.0.high (eqb-true _ 10 c.in-Some.ensures.1)

pub returns-in-None-clause-line : goal.returns-in-None-clause-line
returns-in-None-clause-line c =
    let text : List ℕ = c.args.text.now in
    first-line-none text c.in-None.ensures c.requires
    ∙ ap (λ t. t ∷ []) (sym (take_all (length text) text (omega arith)))
    ∙ ap (λ t. take (length text) text ∷ lines_of t) (sym (drop_all (length text) text (omega arith)))
