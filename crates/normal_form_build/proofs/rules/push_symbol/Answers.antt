use Rattle.std.proofs.Common.{◌∷◌, [], ◌++◌, sym, ap, ◌∙◌}
use Rattle.std.proofs.lemmas.List.{append-nil}
use Rattle.grammar_tree.specs.Derives.{bodies, resolved}
use Rattle.grammar_tree.specs.View.{parser_term}
use Rattle.normal_form.specs.Numbering.{symbol}
use Rattle.normal_form.specs.NormalOf.{numbering}
use Rattle.normal_form_build.proofs.RuleSteps.{no_symbol, one_symbol}
use Rattle.normal_form_build.proofs.rules.push_symbol.Goals as goal

pub returns-then-not-has_symbol : goal.returns-then-not-has_symbol
returns-then-not-has_symbol c =
    let G = c.args.numbers.now in
    let t = parser_term c.args.term.now in
    let s = symbol (numbering (bodies G)) c.args.next (resolved G t) in
    let old = c.args.symbols.now.items in
    sym (ap (λ l. old ++ l) (no_symbol G t s (sym c.has_symbol.ensures ∙ c.if-not-has_symbol.true)) ∙ append-nil old)

pub returns : goal.returns
returns c =
    let G = c.args.numbers.now in
    let t = parser_term c.args.term.now in
    let s = symbol (numbering (bodies G)) c.args.next (resolved G t) in
    let old = c.args.symbols.now.items in
    c.in_ok-push.ensures.items ∙ ap (λ x. old ++ x ∷ []) c.in_ok-symbol.ensures
    ∙ ap (λ l. old ++ l) (sym (one_symbol G t s (sym c.has_symbol.ensures ∙ c.if-not-has_symbol.false)))
