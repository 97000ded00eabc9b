use Rattle.std.proofs.Common.{ℕ, List, [], ◌∷◌, Some, None, cond, ap, sym, ◌∙◌}
use Rattle.std.proofs.lemmas.Bool.{le-leb}
use Rattle.grammar_reader_notation.specs.Sets.{within}
use Rattle.grammar_reader_lexer_rules.proofs.terms.range_set.Goals as goal

pub returns : goal.returns
returns c =
    let set : List (ℕ × ℕ) = within ((c.args.first, c.args.last) ∷ []) in
    ap Some c.in_ok-set.ensures ∙ ap (λ ordered. cond ordered (Some set) None) (sym (le-leb c.args.first c.args.last c.if-first-last.false))
