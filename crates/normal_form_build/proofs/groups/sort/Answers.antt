use Rattle.std.proofs.Common.{◌≡◌, ◌++◌, List, OnOk, is_some, true, sym, ap, ◌∙◌, subst}
use Rattle.grammar_tree.specs.Corners.{rest_of}
use Rattle.grammar_tree.specs.Derives.{resolved_seq}
use Rattle.grammar_tree.specs.View.{parser_terms}
use Rattle.grammar_tree.specs.Written.{written_seq}
use Rattle.normal_form.specs.declared.normal.Sym.{Sym}
use Rattle.normal_form.specs.View.{alts_form}
use Rattle.normal_form_build.proofs.RuleSteps.{is_rest}
use Rattle.normal_form_build.proofs.groups.sort.Goals as goal

pub returns-then-is_recursive-clause-rests : goal.returns-then-is_recursive-clause-rests
returns-then-is_recursive-clause-rests c =
    let alt = written_seq (parser_terms c.args.alt.now) in
    let o = rest_of c.args.rule (resolved_seq c.args.numbers.now alt) in
    let old = alts_form c.args.sorted.now.rests.items in
    let some : is_some o ≡ true =
    ap (λ G. is_some (rest_of c.args.rule (resolved_seq G alt))) (sym c.names.ensures) ∙ sym c.is_recursive.ensures ∙ c.if-is_recursive.true in
    let P : List (List Sym) → Type 0 = λ l. OnOk c.push_rest.result (alts_form c.push_rest.new.rests.items ≡ old ++ l) in
    subst P (sym (is_rest o c.args.symbols.items some)) c.push_rest.ensures
