use Rattle.std.proofs.Common.{ℕ, List, ◌∙◌, subst}
use Rattle.reduce_trees_input.specs.Parsed.{IsParsed, MakesInputOf}
use Rattle.case_maker.specs.Cases.{case_text}
use Rattle.case_reduction.proofs.CaseTrees.{found_in, is_case, short}
use Rattle.case_reduction.proofs.reduce.case_problem.Goals as goal

pub returns-in-Ok-clause-ready : goal.returns-in-Ok-clause-ready
returns-in-Ok-clause-ready c =
    let grammar = c.in_ok-grammar.grammar in
    let text : List ℕ = case_text c.args.number c.args.size in
    let same = c.deref.ensures.value ∙ c.in_ok-text.ensures in
    found_in grammar text c.in-Ok.found c.in_ok-grammar.ensures.checked (subst (λ (t : List ℕ). IsParsed grammar t c.in-Ok.found) same c.in-Ok.ensures.parsed)
    (subst (λ (t : List ℕ). MakesInputOf grammar t c.in-Ok.found) same c.in-Ok.ensures.input)
    (short text c.args.size c.requires.most (c.cases_are_short.ensures c.args.number c.args.size c.requires.most))

pub returns-in-Ok-clause-case : goal.returns-in-Ok-clause-case
returns-in-Ok-clause-case c =
    let grammar = c.in_ok-grammar.grammar in
    let same = c.deref.ensures.value ∙ c.in_ok-text.ensures in
    is_case c.args.mode c.args.number c.args.size grammar c.in-Ok.found c.in_ok-grammar.ensures
    (subst (λ (t : List ℕ). IsParsed grammar t c.in-Ok.found) same c.in-Ok.ensures.parsed)
    (subst (λ (t : List ℕ). MakesInputOf grammar t c.in-Ok.found) same c.in-Ok.ensures.input)
