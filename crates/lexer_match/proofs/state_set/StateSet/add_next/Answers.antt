use Rattle.std.proofs.Common.{length, sym, ◌∙◌, refl, arith}
use Rattle.std.proofs.lemmas.Option.{slice_get_read}
use Rattle.lexer_match.proofs.Steps.{both_ways, or_same, or_none, next_inside, reads_one, reads_none}
use Rattle.lexer_match.proofs.state_set.StateSet.add_next.Goals as goal

pub add-requires-clause-inside : goal.add-requires-clause-inside
add-requires-clause-inside c =
    let P = c.args.nfa.now in
    let at = slice_get_read P (length P) c.args.state c.index-nfa-state.result refl c.requires.inside c.index-nfa-state.is in
    omega (
      arith,
      next_inside P c.args.state c.index-nfa-state.result c.args.c c.in-Some.next c.requires.nfa at (sym c.after.ensures ∙ c.in-Some.is),
      c.requires.size,
    )

pub returns-in_ok-add-in-Some-clause-members : goal.returns-in_ok-add-in-Some-clause-members
returns-in_ok-add-in-Some-clause-members c n =
    let P = c.args.nfa.now in
    let at = slice_get_read P (length P) c.args.state c.index-nfa-state.result refl c.requires.inside c.index-nfa-state.is in
    both_ways (c.in_ok-add-in-Some.ensures.members n)
    (or_same (reads_one P c.args.state c.index-nfa-state.result c.args.c c.in-Some.next n at (sym c.after.ensures ∙ c.in-Some.is)))

pub returns-in-None-clause-members : goal.returns-in-None-clause-members
returns-in-None-clause-members c n =
    let P = c.args.nfa.now in
    let at = slice_get_read P (length P) c.args.state c.index-nfa-state.result refl c.requires.inside c.index-nfa-state.is in
    or_none P (reads_none P c.args.state c.index-nfa-state.result c.args.c n at (sym c.after.ensures ∙ c.in-None.is))
