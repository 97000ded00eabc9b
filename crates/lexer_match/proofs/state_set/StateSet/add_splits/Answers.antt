use Rattle.std.proofs.Common.{length, refl, arith}
use Rattle.std.proofs.lemmas.Option.{slice_get_read}
use Rattle.lexer_match.proofs.StateSets.{grown_not}
use Rattle.lexer_match.proofs.Steps.{both_ways, or_same, or_none, halves_inside, goes_both, goes_none, two_added}
use Rattle.lexer_match.proofs.state_set.StateSet.add_splits.Goals as goal

pub add-requires-clause-inside : goal.add-requires-clause-inside
add-requires-clause-inside c =
    let P = c.args.nfa.now in
    let at = slice_get_read P (length P) c.args.state c.index-nfa-state.result refl c.requires.inside c.index-nfa-state.is in
    omega (arith, (halves_inside P c.args.state c.index-nfa-state.result c.in-Split.first c.in-Split.second c.requires.nfa at c.in-Split.is).0, c.requires.size)

pub add-requires-in-Split-clause-inside : goal.add-requires-in-Split-clause-inside
add-requires-in-Split-clause-inside c =
    let P = c.args.nfa.now in
    let at = slice_get_read P (length P) c.args.state c.index-nfa-state.result refl c.requires.inside c.index-nfa-state.is in
    omega (
      arith,
      (halves_inside P c.args.state c.index-nfa-state.result c.in-Split.first c.in-Split.second c.requires.nfa at c.in-Split.is).1,
      c.requires.size,
      c.in_ok-add-in-Split.ensures.grown.size,
    )

pub returns-in_ok-add-in-Split-2-clause-members : goal.returns-in_ok-add-in-Split-2-clause-members
returns-in_ok-add-in-Split-2-clause-members c n =
    let P = c.args.nfa.now in
    let at = slice_get_read P (length P) c.args.state c.index-nfa-state.result refl c.requires.inside c.index-nfa-state.is in
    both_ways (two_added P c.args.self.now.states.items c.add.new.self.states.items c.add-in-Split.new.self.states.items c.in-Split.first c.in-Split.second n
    (c.in_ok-add-in-Split.ensures.members n) (c.in_ok-add-in-Split-2.ensures.members n))
    (or_same (goes_both P c.args.state c.index-nfa-state.result c.in-Split.first c.in-Split.second n at c.in-Split.is))

pub returns-in_default : goal.returns-in_default
returns-in_default c =
    let P = c.args.nfa.now in
    let at = slice_get_read P (length P) c.args.state c.index-nfa-state.result refl c.requires.inside c.index-nfa-state.is in
    record {
      grown = grown_not c.args.self.now.states.items c.args.self.now.marks.items c.requires.marked;
      members = λ n. or_none P (goes_none P c.args.state c.index-nfa-state.result n at c.in_default.not-Split);
    }
