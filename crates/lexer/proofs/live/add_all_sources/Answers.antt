use Rattle.std.proofs.Common.{ℕ, inl, inr, sym, ◌∙◌}
use Rattle.lexer.specs.inner.Live.{StepsFrom}
use Rattle.lexer.proofs.LiveStates.{none_some, source_added, step_added}
use Rattle.lexer.proofs.live.add_all_sources.Goals as goal

pub add_edge-requires : goal.add_edge-requires
add_edge-requires c = c.requires.inside c.in-Some.next (inl ((c.next_of.ensures c.in-Some.next).0 c.in-Some.is))

pub add_source-requires : goal.add_source-requires
add_source-requires c = record { inside = λ next goes. c.requires.inside next (inr goes) }

pub returns-in_ok-add_edge-in-Some-clause-edges : goal.returns-in_ok-add_edge-in-Some-clause-edges
returns-in_ok-add_edge-in-Some-clause-edges c i j =
    step_added c.args.state.now c.in-Some.next ((c.next_of.ensures c.in-Some.next).0 c.in-Some.is) i j c.args.number
    (c.in_ok-add_edge-in-Some.ensures.edges i j)

pub returns-in_ok-add_source-in-None-clause-edges : goal.returns-in_ok-add_source-in-None-clause-edges
returns-in_ok-add_source-in-None-clause-edges c i j =
    let never : (next : ℕ) → ¬ StepsFrom c.args.state.now next = λ next steps. none_some next (sym c.in-None.is ∙ (c.next_of.ensures next).1 steps) in
    source_added c.args.state.now never i j c.args.number (c.in_ok-add_source-in-None.ensures.edges i j)
