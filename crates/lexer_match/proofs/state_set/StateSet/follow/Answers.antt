use Rattle.std.proofs.Common.{◌<◌, ◌∙◌, inr, sym, length, arith}
use Rattle.lexer_match.proofs.StateSets.{grown_both, grown_keeps, index_default}
use Rattle.lexer_match.proofs.Steps.{sound_more, done_more, done_all, marked_inside}
use Rattle.lexer_match.proofs.state_set.StateSet.follow.Goals as goal

pub add_splits-requires-clause-inside : goal.add_splits-requires-clause-inside
add_splits-requires-clause-inside c =
    let states = c.loop-index.self.states.items in
    let index = c.loop-index.index in
    let h : index < length states = omega (arith, c.len.ensures, c.loop-index.self.states.ok.0) in
    let state = c.index-state.result.now in
    marked_inside states c.loop-index.self.marks.items (length c.args.nfa.now) state c.loop-index.invariant.grown.exact
    (c.loop-index.invariant.grown.size ∙ c.requires.size) (index, h, sym c.index-state.ensures)

pub loop-index-preserved : goal.loop-index-preserved
loop-index-preserved c =
    let P = c.args.nfa.now in
    let states = c.loop-index.self.states.items in
    let new = c.add_splits.new.self.states.items in
    let index = c.loop-index.index in
    let h : index < length states = omega (arith, c.len.ensures, c.loop-index.self.states.ok.0) in
    let state = c.index-state.result.now in
    let added = c.in_ok-add_splits.ensures in
    record {
      grown =
          grown_both c.args.self.now.states.items states new c.args.self.now.marks.items c.loop-index.self.marks.items c.add_splits.new.self.marks.items
          c.loop-index.invariant.grown added.grown;
      sound =
          λ w. sound_more P c.args.self.now.states.items states new state w (index, h, sym c.index-state.ensures) (λ n. (added.members n).0)
          (c.loop-index.invariant.sound w);
      done =
          done_more P states new c.loop-index.self.marks.items c.add_splits.new.self.marks.items index state added.grown h
          (c.index-state.ensures ∙ index_default states index state 0 h) (λ n g. (added.members n).1 (inr g)) c.loop-index.invariant.done;
      within = omega (arith, h, added.grown.longer);
    }

pub returns-clause-followed : goal.returns-clause-followed
returns-clause-followed c n next =
    done_all c.args.nfa.now c.loop-index.self.states.items c.loop-index.index n next
    (omega (arith, c.len.ensures, c.loop-index.self.states.ok.0)) c.loop-index.invariant.done

pub returns-clause-same : goal.returns-clause-same
returns-clause-same c w = (
  c.loop-index.invariant.sound w,
  λ (n, among, r). (
    n,
    grown_keeps c.args.self.now.states.items c.loop-index.self.states.items c.args.self.now.marks.items c.loop-index.self.marks.items
        c.loop-index.invariant.grown n among,
    r,
  ),
)
