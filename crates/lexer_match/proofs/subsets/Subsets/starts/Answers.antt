use Rattle.std.proofs.Common.{false, Option, None, slice_index_or, length, ap, refl, ◌∙◌, arith}
use Rattle.std.proofs.lemmas.List.{length-replicate}
use Rattle.lexer_match.specs.declared.table.Reached.{Reached}
use Rattle.std.proofs.Math.ListN.{length-set}
use Rattle.std.proofs.lemmas.List.Elements.{Contains-get_or}
use Rattle.lexer_match.specs.declared.alternative.Alternative.{Alternative}
use Rattle.lexer_match.proofs.Found.{starts_kept, starts_more, starts_none}
use Rattle.lexer_match.proofs.subsets.Subsets.starts.Goals as goal

abbrev none : Alternative
none = record { kind = 0; short = false; start = 0 }

pub loop-alternative-init : goal.loop-alternative-init
loop-alternative-init c = record {
  ready = c.requires.ready;
  size = ap length c.in_ok-starts.ensures ∙ length-replicate {A = Option Reached} (length c.args.nfa.now) None;
  starts = starts_none c.args.nfa.now c.args.self.now.found.sets.items c.in_ok-starts.starts.items (length c.args.nfa.now) c.in_ok-starts.ensures;
}

pub start-requires-clause-state : goal.start-requires-clause-state
start-requires-clause-state c = c.requires.nfa.inside _ (Contains-get_or c.args.alternatives.now c.loop-alternative.alternative-index none (omega arith))

pub loop-alternative-preserved : goal.loop-alternative-preserved
loop-alternative-preserved c =
    let P = c.args.nfa.now in
    let x = slice_index_or c.args.alternatives.now c.loop-alternative.alternative-index none in
    let starts = c.loop-alternative.starts.items in
    let old = c.loop-alternative.self.found.sets.items in
    let new = c.start.new.self.found.sets.items in
    let made = c.in_ok-start.ensures in
    let inside = c.requires.nfa.inside x (Contains-get_or c.args.alternatives.now c.loop-alternative.alternative-index none (omega arith)) in
    record {
      ready = made.ready;
      size = length-set starts x.start c.in_ok-start.start ∙ c.loop-alternative.invariant.size;
      starts =
          starts_more P new starts _ x.start c.in_ok-start.start refl (omega (arith, inside, c.loop-alternative.invariant.size)) made.start
          (starts_kept P old new starts made.grown c.loop-alternative.invariant.starts);
    }

pub index_mut-requires : goal.index_mut-requires
index_mut-requires c =
    let inside = c.requires.nfa.inside _ (Contains-get_or c.args.alternatives.now c.loop-alternative.alternative-index none (omega arith)) in
    omega (arith, inside, c.loop-alternative.invariant.size)
