use Rattle.std.proofs.Common.{[], slice_index_or, refl, arith, false}
use Rattle.std.proofs.lemmas.List.Elements.{Contains-get_or}
use Rattle.std.specs.Str.{chars}
use Rattle.lexer_match.specs.declared.alternative.Alternative.{Alternative}
use Rattle.lexer.specs.declared.pieces.Match.{Match}
use Rattle.lexer.proofs.Next.{each_more, some_more, each_all}
use Rattle.lexer_match.specs.Reading.{IsRead}
use Rattle.lexer.proofs.Farther.{IsMatchedBelow, farther_of, seen_every, seen_more, seen_none}
use Rattle.lexer.proofs.pieces.best_match.Goals as goal

abbrev none : Alternative
none = record { kind = 0; short = false; start = 0 }

pub extent-requires-clause-start : goal.extent-requires-clause-start
extent-requires-clause-start c = c.requires.inside _ (Contains-get_or c.args.alternatives.now c.loop-alternative.alternative-index none (omega arith))

pub extent-requires-clause-dead : goal.extent-requires-clause-dead
extent-requires-clause-dead c = c.loop-alternative.invariant.dead c.args.text.now ([], refl) c.requires.dead

pub loop-alternative-init : goal.loop-alternative-init
loop-alternative-init c = record {
  ready = c.requires.ready;
  dead = λ whole ends before. before;
  each = λ k a h. absurd (omega (arith, h));
  some = λ h. absurd (omega (arith, h));
  seen = seen_none c.args.nfa.now c.args.alternatives.now c.args.text.now _ c.utf8.text refl;
}

pub loop-alternative-preserved : goal.loop-alternative-preserved
loop-alternative-preserved c =
    let P = c.args.nfa.now in
    let text = chars c.args.text.now in
    let list = c.args.alternatives.now in
    let i = c.loop-alternative.alternative-index in
    let x = slice_index_or list i none in
    let best = c.loop-alternative.best in
    let new = c.better-best.result in
    let other : Match = record { kind = x.kind; len = c.in_ok-extent.extent.longest } in
    let is = c.better-best.ensures in
    record {
      ready = c.in_ok-extent.ensures.ready;
      dead = λ whole ends before. c.in_ok-extent.ensures.dead whole ends (c.loop-alternative.invariant.dead whole ends before);
      each =
          each_more P text list i best new other none
          (omega arith) c.in_ok-extent.ensures.extent.longest refl is.no_shorter is.least is.no_shorter_other is.least_other c.loop-alternative.invariant.each;
      some =
          some_more P text list best new other x (Contains-get_or list i none (omega arith)) c.in_ok-extent.ensures.extent.longest refl is.one
          c.loop-alternative.invariant.some;
      seen =
          seen_more P list text i none c.farther-seen.result (omega arith)
          (farther_of (IsMatchedBelow P list i) (IsRead P x) text c.loop-alternative.seen c.in_ok-extent.extent.seen c.farther-seen.result
          c.farther-seen.ensures c.loop-alternative.invariant.seen c.in_ok-extent.ensures.extent.seen);
    }

pub returns-clause-best : goal.returns-clause-best
returns-clause-best c =
    each_all c.args.nfa.now (chars c.args.text.now) c.args.alternatives.now c.loop-alternative.alternative-index c.loop-alternative.best.kind
    c.loop-alternative.best.len (omega arith) c.loop-alternative.invariant.each c.loop-alternative.invariant.some

pub returns-clause-seen : goal.returns-clause-seen
returns-clause-seen c =
    seen_every c.args.nfa.now c.args.alternatives.now (chars c.args.text.now) c.loop-alternative.alternative-index c.loop-alternative.seen
    (omega arith) c.loop-alternative.invariant.seen
